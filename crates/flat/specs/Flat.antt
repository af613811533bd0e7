-- A ship in 01's own signed millimetres and numbers, as the calls for C have it, and the ship of the steps, whose stations and sheer are lifted above zero.
use Rattle.std.specs.Prelude.{ℕ, ◌+◌, ◌-◌, ◌<◌, not, List, ◌++◌, map, eqb, ℤ, pos, take, replicate}
use Rattle.units.specs.declared.Ordinate.{Ordinate}
use Rattle.units.specs.Datum.{datum, lift, mm_of, station_at, sheer_of, ordinate_at, sheer_at}
use Rattle.record.specs.Layout.{bit}
use Rattle.ship.specs.declared.House.{House}
use Rattle.ship.specs.declared.Ship.{Ship}
use Rattle.ship.specs.Vessel.{house_at}
use Rattle.flat.specs.declared.FlatHouse.{FlatHouse}
use Rattle.flat.specs.declared.FlatShip.{FlatShip}

-- ---- to 01's terms: an ordinate of sheer, a house, a ship
abbrev pub sheer_mm : Ordinate → ℤ
sheer_mm o = sheer_of o.0

unfoldable pub house_of : House → FlatHouse
house_of h = record {
  enclosed = bit h.enclosed;
  quarterdeck = bit h.quarterdeck;
  aft = mm_of h.aft.0;
  fore = mm_of h.fore.0;
  height = h.height.0;
  breadth = h.breadth.0;
  beam = h.beam.0;
}

unfoldable pub ship_of : Ship → FlatShip
ship_of x = record {
  kind = x.kind;
  n = x.n;
  timber = bit x.timber;
  length = x.length.0;
  depth = x.depth.0;
  moulded = x.moulded.0;
  block = x.block;
  waterplane = x.waterplane;
  sheer = map sheer_mm x.sheer;
  displacement = x.displacement;
  immersion = x.immersion;
  houses = map house_of x.houses;
}

-- ---- from 01's terms
abbrev pub ordinate_from : ℤ → Ordinate
ordinate_from mm = record { 0 = ordinate_at mm }

unfoldable pub house_from : FlatHouse → House
house_from h = record {
  enclosed = not (eqb h.enclosed 0);
  quarterdeck = not (eqb h.quarterdeck 0);
  aft = record { 0 = station_at h.aft };
  fore = record { 0 = station_at h.fore };
  height = record { 0 = h.height };
  breadth = record { 0 = h.breadth };
  beam = record { 0 = h.beam };
}

unfoldable pub ship_from : FlatShip → Ship
ship_from x = record {
  kind = x.kind;
  n = x.n;
  timber = not (eqb x.timber 0);
  length = record { 0 = x.length };
  depth = record { 0 = x.depth };
  moulded = record { 0 = x.moulded };
  block = x.block;
  waterplane = x.waterplane;
  sheer = map ordinate_from x.sheer;
  displacement = x.displacement;
  immersion = x.immersion;
  houses = map house_from x.houses;
}

-- ---- stations and ordinates that a signed number holds with ease
pub record Near (h : House) : Type 0 where
  pub aft : h.aft.0 < datum + datum
  pub fore : h.fore.0 < datum + datum

pub record NearHouses (hs : List House) : Type 0 where
  pub each : (k : ℕ) → Near (house_at hs k)

pub record NearSheer (o : List Ordinate) : Type 0 where
  pub each : (k : ℕ) → sheer_at o k < lift + lift

-- ---- what a record keeps of a flat ship: flags as 0 or 1, places beyond n at zero
abbrev pub flag_of : ℕ → ℕ
flag_of a = bit (not (eqb a 0))

abbrev pub flat_zero_house : FlatHouse
flat_zero_house = record { enclosed = 0; quarterdeck = 0; aft = pos 0; fore = pos 0; height = 0; breadth = 0; beam = 0 }

abbrev pub flat_clean_house : FlatHouse → FlatHouse
flat_clean_house h = record {
  enclosed = flag_of h.enclosed;
  quarterdeck = flag_of h.quarterdeck;
  aft = h.aft;
  fore = h.fore;
  height = h.height;
  breadth = h.breadth;
  beam = h.beam;
}

unfoldable pub flat_clean : FlatShip → FlatShip
flat_clean x = record {
  kind = x.kind;
  n = x.n;
  timber = flag_of x.timber;
  length = x.length;
  depth = x.depth;
  moulded = x.moulded;
  block = x.block;
  waterplane = x.waterplane;
  sheer = x.sheer;
  displacement = x.displacement;
  immersion = x.immersion;
  houses = map flat_clean_house (take x.n x.houses) ++ replicate (8 - x.n) flat_zero_house;
}

-- beside a refusal every number is zero
unfoldable pub flat_zero : FlatShip
flat_zero = record {
  kind = 0;
  n = 0;
  timber = 0;
  length = 0;
  depth = 0;
  moulded = 0;
  block = 0;
  waterplane = 0;
  sheer = replicate 6 (pos 0);
  displacement = 0;
  immersion = 0;
  houses = replicate 8 flat_zero_house;
}
