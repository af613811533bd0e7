-- 01, "Ship record": the empty house, the ship of zeros, a house's breadths, where a house stands, and when two ships are equal.
use Rattle.std.specs.Prelude.{ℕ, ◌+◌, ◌-◌, List, ◌++◌, ◌≡◌, Bool, false, ◌&&◌, eqb, leb, take, replicate, get_or}
use Rattle.units.specs.Datum.{datum, lift}
use Rattle.ship.specs.declared.House.{House}
use Rattle.ship.specs.declared.Ship.{Ship}

-- places beyond n read as zero
abbrev pub no_house : House
no_house = record {
  enclosed = false;
  quarterdeck = false;
  aft = record { 0 = datum };
  fore = record { 0 = datum };
  height = record { 0 = 0 };
  breadth = record { 0 = 0 };
  beam = record { 0 = 0 };
}

-- beside a refusal the ship is all zero
abbrev pub no_ship : Ship
no_ship = record {
  kind = 0;
  n = 0;
  timber = false;
  length = record { 0 = 0 };
  depth = record { 0 = 0 };
  moulded = record { 0 = 0 };
  block = 0;
  waterplane = 0;
  sheer = replicate 6 (record { 0 = lift });
  displacement = 0;
  immersion = 0;
  houses = replicate 8 no_house;
}

-- the houses that count
abbrev pub houses_of : Ship → List House
houses_of x = take x.n x.houses

-- the house at place k. The logic wants a house for places past the end of a list too; no definition reads so far
abbrev pub house_at : List House → ℕ → House
house_at hs k = get_or hs k (record { enclosed = false; quarterdeck = false; aft = record { 0 = 0 }; fore = record { 0 = 0 }; height = record { 0 = 0 }; breadth = record { 0 = 0 }; beam = record { 0 = 0 } })

-- 02 §6: two zeros mean full breadth
abbrev pub full_breadth : House → Bool
full_breadth h = eqb h.breadth.0 0 && eqb h.beam.0 0

-- the millimetre from one station to the next lies in a house
unfoldable pub stands_over : House → ℕ → Bool
stands_over h station = leb h.aft.0 station && leb (station + 1) h.fore.0

-- the ship with its places beyond n at zero
abbrev pub clean : Ship → Ship
clean x = record {
  kind = x.kind;
  n = x.n;
  timber = x.timber;
  length = x.length;
  depth = x.depth;
  moulded = x.moulded;
  block = x.block;
  waterplane = x.waterplane;
  sheer = x.sheer;
  displacement = x.displacement;
  immersion = x.immersion;
  houses = houses_of x ++ replicate (8 - x.n) no_house;
}

-- ships are equal if their fields and first n houses are
pub record Same (x y : Ship) : Type 0 where
  pub kind : x.kind ≡ y.kind
  pub count : x.n ≡ y.n
  pub timber : x.timber ≡ y.timber
  pub length : x.length.0 ≡ y.length.0
  pub depth : x.depth.0 ≡ y.depth.0
  pub moulded : x.moulded.0 ≡ y.moulded.0
  pub block : x.block ≡ y.block
  pub waterplane : x.waterplane ≡ y.waterplane
  pub sheer : x.sheer ≡ y.sheer
  pub displacement : x.displacement ≡ y.displacement
  pub immersion : x.immersion ≡ y.immersion
  pub houses : houses_of x ≡ houses_of y
