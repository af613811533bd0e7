-- What the checks show of an accepted ship, in plain inequalities. The steps of the calculation require this and no more.
use Rattle.std.specs.Prelude.{ℕ, ◌+◌, ◌-◌, ◌*◌, ◌≤◌, ◌<◌, true, ◌≡◌, List, length}
use Rattle.units.specs.Datum.{station_of, Lifted}
use Rattle.ship.specs.declared.House.{House}
use Rattle.ship.specs.declared.Ship.{Ship}
use Rattle.ship.specs.Kinds.{kind_b60, kind_b100, kind_covers}
use Rattle.ship.specs.Vessel.{houses_of, house_at}

-- a house that passes 9, 10 and 23
pub record GoodHouse (l : ℕ) (h : House) : Type 0 where
  pub ends : h.aft.0 < h.fore.0
  pub ahead : station_of 0 < h.fore.0
  pub abaft : h.aft.0 < station_of l
  pub aft_most : station_of 0 - 20000 ≤ h.aft.0
  pub fore_most : h.fore.0 ≤ station_of (l + 20000)
  pub height_least : 1 ≤ h.height.0
  pub height_most : h.height.0 ≤ 8191
  pub breadth_most : h.breadth.0 ≤ h.beam.0
  pub breadth_least : 23 * h.beam.0 ≤ 25 * h.breadth.0
  pub beam_most : h.beam.0 ≤ 65535
  pub quarterdeck : h.quarterdeck ≡ true → (h.enclosed ≡ true) × (h.aft.0 ≤ station_of 0) × (h.fore.0 < station_of l)

-- a list that passes 9 to 11, 18 and 23
pub record GoodHouses (l : ℕ) (hs : List House) : Type 0 where
  pub each : (k : ℕ) → k < length hs → GoodHouse l (house_at hs k)
  pub order : (k : ℕ) → k + 1 < length hs → (house_at hs k).fore.0 ≤ (house_at hs (k + 1)).aft.0

-- a ship that passes 7 to 11, 18, 22 and 23
pub record Good (x : Ship) : Type 0 where
  pub length_least : 24000 ≤ x.length.0
  pub length_most : x.length.0 ≤ 365000
  pub depth_least : 1000 ≤ x.depth.0
  pub depth_most : x.depth.0 ≤ 60000
  pub moulded_least : 1000 ≤ x.moulded.0
  pub moulded_most : x.moulded.0 ≤ 60000
  pub block_least : 1 ≤ x.block
  pub block_most : x.block ≤ 12000
  pub waterplane_least : 1 ≤ x.waterplane
  pub waterplane_most : x.waterplane ≤ 10000
  pub sheer : Lifted x.sheer
  pub displacement : x.displacement < 1048576
  pub immersion : x.immersion < 65536
  pub reduced_long : (x.kind ≡ kind_b60 → 100000 < x.length.0) × (x.kind ≡ kind_b100 → 100000 < x.length.0)
  pub covers_short : x.kind ≡ kind_covers → x.length.0 ≤ 200000
  pub certified : (0 < x.displacement → 0 < x.immersion) × (0 < x.immersion → 0 < x.displacement)
  pub houses : GoodHouses x.length.0 (houses_of x)
