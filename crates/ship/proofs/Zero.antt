-- The ship beside a refusal is all zero, as a caller reads it: a station and an ordinate of sheer in signed millimetres.
use Prim.Native.Nat.{ℕ, ◌<◌}
use mathlib.Core.Bool.{false}
use mathlib.Core.Path.{◌≡◌, refl}
use lib.IntN.{pos}
use lib.ListN.{replicate, get_or-replicate}
use Rattle.units.specs.declared.Ordinate.{Ordinate}
use Rattle.units.specs.Datum.{mm_of, sheer_of, sheer_at}
use Rattle.ship.specs.declared.House.{House}
use Rattle.ship.specs.declared.Ship.{Ship}
use Rattle.ship.specs.Vessel.{house_at, no_house, no_ship}

pub record ZeroHouse (h : House) : Type 0 where
  pub enclosed : h.enclosed ≡ false
  pub quarterdeck : h.quarterdeck ≡ false
  pub aft : mm_of h.aft.0 ≡ pos 0
  pub fore : mm_of h.fore.0 ≡ pos 0
  pub height : h.height.0 ≡ 0
  pub breadth : h.breadth.0 ≡ 0
  pub beam : h.beam.0 ≡ 0

pub record Zero (x : Ship) : Type 0 where
  pub kind : x.kind ≡ 0
  pub count : x.n ≡ 0
  pub timber : x.timber ≡ false
  pub length : x.length.0 ≡ 0
  pub depth : x.depth.0 ≡ 0
  pub moulded : x.moulded.0 ≡ 0
  pub block : x.block ≡ 0
  pub waterplane : x.waterplane ≡ 0
  pub sheer : (k : ℕ) → k < 6 → sheer_of (sheer_at x.sheer k) ≡ pos 0
  pub displacement : x.displacement ≡ 0
  pub immersion : x.immersion ≡ 0
  pub houses : (k : ℕ) → k < 8 → ZeroHouse (house_at x.houses k)

pub zero_house : ZeroHouse no_house
zero_house = record { enclosed = refl; quarterdeck = refl; aft = refl; fore = refl; height = refl; breadth = refl; beam = refl }

-- six of one ordinate, which is of 0 mm
level : (o : Ordinate) → sheer_of o.0 ≡ pos 0 → (k : ℕ) → k < 6 → sheer_of (sheer_at (replicate 6 o) k) ≡ pos 0
level o e k h = rw (get_or-replicate 6 k o (record { 0 = 0 }) h) e

pub zero_ship : Zero no_ship
zero_ship =
    record {
      kind = refl;
      count = refl;
      timber = refl;
      length = refl;
      depth = refl;
      moulded = refl;
      block = refl;
      waterplane = refl;
      sheer = level (record { 0 = sheer_at no_ship.sheer 0 }) refl;
      displacement = refl;
      immersion = refl;
      houses = λ k h. rw (get_or-replicate 8 k _ _ h) zero_house;
    }
