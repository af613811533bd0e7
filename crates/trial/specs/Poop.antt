-- 01, the question: the ship with a poop of k dm, and whether that k fits.
use Rattle.std.specs.Prelude.{ℕ, ◌+◌, ◌*◌, Bool, true, false, ◌&&◌, List, ◌∷◌, ◌++◌, eqb, leb, take}
use Rattle.whole.specs.Pick.{pick}
use Rattle.units.specs.Datum.{station_of}
use Rattle.ship.specs.declared.House.{House}
use Rattle.ship.specs.declared.Ship.{Ship}
use Rattle.ship.specs.Vessel.{houses_of}
use Rattle.ship.specs.Refusals.{Line, first}
use Rattle.ship.specs.Checks.{house_lines}
use Rattle.steps.specs.Steps.{summer_of, particulars_of}
use Rattle.mark.specs.Others.{mark_lines}

-- an enclosed house, no raised quarterdeck, of the asked height and full breadth, from 0 to 100k mm
unfoldable pub poop_house : ℕ → ℕ → House
poop_house height k = record {
  enclosed = true;
  quarterdeck = false;
  aft = record { 0 = station_of 0 };
  fore = record { 0 = station_of (100 * k) };
  height = record { 0 = height };
  breadth = record { 0 = 0 };
  beam = record { 0 = 0 };
}

-- a house set before the others
unfoldable pub with_first : House → Ship → Ship
with_first h x = record {
  kind = x.kind;
  n = x.n + 1;
  timber = x.timber;
  length = x.length;
  depth = x.depth;
  moulded = x.moulded;
  block = x.block;
  waterplane = x.waterplane;
  sheer = x.sheer;
  displacement = x.displacement;
  immersion = x.immersion;
  houses = h ∷ take 7 x.houses;
}

-- the ship with a poop of k dm; k = 0 adds none
unfoldable pub with_poop : ℕ → ℕ → Ship → Ship
with_poop height k x = pick (eqb k 0) x (with_first (poop_house height k) x)

-- marks that no line refuses, with S at most the wish
unfoldable pub within : List Line → ℕ → ℕ → Bool
within ts S wish = eqb (first ts).number 0 && leb S wish

-- the whole calculation on a ship's list of houses, 9 to 13, 18 and 23, gives marks with S at most the wish
unfoldable pub marks_within : Ship → ℕ → Bool
marks_within y wish = within (house_lines y.length.0 (houses_of y) ++ mark_lines (particulars_of y) (summer_of y)) (summer_of y) wish

-- k fits: any of 9 to 13, 18 or 23 on the new list only makes it unfit
unfoldable pub fits_at : Ship → ℕ → ℕ → ℕ → Bool
fits_at x height wish k = marks_within (with_poop height k x) wish
