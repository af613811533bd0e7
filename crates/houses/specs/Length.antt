-- 34: a house's length, and S, the sum of the lengths.
use Rattle.std.specs.Prelude.{ℕ, ◌+◌, ◌-◌, min, max, List, [], ◌∷◌}
use Rattle.whole.specs.Pick.{pick}
use Rattle.units.specs.Datum.{station_of}
use Rattle.ship.specs.declared.House.{House}

-- a house's length l is the part between 0 and L, in mm; only an enclosed house counts
unfoldable pub part_of : ℕ → House → ℕ
part_of l h = pick h.enclosed (min h.fore.0 (station_of l) - max h.aft.0 (station_of 0)) 0

-- an amount of each house, summed over the houses
unfoldable pub total : (House → ℕ) → List House → ℕ
total f [] = 0
total f (h ∷ hs) = f h + total f hs

-- S is the sum of unlimited l, in mm
unfoldable pub covered_length : ℕ → List House → ℕ
covered_length l hs = total (part_of l) hs
