-- 34: the whole millimetres of L that some enclosed house covers, each counted once. S must equal their number.
use Rattle.std.specs.Prelude.{ℕ, Bool, false, ◌&&◌, ◌||◌, List, [], ◌∷◌}
use Rattle.units.specs.Datum.{station_of}
use Rattle.ship.specs.declared.House.{House}
use Rattle.ship.specs.Vessel.{stands_over}

-- the millimetre from j to j + 1 forward of AP lies in an enclosed house
unfoldable pub inside : House → ℕ → Bool
inside h j = h.enclosed && stands_over h (station_of j)

-- in some of the houses
unfoldable pub covered_at : List House → ℕ → Bool
covered_at [] j = false
covered_at (h ∷ hs) j = inside h j || covered_at hs j
