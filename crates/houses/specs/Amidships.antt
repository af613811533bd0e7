-- 31(2), with 02 §4: the house amidships. In tenths of a mm 0.2 L and 0.8 L are whole.
use Rattle.std.specs.Prelude.{ℕ, ◌+◌, ◌*◌, Bool, ◌&&◌, List, leb}
use Rattle.units.specs.Datum.{station_of}
use Rattle.ship.specs.declared.House.{House}
use Rattle.houses.specs.Forecastle.{house_that}

-- one enclosed house that covers the whole of 0.2 L to 0.8 L
unfoldable pub covers_amidships : ℕ → House → Bool
covers_amidships l h = h.enclosed && leb (10 * h.aft.0) (10 * station_of 0 + 2 * l) && leb (10 * station_of 0 + 8 * l) (10 * h.fore.0)

-- an accepted list has at most one; none: an empty house, of height 0
unfoldable pub amidships_of : ℕ → List House → House
amidships_of l hs = house_that (covers_amidships l) hs
