-- The house of a list that passes a test, and the forecastle, as 37 and 39 ask for it.
use Rattle.std.specs.Prelude.{ℕ, Bool, ◌&&◌, List, [], ◌∷◌, leb}
use Rattle.whole.specs.Pick.{pick}
use Rattle.units.specs.Datum.{station_of}
use Rattle.ship.specs.declared.House.{House}
use Rattle.ship.specs.Vessel.{no_house}

-- the first that passes, or an empty house where none does
unfoldable pub house_that : (House → Bool) → List House → House
house_that test [] = no_house
house_that test (h ∷ hs) = pick (test h) h (house_that test hs)

-- the enclosed house whose fore end is at or beyond L
unfoldable pub is_forecastle : ℕ → House → Bool
is_forecastle l h = h.enclosed && leb (station_of l) h.fore.0

unfoldable pub forecastle_of : ℕ → List House → House
forecastle_of l hs = house_that (is_forecastle l) hs
