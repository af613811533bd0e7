-- 38: how much of the 0.2 L amidships an enclosed house covers. In tenths of a mm L/2, 0.1 L and 0.2 L are whole.
use Rattle.std.specs.Prelude.{ℕ, ◌+◌, ◌*◌, ◌-◌, min, Bool, ◌&&◌, List, leb}
use Rattle.whole.specs.Pick.{pick}
use Rattle.units.specs.Datum.{station_of}
use Rattle.ship.specs.declared.House.{House}
use Rattle.houses.specs.Length.{total}

-- the station of L/2
abbrev pub amidships : ℕ → ℕ
amidships l = 10 * station_of 0 + 5 * l

-- the enclosed house with aft end at or below L/2 and fore end at or above it
unfoldable pub is_amidships : ℕ → House → Bool
is_amidships l h = h.enclosed && leb (10 * h.aft.0) (amidships l) && leb (amidships l) (10 * h.fore.0)

-- its reach before amidships plus its reach abaft, each limited to 0.1 L
unfoldable pub reach_of : ℕ → House → ℕ
reach_of l h = pick (is_amidships l h) (min (10 * h.fore.0 - amidships l) l + min (amidships l - 10 * h.aft.0) l) 0

-- if two touch at L/2, both reaches count; none: 0. The cover is the reach over 0.2 L (sheer)
unfoldable pub reach : ℕ → List House → ℕ
reach l hs = total (reach_of l) hs
