-- 01, "Refusals and their order", with 02: reading uses 1 to 11, 24 after 3, 22 after 7, 23 after 9, and 18 with 11.
use Rattle.std.specs.Prelude.{ℕ, zero, suc, ◌+◌, not, ◌||◌, List, [], ◌∷◌, ◌++◌, length, eqb, ltb}
use Rattle.whole.specs.Pick.{pick}
use Rattle.ship.specs.declared.Ship.{Ship}
use Rattle.ship.specs.Kinds.{timber_for_a}
use Rattle.ship.specs.Vessel.{no_ship}
use Rattle.ship.specs.Refusals.{Paper, Line, refused, first}
use Rattle.ship.specs.Checks.{ship_lines}
use Rattle.record.specs.declared.Head.{Head}
use Rattle.record.specs.Layout.{record_length, last_version, last_type_in, most_houses, head_in, spare_in, house_at, ship_in}

-- the spare bits of the first k houses, added up: 0 where none is set
unfoldable pub spares_in : ℕ → List ℕ → ℕ → ℕ
spares_in version s zero = 0
spares_in version s (suc k) = spares_in version s k + spare_in version (house_at version s k)

-- 2 to 5, and 24: what the head of a record of so many bytes shows
abbrev pub head_lines : Head → ℕ → List Line
head_lines h bytes =
    (eqb h.version 0 || ltb last_version h.version, refused 2 0)
    ∷ (ltb (last_type_in h.version) h.kind, refused 3 0)
    ∷ (timber_for_a h.kind h.timber, refused 24 0)
    ∷ (ltb most_houses h.count, refused 4 0)
    ∷ (not (eqb bytes (record_length h.version h.count)), refused 5 0)
    ∷ []

-- 6: a spare bit set, in the head or in a house
abbrev pub spare_line : Head → List ℕ → Line
spare_line h s = (not (eqb (h.spare + spares_in h.version s h.count) 0), refused 6 0)

-- 1 to 6, and 24: what the bytes show before they are read as a ship
abbrev pub frame_lines : List ℕ → List Line
frame_lines s = (ltb (length s) 27, refused 1 0) ∷ head_lines (head_in s) (length s) ++ (spare_line (head_in s) s ∷ [])

-- a reading in 01's own terms; beside a refusal the ship is zero
pub record Reading : Type 0 where
  pub verdict : Paper
  pub ship : Ship

abbrev pub reading_of : Paper → Ship → Reading
reading_of p x = record { verdict = p; ship = pick (eqb p.number 0) x no_ship }

-- what any bytes read as
unfoldable pub reading_in : List ℕ → Reading
reading_in s = reading_of (first (frame_lines s ++ ship_lines (ship_in s))) (ship_in s)
