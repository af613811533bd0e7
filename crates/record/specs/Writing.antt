-- 01, "Refusals and their order", with 02: the writer uses 3, 24, 4, 7 to 11, 22 after 7, 23 after 9, 18 with 11, and 17; an accepted write changes the record's bytes only.
use Rattle.std.specs.Prelude.{ℕ, List, [], ◌∷◌, ◌++◌, drop, eqb, ltb}
use Rattle.whole.specs.Pick.{pick}
use Rattle.ship.specs.declared.Ship.{Ship}
use Rattle.ship.specs.Kinds.{timber_for_a}
use Rattle.ship.specs.Refusals.{Paper, Line, refused, first}
use Rattle.ship.specs.Checks.{ship_lines}
use Rattle.record.specs.Layout.{record_length, last_type, most_houses, lowest_for, record_bytes}

-- how many bytes a ship's record has
abbrev pub bytes_for : Ship → ℕ
bytes_for x = record_length (lowest_for x) x.n

-- 3, 24 and 4, the ship's own lines, and 17
abbrev pub write_lines_with : List Line → ℕ → Ship → List Line
write_lines_with own room x =
    (ltb last_type x.kind, refused 3 0)
    ∷ (timber_for_a x.kind x.timber, refused 24 0)
    ∷ (ltb most_houses x.n, refused 4 0)
    ∷ own
    ++ ((ltb room (bytes_for x), refused 17 0) ∷ [])

abbrev pub write_lines : ℕ → Ship → List Line
write_lines room x = write_lines_with (ship_lines x) room x

-- the verdict on writing a ship into a buffer of so many bytes
unfoldable pub writing_of : ℕ → Ship → Paper
writing_of room x = first (write_lines room x)

-- the buffer afterwards: the record, then what stood behind it; a refusal changes nothing
unfoldable pub written : Paper → Ship → List ℕ → List ℕ
written p x buf = pick (eqb p.number 0) (record_bytes x ++ drop (bytes_for x) buf) buf
