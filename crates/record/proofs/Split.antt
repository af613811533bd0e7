-- 02 §1 in every call on bytes, the reader first of all, and in the writer: `Split` of ship/proofs/Split.antt says what has become of refusal 11.
use Prim.Native.Nat.{ℕ}
use mathlib.Core.List.{List, [], ◌∷◌, ◌++◌}
use native.Mathlib.Omega.{arith}
use lib.Dec.{ltb}
use Rattle.ship.specs.declared.Ship.{Ship}
use Rattle.ship.specs.Kinds.{timber_for_a}
use Rattle.ship.specs.Vessel.{houses_of}
use Rattle.ship.specs.Refusals.{Paper, Line, refused, first}
use Rattle.ship.specs.Checks.{field_lines, ship_lines}
use Rattle.ship.proofs.Lines.{Each}
use Rattle.ship.proofs.Split.{Split, Plain, ship_lines01, split_lines}
use Rattle.record.specs.Layout.{last_type, most_houses, ship_in}
use Rattle.record.specs.Reading.{frame_lines, reading_in}
use Rattle.record.specs.Writing.{bytes_for, write_lines_with, writing_of}

-- of a ship
abbrev pub SplitOn : Ship → Paper → Paper → Type 0
SplitOn x = Split x.length.0 (houses_of x)

-- a call on bytes, with its own lines behind the reading's
pub split_call : (s : List ℕ) (more : List Line) → Each Plain more
    → SplitOn (ship_in s) (first (frame_lines s ++ ship_lines (ship_in s) ++ more)) (first (frame_lines s ++ ship_lines01 (ship_in s) ++ more))
split_call s more a =
    let x = ship_in s in
    split_lines x.length.0 (houses_of x) (frame_lines s ++ field_lines x) more (omega arith) a

pub split_read : (s : List ℕ) → SplitOn (ship_in s) (reading_in s).verdict (first (frame_lines s ++ ship_lines01 (ship_in s)))
unfolding reading_in
split_read s = split_call s [] tt

pub split_write : (room : ℕ) (x : Ship) → SplitOn x (writing_of room x) (first (write_lines_with (ship_lines01 x) room x))
unfolding writing_of
split_write room x =
    split_lines x.length.0 (houses_of x)
    ((ltb last_type x.kind, refused 3 0) ∷ (timber_for_a x.kind x.timber, refused 24 0) ∷ (ltb most_houses x.n, refused 4 0) ∷ field_lines x) ((ltb room (bytes_for x), refused 17 0) ∷ []) (omega arith) (omega arith)
