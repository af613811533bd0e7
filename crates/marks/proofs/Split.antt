-- 02 §1 in the marks call: what has become of refusal 11.
use Prim.Native.Nat.{ℕ}
use mathlib.Core.List.{List, ◌++◌}
use native.Mathlib.Omega.{arith}
use Rattle.ship.specs.Refusals.{first}
use Rattle.ship.proofs.Split.{ship_lines01}
use Rattle.record.specs.Layout.{ship_in}
use Rattle.record.specs.Reading.{frame_lines}
use Rattle.record.proofs.Split.{SplitOn, split_call}
use Rattle.mark.specs.Others.{mark_lines}
use Rattle.steps.specs.Steps.{summer_of, particulars_of}
use Rattle.marks.specs.Marks.{sheet_in}

pub split_marks : (s : List ℕ)
    → let x = ship_in s in
    SplitOn x (sheet_in s).verdict (first (frame_lines s ++ ship_lines01 x ++ mark_lines (particulars_of x) (summer_of x)))
unfolding sheet_in
split_marks s = let x = ship_in s in split_call s (mark_lines (particulars_of x) (summer_of x)) (omega arith)
