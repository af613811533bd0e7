-- The marks call: refusals 1 to 13, 24 after 3, 22 after 7, 23 after 9, and 18 with 11, in the papers' order, then the six marks, and six timber marks where they
-- are asked for.
use Rattle.std.specs.Prelude.{ℕ, true, List, ◌++◌, ◌≡◌, IfSome, Result, Ok, Err}
use Rattle.ship.specs.declared.Ship.{Ship}
use Rattle.ship.specs.declared.refusal.Refusal.{Refusal}
use Rattle.ship.specs.Refusals.{first}
use Rattle.ship.specs.Checks.{ship_lines}
use Rattle.record.specs.Layout.{ship_in}
use Rattle.record.specs.Reading.{frame_lines}
use Rattle.mark.specs.Summer.{Holds}
use Rattle.mark.specs.Others.{Sheet, sheet_of, sheet_at, mark_lines, six_marks}
use Rattle.timber.specs.declared.TimberMarks.{TimberMarks}
use Rattle.timber.specs.declared.Given.{Given}
use Rattle.timber.specs.Exact.{HoldsSigned}
use Rattle.timber.specs.Answer as Whole
use Rattle.timber.specs.Answer.{sheet_with}
use Rattle.steps.specs.Steps.{summer_of, particulars_of}
use Rattle.steps.specs.Exact.{exact_summer_of}
use Rattle.steps.specs.Timber.{has_timber, exact_timber_added, exact_timber_taken, timber_marks_of}

-- ---- the ordinary marks; the timber flag has no part in them, but for 24
-- of a ship that the reader accepts, or 12 or 13
unfoldable pub sheet_for : Ship → Sheet
sheet_for x = sheet_at (particulars_of x) (summer_of x)

-- of any bytes
unfoldable pub sheet_in : List ℕ → Sheet
sheet_in s =
    sheet_of (first (frame_lines s ++ ship_lines (ship_in s) ++ mark_lines (particulars_of (ship_in s)) (summer_of (ship_in s))))
    (six_marks (particulars_of (ship_in s)) (summer_of (ship_in s)))

-- ---- the whole answer: the timber marks beside them, where the flag asks for them and nothing is refused
unfoldable pub answer_for : Ship → Whole.Sheet
answer_for x = sheet_with (sheet_for x) x.timber (timber_marks_of x (sheet_for x).marks)

unfoldable pub answer_in : List ℕ → Whole.Sheet
answer_in s = sheet_with (sheet_in s) (ship_in s).timber (timber_marks_of (ship_in s) (sheet_in s).marks)

-- ---- where marks are given, S is never below the exact value, and less than 1.1 mm above it; and where the ship has timber marks, so is LS
abbrev pub TimberBounded : TimberMarks → Ship → Type 0
TimberBounded t x = has_timber x ≡ true → HoldsSigned t.ls (exact_timber_added x) (exact_timber_taken x)

abbrev pub Bounded : Result Given Refusal → Ship → Type 0
Bounded (Ok g) x = Holds g.ordinary.s (exact_summer_of x) × IfSome g.timber (λ t. TimberBounded t x)
Bounded (Err r) x = Unit {0}
