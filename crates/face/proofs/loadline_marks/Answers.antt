use mathlib.Core.Bool.{true≢false}
use mathlib.Core.List.{List}
use mathlib.Core.Path.{◌≡◌, sym, ap, ◌∙◌}
use native.Mathlib.Omega.{arith}
use Prim.Native.Nat.{ℕ}
use Rattle.std.specs.Prelude.{Option, Some, None, Ok}
use Rattle.ship.specs.Refusals.{number_of}
use Rattle.ship.proofs.OneToOne.{number_above_0}
use Rattle.record.specs.Layout.{ship_in}
use Rattle.mark.specs.declared.Marks.{Marks}
use Rattle.timber.specs.declared.Given.{Given}
use Rattle.timber.specs.declared.TimberMarks.{TimberMarks}
use Rattle.timber.specs.Answer.{sheet}
use Rattle.marks.specs.Marks as Whole
use Rattle.marks.specs.Marks.{answer_in}
use Rattle.marks.proofs.Sheet.{no_flag}
use Rattle.answers.specs.declared.MarksAnswer.{MarksAnswer}
use Rattle.answers.specs.Answers.{from_sheet, Bounded}
use Rattle.face.proofs.Room.{small_given}
use Rattle.face.proofs.loadline_marks.Goals as goal

pub marked-requires : goal.marked-requires
marked-requires c = let g = c.in-Ok.g in small_given c.args.bytes.now g.ordinary g.timber c.in-Ok.ensures.equation

-- where timber marks are asked for, the answer has them
bounded : (s : List ℕ) (m : Marks) (t : Option TimberMarks) → let g : Given = record { ordinary = m; timber = t } in
    sheet (Ok g) ≡ answer_in s → Whole.Bounded (Ok g) (ship_in s) → Bounded (from_sheet (sheet (Ok g))) (ship_in s)
unfolding from_sheet
bounded s m None e b = λ z. (b.0, λ f. absurd (true≢false (sym f ∙ no_flag s m e)))
bounded s m (Some t) e b = λ z. (b.0, λ f. b.1)

pub returns-in-Ok-clause-bounded : goal.returns-in-Ok-clause-bounded
returns-in-Ok-clause-bounded c = let g = c.in-Ok.g in rw c.marked.ensures (bounded c.args.bytes.now g.ordinary g.timber c.in-Ok.ensures.equation c.in-Ok.ensures.bounded)

pub returns-in-Err-clause-bounded : goal.returns-in-Err-clause-bounded
unfolding from_sheet
returns-in-Err-clause-bounded c =
    let n : c.from.result.verdict.number ≡ number_of c.in-Err.r = ap (λ (y : MarksAnswer). y.verdict.number) c.from.ensures in
    λ z. absurd (omega (arith, number_above_0 c.in-Err.r))
