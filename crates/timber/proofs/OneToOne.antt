-- The ordinary sheet, whether timber marks are given, and these name one answer: no two answers have the same sheet.
use mathlib.Core.Path.{◌≡◌, refl, sym, ap}
use mathlib.Core.Bool.{Bool, true, false, true≢false}
use Rattle.std.specs.Prelude.{Option, Some, None, Result, Ok, Err, is_some, unwrap_or}
use native.Mathlib.Omega.{arith}
use borrow.Author.Tests.{ne_eqb}
use Rattle.whole.specs.Pick.{pick}
use Rattle.ship.specs.declared.refusal.Refusal.{Refusal}
use Rattle.ship.specs.Refusals.{number_of}
use Rattle.ship.proofs.OneToOne.{number_above_0}
use Rattle.mark.specs.Others as Mark
use Rattle.mark.specs.declared.Marks.{Marks}
use Rattle.mark.proofs.OneToOne.{one_sheet}
use Rattle.timber.specs.declared.TimberMarks.{TimberMarks}
use Rattle.timber.specs.declared.Given.{Given}
use Rattle.timber.specs.Timber.{no_timber}
use Rattle.timber.specs.Answer.{Sheet, sheet, sheet_with}

-- no refusal has the number of marks that are given
refuses : (r : Refusal) → number_of r ≡ 0 → ⊥
refuses r e = omega (arith, number_above_0 r)

-- whether timber marks are given, and these, tell them
one_timber : (a b : Option TimberMarks) (z : TimberMarks) → is_some a ≡ is_some b → unwrap_or a z ≡ unwrap_or b z → a ≡ b
one_timber None None z e f = refl
one_timber None (Some u) z e f = absurd (true≢false (sym e))
one_timber (Some t) None z e f = absurd (true≢false e)
one_timber (Some t) (Some u) z e f = ap Some f

pub sheet_one : (a b : Result Given Refusal) → sheet a ≡ sheet b → a ≡ b
sheet_one (Ok g) (Ok h) e =
    let t = one_timber g.timber h.timber no_timber (ap (λ (s : Sheet). s.given) e) (ap (λ (s : Sheet). s.timber) e) in
    λ i. Ok (record { ordinary = (e i).ordinary.marks; timber = t i })
sheet_one (Ok g) (Err r) e = absurd (refuses r (sym (ap (λ (s : Sheet). s.ordinary.verdict.number) e)))
sheet_one (Err r) (Ok g) e = absurd (refuses r (ap (λ (s : Sheet). s.ordinary.verdict.number) e))
sheet_one (Err r) (Err q) e = let o = one_sheet (Err r) (Err q) (ap (λ (s : Sheet). s.ordinary) e) in cc

-- ---- each answer is the ordinary sheet with timber marks beside it
pub sheet_given : (m : Marks) (t : TimberMarks) → sheet (Ok (record { ordinary = m; timber = None })) ≡ sheet_with (Mark.sheet (Ok m)) false t
unfolding sheet_with pick
sheet_given m t = refl

pub sheet_with_lem : (m : Marks) (t : TimberMarks) → sheet (Ok (record { ordinary = m; timber = Some t })) ≡ sheet_with (Mark.sheet (Ok m)) true t
unfolding sheet_with pick
sheet_with_lem m t = refl

pub sheet_refused : (r : Refusal) (asked : Bool) (t : TimberMarks) → sheet (Err r) ≡ sheet_with (Mark.sheet (Err r)) asked t
unfolding sheet_with pick
sheet_refused r asked t = simp (ne_eqb (number_of r) 0 (λ e. refuses r e))
