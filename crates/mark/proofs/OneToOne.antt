-- Number, place, overlap and marks name one answer: no two answers have the same sheet.
use mathlib.Core.Path.{◌≡◌, sym, ap, ◌∙◌}
use native.Mathlib.Omega.{arith}
use lib.Dec.{eqb}
use Rattle.std.specs.Prelude.{Result, Ok, Err}
use Rattle.whole.specs.Pick.{pick}
use Rattle.ship.specs.declared.refusal.Refusal.{Refusal}
use Rattle.ship.specs.Refusals.{Paper, accepted}
use Rattle.ship.proofs.OneToOne.{one_verdict, number_above_0}
use Rattle.mark.specs.declared.Marks.{Marks}
use Rattle.mark.specs.Others.{Sheet, no_marks, sheet, sheet_of}

pub one_sheet : (a b : Result Marks Refusal) → sheet a ≡ sheet b → a ≡ b
one_sheet (Ok m) (Ok n) e = ap Ok (ap (λ (t : Sheet). t.marks) e)
one_sheet (Ok m) (Err r) e = absurd (omega (arith, number_above_0 r, ap (λ (t : Sheet). t.verdict.number) e))
one_sheet (Err r) (Ok m) e = absurd (omega (arith, number_above_0 r, ap (λ (t : Sheet). t.verdict.number) e))
one_sheet (Err r) (Err q) e = let v = one_verdict (Err r) (Err q) (ap (λ (t : Sheet). t.verdict) e) in cc

-- marks that are given beside a verdict's marks are those, and the verdict accepts
pub given_marks : (v : Paper) (k m : Marks) → record { verdict = accepted; marks = m } ≡ sheet_of v k → (v ≡ accepted) × (m ≡ k)
unfolding pick
given_marks v k m e =
    let a : v ≡ accepted = sym (ap (λ (t : Sheet). t.verdict) e) in
    (a, ap (λ (t : Sheet). t.marks) e ∙ ap (λ (q : Paper). pick (eqb q.number 0) k no_marks) a)
