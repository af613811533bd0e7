-- An answer is given within the wish exactly if no line refuses and S is.
use Prim.Native.Nat.{ℕ}
use mathlib.Core.Bool.{Bool, false, ◌&&◌}
use mathlib.Core.Path.{◌≡◌, sym, ap, ◌∙◌}
use native.Mathlib.Omega.{arith}
use lib.Dec.{eqb, leb}
use borrow.Author.Rules.{rules}
use borrow.Author.Tests.{ne_eqb}
use Rattle.std.specs.Prelude.{Result, Ok, Err, MatchResult}
use Rattle.std.proofs.lemmas.Result.{MatchResult-weaker}
use Rattle.ship.specs.declared.refusal.Refusal.{Refusal}
use Rattle.ship.specs.Refusals.{number_of, first}
use Rattle.ship.proofs.OneToOne.{number_above_0}
use Rattle.mark.specs.declared.Marks.{Marks}
use Rattle.mark.specs.declared.Particulars.{Particulars}
use Rattle.mark.specs.Others.{Sheet, sheet, sheet_at, mark_lines, six_marks}
use Rattle.mark.proofs.OneToOne.{given_marks}
use Rattle.trial.specs.Poop.{within}
use Rattle.trial.specs.Standing.{marked_on}
use Rattle.trial.proofs.marked.Goals as goal

told : (a : Result Marks Refusal) (p : Particulars) (S wish : ℕ) (b : Bool) → sheet a ≡ sheet_at p S → MatchResult a (λ m. b ≡ leb m.s wish) (λ _. b ≡ false)
    → b ≡ within (mark_lines p S) S wish
unfolding within sheet_at six_marks
told (Ok m) p S wish b e h = let g = given_marks (first (mark_lines p S)) (six_marks p S) m e in rw (h, g.0, g.1)
told (Err r) p S wish b e h =
    let n : eqb (number_of r) 0 ≡ false = ne_eqb (number_of r) 0 (λ z. omega (arith, number_above_0 r)) in
    h ∙ sym (ap (λ (b : Bool). b && leb S wish) (ap (λ (t : Sheet). eqb t.verdict.number 0) (sym e) ∙ n))

pub returns : goal.returns
unfolding marked_on
returns c =
    told c.follow.result c.args.q.particulars c.args.s c.args.q.wish c.is_ok_and.result c.follow.ensures
    (MatchResult-weaker c.follow.result c.is_ok_and.ensures (λ m k. search rules) (λ r k. k))
