-- No second answer meets the marks call's contract.
use mathlib.Core.List.{List}
use mathlib.Core.Path.{◌≡◌, sym, ◌∙◌}
use Prim.Native.Nat.{ℕ}
use Rattle.std.specs.Prelude.{Result}
use Rattle.ship.specs.declared.refusal.Refusal.{Refusal}
use Rattle.timber.specs.declared.Given.{Given}
use Rattle.timber.specs.Answer.{sheet}
use Rattle.timber.proofs.OneToOne.{sheet_one}
use Rattle.marks.specs.Marks.{answer_in}

pub one_answer : (s : List ℕ) (a b : Result Given Refusal) → sheet a ≡ answer_in s → sheet b ≡ answer_in s → a ≡ b
one_answer s a b p q = sheet_one a b (p ∙ sym q)
