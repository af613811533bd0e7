-- No second answer meets the reader's contract.
use Prim.Native.Nat.{ℕ}
use mathlib.Core.List.{List}
use mathlib.Core.Path.{◌≡◌, sym, ap, ◌∙◌}
use native.Mathlib.Omega.{arith}
use Rattle.std.specs.Prelude.{Result, Ok, Err}
use Rattle.ship.specs.declared.Ship.{Ship}
use Rattle.ship.specs.declared.refusal.Refusal.{Refusal}
use Rattle.ship.proofs.OneToOne.{one_verdict, number_above_0}
use Rattle.record.specs.Reading.{Reading, reading_in}
use Rattle.reader.specs.Answer.{shown}

one_shown : (a b : Result Ship Refusal) → shown a ≡ shown b → a ≡ b
one_shown (Ok x) (Ok y) e = ap Ok (ap (λ (r : Reading). r.ship) e)
one_shown (Err r) (Err q) e = let v = one_verdict (Err r) (Err q) (ap (λ (z : Reading). z.verdict) e) in cc
one_shown (Ok x) (Err r) e = absurd (omega (arith, number_above_0 r, ap (λ (z : Reading). z.verdict.number) e))
one_shown (Err r) (Ok x) e = absurd (omega (arith, number_above_0 r, ap (λ (z : Reading). z.verdict.number) e))

pub one_answer : (s : List ℕ) (a b : Result Ship Refusal) → shown a ≡ reading_in s → shown b ≡ reading_in s → a ≡ b
one_answer s a b p q = one_shown a b (p ∙ sym q)
