-- The answer of bytes that are read, and of bytes that are refused; and that no second answer meets the contract.
use Prim.Native.Nat.{ℕ}
use mathlib.Core.List.{List}
use mathlib.Core.Path.{◌≡◌, sym, ap, ◌∙◌}
use native.Mathlib.Omega.{arith}
use Rattle.std.specs.Prelude.{Result, Ok, Err}
use Rattle.ship.specs.declared.Ship.{Ship}
use Rattle.ship.specs.declared.refusal.Refusal.{Refusal}
use Rattle.ship.specs.Refusals.{Paper, Line, accepted, refused_as}
use Rattle.ship.proofs.OneToOne.{one_verdict, number_above_0}
use Rattle.ship.proofs.Lines.{beside_refusal}
use Rattle.record.specs.Layout.{ship_in}
use Rattle.record.specs.Reading.{reading_in}
use Rattle.record.proofs.Calls.{call_read, call_refused}
use Rattle.question.specs.Question.{Reply, refusing, reply, ask_lines, reply_of, shortest_for, reply_for, reply_in}

module _ (height wish : ℕ) where
  -- the call's answer by its verdict, and its own lines
  abbrev answer : Paper → Ship → Reply
  answer v x = reply_of v (shortest_for x height wish)

  abbrev more : Ship → List Line
  more x = ask_lines x height wish

  pub reply_read : (s : List ℕ) (x : Ship) → reading_in s ≡ record { verdict = accepted; ship = x } → reply_in s height wish ≡ reply_for x height wish
  unfolding reply_in reply_for
  reply_read s x e = call_read answer more s x e

  pub reply_refused : (s : List ℕ) (r : Refusal) → (reading_in s).verdict ≡ refused_as r → reply_in s height wish ≡ refusing (refused_as r)
  unfolding reply_in
  reply_refused s r e = call_refused answer more s r e ∙ beside_refusal r (shortest_for (ship_in s) height wish) (refusing (refused_as r))

-- ---- number, place, overlap and length name one answer
pub one_reply : (a b : Result ℕ Refusal) → reply a ≡ reply b → a ≡ b
one_reply (Ok j) (Ok k) e = ap Ok (ap (λ (r : Reply). r.decimetres) e)
one_reply (Ok j) (Err r) e = absurd (omega (arith, number_above_0 r, ap (λ (z : Reply). z.verdict.number) e))
one_reply (Err q) (Ok k) e = absurd (omega (arith, number_above_0 q, ap (λ (z : Reply). z.verdict.number) e))
one_reply (Err q) (Err r) e = let v = one_verdict (Err q) (Err r) (ap (λ (z : Reply). z.verdict) e) in cc

-- so no second answer meets the contract
pub one_answer : (s : List ℕ) (height wish : ℕ) (a b : Result ℕ Refusal) → reply a ≡ reply_in s height wish → reply b ≡ reply_in s height wish → a ≡ b
one_answer s height wish a b p q = one_reply a b (p ∙ sym q)
