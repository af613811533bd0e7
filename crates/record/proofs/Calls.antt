-- From a reading to the call that asked for it: a call on bytes has the reading's lines, then its own; a call on a ship has its own alone.
use Prim.Native.Nat.{ℕ}
use mathlib.Core.List.{List, ◌++◌}
use mathlib.Core.Path.{◌≡◌, ap, ◌∙◌}
use native.Mathlib.Omega.{arith}
use Rattle.ship.specs.declared.Ship.{Ship}
use Rattle.ship.specs.declared.refusal.Refusal.{Refusal}
use Rattle.ship.specs.Refusals.{Paper, Line, accepted, refused_as, first}
use Rattle.ship.specs.Checks.{ship_lines}
use Rattle.ship.proofs.Lines.{first_skip, first_refused}
use Rattle.record.specs.Layout.{ship_in}
use Rattle.record.specs.Reading.{frame_lines, reading_in}
use Rattle.record.proofs.Framed.{passes_all, ship_is}

-- `answer` makes a call's answer from its verdict and the ship; `more` are the call's own lines
module _ {A : Type 0} (answer : Paper → Ship → A) (more : Ship → List Line) (s : List ℕ) where
  -- what the call on bytes answers
  abbrev pub call_on : A
  call_on = answer (first (frame_lines s ++ ship_lines (ship_in s) ++ more (ship_in s))) (ship_in s)

  -- bytes that read as a ship have the answer of the call on it
  pub call_read : (x : Ship) → reading_in s ≡ record { verdict = accepted; ship = x } → call_on ≡ answer (first (more x)) x
  call_read x e =
      let y = ship_in s in
      let p = passes_all s x e in
      let t : first (frame_lines s ++ (ship_lines y ++ more y)) ≡ first (more y) =
      first_skip (frame_lines s) (ship_lines y ++ more y) p.0 ∙ first_skip (ship_lines y) (more y) p.1 in
      ap (λ (v : Paper). answer v y) t ∙ ap (λ (z : Ship). answer (first (more z)) z) (ship_is s x e)

  -- bytes that are refused have that refusal
  pub call_refused : (r : Refusal) → (reading_in s).verdict ≡ refused_as r → call_on ≡ answer (refused_as r) (ship_in s)
  unfolding reading_in
  call_refused r e =
      let y = ship_in s in
      ap (λ (v : Paper). answer v y) (first_refused (frame_lines s ++ ship_lines y) (more y) r (omega arith) e)
