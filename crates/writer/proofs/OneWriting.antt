-- No second verdict, and no second buffer, meets the writer's contract.
use Prim.Native.Nat.{ℕ}
use mathlib.Core.List.{List}
use mathlib.Core.Path.{◌≡◌, sym, ap, ◌∙◌}
use lib.ListN.{length}
use Rattle.ship.specs.declared.Ship.{Ship}
use Rattle.ship.specs.Refusals.{Paper, Verdict, paper}
use Rattle.ship.proofs.OneToOne.{one_verdict}
use Rattle.record.specs.Writing.{writing_of, written}

pub one_writing : (buf : List ℕ) (x : Ship) (v w : Verdict) (after later : List ℕ)
    → paper v ≡ writing_of (length buf) x → after ≡ written (paper v) x buf
    → paper w ≡ writing_of (length buf) x → later ≡ written (paper w) x buf
    → (v ≡ w) × (after ≡ later)
one_writing buf x v w after later p q r t =
    (one_verdict v w (p ∙ sym r), q ∙ ap (λ (z : Paper). written z x buf) (p ∙ sym r) ∙ sym t)
