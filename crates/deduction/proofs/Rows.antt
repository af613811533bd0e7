-- A row of percentages that is nowhere below another deducts no less.
use mathlib.Core.Bool.{Bool}
use mathlib.Core.List.{List}
use Prim.Native.Nat.{ℕ, ◌*◌, ◌≤◌}
use native.Mathlib.Nat.{le_refl}
use Rattle.whole.specs.Frac.{Frac, ◌*f◌, whole, frac}
use Rattle.whole.specs.Row.{Rising, Under}
use Rattle.whole.proofs.Frac.{refl≤, *_mono≤}
use Rattle.whole.proofs.Pick.{by_both}
use Rattle.whole.proofs.Round.{floor_mono}
use Rattle.whole.proofs.Row.{along_under}
use Rattle.deduction.specs.Deduction37.{share, exact_share, deduction, lacks_forecastle, deducted}
use Rattle.deduction.proofs.Deduction37.{of_full_grows}

module _ {m M n N : ℕ} {row upper : List ℕ} (a : Rising m M row) (b : Rising n N upper) (u : Under row upper) where
  share_under : (l e : ℕ) → share row l e ≤ share upper l e
  unfolding share exact_share
  share_under l e =
      floor_mono (exact_share row l (whole e) *f whole 1000000) (exact_share upper l (whole e) *f whole 1000000)
      (*_mono≤ (*_mono≤ (along_under a b u (whole e *f frac 1 (100 * l))) (refl≤ (frac 1 1000))) (refl≤ (whole 1000000)))

  deduction_under : (l e : ℕ) → deduction row l e ≤ deduction upper l e
  unfolding deduction
  deduction_under l e = of_full_grows l (share row l e) (share upper l e) (share_under l e)

  -- as it is granted: f is the forecastle's effective length
  pub deducted_under : (type_b : Bool) (f : Frac) (l e : ℕ) → deducted type_b row f l e ≤ deducted type_b upper f l e
  unfolding deducted
  deducted_under type_b f l e =
      by_both (λ (k j : ℕ). k ≤ j) (lacks_forecastle type_b f l) 0 (deduction row l e) 0 (deduction upper l e)
      (λ t. le_refl 0) (λ t. deduction_under l e)
