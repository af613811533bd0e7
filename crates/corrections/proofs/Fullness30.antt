-- Regulation 30: the rounded sum against the exact one, and its bound.
use Prim.Native.Nat.{ℕ, ◌+◌, ◌*◌, ◌≤◌, ◌<◌}
use native.Mathlib.Omega.{arith}
use lib.Dec.{ltb}
use borrow.Author.Tests.{lt-ltb, le-ltb}
use mathlib.Core.Path.{◌≡◌}
use Rattle.whole.specs.Pick.{pick}
use Rattle.whole.specs.Divide.{ceil_div}
use Rattle.whole.specs.Frac.{Frac, ◌≤f◌, ◌+f◌, ◌*f◌, whole, frac}
use Rattle.whole.specs.Round.{Near, Within}
use Rattle.whole.proofs.Pick.{by_cases, by_both}
use Rattle.whole.proofs.Divide.{mul_most}
use Rattle.whole.proofs.Frac.{refl≤, *_mono≤}
use Rattle.whole.proofs.Round.{loosen, near_times, near_ceil, ceil_whole, ceil_under, ceil_mono}
use Rattle.corrections.specs.Fullness30.{fullness, exact_fullness}

-- what the sum is off by grows with it, by at most 1.88 / 1.36, and the rounding costs 1 um
pub fullness_within : {c : ℕ} {x e : Frac} (cb : ℕ) → cb ≤ 12000 → Within c x e → Within (fullness cb c) (exact_fullness cb x) (e *f frac 47 34 +f whole 1)
unfolding fullness exact_fullness
fullness_within {e = e} cb h w =
    near_ceil (by_both (λ (z y : Frac). Near z y (e *f frac 47 34)) (ltb 6800 cb) _ _ _ _
    (λ t. loosen (*_mono≤ (refl≤ e) (omega arith)) (near_times (frac (cb + 6800) 13600) w))
    (λ t. loosen (omega arith) w))

pub fullness_none : (cb sum : ℕ) → cb ≤ 6800 → sum ≡ fullness cb sum
unfolding pick fullness exact_fullness
fullness_none cb sum h = simp (le-ltb 6800 cb h, ceil_whole sum)

pub fullness_quotient : (cb sum : ℕ) → 6800 < cb → ceil_div (sum * (cb + 6800)) 13600 ≡ fullness cb sum
unfolding pick fullness exact_fullness
fullness_quotient cb sum h = simp (lt-ltb 6800 cb h)

pub fullness_most : (cb sum : ℕ) → cb ≤ 12000 → fullness cb sum ≤ 2 * sum
unfolding fullness exact_fullness
fullness_most cb sum h =
    ceil_under (2 * sum)
    (by_cases (λ (x : Frac). x ≤f whole (2 * sum)) (ltb 6800 cb) _ _
    (λ t. omega (arith, mul_most sum (cb + 6800) sum 18800 (omega arith) (omega arith))) (λ t. omega arith))

-- of a greater sum no less
pub fullness_rises : (cb m n : ℕ) → m ≤ n → fullness cb m ≤ fullness cb n
unfolding fullness exact_fullness
fullness_rises cb m n h =
    let k : whole m ≤f whole n = omega arith in
    ceil_mono _ _ (by_both (λ (x y : Frac). x ≤f y) (ltb 6800 cb) _ _ _ _ (λ t. *_mono≤ k (refl≤ (frac (cb + 6800) 13600))) (λ t. k))
