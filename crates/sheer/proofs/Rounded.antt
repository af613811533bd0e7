-- The quotients that code computes are the rounded rules.
use Prim.Native.Nat.{ℕ, suc, pred, ◌+◌, ◌*◌, ◌-◌, ◌/◌, ◌<◌, min}
use mathlib.Core.Path.{◌≡◌, ap}
use mathlib.Core.Logic.{◌⊎◌, inl, inr}
use native.Mathlib.Omega.{arith}
use native.Mathlib.Nat.{mul-pos}
use Rattle.whole.specs.Divide.{ceil_div}
use Rattle.whole.specs.Frac.{◌≤f◌, ◌<f◌, ◌≈f◌, ◌+f◌, ◌*f◌, ◌-f◌, whole, frac, floor}
use Rattle.whole.proofs.Frac.{refl≈, trans≈, *_same, sub_same, one_bottom}
use Rattle.whole.proofs.Round.{ceil_of, floor_of, ceil_zero, floor_zero, floor_lesser}
use Rattle.whole.proofs.Signed.{signed_down, one_nought}
use Rattle.sheer.specs.Sheer.{standard_after, standard_forward, above, lacks, after_counts, forward_share, mean_above, mean_lacks, exact_excess, exact_deficiency, exact_addition, exact_deduction, excess, deficiency, addition, deduction}
use Rattle.sheer.proofs.Words.{mean_above_lem, mean_lacks_lem, factor_words, covered_words}

-- ---- the mean: the quotients of what counts, c and the credit g / b, less what both halves lack, n
module _ (a f L c g n b d : ℕ) (p : 0 < b) (e : d ≡ 480 * b)
    (h : frac c 240 ≈f after_counts a f L)
    (k : frac g (240 * b) ≈f above f (standard_forward L) *f forward_share a (standard_after L))
    (m : frac n 240 ≈f lacks a (standard_after L) +f lacks f (standard_forward L)) where
  counted : frac (c * b + g) d ≈f mean_above a f L
  unfolding mean_above
  counted = mean_above_lem c g b d p e h k

  lacked : frac (n * b) d ≈f mean_lacks a f L
  unfolding mean_lacks
  lacked = mean_lacks_lem n b d p e m

  deficiency_quotient : ceil_div (n * b - (c * b + g)) d ≡ deficiency a f L
  unfolding deficiency exact_deficiency
  deficiency_quotient =
      ceil_of (n * b - (c * b + g)) d {x = mean_lacks a f L -f mean_above a f L} (omega arith)
      (trans≈ (one_bottom (n * b) (c * b + g) d (omega arith)) (sub_same lacked counted))

  excess_quotient : (c * b + g - n * b) / d ≡ excess a f L
  unfolding excess exact_excess
  excess_quotient =
      floor_of (c * b + g - n * b) d {x = mean_above a f L -f mean_lacks a f L} (omega arith)
      (trans≈ (one_bottom (c * b + g) (n * b) d (omega arith)) (sub_same counted lacked))

  pub mean_quotients : (ceil_div (n * b - (c * b + g)) d ≡ deficiency a f L) × ((c * b + g - n * b) / d ≡ excess a f L)
  mean_quotients = (deficiency_quotient, excess_quotient)

-- of the signed mean it is the number next below
pub mean_down : (a f L : ℕ)
    → (whole (excess a f L) +f mean_lacks a f L ≤f mean_above a f L +f whole (deficiency a f L))
    × (mean_above a f L +f whole (deficiency a f L) <f whole (excess a f L) +f mean_lacks a f L +f whole 1)
unfolding excess deficiency exact_excess exact_deficiency
mean_down a f L = signed_down (mean_above a f L) (mean_lacks a f L)

-- and of its two parts one is 0, as of the two exact ones: the correction divides for one of them only
pub one_part : (a f L : ℕ)
    → ((deficiency a f L ≡ 0) × ((exact_deficiency a f L).top ≡ 0)) ⊎ ((excess a f L ≡ 0) × ((exact_excess a f L).top ≡ 0))
unfolding excess deficiency exact_excess exact_deficiency
one_part a f L =
    elim (one_nought (mean_lacks a f L) (mean_above a f L)) [
      | inl z ↦ inl (ceil_zero (exact_deficiency a f L) z, z)
      | inr z ↦ inr (floor_zero (exact_excess a f L) z, z)
    ]

-- ---- the correction
pub addition_quotient : (d L S : ℕ) → 0 < L → ceil_div (d * (3 * L - 2 * S)) (4 * L) ≡ addition d L S
unfolding addition exact_addition
addition_quotient d L S h =
    ceil_of (d * (3 * L - 2 * S)) (4 * L) {x = whole d *f (frac 75 100 -f frac S (2 * L))} (omega arith)
    (trans≈ {y = whole d *f frac (3 * L - 2 * S) (4 * L)} (omega arith) (*_same (refl≈ (whole d)) (factor_words L S h)))

-- nothing of nothing: no division is needed
pub none_added : (L S : ℕ) → addition 0 L S ≡ 0
unfolding addition exact_addition
none_added L S = ceil_zero (exact_addition (whole 0) L S) (omega arith)

pub deduction_quotient : (e L S reach : ℕ) → 0 < L → min (e * reach * (3 * L - 2 * S) / (8 * (L * L))) (5 * L / 4) ≡ deduction e L S reach
unfolding deduction exact_deduction
deduction_quotient e L S reach h =
    let n = 3 * L - 2 * S in
    let x = whole e *f (frac 75 100 -f frac S (2 * L)) *f frac reach (2 * L) in
    let full : e * reach * n / (8 * (L * L)) ≡ floor x =
    floor_of (e * reach * n) (8 * (L * L)) {x = x} (omega (arith, mul-pos h h))
    (trans≈ {y = whole e *f frac (n * reach) (8 * (L * L))} (omega arith)
    (trans≈ {y = whole e *f ((frac 75 100 -f frac S (2 * L)) *f frac reach (2 * L))} (*_same (refl≈ (whole e)) (covered_words L S reach h)) (omega arith))) in
    let limit : 5 * L / 4 ≡ floor (frac 125 100 *f whole L) = floor_of (5 * L) 4 {x = frac 125 100 *f whole L} (omega arith) (omega arith) in
    rw (full, limit) (floor_lesser x (frac 125 100 *f whole L))

pub none_deducted : (e L S reach : ℕ) → e * reach ≡ 0 → deduction e L S reach ≡ 0
unfolding deduction exact_deduction
none_deducted e L S reach h = floor_zero (exact_deduction (whole e) L S reach) (omega (arith, ap (λ (z : ℕ). z * (75 * suc (pred (2 * L)) - S * 100)) h))
