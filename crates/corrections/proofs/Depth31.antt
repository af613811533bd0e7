-- Regulation 31: the quotients that code computes, the cost of their rounding, and their bounds; and that 31 as a whole rises with D.
use mathlib.Core.Path.{◌≡◌, refl}
use Prim.Native.Nat.{ℕ, ◌+◌, ◌*◌, ◌-◌, ◌/◌, ◌≤◌, ◌<◌}
use native.Mathlib.Omega.{arith}
use native.Mathlib.Nat.{mul-pos, mul-zero}
use borrow.Author.Tests.{ltb-true, ltb-false, lt-ltb, le-ltb}
use lib.Dec.{ltb}
use Rattle.whole.specs.Pick.{pick}
use Rattle.whole.specs.Divide.{ceil_div}
use Rattle.whole.specs.Frac.{Frac, ◌≤f◌, ◌≈f◌, ◌<f?◌, ◌-f◌, ◌*f◌, whole, frac}
use Rattle.whole.specs.Round.{Within, Below}
use Rattle.whole.proofs.Pick.{by_cases, by_both, pick_true}
use Rattle.whole.proofs.Frac.{bot_of, same, refl≤, trans≤, sym≈, trans≈, refl≈, sub_mono, *_mono≤, *_same}
use Rattle.whole.proofs.Round.{by_ceil, by_floor, ceil_of, floor_of, ceil_whole, ceil_under, floor_under, floor_zero, floor_mono}
use Rattle.corrections.specs.Depth31.{rate, depth_addition, exact_depth_addition, depth_reduction, exact_depth_reduction}

-- ---- what is added
-- in fifteenths of a mm the difference is whole
pub depth_quotient : (l d n k : ℕ) → l < 15 * d → 0 < k → frac n k ≈f rate l → ceil_div ((15 * d - l) * n) (15 * k) ≡ depth_addition l d
unfolding depth_addition exact_depth_addition
depth_quotient l d n k h p e =
    let z : d * 15 - l * 1 ≡ 15 * d - l = omega arith in
    rw (pick_true (frac l 15 <f? whole d) ((whole d -f frac l 15) *f rate l) (whole 0) (lt-ltb (l * 1) (d * 15) (omega arith)))
    (ceil_of ((15 * d - l) * n) (15 * k) {x = (whole d -f frac l 15) *f rate l} (omega arith)
    (trans≈ {y = (whole d -f frac l 15) *f frac n k} (record { eq = rw (bot_of (15 * k) (omega arith), bot_of k p, z) (omega arith) })
    (*_same (refl≈ (whole d -f frac l 15)) e)))

pub addition_to_120 : (l d : ℕ) → l < 15 * d → l < 120000 → ceil_div ((15 * d - l) * l) 7200 ≡ depth_addition l d
unfolding pick rate
addition_to_120 l d h k = depth_quotient l d l 480 h (omega arith) (simp (lt-ltb l 120000 k) (omega arith))

pub addition_from_120 : (l d : ℕ) → l < 15 * d → 120000 ≤ l → ceil_div ((15 * d - l) * 250) 15 ≡ depth_addition l d
unfolding pick rate
addition_from_120 l d h k = depth_quotient l d 250 1 h (omega arith) (simp (le-ltb l 120000 k) (omega arith))

pub addition_none : (l d : ℕ) → 15 * d ≤ l → depth_addition l d ≡ 0
unfolding depth_addition exact_depth_addition pick
addition_none l d h = rw (le-ltb (l * 1) (d * 15) (omega arith)) (ceil_whole 0)

-- L, D and R are exact: only the rounding costs, 1 um
pub depth_within : (l d : ℕ) → Within (depth_addition l d) (exact_depth_addition l d) (whole 1)
unfolding depth_addition
depth_within l d = by_ceil (exact_depth_addition l d)

-- it is largest at D = 60 m
rate_most : (l : ℕ) → rate l ≤f whole 250
unfolding rate
rate_most l = by_cases (λ (x : Frac). x ≤f whole 250) (ltb l 120000) _ _ (λ t. omega (arith, ltb-true l 120000 t)) (λ t. omega arith)

pub depth_most : (l d : ℕ) → d ≤ 60000 → depth_addition l d ≤ 15000000
unfolding depth_addition exact_depth_addition
depth_most l d h =
    ceil_under 15000000
    (by_cases (λ (x : Frac). x ≤f whole 15000000) (frac l 15 <f? whole d) _ _
    (λ t. trans≤ (*_mono≤ {x = whole d -f frac l 15} {y = whole 60000} (omega arith) (rate_most l)) (omega arith)) (λ t. omega arith))

-- ---- what is taken
pub reduction_quotient : (l d n k t b : ℕ) → 15 * d < l → 0 < k → 0 < b → frac n k ≈f rate l → (l - 15 * d) * n * t / (15 * k * b) ≡ depth_reduction l d (frac t b)
unfolding depth_reduction exact_depth_reduction
reduction_quotient l d n k t b h p q e =
    let z : l * 1 - d * 15 ≡ l - 15 * d = omega arith in
    let below = frac l 15 -f whole d in
    rw (pick_true (whole d <f? frac l 15) (below *f rate l *f frac t b) (whole 0) (lt-ltb (d * 15) (l * 1) (omega arith)))
    (floor_of ((l - 15 * d) * n * t) (15 * k * b) {x = below *f rate l *f frac t b} (mul-pos (omega arith) q)
    (trans≈ {y = below *f frac n k *f frac t b} (record { eq = rw (bot_of (15 * k * b) (mul-pos (omega arith) q), bot_of k p, bot_of b q, z) (omega arith) })
    (*_same (*_same (refl≈ below) e) (refl≈ (frac t b)))))

pub reduction_to_120 : (l d t b : ℕ) → 15 * d < l → l < 120000 → 0 < b → (l - 15 * d) * l * t / (7200 * b) ≡ depth_reduction l d (frac t b)
unfolding pick rate
reduction_to_120 l d t b h k p = reduction_quotient l d l 480 t b h (omega arith) p (simp (lt-ltb l 120000 k) (omega arith))

pub reduction_from_120 : (l d t b : ℕ) → 15 * d < l → 120000 ≤ l → 0 < b → (l - 15 * d) * 250 * t / (15 * b) ≡ depth_reduction l d (frac t b)
unfolding pick rate
reduction_from_120 l d t b h k p = reduction_quotient l d 250 1 t b h (omega arith) p (simp (le-ltb l 120000 k) (omega arith))

pub reduction_deep : (l d : ℕ) (ratio : Frac) → l ≤ 15 * d → depth_reduction l d ratio ≡ 0
unfolding depth_reduction exact_depth_reduction pick
reduction_deep l d ratio h = rw (le-ltb (d * 15) (l * 1) (omega arith)) refl

-- however the ratio is written
pub reduction_same : (l d : ℕ) {x y : Frac} → x ≈f y → depth_reduction l d x ≡ depth_reduction l d y
unfolding depth_reduction exact_depth_reduction
reduction_same l d {x} {y} e =
    let p : exact_depth_reduction l d x ≈f exact_depth_reduction l d y =
    by_both (λ (z w : Frac). z ≈f w) (whole d <f? frac l 15) _ _ _ _ (λ t. *_same (refl≈ ((frac l 15 -f whole d) *f rate l)) e) (λ t. refl≈ (whole 0)) in
    omega (arith, floor_mono (exact_depth_reduction l d x) (exact_depth_reduction l d y) (same p), floor_mono (exact_depth_reduction l d y) (exact_depth_reduction l d x) (same (sym≈ p)))

-- only the rounding costs, 1 um
pub reduction_below : (l d : ℕ) (ratio : Frac) → Below (depth_reduction l d ratio) (exact_depth_reduction l d ratio) (whole 1)
unfolding depth_reduction
reduction_below l d ratio = by_floor (exact_depth_reduction l d ratio)

-- with no house amidships it is nothing
pub reduction_none : (l d : ℕ) (ratio : Frac) → ratio.top ≡ 0 → depth_reduction l d ratio ≡ 0
unfolding depth_reduction exact_depth_reduction
reduction_none l d ratio e =
    floor_zero (exact_depth_reduction l d ratio)
    (by_cases (λ (x : Frac). x.top ≡ 0) (whole d <f? frac l 15) _ _ (λ t. rw (e, mul-zero)) (λ t. refl))

-- it is largest at L = 365 m with no depth
pub reduction_most : (l d : ℕ) (ratio : Frac) → l ≤ 365000 → ratio ≤f whole 1 → depth_reduction l d ratio ≤ 6100000
unfolding depth_reduction exact_depth_reduction
reduction_most l d ratio h k =
    floor_under 6100000
    (by_cases (λ (x : Frac). x ≤f whole 6100000) (whole d <f? frac l 15) _ _
    (λ t. trans≤ (*_mono≤ (*_mono≤ {x = frac l 15 -f whole d} {y = frac 365000 15} (omega arith) (rate_most l)) k) (omega arith)) (λ t. omega arith))

-- ---- 31 as a whole: at D = L / 15 nothing is added and nothing taken
pub depth_level : (l d : ℕ) (ratio : Frac) → 15 * d ≡ l → (depth_addition l d ≡ 0) × (depth_reduction l d ratio ≡ 0)
depth_level l d ratio e = (addition_none l d (omega arith), reduction_deep l d ratio (omega arith))

-- where the test fails, the difference is nothing anyhow
pub addition_untested : (l d : ℕ) → exact_depth_addition l d ≈f (whole d -f frac l 15) *f rate l
unfolding exact_depth_addition
addition_untested l d =
    by_cases (λ (x : Frac). x ≈f (whole d -f frac l 15) *f rate l) (frac l 15 <f? whole d) _ _ (λ t. refl≈ _)
    (λ t. let z : d * 15 - l * 1 ≡ 0 = omega (arith, ltb-false (l * 1) (d * 15) t) in rw z (omega arith))

pub reduction_untested : (l d : ℕ) (ratio : Frac) → exact_depth_reduction l d ratio ≈f (frac l 15 -f whole d) *f rate l *f ratio
unfolding exact_depth_reduction
reduction_untested l d ratio =
    by_cases (λ (x : Frac). x ≈f (frac l 15 -f whole d) *f rate l *f ratio) (whole d <f? frac l 15) _ _ (λ t. refl≈ _)
    (λ t. let z : l * 1 - d * 15 ≡ 0 = omega (arith, ltb-false (d * 15) (l * 1) t) in rw z (omega arith))

-- a deeper ship has no less added, and no more taken: with no rounding
pub exact_addition_rises : (l d e : ℕ) → d ≤ e → exact_depth_addition l d ≤f exact_depth_addition l e
exact_addition_rises l d e h =
    trans≤ (same (addition_untested l d))
    (trans≤ (*_mono≤ (sub_mono {x = whole d} {y = whole e} (omega arith) (refl≤ (frac l 15))) (refl≤ (rate l)))
    (same (sym≈ (addition_untested l e))))

pub exact_reduction_falls : (l d e : ℕ) (ratio : Frac) → d ≤ e → exact_depth_reduction l e ratio ≤f exact_depth_reduction l d ratio
exact_reduction_falls l d e ratio h =
    trans≤ (same (reduction_untested l e ratio))
    (trans≤ (*_mono≤ (*_mono≤ (sub_mono {z = whole d} {w = whole e} (refl≤ (frac l 15)) (omega arith)) (refl≤ (rate l))) (refl≤ ratio))
    (same (sym≈ (reduction_untested l d ratio))))

-- and rounded
pub addition_rises : (l d e : ℕ) → d ≤ e → depth_addition l d ≤ depth_addition l e
unfolding depth_addition
addition_rises l d e h = ceil_under (depth_addition l e) (trans≤ (exact_addition_rises l d e h) (by_ceil (exact_depth_addition l e)).above)

pub reduction_falls : (l d e : ℕ) (ratio : Frac) → d ≤ e → depth_reduction l e ratio ≤ depth_reduction l d ratio
unfolding depth_reduction
reduction_falls l d e ratio h = floor_mono (exact_depth_reduction l e ratio) (exact_depth_reduction l d ratio) (exact_reduction_falls l d e ratio h)

-- so what is added less what is taken rises with D: a difference on either side, written with neither below zero
pub deeper_never_less : (l d e : ℕ) (ratio : Frac) → d ≤ e → depth_addition l d + depth_reduction l e ratio ≤ depth_addition l e + depth_reduction l d ratio
deeper_never_less l d e ratio h = omega (arith, addition_rises l d e h, reduction_falls l d e ratio h)
