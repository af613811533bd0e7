-- The numbers that code computes for b1 and the two sides of b2 are the regulation's fractions.
use Prim.Native.Nat.{ℕ, ◌+◌, ◌*◌, ◌-◌, ◌/◌, ◌<◌}
use native.Mathlib.Omega.{arith}
use mathlib.Core.Path.{◌≡◌}
use Rattle.whole.specs.Divide.{ceil_div}
use Rattle.whole.specs.Frac.{Frac, ◌≈f◌, ◌+f◌, ◌*f◌, ◌-f◌, whole, frac}
use Rattle.whole.proofs.Divide.{sub_mul}
use Rattle.whole.proofs.Frac.{bot_of, refl≈, sym≈, trans≈, *_same, sub_same, factor_out, scaled}
use Rattle.whole.proofs.Round.{ceil_of, floor_of}
use Rattle.bow.proofs.Cubic.{cubic}
use Rattle.bow.specs.Bow.{hundreds, exact_b1, rises, falls, exact_b2_above, exact_b2_below, b2_above, b2_below}

-- the cubic of a fraction, its factor taken out
taken_out : (x : Frac) → whole 6075 *f x +f whole 200 *f x *f x *f x -f whole 1875 *f x *f x ≈f x *f (whole 6075 +f whole 200 *f x *f x -f whole 1875 *f x)
taken_out x =
    trans≈ {y = x *f (whole 6075 +f whole 200 *f x *f x) -f x *f (whole 1875 *f x)}
    (sub_same (omega arith) (omega arith))
    (factor_out x (whole 6075 +f whole 200 *f x *f x) (whole 1875 *f x))

pub b1_words : (L : ℕ) → frac (cubic L) 5000000000 ≈f exact_b1 L
unfolding cubic exact_b1 hundreds
b1_words L =
    let x = frac L 100000 in
    let p = whole 6075 +f whole 200 *f x *f x in
    let q = whole 1875 *f x in
    trans≈ {y = whole 1000 *f (x *f (p -f q))}
    (record {
      eq = omega (
        arith,
        sub_mul (303750000000 + L * L) (937500 * L) (L * 100000000000000000000),
        sub_mul (p.top * q.bot) (q.top * p.bot) (L * 5000000000000),
      );
    })
    (*_same (refl≈ (whole 1000)) (sym≈ (taken_out x)))

pub rises_words : (M cb : ℕ) → 0 < M → frac (17 * M * (20800000 + 609 * cb)) (170 * M) ≈f rises cb *f whole 1000000
unfolding rises
rises_words M cb h = record { eq = rw (bot_of (170 * M) (omega arith)) (omega arith) }

pub falls_words : (L M cwf : ℕ) → 0 < M → frac (17 * M * (1603 * cwf) + 2580000 * L) (170 * M) ≈f falls L M cwf *f whole 1000000
unfolding falls
falls_words L M cwf h = record { eq = rw (bot_of (170 * M) (omega arith), bot_of (85 * M) (omega arith)) (omega arith) }

-- ---- b2's quotients, of numbers r and f that have the value of its sides
module _ (L M cb cwf r f : ℕ) (p : 0 < M) (h : frac r (170 * M) ≈f rises cb *f whole 1000000) (k : frac f (170 * M) ≈f falls L M cwf *f whole 1000000) where
  pub above_quotient : ceil_div (r - f) (170 * M) ≡ b2_above L M cb cwf
  unfolding b2_above exact_b2_above
  above_quotient =
      ceil_of (r - f) (170 * M) {x = (rises cb -f falls L M cwf) *f whole 1000000} (omega arith)
      (scaled (rises cb) (falls L M cwf) r f (170 * M) (whole 1000000) (omega arith) h k)

  pub below_quotient : (f - r) / (170 * M) ≡ b2_below L M cb cwf
  unfolding b2_below exact_b2_below
  below_quotient =
      floor_of (f - r) (170 * M) {x = (falls L M cwf -f rises cb) *f whole 1000000} (omega arith)
      (scaled (falls L M cwf) (rises cb) f r (170 * M) (whole 1000000) (omega arith) k h)
