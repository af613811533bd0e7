-- The numbers that code computes are the regulation's fractions. Its sums are in 30000ths of a mm, where the standard is whole.
use Prim.Native.Nat.{ℕ, suc, ◌+◌, ◌*◌, ◌-◌, ◌≤◌, ◌<◌, min}
use mathlib.Core.Path.{◌≡◌, ◌∙◌}
use native.Mathlib.Omega.{arith}
use native.Mathlib.Nat.{mul-pos, one-mul, mul-one, mul-le-mul_left, min-le_right}
use lib.Dec.{ltb}
use borrow.Author.Tests.{le-ltb, lt-ltb}
use Rattle.whole.specs.Pick.{pick}
use Rattle.whole.specs.Frac.{Frac, ◌≈f◌, ◌+f◌, ◌*f◌, ◌-f◌, ◌÷f◌, minf, whole, frac, ◌<f?◌}
use Rattle.whole.proofs.Frac.{<?_same, bot_of, refl≈, sym≈, trans≈, +_same, *_same, sub_same, min_same, ÷_same}
use Rattle.whole.proofs.Divide.{sub_mul}
use Rattle.whole.proofs.Pick.{same_test}
use Rattle.units.specs.Datum.{lift}
use Rattle.sheer.specs.Sheer.{lifted, unit, standard_after, standard_forward, above, lacks, after_counts, forward_share}

abbrev pub lift7 : ℕ
lift7 = 30000 * (7 * lift)

pub after_same : (L : ℕ) → frac (667 * (L + 30000)) 30000 ≈f standard_after L
unfolding standard_after unit
after_same L = omega arith

pub forward_same : (L : ℕ) → frac (1334 * (L + 30000)) 30000 ≈f standard_forward L
unfolding standard_forward unit
forward_same L = omega arith

pub standard_pos : (L : ℕ) → 0 < (standard_after L).top
unfolding standard_after unit
standard_pos L = omega arith

-- ---- a half whose standard is w, or x mm
module _ (sum w : ℕ) (x : Frac) (h : frac w 30000 ≈f x) where
  lifted_same : lifted (frac w 30000) ≈f lifted x
  lifted_same = +_same (refl≈ (whole (7 * lift))) h

  pub above_same : frac (30000 * sum - (lift7 + w)) 240 ≈f above sum x
  unfolding above
  above_same =
      trans≈ {y = (whole sum -f lifted (frac w 30000)) *f frac 1000 8} (omega arith)
      (*_same (sub_same (refl≈ (whole sum)) lifted_same) (refl≈ (frac 1000 8)))

  pub lacks_same : frac (lift7 + w - 30000 * sum) 240 ≈f lacks sum x
  unfolding lacks
  lacks_same =
      trans≈ {y = (lifted (frac w 30000) -f whole sum) *f frac 1000 8} (omega arith)
      (*_same (sub_same lifted_same (refl≈ (whole sum))) (refl≈ (frac 1000 8)))

  pub lacks_test : (whole sum <f? lifted x) ≡ ltb (30000 * sum) (lift7 + w)
  lacks_test =
      let y = lifted (frac w 30000) in
      <?_same (refl≈ (whole sum)) (+_same (refl≈ (whole (7 * lift))) (sym≈ h))
      ∙ same_test (suc (sum * y.bot)) (y.top * 1) (suc (30000 * sum)) (lift7 + w) (λ t. omega arith) (λ t. omega arith)

  pub share_same : 0 < w → 0 < x.top → frac (min w (120000 * sum - (4 * lift7 + 2 * w))) w ≈f forward_share sum x
  unfolding forward_share
  share_same p q =
      let n = 120000 * sum - (4 * lift7 + 2 * w) in
      let v = frac w 30000 in
      let z = whole sum -f lifted (frac 50 100 *f v) in
      let e : z.top ≡ 25 * n = omega arith in
      trans≈ {y = minf (whole 1) (frac n w)} (record { eq = rw (bot_of w p, one-mul w, mul-one n) (omega arith) })
      (min_same (refl≈ (whole 1))
      (trans≈ {y = z ÷f (frac 25 100 *f v)} (record { eq = rw (bot_of w p, bot_of (3000000 * (25 * w)) (omega arith), e) (omega arith) })
      (÷_same (omega arith) (omega arith) (sub_same (refl≈ (whole sum)) (+_same (refl≈ (whole (7 * lift))) (*_same (refl≈ (frac 50 100)) h))) (*_same (refl≈ (frac 25 100)) h))))

-- ---- what of an after excess counts, by the test of code
pub after_none : (a f L : ℕ) → 30000 * f < lift7 + 1334 * (L + 30000) → frac 0 240 ≈f after_counts a f L
unfolding pick after_counts
after_none a f L t = simp (lacks_test f (1334 * (L + 30000)) (standard_forward L) (forward_same L), lt-ltb (30000 * f) (lift7 + 1334 * (L + 30000)) t) (omega arith)

pub after_whole : (a f L : ℕ) → lift7 + 1334 * (L + 30000) ≤ 30000 * f → frac (30000 * a - (lift7 + 667 * (L + 30000))) 240 ≈f after_counts a f L
unfolding pick after_counts
after_whole a f L t =
    simp (lacks_test f (1334 * (L + 30000)) (standard_forward L) (forward_same L), le-ltb (30000 * f) (lift7 + 1334 * (L + 30000)) t)
    (above_same a (667 * (L + 30000)) (standard_after L) (after_same L))

-- ---- what of a forward excess counts, top / bottom: g / 240 times the share, n / w but at most 1. Where one of the two is 0 or the share is 1, w cancels
module _ (a f L g n : ℕ) (p : g ≡ 30000 * f - (lift7 + 1334 * (L + 30000))) (q : n ≡ 120000 * a - (4 * lift7 + 2 * (667 * (L + 30000)))) where
  credit : (top bottom : ℕ) → 0 < bottom → top * (667 * (L + 30000)) ≡ g * min (667 * (L + 30000)) n * bottom
      → frac top (240 * bottom) ≈f above f (standard_forward L) *f forward_share a (standard_after L)
  credit top bottom b e =
      let w = 667 * (L + 30000) in
      let h : frac g 240 ≈f above f (standard_forward L) = rw p (above_same f (1334 * (L + 30000)) (standard_forward L) (forward_same L)) in
      let k : frac (min w n) w ≈f forward_share a (standard_after L) = rw q (share_same a w (standard_after L) (after_same L) (omega arith) (standard_pos L)) in
      trans≈ {y = frac g 240 *f frac (min w n) w} (record { eq = rw (bot_of (240 * bottom) (omega arith), bot_of w (omega arith)) (omega (arith, e)) }) (*_same h k)

  pub credit_none : g * n ≡ 0 → frac 0 240 ≈f above f (standard_forward L) *f forward_share a (standard_after L)
  credit_none e = credit 0 1 (omega arith) (omega (arith, e, mul-le-mul_left g (min-le_right (667 * (L + 30000)) n)))

  pub credit_whole : 667 * (L + 30000) ≤ n → frac g 240 ≈f above f (standard_forward L) *f forward_share a (standard_after L)
  credit_whole t = let e : min (667 * (L + 30000)) n ≡ 667 * (L + 30000) = omega arith in credit g 1 (omega arith) (rw e (omega arith))

  pub credit_part : n ≤ 667 * (L + 30000) → frac (g * n) (240 * (667 * (L + 30000))) ≈f above f (standard_forward L) *f forward_share a (standard_after L)
  credit_part t = let e : min (667 * (L + 30000)) n ≡ n = omega arith in credit (g * n) (667 * (L + 30000)) (omega arith) (rw e (omega arith))

-- ---- the mean of both halves, over 480 and the bottom b of the credit
pub mean_above_lem : {x y : Frac} (c g b d : ℕ) → 0 < b → d ≡ 480 * b → frac c 240 ≈f x → frac g (240 * b) ≈f y → frac (c * b + g) d ≈f (x +f y) *f frac 1 2
mean_above_lem c g b d p e h k =
    rw e
    (trans≈ {y = (frac c 240 +f frac g (240 * b)) *f frac 1 2} (record { eq = rw (bot_of (480 * b) (omega arith), bot_of (240 * b) (omega arith)) (omega arith) })
    (*_same (+_same h k) (refl≈ (frac 1 2))))

pub mean_lacks_lem : {x : Frac} (n b d : ℕ) → 0 < b → d ≡ 480 * b → frac n 240 ≈f x → frac (n * b) d ≈f x *f frac 1 2
mean_lacks_lem n b d p e h =
    rw e
    (trans≈ {y = frac n 240 *f frac 1 2} (record { eq = rw (bot_of (480 * b) (omega arith)) (omega arith) })
    (*_same h (refl≈ (frac 1 2))))

-- ---- 0.75 - S / 2L, alone and with the cover
pub factor_words : (L S : ℕ) → 0 < L → frac (3 * L - 2 * S) (4 * L) ≈f frac 75 100 -f frac S (2 * L)
factor_words L S h =
    record {
      eq = rw (bot_of (4 * L) (omega arith), bot_of (2 * L) (omega arith))
          (omega (arith, sub_mul (3 * L) (2 * S) (100 * (2 * L)), sub_mul (75 * (2 * L)) (S * 100) (4 * L)));
    }

pub covered_words : (L S reach : ℕ) → 0 < L → frac ((3 * L - 2 * S) * reach) (8 * (L * L)) ≈f (frac 75 100 -f frac S (2 * L)) *f frac reach (2 * L)
covered_words L S reach h =
    record {
      eq = rw (bot_of (8 * (L * L)) (omega (arith, mul-pos h h)), bot_of (2 * L) (omega arith))
          (omega (arith, sub_mul (3 * L) (2 * S) (reach * (100 * (2 * L) * (2 * L))), sub_mul (75 * (2 * L)) (S * 100) (reach * (8 * (L * L)))));
    }
