-- What code has of one house is 33's and 35's fractions, and leaves room.
use Prim.Native.Nat.{ℕ, ◌*◌, ◌≤◌, ◌<◌}
use mathlib.Core.Bool.{Bool, true, false, true≢false}
use mathlib.Core.Path.{◌≡◌, refl, sym, ap, ◌∙◌}
use native.Mathlib.Omega.{arith}
use native.Mathlib.Decide.{dec_lt}
use native.Mathlib.Nat.{min-le_right, mul-one, mul-pos}
use lib.Dec.{leb, ltb}
use borrow.Author.Tests.{leb-true, ltb-true, eq-eqb}
use Rattle.whole.proofs.Pick.{pick_true, by_cases, by_both}
use Rattle.whole.proofs.Divide.{mul_most}
use Rattle.whole.specs.Frac.{Frac, whole, frac, ◌*f◌, ◌≈f◌}
use Rattle.whole.proofs.Frac.{bot_of, refl≈, trans≈, *_same}
use Rattle.units.specs.declared.Ratio.{Ratio}
use Rattle.ship.specs.declared.House.{House}
use Rattle.ship.specs.Vessel.{full_breadth}
use Rattle.houses.specs.Length.{part_of}
use Rattle.houses.specs.Height.{ordinary_height, raised_height, standard_height, height_ratio}
use Rattle.houses.specs.Effective.{limited_length, breadth_ratio, exact_effective}
use Rattle.houses.proofs.Limits.{part_most, limited_most, ratio_over}
use Rattle.effective.specs.Unrounded.{low_ordinary, low_raised, low_height, standard_of, greatest_size, greatest_length, greatest_breadth, Sized, lesser_of, ratio_of, FairRatio, breadths_of, FairBreadths, top_of, bottom_of, unrounded_of, FairLength}

-- ---- the standard height
pub low_same : (l : ℕ) (quarterdeck : Bool) → low_height l quarterdeck ≈f standard_height l quarterdeck
unfolding low_height low_ordinary low_raised standard_height ordinary_height raised_height
low_same l quarterdeck =
    by_both ◌≈f◌ quarterdeck _ _ _ _
    (λ q. by_both ◌≈f◌ (leb l 30000) _ _ _ _ (λ t. omega arith)
    (λ t. by_both ◌≈f◌ (leb l 75000) _ _ _ _ (λ u. omega arith) (λ u. by_both ◌≈f◌ (ltb l 125000) _ _ _ _ (λ v. omega arith) (λ v. omega arith))))
    (λ q. by_both ◌≈f◌ (leb l 75000) _ _ _ _ (λ t. omega arith) (λ t. by_both ◌≈f◌ (ltb l 125000) _ _ _ _ (λ u. omega arith) (λ u. omega arith)))

pub low_sized : (l : ℕ) (quarterdeck : Bool) → Sized (standard_of (low_height l quarterdeck))
unfolding low_height low_ordinary low_raised
low_sized l quarterdeck =
    let P : Frac → Type 0 = λ x. Sized (standard_of x) in
    by_cases P quarterdeck _ _
    (λ q. by_cases P (leb l 30000) _ _ (λ t. omega arith)
    (λ t. by_cases P (leb l 75000) _ _ (λ u. omega (arith, leb-true l 75000 u))
    (λ u. by_cases P (ltb l 125000) _ _ (λ v. omega (arith, ltb-true l 125000 v)) (λ v. omega arith))))
    (λ q. by_cases P (leb l 75000) _ _ (λ t. omega arith)
    (λ t. by_cases P (ltb l 125000) _ _ (λ u. omega (arith, ltb-true l 125000 u)) (λ u. omega arith)))

pub low_exact : (l : ℕ) (quarterdeck : Bool) → frac (low_height l quarterdeck).top (low_height l quarterdeck).bot ≈f standard_height l quarterdeck
low_exact l quarterdeck =
    trans≈ (record { eq = rw (bot_of (low_height l quarterdeck).bot (low_height l quarterdeck).pos) (omega arith) }) (low_same l quarterdeck)

-- ---- the ratio of heights
pub ratio_exact : (l : ℕ) (h : House) → frac (ratio_of l h).top (ratio_of l h).bottom ≈f height_ratio l h
unfolding lesser_of
ratio_exact l h =
    let q = h.quarterdeck in
    ratio_over l h (low_height l q) (low_sized l q).size_least (low_same l q)

pub fair_ratio : (l : ℕ) (h : House) → FairRatio (ratio_of l h)
unfolding lesser_of
fair_ratio l h =
    let s = low_height l h.quarterdeck in
    let z = low_sized l h.quarterdeck in
    record { at_most_1 = min-le_right (h.height.0 * s.bot) s.top; bottom_least = z.size_least; bottom_most = z.size_most }

-- ---- the ratio of breadths
pub breadths_exact : (h : House) → frac (breadths_of h).top (breadths_of h).bottom ≈f breadth_ratio h
unfolding breadths_of breadth_ratio
breadths_exact h =
    by_both (λ (r : Ratio) (x : Frac). frac r.top r.bottom ≈f x) (full_breadth h) _ _ _ _
    (λ t. omega arith) (λ t. refl≈ (frac h.breadth.0 h.beam.0))

pub breadths_full : (h : House) → full_breadth h ≡ true → breadths_of h ≡ record { top = 1; bottom = 1 }
unfolding breadths_of
breadths_full h e = pick_true (full_breadth h) _ _ e

-- a house with breadths has one for the ship
beam_least : (h : House) → FairBreadths h → full_breadth h ≡ false → 1 ≤ h.beam.0
beam_least h f e =
    elim (dec_lt 0 h.beam.0) [
      | yes p ↦ p
      | no p ↦ (
          let s : h.beam.0 ≡ 0 = omega arith in
          let b : h.breadth.0 ≡ 0 = omega (arith, f.at_most_1) in
          absurd (true≢false (sym (rw (eq-eqb h.breadth.0 0 b, eq-eqb h.beam.0 0 s) refl) ∙ e))
          )
    ]

pub fair_breadths : (h : House) → FairBreadths h → let r = breadths_of h in (r.top ≤ r.bottom) × (1 ≤ r.bottom) × (r.bottom ≤ greatest_breadth)
unfolding breadths_of
fair_breadths h f =
    by_cases (λ (r : Ratio). (r.top ≤ r.bottom) × (1 ≤ r.bottom) × (r.bottom ≤ greatest_breadth)) (full_breadth h) _ _
    (λ t. omega arith) (λ t. (f.at_most_1, beam_least h f t, f.beam_most))

-- ---- the effective length
pub unrounded_exact : (l : ℕ) (h : House) → FairBreadths h → frac (unrounded_of l h).top (unrounded_of l h).bottom ≈f exact_effective l h
unfolding top_of bottom_of exact_effective
unrounded_exact l h f =
    let s = (fair_ratio l h).bottom_least in
    let b = (fair_breadths h f).1 in
    let r = ratio_of l h in
    let c = breadths_of h in
    trans≈ {y = whole (limited_length l h) *f frac r.top r.bottom *f frac c.top c.bottom}
    (record { eq = rw (bot_of r.bottom s, bot_of c.bottom b, bot_of (r.bottom * c.bottom) (mul-pos s b)) (omega arith) })
    (*_same (*_same (refl≈ (whole (limited_length l h))) (ratio_exact l h)) (breadths_exact h))

-- the denominator of a house of full breadth is the numerator of its standard height
pub bottom_full : (l : ℕ) (h : House) → full_breadth h ≡ true → bottom_of l h ≡ (low_height l h.quarterdeck).top
unfolding bottom_of
bottom_full l h e = ap (λ (r : Ratio). (low_height l h.quarterdeck).top * r.bottom) (breadths_full h e) ∙ mul-one (low_height l h.quarterdeck).top

-- ---- room
module _ (l : ℕ) (h : House) (f : FairBreadths h) where
  pub bottom_some : 0 < bottom_of l h
  unfolding bottom_of
  bottom_some = mul-pos (low_sized l h.quarterdeck).size_least (fair_breadths h f).1

  pub top_most : top_of l h ≤ 1000 * part_of l h * bottom_of l h
  unfolding top_of bottom_of
  top_most =
      let r = (fair_ratio l h).at_most_1 in
      let b = (fair_breadths h f).0 in
      let s = (low_height l h.quarterdeck).top in
      let n = mul_most (limited_length l h) (lesser_of l h) (1000 * part_of l h) s (limited_most l h) r in
      omega (arith, mul_most (limited_length l h * lesser_of l h) (breadths_of h).top (1000 * part_of l h * s) (breadths_of h).bottom n b)

  pub fair_unrounded : l ≤ 365000 → FairLength (unrounded_of l h)
  unfolding bottom_of
  fair_unrounded p =
      let s = low_sized l h.quarterdeck in
      let b = fair_breadths h f in
      let m = mul_most (1000 * part_of l h) (bottom_of l h) greatest_length (bottom_of l h) (omega (arith, part_most l h)) (omega arith) in
      record {
        top_most = omega (arith, top_most, m);
        bottom_least = bottom_some;
        bottom_most = mul_most (low_height l h.quarterdeck).top (breadths_of h).bottom greatest_size greatest_breadth s.size_most b.2;
      }
