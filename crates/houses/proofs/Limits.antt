-- Bounds of the amounts of one house, and of E by S (34, 35).
use mathlib.Core.Path.{◌≡◌}
use mathlib.Core.Bool.{Bool, true, false}
use mathlib.Core.List.{List, [], ◌∷◌}
use Prim.Native.Nat.{ℕ, suc, ◌*◌, ◌≤◌, ◌<◌, min}
use lib.ListN.{length}
use native.Mathlib.Omega.{arith}
use native.Mathlib.Nat.{mul-one, zero-mul, zero-min, mul-pos, min-le_right, min-eq_left, min-eq_right}
use borrow.Author.Tests.{ltb-true, ltb-false}
use Rattle.whole.specs.Pick.{pick}
use Rattle.whole.proofs.Pick.{by_cases, pick_true, pick_false}
use Rattle.whole.specs.Frac.{Frac, ◌≤f◌, ◌≈f◌, ◌<f?◌, whole, frac, minf, ◌÷f◌}
use Rattle.whole.proofs.Frac.{bot_of, same, refl≤, refl≈, sym≈, trans≈, trans≤, +_mono≤, *_mono≤, min_same, ÷_same}
use Rattle.ship.specs.declared.House.{House}
use Rattle.ship.specs.Vessel.{no_house, full_breadth, house_at}
use Rattle.houses.specs.Length.{part_of, total, covered_length}
use Rattle.houses.specs.Height.{ordinary_height, raised_height, standard_height, height_ratio}
use Rattle.houses.specs.Effective.{limited_length, breadth_ratio, exact_effective, exact_effective_length}

pub part_most : (l : ℕ) (h : House) → part_of l h ≤ l
unfolding part_of
part_most l h = by_cases (λ (n : ℕ). n ≤ l) h.enclosed _ _ (λ t. omega arith) (λ t. omega arith)

pub limited_most : (l : ℕ) (h : House) → limited_length l h ≤ 1000 * part_of l h
unfolding limited_length
limited_most l h = by_cases (λ (n : ℕ). n ≤ 1000 * part_of l h) h.quarterdeck _ _ (λ t. omega arith) (λ t. omega arith)

-- no standard height is below 900 mm, so none is a zero divisor
pub standard_least : (l : ℕ) (quarterdeck : Bool) → whole 900 ≤f standard_height l quarterdeck
unfolding standard_height ordinary_height raised_height
standard_least l quarterdeck =
    let P : Frac → Type 0 = λ x. whole 900 ≤f x in
    by_cases P quarterdeck _ _
    (λ q. by_cases P _ _ _ (λ t. omega arith) (λ t. by_cases P _ _ _ (λ u. omega arith) (λ u. by_cases P _ _ _ (λ v. omega arith) (λ v. omega arith))))
    (λ q. by_cases P _ _ _ (λ t. omega arith) (λ t. by_cases P _ _ _ (λ u. omega arith) (λ u. omega arith)))

-- ---- the lesser of a height h and a standard height s, over s
module _ (h : ℕ) (s : Frac) (a : 0 < s.top) where
  -- over the standard height's own numerator
  over_standard : frac (min (h * s.bot) s.top) s.top ≈f minf (whole h) s ÷f s
  over_standard =
      record { eq = rw (bot_of s.top a, bot_of (1 * s.bot * s.top) (mul-pos (omega arith) a), mul-one s.top) (omega arith) }

  at_most_1 : minf (whole h) s ÷f s ≤f whole 1
  at_most_1 =
      trans≤ (same (sym≈ over_standard)) (record { le = rw (bot_of s.top a) (omega (arith, min-le_right (h * s.bot) s.top)) })

  -- with a test in place of the lesser height
  if_lower : minf (whole h) s ÷f s ≈f pick (whole h <f? s) (whole h ÷f s) (whole 1)
  if_lower =
      trans≈ (sym≈ over_standard)
      (by_cases (λ (x : Frac). frac (min (h * s.bot) s.top) s.top ≈f x) (whole h <f? s) _ _
      (λ t.
      let p = ltb-true (h * s.bot) (s.top * 1) t in
      rw (min-eq_left {n = h * s.bot} {m = s.top} (omega arith)) (record { eq = rw (bot_of s.top a, bot_of (1 * s.top) (omega arith)) (omega arith) }))
      (λ t.
      let p = ltb-false (h * s.bot) (s.top * 1) t in
      rw (min-eq_right {n = s.top} {m = h * s.bot} (omega arith)) (record { eq = rw (bot_of s.top a) (omega arith) })))

pub standard_some : (l : ℕ) (quarterdeck : Bool) → 0 < (standard_height l quarterdeck).top
standard_some l quarterdeck = omega (arith, standard_least l quarterdeck, (standard_height l quarterdeck).pos)

-- ---- a house's breadth by the ship's
pub breadth_most : (h : House) → h.breadth.0 ≤ h.beam.0 → breadth_ratio h ≤f whole 1
unfolding breadth_ratio
breadth_most h p = by_cases (λ (x : Frac). x ≤f whole 1) (full_breadth h) _ _ (λ t. omega arith) (λ t. omega arith)

pub breadth_full : (h : House) → full_breadth h ≡ true → breadth_ratio h ≡ whole 1
unfolding breadth_ratio
breadth_full h e = pick_true (full_breadth h) _ _ e

pub breadth_set_in : (h : House) → full_breadth h ≡ false → breadth_ratio h ≡ frac h.breadth.0 h.beam.0
unfolding breadth_ratio
breadth_set_in h e = pick_false (full_breadth h) _ _ e

-- ---- a house's height by its standard height
module _ (l : ℕ) (h : House) where
  abbrev standard : Frac
  standard = standard_height l h.quarterdeck

  -- however that is written
  pub ratio_over : (s : Frac) → 0 < s.top → s ≈f standard → frac (min (h.height.0 * s.bot) s.top) s.top ≈f height_ratio l h
  unfolding height_ratio
  ratio_over s a e =
      trans≈ (over_standard h.height.0 s a) (÷_same a (standard_some l h.quarterdeck) (min_same (refl≈ (whole h.height.0)) e) e)

  pub ratio_most : height_ratio l h ≤f whole 1
  unfolding height_ratio
  ratio_most = at_most_1 h.height.0 standard (standard_some l h.quarterdeck)

  -- 02's lesser height says 01's rule: height over standard height if lower
  pub ratio_if_lower : height_ratio l h ≈f pick (whole h.height.0 <f? standard) (whole h.height.0 ÷f standard) (whole 1)
  unfolding height_ratio
  ratio_if_lower = if_lower h.height.0 standard (standard_some l h.quarterdeck)

  -- a house no broader than the ship
  pub exact_most : h.breadth.0 ≤ h.beam.0 → exact_effective l h ≤f whole (limited_length l h)
  unfolding exact_effective
  exact_most p = trans≤ (*_mono≤ (*_mono≤ (refl≤ (whole (limited_length l h))) ratio_most) (breadth_most h p)) (omega arith)

-- E, exact, is at most 1000 S, and so at most 1000 L
pub exact_by_covered : (l : ℕ) (hs : List House) → ((k : ℕ) → k < length hs → (house_at hs k).breadth.0 ≤ (house_at hs k).beam.0)
    → exact_effective_length l hs ≤f whole (1000 * covered_length l hs)
unfolding exact_effective_length covered_length total
exact_by_covered l [] p = omega arith
exact_by_covered l (h ∷ hs) p =
    trans≤ (+_mono≤ (exact_most l h (p 0 (omega arith))) (exact_by_covered l hs (λ k q. p (suc k) (omega arith)))) (omega (arith, limited_most l h))

-- an empty house has no length
pub no_part : (l : ℕ) → part_of l no_house ≡ 0
unfolding part_of pick
no_part l = omega arith

pub no_limited : (l : ℕ) → limited_length l no_house ≡ 0
no_limited l = omega (arith, limited_most l no_house, no_part l)

-- and no height
pub no_ratio : (l : ℕ) → (height_ratio l no_house).top ≡ 0
unfolding height_ratio
no_ratio l = rw (zero-mul, zero-min, zero-mul)
