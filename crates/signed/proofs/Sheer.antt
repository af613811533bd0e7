-- Sheer with signs is the exact addition less the exact deduction of sheer's own definitions.
use mathlib.Core.Path.{◌≡◌, refl, sym, ◌∙◌}
use mathlib.Core.Bool.{Bool, true, false, ◌&&◌}
use mathlib.Core.List.{List}
use Prim.Native.Nat.{ℕ, suc, ◌+◌, ◌*◌, ◌≤◌, ◌<◌}
use native.Mathlib.Omega.{arith}
use native.Mathlib.Nat.{mul-le-mul_right, zero-mul, zero-min}
use Rattle.whole.specs.Pick.{pick}
use Rattle.whole.specs.Frac.{Frac, ◌≤f◌, ◌≈f◌, ◌<f?◌, ◌+f◌, ◌*f◌, ◌-f◌, ◌÷f◌, minf, whole, frac}
use Rattle.whole.proofs.Pick.{same_test, by_cases}
use Rattle.whole.proofs.Frac.{bot_of, both≤, refl≤, trans≤, refl≈, sym≈, trans≈, *_same, sub_le, min_left, min_right, min_greatest}
use Rattle.units.specs.declared.Ordinate.{Ordinate}
use Rattle.units.specs.Datum.{lift}
use Rattle.sheer.specs.Sheer as Sheer
use Rattle.sheer.proofs.Words.{standard_pos}
use Rattle.signed.specs.Signed.{Signed, ◌≈s◌, ◌≤s?◌, ◌<s?◌, plain, nil, ◌-s◌, ◌*s◌, ◌÷s◌}
use Rattle.signed.specs.Formula.{ordinate, weighted, after_sum, forward_sum, excess, after_counts, share, forward_counts, mean_of, mean, factor, by_sheer}
use Rattle.signed.proofs.Laws.{◌≤s◌, same≤s, trans≤s, refl≈s, sym≈s, trans≈s, +s_same, -s-same, *s_same, <s?_same, mins_same, is≤, not≤, is<, not<, plain_same, plain_back, plain_product, plain_lesser, plain_less, both_parts, nought, less_nil, less_both, from_nil, two_differences, difference_times, ÷s_same, plain_over, over_most, over_least, le_less}

-- ---- the sums, of which sheer's own are lifted
abbrev lowered : ℕ → Signed
lowered n = plain (whole n) -s plain (whole (7 * lift))

after_sum_lem : (o : List Ordinate) → after_sum o ≈s lowered (Sheer.after_sum o)
unfolding after_sum weighted ordinate Sheer.after_sum
after_sum_lem o = omega arith

forward_sum_lem : (o : List Ordinate) → forward_sum o ≈s lowered (Sheer.forward_sum o)
unfolding forward_sum weighted ordinate Sheer.forward_sum
forward_sum_lem o = omega arith

-- ---- a half whose actual sum is n, lifted, and whose standard is w
module _ (sum : Signed) (n : ℕ) (w : Frac) (h : sum ≈s lowered n) where
  from_standard : excess sum w ≈s (plain (whole n) -s plain (Sheer.lifted w)) *s plain (frac 1000 8)
  unfolding excess
  from_standard =
      *s_same (trans≈s (-s-same h (refl≈s (plain w))) (less_both (whole n) (whole (7 * lift)) w)) (refl≈s (plain (frac 1000 8)))

  excess_parts : excess sum w ≈s plain (Sheer.above n w) -s plain (Sheer.lacks n w)
  unfolding Sheer.above Sheer.lacks
  excess_parts =
      let x = whole n in
      let y = Sheer.lifted w in
      let k = frac 1000 8 in
      trans≈s from_standard (trans≈s (*s_same (sym≈s (both_parts x y)) (refl≈s (plain k))) (difference_times (x -f y) (y -f x) k))

  lacks_test : (excess sum w <s? nil) ≡ (whole n <f? Sheer.lifted w)
  lacks_test =
      let x = whole n in
      let y = Sheer.lifted w in
      let d = (plain x -s plain y) *s plain (frac 1000 8) in
      <s?_same from_standard (refl≈s nil)
      ∙ same_test (suc (d.plus * 1 + 0 * d.bot)) (0 * d.bot + d.minus * 1) (suc (x.top * y.bot)) (y.top * x.bot) (λ t. omega arith) (λ t. omega arith)

  none_lacks : nil ≤s excess sum w → (Sheer.lacks n w).top ≡ 0
  unfolding Sheer.lacks
  none_lacks t = let g = trans≤s t (same≤s from_standard) in omega arith

  none_above : excess sum w ≤s nil → (Sheer.above n w).top ≡ 0
  unfolding Sheer.above
  none_above t = let g = trans≤s (same≤s (sym≈s from_standard)) t in omega arith

  -- ---- the share: from 75%, at 50% or less, and between
  share_whole : 0 < w.top → plain (frac 75 100 *f w) ≤s sum → plain (whole 1) ≈s plain (Sheer.forward_share n w)
  unfolding Sheer.forward_share
  share_whole p t =
      let q = frac 25 100 *f w in
      let y = Sheer.lifted (frac 50 100 *f w) in
      let d = whole n -f y in
      let g = trans≤s t (same≤s h) in
      let u : q +f y ≤f whole n = omega (arith, mul-le-mul_right w.bot g.le) in
      plain_same (both≤ (min_greatest (refl≤ (whole 1)) (over_least d q (omega arith) (le_less (whole n) y q u))) (min_left (whole 1) (d ÷f q)))

  share_none : sum ≤s plain (frac 50 100 *f w) → nil ≈s plain (Sheer.forward_share n w)
  unfolding Sheer.forward_share
  share_none t =
      let q = frac 25 100 *f w in
      let y = Sheer.lifted (frac 50 100 *f w) in
      let d = whole n -f y in
      let g = trans≤s (same≤s (sym≈s h)) t in
      let e : d.top ≡ 0 = omega arith in
      let z : (d ÷f q).top ≡ 0 = rw (e, zero-mul) in
      plain_same (both≤ (omega arith) (trans≤ (min_right (whole 1) (d ÷f q)) (omega (arith, z))))

  share_between : 0 < w.top → plain (frac 50 100 *f w) ≤s sum → sum ≤s plain (frac 75 100 *f w)
      → (sum -s plain (frac 50 100 *f w)) ÷s (frac 25 100 *f w) ≈s plain (Sheer.forward_share n w)
  unfolding Sheer.forward_share
  share_between p t u =
      let q = frac 25 100 *f w in
      let v = frac 50 100 *f w in
      let y = Sheer.lifted v in
      let d = whole n -f y in
      let g = trans≤s t (same≤s h) in
      let k = trans≤s (same≤s (sym≈s h)) u in
      let low : y ≤f whole n = omega arith in
      let high : whole n ≤f q +f y = omega (arith, mul-le-mul_right w.bot k.le) in
      let e : sum -s plain v ≈s plain d = trans≈s (-s-same h (refl≈s (plain v))) (trans≈s (less_both (whole n) (whole (7 * lift)) v) (sym≈s (plain_less (whole n) y low))) in
      trans≈s (÷s_same q (omega arith) e)
      (trans≈s (sym≈s (plain_over d q))
      (plain_same (both≤ (min_greatest (over_most d q (omega arith) (sub_le (whole n) y q high)) (refl≤ (d ÷f q))) (min_right (whole 1) (d ÷f q)))))

  share_same : 0 < w.top → share sum w ≈s plain (Sheer.forward_share n w)
  unfolding share
  share_same p =
      let s : Signed → Type 0 = λ x. x ≈s plain (Sheer.forward_share n w) in
      by_cases s (plain (frac 75 100 *f w) ≤s? sum) _ _ (λ t. share_whole p (is≤ t))
      (λ t. by_cases s (sum ≤s? plain (frac 50 100 *f w)) _ _ (λ u. share_none (is≤ u)) (λ u. share_between p (not≤ u) (not≤ t)))

  -- where nothing is lacking it is whole
  unshared : 0 < w.top → nil ≤s excess sum w → Sheer.forward_share n w ≈f whole 1
  unfolding excess
  unshared p t = let g : plain w ≤s sum = omega arith in sym≈ (plain_back (share_whole p (trans≤s (omega arith) g)))

-- ---- what counts of each half: p above and q lacking, of which one is 0
after_counts_lem : (b c : Bool) (a : Signed) (p q : Frac) → a ≈s plain p -s plain q → (b ≡ true → q.top ≡ 0) → (b ≡ false → p.top ≡ 0)
    → pick (b && c) nil a ≈s plain (pick c (whole 0) p) -s plain q
unfolding pick
after_counts_lem true true a p q h f g = trans≈s (sym≈s (less_nil nil)) (-s-same (refl≈s nil) (sym≈s (nought (f refl))))
after_counts_lem true false a p q h f g = h
after_counts_lem false true a p q h f g = trans≈s h (-s-same (nought (g refl)) (refl≈s (plain q)))
after_counts_lem false false a p q h f g = h

forward_counts_lem : (b c : Bool) (a t : Signed) (p q u : Frac) → a ≈s plain p -s plain q → t ≈s plain u
    → (b ≡ true → q.top ≡ 0) → (b ≡ false → p.top ≡ 0) → (c ≡ false → u ≈f whole 1)
    → pick (b && c) (a *s t) a ≈s plain (p *f u) -s plain q
unfolding pick
forward_counts_lem true true a t p q u h k f g e =
    let z = nought (f refl) in
    let x : a ≈s plain p = trans≈s h (trans≈s (-s-same (refl≈s (plain p)) z) (less_nil (plain p))) in
    trans≈s (*s_same x k)
    (trans≈s (sym≈s (plain_product p u)) (trans≈s (sym≈s (less_nil (plain (p *f u)))) (-s-same (refl≈s (plain (p *f u))) (sym≈s z))))
forward_counts_lem true false a t p q u h k f g e =
    trans≈s h (-s-same (plain_same (trans≈ {y = p *f whole 1} (omega arith) (*_same (refl≈ p) (sym≈ (e refl))))) (refl≈s (plain q)))
forward_counts_lem false c a t p q u h k f g e =
    let z = g refl in
    trans≈s h (-s-same (trans≈s (nought z) (sym≈s (nought {x = p *f u} (rw (z, zero-mul))))) (refl≈s (plain q)))

module _ (o : List Ordinate) (L : ℕ) where
  mean_parts : mean o L ≈s plain (Sheer.mean_above (Sheer.after_sum o) (Sheer.forward_sum o) L) -s plain (Sheer.mean_lacks (Sheer.after_sum o) (Sheer.forward_sum o) L)
  unfolding mean mean_of after_counts forward_counts Sheer.mean_above Sheer.mean_lacks Sheer.after_counts
  mean_parts =
      let n = Sheer.after_sum o in
      let m = Sheer.forward_sum o in
      let v = Sheer.standard_after L in
      let w = Sheer.standard_forward L in
      let a = excess (after_sum o) v in
      let f = excess (forward_sum o) w in
      let h = after_sum_lem o in
      let k = forward_sum_lem o in
      let x = after_counts_lem (nil <s? a) (f <s? nil) a (Sheer.above n v) (Sheer.lacks n v) (excess_parts (after_sum o) n v h)
      (λ t. none_lacks (after_sum o) n v h (is< t)) (λ t. none_above (after_sum o) n v h (not< t)) in
      let y = forward_counts_lem (nil <s? f) (a <s? nil) f (share (after_sum o) v) (Sheer.above m w) (Sheer.lacks m w) (Sheer.forward_share n v)
      (excess_parts (forward_sum o) m w k) (share_same (after_sum o) n v h (standard_pos L))
      (λ t. none_lacks (forward_sum o) m w k (is< t)) (λ t. none_above (forward_sum o) m w k (not< t))
      (λ t. unshared (after_sum o) n v h (standard_pos L) (not< t)) in
      let c = pick (f <s? nil) (whole 0) (Sheer.above n v) in
      let g = Sheer.above m w *f Sheer.forward_share n v in
      rw (sym (lacks_test (forward_sum o) m w k))
      (trans≈s (*s_same (trans≈s (+s_same x y) (two_differences c (Sheer.lacks n v) g (Sheer.lacks m w))) (refl≈s (plain (frac 1 2))))
      (difference_times (c +f g) (Sheer.lacks n v +f Sheer.lacks m w) (frac 1 2)))

-- ---- the correction
factor_plain : (L S : ℕ) → 0 < L → S ≤ L → factor L S ≈s plain (frac 75 100 -f frac S (2 * L))
unfolding factor
factor_plain L S p h = sym≈s (plain_less (frac 75 100) (frac S (2 * L)) (record { le = rw (bot_of (2 * L) (omega arith)) (omega arith) }))

by_sheer_lem : (m : Signed) (x y : Frac) (L S reach : ℕ) → 0 < L → S ≤ L → m ≈s plain x -s plain y
    → by_sheer m L S reach ≈s plain (Sheer.exact_addition (y -f x) L S) -s plain (Sheer.exact_deduction (x -f y) L S reach)
unfolding by_sheer Sheer.exact_addition Sheer.exact_deduction
by_sheer_lem m x y L S reach p s h =
    let f = frac 75 100 -f frac S (2 * L) in
    let c = frac reach (2 * L) in
    let l = frac 125 100 *f whole L in
    let add = (y -f x) *f f in
    let take = minf ((x -f y) *f f *f c) l in
    let k = factor_plain L S p s in
    by_cases (λ (t : Signed). t ≈s plain add -s plain take) (m <s? nil) _ _
    (λ t.
    let g : plain x -s plain y ≤s nil = trans≤s (same≤s (sym≈s h)) (is< t) in
    let u : x ≤f y = omega arith in
    let z : (x -f y).top ≡ 0 = omega arith in
    let e : nil -s m ≈s plain (y -f x) =
    trans≈s (-s-same (refl≈s nil) h) (trans≈s (from_nil x y) (sym≈s (plain_less y x u))) in
    trans≈s (*s_same e k)
    (trans≈s (sym≈s (plain_product (y -f x) f))
    (trans≈s (sym≈s (less_nil (plain add))) (-s-same (refl≈s (plain add)) (sym≈s (nought {x = take} (rw (z, zero-mul, zero-mul, zero-mul, zero-min))))))))
    (λ t.
    let g : nil ≤s plain x -s plain y = trans≤s (not< t) (same≤s h) in
    let u : y ≤f x = omega arith in
    let z : (y -f x).top ≡ 0 = omega arith in
    let e : m ≈s plain (x -f y) = trans≈s h (sym≈s (plain_less x y u)) in
    let d = trans≈s (*s_same e k) (sym≈s (plain_product (x -f y) f)) in
    let r = trans≈s (*s_same d (refl≈s (plain c))) (sym≈s (plain_product ((x -f y) *f f) c)) in
    -s-same (sym≈s (nought {x = add} (rw (z, zero-mul)))) (trans≈s (mins_same r (refl≈s (plain l))) (sym≈s (plain_lesser ((x -f y) *f f *f c) l))))

pub sheer_signed : (o : List Ordinate) (L S reach : ℕ) → 0 < L → S ≤ L
    → by_sheer (mean o L) L S reach ≈s plain (Sheer.exact_added o L S) -s plain (Sheer.exact_deducted o L S reach)
unfolding Sheer.exact_added Sheer.exact_deducted Sheer.exact_excess Sheer.exact_deficiency
sheer_signed o L S reach p h =
    by_sheer_lem (mean o L) (Sheer.mean_above (Sheer.after_sum o) (Sheer.forward_sum o) L) (Sheer.mean_lacks (Sheer.after_sum o) (Sheer.forward_sum o) L) L S reach p h (mean_parts o L)
