-- 31 with signs is what depth adds less what it takes; and it rises with D.
use Prim.Native.Nat.{ℕ, ◌*◌, ◌≤◌}
use mathlib.Core.Path.{◌≡◌}
use native.Mathlib.Omega.{arith}
use native.Mathlib.Nat.{mul-le-mul_right, zero-mul}
use Rattle.whole.specs.Pick.{pick}
use Rattle.whole.specs.Frac.{Frac, ◌≤f◌, ◌≈f◌, ◌*f◌, ◌-f◌, whole, frac}
use Rattle.whole.proofs.Pick.{by_cases}
use Rattle.whole.proofs.Frac.{refl≈, trans≈, *_same, spread}
use Rattle.corrections.specs.Depth31.{rate, exact_depth_addition, exact_depth_reduction}
use Rattle.corrections.proofs.Depth31.{addition_untested, reduction_untested, exact_addition_rises, exact_reduction_falls}
use Rattle.signed.specs.Signed.{Signed, ◌≈s◌, ◌<s?◌, plain, nil, ◌-s◌, ◌*s◌}
use Rattle.signed.specs.Formula.{by_depth}
use Rattle.signed.proofs.Laws.{◌≤s◌, refl≈s, sym≈s, trans≈s, same≤s, trans≤s, -s-same, *s_same, is<, not<, plain_same, plain_product, plain_less, nought, less_nil, from_nil, difference_times}

-- a difference that counts by r where it is below zero, in the two parts of which one is nothing
in_parts : (m : Signed) (x y r add take : Frac) → m ≈s plain x -s plain y → add ≈f x -f y → take ≈f (y -f x) *f r
    → pick (m <s? nil) (m *s plain r) m ≈s plain add -s plain take
in_parts m x y r add take h a b =
    by_cases (λ (t : Signed). t ≈s plain add -s plain take) (m <s? nil) _ _
    (λ t.
    let g : plain x -s plain y ≤s nil = trans≤s (same≤s (sym≈s h)) (is< t) in
    let u : x ≤f y = omega arith in
    let z : (x -f y).top ≡ 0 = omega arith in
    let k : plain take ≈s plain (y *f r) -s plain (x *f r) =
    trans≈s (plain_same b) (trans≈s (plain_product (y -f x) r) (trans≈s (*s_same (plain_less y x u) (refl≈s (plain r))) (difference_times y x r))) in
    trans≈s (*s_same h (refl≈s (plain r)))
    (trans≈s (difference_times x y r)
    (trans≈s (sym≈s (from_nil (y *f r) (x *f r))) (-s-same (sym≈s (trans≈s (plain_same a) (nought {x = x -f y} z))) (sym≈s k)))))
    (λ t.
    let g : nil ≤s plain x -s plain y = trans≤s (not< t) (same≤s h) in
    let u : y ≤f x = omega arith in
    let z : (y -f x).top ≡ 0 = omega arith in
    let k : plain take ≈s nil = trans≈s (plain_same b) (nought {x = (y -f x) *f r} (rw (z, zero-mul))) in
    trans≈s h
    (trans≈s (sym≈s (plain_less x y u))
    (trans≈s (sym≈s (less_nil (plain (x -f y)))) (-s-same (sym≈s (plain_same a)) (sym≈s k)))))

pub depth_signed : (L D : ℕ) (ratio : Frac) → by_depth L D ratio ≈s plain (exact_depth_addition L D) -s plain (exact_depth_reduction L D ratio)
unfolding by_depth
depth_signed L D ratio =
    let x = whole D in
    let y = frac L 15 in
    let k = rate L in
    in_parts ((plain x -s plain y) *s plain k) (x *f k) (y *f k) ratio (exact_depth_addition L D) (exact_depth_reduction L D ratio)
    (difference_times x y k)
    (trans≈ (addition_untested L D) (spread k x y))
    (trans≈ (reduction_untested L D ratio) (*_same (spread k y x) (refl≈ ratio)))

-- ---- a deeper ship is never given less by 31
less_mono : {x y z w : Frac} → x ≤f y → w ≤f z → plain x -s plain z ≤s plain y -s plain w
less_mono {x} {y} {z} {w} h k = omega (arith, mul-le-mul_right (z.bot * w.bot) h.le, mul-le-mul_right (x.bot * y.bot) k.le)

pub depth_rises : (L D E : ℕ) (ratio : Frac) → D ≤ E → by_depth L D ratio ≤s by_depth L E ratio
depth_rises L D E ratio h =
    trans≤s (same≤s (depth_signed L D ratio))
    (trans≤s (less_mono (exact_addition_rises L D E h) (exact_reduction_falls L D E ratio h)) (same≤s (sym≈s (depth_signed L E ratio))))
