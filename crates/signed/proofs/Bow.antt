-- The bow's freeboard with signs is the one difference of bow's own definition, before it stops at zero.
use mathlib.Core.Path.{◌≡◌}
use mathlib.Core.Bool.{Bool, true, false}
use mathlib.Core.List.{List}
use Prim.Native.Nat.{ℕ, suc, ◌+◌, ◌*◌}
use native.Mathlib.Omega.{arith}
use lib.Dec.{ltb}
use Rattle.whole.specs.Pick.{pick}
use Rattle.whole.specs.Frac.{Frac, ◌≤f◌, ◌+f◌, ◌*f◌, ◌-f◌, whole, frac}
use Rattle.whole.proofs.Pick.{same_test}
use Rattle.units.specs.declared.Ordinate.{Ordinate}
use Rattle.units.specs.Datum.{lift, sheer_at}
use Rattle.bow.specs.Bow as Bow
use Rattle.bow.proofs.Cubic.{cubic_sum}
use Rattle.signed.specs.Signed.{◌≈s◌, ◌<s?◌, plain, nil, ◌+s◌, ◌-s◌, ◌*s◌}
use Rattle.signed.specs.Formula.{ordinate, b1, b2, sheer_taken, bow}
use Rattle.signed.proofs.Laws.{refl≈s, sym≈s, trans≈s, -s-same, *s_same, plain_product, plain_less, both_parts}

-- ---- b1 is never below zero
last_taken : (x y z : Frac) → plain x -s plain y +s plain z ≈s plain (x +f z) -s plain y
last_taken x y z = omega arith

b1_rises : (L : ℕ) → whole 1875 *f Bow.hundreds L *f Bow.hundreds L ≤f whole 6075 *f Bow.hundreds L +f whole 200 *f Bow.hundreds L *f Bow.hundreds L *f Bow.hundreds L
unfolding Bow.hundreds
b1_rises L = omega (arith, cubic_sum L)

b1_plain : (L : ℕ) → b1 L ≈s plain (Bow.exact_b1 L)
unfolding b1 Bow.exact_b1
b1_plain L =
    let x = Bow.hundreds L in
    let p = whole 6075 *f x in
    let q = whole 1875 *f x *f x in
    let r = whole 200 *f x *f x *f x in
    trans≈s (*s_same (refl≈s (plain (whole 1000))) (trans≈s (last_taken p q r) (sym≈s (plain_less (p +f r) q (b1_rises L)))))
    (sym≈s (plain_product (whole 1000) (p +f r -f q)))

-- ---- b2, by what adds to it and what takes from it
two_and_two : (x y z w : Frac) → plain x +s plain y -s plain z -s plain w ≈s plain (x +f y) -s plain (z +f w)
two_and_two x y z w = omega arith

b2_parts : (L M cb cwf : ℕ) → b2 L M cb cwf ≈s plain (Bow.exact_b2_above L M cb cwf) -s plain (Bow.exact_b2_below L M cb cwf)
unfolding b2 Bow.exact_b2_above Bow.exact_b2_below Bow.rises Bow.falls
b2_parts L M cb cwf =
    let p = frac 208 100 in
    let q = frac 609 1000 *f frac cb 10000 in
    let r = frac 1603 1000 *f frac cwf 10000 in
    let s = frac 129 10000 *f frac (100 * L) (85 * M) in
    trans≈s (two_and_two p q r s) (sym≈s (both_parts (p +f q) (r +f s)))

factor_first : (k x y : Frac) → plain k *s (plain x -s plain y) ≈s plain (k *f x) -s plain (k *f y)
factor_first k x y = omega arith

-- ---- the sheer at FP, of which bow's own is lifted
above_zero : (n : ℕ) → (nil <s? plain (whole n) -s plain (whole lift)) ≡ ltb lift n
above_zero n =
    let d = plain (whole n) -s plain (whole lift) in
    same_test (suc (0 * d.bot + d.minus * 1)) (d.plus * 1 + 0 * d.bot) (suc lift) n (λ t. omega arith) (λ t. omega arith)

taken_by : (t b : Bool) → t ≡ b → (f : ℕ)
    → pick t (plain (whole 1000) *s (plain (whole f) -s plain (whole lift))) nil
    ≈s plain (whole (pick b (1000 * f) 0)) -s plain (whole (pick b (1000 * lift) 0))
unfolding pick
taken_by t true e f = rw e (omega arith)
taken_by t false e f = rw e (omega arith)

sheer_taken_lem : (o : List Ordinate)
    → sheer_taken o ≈s plain (whole (Bow.sheer_taken (sheer_at o 4) (sheer_at o 5))) -s plain (whole (Bow.sheer_taken (sheer_at o 4) lift))
unfolding sheer_taken ordinate Bow.sheer_taken
sheer_taken_lem o = taken_by _ _ (above_zero (sheer_at o 4)) (sheer_at o 5)

all_taken : (x y : Frac) (f l h : ℕ)
    → plain x -s plain y -s (plain (whole f) -s plain (whole l)) -s plain (whole h) ≈s plain (x +f whole l) -s plain (y +f whole (f + h))
all_taken x y f l h = omega arith

pub bow_signed : (o : List Ordinate) (L M cb cwf l height : ℕ)
    → bow o L M cb cwf l height
    ≈s plain (Bow.exact_b1 L *f Bow.exact_b2_above L M cb cwf +f whole (Bow.sheer_taken (sheer_at o 4) lift))
    -s plain (Bow.exact_b1 L *f Bow.exact_b2_below L M cb cwf +f whole (Bow.sheer_taken (sheer_at o 4) (sheer_at o 5) + Bow.forecastle_taken L l height))
unfolding bow
bow_signed o L M cb cwf l height =
    let k = Bow.exact_b1 L in
    let x = Bow.exact_b2_above L M cb cwf in
    let y = Bow.exact_b2_below L M cb cwf in
    let f = Bow.forecastle_taken L l height in
    let p = trans≈s (*s_same (b1_plain L) (b2_parts L M cb cwf)) (factor_first k x y) in
    trans≈s (-s-same (-s-same p (sheer_taken_lem o)) (refl≈s (plain (whole f))))
    (all_taken (k *f x) (k *f y) (Bow.sheer_taken (sheer_at o 4) (sheer_at o 5)) (Bow.sheer_taken (sheer_at o 4) lift) f)
