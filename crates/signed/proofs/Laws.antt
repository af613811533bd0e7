-- Laws of specs/Signed.antt.
use mathlib.Core.Path.{◌≡◌, sym, ap, ◌∙◌}
use mathlib.Core.Bool.{true, false, not}
use Prim.Native.Nat.{ℕ, ◌+◌, ◌*◌, ◌≤◌, ◌<◌}
use native.Mathlib.Omega.{arith}
use native.Mathlib.Nat.{mul-pos, mul-le-mul_right, le_of_mul-le-mul_right, le_of_lt}
use native.Mathlib.Decide.{dec_lt}
use borrow.Author.Tests.{leb-true, leb-false, le-leb, lt-leb, le-ltb, lt-ltb, not-true, not-false}
use Rattle.whole.specs.Frac.{Frac, ◌≤f◌, ◌≈f◌, ◌+f◌, ◌*f◌, ◌-f◌, ◌÷f◌, maxf, minf, whole}
use Rattle.whole.proofs.Pick.{same_test, by_cases}
use Rattle.whole.proofs.Divide.{sub_mul}
use Rattle.whole.proofs.Frac.{bot_of, refl≤, both≤, min_left, min_right, min_greatest, max_left, max_right, max_least}
use Rattle.signed.specs.Signed.{Signed, ◌≈s◌, ◌≤s?◌, ◌<s?◌, plain, nil, ◌+s◌, ◌-s◌, ◌*s◌, ◌÷s◌, maxs, mins}

infix 50 ◌≤s◌
-- ---- order
pub record ◌≤s◌ (x y : Signed) : Type 0 where
  pub le : x.plus * y.bot + y.minus * x.bot ≤ y.plus * x.bot + x.minus * y.bot

pub refl≤s : (x : Signed) → x ≤s x
refl≤s x = omega arith

pub trans≤s : {x y z : Signed} → x ≤s y → y ≤s z → x ≤s z
trans≤s {x} {y} {z} h k =
    record { le = le_of_mul-le-mul_right {k = y.bot} (omega (arith, mul-le-mul_right z.bot h.le, mul-le-mul_right x.bot k.le)) y.pos }

pub same≤s : {x y : Signed} → x ≈s y → x ≤s y
same≤s h = omega arith

pub both≤s : {x y : Signed} → x ≤s y → y ≤s x → x ≈s y
both≤s h k = omega arith

-- ---- equal in value, and that every operation and test keeps it
pub refl≈s : (x : Signed) → x ≈s x
refl≈s x = omega arith

pub sym≈s : {x y : Signed} → x ≈s y → y ≈s x
sym≈s h = omega arith

pub trans≈s : {x y z : Signed} → x ≈s y → y ≈s z → x ≈s z
trans≈s h k = both≤s (trans≤s (same≤s h) (same≤s k)) (trans≤s (same≤s (sym≈s k)) (same≤s (sym≈s h)))

-- each in its first place, and turned
+s_left : {x y : Signed} (z : Signed) → x ≈s y → x +s z ≈s y +s z
+s_left {x} {y} z h = omega (arith, ap (λ (t : ℕ). t * (z.bot * z.bot)) h.eq)

-s-left : {x y : Signed} (z : Signed) → x ≈s y → x -s z ≈s y -s z
-s-left {x} {y} z h = omega (arith, ap (λ (t : ℕ). t * (z.bot * z.bot)) h.eq)

-s-right : {x y : Signed} (z : Signed) → x ≈s y → z -s x ≈s z -s y
-s-right {x} {y} z h = omega (arith, ap (λ (t : ℕ). t * (z.bot * z.bot)) h.eq)

*s_left : {x y : Signed} (z : Signed) → x ≈s y → x *s z ≈s y *s z
*s_left {x} {y} z h =
    omega (arith, ap (λ (t : ℕ). t * (z.plus * z.bot)) h.eq, ap (λ (t : ℕ). t * (z.minus * z.bot)) h.eq)

+s_turned : (x y : Signed) → x +s y ≈s y +s x
+s_turned x y = omega arith

*s_turned : (x y : Signed) → x *s y ≈s y *s x
*s_turned x y = omega arith

pub +s_same : {x y z w : Signed} → x ≈s y → z ≈s w → x +s z ≈s y +s w
+s_same {x} {y} {z} {w} h k = trans≈s (+s_left z h) (trans≈s (+s_turned y z) (trans≈s (+s_left y k) (+s_turned w y)))

pub -s-same : {x y z w : Signed} → x ≈s y → z ≈s w → x -s z ≈s y -s w
-s-same {y = y} {z = z} h k = trans≈s (-s-left z h) (-s-right y k)

pub *s_same : {x y z w : Signed} → x ≈s y → z ≈s w → x *s z ≈s y *s w
*s_same {x} {y} {z} {w} h k = trans≈s (*s_left z h) (trans≈s (*s_turned y z) (trans≈s (*s_left y k) (*s_turned w y)))

pub ≤s?_same : {x y z w : Signed} → x ≈s y → z ≈s w → (x ≤s? z) ≡ (y ≤s? w)
≤s?_same {x} {y} {z} {w} h k =
    same_test _ _ _ _
    (λ t. (trans≤s (same≤s (sym≈s h)) (trans≤s (record { le = t }) (same≤s k))).le)
    (λ t. (trans≤s (same≤s h) (trans≤s (record { le = t }) (same≤s (sym≈s k)))).le)

-- what a test tells
pub is≤ : {x y : Signed} → (x ≤s? y) ≡ true → x ≤s y
is≤ {x} {y} t = record { le = leb-true (x.plus * y.bot + y.minus * x.bot) (y.plus * x.bot + x.minus * y.bot) t }

pub not≤ : {x y : Signed} → (x ≤s? y) ≡ false → y ≤s x
not≤ {x} {y} t = record { le = le_of_lt (leb-false (x.plus * y.bot + y.minus * x.bot) (y.plus * x.bot + x.minus * y.bot) t) }

turned_test : (x y : Signed) → (x <s? y) ≡ not (y ≤s? x)
turned_test x y =
    let a = x.plus * y.bot + y.minus * x.bot in
    let b = y.plus * x.bot + x.minus * y.bot in
    elim (dec_lt a b) [
      | yes t ↦ lt-ltb a b t ∙ sym (ap not (lt-leb b a t))
      | no t ↦ (let h : b ≤ a = omega arith in le-ltb a b h ∙ sym (ap not (le-leb b a h)))
    ]

pub is< : {x y : Signed} → (x <s? y) ≡ true → x ≤s y
is< {x} {y} t = not≤ (not-true (y ≤s? x) (sym (turned_test x y) ∙ t))

pub not< : {x y : Signed} → (x <s? y) ≡ false → y ≤s x
not< {x} {y} t = is≤ (not-false (y ≤s? x) (sym (turned_test x y) ∙ t))

pub <s?_same : {x y z w : Signed} → x ≈s y → z ≈s w → (x <s? z) ≡ (y <s? w)
<s?_same {x} {y} {z} {w} h k = turned_test x z ∙ ap not (≤s?_same k h) ∙ sym (turned_test y w)

-- ---- the greater and the lesser
pub maxs_left : (x y : Signed) → x ≤s maxs x y
unfolding maxs
maxs_left x y = by_cases (λ (t : Signed). x ≤s t) (x ≤s? y) y x (λ t. is≤ t) (λ t. refl≤s x)

pub maxs_right : (x y : Signed) → y ≤s maxs x y
unfolding maxs
maxs_right x y = by_cases (λ (t : Signed). y ≤s t) (x ≤s? y) y x (λ t. refl≤s y) (λ t. not≤ t)

pub maxs_least : {x y z : Signed} → x ≤s z → y ≤s z → maxs x y ≤s z
unfolding maxs
maxs_least {x} {y} {z} h k = by_cases (λ (t : Signed). t ≤s z) (x ≤s? y) y x (λ t. k) (λ t. h)

pub maxs_same : {x y z w : Signed} → x ≈s y → z ≈s w → maxs x z ≈s maxs y w
maxs_same {x} {y} {z} {w} h k =
    both≤s
    (maxs_least (trans≤s (same≤s h) (maxs_left y w)) (trans≤s (same≤s k) (maxs_right y w)))
    (maxs_least (trans≤s (same≤s (sym≈s h)) (maxs_left x z)) (trans≤s (same≤s (sym≈s k)) (maxs_right x z)))

mins_left : (x y : Signed) → mins x y ≤s x
unfolding mins
mins_left x y = by_cases (λ (t : Signed). t ≤s x) (x ≤s? y) x y (λ t. refl≤s x) (λ t. not≤ t)

mins_right : (x y : Signed) → mins x y ≤s y
unfolding mins
mins_right x y = by_cases (λ (t : Signed). t ≤s y) (x ≤s? y) x y (λ t. is≤ t) (λ t. refl≤s y)

mins_greatest : {x y z : Signed} → z ≤s x → z ≤s y → z ≤s mins x y
unfolding mins
mins_greatest {x} {y} {z} h k = by_cases (λ (t : Signed). z ≤s t) (x ≤s? y) x y (λ t. h) (λ t. k)

pub mins_same : {x y z w : Signed} → x ≈s y → z ≈s w → mins x z ≈s mins y w
mins_same {x} {y} {z} {w} h k =
    both≤s
    (mins_greatest (trans≤s (mins_left x z) (same≤s h)) (trans≤s (mins_right x z) (same≤s k)))
    (mins_greatest (trans≤s (mins_left y w) (same≤s (sym≈s h))) (trans≤s (mins_right y w) (same≤s (sym≈s k))))

-- a factor that is not below zero keeps the order
pub times_plain : {x y : Signed} (k : Frac) → x ≤s y → x *s plain k ≤s y *s plain k
times_plain k h = omega (arith, mul-le-mul_right (k.top * k.bot) h.le)

-- ---- fractions as they are
pub plain_same : {x y : Frac} → x ≈f y → plain x ≈s plain y
plain_same h = omega arith

pub plain_back : {x y : Frac} → plain x ≈s plain y → x ≈f y
plain_back h = omega arith

pub order_plain : {x y : Frac} → plain x ≤s plain y → x ≤f y
order_plain h = omega arith

pub plain_product : (x y : Frac) → plain (x *f y) ≈s plain x *s plain y
plain_product x y = omega arith

pub plain_lesser : (x y : Frac) → plain (minf x y) ≈s mins (plain x) (plain y)
unfolding mins
plain_lesser x y =
    by_cases (λ (t : Signed). plain (minf x y) ≈s t) (plain x ≤s? plain y) (plain x) (plain y)
    (λ t. plain_same (both≤ (min_left x y) (min_greatest (refl≤ x) (order_plain (is≤ t)))))
    (λ t. plain_same (both≤ (min_right x y) (min_greatest (order_plain (not≤ t)) (refl≤ y))))

pub plain_greater : (x y : Frac) → plain (maxf x y) ≈s maxs (plain x) (plain y)
unfolding maxs
plain_greater x y =
    by_cases (λ (t : Signed). plain (maxf x y) ≈s t) (plain x ≤s? plain y) (plain y) (plain x)
    (λ t. plain_same (both≤ (max_least (order_plain (is≤ t)) (refl≤ y)) (max_right x y)))
    (λ t. plain_same (both≤ (max_least (refl≤ x) (order_plain (not≤ t))) (max_left x y)))

-- a difference that does not stop
pub plain_less : (x y : Frac) → y ≤f x → plain (x -f y) ≈s plain x -s plain y
plain_less x y h = omega (arith, sub_mul (x.top * y.bot) (y.top * x.bot) (x.bot * y.bot), mul-le-mul_right (x.bot * y.bot) h.le)

-- what stands above less what is lacking is the signed difference
pub both_parts : (x y : Frac) → plain (x -f y) -s plain (y -f x) ≈s plain x -s plain y
both_parts x y =
    omega (
      arith,
      sub_mul (x.top * y.bot) (y.top * x.bot) (x.bot * y.bot * (x.bot * y.bot)),
      sub_mul (y.top * x.bot) (x.top * y.bot) (x.bot * y.bot * (x.bot * y.bot)),
    )

-- one that stops is the greater of zero and the signed one
pub stopped : (x y : Frac) → plain (x -f y) ≈s maxs nil (plain x -s plain y)
unfolding maxs
stopped x y =
    by_cases (λ (t : Signed). plain (x -f y) ≈s t) (nil ≤s? plain x -s plain y) (plain x -s plain y) nil
    (λ t. let h : nil ≤s plain x -s plain y = is≤ t in plain_less x y (omega arith))
    (λ t. let h : plain x -s plain y ≤s nil = not≤ t in let e : (x -f y).top ≡ 0 = omega arith in omega arith)

-- ---- how differences of fractions are worked
pub nought : {x : Frac} → x.top ≡ 0 → plain x ≈s nil
nought e = omega (arith, e)

pub less_nil : (x : Signed) → x -s nil ≈s x
less_nil x = omega arith

pub less_both : (x y z : Frac) → plain x -s plain y -s plain z ≈s plain x -s plain (y +f z)
less_both x y z = omega arith

pub from_nil : (x y : Frac) → nil -s (plain x -s plain y) ≈s plain y -s plain x
from_nil x y = omega arith

pub two_differences : (x y z w : Frac) → plain x -s plain y +s (plain z -s plain w) ≈s plain (x +f z) -s plain (y +f w)
two_differences x y z w = omega arith

pub difference_times : (x y k : Frac) → (plain x -s plain y) *s plain k ≈s plain (x *f k) -s plain (y *f k)
difference_times x y k = omega arith

-- ---- over a fraction above zero
pub ÷s_same : {x y : Signed} (z : Frac) → 0 < z.top → x ≈s y → x ÷s z ≈s y ÷s z
÷s_same {x} {y} z p h =
    record {
      eq = rw (bot_of (x.bot * z.top) (mul-pos x.pos p), bot_of (y.bot * z.top) (mul-pos y.pos p))
          (omega (arith, ap (λ (t : ℕ). t * (z.bot * z.top)) h.eq));
    }

pub plain_over : (x y : Frac) → plain (x ÷f y) ≈s plain x ÷s y
plain_over x y = omega arith

pub over_most : (x y : Frac) → 0 < y.top → x ≤f y → x ÷f y ≤f whole 1
over_most x y p h = record { le = rw (bot_of (x.bot * y.top) (mul-pos x.pos p)) (omega arith) }

pub over_least : (x y : Frac) → 0 < y.top → y ≤f x → whole 1 ≤f x ÷f y
over_least x y p h = record { le = rw (bot_of (x.bot * y.top) (mul-pos x.pos p)) (omega arith) }

pub le_less : (x y z : Frac) → z +f y ≤f x → z ≤f x -f y
le_less x y z h = omega (arith, h, sub_mul (x.top * y.bot) (y.top * x.bot) z.bot)

-- ---- under a floor that is not below zero
times_max : {z : Signed} (x y : Signed) (k : Frac) → x *s plain k ≤s z → y *s plain k ≤s z → maxs x y *s plain k ≤s z
unfolding maxs
times_max {z} x y k h g = by_cases (λ (t : Signed). t *s plain k ≤s z) (x ≤s? y) y x (λ t. g) (λ t. h)

-- differences that stop at zero give the same greatest value as signed ones
floor_hides : (n k : Frac) (x y : Signed) → maxs (plain n) (maxs (maxs nil x) (maxs nil y) *s plain k) ≈s maxs (plain n) (maxs x y *s plain k)
floor_hides n k x y =
    let r = maxs (plain n) (maxs x y *s plain k) in
    let z : nil *s plain k ≤s r = trans≤s {y = plain n} (omega arith) (maxs_left (plain n) (maxs x y *s plain k)) in
    let m = maxs_right (plain n) (maxs x y *s plain k) in
    let d = maxs (maxs nil x) (maxs nil y) in
    both≤s
    (maxs_least (maxs_left (plain n) (maxs x y *s plain k))
    (times_max (maxs nil x) (maxs nil y) k (times_max nil x k z (trans≤s (times_plain k (maxs_left x y)) m)) (times_max nil y k z (trans≤s (times_plain k (maxs_right x y)) m))))
    (maxs_least (maxs_left (plain n) (d *s plain k))
    (trans≤s
    (times_plain k
    (maxs_least (trans≤s (maxs_right nil x) (maxs_left (maxs nil x) (maxs nil y))) (trans≤s (maxs_right nil y) (maxs_right (maxs nil x) (maxs nil y)))))
    (maxs_right (plain n) (d *s plain k))))

pub held : (n k x y z w : Frac) (s t : Signed) → s ≈s plain x -s plain y → t ≈s plain z -s plain w
    → plain (maxf n (maxf (x -f y) (z -f w) *f k)) ≈s maxs (plain n) (maxs s t *s plain k)
held n k x y z w s t h g =
    let m = maxf (x -f y) (z -f w) in
    trans≈s (plain_greater n (m *f k))
    (trans≈s
    (maxs_same (refl≈s (plain n))
    (trans≈s (plain_product m k)
    (*s_same (trans≈s (plain_greater (x -f y) (z -f w)) (maxs_same (stopped x y) (stopped z w))) (refl≈s (plain k)))))
    (trans≈s (floor_hides n k (plain x -s plain y) (plain z -s plain w))
    (maxs_same (refl≈s (plain n)) (*s_same (maxs_same (sym≈s h) (sym≈s g)) (refl≈s (plain k))))))
