-- Laws of specs/Frac.antt.
use mathlib.Core.Path.{◌≡◌, refl, sym, ap₂}
use mathlib.Core.Bool.{Bool, true, false, ◌&&◌}
use Prim.Native.Nat.{ℕ, zero, suc, pred, ◌*◌, ◌-◌, ◌<◌}
use native.Mathlib.Omega.{arith}
use native.Mathlib.Nat.{mul-pos, mul-le-mul, mul-le-mul_right, mul-lt-mul_of_pos_right, le_of_mul-le-mul_right, lt_of_mul-lt-mul_right, le-max_left, le-max_right, min-le_left, min-le_right}
use Rattle.whole.specs.Pick.{pick}
use Rattle.whole.proofs.Pick.{same_test}
use Rattle.whole.proofs.Divide.{sub_mul, max_mul, min_mul}
use Rattle.whole.specs.Frac.{Frac, ◌≤f◌, ◌<f◌, ◌≈f◌, ◌<f?◌, whole, frac, ◌+f◌, ◌*f◌, ◌-f◌, ◌÷f◌, maxf, minf}

pub bot_of : (d : ℕ) → 0 < d → suc (pred d) ≡ d
bot_of zero h = elim h [ ]
bot_of (suc d) h = refl

-- ---- order
pub refl≤ : (x : Frac) → x ≤f x
refl≤ x = omega arith

pub trans≤ : {x y z : Frac} → x ≤f y → y ≤f z → x ≤f z
trans≤ {x} {y} {z} h k =
    record { le = le_of_mul-le-mul_right {k = y.bot} (omega (arith, mul-le-mul_right z.bot h.le, mul-le-mul_right x.bot k.le)) y.pos }

pub trans<≤ : {x y z : Frac} → x <f y → y ≤f z → x <f z
trans<≤ {x} {y} {z} h k =
    record { lt = lt_of_mul-lt-mul_right y.bot (omega (arith, mul-lt-mul_of_pos_right h.lt z.pos, mul-le-mul_right x.bot k.le)) }

pub trans≤< : {x y z : Frac} → x ≤f y → y <f z → x <f z
trans≤< {x} {y} {z} h k =
    record { lt = lt_of_mul-lt-mul_right y.bot (omega (arith, mul-le-mul_right z.bot h.le, mul-lt-mul_of_pos_right k.lt x.pos)) }

pub +_mono≤ : {x y z w : Frac} → x ≤f y → z ≤f w → x +f z ≤f y +f w
+_mono≤ {x} {y} {z} {w} h k = omega (arith, mul-le-mul_right (z.bot * w.bot) h.le, mul-le-mul_right (x.bot * y.bot) k.le)

pub *_mono≤ : {x y z w : Frac} → x ≤f y → z ≤f w → x *f z ≤f y *f w
*_mono≤ h k = omega (arith, mul-le-mul h.le k.le)

-- ---- the greater and the lesser
pub max_left : (x y : Frac) → x ≤f maxf x y
max_left x y = omega (arith, mul-le-mul_right x.bot (le-max_left (x.top * y.bot) (y.top * x.bot)))

pub max_right : (x y : Frac) → y ≤f maxf x y
max_right x y = omega (arith, mul-le-mul_right y.bot (le-max_right (x.top * y.bot) (y.top * x.bot)))

pub max_least : {x y z : Frac} → x ≤f z → y ≤f z → maxf x y ≤f z
max_least {x} {y} {z} h k =
    omega (arith, max_mul (x.top * y.bot) (y.top * x.bot) z.bot, mul-le-mul_right y.bot h.le, mul-le-mul_right x.bot k.le)

pub min_left : (x y : Frac) → minf x y ≤f x
min_left x y = omega (arith, mul-le-mul_right x.bot (min-le_left (x.top * y.bot) (y.top * x.bot)))

pub min_right : (x y : Frac) → minf x y ≤f y
min_right x y = omega (arith, mul-le-mul_right y.bot (min-le_right (x.top * y.bot) (y.top * x.bot)))

pub min_greatest : {x y z : Frac} → z ≤f x → z ≤f y → z ≤f minf x y
min_greatest {x} {y} {z} h k =
    omega (arith, min_mul (x.top * y.bot) (y.top * x.bot) z.bot, mul-le-mul_right y.bot h.le, mul-le-mul_right x.bot k.le)

-- ---- differences that stop at zero
pub sub_mono : {x y z w : Frac} → x ≤f y → z ≤f w → x -f w ≤f y -f z
sub_mono {x} {y} {z} {w} h k =
    omega (
      arith,
      sub_mul (x.top * w.bot) (w.top * x.bot) (y.bot * z.bot),
      sub_mul (y.top * z.bot) (z.top * y.bot) (x.bot * w.bot),
      mul-le-mul_right (z.bot * w.bot) h.le,
      mul-le-mul_right (x.bot * y.bot) k.le,
    )

pub sub_add : (x y : Frac) → x ≤f (x -f y) +f y
sub_add x y = omega (arith, sub_mul (x.top * y.bot) (y.top * x.bot) (y.bot * x.bot))

pub sub_le : (x y z : Frac) → x ≤f z +f y → x -f y ≤f z
sub_le x y z h = omega (arith, h, sub_mul (x.top * y.bot) (y.top * x.bot) z.bot)

-- ---- equal fractions, and that every operation and test keeps them equal
pub same : {x y : Frac} → x ≈f y → x ≤f y
same h = omega arith

pub both≤ : {x y : Frac} → x ≤f y → y ≤f x → x ≈f y
both≤ h k = omega arith

pub refl≈ : (x : Frac) → x ≈f x
refl≈ x = omega arith

pub sym≈ : {x y : Frac} → x ≈f y → y ≈f x
sym≈ h = omega arith

pub trans≈ : {x y z : Frac} → x ≈f y → y ≈f z → x ≈f z
trans≈ h k = both≤ (trans≤ (same h) (same k)) (trans≤ (same (sym≈ k)) (same (sym≈ h)))

pub +_same : {x y z w : Frac} → x ≈f y → z ≈f w → x +f z ≈f y +f w
+_same h k = both≤ (+_mono≤ (same h) (same k)) (+_mono≤ (same (sym≈ h)) (same (sym≈ k)))

pub *_same : {x y z w : Frac} → x ≈f y → z ≈f w → x *f z ≈f y *f w
*_same h k = omega (arith, ap₂ ◌*◌ h.eq k.eq)

pub sub_same : {x y z w : Frac} → x ≈f y → z ≈f w → x -f z ≈f y -f w
sub_same h k = both≤ (sub_mono (same h) (same (sym≈ k))) (sub_mono (same (sym≈ h)) (same k))

pub min_same : {x y z w : Frac} → x ≈f y → z ≈f w → minf x z ≈f minf y w
min_same {x} {y} {z} {w} h k =
    both≤
    (min_greatest (trans≤ (min_left x z) (same h)) (trans≤ (min_right x z) (same k)))
    (min_greatest (trans≤ (min_left y w) (same (sym≈ h))) (trans≤ (min_right y w) (same (sym≈ k))))

pub ÷_same : {x y z w : Frac} → 0 < z.top → 0 < w.top → x ≈f y → z ≈f w → x ÷f z ≈f y ÷f w
÷_same {x} {y} {z} {w} h k p q =
    record {
      eq = rw (bot_of (x.bot * z.top) (mul-pos x.pos h), bot_of (y.bot * w.top) (mul-pos y.pos k))
          (omega (arith, ap₂ ◌*◌ p.eq (sym q.eq)));
    }

pub <?_same : {x y z w : Frac} → x ≈f y → z ≈f w → (x <f? z) ≡ (y <f? w)
<?_same {x} {y} {z} {w} h k =
    same_test (suc (x.top * z.bot)) (z.top * x.bot) (suc (y.top * w.bot)) (w.top * y.bot)
    (λ t. (trans≤< (same (sym≈ h)) (trans<≤ (record { lt = t }) (same k))).lt)
    (λ t. (trans≤< (same h) (trans<≤ (record { lt = t }) (same (sym≈ k)))).lt)

-- tests that guard what is zero anyhow can go
pub untested_frac : (a b : Bool) (x : Frac) → (a ≡ false → x.top ≡ 0) → (b ≡ false → x.top ≡ 0) → x ≈f pick (a && b) x (whole 0)
unfolding pick
untested_frac true true x h k = refl≈ x
untested_frac true false x h k = omega (arith, k refl)
untested_frac false b x h k = omega (arith, h refl)

-- ---- a factor or a bottom that a difference has in common
pub one_bottom : (m n d : ℕ) → 0 < d → frac (m - n) d ≈f frac m d -f frac n d
one_bottom m n zero h = elim h [ ]
one_bottom m n (suc d) h = record { eq = omega (arith, sub_mul m n (suc d), sub_mul (m * suc d) (n * suc d) (suc d), sub_mul m n (suc d * suc d)) }

pub factor_out : (x y z : Frac) → x *f y -f x *f z ≈f x *f (y -f z)
factor_out x y z =
    record {
      eq = omega (
        arith,
        sub_mul (y.top * z.bot) (z.top * y.bot) (x.top * (x.bot * y.bot * (x.bot * z.bot))),
        sub_mul (x.top * y.top * (x.bot * z.bot)) (x.top * z.top * (x.bot * y.bot)) (x.bot * (y.bot * z.bot)),
      );
    }

pub spread : (x y z : Frac) → (y -f z) *f x ≈f y *f x -f z *f x
spread x y z =
    trans≈ {y = x *f (y -f z)} (omega arith)
    (trans≈ (sym≈ (factor_out x y z)) (sub_same {x = x *f y} {y = y *f x} {z = x *f z} {w = z *f x} (omega arith) (omega arith)))

-- k times a difference, as a single quotient, where each alone is one
pub scaled : (x y : Frac) (m n d : ℕ) (k : Frac) → 0 < d → frac m d ≈f x *f k → frac n d ≈f y *f k → frac (m - n) d ≈f (x -f y) *f k
scaled x y m n d k h p q = trans≈ (one_bottom m n d h) (trans≈ (sub_same p q) (sym≈ (spread k x y)))
