-- Laws of specs/Round.antt.
use mathlib.Core.Path.{◌≡◌, sym, ap₂, ◌∙◌}
use Prim.Native.Nat.{ℕ, zero, suc, ◌+◌, ◌*◌, ◌-◌, ◌/◌, ◌≤◌, ◌<◌, min, max}
use native.Mathlib.Omega.{arith, min_cases}
use native.Mathlib.Nat.{mul_comm, mul-le-mul_right, mul-lt-mul_of_pos_right, lt_of_mul-lt-mul_right, min-eq_left, min-eq_right, div-mul-le_self, lt-div-mul-add, mul-div-mul_right}
use Rattle.whole.specs.Divide.{ceil_div}
use Rattle.whole.proofs.Divide.{ceil_ge, ceil_lt, ceil_most, ceil_cancel, floor_most}
use Rattle.whole.specs.Frac.{Frac, ◌≤f◌, ◌≈f◌, ◌+f◌, ◌*f◌, ◌-f◌, maxf, minf, whole, frac, ceil, floor}
use Rattle.whole.proofs.Frac.{refl≤, trans≤, same, refl≈, sym≈, +_mono≤, *_mono≤, max_least, max_left, max_right, min_left, min_right, min_greatest, sub_mono, sub_add, sub_le}
use Rattle.whole.specs.Round.{Near, Within, Below}

-- ---- where there is nothing to round
pub near_self : (x e : Frac) → Near x x e
near_self x e = omega arith

pub exactly : (n : ℕ) → Near (whole n) (whole n) (whole 0)
exactly n = near_self (whole n) (whole 0)

pub nought : (x y : Frac) → x.top ≡ 0 → y.top ≡ 0 → Near x y (whole 0)
nought x y p q = record { above = record { le = rw (p, q) (omega arith) }; close = record { le = rw (p, q) (omega arith) } }

-- ---- a larger slack, and both sides otherwise written
pub loosen : {x y e f : Frac} → e ≤f f → Near x y e → Near x y f
loosen {x} h n = record { above = n.above; close = trans≤ n.close (+_mono≤ (refl≤ x) h) }

pub restate : {x y z w e : Frac} → x ≈f z → y ≈f w → Near x y e → Near z w e
restate {e = e} h k n = record {
  above = trans≤ (same (sym≈ h)) (trans≤ n.above (same k));
  close = trans≤ (same (sym≈ k)) (trans≤ n.close (+_mono≤ (same h) (refl≤ e)));
}

-- ---- of sums, differences, products, the greater and the lesser
pub near_sum : {x y z w e f : Frac} → Near x y e → Near z w f → Near (x +f z) (y +f w) (e +f f)
near_sum n m = record { above = +_mono≤ n.above m.above; close = trans≤ (+_mono≤ n.close m.close) (omega arith) }

-- the greater subtrahend leaves less; it stops at zero on both sides
pub near_less : {x y z w e f : Frac} → Near x y e → Near z w f → Near (x -f w) (y -f z) (e +f f)
near_less {x} {y} {z} {w} {e} {f} n m = record {
  above = sub_mono n.above m.above;
  close =
      sub_le y z ((x -f w) +f (e +f f))
      (trans≤ n.close (trans≤ (+_mono≤ (trans≤ (sub_add x w) (+_mono≤ (refl≤ (x -f w)) m.close)) (refl≤ e)) (omega arith)));
}

pub near_times : {x y e : Frac} (k : Frac) → Near x y e → Near (x *f k) (y *f k) (e *f k)
near_times k n = record { above = *_mono≤ n.above (refl≤ k); close = trans≤ (*_mono≤ n.close (refl≤ k)) (omega arith) }

-- the lower ones at most m and k
pub near_mult : {x y z w e f m k : Frac} → x ≤f m → z ≤f k → Near x y e → Near z w f → Near (x *f z) (y *f w) (e *f (k +f f) +f m *f f)
near_mult {x} {z = z} {e = e} {f = f} h g v w = record {
  above = *_mono≤ v.above w.above;
  close =
      trans≤ (*_mono≤ v.close w.close)
      (trans≤ {y = x *f z +f (e *f (z +f f) +f x *f f)} (omega arith)
      (+_mono≤ (refl≤ (x *f z)) (+_mono≤ (*_mono≤ (refl≤ e) (+_mono≤ g (refl≤ f))) (*_mono≤ h (refl≤ f)))));
}

-- one slack for both, `loosen` first
pub near_max : {x y z w e : Frac} → Near x y e → Near z w e → Near (maxf x z) (maxf y w) e
near_max {x} {y} {z} {w} {e} n m = record {
  above = max_least (trans≤ n.above (max_left y w)) (trans≤ m.above (max_right y w));
  close = max_least (trans≤ n.close (+_mono≤ (max_left x z) (refl≤ e))) (trans≤ m.close (+_mono≤ (max_right x z) (refl≤ e)));
}

pub near_min : {x y z w e : Frac} → Near x y e → Near z w e → Near (minf x z) (minf y w) e
near_min {x} {y} {z} {w} {e} n m = record {
  above = min_greatest (trans≤ (min_left x z) n.above) (trans≤ (min_right x z) m.above);
  close = min_cases (x.top * z.bot) (z.top * x.bot) (minf y w ≤f minf x z +f e)
      (λ p q. trans≤ (min_left y w) (trans≤ n.close (+_mono≤ (min_greatest (refl≤ x) (record { le = p })) (refl≤ e))))
      (λ p q. trans≤ (min_right y w) (trans≤ m.close (+_mono≤ (min_greatest (record { le = p }) (refl≤ z)) (refl≤ e))));
}

-- ---- the same where what is rounded is whole
pub sum : {c d : ℕ} {x y e f : Frac} → Within c x e → Within d y f → Within (c + d) (x +f y) (e +f f)
sum {x = x} {y = y} n m = restate (refl≈ (x +f y)) (omega arith) (near_sum n m)

pub below_sum : {c d : ℕ} {x y e f : Frac} → Below c x e → Below d y f → Below (c + d) (x +f y) (e +f f)
below_sum {x = x} {y = y} n m = restate (omega arith) (refl≈ (x +f y)) (near_sum n m)

-- what rounds up less what rounds down
pub less : {c d : ℕ} {x y e f : Frac} → Within c x e → Below d y f → Within (c - d) (x -f y) (e +f f)
less {x = x} {y = y} n m = restate (refl≈ (x -f y)) (omega arith) (near_less n m)

pub larger : {c d : ℕ} {x y e : Frac} → Within c x e → Within d y e → Within (max c d) (maxf x y) e
larger {x = x} {y = y} n m = restate (refl≈ (maxf x y)) (omega arith) (near_max n m)

-- ---- any fraction made whole
pub by_ceil : (x : Frac) → Within (ceil x) x (whole 1)
by_ceil x = omega (arith, ceil_ge x.top x.bot x.pos, ceil_lt x.top x.bot x.pos)

pub by_floor : (x : Frac) → Below (floor x) x (whole 1)
by_floor x = omega (arith, div-mul-le_self x.top x.bot, lt-div-mul-add {a = x.top} x.pos)

-- one that is itself off
pub near_ceil : {x y e : Frac} → Near x y e → Within (ceil y) x (e +f whole 1)
near_ceil {x} {y} n = record {
  above = trans≤ n.above (by_ceil y).above;
  close = trans≤ (by_ceil y).close (trans≤ (+_mono≤ n.close (refl≤ (whole 1))) (omega arith));
}

pub near_floor : {x y e : Frac} → Near x y e → Below (floor x) y (e +f whole 1)
near_floor {x} {y} {e} n = record {
  above = trans≤ (by_floor x).above n.above;
  close = trans≤ n.close (trans≤ (+_mono≤ (by_floor x).close (refl≤ e)) (omega arith));
}

-- in millionths
pub millionths_up : {n : ℕ} {e : Frac} (x : Frac) → Within n (x *f whole 1000000) e → Near x (frac n 1000000) (e *f frac 1 1000000)
millionths_up x w = restate (omega arith) (omega arith) (near_times (frac 1 1000000) w)

pub millionths_down : {n : ℕ} {e : Frac} (x : Frac) → Below n (x *f whole 1000000) e → Near (frac n 1000000) x (e *f frac 1 1000000)
millionths_down x w = restate (omega arith) (omega arith) (near_times (frac 1 1000000) w)

-- a rule is the whole number next to its exact value x; code computes the quotient m / d, which has that value
pub ceil_of : (m d : ℕ) {x : Frac} → 0 < d → frac m d ≈f x → ceil_div m d ≡ ceil x
ceil_of m zero {x = x} h e = elim h [ ]
ceil_of m (suc d) {x} h e =
    sym (ceil_cancel m (suc d) x.bot h x.pos) ∙ ap₂ ceil_div e.eq (omega arith) ∙ ceil_cancel x.top x.bot (suc d) x.pos h

pub floor_of : (m d : ℕ) {x : Frac} → 0 < d → frac m d ≈f x → m / d ≡ floor x
floor_of m zero {x = x} h e = elim h [ ]
floor_of m (suc d) {x} h e =
    sym (mul-div-mul_right m (suc d) x.pos) ∙ ap₂ ◌/◌ e.eq (omega arith) ∙ mul-div-mul_right x.top x.bot h

pub ceil_whole : (n : ℕ) → ceil (whole n) ≡ n
ceil_whole n = omega (arith, ceil_ge n 1 (omega arith), ceil_lt n 1 (omega arith))

pub ceil_under : {x : Frac} (q : ℕ) → x ≤f whole q → ceil x ≤ q
ceil_under {x} q h = ceil_most x.top x.bot q x.pos (omega arith)

pub floor_under : {x : Frac} (q : ℕ) → x ≤f whole q → floor x ≤ q
floor_under {x} q h = floor_most x.top x.bot q (omega arith)

pub ceil_zero : (x : Frac) → x.top ≡ 0 → ceil x ≡ 0
ceil_zero x e = omega (arith, ceil_under {x = x} 0 (omega arith))

pub floor_zero : (x : Frac) → x.top ≡ 0 → floor x ≡ 0
floor_zero x e = omega (arith, floor_under {x = x} 0 (omega arith))

pub ceil_mono : (x y : Frac) → x ≤f y → ceil x ≤ ceil y
ceil_mono x y h = ceil_under (ceil y) (trans≤ h (by_ceil y).above)

pub floor_mono : (x y : Frac) → x ≤f y → floor x ≤ floor y
floor_mono x y h =
    let t : x.top / x.bot < y.top / y.bot + 1 =
    lt_of_mul-lt-mul_right (x.bot * y.bot)
    (omega (
      arith,
      mul-le-mul_right y.bot (div-mul-le_self x.top x.bot),
      mul-lt-mul_of_pos_right (lt-div-mul-add {a = y.top} y.pos) x.pos,
    )) in
    omega arith

-- the lesser of two, rounded down, is the lesser of the two rounded down
pub floor_lesser : (x y : Frac) → min (floor x) (floor y) ≡ floor (minf x y)
floor_lesser x y =
    min_cases (x.top * y.bot) (y.top * x.bot) (min (floor x) (floor y) ≡ floor (minf x y))
    (λ p q. rw q (min-eq_left (floor_mono x y (record { le = p })) ∙ sym (mul-div-mul_right x.top x.bot y.pos)))
    (λ p q. rw (q, mul_comm x.bot y.bot) (min-eq_right (floor_mono y x (record { le = p })) ∙ sym (mul-div-mul_right y.top y.bot x.pos)))
