-- b1's cubic as code computes it, in 5000000000ths of a um with L in mm, never stops at zero, and it rises with L: so b1 is at most its value at 365 m.
use Prim.Native.Nat.{ℕ, ◌+◌, ◌*◌, ◌-◌, ◌≤◌}
use mathlib.Core.Path.{◌≡◌, ap}
use native.Mathlib.Omega.{arith}
use native.Mathlib.Nat.{le_dest, mul-le-mul_right}
use Rattle.whole.proofs.Divide.{two_products}

unfoldable pub cubic : ℕ → ℕ
cubic L = L * (303750000000 + L * L - 937500 * L)

pub cubic_sum : (L : ℕ) → cubic L + 937500 * (L * L) ≡ 303750000000 * L + L * L * L
unfolding cubic
cubic_sum L =
    let e : 303750000000 + L * L - 937500 * L + 937500 * L ≡ 303750000000 + L * L = omega (arith, two_products L 468750) in
    omega (arith, ap (λ (t : ℕ). L * t) e)

-- the difference at L + r and L is r (3 (L + r / 2 - 312500)² + r² / 4 + 10781250000)
rises_on : (L r : ℕ)
    → 303750000000 * L + L * L * L + 937500 * ((L + r) * (L + r)) ≤ 303750000000 * (L + r) + (L + r) * (L + r) * (L + r) + 937500 * (L * L)
rises_on L r = omega (arith, mul-le-mul_right r (two_products (2 * L + r) 625000))

-- 6919.4875 mm at 365 m
pub cubic_most : (L : ℕ) → L ≤ 365000 → cubic L ≤ 34600000000000000
cubic_most L h =
    let (r, e) = le_dest h in
    let k : 303750000000 * L + L * L * L + 937500 * (365000 * 365000) ≤ 303750000000 * 365000 + 365000 * 365000 * 365000 + 937500 * (L * L) =
    rw e at (rises_on L r) in
    omega (arith, cubic_sum L)
