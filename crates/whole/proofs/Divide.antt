-- Laws of quotients rounded up and down, and bounds of products. `omega` multiplies out but does not multiply two facts with each other: these laws hand it
-- the products.
use mathlib.Core.Path.{◌≡◌, sym}
use Prim.Native.Nat.{ℕ, suc, ◌+◌, ◌*◌, ◌-◌, ◌/◌, ◌%◌, ◌^◌, ◌≤◌, ◌<◌, min, max}
use native.Mathlib.Omega.{arith, max_cases, min_cases}
use native.Mathlib.Decide.{dec_lt}
use native.Mathlib.Nat.{mul-pos, mul-le-mul, mul-le-mul_right, le_of_mul-le-mul_right, mul-sub, max-eq_left, max-eq_right, min-eq_left, min-eq_right, div-mul-le_self, div-le_of_le-mul, div-lt_iff_lt-mul, lt_of_mul-lt-mul_right, lt-div-mul-add}
use lib.Dec.{T, leb, ltb, leb→le, ltb→lt}
use Rattle.std.proofs.lemmas.Grind.{div_ceil_times}
use Rattle.whole.specs.Divide.{ceil_div}

-- ---- rounded up: the least number whose product with b is not below a
pub ceil_ge : (a b : ℕ) → 0 < b → a ≤ ceil_div a b * b
unfolding ceil_div
ceil_ge a b h = omega (arith, lt-div-mul-add {a = a + (b - 1)} h)

pub ceil_lt : (a b : ℕ) → 0 < b → ceil_div a b * b < a + b
unfolding ceil_div
ceil_lt a b h = omega (arith, div-mul-le_self (a + (b - 1)) b)

pub ceil_most : (a b q : ℕ) → 0 < b → a ≤ q * b → ceil_div a b ≤ q
unfolding ceil_div
ceil_most a b q h k = omega (arith, (div-lt_iff_lt-mul {x = a + (b - 1)} {y = suc q} h).1 (omega arith))

pub ceil_nought : (b : ℕ) → 0 < b → ceil_div 0 b ≡ 0
ceil_nought b h = omega (arith, ceil_most 0 b 0 h (omega arith))

-- as std's `div_ceil` says it
pub of_div_ceil : (a b : ℕ) → 0 < b → a / b + min 1 (a % b) ≡ ceil_div a b
of_div_ceil a b h =
    let t = div_ceil_times a b h in
    let p : ceil_div a b ≤ a / b + min 1 (a % b) = ceil_most a b (a / b + min 1 (a % b)) h t.0 in
    let q : a / b + min 1 (a % b) < suc (ceil_div a b) = lt_of_mul-lt-mul_right b (omega (arith, t.1, ceil_ge a b h)) in
    omega arith

-- a factor of both goes; rounded down it is `mul-div-mul_right` of the library
pub ceil_cancel : (a b k : ℕ) → 0 < b → 0 < k → ceil_div (a * k) (b * k) ≡ ceil_div a b
ceil_cancel a b k h g =
    let p : ceil_div (a * k) (b * k) ≤ ceil_div a b =
    ceil_most (a * k) (b * k) (ceil_div a b) (mul-pos h g) (omega (arith, mul-le-mul_right k (ceil_ge a b h))) in
    let q : ceil_div a b ≤ ceil_div (a * k) (b * k) =
    ceil_most a b (ceil_div (a * k) (b * k)) h (le_of_mul-le-mul_right {k = k} (omega (arith, ceil_ge (a * k) (b * k) (mul-pos h g))) g) in
    omega arith

-- ---- rounded down
pub floor_most : (a b q : ℕ) → a ≤ b * q → a / b ≤ q
floor_most a b q h = div-le_of_le-mul b h

-- ---- products
pub mul_most : (a b A B : ℕ) → a ≤ A → b ≤ B → a * b ≤ A * B
mul_most a b A B h k = mul-le-mul h k

-- a product with room for the divisor d, from a bound of each: what `mul_div_up` asks
pub room : (m n k : ℕ) {a b d : ℕ} → a ≤ m → b ≤ n → d ≤ k → T (leb (m * n + k) (2 ^ 64)) → a * b + d ≤ 2 ^ 64
room m n k ha hb hd t = omega (arith, mul-le-mul ha hb, leb→le (m * n + k) (2 ^ 64) t)

-- a product that fits: what `mul_div_down` asks
pub mul_fits : (m n : ℕ) {a b : ℕ} → a ≤ m → b ≤ n → T (ltb (m * n) (2 ^ 64)) → a * b < 2 ^ 64
mul_fits m n ha hb t = omega (arith, mul-le-mul ha hb, ltb→lt (m * n) (2 ^ 64) t)

-- twice a product is at most the sum of the squares
apart : (a d : ℕ) → 2 * (a * (a + d)) ≤ a * a + (a + d) * (a + d)
apart a d = omega arith

pub two_products : (a b : ℕ) → 2 * (a * b) ≤ a * a + b * b
two_products a b =
    elim (dec_lt a b) [
      | yes h ↦ (let e : b ≡ a + (b - a) = omega arith in rw e (apart a (b - a)))
      | no h ↦ (let e : a ≡ b + (a - b) = omega arith in let q : 2 * (b * a) ≤ b * b + a * a = rw e (apart b (a - b)) in omega arith)
    ]

-- ---- a factor goes into a difference that stops at zero, into the greater and into the lesser
pub sub_mul : (m n k : ℕ) → (m - n) * k ≡ m * k - n * k
sub_mul m n k = omega (arith, mul-sub k m n)

pub max_mul : (a b k : ℕ) → max a b * k ≡ max (a * k) (b * k)
max_mul a b k =
    max_cases a b (max a b * k ≡ max (a * k) (b * k))
    (λ p e. rw e (sym (max-eq_right (mul-le-mul_right k p))))
    (λ p e. rw e (sym (max-eq_left (mul-le-mul_right k p))))

pub min_mul : (a b k : ℕ) → min a b * k ≡ min (a * k) (b * k)
min_mul a b k =
    min_cases a b (min a b * k ≡ min (a * k) (b * k))
    (λ p e. rw e (sym (min-eq_left (mul-le-mul_right k p))))
    (λ p e. rw e (sym (min-eq_right (mul-le-mul_right k p))))
