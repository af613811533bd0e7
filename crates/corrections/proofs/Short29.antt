-- Regulation 29: the quotient that code computes, its bound, and the cost of a rounded E.
use mathlib.Core.Path.{◌≡◌, sym, ◌∙◌}
use Prim.Native.Nat.{ℕ, ◌*◌, ◌-◌, ◌≤◌, ◌<◌}
use native.Mathlib.Omega.{arith}
use borrow.Author.Tests.{ltb-false}
use lib.Dec.{ltb}
use Rattle.whole.specs.Divide.{ceil_div}
use Rattle.whole.specs.Frac.{Frac, ◌≤f◌, ◌≈f◌, ◌<f?◌, ◌+f◌, ◌-f◌, ◌*f◌, whole, frac}
use Rattle.whole.specs.Round.{Within, Below}
use Rattle.whole.proofs.Divide.{ceil_most, ceil_nought, mul_most}
use Rattle.whole.proofs.Frac.{bot_of, untested_frac, refl≤, same, sym≈, trans≈, trans≤, *_mono≤, sub_mono}
use Rattle.whole.proofs.Round.{loosen, restate, exactly, ceil_of, ceil_mono, near_less, near_times, near_ceil}
use Rattle.corrections.specs.Short29.{short_b, exact_short_b}

-- in one product: where a test fails it is nothing anyhow
one_product : (l : ℕ) (x : Frac) → 0 < l → (whole (350 * l) -f x) *f frac (3 * (100000 - l)) (400 * l) ≈f exact_short_b l x
unfolding exact_short_b
one_product l x p =
    let z : 35 * (x.bot * (1000 * l)) - x.top * 1 * 100 ≡ 100 * (350 * l * x.bot - x.top * 1) = omega arith in
    trans≈ (record { eq = rw (bot_of (400 * l) (omega arith), bot_of (1000 * l) (omega arith), z) (omega arith) })
    (untested_frac (ltb l 100000) (x <f? whole (350 * l)) (frac 75 10 *f whole (100000 - l) *f (frac 35 100 -f x *f frac 1 (1000 * l)))
    (λ t. let k : 100000 - l ≡ 0 = omega (arith, ltb-false l 100000 t) in rw k (omega arith))
    (λ t. let k : 350 * l * x.bot - x.top * 1 ≡ 0 = omega (arith, ltb-false (x.top * 1) (350 * l * x.bot) t) in
    rw (bot_of (1000 * l) (omega arith), z, k) (omega arith)))

pub short_quotient : (l e : ℕ) → 0 < l → ceil_div ((350 * l - e) * (3 * (100000 - l))) (400 * l) ≡ short_b l e
unfolding short_b
short_quotient l e p =
    let z : 350 * l * 1 - e * 1 ≡ 350 * l - e = omega arith in
    ceil_of ((350 * l - e) * (3 * (100000 - l))) (400 * l) {x = exact_short_b l (whole e)} (omega arith)
    (trans≈ (record { eq = rw (bot_of (400 * l) (omega arith), z) (omega arith) }) (one_product l (whole e) p))

-- an E that is short by s costs at most 0.02375 s, at L = 24000, and the rounding 1
pub short_within : {s : Frac} (l e : ℕ) (x : Frac) → 24000 ≤ l → Below e x s → Within (short_b l e) (exact_short_b l x) (s *f frac 19 800 +f whole 1)
unfolding short_b
short_within {s} l e x h w =
    near_ceil
    (loosen (*_mono≤ {x = whole 0 +f s} {y = s} (omega arith) (omega arith))
    (restate (one_product l x (omega arith)) (one_product l (whole e) (omega arith))
    (near_times (frac (3 * (100000 - l)) (400 * l)) (near_less (exactly (350 * l)) w))))

-- it is largest at L = 24 m and E = 0
pub short_most : (l e : ℕ) → 24000 ≤ l → short_b l e ≤ 199500
short_most l e h =
    rw (← short_quotient l e (omega arith))
    (ceil_most ((350 * l - e) * (3 * (100000 - l))) (400 * l) 199500 (omega arith)
    (omega (arith, mul_most (350 * l - e) (3 * (100000 - l)) (350 * l) 228000 (omega arith) (omega arith))))

-- and nothing from 100 m on, or from an E of 0.35 L on
nothing : (l e : ℕ) → 0 < l → (350 * l - e) * (3 * (100000 - l)) ≡ 0 → short_b l e ≡ 0
nothing l e p z = sym (short_quotient l e p) ∙ rw z (ceil_nought (400 * l) (omega arith))

pub short_long : (l e : ℕ) → 100000 ≤ l → short_b l e ≡ 0
short_long l e h = nothing l e (omega arith) (let k : 100000 - l ≡ 0 = omega arith in rw k (omega arith))

pub short_enclosed : (l e : ℕ) → 0 < l → 350 * l ≤ e → short_b l e ≡ 0
short_enclosed l e p h = nothing l e p (let k : 350 * l - e ≡ 0 = omega arith in rw k (omega arith))

-- a greater E never adds more
pub short_falls : (l e f : ℕ) → 0 < l → e ≤ f → short_b l f ≤ short_b l e
unfolding short_b
short_falls l e f p h =
    let k = frac (3 * (100000 - l)) (400 * l) in
    let less : whole (350 * l) -f whole f ≤f whole (350 * l) -f whole e = sub_mono (refl≤ (whole (350 * l))) (omega arith) in
    ceil_mono (exact_short_b l (whole f)) (exact_short_b l (whole e))
    (trans≤ (same (sym≈ (one_product l (whole f) p))) (trans≤ (*_mono≤ less (refl≤ k)) (same (one_product l (whole e) p))))
