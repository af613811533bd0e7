-- LS against its exact value, with no case by its sign.
use Prim.Native.Nat.{ℕ, ◌+◌, ◌*◌, ◌-◌, ◌/◌, ◌≤◌}
use native.Mathlib.Omega.{arith}
use native.Mathlib.Nat.{mul-pos, mul-le-mul_right}
use lib.IntN.{pos, ◌-ℤ◌}
use lib.Signed.{◌≤ℤ◌}
use Rattle.whole.specs.Divide.{ceil_div}
use Rattle.whole.specs.Frac.{Frac, ◌≤f◌, ◌+f◌, whole}
use Rattle.whole.specs.Round.{Within, Below}
use Rattle.whole.specs.Sign.{above, under}
use Rattle.whole.proofs.Divide.{ceil_ge, ceil_lt}
use Rattle.whole.proofs.Frac.{refl≤, trans≤, trans≤<, +_mono≤}
use Rattle.whole.proofs.Integers.{minus_above, minus_under, in_order, from_order}
use Rattle.timber.specs.Timber.{level_of, timber_summer}
use Rattle.timber.specs.Exact.{HoldsSigned}

-- LS mm are a - t um rounded up: a - t ≤ 1000 LS ≤ a - t + 999
pub in_um : (a t : ℕ) → let n = timber_summer a t in (a + 1000 * under n ≤ t + 1000 * above n) × (t + 1000 * above n ≤ a + 1000 * under n + 999)
unfolding level_of
in_um a t =
    let p = ceil_div (a - t) 1000 in
    let q = (t - a) / 1000 in
    let low = ceil_ge (a - t) 1000 (omega arith) in
    let high = ceil_lt (a - t) 1000 (omega arith) in
    rw (minus_above p q, minus_under p q) (omega (arith, low, high), omega (arith, low, high))

-- What is added and what is taken are short of or past the exact ones by 100 um in all: LS is never below the exact value, and less than 1.1 mm above it
pub timber_holds : {a t : ℕ} {x y e f : Frac} → e +f f ≤f whole 100 → Within a x e → Below t y f → HoldsSigned (timber_summer a t) x y
timber_holds {a} {t} {x} {y} {e} {f} h v w =
    let p = 1000 * above (timber_summer a t) in
    let q = 1000 * under (timber_summer a t) in
    let k = in_um a t in
    record {
      never_below =
          trans≤ (+_mono≤ v.above (refl≤ (whole q)))
          (trans≤ {y = whole t +f whole p} (omega (arith, k.0)) (+_mono≤ w.above (refl≤ (whole p))));
      close =
          let s = whole (q + 999) in
          let c = trans≤ {y = x +f e +f f} (+_mono≤ v.close (refl≤ f)) (trans≤ {y = x +f (e +f f)} (omega arith) (+_mono≤ (refl≤ x) h)) in
          trans≤< (+_mono≤ w.close (refl≤ (whole p)))
          (trans≤< {y = whole a +f f +f s} (omega (arith, mul-le-mul_right (f.bot * f.bot) k.1))
          (trans≤< (+_mono≤ c (refl≤ s)) (omega (arith, mul-pos x.pos x.pos))));
    }

-- LS is the least whole number of mm, of either sign, that is not below a - t um
pub timber_least : (a t k j : ℕ)
    → (timber_summer a t ≤ℤ (pos k -ℤ pos j) → a + 1000 * j ≤ t + 1000 * k)
    × (a + 1000 * j ≤ t + 1000 * k → timber_summer a t ≤ℤ (pos k -ℤ pos j))
unfolding level_of
timber_least a t k j =
    let p = ceil_div (a - t) 1000 in
    let q = (t - a) / 1000 in
    let low = ceil_ge (a - t) 1000 (omega arith) in
    let high = ceil_lt (a - t) 1000 (omega arith) in (
      λ h. omega (arith, low, from_order p q k j h),
      λ h. in_order p q k j (omega (arith, low, high)),
    )
