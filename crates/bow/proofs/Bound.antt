-- How close the bow's rounded freeboard is to the exact one.
use Prim.Native.Nat.{ℕ, ◌+◌, ◌*◌, ◌≤◌}
use mathlib.Core.Path.{◌≡◌}
use mathlib.Core.Logic.{◌⊎◌, inl, inr}
use native.Mathlib.Omega.{arith}
use native.Mathlib.Nat.{mul-zero, zero-mul}
use Rattle.whole.specs.Frac.{◌≤f◌, ◌+f◌, ◌*f◌, ◌-f◌, whole, frac, ceil, floor}
use Rattle.whole.specs.Round.{Within, Below}
use Rattle.whole.proofs.Divide.{mul_most}
use Rattle.whole.proofs.Frac.{bot_of, trans≤, same, sym≈, sub_le}
use Rattle.whole.proofs.Round.{loosen, exactly, sum, below_sum, less, near_mult, by_ceil, by_floor, near_ceil, near_floor, millionths_up, millionths_down, ceil_zero, floor_zero}
use Rattle.whole.proofs.Signed.{one_nought, one_side}
use Rattle.units.specs.Datum.{lift}
use Rattle.bow.specs.Bow.{exact_b1, rises, falls, exact_b2_above, exact_b2_below, b2_above, b2_below, higher, lower, sheer_taken, forecastle_taken, bow_freeboard, exact_bow}
use Rattle.bow.proofs.Cubic.{cubic, cubic_most}
use Rattle.bow.proofs.Words.{b1_words}

-- ---- how large the exact factors are: b1 in um, b2's sides
b1_most : (L : ℕ) → L ≤ 365000 → exact_b1 L ≤f whole 6920000
b1_most L h = trans≤ {y = frac (cubic L) 5000000000} (same (sym≈ (b1_words L))) (omega (arith, cubic_most L h))

rises_most : (cb : ℕ) → cb ≤ 12000 → rises cb ≤f frac 282 100
unfolding rises
rises_most cb h = omega arith

falls_most : (L M cwf : ℕ) → 1000 ≤ M → L ≤ 365000 → cwf ≤ 10000 → falls L M cwf ≤f frac 715 100
unfolding falls
falls_most L M cwf h k g = record { le = rw (bot_of (85 * M) (omega arith)) (omega (arith, mul_most cwf M 10000 M (omega arith) (omega arith))) }

rises_least : (cb : ℕ) → frac 715 100 ≤f frac 507 100 +f rises cb
unfolding rises
rises_least cb = omega arith

-- ---- the product, above zero and below
module _ (L M cb cwf : ℕ) (h : 1000 ≤ M) (k : L ≤ 365000) (b : cb ≤ 12000) (g : cwf ≤ 10000) where
  higher_within : Within (higher L M cb cwf) (exact_b1 L *f exact_b2_above L M cb cwf) (whole 13)
  unfolding higher b2_above exact_b2_above
  higher_within =
      let y = rises cb -f falls L M cwf in
      let m : y ≤f frac 282 100 = sub_le (rises cb) (falls L M cwf) (frac 282 100) (trans≤ (rises_most cb b) (omega arith)) in
      loosen (omega arith) (near_ceil (near_mult (b1_most L k) m (by_ceil (exact_b1 L)) (millionths_up y (by_ceil (y *f whole 1000000)))))

  lower_below : Below (lower L M cb cwf) (exact_b1 L *f exact_b2_below L M cb cwf) (whole 13)
  unfolding lower b2_below exact_b2_below
  lower_below =
      let y = falls L M cwf -f rises cb in
      let m : y ≤f frac 507 100 = sub_le (falls L M cwf) (rises cb) (frac 507 100) (trans≤ (falls_most L M cwf h k g) (rises_least cb)) in
      let v = by_floor (exact_b1 L) in
      let w = millionths_down y (by_floor (y *f whole 1000000)) in
      loosen (omega arith) (near_floor (near_mult (trans≤ v.above (b1_most L k)) (trans≤ w.above m) v w))

  -- one of the two is 0
  one_product : ((higher L M cb cwf ≡ 0) × ((exact_b1 L *f exact_b2_above L M cb cwf).top ≡ 0)) ⊎ ((lower L M cb cwf ≡ 0) × ((exact_b1 L *f exact_b2_below L M cb cwf).top ≡ 0))
  unfolding higher lower b2_above b2_below exact_b2_above exact_b2_below
  one_product =
      elim (one_nought (rises cb) (falls L M cwf)) [
        | inl z ↦ (
            let e = ceil_zero ((rises cb -f falls L M cwf) *f whole 1000000) (rw (z, zero-mul)) in
            inl (ceil_zero (whole (ceil (exact_b1 L)) *f frac (b2_above L M cb cwf) 1000000) (rw (e, mul-zero)), rw (z, mul-zero))
            )
        | inr z ↦ (
            let e = floor_zero ((falls L M cwf -f rises cb) *f whole 1000000) (rw (z, zero-mul)) in
            inr (floor_zero (whole (floor (exact_b1 L)) *f frac (b2_below L M cb cwf) 1000000) (rw (e, mul-zero)), rw (z, mul-zero))
            )
      ]

-- The bow's freeboard is never below the exact one, and at most 13 um above
pub bow_within : (L M cb cwf sixth fp l height : ℕ) → 1000 ≤ M → L ≤ 365000 → cb ≤ 12000 → cwf ≤ 10000
    → Within (bow_freeboard L M cb cwf sixth fp l height) (exact_bow L M cb cwf sixth fp l height) (whole 13)
unfolding bow_freeboard exact_bow
bow_within L M cb cwf sixth fp l height h k b g =
    let c = one_side (higher_within L M cb cwf h k b g) (lower_below L M cb cwf h k b g) (one_product L M cb cwf h k b g) in
    loosen (trans≤ {y = c.up +f c.down} (omega arith) c.both)
    (less (sum c.plus (exactly (sheer_taken sixth lift))) (below_sum c.minus (exactly (sheer_taken sixth fp + forecastle_taken L l height))))
