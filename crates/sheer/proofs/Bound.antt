-- How close the rounded sheer is to the exact one.
use Prim.Native.Nat.{ℕ, ◌+◌, ◌*◌, ◌≤◌, ◌<◌}
use mathlib.Core.Path.{◌≡◌}
use mathlib.Core.Logic.{◌⊎◌, inl, inr}
use mathlib.Core.List.{List}
use native.Mathlib.Omega.{arith}
use native.Mathlib.Nat.{zero-mul, zero-min}
use Rattle.whole.specs.Frac.{Frac, ◌≤f◌, ◌+f◌, ◌*f◌, ◌-f◌, whole, frac}
use Rattle.whole.specs.Round.{Within, Below}
use Rattle.whole.proofs.Frac.{bot_of, refl≤, trans≤, +_mono≤, *_mono≤, sub_le}
use Rattle.whole.proofs.Round.{near_self, loosen, sum, below_sum, by_ceil, by_floor, near_times, near_min, near_ceil, near_floor}
use Rattle.whole.proofs.Signed.{Cost, one_side}
use Rattle.units.specs.declared.Ordinate.{Ordinate}
use Rattle.sheer.specs.Sheer.{after_sum, forward_sum, exact_excess, exact_deficiency, exact_addition, exact_deduction, excess, deficiency, addition, deduction, added, deducted, exact_added, exact_deducted}
use Rattle.sheer.proofs.Rounded.{one_part, none_added, none_deducted}

factor_most : (L S : ℕ) → frac 75 100 -f frac S (2 * L) ≤f whole 1
factor_most L S = sub_le (frac 75 100) (frac S (2 * L)) (whole 1) (omega arith)

-- The addition is never below the exact one, and at most 2 um above
pub added_within : (o : List Ordinate) (L S : ℕ) → Within (added o L S) (exact_added o L S) (whole 2)
unfolding added addition deficiency exact_added exact_addition
added_within o L S =
    loosen (trans≤ (+_mono≤ (*_mono≤ (refl≤ (whole 1)) (factor_most L S)) (refl≤ (whole 1))) (omega arith))
    (near_ceil (near_times (frac 75 100 -f frac S (2 * L)) (by_ceil (exact_deficiency (after_sum o) (forward_sum o) L))))

-- The deduction is never above the exact one, and at most 2 um below
pub deducted_below : (o : List Ordinate) (L S reach : ℕ) → 0 < L → reach ≤ 2 * L → Below (deducted o L S reach) (exact_deducted o L S reach) (whole 2)
unfolding deducted deduction excess exact_deducted exact_deduction
deducted_below o L S reach h g =
    let c : frac reach (2 * L) ≤f whole 1 = record { le = rw (bot_of (2 * L) (omega arith)) (omega arith) } in
    loosen (trans≤ (+_mono≤ (*_mono≤ (*_mono≤ (refl≤ (whole 1)) (factor_most L S)) c) (refl≤ (whole 1))) (omega arith))
    (near_floor (near_min
    (near_times (frac reach (2 * L)) (near_times (frac 75 100 -f frac S (2 * L)) (by_floor (exact_excess (after_sum o) (forward_sum o) L))))
    (near_self (frac 125 100 *f whole L) _)))

-- one of the two is 0
one_correction : (o : List Ordinate) (L S reach : ℕ)
    → ((added o L S ≡ 0) × ((exact_added o L S).top ≡ 0)) ⊎ ((deducted o L S reach ≡ 0) × ((exact_deducted o L S reach).top ≡ 0))
unfolding added exact_added exact_addition deducted exact_deducted exact_deduction
one_correction o L S reach =
    elim (one_part (after_sum o) (forward_sum o) L) [
      | inl z ↦ inl (rw z.0 (none_added L S), rw (z.1, zero-mul))
      | inr z ↦ inr (none_deducted (excess (after_sum o) (forward_sum o) L) L S reach (rw (z.0, zero-mul)), rw (z.1, zero-mul, zero-mul, zero-mul, zero-min))
    ]

-- Both in one: to what is added so far and what is taken, sheer adds its own, and costs 2 um more for the two together
pub sheer_cost : {b c : ℕ} {x y e f : Frac} (o : List Ordinate) (L S reach : ℕ) → 0 < L → reach ≤ 2 * L → Within b x e → Below c y f
    → Cost (b + added o L S) (x +f exact_added o L S) (c + deducted o L S reach) (y +f exact_deducted o L S reach) (e +f f +f whole 2)
sheer_cost {e = e} {f = f} o L S reach h g v w =
    let k = one_side (added_within o L S) (deducted_below o L S reach h g) (one_correction o L S reach) in
    record {
      up = e +f k.up;
      down = f +f k.down;
      plus = sum v k.plus;
      minus = below_sum w k.minus;
      both = trans≤ {y = e +f f +f (k.up +f k.down)} (omega arith) (+_mono≤ (refl≤ (e +f f)) k.both);
    }
