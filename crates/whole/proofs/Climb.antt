-- What rises from each number to the next rises from any to any later one.
use Prim.Native.Nat.{ℕ, zero, suc, ◌+◌, ◌≤◌, ◌<◌}
use mathlib.Core.Path.{◌≡◌}
use native.Mathlib.Nat.{le_refl, le_trans}
use native.Mathlib.Numerals.{add-one}
use native.Mathlib.Decide.{dec_lt}
use native.Mathlib.Omega.{arith}

pub climb : (f : ℕ → ℕ) (n : ℕ) → ((k : ℕ) → k + 1 < n → f k ≤ f (k + 1)) → (i j : ℕ) → i ≤ j → j < n → f i ≤ f j
climb f n up i zero h g = (let e : i ≡ 0 = omega arith in rw e (le_refl _))
climb f n up i (suc j) h g =
    elim (dec_lt i (suc j)) [
      | yes t ↦ le_trans (climb f n up i j (omega arith) (omega arith)) (rw add-one at (up j (omega arith)))
      | no t ↦ (let e : i ≡ suc j = omega arith in rw e (le_refl _))
    ]
