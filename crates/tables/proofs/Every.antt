-- A rule of a table from one test that is computed at each of its places.
use mathlib.Core.Path.{◌≡◌}
use mathlib.Core.Bool.{Bool, true, ◌&&◌, and-eq-true_iff}
use Prim.Native.Nat.{ℕ, zero, suc, ◌<◌}
use native.Mathlib.Nat.{not-suc-le-zero}
use native.Mathlib.Decide.{dec_lt}
use native.Mathlib.Omega.{arith}

-- the test passes at each place below n
unfoldable pub every : (ℕ → Bool) → ℕ → Bool
every test zero = true
every test (suc n) = test n && every test n

pub at : (test : ℕ → Bool) (n : ℕ) → every test n ≡ true → (k : ℕ) → k < n → test k ≡ true
unfolding every
at test zero t k h = absurd (not-suc-le-zero h)
at test (suc n) t k h =
    let here = (and-eq-true_iff (test n) (every test n)).0 t in
    elim (dec_lt k n) [
      | yes g ↦ at test n here.1 k g
      | no g ↦ (let e : k ≡ n = omega arith in rw e here.0)
    ]
