-- Laws of a search for the first number that fails a test, and of the table's lines.
use Prim.Native.Nat.{ℕ, zero, suc, ◌+◌, ◌-◌, ◌≤◌, ◌<◌}
use mathlib.Core.Bool.{Bool, true, false}
use mathlib.Core.Path.{◌≡◌, refl}
use native.Mathlib.Omega.{arith}
use native.Mathlib.Decide.{dec_lt}
use Rattle.whole.specs.Pick.{pick}
use Rattle.ship.specs.Checks.{first_from}

-- one step of a search that has come to k and ends at n: k fails, k passes, or none is left
module _ (fails : ℕ → Bool) (n k : ℕ) where
  pub first_fail : k < n → fails k ≡ true → first_from fails k (n - k) ≡ k
  unfolding first_from pick
  first_fail h e =
      let m : n - k ≡ suc (n - (k + 1)) = omega arith in
      rw (m, first_from, e) refl

  pub first_pass : k < n → fails k ≡ false → first_from fails k (n - k) ≡ first_from fails (k + 1) (n - (k + 1))
  unfolding first_from pick
  first_pass h e =
      let m : n - k ≡ suc (n - (k + 1)) = omega arith in
      rw (m, first_from, e) refl

  pub first_end : n ≤ k → first_from fails k (n - k) ≡ k
  unfolding first_from
  first_end h =
      let m : n - k ≡ 0 = omega arith in
      rw m refl

pub first_most : (fails : ℕ → Bool) (k m : ℕ) → first_from fails k m ≤ k + m
unfolding first_from pick
first_most fails k zero = omega arith
first_most fails k (suc m) = go (fails k) (first_most fails (k + 1) m)
  where
    go : (b : Bool) → first_from fails (k + 1) m ≤ k + 1 + m → pick b k (first_from fails (k + 1) m) ≤ k + suc m
    go true h = omega arith
    go false h = omega arith

-- what lies before the first failure passes
pub none_before : (fails : ℕ → Bool) (k m j : ℕ) → k ≤ j → j < first_from fails k m → fails j ≡ false
unfolding first_from pick
none_before fails k zero j h g = absurd (omega arith)
none_before fails k (suc m) j h g = go (fails k) refl (none_before fails (k + 1) m j) g
  where
    go : (b : Bool) → fails k ≡ b → (k + 1 ≤ j → j < first_from fails (k + 1) m → fails j ≡ false) → j < pick b k (first_from fails (k + 1) m) → fails j ≡ false
    go true e r g = absurd (omega arith)
    go false e r g = elim (dec_lt k j) [ yes q ↦ r (omega arith) g | no q ↦ (let s : j ≡ k = omega arith in rw s e) ]

-- what is found fails
pub found_fails : (fails : ℕ → Bool) (k m : ℕ) → first_from fails k m < k + m → fails (first_from fails k m) ≡ true
unfolding first_from pick
found_fails fails k zero h = absurd (omega arith)
found_fails fails k (suc m) h = go (fails k) refl (found_fails fails (k + 1) m) h
  where
    go : (b : Bool) → fails k ≡ b → (first_from fails (k + 1) m < k + 1 + m → fails (first_from fails (k + 1) m) ≡ true)
        → pick b k (first_from fails (k + 1) m) < k + suc m → fails (pick b k (first_from fails (k + 1) m)) ≡ true
    go true e r g = e
    go false e r g = r (omega arith)

-- where nothing fails, nothing is found
pub first_none : (fails : ℕ → Bool) (k m : ℕ) → ((j : ℕ) → k ≤ j → j < k + m → fails j ≡ false) → first_from fails k m ≡ k + m
unfolding first_from pick
first_none fails k zero h = omega arith
first_none fails k (suc m) h =
    let r : first_from fails (k + 1) m ≡ k + 1 + m = first_none fails (k + 1) m (λ j p q. h j (omega arith) (omega arith)) in
    rw (h k (omega arith) (omega arith)) (omega arith)
