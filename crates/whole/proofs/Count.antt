-- Laws of specs/Count.antt.
use Prim.Native.Nat.{ℕ, zero, suc, ◌+◌, ◌-◌, ◌≤◌, min, max}
use mathlib.Core.Bool.{Bool, true, false, true≢false, ◌&&◌, ◌||◌}
use mathlib.Core.Path.{◌≡◌, refl}
use native.Mathlib.Decide.{dec_lt}
use native.Mathlib.Omega.{arith}
use borrow.Author.Tests.{le-leb, lt-leb}
use lib.Dec.{leb}
use Rattle.whole.specs.Pick.{pick}
use Rattle.whole.specs.Count.{count}

pub count_none : (n : ℕ) → count (λ j. false) n ≡ 0
unfolding count pick
count_none zero = refl
count_none (suc n) = omega (arith, count_none n)

pub count_most : (t : ℕ → Bool) (n : ℕ) → count t n ≤ n
unfolding count pick
count_most t zero = omega arith
count_most t (suc n) = go (t n) (count_most t n)
  where
    go : (b : Bool) → count t n ≤ n → count t n + pick b 1 0 ≤ suc n
    go true h = omega arith
    go false h = omega arith

-- two tests that agree
pub count_same : (p q : ℕ → Bool) (n : ℕ) → ((j : ℕ) → p j ≡ q j) → count p n ≡ count q n
unfolding count
count_same p q zero h = refl
count_same p q (suc n) h = rw (h n, count_same p q n h) refl

-- two tests that no number passes both
bit_or : (x y : Bool) → (x ≡ true → y ≡ false) → pick (x || y) 1 0 ≡ pick x 1 0 + pick y 1 0
unfolding pick
bit_or true true h = absurd (true≢false (h refl))
bit_or true false h = refl
bit_or false y h = omega arith

pub count_or : (p q : ℕ → Bool) (n : ℕ) → ((j : ℕ) → p j ≡ true → q j ≡ false) → count (λ j. p j || q j) n ≡ count p n + count q n
unfolding count
count_or p q zero h = refl
count_or p q (suc n) h = omega (arith, count_or p q n h, bit_or (p n) (q n) (h n))

-- the steps from j to j + 1 between a and f, where j counts from a number on
pub count_between : (from a f n : ℕ) → count (λ j. leb a (from + j) && leb (from + j + 1) f) n ≡ min f (from + n) - max a from
unfolding count pick
count_between from a f zero = omega arith
count_between from a f (suc n) =
    elim (dec_lt (from + n) a) [
      | yes h ↦ rw (lt-leb a (from + n) h) (omega (arith, count_between from a f n))
      | no h ↦ elim (dec_lt (from + n) f) [
        | yes g ↦ rw (le-leb a (from + n) (omega arith), le-leb (from + n + 1) f (omega arith)) (omega (arith, count_between from a f n))
        | no g ↦ rw (le-leb a (from + n) (omega arith), lt-leb (from + n + 1) f (omega arith)) (omega (arith, count_between from a f n))
      ]
    ]
