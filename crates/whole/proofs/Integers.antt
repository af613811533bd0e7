-- Whole numbers by their two parts: laws of ℤ become facts of naturals.
use mathlib.Core.Path.{◌≡◌, refl, sym, ap, subst, ◌∙◌}
use mathlib.Core.Bool.{true, false}
use Prim.Native.Nat.{ℕ, zero, suc, ◌+◌, ◌-◌, ◌≤◌, ◌<◌, min}
use native.Mathlib.Omega.{arith}
use native.Mathlib.Decide.{dec_lt}
use lib.Dec.{T}
use lib.IntN.{ℤ, pos, negsuc, sub_ℕ, neg_ℤ, ◌+ℤ◌, ◌-ℤ◌, +ℤ_assoc, +ℤ_comm, neg_ℤ-+ℤ}
use lib.Signed.{le_z, ◌≤ℤ◌}
use borrow.Author.Tests.{le-leb, lt-leb, le-ltb, lt-ltb}
use Rattle.whole.specs.Pick.{pick}
use Rattle.whole.specs.Sign.{above, under}

-- a difference of naturals, by its parts
sub_above : (a b : ℕ) → above (sub_ℕ a b) ≡ a - b
sub_above a b =
    elim (dec_lt a b) [
      | yes t ↦ (rw (lt-ltb a b t) (omega arith))
      | no t ↦ (rw (le-ltb a b (omega arith)) (omega arith))
    ]

sub_under : (a b : ℕ) → under (sub_ℕ a b) ≡ b - a
sub_under a b =
    elim (dec_lt a b) [
      | yes t ↦ (rw (lt-ltb a b t) (omega arith))
      | no t ↦ (rw (le-ltb a b (omega arith)) (omega arith))
    ]

pub minus_above : (a b : ℕ) → above (pos a -ℤ pos b) ≡ a - b
minus_above a zero = omega arith
minus_above a (suc b) = sub_above a (suc b)

pub minus_under : (a b : ℕ) → under (pos a -ℤ pos b) ≡ b - a
minus_under a zero = omega arith
minus_under a (suc b) = sub_under a (suc b)

-- ---- the order
pub parts_le : (m n : ℤ) → above m + under n ≤ above n + under m → le_z m n ≡ true
parts_le (pos a) (pos b) h = le-leb a b (omega arith)
parts_le (pos a) (negsuc b) h = absurd (omega arith)
parts_le (negsuc a) (pos b) h = refl
parts_le (negsuc a) (negsuc b) h = le-leb b a (omega arith)

pub parts_lt : (m n : ℤ) → above n + under m < above m + under n → le_z m n ≡ false
parts_lt (pos a) (pos b) h = lt-leb a b (omega arith)
parts_lt (pos a) (negsuc b) h = refl
parts_lt (negsuc a) (pos b) h = absurd (omega arith)
parts_lt (negsuc a) (negsuc b) h = lt-leb b a (omega arith)

-- a - b against c - d, each number on the side where it is not negative
pub minus_le : (a b c d : ℕ) → a + d ≤ c + b → le_z (pos a -ℤ pos b) (pos c -ℤ pos d) ≡ true
minus_le a b c d h =
    parts_le (pos a -ℤ pos b) (pos c -ℤ pos d) (rw (minus_above a b, minus_under a b, minus_above c d, minus_under c d) (omega arith))

pub minus_lt : (a b c d : ℕ) → c + b < a + d → le_z (pos a -ℤ pos b) (pos c -ℤ pos d) ≡ false
minus_lt a b c d h =
    parts_lt (pos a -ℤ pos b) (pos c -ℤ pos d) (rw (minus_above a b, minus_under a b, minus_above c d, minus_under c d) (omega arith))

pub in_order : (a b c d : ℕ) → a + d ≤ c + b → (pos a -ℤ pos b) ≤ℤ (pos c -ℤ pos d)
in_order a b c d h = record { le = subst T (sym (minus_le a b c d h)) tt }

pub from_order : (a b c d : ℕ) → (pos a -ℤ pos b) ≤ℤ (pos c -ℤ pos d) → a + d ≤ c + b
from_order a b c d h =
    elim (dec_lt (c + b) (a + d)) [
      | yes t ↦ absurd (subst T (minus_lt a b c d t) h.le)
      | no t ↦ omega arith
    ]

-- ---- a number less, and a number more
pub minus_less : (p q k : ℕ) → pos p -ℤ pos q -ℤ pos k ≡ pos p -ℤ pos (q + k)
minus_less p q k = +ℤ_assoc (pos p) (neg_ℤ (pos q)) (neg_ℤ (pos k)) ∙ ap (λ (z : ℤ). pos p +ℤ z) (sym (neg_ℤ-+ℤ (pos q) (pos k)))

pub minus_more : (p q k : ℕ) → pos p -ℤ pos q +ℤ pos k ≡ pos (p + k) -ℤ pos q
minus_more p q k =
    +ℤ_assoc (pos p) (neg_ℤ (pos q)) (pos k) ∙ ap (λ (z : ℤ). pos p +ℤ z) (+ℤ_comm (neg_ℤ (pos q)) (pos k)) ∙ sym (+ℤ_assoc (pos p) (pos k) (neg_ℤ (pos q)))

by_parts : (m n : ℤ) → above m + under n ≡ above n + under m → m ≡ n
by_parts (pos a) (pos b) e = ap pos (omega arith)
by_parts (pos a) (negsuc b) e = absurd (omega arith)
by_parts (negsuc a) (pos b) e = absurd (omega arith)
by_parts (negsuc a) (negsuc b) e = ap negsuc (omega arith)

-- the lesser of a - b and c
pub minus_min : (a b c : ℕ) → pick (le_z (pos a -ℤ pos b) (pos c)) (pos a -ℤ pos b) (pos c) ≡ pos (min a (c + b)) -ℤ pos b
unfolding pick
minus_min a b c =
    let p = minus_above a b in
    let q = minus_under a b in
    elim (dec_lt (c + b) a) [
      | yes t ↦ (
          let e : min a (c + b) ≡ c + b = omega arith in
          rw (parts_lt (pos a -ℤ pos b) (pos c) (rw (p, q) (omega arith)), e)
          (by_parts (pos c) (pos (c + b) -ℤ pos b) (rw (minus_above (c + b) b, minus_under (c + b) b) (omega arith)))
          )
      | no t ↦ (let e : min a (c + b) ≡ a = omega arith in rw (parts_le (pos a -ℤ pos b) (pos c) (rw (p, q) (omega arith)), e))
    ]

-- a number is the difference of its parts
pub of_parts : (n : ℤ) → pos (above n) -ℤ pos (under n) ≡ n
of_parts n =
    by_parts (pos (above n) -ℤ pos (under n)) n (rw (minus_above (above n) (under n), minus_under (above n) (under n)) (omega arith))

pub lower : (n : ℤ) (k : ℕ) → (n -ℤ pos k) ≤ℤ n
lower n k =
    let p = above n in
    let q = under n in
    let e = of_parts n in
    subst (λ (z : ℤ). (z -ℤ pos k) ≤ℤ z) e (subst (λ (z : ℤ). z ≤ℤ (pos p -ℤ pos q)) (sym (minus_less p q k)) (in_order p (q + k) p q (omega arith)))

pub higher : (n : ℤ) (k : ℕ) → n ≤ℤ (n +ℤ pos k)
higher n k =
    let p = above n in
    let q = under n in
    let e = of_parts n in
    subst (λ (z : ℤ). z ≤ℤ (z +ℤ pos k)) e (subst (λ (z : ℤ). (pos p -ℤ pos q) ≤ℤ z) (sym (minus_more p q k)) (in_order p q (p + k) q (omega arith)))
