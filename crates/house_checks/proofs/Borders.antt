-- Two tests that follow from each other give the same answer; checks 9 and 10 by such tests, and 23 within 16 bits.
use Prim.Native.Nat.{ℕ, ◌-◌, ◌+◌, ◌*◌, ◌≤◌, ◌<◌}
use mathlib.Core.Bool.{Bool, true, false, not, ◌&&◌, ◌||◌}
use mathlib.Core.Path.{◌≡◌, refl}
use native.Mathlib.Omega.{arith}
use native.Mathlib.Decide.{dec_lt}
use lib.Dec.{ltb, leb}
use borrow.Author.Tests.{lt-ltb, le-ltb, le-leb, lt-leb}
use Rattle.units.specs.Datum.{station_of}
use Rattle.ship.specs.declared.House.{House}
use Rattle.ship.specs.Checks.{one_alone, bad_ends, bad_breadths, bad_quarterdeck}

module _ (a b c d : ℕ) where
  pub lt_is_lt : (a < b → c < d) → (c < d → a < b) → ltb a b ≡ ltb c d
  lt_is_lt f g =
      elim (dec_lt a b) [
        | yes h ↦ rw (lt-ltb a b h, lt-ltb c d (f h)) refl
        | no h ↦ elim (dec_lt c d) [ yes k ↦ absurd (h (g k)) | no k ↦ rw (le-ltb a b (omega arith), le-ltb c d (omega arith)) refl ]
      ]

  pub lt_is_le : (a < b → c ≤ d) → (c ≤ d → a < b) → ltb a b ≡ leb c d
  lt_is_le f g =
      elim (dec_lt a b) [
        | yes h ↦ rw (lt-ltb a b h, le-leb c d (f h)) refl
        | no h ↦ elim (dec_lt d c) [ yes k ↦ rw (le-ltb a b (omega arith), lt-leb c d k) refl | no k ↦ absurd (h (g (omega arith))) ]
      ]

-- one of the last two of three tests is met, or neither
or_either : (a b c : Bool) → (b || c) ≡ true → (a || b || c) ≡ true
or_either true b c e = refl
or_either false b c e = e

or_neither : (a b c : Bool) → (b || c) ≡ false → (a || b || c) ≡ a
or_neither true b c e = refl
or_neither false b c e = e

-- 23: a breadth beyond 16 bits is bad; within them the other tests decide
module _ (h : House) where
  abbrev pub otherwise : Bool
  otherwise = one_alone h.breadth.0 h.beam.0 || ltb h.beam.0 h.breadth.0 || ltb (25 * h.breadth.0) (23 * h.beam.0)

  pub beyond : (ltb 65535 h.breadth.0 || ltb 65535 h.beam.0) ≡ true → bad_breadths h ≡ true
  beyond e = or_either otherwise (ltb 65535 h.breadth.0) (ltb 65535 h.beam.0) e

  pub within_bits : (ltb 65535 h.breadth.0 || ltb 65535 h.beam.0) ≡ false → bad_breadths h ≡ otherwise
  within_bits e = or_neither otherwise (ltb 65535 h.breadth.0) (ltb 65535 h.beam.0) e

-- 9 and 10 in lengths: the definitions set two stations beside each other, the code what lies between them
module _ (l : ℕ) (h : House) where
  pub ends_by_lengths : (ltb (h.fore.0 - h.aft.0) 1 || ltb (h.fore.0 - station_of 0) 1 || ltb (station_of l - h.aft.0) 1 || ltb 20000 (station_of 0 - h.aft.0)
      || ltb 20000 (h.fore.0 - station_of l) || ltb h.height.0 1 || ltb 8191 h.height.0) ≡ bad_ends l h
  ends_by_lengths =
      let a = h.aft.0 in
      let f = h.fore.0 in
      rw (
        lt_is_le (f - a) 1 f a (λ h. omega arith) (λ h. omega arith),
        lt_is_le (f - station_of 0) 1 f (station_of 0) (λ h. omega arith) (λ h. omega arith),
        lt_is_le (station_of l - a) 1 (station_of l) a (λ h. omega arith) (λ h. omega arith),
        lt_is_lt 20000 (station_of 0 - a) a (station_of 0 - 20000) (λ h. omega arith) (λ h. omega arith),
        lt_is_lt 20000 (f - station_of l) (station_of (l + 20000)) f (λ h. omega arith) (λ h. omega arith),
      ) refl

  pub quarterdeck_by_lengths : (h.quarterdeck && (not h.enclosed || ltb 0 (h.aft.0 - station_of 0) || ltb (station_of l - h.fore.0) 1)) ≡ bad_quarterdeck l h
  quarterdeck_by_lengths =
      let a = h.aft.0 in
      let f = h.fore.0 in
      rw (
        lt_is_lt 0 (a - station_of 0) (station_of 0) a (λ h. omega arith) (λ h. omega arith),
        lt_is_le (station_of l - f) 1 (station_of l) f (λ h. omega arith) (λ h. omega arith),
      ) refl
