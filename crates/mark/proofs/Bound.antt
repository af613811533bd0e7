-- The summer mark as code works it, and against its exact value.
use Prim.Native.Nat.{ℕ, ◌*◌, ◌-◌, ◌≤◌, max}
use mathlib.Core.Path.{◌≡◌, ◌∙◌}
use native.Mathlib.Omega.{arith}
use Rattle.whole.specs.Divide.{ceil_div}
use Rattle.whole.specs.Frac.{Frac, ◌<f◌, ◌≈f◌, ◌+f◌, ◌-f◌, whole, frac, ceil}
use Rattle.whole.specs.Round.{Near, Within}
use Rattle.whole.proofs.Divide.{ceil_ge, ceil_lt}
use Rattle.whole.proofs.Frac.{refl≤, trans<≤, trans≤, +_mono≤, refl≈}
use Rattle.whole.proofs.Round.{near_self, near_max, near_times, loosen, restate, ceil_of, by_ceil}
use Rattle.mark.specs.Summer.{exact_summer, summer_mark, Holds}

-- the floor is whole, so it may be laid on before the rounding or after it
floor_out : (floor m : ℕ) → max floor (ceil_div m 1000) ≡ ceil_div (max (1000 * floor) m) 1000
floor_out floor m = omega (arith, ceil_ge m 1000 (omega arith), ceil_lt m 1000 (omega arith), ceil_ge (max (1000 * floor) m) 1000 (omega arith), ceil_lt (max (1000 * floor) m) 1000 (omega arith))

in_mm : (floor a t b : ℕ) → frac (max (1000 * floor) (max (a - t) b)) 1000 ≈f exact_summer floor (whole a) (whole t) (whole b)
unfolding exact_summer
in_mm floor a t b = omega arith

pub mark_quotient : (floor a t b : ℕ) → max floor (ceil_div (max (a - t) b) 1000) ≡ summer_mark floor a t b
unfolding summer_mark
mark_quotient floor a t b = floor_out floor (max (a - t) b) ∙ ceil_of (max (1000 * floor) (max (a - t) b)) 1000 (omega arith) (in_mm floor a t b)

-- no mark is below its floor
pub summer_least : (floor a t b : ℕ) → floor ≤ summer_mark floor a t b
summer_least floor a t b = rw (← mark_quotient floor a t b) (omega arith)

-- a higher floor, more added, or less taken, never lowers the mark
pub summer_rises : (f g a t c u b : ℕ) → f ≤ g → a ≤ c → u ≤ t → summer_mark f a t b ≤ summer_mark g c u b
summer_rises f g a t c u b k p q =
    let m = max (a - t) b in
    let n = max (c - u) b in
    rw (← mark_quotient f a t b, ← mark_quotient g c u b) (omega (arith, ceil_lt m 1000 (omega arith), ceil_ge n 1000 (omega arith)))

-- the last rounding costs less than 1 mm
under_one : (x : Frac) → whole (ceil x) <f x +f whole 1
under_one x = omega (arith, ceil_lt x.top x.bot x.pos)

-- Where the corrected value and the bow's freeboard are each within 100 um, the summer mark is never below the exact value and less than 1.1 mm above it
pub summer_holds : {b : ℕ} {z : Frac} (floor a t : ℕ) (x y : Frac) → Within (a - t) (x -f y) (whole 100) → Within b z (whole 100)
    → Holds (summer_mark floor a t b) (exact_summer floor x y z)
unfolding summer_mark exact_summer
summer_holds {b} {z} floor a t x y v w =
    let c : Near (x -f y) (whole a -f whole t) (whole 100) = restate (refl≈ (x -f y)) (omega arith) v in
    let e = exact_summer floor x y z in
    let r = exact_summer floor (whole a) (whole t) (whole b) in
    let n : Near e r (frac 1 10) = near_max (near_self (whole floor) (frac 1 10)) (loosen (omega arith) (near_times (frac 1 1000) (near_max c w))) in
    record {
      above = trans≤ n.above (by_ceil r).above;
      close = trans<≤ {y = r +f whole 1} (under_one r) (trans≤ (+_mono≤ n.close (refl≤ (whole 1))) (omega arith));
    }
