-- Laws of `turn`: only the bits of the field count, and a second turn undoes the first.
use Prim.Native.Nat.{ℕ, ◌+◌, ◌-◌, ◌*◌, ◌%◌, ◌≤◌, ◌<◌}
use mathlib.Core.Path.{◌≡◌, refl}
use native.Mathlib.Nat.{mod-mod, mod-eq_of_lt, add-mod_right}
use native.Mathlib.Decide.{dec_lt}
use native.Mathlib.Omega.{arith}
use Rattle.record.specs.Layout.{turn}

pub turn_low : (half u : ℕ) → turn half (u % (2 * half)) ≡ turn half u
turn_low half u = rw (mod-mod u (2 * half)) refl

-- the lower half goes up, and the upper half down
pub turn_below : (half u : ℕ) → u < half → turn half u ≡ u + half
turn_below half u h =
    let low : u % (2 * half) ≡ u = mod-eq_of_lt (omega arith) in
    rw low (mod-eq_of_lt (omega arith))

pub turn_above : (half u : ℕ) → half ≤ u → u < 2 * half → turn half u ≡ u - half
turn_above half u g h =
    let low : u % (2 * half) ≡ u = mod-eq_of_lt h in
    let e : u + half ≡ u - half + 2 * half = omega arith in
    rw (low, e, add-mod_right (u - half) (2 * half)) (mod-eq_of_lt (omega arith))

pub turn_turn : (half u : ℕ) → u < 2 * half → turn half (turn half u) ≡ u
turn_turn half u h =
    elim (dec_lt u half) [
      | yes l ↦ rw (turn_below half u l, turn_above half (u + half) (omega arith) (omega arith)) (omega arith)
      | no g ↦ rw (turn_above half u (omega arith) h, turn_below half (u - half) (omega arith)) (omega arith)
    ]
