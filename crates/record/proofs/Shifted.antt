-- How many values a field of w bits has, as code makes it: 1 shifted by w.
use Prim.Native.Nat.{ℕ, ◌*◌, ◌%◌, ◌^◌, ◌≤◌, ◌<◌}
use mathlib.Core.Path.{◌≡◌, ap, ◌∙◌}
use native.Mathlib.Nat.{one-mul}
use native.Mathlib.Omega.{arith}
use lib.Pow.{pow_pos, pow_mono, shl_exact}

-- of a width that is at most `most`
pub one_shifted : (w bits most : ℕ) → w ≡ bits → w ≤ most → most < 64
    → let r = (1 * 2 ^ w) % 2 ^ 64 in
    (r ≡ 2 ^ bits) × (0 < r) × (r ≤ 2 ^ most)
one_shifted w bits most e h m =
    let v : (1 * 2 ^ w) % 2 ^ 64 ≡ 2 ^ w = shl_exact {a = 1} 1 w 64 (omega arith) (omega arith) ∙ one-mul (2 ^ w) in
    (v ∙ ap (λ (k : ℕ). 2 ^ k) e, rw v (pow_pos w), rw v (pow_mono h))
