-- A difference of two small numbers fits an i64.
use mathlib.Core.Bool.{Bool, true, false, cond}
use Prim.Native.Nat.{ℕ, zero, suc, ◌-◌, ◌^◌, ◌<◌}
use native.Mathlib.Omega.{arith}
use lib.Dec.{ltb}
use lib.IntN.{pos, negsuc, ◌-ℤ◌}
use lib.Signed.{mag}
use mir.Syntax.{w64}
use mir.Val.{SFits}

-- the size of the one of two that a test picks
mag_either : (t : Bool) (x y m : ℕ) → x < m → y < m → mag (cond t (negsuc x) (pos y)) < m
mag_either true x y m h g = h
mag_either false x y m h g = g

pub minus_fits : (a b : ℕ) → a < 2 ^ 32 → b < 2 ^ 32 → SFits w64 (pos a -ℤ pos b)
minus_fits a zero h g = record { sfits = omega arith }
minus_fits a (suc b) h g = record { sfits = mag_either (ltb a (suc b)) (suc b - suc a) (a - suc b) (2 ^ 63) (omega arith) (omega arith) }
