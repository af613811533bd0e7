-- Regulation 31, deep and shallow ships: (D - L / 15) R mm, D and L in metres. Here D and L are in mm, and what is added or taken in um.
use Rattle.std.specs.Prelude.{ℕ, ltb}
use Rattle.whole.specs.Pick.{pick}
use Rattle.whole.specs.Frac.{Frac, ◌<f?◌, ◌-f◌, ◌*f◌, whole, frac, ceil, floor}

-- 31(1): R = L / 0.48 below 120 m, 250 from 120 m
unfoldable pub rate : ℕ → Frac
rate l = pick (ltb l 120000) (frac l 480) (whole 250)

-- ---- 31(1): what is added, if D > L / 15
unfoldable pub exact_depth_addition : ℕ → ℕ → Frac
exact_depth_addition l d = pick (frac l 15 <f? whole d) ((whole d -f frac l 15) *f rate l) (whole 0)

-- up
unfoldable pub depth_addition : ℕ → ℕ → ℕ
depth_addition l d = ceil (exact_depth_addition l d)

-- ---- 31(2) and (3), with 02 §4: what is taken, if D < L / 15, at the same rate, and in the ratio of heights of the house amidships; 0 is the ratio of none
unfoldable pub exact_depth_reduction : ℕ → ℕ → Frac → Frac
exact_depth_reduction l d ratio = pick (whole d <f? frac l 15) ((frac l 15 -f whole d) *f rate l *f ratio) (whole 0)

-- down, once, after the cut
unfoldable pub depth_reduction : ℕ → ℕ → Frac → ℕ
depth_reduction l d ratio = floor (exact_depth_reduction l d ratio)
