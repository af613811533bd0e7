-- Sheer (regulation 38): what it adds to the freeboard and what it deducts, in um; L and S in mm.
-- A signed quantity is in two parts, what is above and what is lacking, each a difference that stops at zero: one of the two is always 0.
use Rattle.std.specs.Prelude.{ℕ, ◌+◌, ◌*◌, List}
use Rattle.whole.specs.Pick.{pick}
use Rattle.whole.specs.Frac.{Frac, ◌+f◌, ◌*f◌, ◌-f◌, ◌÷f◌, ◌<f?◌, minf, whole, frac, ceil, floor}
use Rattle.units.specs.declared.Ordinate.{Ordinate}
use Rattle.units.specs.Datum.{lift, sheer_at}

-- ---- 38(8): multipliers 1, 3, 3 in each half; the ordinate amidships is 0
abbrev pub weighted : ℕ → ℕ → ℕ → ℕ
weighted perpendicular sixth third = perpendicular + 3 * sixth + 3 * third

-- the actual sums. An ordinate has `lift` added to it, so these have 7 times that, by the multipliers 1 + 3 + 3
unfoldable pub after_sum : List Ordinate → ℕ
after_sum o = weighted (sheer_at o 0) (sheer_at o 1) (sheer_at o 2)

unfoldable pub forward_sum : List Ordinate → ℕ
forward_sum o = weighted (sheer_at o 5) (sheer_at o 4) (sheer_at o 3)

-- the same added to any other sum, to compare it with them
abbrev pub lifted : Frac → Frac
lifted x = whole (7 * lift) +f x

-- with u = L/3+10 (metres), standard ordinates in mm: AP 25u, 11.1u, 2.8u; FP 50u, 22.2u, 5.6u
unfoldable pub unit : ℕ → Frac
unit L = frac L 3000 +f whole 10

unfoldable pub standard_after : ℕ → Frac
standard_after L = frac (weighted 250 111 28) 10 *f unit L

unfoldable pub standard_forward : ℕ → Frac
standard_forward L = frac (weighted 500 222 56) 10 *f unit L

-- ---- 38(9): the excess of a half is (actual sum minus standard sum)/8 mm; and its deficiency
unfoldable pub above : ℕ → Frac → Frac
above sum standard = (whole sum -f lifted standard) *f frac 1000 8

unfoldable pub lacks : ℕ → Frac → Frac
lacks sum standard = (lifted standard -f whole sum) *f frac 1000 8

-- ---- 38(10), (11): after excess with forward deficiency: after counts 0
unfoldable pub after_counts : ℕ → ℕ → ℕ → Frac
after_counts after forward L = pick (whole forward <f? lifted (standard_forward L)) (whole 0) (above after (standard_after L))

-- forward excess with after deficiency: forward counts whole if the after sum is at least 75% of standard, 0 at 50% or less, linear between;
-- that is the part of the way from 50% to 75%. Where after lacks nothing it is past them
unfoldable pub forward_share : ℕ → Frac → Frac
forward_share after standard = minf (whole 1) ((whole after -f lifted (frac 50 100 *f standard)) ÷f (frac 25 100 *f standard))

-- ---- the mean of the two
unfoldable pub mean_above : ℕ → ℕ → ℕ → Frac
mean_above after forward L = (after_counts after forward L +f above forward (standard_forward L) *f forward_share after (standard_after L)) *f frac 1 2

unfoldable pub mean_lacks : ℕ → ℕ → ℕ → Frac
mean_lacks after forward L = (lacks after (standard_after L) +f lacks forward (standard_forward L)) *f frac 1 2

unfoldable pub exact_excess : ℕ → ℕ → ℕ → Frac
exact_excess after forward L = mean_above after forward L -f mean_lacks after forward L

unfoldable pub exact_deficiency : ℕ → ℕ → ℕ → Frac
exact_deficiency after forward L = mean_lacks after forward L -f mean_above after forward L

-- down: an excess loses its fraction, a deficiency grows to the next um
unfoldable pub excess : ℕ → ℕ → ℕ → ℕ
excess after forward L = floor (exact_excess after forward L)

unfoldable pub deficiency : ℕ → ℕ → ℕ → ℕ
deficiency after forward L = ceil (exact_deficiency after forward L)

-- ---- 38(14), (15): negative: add its size times (0.75-S/2L)
unfoldable pub exact_addition : Frac → ℕ → ℕ → Frac
exact_addition d L S = d *f (frac 75 100 -f frac S (2 * L))

-- up
unfoldable pub addition : ℕ → ℕ → ℕ → ℕ
addition d L S = ceil (exact_addition (whole d) L S)

-- ---- 38(14), (16): positive: deduct the lesser of it times that factor times the cover, and 1.25 L um. The cover is reach / 2L, its reach in tenths of a mm
unfoldable pub exact_deduction : Frac → ℕ → ℕ → ℕ → Frac
exact_deduction e L S reach = minf (e *f (frac 75 100 -f frac S (2 * L)) *f frac reach (2 * L)) (frac 125 100 *f whole L)

-- down
unfoldable pub deduction : ℕ → ℕ → ℕ → ℕ → ℕ
deduction e L S reach = floor (exact_deduction (whole e) L S reach)

-- ---- by the ordinates
unfoldable pub added : List Ordinate → ℕ → ℕ → ℕ
added o L S = addition (deficiency (after_sum o) (forward_sum o) L) L S

unfoldable pub exact_added : List Ordinate → ℕ → ℕ → Frac
exact_added o L S = exact_addition (exact_deficiency (after_sum o) (forward_sum o) L) L S

unfoldable pub deducted : List Ordinate → ℕ → ℕ → ℕ → ℕ
deducted o L S reach = deduction (excess (after_sum o) (forward_sum o) L) L S reach

unfoldable pub exact_deducted : List Ordinate → ℕ → ℕ → ℕ → Frac
exact_deducted o L S reach = exact_deduction (exact_excess (after_sum o) (forward_sum o) L) L S reach
