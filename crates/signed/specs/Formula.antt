-- Depth (31), sheer (38) and bow height (39) as the papers write them, with signs: no difference stops at zero, and nothing is in two parts. Freeboards in um.
use Rattle.std.specs.Prelude.{ℕ, ◌*◌, ◌&&◌, List}
use Rattle.whole.specs.Pick.{pick}
use Rattle.whole.specs.Frac.{Frac, ◌*f◌, whole, frac}
use Rattle.units.specs.declared.Ordinate.{Ordinate}
use Rattle.units.specs.Datum.{lift, sheer_at}
use Rattle.corrections.specs.Depth31.{rate}
use Rattle.sheer.specs.Sheer.{standard_after, standard_forward}
use Rattle.bow.specs.Bow.{hundreds, forecastle_taken}
use Rattle.signed.specs.Signed.{Signed, plain, nil, ◌+s◌, ◌-s◌, ◌*s◌, ◌÷s◌, ◌≤s?◌, ◌<s?◌, mins}

-- ---- 31: what depth adds is (D - L/15) R; below zero it counts in the ratio of heights of the house amidships
unfoldable pub by_depth : ℕ → ℕ → Frac → Signed
by_depth L D ratio =
    let m = (plain (whole D) -s plain (frac L 15)) *s plain (rate L) in
    pick (m <s? nil) (m *s plain ratio) m

-- a ship's ordinate at place k, in mm
unfoldable pub ordinate : List Ordinate → ℕ → Signed
ordinate o k = plain (whole (sheer_at o k)) -s plain (whole lift)

-- ---- 38(8): multipliers 1, 3, 3 in each half; the ordinate amidships is 0
unfoldable pub weighted : Signed → Signed → Signed → Signed
weighted perpendicular sixth third = perpendicular +s plain (whole 3) *s sixth +s plain (whole 3) *s third

unfoldable pub after_sum : List Ordinate → Signed
after_sum o = weighted (ordinate o 0) (ordinate o 1) (ordinate o 2)

unfoldable pub forward_sum : List Ordinate → Signed
forward_sum o = weighted (ordinate o 5) (ordinate o 4) (ordinate o 3)

-- ---- 38(9): excess of a half is (actual sum minus standard sum)/8; a deficiency is below zero
unfoldable pub excess : Signed → Frac → Signed
excess sum standard = (sum -s plain standard) *s plain (frac 1000 8)

-- ---- 38(10): after excess with forward deficiency: after counts 0
unfoldable pub after_counts : Signed → Signed → Signed
after_counts after forward = pick ((nil <s? after) && (forward <s? nil)) nil after

-- 38(11): whole if the after sum is at least 75% of standard, 0 at 50% or less, linear between
unfoldable pub share : Signed → Frac → Signed
share sum standard =
    pick (plain (frac 75 100 *f standard) ≤s? sum) (plain (whole 1))
    (pick (sum ≤s? plain (frac 50 100 *f standard)) nil ((sum -s plain (frac 50 100 *f standard)) ÷s (frac 25 100 *f standard)))

-- forward excess with after deficiency: forward counts by that share
unfoldable pub forward_counts : Signed → Signed → Signed → Signed
forward_counts after forward part = pick ((nil <s? forward) && (after <s? nil)) (forward *s part) forward

-- ---- the mean of the two
unfoldable pub mean_of : Signed → Signed → Signed → Signed
mean_of after forward part = (after_counts after forward +s forward_counts after forward part) *s plain (frac 1 2)

unfoldable pub mean : List Ordinate → ℕ → Signed
mean o L =
    mean_of (excess (after_sum o) (standard_after L)) (excess (forward_sum o) (standard_forward L)) (share (after_sum o) (standard_after L))

-- ---- 38(14) to (16): 0.75-S/2L
unfoldable pub factor : ℕ → ℕ → Signed
factor L S = plain (frac 75 100) -s plain (frac S (2 * L))

-- what sheer adds to the freeboard. Negative: add its size times that factor. Positive: deduct the lesser of it times that factor times the cover,
-- and 1.25 L um. The cover is reach / 2L, its reach in tenths of a mm
unfoldable pub by_sheer : Signed → ℕ → ℕ → ℕ → Signed
by_sheer m L S reach =
    pick (m <s? nil) ((nil -s m) *s factor L S) (nil -s mins (m *s factor L S *s plain (frac reach (2 * L))) (plain (frac 125 100 *f whole L)))

-- ---- 39(1): with x = L/100, b1 = 6075x - 1875x² + 200x³ mm
unfoldable pub b1 : ℕ → Signed
b1 L =
    plain (whole 1000)
    *s (plain (whole 6075 *f hundreds L) -s plain (whole 1875 *f hundreds L *f hundreds L) +s plain (whole 200 *f hundreds L *f hundreds L *f hundreds L))

-- b2 = 2.08 + 0.609Cb - 1.603Cwf - 0.0129L/(0.85M)
unfoldable pub b2 : ℕ → ℕ → ℕ → ℕ → Signed
b2 L M cb cwf =
    plain (frac 208 100) +s plain (frac 609 1000 *f frac cb 10000) -s plain (frac 1603 1000 *f frac cwf 10000)
    -s plain (frac 129 10000 *f frac (100 * L) (85 * M))

-- ---- 39(2): the sheer at FP if the ordinate at L/6 from FP is above zero
unfoldable pub sheer_taken : List Ordinate → Signed
sheer_taken o = pick (nil <s? ordinate o 4) (plain (whole 1000) *s ordinate o 5) nil

-- from b1 b2 take that, and the forecastle's height if its l is at least 0.07 L
unfoldable pub bow : List Ordinate → ℕ → ℕ → ℕ → ℕ → ℕ → ℕ → Signed
bow o L M cb cwf l height = b1 L *s b2 L M cb cwf -s sheer_taken o -s plain (whole (forecastle_taken L l height))
