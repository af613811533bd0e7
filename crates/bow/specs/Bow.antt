-- Bow height (regulation 39): the freeboard that it asks for, in um; L and M in mm, Cb and Cwf in 1/10000.
-- b2 may be below zero, and so may the height: each has two parts, differences that stop at zero, of which one is always 0.
use Rattle.std.specs.Prelude.{ℕ, ◌+◌, ◌*◌, ◌-◌, leb, ltb}
use Rattle.whole.specs.Pick.{pick}
use Rattle.whole.specs.Frac.{Frac, ◌+f◌, ◌*f◌, ◌-f◌, whole, frac, ceil, floor}
use Rattle.units.specs.Datum.{lift}

-- ---- 39(1): with x = L/100, L in metres
unfoldable pub hundreds : ℕ → Frac
hundreds L = frac L 100000

-- b1 = 6075x - 1875x² + 200x³ mm; what is taken away stands last, since the difference without the cube would stop at zero
unfoldable pub exact_b1 : ℕ → Frac
exact_b1 L = whole 1000 *f (whole 6075 *f hundreds L +f whole 200 *f hundreds L *f hundreds L *f hundreds L -f whole 1875 *f hundreds L *f hundreds L)

-- b2 = 2.08 + 0.609Cb - 1.603Cwf - 0.0129L/(0.85M), of a Cb that counts: what adds to it, and what takes from it
unfoldable pub rises : ℕ → Frac
rises cb = frac 208 100 +f frac 609 1000 *f frac cb 10000

unfoldable pub falls : ℕ → ℕ → ℕ → Frac
falls L M cwf = frac 1603 1000 *f frac cwf 10000 +f frac 129 10000 *f frac (100 * L) (85 * M)

-- its size above zero, and below
unfoldable pub exact_b2_above : ℕ → ℕ → ℕ → ℕ → Frac
exact_b2_above L M cb cwf = rises cb -f falls L M cwf

unfoldable pub exact_b2_below : ℕ → ℕ → ℕ → ℕ → Frac
exact_b2_below L M cb cwf = falls L M cwf -f rises cb

-- b2 in millionths, up: its size above zero grows, its size below zero loses its fraction
unfoldable pub b2_above : ℕ → ℕ → ℕ → ℕ → ℕ
b2_above L M cb cwf = ceil (exact_b2_above L M cb cwf *f whole 1000000)

unfoldable pub b2_below : ℕ → ℕ → ℕ → ℕ → ℕ
b2_below L M cb cwf = floor (exact_b2_below L M cb cwf *f whole 1000000)

-- b1 in um, up if b2 is not negative, else down; the product, up
unfoldable pub higher : ℕ → ℕ → ℕ → ℕ → ℕ
higher L M cb cwf = ceil (whole (ceil (exact_b1 L)) *f frac (b2_above L M cb cwf) 1000000)

unfoldable pub lower : ℕ → ℕ → ℕ → ℕ → ℕ
lower L M cb cwf = floor (whole (floor (exact_b1 L)) *f frac (b2_below L M cb cwf) 1000000)

-- ---- 39(2): from it take the sheer at FP, signed, if the ordinate at L/6 from FP is above zero. An ordinate has `lift` added to it: by the same test, that is
-- given back
unfoldable pub sheer_taken : ℕ → ℕ → ℕ
sheer_taken sixth fp = pick (ltb lift sixth) (1000 * fp) 0

-- and the forecastle's height, if its l is at least 0.07 L; where there is no forecastle its l is 0
unfoldable pub forecastle_taken : ℕ → ℕ → ℕ → ℕ
forecastle_taken L l height = pick (leb (7 * L) (100 * l)) (1000 * height) 0

-- One difference, at the end. A freeboard below zero counts as 0: the summer mark's floor stands above it
unfoldable pub bow_freeboard : ℕ → ℕ → ℕ → ℕ → ℕ → ℕ → ℕ → ℕ → ℕ
bow_freeboard L M cb cwf sixth fp l height =
    higher L M cb cwf + sheer_taken sixth lift - (lower L M cb cwf + (sheer_taken sixth fp + forecastle_taken L l height))

unfoldable pub exact_bow : ℕ → ℕ → ℕ → ℕ → ℕ → ℕ → ℕ → ℕ → Frac
exact_bow L M cb cwf sixth fp l height =
    exact_b1 L *f exact_b2_above L M cb cwf +f whole (sheer_taken sixth lift)
    -f (exact_b1 L *f exact_b2_below L M cb cwf +f whole (sheer_taken sixth fp + forecastle_taken L l height))
