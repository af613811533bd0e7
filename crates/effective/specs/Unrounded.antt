-- Standard heights, ratios and effective lengths as code has them, by numerator and denominator, of numbers that leave room for products.
-- `low_same`, `ratio_exact`, `breadths_exact` and `unrounded_exact` tie them to 33's and 35's fractions: nobody needs to believe this page.
use Rattle.std.specs.Prelude.{ℕ, ◌-◌, ◌*◌, ◌≤◌, min, Bool, leb, ltb}
use Rattle.whole.specs.Pick.{pick}
use Rattle.whole.specs.Frac.{Frac, whole, frac, ◌+f◌}
use Rattle.units.specs.declared.Ratio.{Ratio}
use Rattle.units.specs.declared.Unrounded.{Unrounded}
use Rattle.ship.specs.declared.House.{House}
use Rattle.ship.specs.Vessel.{full_breadth}
use Rattle.houses.specs.Effective.{limited_length}
use Rattle.effective.specs.declared.Standard.{Standard}

-- ---- 33's heights in lower terms, so that an effective length times a breadth fits 64 bits: v at L = a, and from there r mm more for every s mm of L
abbrev pub rising : ℕ → ℕ → ℕ → ℕ → ℕ → Frac
rising a v r s l = whole v +f frac (r * (l - a)) s

unfoldable pub low_ordinary : ℕ → Frac
low_ordinary l =
    pick (leb l 75000) (whole 1800)
    (pick (ltb l 125000) (rising 75000 1800 1 100 l) (whole 2300))

unfoldable pub low_raised : ℕ → Frac
low_raised l =
    pick (leb l 30000) (whole 900)
    (pick (leb l 75000) (rising 30000 900 1 150 l)
    (pick (ltb l 125000) (rising 75000 1200 3 250 l) (whole 1800)))

unfoldable pub low_height : ℕ → Bool → Frac
low_height l quarterdeck = pick quarterdeck (low_raised l) (low_ordinary l)

-- as a struct
abbrev pub standard_of : Frac → Standard
standard_of x = record { size = x.top; per = x.bot }

-- no numerator of a standard height is above this, no length of a house, in um, above the next, and no breadth above the last
abbrev pub greatest_size : ℕ
greatest_size = 450000

abbrev pub greatest_length : ℕ
greatest_length = 365000000

abbrev pub greatest_breadth : ℕ
greatest_breadth = 65535

pub record Sized (s : Standard) : Type 0 where
  pub size_least : 1 ≤ s.size
  pub size_most : s.size ≤ greatest_size
  pub per_most : s.per ≤ 250

-- ---- of one house: the ratio of heights, over the numerator of its standard height
unfoldable pub lesser_of : ℕ → House → ℕ
lesser_of l h = min (h.height.0 * (low_height l h.quarterdeck).bot) (low_height l h.quarterdeck).top

abbrev pub ratio_of : ℕ → House → Ratio
ratio_of l h = record { top = lesser_of l h; bottom = (low_height l h.quarterdeck).top }

pub record FairRatio (r : Ratio) : Type 0 where
  pub at_most_1 : r.top ≤ r.bottom
  pub bottom_least : 1 ≤ r.bottom
  pub bottom_most : r.bottom ≤ greatest_size

-- the ratio of breadths
unfoldable pub breadths_of : House → Ratio
breadths_of h = pick (full_breadth h) (record { top = 1; bottom = 1 }) (record { top = h.breadth.0; bottom = h.beam.0 })

-- a house no broader than the ship
pub record FairBreadths (h : House) : Type 0 where
  pub at_most_1 : h.breadth.0 ≤ h.beam.0
  pub beam_most : h.beam.0 ≤ greatest_breadth

-- the effective length
unfoldable pub top_of : ℕ → House → ℕ
top_of l h = limited_length l h * lesser_of l h * (breadths_of h).top

unfoldable pub bottom_of : ℕ → House → ℕ
bottom_of l h = (low_height l h.quarterdeck).top * (breadths_of h).bottom

abbrev pub unrounded_of : ℕ → House → Unrounded
unrounded_of l h = record { top = top_of l h; bottom = bottom_of l h }

-- the greatest product is that of the greatest length, height and breadth, 1.08 * 10^19
pub record FairLength (e : Unrounded) : Type 0 where
  pub top_most : e.top ≤ greatest_length * e.bottom
  pub bottom_least : 1 ≤ e.bottom
  pub bottom_most : e.bottom ≤ greatest_size * greatest_breadth
