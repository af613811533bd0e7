-- Mark (regulation 40): the summer mark, in mm, from freeboards in um; and how far it may lie above its exact value.
use Rattle.std.specs.Prelude.{ℕ}
use Rattle.whole.specs.Frac.{Frac, ◌≤f◌, ◌<f◌, ◌+f◌, ◌*f◌, ◌-f◌, maxf, whole, frac, ceil}

-- 40(1): the summer freeboard is the greater of the bow's and the corrected value, which is what is added less what is taken: one difference,
-- whose stop at zero lies below the floor. 40(2): at least the floor
unfoldable pub exact_summer : ℕ → Frac → Frac → Frac → Frac
exact_summer floor added taken bow = maxf (whole floor) (maxf (added -f taken) bow *f frac 1 1000)

-- up to whole mm
unfoldable pub summer_mark : ℕ → ℕ → ℕ → ℕ → ℕ
summer_mark floor added taken bow = ceil (exact_summer floor (whole added) (whole taken) (whole bow))

-- never below the exact value, and less than 1.1 mm above it
pub record Holds (S : ℕ) (x : Frac) : Type 0 where
  pub above : x ≤f whole S
  pub close : whole S <f x +f frac 11 10
