-- How far LS may lie above its exact value, which is the difference of two fractions of um and may be negative.
use Rattle.std.specs.Prelude.{◌+◌, ◌*◌, ℤ}
use Rattle.whole.specs.Frac.{Frac, ◌≤f◌, ◌<f◌, ◌+f◌, whole}
use Rattle.whole.specs.Sign.{above, under}

-- n mm are never below added - taken, and less than 1.1 mm above it; each term stands on the side where it is not negative
pub record HoldsSigned (n : ℤ) (added taken : Frac) : Type 0 where
  pub never_below : added +f whole (1000 * under n) ≤f taken +f whole (1000 * above n)
  pub close : taken +f whole (1000 * above n) <f added +f whole (1000 * under n + 1100)
