-- Regulation 29, short type B ships: 7.5 (100 - L) (0.35 - E / L) mm, L and E in metres. Here L is in mm, and E and the addition in um.
use Rattle.std.specs.Prelude.{◌&&◌, ℕ, ◌*◌, ◌-◌, ltb}
use Rattle.whole.specs.Pick.{pick}
use Rattle.whole.specs.Frac.{Frac, ◌<f?◌, ◌-f◌, ◌*f◌, whole, frac, ceil}

-- if L < 100 m and E < 0.35 L
unfoldable pub exact_short_b : ℕ → Frac → Frac
exact_short_b l e =
    pick (ltb l 100000 && (e <f? whole (350 * l)))
    (frac 75 10 *f whole (100000 - l) *f (frac 35 100 -f e *f frac 1 (1000 * l))) (whole 0)

-- up
unfoldable pub short_b : ℕ → ℕ → ℕ
short_b l e = ceil (exact_short_b l (whole e))
