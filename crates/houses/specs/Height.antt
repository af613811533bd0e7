-- 33: standard heights, in mm, unrounded; and a house's height by its standard height, as 31 and 35 ask for it.
use Rattle.std.specs.Prelude.{ℕ, ◌*◌, ◌-◌, Bool, leb, ltb}
use Rattle.whole.specs.Pick.{pick}
use Rattle.whole.specs.Frac.{Frac, whole, frac, minf, ◌+f◌, ◌÷f◌}
use Rattle.ship.specs.declared.House.{House}

-- linear from v at L = a to w at L = b
abbrev pub linear : ℕ → ℕ → ℕ → ℕ → ℕ → Frac
linear a v b w l = whole v +f frac ((w - v) * (l - a)) (b - a)

-- 1800 mm up to L = 75 m, 2300 from 125 m
unfoldable pub ordinary_height : ℕ → Frac
ordinary_height l =
    pick (leb l 75000) (whole 1800)
    (pick (ltb l 125000) (linear 75000 1800 125000 2300 l) (whole 2300))

-- raised quarterdeck 900 up to 30 m, 1200 at 75 m, 1800 from 125 m
unfoldable pub raised_height : ℕ → Frac
raised_height l =
    pick (leb l 30000) (whole 900)
    (pick (leb l 75000) (linear 30000 900 75000 1200 l)
    (pick (ltb l 125000) (linear 75000 1200 125000 1800 l) (whole 1800)))

unfoldable pub standard_height : ℕ → Bool → Frac
standard_height l quarterdeck = pick quarterdeck (raised_height l) (ordinary_height l)

-- the lesser of a house's height and the standard height of its kind, over the standard height
unfoldable pub height_ratio : ℕ → House → Frac
height_ratio l h =
    let standard = standard_height l h.quarterdeck in
    minf (whole h.height.0) standard ÷f standard
