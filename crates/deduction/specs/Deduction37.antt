-- Regulation 37, the houses' deduction: the full amount by L, times the share by E / L. L in mm, E and the deduction in um.
use Rattle.std.specs.Prelude.{Bool, ◌&&◌, List, ℕ, ◌*◌, ◌-◌, ltb}
use Rattle.whole.specs.Pick.{pick}
use Rattle.whole.specs.Frac.{Frac, ◌<f?◌, ◌+f◌, ◌*f◌, whole, frac, floor}
use Rattle.whole.specs.Row.{along}

-- ---- the full amount: 350 mm at 24 m, 860 at 85 m, 1070 from 122 m, linear
unfoldable pub exact_full : ℕ → Frac
exact_full l =
    pick (ltb l 85000) (whole 350000 +f whole (l - 24000) *f frac 510 61)
    (pick (ltb l 122000) (whole 860000 +f whole (l - 85000) *f frac 210 37) (whole 1070000))

-- down
unfoldable pub full : ℕ → ℕ
full l = floor (exact_full l)

-- ---- the share: a row has eleven percentages, at E / L = 0, 0.1 .. 1.0, in tenths of a per cent; linear between them. A tenth of L is 100 L um
unfoldable pub exact_share : List ℕ → ℕ → Frac → Frac
exact_share row l e = along row (e *f frac 1 (100 * l)) *f frac 1 1000

-- in millionths, down
unfoldable pub share : List ℕ → ℕ → ℕ → ℕ
share row l e = floor (exact_share row l (whole e) *f whole 1000000)

-- ---- the product
unfoldable pub exact_deduction : List ℕ → ℕ → Frac → Frac
exact_deduction row l e = exact_full l *f exact_share row l e

-- of the full amount and a share as they are rounded, down
unfoldable pub of_full : ℕ → ℕ → ℕ
of_full l s = floor (whole (full l) *f frac s 1000000)

unfoldable pub deduction : List ℕ → ℕ → ℕ → ℕ
deduction row l e = of_full l (share row l e)

-- ---- a type B ship whose forecastle's effective length f is under 0.07 L gets none; f is 0 where there is no forecastle
unfoldable pub lacks_forecastle : Bool → Frac → ℕ → Bool
lacks_forecastle type_b f l = type_b && (f <f? whole (70 * l))

-- the deduction as it is granted
unfoldable pub deducted : Bool → List ℕ → Frac → ℕ → ℕ → ℕ
deducted type_b row f l e = pick (lacks_forecastle type_b f l) 0 (deduction row l e)

unfoldable pub exact_deducted : Bool → List ℕ → Frac → ℕ → Frac → Frac
exact_deducted type_b row f l e = pick (lacks_forecastle type_b f l) (whole 0) (exact_deduction row l e)
