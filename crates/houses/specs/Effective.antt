-- 35, with 02 §2 and §6: effective lengths, in um, added first and rounded once; a house with set-in sides is rounded by itself.
use Rattle.std.specs.Prelude.{ℕ, ◌+◌, ◌*◌, min, Bool, not, ◌&&◌, List, [], ◌∷◌}
use Rattle.whole.specs.Pick.{pick}
use Rattle.whole.specs.Frac.{Frac, whole, frac, ◌+f◌, ◌*f◌, floor}
use Rattle.ship.specs.declared.House.{House}
use Rattle.ship.specs.Vessel.{full_breadth}
use Rattle.houses.specs.Length.{part_of, total}
use Rattle.houses.specs.Height.{height_ratio}

-- l in um; a raised quarterdeck's is first limited to 0.6 L
unfoldable pub limited_length : ℕ → House → ℕ
limited_length l h = pick h.quarterdeck (min (1000 * part_of l h) (600 * l)) (1000 * part_of l h)

-- set-in sides: the house's breadth over the ship's, both at the middle of the house; 1 for full breadth
unfoldable pub breadth_ratio : House → Frac
breadth_ratio h = pick (full_breadth h) (whole 1) (frac h.breadth.0 h.beam.0)

-- of one house, a fraction: l, times the lesser of height and standard height, over the standard height, times the ratio of breadths
unfoldable pub exact_effective : ℕ → House → Frac
exact_effective l h = whole (limited_length l h) *f height_ratio l h *f breadth_ratio h

-- E with no rounding: the sum over the houses
unfoldable pub exact_effective_length : ℕ → List House → Frac
exact_effective_length l [] = whole 0
exact_effective_length l (h ∷ hs) = exact_effective l h +f exact_effective_length l hs

-- the houses of a list that pass a test
unfoldable pub those : (House → Bool) → List House → List House
those test [] = []
those test (h ∷ hs) = pick (test h) (h ∷ those test hs) (those test hs)

-- the ordinary houses of full breadth share one standard height; the raised quarterdeck, of which an accepted list has at most one, has its own; the others have
-- breadths, if only equal ones
abbrev pub is_ordinary : House → Bool
is_ordinary h = full_breadth h && not h.quarterdeck

abbrev pub is_raised : House → Bool
is_raised h = full_breadth h && h.quarterdeck

abbrev pub is_set_in : House → Bool
is_set_in h = not (full_breadth h)

-- E: the sum over the ordinary houses, down, the raised quarterdeck's effective length, down, and that of each house with breadths, down
unfoldable pub effective_length : ℕ → List House → ℕ
effective_length l hs =
    floor (exact_effective_length l (those is_ordinary hs)) + floor (exact_effective_length l (those is_raised hs))
    + total (λ h. floor (exact_effective l h)) (those is_set_in hs)
