-- 01, "Steps to the summer mark", with 02, of a ship, and LS (45), with signs and no rounding. 31, 38 and 39 are Formula.antt's; what needs no sign is the exact value of its
-- own regulation's crate. Freeboards in um, the mark in mm.
use Rattle.std.specs.Prelude.{ℕ, List}
use Rattle.whole.specs.Frac.{Frac, whole, frac}
use Rattle.percentages.specs.Table37.{ordinary_row, timber_row}
use Rattle.ship.specs.declared.Ship.{Ship}
use Rattle.houses.specs.Length.{part_of}
use Rattle.houses.specs.Effective.{exact_effective}
use Rattle.corrections.specs.Fullness30.{counted}
use Rattle.corrections.specs.Gathered.{exact_made_full}
use Rattle.deduction.specs.Deduction37.{exact_deducted}
use Rattle.steps.specs.Steps.{type_b, covered_s, forecastle_house, amidships_ratio, cover_reach, basis}
use Rattle.steps.specs.Exact.{exact_e}
use Rattle.steps.specs.Timber.{timber_basis}
use Rattle.signed.specs.Signed.{Signed, plain, ◌+s◌, ◌-s◌, ◌*s◌, maxs}
use Rattle.signed.specs.Formula.{by_depth, mean, by_sheer, bow}

-- the corrected value: the line (28) with 29 and 30, what depth (31) adds or takes, less the houses' deduction (37) by a row of percentages, and what sheer (38) adds
-- or deducts
unfoldable pub corrected_by : Frac → List ℕ → Ship → Signed
corrected_by line row x =
    plain (exact_made_full line (type_b x) x.length.0 (counted x.block) (exact_e x))
    +s by_depth x.length.0 x.depth.0 (amidships_ratio x)
    -s plain (exact_deducted (type_b x) row (exact_effective x.length.0 (forecastle_house x)) x.length.0 (exact_e x))
    +s by_sheer (mean x.sheer x.length.0) x.length.0 (covered_s x) (cover_reach x)

-- the bow's (39)
unfoldable pub bow_of : Ship → Signed
bow_of x =
    bow x.sheer x.length.0 x.moulded.0 (counted x.block) x.waterplane (part_of x.length.0 (forecastle_house x)) (forecastle_house x).height.0

-- mark (40): the greater of the two, in mm, and at least the floor
unfoldable pub signed_summer_of : Ship → Signed
signed_summer_of x = maxs (plain (whole (basis x).floor)) (maxs (corrected_by (basis x).exact ordinary_row x) (bow_of x) *s plain (frac 1 1000))

-- timber (45(1)): the corrected value alone, from the line of 45(6) and by 45's percentages; in um
unfoldable pub signed_timber_of : Ship → Signed
signed_timber_of x = corrected_by (timber_basis x).exact timber_row x
