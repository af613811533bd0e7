-- The exact value, which S is held against: the same steps, tests and floor for a ship, with no rounding anywhere. Freeboards in um, the mark in mm.
use Rattle.std.specs.Prelude.{ℕ, List}
use Rattle.whole.specs.Frac.{Frac, ◌+f◌}
use Rattle.units.specs.Datum.{sheer_at}
use Rattle.percentages.specs.Table37.{ordinary_row}
use Rattle.ship.specs.declared.Ship.{Ship}
use Rattle.ship.specs.Vessel.{houses_of}
use Rattle.houses.specs.Length.{part_of}
use Rattle.houses.specs.Effective.{exact_effective, exact_effective_length}
use Rattle.corrections.specs.Fullness30.{counted}
use Rattle.corrections.specs.Depth31.{exact_depth_reduction}
use Rattle.corrections.specs.Gathered as Before
use Rattle.deduction.specs.Deduction37.{exact_deducted}
use Rattle.sheer.specs.Sheer as Sheer
use Rattle.bow.specs.Bow.{exact_bow}
use Rattle.mark.specs.Summer.{exact_summer}
use Rattle.steps.specs.Steps.{type_b, covered_s, forecastle_house, amidships_ratio, cover_reach, basis}

-- E is a fraction here; S, the cover's reach, and the forecastle's length and height are whole numbers in the steps already, and the ratio of heights a fraction
unfoldable pub exact_e : Ship → Frac
exact_e x = exact_effective_length x.length.0 (houses_of x)

unfoldable pub exact_added_to : Frac → Ship → Frac
exact_added_to line x =
    Before.exact_added line (type_b x) x.length.0 x.depth.0 (counted x.block) (exact_e x)
    +f Sheer.exact_added x.sheer x.length.0 (covered_s x)

unfoldable pub exact_taken_from : List ℕ → Ship → Frac
exact_taken_from row x =
    exact_depth_reduction x.length.0 x.depth.0 (amidships_ratio x)
    +f exact_deducted (type_b x) row (exact_effective x.length.0 (forecastle_house x)) x.length.0 (exact_e x)
    +f Sheer.exact_deducted x.sheer x.length.0 (covered_s x) (cover_reach x)

unfoldable pub exact_bow_of : Ship → Frac
exact_bow_of x =
    exact_bow x.length.0 x.moulded.0 (counted x.block) x.waterplane (sheer_at x.sheer 4) (sheer_at x.sheer 5)
    (part_of x.length.0 (forecastle_house x)) (forecastle_house x).height.0

unfoldable pub exact_summer_of : Ship → Frac
exact_summer_of x = exact_summer (basis x).floor (exact_added_to (basis x).exact x) (exact_taken_from ordinary_row x) (exact_bow_of x)
