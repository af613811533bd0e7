-- 01, "Steps to the summer mark", with 02, put together for a ship. Each step is the definition of its own regulation's crate.
use Rattle.std.specs.Prelude.{ℕ, ◌+◌, ◌≤◌, Bool, false, ◌≡◌, List}
use Rattle.whole.specs.Frac.{Frac}
use Rattle.units.specs.Datum.{sheer_at}
use Rattle.percentages.specs.Table37.{ordinary_row}
use Rattle.ship.specs.declared.House.{House}
use Rattle.ship.specs.declared.Ship.{Ship}
use Rattle.ship.specs.Kinds.{kind_covers, is_type_b, timber_for_a}
use Rattle.ship.specs.Vessel.{houses_of}
use Rattle.ship.specs.Good.{Good}
use Rattle.houses.specs.Length.{part_of, covered_length}
use Rattle.houses.specs.Height.{height_ratio}
use Rattle.houses.specs.Effective.{exact_effective, effective_length}
use Rattle.houses.specs.Forecastle.{forecastle_of}
use Rattle.houses.specs.Amidships.{amidships_of}
use Rattle.houses.specs.Cover.{reach}
use Rattle.corrections.specs.Fullness30.{counted}
use Rattle.corrections.specs.Depth31.{depth_reduction}
use Rattle.corrections.specs.Gathered as Before
use Rattle.deduction.specs.Deduction37.{deducted}
use Rattle.sheer.specs.Sheer as Sheer
use Rattle.bow.specs.Bow.{bow_freeboard}
use Rattle.mark.specs.declared.Particulars.{Particulars}
use Rattle.mark.specs.Summer.{summer_mark}
use Rattle.basis.specs.Basis.{Basis, basis_of}

-- a ship that the reader accepts
pub record Sound (x : Ship) : Type 0 where
  pub type : x.kind ≤ kind_covers
  pub timber : timber_for_a x.kind x.timber ≡ false
  pub few : x.n ≤ 8
  pub good : Good x

abbrev pub type_b : Ship → Bool
type_b x = is_type_b x.kind

-- houses (33-35): S in mm, E in um, the forecastle, the ratio of heights of 31's house amidships, and the reach of the cover in tenths of a mm
unfoldable pub covered_s : Ship → ℕ
covered_s x = covered_length x.length.0 (houses_of x)

unfoldable pub effective_e : Ship → ℕ
effective_e x = effective_length x.length.0 (houses_of x)

unfoldable pub forecastle_house : Ship → House
forecastle_house x = forecastle_of x.length.0 (houses_of x)

unfoldable pub amidships_ratio : Ship → Frac
amidships_ratio x = height_ratio x.length.0 (amidships_of x.length.0 (houses_of x))

unfoldable pub cover_reach : Ship → ℕ
cover_reach x = reach x.length.0 (houses_of x)

-- what the type decides (27, 28): the line, with 40's least freeboard
abbrev pub basis : Ship → Basis
basis x = basis_of x.kind x.length.0

-- what is added to a line and with it: short B ships (29), fullness (30), depth (31) above L / 15, and sheer (38) where it is lacking; by the Cb that counts
unfoldable pub added_to : ℕ → Ship → ℕ
added_to line x =
    Before.added line (type_b x) x.length.0 x.depth.0 (counted x.block) (effective_e x)
    + Sheer.added x.sheer x.length.0 (covered_s x)

-- what is taken away: depth (31) below L / 15 with a house amidships, the houses' deduction (37) by a row of percentages, and sheer (38) in excess
unfoldable pub taken_from : List ℕ → Ship → ℕ
taken_from row x =
    depth_reduction x.length.0 x.depth.0 (amidships_ratio x)
    + deducted (type_b x) row (exact_effective x.length.0 (forecastle_house x)) x.length.0 (effective_e x)
    + Sheer.deducted x.sheer x.length.0 (covered_s x) (cover_reach x)

-- bow height (39)
unfoldable pub bow_of : Ship → ℕ
bow_of x =
    bow_freeboard x.length.0 x.moulded.0 (counted x.block) x.waterplane (sheer_at x.sheer 4) (sheer_at x.sheer 5)
    (part_of x.length.0 (forecastle_house x)) (forecastle_house x).height.0

-- mark (40), from a line: up to whole mm, and at least a floor
abbrev pub summer_by : ℕ → ℕ → Ship → ℕ
summer_by line floor x = summer_mark floor (added_to line x) (taken_from ordinary_row x) (bow_of x)

-- what the other marks need of the ship besides S
abbrev pub particulars_by : ℕ → Ship → Particulars
particulars_by floor x = record { floor = floor; depth = x.depth; length = x.length; displacement = x.displacement; immersion = x.immersion }

-- the ship's type gives the line and the floor
unfoldable pub summer_of : Ship → ℕ
summer_of x = summer_by (basis x).line (basis x).floor x

unfoldable pub particulars_of : Ship → Particulars
particulars_of x = particulars_by (basis x).floor x
