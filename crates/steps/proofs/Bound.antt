-- Demand 2: the summer mark of every accepted ship is never below its exact value, and less than 1.1 mm above it; and so is LS (45), with its sign.
-- What each rounding can cost adds up along the formula: 5.1 um up to what depth adds, where 1 um of a B-60 ship's line has grown to 1.39 by fullness, 1 um in what it takes, 3.89 um in the houses' deduction, 2 um in sheer;
-- 13 um in the bow's freeboard.
-- Before the last rounding, to whole mm, 100 um would do (`summer_holds`).
use Prim.Native.Nat.{ℕ, ◌*◌, ◌-◌, ◌≤◌}
use native.Mathlib.Omega.{arith}
use lib.ListN.{length-take}
use Rattle.whole.specs.Frac.{◌-f◌, whole, frac}
use Rattle.whole.specs.Round.{Within, Below}
use Rattle.whole.proofs.Frac.{trans≤}
use Rattle.whole.proofs.Round.{loosen, below_sum, less}
use Rattle.whole.proofs.Signed.{Cost}
use Rattle.units.specs.Datum.{sheer_at}
use Rattle.percentages.specs.declared.Row.{Row}
use Rattle.percentages.specs.declared.Row.TheVariants.{Ordinary, Timber}
use Rattle.percentages.specs.Table37.{ordinary_row, entries}
use Rattle.percentages.proofs.Rule37.{each_row}
use Rattle.ship.specs.declared.Ship.{Ship}
use Rattle.ship.specs.Vessel.{houses_of}
use Rattle.houses.specs.Length.{part_of}
use Rattle.houses.specs.Effective.{exact_effective, is_set_in}
use Rattle.houses.proofs.Rounded.{effective_length_below, those_most}
use Rattle.houses.proofs.Midship.{reach_most}
use Rattle.corrections.specs.Fullness30.{counted}
use Rattle.corrections.proofs.Depth31.{reduction_below}
use Rattle.corrections.proofs.Gathered.{added_within}
use Rattle.deduction.proofs.Deduction37.{deducted_below}
use Rattle.sheer.proofs.Bound.{sheer_cost}
use Rattle.bow.proofs.Bound.{bow_within}
use Rattle.mark.specs.Summer.{Holds}
use Rattle.mark.proofs.Bound.{summer_holds}
use Rattle.basis.specs.Basis.{basis_of}
use Rattle.basis.proofs.Laws.{line_within}
use Rattle.ship.specs.Kinds.{timber_kind}
use Rattle.timber.specs.Exact.{HoldsSigned}
use Rattle.timber.proofs.Bound.{timber_holds}
use Rattle.steps.specs.Steps.{Sound, type_b, basis, covered_s, effective_e, forecastle_house, amidships_ratio, cover_reach, added_to, taken_from, bow_of, summer_of}
use Rattle.steps.specs.Exact.{exact_e, exact_added_to, exact_taken_from, exact_bow_of, exact_summer_of}
use Rattle.steps.specs.Timber.{timber_summer_of, exact_timber_added, exact_timber_taken}

-- E is short by at most 10 um: 2 for the sums, and 1 for each of at most eight houses with breadths
short : (x : Ship) → x.n ≤ 8 → Below (effective_e x) (exact_e x) (whole 10)
unfolding effective_e exact_e
short x n =
    let hs = houses_of x in
    loosen (omega (arith, those_most is_set_in hs, length-take x.n x.houses)) (effective_length_below x.length.0 hs)

-- what is added, from the line of a type, and what is taken, by a row of percentages, cost at most 12 um together
pub corrected_cost : (kind : ℕ) (row : Row) (x : Ship) → Sound x
    → let b = basis_of kind x.length.0 in
    Cost (added_to b.line x) (exact_added_to b.exact x) (taken_from (entries row) x) (exact_taken_from (entries row) x) (whole 12)
unfolding added_to taken_from exact_added_to exact_taken_from
corrected_cost kind row x k =
    let g = k.good in
    let l = x.length.0 in
    let w = short x k.few in
    let r : cover_reach x ≤ 2 * l = unfold cover_reach in reach_most l (houses_of x) g.houses in
    let a = loosen {f = frac 51 10} (omega arith) (added_within (line_within kind l) (type_b x) l x.depth.0 (counted x.block) (effective_e x) (exact_e x) g.length_least (omega arith) w) in
    let d = loosen {f = frac 389 100} (omega arith) (deducted_below (each_row row).rising (type_b x) (exact_effective l (forecastle_house x)) l (effective_e x) (exact_e x) g.length_least w) in
    let t = below_sum (reduction_below l x.depth.0 (amidships_ratio x)) d in
    let c = sheer_cost x.sheer l (covered_s x) (cover_reach x) (omega arith) r a t in
    record { up = c.up; down = c.down; plus = c.plus; minus = c.minus; both = trans≤ c.both (omega arith) }

-- the corrected value, what is added less what is taken: never below the exact difference, and at most 12 um above it
pub corrected_within : (x : Ship) → Sound x → Within (added_to (basis x).line x - taken_from ordinary_row x) (exact_added_to (basis x).exact x -f exact_taken_from ordinary_row x) (whole 12)
corrected_within x k = let c = corrected_cost x.kind Ordinary x k in loosen c.both (less c.plus c.minus)

-- the bow's freeboard: never below the exact one, and at most 13 um above it
pub bow_freeboard_within : (x : Ship) → Sound x → Within (bow_of x) (exact_bow_of x) (whole 13)
unfolding bow_of exact_bow_of
bow_freeboard_within x k =
    let g = k.good in
    let l = x.length.0 in
    let f = forecastle_house x in
    bow_within l x.moulded.0 (counted x.block) x.waterplane (sheer_at x.sheer 4) (sheer_at x.sheer 5) (part_of l f) f.height.0 g.moulded_least g.length_most (omega arith) g.waterplane_most

pub summer_bounded : (x : Ship) → Sound x → Holds (summer_of x) (exact_summer_of x)
unfolding summer_of exact_summer_of
summer_bounded x k =
    summer_holds (basis x).floor (added_to (basis x).line x) (taken_from ordinary_row x) (exact_added_to (basis x).exact x) (exact_taken_from ordinary_row x)
    (loosen (omega arith) (corrected_within x k)) (loosen (omega arith) (bow_freeboard_within x k))

-- LS has no bow and no floor: 12 um of the same 100
pub timber_bounded : (x : Ship) → Sound x → HoldsSigned (timber_summer_of x) (exact_timber_added x) (exact_timber_taken x)
unfolding timber_summer_of
timber_bounded x k =
    let c = corrected_cost (timber_kind x.kind) Timber x k in
    timber_holds (trans≤ c.both (omega arith)) c.plus c.minus
