-- Demand 2's exact value is the papers' formula worked with signed fractions and then held to the floor; that of LS is the formula as it stands.
use Prim.Native.Nat.{ℕ, ◌+◌, ◌≤◌}
use mathlib.Core.List.{List}
use native.Mathlib.Omega.{arith}
use Rattle.whole.specs.Frac.{Frac, ◌+f◌, ◌*f◌, whole, frac}
use Rattle.units.specs.Datum.{lift, sheer_at}
use Rattle.percentages.specs.Table37.{ordinary_row, timber_row}
use Rattle.ship.specs.declared.Ship.{Ship}
use Rattle.ship.specs.Vessel.{houses_of}
use Rattle.houses.specs.Length.{part_of}
use Rattle.houses.specs.Effective.{exact_effective}
use Rattle.houses.proofs.Counted.{covered_most}
use Rattle.corrections.specs.Fullness30.{counted}
use Rattle.corrections.specs.Depth31.{exact_depth_addition, exact_depth_reduction}
use Rattle.corrections.specs.Gathered as Before
use Rattle.deduction.specs.Deduction37.{exact_deducted}
use Rattle.sheer.specs.Sheer as Sheer
use Rattle.bow.specs.Bow as Bow
use Rattle.mark.specs.Summer.{exact_summer}
use Rattle.steps.specs.Steps.{Sound, type_b, covered_s, forecastle_house, amidships_ratio, cover_reach, basis}
use Rattle.steps.specs.Exact.{exact_e, exact_added_to, exact_taken_from, exact_bow_of, exact_summer_of}
use Rattle.steps.specs.Timber.{timber_basis, exact_timber_added, exact_timber_taken}
use Rattle.signed.specs.Signed.{◌≈s◌, plain, ◌+s◌, ◌-s◌}
use Rattle.signed.specs.Summer.{corrected_by, bow_of, signed_summer_of, signed_timber_of}
use Rattle.signed.proofs.Laws.{refl≈s, trans≈s, +s_same, -s-same, two_differences, held}
use Rattle.signed.proofs.Depth.{depth_signed}
use Rattle.signed.proofs.Sheer.{sheer_signed}
use Rattle.signed.proofs.Bow.{bow_signed}

-- the table's sum, depth and the houses' deduction, gathered
with_depth : (f a t d : Frac) → plain f +s (plain a -s plain t) -s plain d ≈s plain (f +f a) -s plain (t +f d)
with_depth f a t d = omega arith

-- S is at most L, so that 0.75-S/2L is above zero
corrected_same : (line : Frac) (row : List ℕ) (x : Ship) → Sound x → corrected_by line row x ≈s plain (exact_added_to line x) -s plain (exact_taken_from row x)
unfolding corrected_by exact_added_to exact_taken_from Before.exact_added
corrected_same line row x k =
    let l = x.length.0 in
    let ratio = amidships_ratio x in
    let f = Before.exact_made_full line (type_b x) l (counted x.block) (exact_e x) in
    let a = exact_depth_addition l x.depth.0 in
    let t = exact_depth_reduction l x.depth.0 ratio in
    let d = exact_deducted (type_b x) row (exact_effective l (forecastle_house x)) l (exact_e x) in
    let s : covered_s x ≤ l = unfold covered_s in covered_most l (houses_of x) k.good.houses in
    let b = trans≈s (-s-same (+s_same (refl≈s (plain f)) (depth_signed l x.depth.0 ratio)) (refl≈s (plain d))) (with_depth f a t d) in
    trans≈s (+s_same b (sheer_signed x.sheer l (covered_s x) (cover_reach x) (omega (arith, k.good.length_least)) s))
    (two_differences (f +f a) (t +f d) (Sheer.exact_added x.sheer l (covered_s x)) (Sheer.exact_deducted x.sheer l (covered_s x) (cover_reach x)))

pub signed_summer : (x : Ship) → Sound x → plain (exact_summer_of x) ≈s signed_summer_of x
unfolding exact_summer_of exact_summer exact_bow_of Bow.exact_bow signed_summer_of bow_of
signed_summer x k =
    let l = x.length.0 in
    let m = x.moulded.0 in
    let cb = counted x.block in
    let cwf = x.waterplane in
    let part = part_of l (forecastle_house x) in
    let height = (forecastle_house x).height.0 in
    let sixth = sheer_at x.sheer 4 in
    let fp = sheer_at x.sheer 5 in
    held (whole (basis x).floor) (frac 1 1000) (exact_added_to (basis x).exact x) (exact_taken_from ordinary_row x)
    (Bow.exact_b1 l *f Bow.exact_b2_above l m cb cwf +f whole (Bow.sheer_taken sixth lift))
    (Bow.exact_b1 l *f Bow.exact_b2_below l m cb cwf +f whole (Bow.sheer_taken sixth fp + Bow.forecastle_taken l part height))
    (corrected_by (basis x).exact ordinary_row x) (bow_of x) (corrected_same (basis x).exact ordinary_row x k) (bow_signed x.sheer l m cb cwf part height)

pub signed_timber : (x : Ship) → Sound x → signed_timber_of x ≈s plain (exact_timber_added x) -s plain (exact_timber_taken x)
unfolding signed_timber_of
signed_timber x k = corrected_same (timber_basis x).exact timber_row x k
