-- 31, of a ship: a deeper ship of the same kind never has a lower mark; and where no house covers 0.2 L to 0.8 L nothing is taken.
use mathlib.Core.Path.{◌≡◌, refl, ◌∙◌}
use mathlib.Core.Bool.{Bool, false}
use mathlib.Core.List.{List, [], ◌∷◌}
use Prim.Native.Nat.{ℕ, suc, ◌≤◌, ◌<◌}
use native.Mathlib.Nat.{le_refl}
use native.Mathlib.Omega.{arith}
use lib.ListN.{length}
use Rattle.whole.proofs.Pick.{pick_false}
use Rattle.percentages.specs.Table37.{ordinary_row}
use Rattle.ship.specs.declared.House.{House}
use Rattle.ship.specs.declared.Ship.{Ship}
use Rattle.ship.specs.Vessel.{no_house, house_at, houses_of}
use Rattle.houses.specs.Height.{height_ratio}
use Rattle.houses.specs.Forecastle.{house_that}
use Rattle.houses.specs.Amidships.{covers_amidships, amidships_of}
use Rattle.houses.proofs.Limits.{no_ratio}
use Rattle.corrections.specs.Depth31.{depth_reduction}
use Rattle.corrections.specs.Gathered as Before
use Rattle.corrections.proofs.Depth31.{addition_rises, reduction_falls, reduction_none}
use Rattle.mark.proofs.Bound.{summer_rises}
use Rattle.steps.specs.Steps.{basis, covered_s, effective_e, forecastle_house, amidships_ratio, cover_reach, added_to, taken_from, bow_of, summer_of}

-- a ship that differs in depth alone
abbrev pub of_depth : ℕ → Ship → Ship
of_depth d x = record {
  kind = x.kind;
  n = x.n;
  timber = x.timber;
  length = x.length;
  depth = record { 0 = d };
  moulded = x.moulded;
  block = x.block;
  waterplane = x.waterplane;
  sheer = x.sheer;
  displacement = x.displacement;
  immersion = x.immersion;
  houses = x.houses;
}

module _ (x : Ship) (d : ℕ) (p : x.depth.0 ≤ d) where
  more_added : (line : ℕ) → added_to line x ≤ added_to line (of_depth d x)
  unfolding added_to covered_s effective_e Before.added
  more_added line = omega (arith, addition_rises x.length.0 x.depth.0 d p)

  less_taken : (row : List ℕ) → taken_from row (of_depth d x) ≤ taken_from row x
  unfolding taken_from covered_s effective_e forecastle_house amidships_ratio cover_reach
  less_taken row =
      omega (arith, reduction_falls x.length.0 x.depth.0 d (height_ratio x.length.0 (amidships_of x.length.0 (houses_of x))) p)

  pub deeper_summer : summer_of x ≤ summer_of (of_depth d x)
  unfolding summer_of bow_of forecastle_house
  deeper_summer =
      let line = (basis x).line in
      summer_rises (basis x).floor (basis x).floor (added_to line x) (taken_from ordinary_row x) (added_to line (of_depth d x)) (taken_from ordinary_row (of_depth d x)) (bow_of x) (le_refl _) (more_added line) (less_taken ordinary_row)

-- ---- no house amidships, nothing taken
none_that : (test : House → Bool) (hs : List House) → ((k : ℕ) → k < length hs → test (house_at hs k) ≡ false) → house_that test hs ≡ no_house
unfolding house_that
none_that test [] each = refl
none_that test (h ∷ hs) each = pick_false (test h) h (house_that test hs) (each 0 (omega arith)) ∙ none_that test hs (λ k p. each (suc k) (omega arith))

pub none_amidships : (x : Ship) → ((k : ℕ) → k < length (houses_of x) → covers_amidships x.length.0 (house_at (houses_of x) k) ≡ false)
    → depth_reduction x.length.0 x.depth.0 (amidships_ratio x) ≡ 0
unfolding amidships_ratio amidships_of
none_amidships x each =
    let l = x.length.0 in
    let e = none_that (covers_amidships l) (houses_of x) each in
    reduction_none l x.depth.0 (height_ratio l (house_that (covers_amidships l) (houses_of x))) (rw e (no_ratio l))
