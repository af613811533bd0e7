-- 02 §5, of a ship: the four type B kinds differ in line and floor alone, and the summer marks of ships that differ in type alone stand in the order of their lines.
use mathlib.Core.Path.{◌≡◌, refl, ap, ap₂, ◌∙◌}
use mathlib.Core.Bool.{true, false}
use mathlib.Core.List.{List}
use Prim.Native.Nat.{ℕ, ◌+◌, ◌≤◌}
use native.Mathlib.Omega.{arith}
use borrow.Author.Tests.{ne_eqb}
use Rattle.percentages.specs.Table37.{ordinary_row}
use Rattle.ship.specs.declared.Ship.{Ship}
use Rattle.ship.specs.Kinds.{kind_a, kind_b, kind_b100, is_type_b}
use Rattle.houses.specs.Effective.{exact_effective}
use Rattle.corrections.specs.Fullness30.{counted}
use Rattle.corrections.specs.Depth31.{depth_reduction}
use Rattle.corrections.specs.Gathered as Before
use Rattle.corrections.proofs.Gathered.{added_rises, added_long}
use Rattle.deduction.specs.Deduction37.{lacks_forecastle}
use Rattle.deduction.proofs.Deduction37.{deducted_falls, deducted_same}
use Rattle.sheer.specs.Sheer as Sheer
use Rattle.mark.specs.Summer.{summer_mark}
use Rattle.mark.proofs.Bound.{summer_least, summer_rises}
use Rattle.tabular.specs.Tabular.{table_a}
use Rattle.basis.specs.Basis.{basis_of}
use Rattle.basis.proofs.Laws.{in_order, five_rise, lines_in_order, b100_line}
use Rattle.steps.specs.Steps.{basis, covered_s, effective_e, forecastle_house, amidships_ratio, cover_reach, added_to, taken_from, bow_of, summer_by, summer_of, particulars_by, particulars_of}

-- a ship that differs in type alone
abbrev pub of_kind : ℕ → Ship → Ship
of_kind k x = record {
  kind = k;
  n = x.n;
  timber = x.timber;
  length = x.length;
  depth = x.depth;
  moulded = x.moulded;
  block = x.block;
  waterplane = x.waterplane;
  sheer = x.sheer;
  displacement = x.displacement;
  immersion = x.immersion;
  houses = x.houses;
}

-- ---- ONE STATEMENT for the four type B kinds: the summer mark, and what the other marks are worked from, are those of the ordinary type B ship, with the kind's
-- line and floor in place of its own
module _ (x : Ship) (k : ℕ) (b : 1 ≤ k) where
  pub four_summers : summer_of (of_kind k x) ≡ summer_by (basis_of k x.length.0).line (basis_of k x.length.0).floor (of_kind kind_b x)
  unfolding summer_of added_to taken_from bow_of covered_s effective_e forecastle_house amidships_ratio cover_reach
  four_summers = rw (ne_eqb k 0 (λ z. omega arith)) refl

  pub four_particulars : particulars_of (of_kind k x) ≡ particulars_by (basis_of k x.length.0).floor (of_kind kind_b x)
  unfolding particulars_of
  four_particulars = refl

-- ---- no summer mark is below the type's floor
pub floor_least : (x : Ship) → (basis x).floor ≤ summer_of x
unfolding summer_of
floor_least x = summer_least (basis x).floor (added_to (basis x).line x) (taken_from ordinary_row x) (bow_of x)

-- ---- the order of the summer marks: A, B-100, B-60, B, B with portable covers
module _ (x : Ship) (j k : ℕ) (lines : (basis_of j x.length.0).line ≤ (basis_of k x.length.0).line) (b : is_type_b j ≡ true → is_type_b k ≡ true) where
  more_added : added_to (basis_of j x.length.0).line (of_kind j x) ≤ added_to (basis_of k x.length.0).line (of_kind k x)
  unfolding added_to covered_s effective_e
  more_added =
      omega (arith, added_rises (basis_of j x.length.0).line (basis_of k x.length.0).line (is_type_b j) (is_type_b k) x.length.0 x.depth.0 (counted x.block) (effective_e x) lines b)

  less_taken : (row : List ℕ) → taken_from row (of_kind k x) ≤ taken_from row (of_kind j x)
  unfolding taken_from covered_s effective_e forecastle_house amidships_ratio cover_reach
  less_taken row =
      omega (arith, deducted_falls (is_type_b j) (is_type_b k) row (exact_effective x.length.0 (forecastle_house x)) x.length.0 (effective_e x) b)

  pub higher_line : (basis_of j x.length.0).floor ≤ (basis_of k x.length.0).floor → summer_of (of_kind j x) ≤ summer_of (of_kind k x)
  unfolding summer_of bow_of forecastle_house
  higher_line f =
      summer_rises (basis_of j x.length.0).floor (basis_of k x.length.0).floor
      (added_to (basis_of j x.length.0).line (of_kind j x)) (taken_from ordinary_row (of_kind j x))
      (added_to (basis_of k x.length.0).line (of_kind k x)) (taken_from ordinary_row (of_kind k x))
      (bow_of x) f more_added (less_taken ordinary_row)

pub summers_in_order : (x : Ship) → x.length.0 ≤ 365000 → (i j : ℕ) → i ≤ j → j ≤ 4 → summer_of (of_kind (in_order i) x) ≤ summer_of (of_kind (in_order j) x)
unfolding basis_of
summers_in_order x h =
    let line : (i j : ℕ) → i ≤ j → j ≤ 4 → (basis_of (in_order i) x.length.0).line ≤ (basis_of (in_order j) x.length.0).line = lines_in_order x.length.0 h in
    five_rise (λ i. summer_of (of_kind (in_order i) x)) (
      higher_line x (in_order 0) (in_order 1) (line 0 1 (omega arith) (omega arith)) (λ t. refl) (omega arith),
      higher_line x (in_order 1) (in_order 2) (line 1 2 (omega arith) (omega arith)) (λ t. refl) (omega arith),
      higher_line x (in_order 2) (in_order 3) (line 2 3 (omega arith) (omega arith)) (λ t. refl) (omega arith),
      higher_line x (in_order 3) (in_order 4) (line 3 4 (omega arith) (omega arith)) (λ t. refl) (omega arith),
    )

-- A and B-100 have one line. Their summer marks are the same where 37 grants a type B ship its deduction: its forecastle rule is for type B alone
module _ (x : Ship) (h : 100000 ≤ x.length.0) (g : x.length.0 ≤ 365000) where
  same_added : added_to (basis_of kind_a x.length.0).line (of_kind kind_a x) ≡ added_to (basis_of kind_b100 x.length.0).line (of_kind kind_b100 x)
  unfolding added_to covered_s effective_e basis_of
  same_added =
      let l = x.length.0 in
      let d = x.depth.0 in
      let cb = counted x.block in
      ap (λ (n : ℕ). n + Sheer.added x.sheer l (covered_s x))
      (added_long (table_a l) false true l d cb (effective_e x) h ∙ ap (λ (line : ℕ). Before.added line true l d cb (effective_e x)) (b100_line l g))

  same_taken : lacks_forecastle true (exact_effective x.length.0 (forecastle_house x)) x.length.0 ≡ false
      → (row : List ℕ) → taken_from row (of_kind kind_a x) ≡ taken_from row (of_kind kind_b100 x)
  unfolding taken_from covered_s effective_e forecastle_house amidships_ratio cover_reach
  same_taken f row =
      let l = x.length.0 in
      ap (λ (n : ℕ). depth_reduction l x.depth.0 (amidships_ratio x) + n + Sheer.deducted x.sheer l (covered_s x) (cover_reach x))
      (deducted_same false true row (exact_effective l (forecastle_house x)) l (effective_e x) f)

  pub b100_summer : lacks_forecastle true (exact_effective x.length.0 (forecastle_house x)) x.length.0 ≡ false → summer_of (of_kind kind_a x) ≡ summer_of (of_kind kind_b100 x)
  unfolding summer_of bow_of forecastle_house basis_of
  b100_summer f = ap₂ (λ (a t : ℕ). summer_mark 50 a t (bow_of x)) same_added (same_taken f ordinary_row)

-- what their other marks are worked from is the same in any case
pub b100_particulars : (x : Ship) → particulars_of (of_kind kind_a x) ≡ particulars_of (of_kind kind_b100 x)
unfolding particulars_of basis_of
b100_particulars x = refl
