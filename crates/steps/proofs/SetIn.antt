-- 02 §6, of a ship: setting houses in, or writing equal breadths for full breadth, never raises E and never lowers the summer mark, all else equal.
use mathlib.Core.Path.{◌≡◌, refl, sym, subst}
use mathlib.Core.List.{List}
use Prim.Native.Nat.{ℕ, ◌≤◌, ◌<◌}
use native.Mathlib.Omega.{arith}
use native.Mathlib.Nat.{le_refl}
use Rattle.percentages.specs.Table37.{ordinary_row}
use Rattle.ship.specs.declared.House.{House}
use Rattle.ship.specs.declared.Ship.{Ship}
use Rattle.ship.specs.Vessel.{houses_of}
use Rattle.houses.proofs.SetIn.{Narrowed, AllNarrowed, same_of, same_part, same_ratio, less_effective, same_covered, same_cover, narrowed_forecastle, narrowed_amidships, set_in_less}
use Rattle.corrections.specs.Fullness30.{counted}
use Rattle.corrections.proofs.Gathered.{added_falls}
use Rattle.deduction.proofs.Deduction37.{deducted_grows}
use Rattle.mark.proofs.Bound.{summer_rises}
use Rattle.steps.specs.Steps.{type_b, basis, covered_s, effective_e, forecastle_house, amidships_ratio, cover_reach, added_to, taken_from, bow_of, summer_of}

-- a ship that differs in its houses alone
abbrev pub with_houses : List House → Ship → Ship
with_houses hs x = record {
  kind = x.kind;
  n = x.n;
  timber = x.timber;
  length = x.length;
  depth = x.depth;
  moulded = x.moulded;
  block = x.block;
  waterplane = x.waterplane;
  sheer = x.sheer;
  displacement = x.displacement;
  immersion = x.immersion;
  houses = hs;
}

-- a ship whose houses are those of another, some of them set in
abbrev pub SetIn : Ship → Ship → Type 0
SetIn x y = (y ≡ with_houses y.houses x) × AllNarrowed (houses_of x) (houses_of y)

module _ (x : Ship) (hs : List House) (n : AllNarrowed (houses_of x) (houses_of (with_houses hs x))) where
  abbrev y : Ship
  y = with_houses hs x

  abbrev l : ℕ
  l = x.length.0

  less_e : effective_e y ≤ effective_e x
  unfolding effective_e
  less_e = set_in_less l (houses_of x) (houses_of y) n

  forecastle : Narrowed (forecastle_house x) (forecastle_house y)
  unfolding forecastle_house
  forecastle = narrowed_forecastle l (houses_of x) (houses_of y) n

  same_s : covered_s y ≡ covered_s x
  unfolding covered_s
  same_s = same_covered l (houses_of x) (houses_of y) n

  same_reach : cover_reach y ≡ cover_reach x
  unfolding cover_reach
  same_reach = same_cover l (houses_of x) (houses_of y) n

  pub same_amidships : amidships_ratio y ≡ amidships_ratio x
  unfolding amidships_ratio
  same_amidships = same_ratio (narrowed_amidships l (houses_of x) (houses_of y) n) l

  pub same_bow : bow_of y ≡ bow_of x
  unfolding bow_of
  same_bow = rw (same_part forecastle l, same_of forecastle (λ h. h.height.0) (λ b s. refl)) refl

  more_added : 0 < l → (line : ℕ) → added_to line x ≤ added_to line y
  unfolding added_to
  more_added p line = rw same_s (omega (arith, added_falls line (type_b x) l x.depth.0 (counted x.block) (effective_e y) (effective_e x) p less_e))

  less_taken : (row : List ℕ) → taken_from row y ≤ taken_from row x
  unfolding taken_from
  less_taken row =
      rw (same_s, same_reach, same_amidships)
      (omega (arith, deducted_grows (type_b x) row l (effective_e y) (effective_e x) (less_effective forecastle l) less_e))

  no_lower : 0 < l → summer_of x ≤ summer_of y
  unfolding summer_of
  no_lower p =
      rw same_bow
      (summer_rises (basis x).floor (basis x).floor (added_to (basis x).line x) (taken_from ordinary_row x) (added_to (basis x).line y) (taken_from ordinary_row y) (bow_of x)
      (le_refl (basis x).floor) (more_added p (basis x).line) (less_taken ordinary_row))

-- THE LAW
module _ (x y : Ship) (s : SetIn x y) where
  narrowed : AllNarrowed (houses_of x) (houses_of (with_houses y.houses x))
  narrowed = subst (λ (z : Ship). AllNarrowed (houses_of x) (houses_of z)) s.0 s.1

  pub set_in_effective : effective_e y ≤ effective_e x
  set_in_effective = subst (λ (z : Ship). effective_e z ≤ effective_e x) (sym s.0) (less_e x y.houses narrowed)

  pub set_in_summer : 0 < x.length.0 → summer_of x ≤ summer_of y
  set_in_summer p = subst (λ (z : Ship). summer_of x ≤ summer_of z) (sym s.0) (no_lower x y.houses narrowed p)
