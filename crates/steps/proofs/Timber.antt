-- 02 §9, of a ship: LS is not above S but on a reduced ship, a reduced ship's LWNA is level with its W as 45(7) asks, and the flag changes no ordinary mark.
use Prim.Native.Nat.{ℕ, ◌≤◌, ◌<◌}
use mathlib.Core.Bool.{Bool, true, false}
use mathlib.Core.Path.{◌≡◌, refl, sym, ap}
use native.Mathlib.Omega.{arith}
use lib.IntN.{pos}
use lib.Signed.{◌≤ℤ◌}
use borrow.Author.Tests.{lt-leb}
use Rattle.whole.proofs.Pick.{pick_false}
use Rattle.percentages.specs.declared.Row.TheVariants.{Ordinary, Timber}
use Rattle.percentages.specs.Table37.{ordinary_row, timber_row}
use Rattle.percentages.proofs.Rule37.{each_row}
use Rattle.percentages.proofs.Rows.{ordinary_under_timber}
use Rattle.ship.specs.declared.Ship.{Ship}
use Rattle.ship.specs.Kinds.{is_reduced}
use Rattle.ship.proofs.Timber.{own_kind, reduced_is_long, with_flag}
use Rattle.houses.specs.Effective.{exact_effective}
use Rattle.deduction.proofs.Rows.{deducted_under}
use Rattle.mark.specs.Others.{atlantic}
use Rattle.timber.proofs.Order.{timber_no_higher, timber_below}
use Rattle.basis.specs.Basis.{basis_of}
use Rattle.steps.specs.Steps.{Sound, type_b, basis, covered_s, effective_e, forecastle_house, amidships_ratio, cover_reach, added_to, taken_from, bow_of, summer_of, particulars_of}
use Rattle.steps.specs.Timber.{timber_basis, timber_summer_of, has_timber}

-- 45's percentages take no less than 37's
takes_more : (x : Ship) → taken_from ordinary_row x ≤ taken_from timber_row x
unfolding taken_from
takes_more x =
    omega (arith, deducted_under (each_row Ordinary).rising (each_row Timber).rising ordinary_under_timber (type_b x) (exact_effective x.length.0 (forecastle_house x)) x.length.0 (effective_e x))

-- a ship that is not reduced: LS begins from its own line
module _ (x : Ship) (own : is_reduced x.kind ≡ false) where
  own_line : added_to (basis x).line x ≡ added_to (timber_basis x).line x
  own_line = ap (λ (k : ℕ). added_to (basis_of k x.length.0).line x) (sym (own_kind x.kind own))

  pub timber_under_summer : timber_summer_of x ≤ℤ pos (summer_of x)
  unfolding timber_summer_of summer_of
  timber_under_summer = rw (← own_line) (timber_no_higher (basis x).floor (added_to (basis x).line x) (taken_from ordinary_row x) (taken_from timber_row x) (bow_of x) (takes_more x))

  -- so that one with marks has timber marks
  pub timber_there : summer_of x < x.depth.0 → has_timber x ≡ true
  unfolding timber_summer_of summer_of
  timber_there h = rw (← own_line) (timber_below (basis x).floor (added_to (basis x).line x) (taken_from ordinary_row x) (taken_from timber_row x) (bow_of x) x.depth.0 (takes_more x) h)

-- 45(7) sets the LWNA of a reduced ship level with W too: WNA is W there, since such a ship is longer than 100 m
pub reduced_atlantic : (x : Ship) → Sound x → is_reduced x.kind ≡ true → (W : ℕ) → atlantic W x.length.0 ≡ W
unfolding atlantic
reduced_atlantic x k e W = pick_false _ _ _ (lt-leb x.length.0 100000 (reduced_is_long x k.good e))

-- ---- a ship that differs in the timber flag alone has the same summer mark, and the same that the other marks are worked from
pub flag_summer : (b : Bool) (x : Ship) → summer_of (with_flag b x) ≡ summer_of x
unfolding summer_of added_to taken_from bow_of covered_s effective_e forecastle_house amidships_ratio cover_reach
flag_summer b x = refl

pub flag_particulars : (b : Bool) (x : Ship) → particulars_of (with_flag b x) ≡ particulars_of x
unfolding particulars_of
flag_particulars b x = refl
