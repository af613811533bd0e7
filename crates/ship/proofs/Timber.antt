-- The type by which timber freeboards are worked (45(6)), and the timber flag.
use Prim.Native.Nat.{ℕ, ◌≤◌, ◌<◌}
use mathlib.Core.Bool.{Bool, true, false}
use mathlib.Core.Path.{◌≡◌}
use native.Mathlib.Omega.{arith}
use Rattle.std.proofs.lemmas.Bool.Decides.{nat_tests}
use Rattle.whole.proofs.Pick.{pick_false, by_cases}
use Rattle.ship.specs.declared.Ship.{Ship}
use Rattle.ship.specs.Kinds.{kind_covers, is_reduced, timber_kind}
use Rattle.ship.specs.Good.{Good}

-- it is a type, and has portable covers only where the ship's own has them
pub timber_kind_lem : (kind : ℕ) → (kind ≤ kind_covers → timber_kind kind ≤ kind_covers) × (timber_kind kind ≡ kind_covers → kind ≡ kind_covers)
unfolding timber_kind
timber_kind_lem kind =
    by_cases (λ (k : ℕ). (kind ≤ kind_covers → k ≤ kind_covers) × (k ≡ kind_covers → kind ≡ kind_covers)) (is_reduced kind) _ _
    (λ t. (λ h. omega arith, λ e. absurd (omega arith))) (λ t. (λ h. h, λ e. e))

-- of a ship that is not reduced it is its own
pub own_kind : (kind : ℕ) → is_reduced kind ≡ false → timber_kind kind ≡ kind
unfolding timber_kind
own_kind kind e = pick_false _ _ _ e

-- a reduced ship that is accepted is longer than 100 m
pub reduced_is_long : (x : Ship) → Good x → is_reduced x.kind ≡ true → 100000 < x.length.0
reduced_is_long x g e = grind (arith, nat_tests)

-- ---- a ship that differs in the timber flag alone
abbrev pub with_flag : Bool → Ship → Ship
with_flag b x = record {
  kind = x.kind;
  n = x.n;
  timber = b;
  length = x.length;
  depth = x.depth;
  moulded = x.moulded;
  block = x.block;
  waterplane = x.waterplane;
  sheer = x.sheer;
  displacement = x.displacement;
  immersion = x.immersion;
  houses = x.houses;
}
