-- Laws of the five lines: what code works, what rounding costs, and their order.
use Prim.Native.Nat.{ℕ, zero, suc, ◌+◌, ◌*◌, ◌-◌, ◌/◌, ◌≤◌, ◌<◌}
use mathlib.Core.List.{[], ◌∷◌}
use mathlib.Core.Path.{◌≡◌, refl, sym, ap, ◌∙◌}
use native.Mathlib.Nat.{mul_comm, mul-le-mul_right, div-mul-le_self, lt-div-mul-add}
use native.Mathlib.Omega.{arith}
use lib.ListN.{get_or}
use Rattle.whole.specs.Frac.{◌≈f◌, ◌-f◌, ◌*f◌, whole, frac, ceil}
use Rattle.whole.specs.Round.{Within}
use Rattle.whole.proofs.Climb.{climb}
use Rattle.whole.proofs.Divide.{ceil_ge, ceil_lt}
use Rattle.whole.proofs.Round.{near_self, by_ceil}
use Rattle.tabular.specs.Tabular.{table_a, table_b, covers_add}
use Rattle.tabular.proofs.Laws.{tabular_a_at_most_b}
use Rattle.ship.specs.Kinds.{kind_a, kind_b, kind_b60, kind_b100, kind_covers}
use Rattle.basis.specs.Basis.{exact_reduced, basis_of}

-- ---- B less a part of its difference from A, as code works it: what is taken is rounded down
reduced_quotient : (p a b : ℕ) → p ≤ 100 → a ≤ b → ceil (whole b -f frac p 100 *f (whole b -f whole a)) ≡ b - (b - a) * p / 100
reduced_quotient p a b h g =
    let x = whole b -f frac p 100 *f (whole b -f whole a) in
    let d : ℕ = b - a in
    let e : p * (b * 1 - a * 1) ≡ d * p = (let f : b * 1 - a * 1 ≡ d = omega arith in ap (λ (z : ℕ). p * z) f ∙ mul_comm p d) in
    omega (
      arith,
      ceil_ge x.top x.bot x.pos,
      ceil_lt x.top x.bot x.pos,
      div-mul-le_self (d * p) 100,
      lt-div-mul-add {a = d * p} {b = 100} (omega arith),
      mul-le-mul_right d h,
    )

pub reduced_code : (p l : ℕ) → p ≤ 100 → l ≤ 365000 → ceil (exact_reduced p l) ≡ table_b l - (table_b l - table_a l) * p / 100
unfolding exact_reduced
reduced_code p l h g = reduced_quotient p (table_a l) (table_b l) h (tabular_a_at_most_b l g)

-- ---- a line is never below its exact value, and at most 1 um above it: only a reduced one is rounded
pub line_within : (kind l : ℕ) → Within (basis_of kind l).line (basis_of kind l).exact (whole 1)
unfolding basis_of
line_within zero l = near_self (whole (table_a l)) (whole 1)
line_within (suc zero) l = near_self (whole (table_b l)) (whole 1)
line_within (suc (suc zero)) l = by_ceil _
line_within (suc (suc (suc zero))) l = by_ceil _
line_within (suc (suc (suc (suc zero)))) l = near_self (whole (table_b l + covers_add l)) (whole 1)
line_within (suc (suc (suc (suc (suc k))))) l = near_self (whole 0) (whole 1)

-- ---- B-100 is A, rounded and exact
pub b100_is_a : (l : ℕ) → l ≤ 365000 → ceil (exact_reduced 100 l) ≡ table_a l
b100_is_a l h = omega (arith, reduced_code 100 l (omega arith) h, tabular_a_at_most_b l h)

pub b100_line : (l : ℕ) → l ≤ 365000 → (basis_of kind_a l).line ≡ (basis_of kind_b100 l).line
unfolding basis_of
b100_line l h = sym (b100_is_a l h)

pub b100_exact : (l : ℕ) → l ≤ 365000 → exact_reduced 100 l ≈f whole (table_a l)
unfolding exact_reduced
b100_exact l h = omega (arith, tabular_a_at_most_b l h)

-- ---- the floor is that of portable covers, or the ordinary one
pub floor_of : (kind l : ℕ) → kind ≤ kind_covers → ¬ (kind ≡ kind_covers) → 50 ≡ (basis_of kind l).floor
unfolding basis_of
floor_of zero l h g = refl
floor_of (suc zero) l h g = refl
floor_of (suc (suc zero)) l h g = refl
floor_of (suc (suc (suc zero))) l h g = refl
floor_of (suc (suc (suc (suc zero)))) l h g = absurd (g refl)
floor_of (suc (suc (suc (suc (suc k))))) l h g = absurd (omega arith)

-- no floor is above that of portable covers
pub floor_most : (kind l : ℕ) → (basis_of kind l).floor ≤ 150
unfolding basis_of
floor_most zero l = omega arith
floor_most (suc zero) l = omega arith
floor_most (suc (suc zero)) l = omega arith
floor_most (suc (suc (suc zero))) l = omega arith
floor_most (suc (suc (suc (suc zero)))) l = omega arith
floor_most (suc (suc (suc (suc (suc k))))) l = omega arith

-- ---- the order: A = B-100, B-60, B, B with portable covers
abbrev pub in_order : ℕ → ℕ
in_order i = get_or (kind_a ∷ kind_b100 ∷ kind_b60 ∷ kind_b ∷ kind_covers ∷ []) i kind_covers

-- what rises from each of the five to the next rises from any to any later one
pub five_rise : (f : ℕ → ℕ) → (f 0 ≤ f 1) × (f 1 ≤ f 2) × (f 2 ≤ f 3) × (f 3 ≤ f 4) → (i j : ℕ) → i ≤ j → j ≤ 4 → f i ≤ f j
five_rise f p i j h g = climb f 5 up i j h (omega arith)
  where
    up : (k : ℕ) → k + 1 < 5 → f k ≤ f (k + 1)
    up zero q = p.0
    up (suc zero) q = p.1
    up (suc (suc zero)) q = p.2
    up (suc (suc (suc zero))) q = p.3
    up (suc (suc (suc (suc k)))) q = absurd (omega arith)

pub lines_in_order : (l : ℕ) → l ≤ 365000 → (i j : ℕ) → i ≤ j → j ≤ 4 → (basis_of (in_order i) l).line ≤ (basis_of (in_order j) l).line
unfolding basis_of
lines_in_order l h =
    let a = tabular_a_at_most_b l h in
    let r = reduced_code 60 l (omega arith) h in
    let s = b100_is_a l h in
    five_rise (λ i. (basis_of (in_order i) l).line) (omega arith, omega (arith, div-mul-le_self ((table_b l - table_a l) * 60) 100), omega arith, omega arith)
