-- Marks that are given are the six of a summer mark below D, and small.
use Prim.Native.Nat.{ℕ, ◌≤◌, ◌<◌}
use mathlib.Core.Path.{◌≡◌, ap}
use native.Mathlib.Omega.{arith}
use lib.Dec.{leb}
use borrow.Author.Tests.{leb-false}
use Rattle.std.specs.Prelude.{Ok}
use Rattle.whole.proofs.Pick.{by_cases}
use Rattle.whole.proofs.Divide.{ceil_ge, ceil_lt}
use Rattle.ship.specs.Refusals.{Paper, first}
use Rattle.ship.proofs.Lines.{all_pass}
use Rattle.mark.specs.declared.Marks.{Marks}
use Rattle.mark.specs.declared.Particulars.{Particulars}
use Rattle.mark.specs.Others.{tropical, winter, atlantic, draught_at, six_marks, mark_lines, sheet, sheet_at}
use Rattle.mark.proofs.OneToOne.{given_marks}

pub given_below : (p : Particulars) (S : ℕ) (m : Marks) → sheet (Ok m) ≡ sheet_at p S → (m ≡ six_marks p S) × (S < p.depth.0)
unfolding sheet_at
given_below p S m e =
    let g = given_marks (first (mark_lines p S)) (six_marks p S) m e in
    let l = all_pass (mark_lines p S) (omega arith) (ap (λ (v : Paper). v.number) g.0) in
    (g.1, leb-false p.depth.0 S l.0)

-- S, T, W and WNA of a ship of at most 60 m depth
pub six_small : (p : Particulars) (S : ℕ) → S < p.depth.0 → p.depth.0 ≤ 60000 → p.floor ≤ 60000
    → let m = six_marks p S in (m.s ≤ 60000) × (m.t ≤ 60000) × (m.w ≤ 120000) × (m.wna ≤ 120050)
unfolding six_marks tropical winter atlantic
six_small p S h d f =
    let c = ceil_lt (draught_at p S) 48 (omega arith) in (
      omega arith,
      omega arith,
      omega (arith, c),
      by_cases (λ (z : ℕ). z ≤ 120050) (leb p.length.0 100000) _ _ (λ t. omega (arith, c)) (λ t. omega (arith, c)),
    )

-- WNA is above zero
pub six_above : (p : Particulars) (S : ℕ) → S < p.depth.0 → 1 ≤ (six_marks p S).wna
unfolding six_marks winter atlantic
six_above p S h =
    let c = ceil_ge (draught_at p S) 48 (omega arith) in
    by_cases (λ (z : ℕ). 1 ≤ z) (leb p.length.0 100000) _ _ (λ t. omega (arith, c)) (λ t. omega (arith, c))
