-- Every number of an answer has room in a signed one, and a written record has at most eight houses.
use Prim.Native.Nat.{ℕ, ◌^◌, ◌≤◌, ◌<◌}
use mathlib.Core.Bool.{Bool}
use mathlib.Core.Path.{◌≡◌, sym, ap, subst}
use mathlib.Core.List.{List}
use native.Mathlib.Omega.{arith}
use lib.IntN.{ℤ}
use Rattle.std.specs.Prelude.{Option, Some, None, IfSome, Ok}
use borrow.Author.Tests.{ltb-false}
use Rattle.whole.proofs.Pick.{by_cases}
use Rattle.ship.specs.declared.Ship.{Ship}
use Rattle.ship.specs.Kinds.{is_reduced}
use Rattle.ship.proofs.Lines.{all_pass}
use Rattle.record.specs.Layout.{ship_in}
use Rattle.record.specs.Writing.{write_lines, writing_of}
use Rattle.mark.specs.declared.Marks.{Marks}
use Rattle.mark.specs.Others.{sheet}
use Rattle.mark.proofs.Given.{six_small}
use Rattle.timber.specs.declared.TimberMarks.{TimberMarks}
use Rattle.timber.specs.Timber.{timber_from, timber_given, no_timber, timber_marks}
use Rattle.timber.specs.Answer as Whole
use Rattle.timber.specs.Answer.{sheet_with}
use Rattle.steps.specs.Steps.{summer_of, particulars_of}
use Rattle.steps.specs.Timber.{timber_summer_of, timber_marks_of}
use Rattle.steps.proofs.Particulars.{fair_particulars}
use Rattle.marks.specs.Marks.{sheet_in, answer_in}
use Rattle.marks.proofs.Demand.{given_in, timber_is}
use Rattle.answers.specs.Answers.{Small}

-- ---- marks
pub small_in : (s : List ℕ) (m : Marks) → sheet (Ok m) ≡ sheet_in s → Small m
unfolding particulars_of
small_in s m e =
    let x = ship_in s in
    let g = given_in s m e in
    let f = fair_particulars x g.0 in
    let n = six_small (particulars_of x) (summer_of x) g.1 f.1 f.0 in
    subst Small (sym g.2) (record { s = omega (arith, n.0); t = omega (arith, n.1); w = omega (arith, n.2); wna = omega (arith, n.3) })

-- LWNA is 0 or WNA
lwna_most : (b : Bool) (W WNA D : ℕ) (LS : ℤ) → (timber_marks b W WNA D LS).lwna ≤ WNA
unfolding timber_marks timber_from no_timber
lwna_most b W WNA D LS = by_cases (λ (t : TimberMarks). t.lwna ≤ WNA) (timber_given D LS) _ _ (λ t. omega arith) (λ t. omega arith)

pub small_timber : (s : List ℕ) (m : Marks) (t : TimberMarks) → Whole.sheet (Ok (record { ordinary = m; timber = Some t })) ≡ answer_in s → Small m × (t.lwna < 2 ^ 32)
unfolding answer_in sheet_with timber_marks_of
small_timber s m t e =
    let x = ship_in s in
    let k = small_in s m (ap (λ (a : Whole.Sheet). a.ordinary) e) in
    let l = lwna_most (is_reduced x.kind) m.w m.wna x.depth.0 (timber_summer_of x) in
    (k, rw (timber_is x (sheet_in s) m t e) (omega (arith, k.wna, l)))

-- and of whatever is given
pub small_given : (s : List ℕ) (m : Marks) (t : Option TimberMarks) → Whole.sheet (Ok (record { ordinary = m; timber = t })) ≡ answer_in s
    → Small m × IfSome t (λ u. u.lwna < 2 ^ 32)
unfolding answer_in sheet_with
small_given s m None e = (small_in s m (ap (λ (a : Whole.Sheet). a.ordinary) e), tt)
small_given s m (Some t) e = small_timber s m t e

-- ---- a written record
pub few_written : (room : ℕ) (x : Ship) → (writing_of room x).number ≡ 0 → x.n ≤ 8
unfolding writing_of
few_written room x e = ltb-false 8 x.n (all_pass (write_lines room x) (omega arith) e).1.1.0
