-- Demand 2 of the call: where an answer gives marks, S is never below the exact value, and less than 1.1 mm above it, and where it gives timber marks, so is LS.
use Prim.Native.Nat.{ℕ, ◌<◌}
use mathlib.Core.List.{List, ◌++◌}
use mathlib.Core.Bool.{true, ◌&&◌}
use mathlib.Core.Path.{◌≡◌, sym, ap, ◌∙◌}
use lib.Dec.{eqb}
use Rattle.std.specs.Prelude.{Option, Some, None, IfSome, Result, Ok, Err}
use borrow.Author.Tests.{leb-false}
use native.Mathlib.Omega.{arith}
use Rattle.ship.specs.declared.Ship.{Ship}
use Rattle.ship.specs.declared.refusal.Refusal.{Refusal}
use Rattle.ship.specs.Refusals.{Paper, first}
use Rattle.ship.specs.Checks.{ship_lines}
use Rattle.ship.proofs.Lines.{AllPass, all_pass, all_pass_split, first_passed}
use Rattle.ship.proofs.Accepted.{good}
use Rattle.record.specs.Layout.{head_in, ship_in}
use Rattle.record.specs.Reading.{frame_lines}
use Rattle.record.proofs.Framed.{frame_passed, type_most}
use Rattle.whole.proofs.Pick.{pick_true}
use Rattle.mark.specs.declared.Marks.{Marks}
use Rattle.mark.specs.Others as Ordinary
use Rattle.mark.specs.Others.{mark_lines, six_marks, sheet_at}
use Rattle.mark.specs.Summer.{Holds}
use Rattle.mark.proofs.OneToOne.{given_marks}
use Rattle.steps.specs.Steps.{Sound, summer_of, particulars_of}
use Rattle.timber.specs.declared.TimberMarks.{TimberMarks}
use Rattle.timber.specs.declared.Given.{Given}
use Rattle.timber.specs.Timber.{timber_from, timber_marks}
use Rattle.timber.specs.Answer.{Sheet, sheet, sheet_with}
use Rattle.steps.specs.Exact.{exact_summer_of}
use Rattle.steps.specs.Timber.{timber_marks_of}
use Rattle.steps.proofs.Bound.{summer_bounded, timber_bounded}
use Rattle.marks.specs.Marks.{sheet_for, sheet_in, answer_for, answer_in, TimberBounded, Bounded}

-- ---- the timber marks of an answer that has them
module _ (x : Ship) (o : Ordinary.Sheet) (m : Marks) (t : TimberMarks) (e : sheet (Ok (record { ordinary = m; timber = Some t })) ≡ sheet_with o x.timber (timber_marks_of x o.marks)) where
  -- they are the ship's, beside its ordinary marks
  pub timber_is : t ≡ timber_marks_of x m
  unfolding sheet_with
  timber_is =
      let a : (eqb o.verdict.number 0 && x.timber) ≡ true = sym (ap (λ (s : Sheet). s.given) e) in
      let b : o.marks ≡ m = sym (ap (λ (s : Sheet). s.ordinary.marks) e) in
      ap (λ (s : Sheet). s.timber) e ∙ pick_true _ _ _ a ∙ ap (timber_marks_of x) b

  pub timber_close : Sound x → TimberBounded t x
  unfolding timber_marks_of timber_marks timber_from
  timber_close k h = rw (ap (λ (n : TimberMarks). n.ls) (timber_is ∙ pick_true _ _ _ h)) (timber_bounded x k)

if_timber : (x : Ship) (o : Ordinary.Sheet) (m : Marks) → Sound x → (t : Option TimberMarks)
    → sheet (Ok (record { ordinary = m; timber = t })) ≡ sheet_with o x.timber (timber_marks_of x o.marks) → IfSome t (λ u. TimberBounded u x)
if_timber x o m k None e = tt
if_timber x o m k (Some t) e = timber_close x o m t e k

-- ---- an answer that meets the call's equation is within the bound as well
ordinary_close : (x : Ship) → Sound x → (m : Marks) → Ordinary.sheet (Ok m) ≡ sheet_for x → Holds m.s (exact_summer_of x)
unfolding sheet_for sheet_at six_marks
ordinary_close x k m e = rw (given_marks (first (mark_lines (particulars_of x) (summer_of x))) (six_marks (particulars_of x) (summer_of x)) m e).1 (summer_bounded x k)

pub bounded : (x : Ship) → Sound x → (r : Result Given Refusal) → sheet r ≡ answer_for x → Bounded r x
unfolding answer_for sheet_with
bounded x k (Ok g) e = (ordinary_close x k g.ordinary (ap (λ (s : Sheet). s.ordinary) e), if_timber x (sheet_for x) g.ordinary k g.timber e)
bounded x k (Err r) e = tt

-- bytes whose lines 1 to 11, 18 and 22 to 24 all pass are of a ship that the steps can take
pub sound : (s : List ℕ) → AllPass (frame_lines s) → AllPass (ship_lines (ship_in s)) → Sound (ship_in s)
unfolding ship_in
sound s a b =
    let f = frame_passed s a in
    record { type = type_most (head_in s).version f.type; timber = f.timber; few = f.few; good = good (ship_in s) (ap (λ (t : Paper). t.number) (first_passed (ship_lines (ship_in s)) b)) }

-- what marks that are given show: the ship is sound, its S is below D, and they are its six
pub given_in : (s : List ℕ) (m : Marks) → Ordinary.sheet (Ok m) ≡ sheet_in s
    → let x = ship_in s in Sound x × (summer_of x < x.depth.0) × (m ≡ six_marks (particulars_of x) (summer_of x))
unfolding sheet_in particulars_of
given_in s m e =
    let x = ship_in s in
    let more = mark_lines (particulars_of x) (summer_of x) in
    let v : (first (frame_lines s ++ (ship_lines x ++ more))).number ≡ 0 = sym (ap (λ (t : Ordinary.Sheet). t.verdict.number) e) in
    let p = all_pass_split (frame_lines s) (ship_lines x ++ more) (all_pass (frame_lines s ++ (ship_lines x ++ more)) (omega arith) v) in
    let q = all_pass_split (ship_lines x) more p.1 in
    (sound s p.0 q.0, leb-false x.depth.0 (summer_of x) q.1.0, (given_marks (first (frame_lines s ++ (ship_lines x ++ more))) (six_marks (particulars_of x) (summer_of x)) m e).1)

given_close : (s : List ℕ) (m : Marks) → Ordinary.sheet (Ok m) ≡ sheet_in s → Sound (ship_in s) × Holds m.s (exact_summer_of (ship_in s))
unfolding six_marks
given_close s m e = let g = given_in s m e in (g.0, rw g.2 (summer_bounded (ship_in s) g.0))

-- for every byte string for which the marks call gives marks
pub bounded_in : (s : List ℕ) (r : Result Given Refusal) → sheet r ≡ answer_in s → Bounded r (ship_in s)
unfolding answer_in sheet_with
bounded_in s (Ok g) e =
    let h = given_close s g.ordinary (ap (λ (t : Sheet). t.ordinary) e) in
    (h.1, if_timber (ship_in s) (sheet_in s) g.ordinary h.0 g.timber e)
bounded_in s (Err r) e = tt
