-- The marks of bytes that are read, and of bytes that are refused; and the answer with the timber marks beside them.
use Prim.Native.Nat.{ℕ, ◌≤◌}
use mathlib.Core.Bool.{Bool, false, ◌&&◌}
use mathlib.Core.List.{List}
use mathlib.Core.Path.{◌≡◌, sym, ap, ap₂, subst, ◌∙◌}
use lib.Dec.{eqb}
use Rattle.std.specs.Prelude.{Option, Some, None, Ok, Err, is_some, IfSome}
use borrow.Author.Tests.{eq-eqb, ne_eqb}
use Rattle.whole.proofs.Pick.{pick_false}
use Rattle.ship.specs.declared.Ship.{Ship}
use Rattle.ship.specs.declared.refusal.Refusal.{Refusal}
use Rattle.ship.specs.Refusals.{Paper, Line, accepted, refused_as}
use Rattle.ship.proofs.Lines.{beside_refusal}
use Rattle.record.specs.Layout.{ship_in}
use Rattle.record.specs.Reading.{reading_in}
use Rattle.record.proofs.Framed.{ship_is, read_is_good}
use Rattle.record.proofs.Calls.{call_read, call_refused}
use Rattle.ship.specs.Vessel.{houses_of}
use Rattle.mark.specs.declared.Marks.{Marks}
use Rattle.mark.specs.declared.Particulars.{Particulars}
use Rattle.mark.proofs.Given.{given_below, six_small}
use Rattle.deck.specs.declared.Deck.{Deck}
use Rattle.deck.specs.Deck.{deck_of}
use Rattle.hull.specs.declared.Hull.{Hull}
use Rattle.hull.specs.Parts.{hull_of}
use Rattle.summer.specs.Parts.{summer_on}
use Rattle.summer.proofs.Parts.{summer_parts}
use Rattle.steps.proofs.Particulars.{fair_particulars}
use Rattle.mark.specs.Others.{Sheet, no_marks, six_marks, mark_lines, sheet, sheet_of, sheet_at}
use Rattle.timber.specs.declared.TimberMarks.{TimberMarks}
use Rattle.timber.specs.Timber.{no_timber}
use Rattle.timber.specs.Answer as Whole
use Rattle.timber.specs.Answer.{sheet_with}
use Rattle.timber.proofs.OneToOne as Wholly
use Rattle.steps.specs.Steps.{Sound, summer_of, particulars_of}
use Rattle.steps.specs.Timber.{timber_marks_of}
use Rattle.marks.specs.Marks.{sheet_for, sheet_in, answer_for, answer_in}

-- the call's answer by its verdict, and its own lines
abbrev answer : Paper → Ship → Sheet
answer v x = sheet_of v (six_marks (particulars_of x) (summer_of x))

abbrev more : Ship → List Line
more x = mark_lines (particulars_of x) (summer_of x)

pub sheet_read : (s : List ℕ) (x : Ship) → reading_in s ≡ record { verdict = accepted; ship = x } → sheet_in s ≡ sheet_for x
unfolding sheet_in sheet_for sheet_at
sheet_read s x e = call_read answer more s x e

-- and the ship is one that the steps can take
pub sound_read : (s : List ℕ) (x : Ship) → reading_in s ≡ record { verdict = accepted; ship = x } → Sound x
sound_read s x e = let g = read_is_good s x e in record { type = g.0; timber = g.1; few = g.2; good = g.3 }

pub sheet_refused : (s : List ℕ) (r : Refusal) → (reading_in s).verdict ≡ refused_as r
    → sheet_in s ≡ record { verdict = refused_as r; marks = no_marks }
unfolding sheet_in
sheet_refused s r e =
    let v = refused_as r in
    call_refused answer more s r e ∙ ap (λ (m : Marks). record { verdict = v; marks = m }) (beside_refusal r (six_marks (particulars_of (ship_in s)) (summer_of (ship_in s))) no_marks)

-- ---- and with the timber marks beside them
pub answer_read : (s : List ℕ) (x : Ship) → reading_in s ≡ record { verdict = accepted; ship = x } → answer_in s ≡ answer_for x
unfolding answer_in answer_for
answer_read s x e = let y = ship_is s x e in let o = sheet_read s x e in λ i. sheet_with (o i) (y i).timber (timber_marks_of (y i) (o i).marks)

pub answer_refused : (s : List ℕ) (r : Refusal) → (reading_in s).verdict ≡ refused_as r → answer_in s ≡ Whole.sheet (Err r)
unfolding answer_in
answer_refused s r e =
    let x = ship_in s in
    let o = sheet_refused s r e in
    (λ i. sheet_with (o i) x.timber (timber_marks_of x (o i).marks)) ∙ sym (Wholly.sheet_refused r x.timber (timber_marks_of x no_marks))

-- the ordinary sheet of a ship, by its hull and its deck, as the code works it
pub sheet_parts : (x : Ship) → Sound x → (p : Particulars) (h : Hull) (d : Deck) (S : ℕ) → p ≡ particulars_of x → h ≡ hull_of x → d ≡ deck_of x.length.0 (houses_of x)
    → S ≡ summer_on h d → sheet_at p S ≡ sheet_for x
unfolding sheet_for
sheet_parts x k p h d S e f g s = ap₂ sheet_at e (s ∙ ap₂ summer_on f g ∙ summer_parts x k.good.houses)

-- W has room
pub winter_small : (x : Ship) → Sound x → (m : Marks) → sheet (Ok m) ≡ sheet_for x → m.w ≤ 120000
unfolding sheet_for
winter_small x k m e =
    let g = given_below (particulars_of x) (summer_of x) m e in
    let f = fair_particulars x k in
    subst (λ (n : Marks). n.w ≤ 120000) (sym g.0) (six_small (particulars_of x) (summer_of x) g.1 f.1 f.0).2

-- the answer of a ship, by its ordinary sheet and its flag
module _ (x : Ship) where
  pub with_given : (m : Marks) (t : Option TimberMarks) → sheet (Ok m) ≡ sheet_for x → is_some t ≡ x.timber → IfSome t (λ u. u ≡ timber_marks_of x m)
      → Whole.sheet (Ok (record { ordinary = m; timber = t })) ≡ answer_for x
  unfolding answer_for
  with_given m None o b e = Wholly.sheet_given m (timber_marks_of x m) ∙ (λ i. sheet_with (o i) (b i) (timber_marks_of x (o i).marks))
  with_given m (Some t) o b e =
      let q : t ≡ timber_marks_of x (sheet_for x).marks = e ∙ ap (λ (s : Sheet). timber_marks_of x s.marks) o in
      Wholly.sheet_with_lem m t ∙ (λ i. sheet_with (o i) (b i) (q i))

  pub with_refusal : (r : Refusal) → sheet (Err r) ≡ sheet_for x → Whole.sheet (Err r) ≡ answer_for x
  unfolding answer_for
  with_refusal r o = Wholly.sheet_refused r x.timber (timber_marks_of x no_marks) ∙ (λ i. sheet_with (o i) x.timber (timber_marks_of x (o i).marks))

-- marks without timber marks are those of a record without the flag
pub no_flag : (s : List ℕ) (m : Marks) → Whole.sheet (Ok (record { ordinary = m; timber = None })) ≡ answer_in s → (ship_in s).timber ≡ false
unfolding answer_in sheet_with
no_flag s m e =
    let n : (sheet_in s).verdict.number ≡ 0 = sym (ap (λ (a : Whole.Sheet). a.ordinary.verdict.number) e) in
    sym (ap (λ (a : Whole.Sheet). a.given) e ∙ ap (λ (b : Bool). b && (ship_in s).timber) (eq-eqb (sheet_in s).verdict.number 0 n))

-- beside a refusal, whichever it is, all six marks are zero, and all six timber marks
pub zero_beside_refusal : (s : List ℕ) → ¬ ((answer_in s).ordinary.verdict.number ≡ 0) → ((answer_in s).ordinary.marks ≡ no_marks) × ((answer_in s).timber ≡ no_timber)
unfolding answer_in sheet_in sheet_with
zero_beside_refusal s n =
    let e = ne_eqb (sheet_in s).verdict.number 0 n in
    (pick_false (eqb (sheet_in s).verdict.number 0) _ _ e, pick_false _ _ _ (ap (λ (b : Bool). b && (ship_in s).timber) e))
