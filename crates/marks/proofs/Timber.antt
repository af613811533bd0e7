-- 02 §9 of the call, for every byte string: the order of the timber marks, LS and S, when timber marks are given, and that the ordinary marks do not depend on the
-- flag.
use Prim.Native.Nat.{ℕ, ◌≤◌}
use mathlib.Core.Bool.{Bool, true, false}
use mathlib.Core.List.{List, ◌++◌}
use mathlib.Core.Logic.{◌⊎◌, inl, inr}
use mathlib.Core.Path.{◌≡◌, sym, ap, ap₂, subst, ◌∙◌}
use lib.IntN.{pos}
use Rattle.std.specs.Prelude.{Some, Ok}
use lib.Signed.{◌≤ℤ◌}
use Rattle.whole.proofs.Pick.{pick_true}
use Rattle.ship.specs.declared.Ship.{Ship}
use Rattle.ship.specs.Kinds.{is_type_b, is_reduced}
use Rattle.ship.specs.Refusals.{Line, accepted, refused, first}
use Rattle.ship.specs.Checks.{ship_lines}
use Rattle.record.specs.Layout.{head_in, ship_in}
use Rattle.ship.proofs.Timber.{with_flag}
use Rattle.record.specs.Reading.{frame_lines, reading_in}
use Rattle.record.proofs.Flag.{FlagAlone, flag_ship, flag_frame, flag_verdict}
use Rattle.mark.specs.declared.Marks.{Marks}
use Rattle.mark.specs.Others as Ordinary
use Rattle.mark.specs.declared.Particulars.{Particulars}
use Rattle.mark.specs.Others.{six_marks, mark_lines, sheet_of, sheet_at}
use Rattle.mark.proofs.Given.{six_above}
use Rattle.timber.specs.declared.TimberMarks.{TimberMarks}
use Rattle.timber.specs.Timber.{timber_from, timber_marks, no_timber}
use Rattle.timber.specs.Answer.{Sheet, sheet, sheet_with}
use Rattle.timber.proofs.Order.{AboveOrLevel, tropical_first, fresh_first, fresh_lowest, winter_or_level, none_given, given_not_zero, zeros_tell}
use Rattle.steps.specs.Steps.{summer_of, particulars_of}
use Rattle.steps.specs.Timber.{timber_summer_of, has_timber, timber_marks_of}
use Rattle.steps.proofs.Timber.{timber_under_summer, timber_there, reduced_atlantic, flag_summer, flag_particulars}
use Rattle.marks.specs.Marks.{sheet_for, sheet_in, answer_in}
use Rattle.marks.proofs.Sheet.{sheet_read}
use Rattle.marks.proofs.Demand.{given_in, timber_is}

-- ---- an answer with timber marks
module _ (s : List ℕ) (m : Marks) (t : TimberMarks) (e : sheet (Ok (record { ordinary = m; timber = Some t })) ≡ answer_in s) where
  abbrev x : Ship
  x = ship_in s

  is : t ≡ timber_marks_of x m
  unfolding answer_in
  is = timber_is x (sheet_in s) m t e

  ordinary : Ordinary.sheet (Ok m) ≡ sheet_in s
  unfolding answer_in sheet_with
  ordinary = ap (λ (a : Sheet). a.ordinary) e

  -- LT ≤ LS, LF ≤ LS, LTF ≤ LT, and LS ≤ LW but on a reduced ship whose W is below LS, with which 45(7) sets LW level
  pub in_order : (t.lt ≤ℤ t.ls) × (t.lf ≤ℤ t.ls) × (t.ltf ≤ℤ t.lt) × AboveOrLevel (is_reduced x.kind) m.w t.ls t.lw
  unfolding timber_marks_of
  in_order =
      let b = is_reduced x.kind in
      let P : TimberMarks → Type 0 = λ n. (n.lt ≤ℤ n.ls) × (n.lf ≤ℤ n.ls) × (n.ltf ≤ℤ n.lt) × AboveOrLevel b m.w n.ls n.lw in
      let LS = timber_summer_of x in
      let D = x.depth.0 in
      subst P (sym is) (tropical_first b m.w m.wna D LS, fresh_first b m.w m.wna D LS, fresh_lowest b m.w m.wna D LS, winter_or_level b m.w m.wna D LS)

  -- of a ship that is not reduced the timber marks are there, and LS ≤ S
  pub never_zero : is_reduced x.kind ≡ false → has_timber x ≡ true
  never_zero own = timber_there x own (given_in s m ordinary).1

  pub under_summer : is_reduced x.kind ≡ false → t.ls ≤ℤ pos m.s
  unfolding timber_marks_of timber_marks timber_from six_marks
  under_summer own =
      rw (ap (λ (n : TimberMarks). n.ls) (is ∙ pick_true _ _ _ (never_zero own)), ap (λ (n : Marks). n.s) (given_in s m ordinary).2) (timber_under_summer x own)

  -- WNA is above zero
  some : 1 ≤ m.wna
  unfolding particulars_of
  some = let g = given_in s m ordinary in subst (λ (n : Marks). 1 ≤ n.wna) (sym g.2) (six_above (particulars_of x) (summer_of x) g.1)

  -- where LS would be at or above D they are all zero, and only there
  pub zero_where : (has_timber x ≡ false → t ≡ no_timber) × (t ≡ no_timber → has_timber x ≡ false)
  unfolding timber_marks_of
  zero_where =
      let b = is_reduced x.kind in
      let LS = timber_summer_of x in (
        λ h. is ∙ none_given b m.w m.wna x.depth.0 LS h,
        λ z. zeros_tell b m.w m.wna x.depth.0 LS some (sym is ∙ z),
      )

  -- so that LWNA tells them apart: it is above zero where timber marks are given
  pub atlantic_above : has_timber x ≡ true → 1 ≤ t.lwna
  unfolding timber_marks_of
  atlantic_above h =
      subst (λ (n : TimberMarks). 1 ≤ n.lwna) (sym is) (given_not_zero (is_reduced x.kind) m.w m.wna x.depth.0 (timber_summer_of x) h some)

  -- 45(7) sets a reduced ship's LWNA level with W too: it is, since WNA is W there
  pub atlantic_level : is_reduced x.kind ≡ true → m.wna ≡ m.w
  unfolding six_marks particulars_of
  atlantic_level e = let g = given_in s m ordinary in rw g.2 (reduced_atlantic x g.0 e _)

-- ---- the flag has no part in the ordinary marks
-- of a ship
flag_sheet : (b : Bool) (x : Ship) → sheet_for (with_flag b x) ≡ sheet_for x
unfolding sheet_for
flag_sheet b x = ap₂ sheet_at (flag_particulars b x) (flag_summer b x)

-- of two records that are read, whatever their versions, as ships that differ in the flag alone
pub flag_read : (s t : List ℕ) (b : Bool) (x : Ship)
    → reading_in s ≡ record { verdict = accepted; ship = with_flag b x } → reading_in t ≡ record { verdict = accepted; ship = x } → sheet_in s ≡ sheet_in t
flag_read s t b x p q = sheet_read s (with_flag b x) p ∙ flag_sheet b x ∙ sym (sheet_read t x q)

-- of any two records that differ in the flag alone, of which the second does not have it: 24, or the same ordinary marks and the same refusal
pub flag_apart : (s t : List ℕ) → FlagAlone s t → (head_in t).timber ≡ false → ((sheet_in s).verdict ≡ refused 24 0) ⊎ (sheet_in s ≡ sheet_in t)
unfolding sheet_in
flag_apart s t a e =
    let x = ship_in s in
    let y = ship_in t in
    let b = (head_in s).timber in
    let more : Ship → List Line = λ z. ship_lines z ++ mark_lines (particulars_of z) (summer_of z) in
    let same : more x ≡ more y = ap more (flag_ship s t a) ∙ ap₂ (λ (p : Particulars) (S : ℕ). ship_lines y ++ mark_lines p S) (flag_particulars b y) (flag_summer b y) in
    let six : six_marks (particulars_of x) (summer_of x) ≡ six_marks (particulars_of y) (summer_of y) =
    ap (λ (z : Ship). six_marks (particulars_of z) (summer_of z)) (flag_ship s t a) ∙ ap₂ six_marks (flag_particulars b y) (flag_summer b y) in
    elim (flag_verdict s t a e (more x)) [
      | inl h ↦ inl h
      | inr h ↦ inr (ap₂ sheet_of (h ∙ ap (λ (l : List Line). first (frame_lines t ++ l)) same) six)
    ]

-- and of a type B ship, which has no 24, always the same
pub flag_apart_b : (s t : List ℕ) → FlagAlone s t → is_type_b (head_in t).kind ≡ true → sheet_in s ≡ sheet_in t
unfolding sheet_in
flag_apart_b s t a e =
    let b = (head_in s).timber in
    let y = ship_in t in
    let S = flag_summer b y in
    let p = flag_particulars b y in
    ap₂ (λ (f : List Line) (x : Ship). sheet_of (first (f ++ ship_lines x ++ mark_lines (particulars_of x) (summer_of x))) (six_marks (particulars_of x) (summer_of x)))
    (flag_frame s t a e) (flag_ship s t a)
    ∙ (λ i. sheet_of (first (frame_lines t ++ ship_lines y ++ mark_lines (p i) (S i))) (six_marks (p i) (S i)))
