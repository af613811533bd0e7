-- 02 §5 of the call: the four type B kinds in one statement, the order of S for records whose ships differ in type alone, and when A and B-100 have the same marks.
use Prim.Native.Nat.{ℕ, ◌≤◌}
use mathlib.Core.Bool.{true, false}
use mathlib.Core.List.{List}
use mathlib.Core.Path.{◌≡◌, refl, sym, ap, ap₂, ◌∙◌}
use native.Mathlib.Omega.{arith}
use Rattle.std.specs.Prelude.{Ok}
use Rattle.ship.specs.declared.Ship.{Ship}
use Rattle.ship.specs.Kinds.{kind_a, kind_b, kind_b100}
use Rattle.ship.specs.Refusals.{accepted, first}
use Rattle.record.specs.Reading.{reading_in}
use Rattle.mark.specs.declared.Marks.{Marks}
use Rattle.mark.specs.Others.{Sheet, mark_lines, six_marks, sheet, sheet_at}
use Rattle.mark.proofs.OneToOne.{given_marks}
use Rattle.houses.specs.Effective.{exact_effective}
use Rattle.deduction.specs.Deduction37.{lacks_forecastle}
use Rattle.basis.specs.Basis.{basis_of}
use Rattle.basis.proofs.Laws.{in_order}
use Rattle.steps.specs.Steps.{forecastle_house, summer_by, summer_of, particulars_by, particulars_of}
use Rattle.steps.proofs.Types.{of_kind, four_summers, four_particulars, summers_in_order, b100_summer, b100_particulars}
use Rattle.marks.specs.Marks.{sheet_for, sheet_in}
use Rattle.marks.proofs.Sheet.{sheet_read, sound_read}

-- the marks of an ordinary type B ship, but from this line and with this floor, which is the tropical one too
abbrev pub sheet_by : ℕ → ℕ → Ship → Sheet
sheet_by line floor x = sheet_at (particulars_by floor (of_kind kind_b x)) (summer_by line floor (of_kind kind_b x))

-- ONE STATEMENT for the four: all six marks, and 12 and 13; line and floor are all that varies with the kind
pub four_kinds : (x : Ship) (kind : ℕ) → 1 ≤ kind
    → sheet_for (of_kind kind x) ≡ sheet_by (basis_of kind x.length.0).line (basis_of kind x.length.0).floor x
unfolding sheet_for
four_kinds x kind b = ap₂ sheet_at (four_particulars x kind b) (four_summers x kind b)

-- the S that a call gives is the steps'
pub given_summer : (s : List ℕ) (x : Ship) → reading_in s ≡ record { verdict = accepted; ship = x } → (m : Marks) → sheet (Ok m) ≡ sheet_in s → m.s ≡ summer_of x
unfolding sheet_for sheet_at six_marks
given_summer s x e m g =
    ap (λ (n : Marks). n.s) (given_marks (first (mark_lines (particulars_of x) (summer_of x))) (six_marks (particulars_of x) (summer_of x)) m (g ∙ sheet_read s x e)).1

-- two records whose ships differ in type alone, the types in the order A, B-100, B-60, B, portable covers: where both get marks, S is in that order
pub marks_in_order : (x : Ship) (i j : ℕ) → i ≤ j → j ≤ 4 → (s t : List ℕ)
    → reading_in s ≡ record { verdict = accepted; ship = of_kind (in_order i) x } → reading_in t ≡ record { verdict = accepted; ship = of_kind (in_order j) x }
    → (m n : Marks) → sheet (Ok m) ≡ sheet_in s → sheet (Ok n) ≡ sheet_in t → m.s ≤ n.s
marks_in_order x i j h k s t p q m n a b =
    rw (given_summer s (of_kind (in_order i) x) p m a, given_summer t (of_kind (in_order j) x) q n b)
    (summers_in_order x (sound_read s (of_kind (in_order i) x) p).good.length_most i j h k)

-- A and B-100 have one line. Two records whose ships differ so in type alone have the same answer where 37 grants a type B ship its deduction
b100_sheet : (x : Ship) → 100000 ≤ x.length.0 → x.length.0 ≤ 365000
    → lacks_forecastle true (exact_effective x.length.0 (forecastle_house x)) x.length.0 ≡ false
    → sheet_for (of_kind kind_a x) ≡ sheet_for (of_kind kind_b100 x)
unfolding sheet_for
b100_sheet x h g f = ap₂ sheet_at (b100_particulars x) (b100_summer x h g f)

pub b100_marks : (x : Ship) (s t : List ℕ)
    → reading_in s ≡ record { verdict = accepted; ship = of_kind kind_a x } → reading_in t ≡ record { verdict = accepted; ship = of_kind kind_b100 x }
    → lacks_forecastle true (exact_effective x.length.0 (forecastle_house x)) x.length.0 ≡ false
    → sheet_in s ≡ sheet_in t
b100_marks x s t p q f =
    let g = (sound_read t (of_kind kind_b100 x) q).good in
    sheet_read s (of_kind kind_a x) p ∙ b100_sheet x (omega (arith, g.reduced_long.1 refl)) g.length_most f ∙ sym (sheet_read t (of_kind kind_b100 x) q)
