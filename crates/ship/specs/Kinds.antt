-- The types of regulation 27, by their number in the record (02 §5): A, B, B-60 and B-100, of reduced freeboard, and B with portable covers in position 1.
use Rattle.std.specs.Prelude.{ℕ, Bool, not, ◌&&◌, ◌||◌, eqb}
use Rattle.whole.specs.Pick.{pick}

abbrev pub kind_a : ℕ
kind_a = 0

abbrev pub kind_b : ℕ
kind_b = 1

abbrev pub kind_b60 : ℕ
kind_b60 = 2

abbrev pub kind_b100 : ℕ
kind_b100 = 3

abbrev pub kind_covers : ℕ
kind_covers = 4

-- 27(5): all but A are type B ships
abbrev pub is_type_b : ℕ → Bool
is_type_b kind = not (eqb kind kind_a)

-- 27(9), (10): those of reduced freeboard
abbrev pub is_reduced : ℕ → Bool
is_reduced kind = eqb kind kind_b60 || eqb kind kind_b100

-- 45(6): the type by which timber freeboards are worked; of a reduced ship it is the ordinary type B
unfoldable pub timber_kind : ℕ → ℕ
timber_kind kind = pick (is_reduced kind) kind_b kind

-- 24: timber freeboards asked for a type A ship; 45(1) begins from 27(5) and (6), which are of type B
abbrev pub timber_for_a : ℕ → Bool → Bool
timber_for_a kind timber = timber && eqb kind kind_a
