-- What a ship's type decides before any correction (27, with 02 §5): the line that its freeboard begins from, at its length, in um; that line with no rounding;
-- and the least freeboard of 40, in mm.
use Rattle.std.specs.Prelude.{ℕ, ◌+◌, List, [], ◌∷◌, get_or}
use Rattle.whole.specs.Frac.{Frac, ◌-f◌, ◌*f◌, whole, frac, ceil}
use Rattle.tabular.specs.Tabular.{table_a, table_b, covers_add}

pub record Basis : Type 0 where
  pub line : ℕ
  pub exact : Frac
  pub floor : ℕ

-- 40(2) and (4): the least freeboard of S and T, in mm; with portable covers it is greater
abbrev pub least : ℕ
least = 50

abbrev pub least_with_covers : ℕ
least_with_covers = 150

-- a line that is exact in um
abbrev pub own_line : ℕ → ℕ → Basis
own_line line floor = record { line = line; exact = whole line; floor = floor }

-- 27(9), (10): B less so many per cent of its difference from A
unfoldable pub exact_reduced : ℕ → ℕ → Frac
exact_reduced percent l = whole (table_b l) -f frac percent 100 *f (whole (table_b l) -f whole (table_a l))

-- up
abbrev pub reduced_line : ℕ → ℕ → Basis
reduced_line percent l = record { line = ceil (exact_reduced percent l); exact = exact_reduced percent l; floor = least }

-- A (27(4)), B (27(7)), B-60 (27(9)), B-100 (27(10)), B with portable covers (27(6)), in the order of their numbers in the record
abbrev pub bases : ℕ → List Basis
bases l =
    own_line (table_a l) least
    ∷ own_line (table_b l) least
    ∷ reduced_line 60 l
    ∷ reduced_line 100 l
    ∷ own_line (table_b l + covers_add l) least_with_covers
    ∷ []

-- a number past the last is refused before it comes here
unfoldable pub basis_of : ℕ → ℕ → Basis
basis_of kind l = get_or (bases l) kind (own_line 0 0)
