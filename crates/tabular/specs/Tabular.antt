-- A table of freeboards by length, in mm at each whole metre from its first; between its rows it is linear, so that a length in mm has its freeboard exact in um.
use Rattle.std.specs.Prelude.{List, ℕ, ◌+◌, ◌*◌, ◌-◌, ◌/◌, ◌%◌, min, max, length, get_or}
use Rattle.tables.specs.Table27.{table27}
use Rattle.tables.specs.Table28.{table28_a, table28_b}

-- the row of the whole metre at or below the length, and the one after it. The last row is its own next: nothing lies past it
abbrev pub row_of : ℕ → ℕ → ℕ
row_of first l = l / 1000 - first

abbrev pub next_of : ℕ → List ℕ → ℕ → ℕ
next_of first t l = min (row_of first l + 1) (length t - 1)

unfoldable pub tabular : ℕ → List ℕ → ℕ → ℕ
tabular first t l = 1000 * get_or t (row_of first l) 0 + (l % 1000) * (get_or t (next_of first t l) 0 - get_or t (row_of first l) 0)

-- 28: tables 28.1 and 28.2, from 24 to 365 m
abbrev pub table_a : ℕ → ℕ
table_a l = tabular 24 table28_a l

abbrev pub table_b : ℕ → ℕ
table_b l = tabular 24 table28_b l

-- 27(6): table 27.1, what portable covers add, from 108 to 200 m; its first row is for 108 m and below
abbrev pub covers_add : ℕ → ℕ
covers_add l = tabular 108 table27 (max l 108000)
