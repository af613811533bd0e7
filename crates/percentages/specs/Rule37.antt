-- The rule of every row of percentages of 37 and 45.
use Rattle.std.specs.Prelude.{◌≡◌, List, ℕ, ◌≤◌, length, get_or}
use Rattle.whole.specs.Row.{Rising}

-- an entry for each tenth of E/L, none below the one before it or more than 18 % above it; none above 100 %, which is the last
pub record Percentages (row : List ℕ) : Type 0 where
  pub eleven : length row ≡ 11
  pub rising : Rising 180 1000 row
  pub most : (k : ℕ) → get_or row k 0 ≤ 1000
  pub last : get_or row 10 0 ≡ 1000
