-- The rule of tables 28.1 and 28.2 at each row.
use Rattle.std.specs.Prelude.{ℕ, ◌+◌, ◌≤◌, ◌<◌, get_or}
use Rattle.tables.specs.Table28.{table28_a, table28_b}

-- at row k of 342 both tables rise strictly to the next row, and A is at most B
pub record RowRule (k : ℕ) : Type 0 where
  pub a_rises : k + 1 < 342 → get_or table28_a k 0 < get_or table28_a (k + 1) 0
  pub b_rises : k + 1 < 342 → get_or table28_b k 0 < get_or table28_b (k + 1) 0
  pub a_at_most_b : get_or table28_a k 0 ≤ get_or table28_b k 0
  pub b_small : get_or table28_b k 0 ≤ 6000
