-- The rule of table 27.1 at each row.
use Rattle.std.specs.Prelude.{ℕ, ◌+◌, ◌≤◌, ◌<◌, get_or}
use Rattle.tables.specs.Table27.{table27}

-- at row k of 93 it rises strictly to the next row, and no row is above the last
pub record RowRule (k : ℕ) : Type 0 where
  pub rises : k + 1 < 93 → get_or table27 k 0 < get_or table27 (k + 1) 0
  pub small : get_or table27 k 0 ≤ 358
