use Rattle.std.proofs.Common.{arith}
use Rattle.tabular.proofs.Laws.{rows_27, non_decreasing, at_most}
use Rattle.tabular.proofs.covers_add.Goals as goal

pub tabular-requires-clause-table_rises : goal.tabular-requires-clause-table_rises
tabular-requires-clause-table_rises c = rw c.table.ensures (non_decreasing rows_27)

pub tabular-requires-clause-row_in_table : goal.tabular-requires-clause-row_in_table
tabular-requires-clause-row_in_table c = rw (c.table.ensures, rows_27.count) (omega (arith, c.max.ensures))

pub returns-clause-result_bound : goal.returns-clause-result_bound
returns-clause-result_bound c = rw (c.tabular.ensures, c.table.ensures) (omega (arith, at_most rows_27 108 c.max.result (omega (arith, c.max.ensures))))
