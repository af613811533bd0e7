use Rattle.std.proofs.Common.{arith}
use Rattle.tabular.proofs.Laws.{rows_b, non_decreasing, at_most}
use Rattle.tabular.proofs.tabular_b.Goals as goal

pub tabular-requires-clause-table_rises : goal.tabular-requires-clause-table_rises
tabular-requires-clause-table_rises c = rw c.table.ensures (non_decreasing rows_b)

pub tabular-requires-clause-row_in_table : goal.tabular-requires-clause-row_in_table
tabular-requires-clause-row_in_table c = rw (c.table.ensures, rows_b.count) (omega arith)

pub returns-clause-result_bound : goal.returns-clause-result_bound
returns-clause-result_bound c = rw (c.tabular.ensures, c.table.ensures, c.span.ensures) (omega (arith, at_most rows_b 24 c.args.l.mm (omega arith)))
