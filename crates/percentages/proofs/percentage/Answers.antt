use Rattle.percentages.proofs.Rule37.{each_row}
use Rattle.percentages.proofs.percentage.Goals as goal

pub returns-clause-upper_bound : goal.returns-clause-upper_bound
returns-clause-upper_bound c = rw c.entries.ensures ((each_row c.args.row).most c.args.k)
