use Rattle.std.proofs.Common.{arith}
use Rattle.sheer.proofs.Words.{after_none, after_whole}
use Rattle.sheer.proofs.Halves.after_counts.Goals as goal

pub returns-then-self-mm-clause-frac : goal.returns-then-self-mm-clause-frac
returns-then-self-mm-clause-frac c = after_none c.args.self.after c.args.self.forward c.args.self.l.mm (omega arith)

pub returns-clause-frac : goal.returns-clause-frac
returns-clause-frac c = rw c.saturating_sub.ensures (after_whole c.args.self.after c.args.self.forward c.args.self.l.mm (omega arith))
