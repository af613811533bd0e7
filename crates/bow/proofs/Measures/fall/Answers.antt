use Rattle.std.proofs.Common.{arith}
use Rattle.bow.proofs.Words.{falls_words}
use Rattle.bow.proofs.Measures.fall.Goals as goal

pub returns-clause-frac : goal.returns-clause-frac
returns-clause-frac c = falls_words c.args.self.l.mm c.args.self.m.0 c.args.self.cwf (omega arith)
