use Rattle.std.proofs.Common.{arith}
use Rattle.bow.proofs.Words.{rises_words}
use Rattle.bow.proofs.Measures.rise.Goals as goal

pub returns-clause-frac : goal.returns-clause-frac
returns-clause-frac c = rises_words c.args.self.m.0 c.args.self.cb (omega arith)
