use Rattle.bow.proofs.Cubic.{cubic, cubic_most}
use Rattle.bow.proofs.Words.{b1_words}
use Rattle.bow.proofs.Measures.cubic.Goals as goal

pub returns-clause-frac : goal.returns-clause-frac
unfolding cubic
returns-clause-frac c = b1_words c.args.self.l.mm

pub returns-clause-upper_bound : goal.returns-clause-upper_bound
unfolding cubic
returns-clause-upper_bound c = cubic_most c.args.self.l.mm c.args.self.l.within
