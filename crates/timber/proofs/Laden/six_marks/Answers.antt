use borrow.Author.Rules.{rules}
use Rattle.whole.proofs.Integers.{minus_less}
use Rattle.timber.specs.Timber.{timber_from}
use Rattle.timber.proofs.Laden.six_marks.Goals as goal

pub returns : goal.returns
unfolding timber_from
returns c = simp minus_less (search rules)
