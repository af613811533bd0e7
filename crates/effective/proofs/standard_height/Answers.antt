use Rattle.std.proofs.Common.{true, false}
use Rattle.whole.specs.Pick.{pick}
use Rattle.effective.specs.Unrounded.{low_height}
use Rattle.effective.proofs.Unrounded.{low_exact, low_sized}
use Rattle.effective.proofs.standard_height.Goals as goal

pub returns-then-quarterdeck-clause-frac : goal.returns-then-quarterdeck-clause-frac
unfolding low_height pick
returns-then-quarterdeck-clause-frac c = rw (c.raised_height.ensures, c.if-quarterdeck.true) (low_exact c.args.l.0 true)

pub returns-then-quarterdeck-clause-sized : goal.returns-then-quarterdeck-clause-sized
unfolding low_height pick
returns-then-quarterdeck-clause-sized c = rw c.raised_height.ensures (low_sized c.args.l.0 true)

pub returns-clause-frac : goal.returns-clause-frac
unfolding low_height pick
returns-clause-frac c = rw (c.ordinary_height.ensures, c.if-quarterdeck.false) (low_exact c.args.l.0 false)

pub returns-clause-sized : goal.returns-clause-sized
unfolding low_height pick
returns-clause-sized c = rw c.ordinary_height.ensures (low_sized c.args.l.0 false)
