use native.Mathlib.Omega.{arith}
use Rattle.whole.proofs.Divide.{ceil_lt}
use Rattle.timber.proofs.level_of.Goals as goal

pub returns-clause-up_bound : goal.returns-clause-up_bound
returns-clause-up_bound c = omega (arith, ceil_lt)
