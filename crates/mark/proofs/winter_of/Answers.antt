use native.Mathlib.Omega.{arith}
use Rattle.whole.proofs.Divide.{ceil_lt}
use Rattle.mark.proofs.winter_of.Goals as goal

pub overflow_add-result : goal.overflow_add-result
overflow_add-result c = omega (arith, ceil_lt)

pub returns-clause-upper_bound : goal.returns-clause-upper_bound
returns-clause-upper_bound c = omega (arith, ceil_lt)
