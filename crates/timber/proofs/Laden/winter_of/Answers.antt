use native.Mathlib.Omega.{arith}
use Rattle.whole.proofs.Divide.{ceil_lt}
use Rattle.timber.proofs.Laden.winter_of.Goals as goal

pub overflow_add-top : goal.overflow_add-top
overflow_add-top c = omega (arith, ceil_lt)

pub minus-requires-2 : goal.minus-requires-2
minus-requires-2 c = omega (arith, ceil_lt)
