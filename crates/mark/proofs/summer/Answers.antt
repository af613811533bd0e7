use Prim.Native.Nat.{◌^◌, ◌≤◌}
use native.Mathlib.Omega.{arith}
use Rattle.whole.proofs.Divide.{ceil_lt}
use Rattle.mark.proofs.Bound.{mark_quotient}
use Rattle.mark.proofs.summer.Goals as goal

pub returns-clause-value : goal.returns-clause-value
returns-clause-value c = let a = c.args in rw (← mark_quotient a.floor a.added.0 a.taken.0 a.bow.0) (grind arith)

pub returns-clause-upper_bound : goal.returns-clause-upper_bound
returns-clause-upper_bound c = let h : c.max-freeboard.result.0 ≤ 2 ^ 50 = grind arith in omega (arith, ceil_lt)
