use Rattle.std.proofs.Common.{arith}
use Rattle.whole.proofs.Divide.{mul_most}
use Rattle.sheer.proofs.Words.{credit_none, credit_whole, credit_part}
use Rattle.sheer.proofs.Halves.forward_counts.Goals as goal

pub overflow_mul-counted : goal.overflow_mul-counted
overflow_mul-counted c = omega (arith, mul_most c.saturating_sub-excess.result c.saturating_sub-part.result 1721000000 6882000000 (omega arith) (omega arith))

pub returns-then-counted-eq0-clause-frac : goal.returns-then-counted-eq0-clause-frac
returns-then-counted-eq0-clause-frac c =
    let s = c.args.self in
    credit_none s.after s.forward s.l.mm c.saturating_sub-excess.result c.saturating_sub-part.result c.saturating_sub-excess.ensures c.saturating_sub-part.ensures c.if-counted-eq0.true

pub returns-then-w-part-clause-frac : goal.returns-then-w-part-clause-frac
returns-then-w-part-clause-frac c =
    let s = c.args.self in
    credit_whole s.after s.forward s.l.mm c.saturating_sub-excess.result c.saturating_sub-part.result c.saturating_sub-excess.ensures c.saturating_sub-part.ensures c.if-w-part.true

pub returns-clause-frac : goal.returns-clause-frac
returns-clause-frac c =
    let s = c.args.self in
    credit_part s.after s.forward s.l.mm c.saturating_sub-excess.result c.saturating_sub-part.result c.saturating_sub-excess.ensures c.saturating_sub-part.ensures (omega arith)
