use Rattle.std.proofs.Common.{arith, ◌*◌}
use Rattle.sheer.proofs.Rounded.{mean_quotients}
use Rattle.sheer.proofs.Halves.mean.Goals as goal

pub returns-then-b-eq1-clause-deficiency_value : goal.returns-then-b-eq1-clause-deficiency_value
returns-then-b-eq1-clause-deficiency_value c =
    let s = c.args.self in
    let credit = c.forward_counts-credit in
    let m =
    mean_quotients s.after s.forward s.l.mm c.after_counts.result credit.result.top c.lacks.result credit.result.bottom 480 (omega arith) (omega arith)
    c.after_counts.ensures.frac
    credit.ensures.frac
    c.lacks.ensures.frac in
    rw (m.0, m.1) at c.down.ensures.deficiency_value

pub returns-clause-deficiency_value : goal.returns-clause-deficiency_value
returns-clause-deficiency_value c =
    let s = c.args.self in
    let credit = c.forward_counts-credit in
    let m =
    mean_quotients s.after s.forward s.l.mm c.after_counts.result credit.result.top c.lacks.result credit.result.bottom (480 * credit.result.bottom) (omega arith) (omega arith)
    c.after_counts.ensures.frac
    credit.ensures.frac
    c.lacks.ensures.frac in
    rw (m.0, m.1) at c.down-2.ensures.deficiency_value
