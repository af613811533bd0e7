use Rattle.std.proofs.Common.{sym, arith}
use Rattle.sheer.proofs.Rounded.{deduction_quotient, none_deducted}
use Rattle.sheer_correction.proofs.Cover.deduct.Goals as goal

pub returns-then-covered-eq0-clause-result_value : goal.returns-then-covered-eq0-clause-result_value
returns-then-covered-eq0-clause-result_value c =
    (let s = c.args.self in sym (none_deducted c.args.excess.0 s.l.mm s.s.0 s.reach c.if-covered-eq0.true))

pub returns-clause-result_value : goal.returns-clause-result_value
returns-clause-result_value c =
    let s = c.args.self in
    rw (c.min.ensures, c.mul_div_down-full.ensures) (deduction_quotient c.args.excess.0 s.l.mm s.s.0 s.reach (omega arith))
