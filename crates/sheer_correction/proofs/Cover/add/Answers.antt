use Rattle.std.proofs.Common.{◌*◌, ◌-◌, ◌∙◌, sym, arith}
use Rattle.whole.proofs.Divide.{ceil_most, mul_most}
use Rattle.sheer.proofs.Rounded.{addition_quotient, none_added}
use Rattle.sheer_correction.proofs.Cover.add.Goals as goal

pub returns-then-um-eq0-clause-result_value : goal.returns-then-um-eq0-clause-result_value
returns-then-um-eq0-clause-result_value c = rw c.if-um-eq0.true (sym (none_added c.args.self.l.mm c.args.self.s.0))

pub returns-clause-result_value : goal.returns-clause-result_value
returns-clause-result_value c =
    c.mul_div_up.ensures ∙ addition_quotient c.args.deficiency.0 c.args.self.l.mm c.args.self.s.0 (omega arith)

pub returns-clause-result_bound : goal.returns-clause-result_bound
returns-clause-result_bound c =
    let d = c.args.deficiency.0 in
    let l = c.args.self.l.mm in
    let n = 3 * l - 2 * c.args.self.s.0 in
    rw c.mul_div_up.ensures
    (ceil_most (d * n) (4 * l) 9000000 (omega arith) (omega (arith, mul_most d n 9000000 (4 * l) (omega arith) (omega arith))))
