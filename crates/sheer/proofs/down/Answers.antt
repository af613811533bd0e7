use Rattle.std.proofs.Common.{arith, ◌-◌, refl}
use Rattle.whole.proofs.Divide.{ceil_most}
use Rattle.sheer.proofs.down.Goals as goal

pub returns-then-p-q-clause-deficiency_bound : goal.returns-then-p-q-clause-deficiency_bound
returns-then-p-q-clause-deficiency_bound c =
    let a = c.args in
    (rw c.div_up.ensures (ceil_most (a.q - a.p) a.d 9000000 (omega arith) (omega arith)), omega arith)

pub returns-clause-deficiency_value : goal.returns-clause-deficiency_value
returns-clause-deficiency_value c = (let a = c.args in (omega (arith, ceil_most (a.q - a.p) a.d 0 (omega arith) (omega arith)), refl))
