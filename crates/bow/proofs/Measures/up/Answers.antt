use Rattle.std.proofs.Common.{◌≡◌, ◌≤◌, ◌*◌, ◌^◌, ◌∙◌, refl, arith}
use Rattle.whole.specs.Divide.{ceil_div}
use Rattle.whole.specs.Frac.{ceil}
use Rattle.whole.proofs.Divide.{ceil_most, mul_most}
use Rattle.whole.proofs.Round.{ceil_of}
use Rattle.bow.specs.Bow.{exact_b1, b2_above, higher}
use Rattle.bow.proofs.Words.{above_quotient}
use Rattle.bow.proofs.Measures.up.Goals as goal

product : (c : goal.After-div_up-b2) → c.div_up-b1.result * c.div_up-b2.result ≤ 6920000 * 2820000
product c =
    rw (c.div_up-b1.ensures, c.div_up-b2.ensures)
    (mul_most (ceil_div c.cubic.result 5000000000) (ceil_div c.saturating_sub.result (170 * c.args.self.m.0)) 6920000 2820000
    (ceil_most c.cubic.result 5000000000 6920000 (omega arith) (omega arith))
    (ceil_most c.saturating_sub.result (170 * c.args.self.m.0) 2820000 (omega arith) (omega arith)))

pub mul_div_up-requires : goal.mul_div_up-requires
mul_div_up-requires c = omega (arith, product c)

pub returns-clause-result_value : goal.returns-clause-result_value
unfolding higher
returns-clause-result_value c =
    let s = c.args.self in
    let b1 : c.div_up-b1.result ≡ ceil (exact_b1 s.l.mm) = c.div_up-b1.ensures ∙ ceil_of _ 5000000000 {x = exact_b1 s.l.mm} (omega arith) c.cubic.ensures.frac in
    let b2 : c.div_up-b2.result ≡ b2_above s.l.mm s.m.0 s.cb s.cwf =
    c.div_up-b2.ensures ∙ rw c.saturating_sub.ensures (above_quotient s.l.mm s.m.0 s.cb s.cwf _ _ (omega arith) c.rise.ensures.frac c.fall.ensures.frac) in
    rw (c.mul_div_up.ensures, b1, b2) refl

pub returns-clause-result_bound : goal.returns-clause-result_bound
returns-clause-result_bound c = rw c.mul_div_up.ensures (ceil_most _ 1000000 (2 ^ 48) (omega arith) (omega (arith, product c.before)))
