use Rattle.std.proofs.Common.{◌≡◌, ◌*◌, ◌/◌, refl, arith}
use Rattle.whole.specs.Frac.{floor}
use Rattle.whole.proofs.Round.{floor_of}
use Rattle.bow.specs.Bow.{exact_b1, b2_below, lower}
use Rattle.bow.proofs.Words.{below_quotient}
use Rattle.bow.proofs.Measures.down.Goals as goal

pub returns-clause-result_value : goal.returns-clause-result_value
unfolding lower
returns-clause-result_value c =
    let s = c.args.self in
    let b1 : c.cubic-b1.result / 5000000000 ≡ floor (exact_b1 s.l.mm) = floor_of _ 5000000000 {x = exact_b1 s.l.mm} (omega arith) c.cubic-b1.ensures.frac in
    let b2 : c.saturating_sub.result / (170 * s.m.0) ≡ b2_below s.l.mm s.m.0 s.cb s.cwf =
    rw c.saturating_sub.ensures (below_quotient s.l.mm s.m.0 s.cb s.cwf _ _ (omega arith) c.rise.ensures.frac c.fall.ensures.frac) in
    rw (b1, b2) refl
