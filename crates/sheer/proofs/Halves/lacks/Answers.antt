use Rattle.std.proofs.Common.{arith, ◌+◌, ◌*◌}
use Rattle.whole.specs.Frac.{frac, ◌≈f◌, ◌+f◌}
use Rattle.whole.proofs.Frac.{trans≈, +_same}
use Rattle.sheer.specs.Sheer.{lacks, standard_after, standard_forward}
use Rattle.sheer.proofs.Words.{lacks_same, after_same, forward_same}
use Rattle.sheer.proofs.Halves.lacks.Goals as goal

pub returns-clause-frac : goal.returns-clause-frac
returns-clause-frac c =
    let s = c.args.self in
    let L = s.l.mm in
    let a : frac c.saturating_sub.result 240 ≈f lacks s.after (standard_after L) =
    rw c.saturating_sub.ensures (lacks_same s.after (667 * (L + 30000)) (standard_after L) (after_same L)) in
    let f : frac c.saturating_sub-2.result 240 ≈f lacks s.forward (standard_forward L) =
    rw c.saturating_sub-2.ensures (lacks_same s.forward (1334 * (L + 30000)) (standard_forward L) (forward_same L)) in
    trans≈ {y = frac c.saturating_sub.result 240 +f frac c.saturating_sub-2.result 240} (omega arith) (+_same a f)
