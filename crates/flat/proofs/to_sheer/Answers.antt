use Rattle.std.proofs.Common.{◌≡◌, ◌∙◌, get_or, pos, rules, arith}
use Rattle.units.specs.declared.Ordinate.{Ordinate}
use Rattle.flat.specs.Flat.{ordinate_from}
use Rattle.flat.proofs.Filled.{filled_none, filled_more, filled_all}
use Rattle.flat.proofs.to_sheer.Invariants.{level}
use Rattle.flat.proofs.to_sheer.Goals as goal

pub loop-k-init : goal.loop-k-init
loop-k-init c = filled_none ordinate_from level c.args.mm 6 (search rules)

pub loop-k-preserved : goal.loop-k-preserved
loop-k-preserved c =
    let o : c.ordinate_of_mm.result ≡ ordinate_from (get_or c.args.mm c.loop-k.k (pos 0)) = search rules in
    rw (o, c.loop-k.invariant) (filled_more ordinate_from level c.args.mm c.loop-k.k (pos 0) (search rules))

pub returns : goal.returns
returns c = c.loop-k.invariant ∙ filled_all ordinate_from level c.args.mm c.loop-k.k (search rules)
