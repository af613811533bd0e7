use Rattle.std.proofs.Common.{◌∙◌, rules, arith}
use Rattle.ship.specs.Vessel.{no_house}
use Rattle.flat.specs.Flat.{house_from}
use Rattle.flat.proofs.Filled.{filled_none, filled_more, filled_all}
use Rattle.flat.proofs.to_houses.Goals as goal

pub loop-k-init : goal.loop-k-init
loop-k-init c = rw c.no_house-houses.ensures (filled_none house_from no_house c.args.flat 8 (search rules))

pub loop-k-preserved : goal.loop-k-preserved
loop-k-preserved c = rw (c.from.ensures, c.loop-k.invariant) (filled_more house_from no_house c.args.flat c.loop-k.k _ (search rules))

pub returns : goal.returns
returns c = c.loop-k.invariant ∙ filled_all house_from no_house c.args.flat c.loop-k.k (search rules)
