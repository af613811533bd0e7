-- The places passed are filled, the others as they were at first.
use Rattle.std.proofs.Common.{◌≡◌}
use Rattle.ship.specs.Vessel.{no_house}
use Rattle.flat.specs.Flat.{house_from}
use Rattle.flat.proofs.Filled.{filled}
use Rattle.flat.proofs.to_houses.Given as goal

abbrev pub invariant-loop-k : goal.invariant-loop-k
invariant-loop-k l = l.houses ≡ filled house_from no_house l.k l.fn.flat
