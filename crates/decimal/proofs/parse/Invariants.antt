-- The number of the digits passed, with the digits that are left, is the whole's.
use Rattle.std.proofs.Common.{◌≡◌, drop}
use Rattle.decimal.specs.Decimal.{number_from, parsed}
use Rattle.decimal.proofs.parse.Given as goal

abbrev pub invariant-loop-b : goal.invariant-loop-b
invariant-loop-b l = number_from l.v (drop l.b-index l.s) ≡ parsed l.s
