-- What is left to search gives the same first field as the whole.
use Rattle.std.proofs.Common.{◌≡◌, ◌-◌}
use Rattle.ship.specs.Checks.{outside, field_out, first_from}
use Rattle.field_checks.proofs.field_out.Given as goal

abbrev pub invariant-loop-k : goal.invariant-loop-k
invariant-loop-k l = field_out l.fn.fields ≡ first_from (outside l.fn.fields) l.k (13 - l.k)
