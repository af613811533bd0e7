-- The places passed are filled, the others as they were at first.
use Rattle.std.proofs.Common.{◌≡◌}
use Rattle.units.specs.declared.Ordinate.{Ordinate}
use Rattle.units.specs.Datum.{lift}
use Rattle.flat.specs.Flat.{ordinate_from}
use Rattle.flat.proofs.Filled.{filled}
use Rattle.flat.proofs.to_sheer.Given as goal

abbrev pub level : Ordinate
level = record { 0 = lift }

abbrev pub invariant-loop-k : goal.invariant-loop-k
invariant-loop-k l = l.sheer ≡ filled ordinate_from level l.k l.fn.mm
