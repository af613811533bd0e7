-- The number of the bytes passed.
use Rattle.std.proofs.Common.{◌≡◌, take}
use Rattle.bits.specs.Fields.{number}
use Rattle.bits.proofs.word.Given as goal

abbrev pub invariant-loop-b : goal.invariant-loop-b
invariant-loop-b l = l.acc ≡ number (take l.b-index l.s)
