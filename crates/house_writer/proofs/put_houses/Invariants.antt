-- The houses passed stand in their bytes; all other bytes are as they were.
use Rattle.std.proofs.Common.{◌≡◌, ◌+◌, ◌*◌, ◌++◌, take, drop}
use Rattle.record.specs.Layout.{house_size, houses_bytes}
use Rattle.house_writer.proofs.put_houses.Given as goal

abbrev pub invariant-loop-k : goal.invariant-loop-k
invariant-loop-k l = l.buf ≡ (take 27 l.fn.buf ++ houses_bytes l.version (take l.k l.h-items)) ++ drop (27 + house_size l.version * l.k) l.fn.buf
