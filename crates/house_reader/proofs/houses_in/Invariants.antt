-- The places passed hold the record's houses, the others nothing; the spare bits so far are those of the houses passed.
use Rattle.std.proofs.Common.{◌≡◌, ◌-◌, ◌*◌, ◌≤◌, ◌++◌, drop, replicate}
use Rattle.ship.specs.Vessel.{no_house}
use Rattle.record.specs.Layout.{houses_in}
use Rattle.record.specs.Reading.{spares_in}
use Rattle.house_reader.proofs.houses_in.Given as goal

abbrev pub invariant-loop-k : goal.invariant-loop-k
invariant-loop-k l = record {
  places : l.place-items ≡ houses_in l.version l.k (drop 27 l.s) ++ replicate (l.n - l.k) no_house;
  spare : l.spare ≡ spares_in l.version l.s l.k;
  few : l.spare ≤ 128 * l.k;
}
