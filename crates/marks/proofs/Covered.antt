-- 34, for every record that is read: the S of the steps is the number of whole millimetres of L that some enclosed house covers, each counted once.
use Prim.Native.Nat.{ℕ}
use mathlib.Core.List.{List}
use mathlib.Core.Path.{◌≡◌, sym}
use Rattle.ship.specs.declared.Ship.{Ship}
use Rattle.ship.specs.Vessel.{houses_of}
use Rattle.ship.specs.Refusals.{accepted}
use Rattle.record.specs.Reading.{reading_in}
use Rattle.whole.specs.Count.{count}
use Rattle.houses.specs.Covered.{covered_at}
use Rattle.houses.proofs.Counted.{covers}
use Rattle.steps.specs.Steps.{covered_s}
use Rattle.marks.proofs.Sheet.{sound_read}

pub covered_read : (s : List ℕ) (x : Ship) → reading_in s ≡ record { verdict = accepted; ship = x }
    → covered_s x ≡ count (covered_at (houses_of x)) x.length.0
unfolding covered_s
covered_read s x e = sym (covers x.length.0 (houses_of x) (sound_read s x e).good.houses)
