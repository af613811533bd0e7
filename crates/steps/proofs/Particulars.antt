-- What the other marks need of an accepted ship is small enough that nothing worked from it overflows.
use Prim.Native.Nat.{◌≤◌, ◌<◌}
use native.Mathlib.Omega.{arith}
use Rattle.ship.specs.declared.Ship.{Ship}
use Rattle.basis.proofs.Laws.{floor_most}
use Rattle.steps.specs.Steps.{Sound, particulars_of}

pub fair_particulars : (x : Ship) → Sound x → ((particulars_of x).floor ≤ 60000) × ((particulars_of x).depth.0 ≤ 60000) × ((particulars_of x).displacement < 1048576)
unfolding particulars_of
fair_particulars x k =
    (omega (arith, floor_most x.kind x.length.0), k.good.depth_most, k.good.displacement)
