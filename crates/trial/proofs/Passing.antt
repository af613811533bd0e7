-- The poop is a good house.
use Prim.Native.Nat.{ℕ, ◌*◌, ◌≤◌, ◌<◌}
use mathlib.Core.Bool.{true≢false}
use mathlib.Core.Path.{sym}
use native.Mathlib.Omega.{arith}
use Rattle.ship.specs.Good.{GoodHouse}
use Rattle.trial.specs.Poop.{poop_house}

pub poop_good : (l height k : ℕ) → 0 < k → 0 < l → 100 * k ≤ l → 1 ≤ height → height ≤ 8191 → GoodHouse l (poop_house height k)
unfolding poop_house
poop_good l height k p q h a b =
    record {
      ends = omega arith;
      ahead = omega arith;
      abaft = omega arith;
      aft_most = omega arith;
      fore_most = omega arith;
      height_least = a;
      height_most = b;
      breadth_most = omega arith;
      breadth_least = omega arith;
      beam_most = omega arith;
      quarterdeck = λ e. absurd (true≢false (sym e));
    }
