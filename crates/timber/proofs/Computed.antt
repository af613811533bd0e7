-- LW as code works it, in two naturals, is the definition's.
use mathlib.Core.Path.{◌≡◌}
use mathlib.Core.Bool.{true, false}
use Prim.Native.Nat.{ℕ, ◌+◌, min}
use lib.IntN.{pos, ◌-ℤ◌}
use Rattle.whole.specs.Divide.{ceil_div}
use Rattle.whole.specs.Pick.{pick}
use Rattle.whole.proofs.Integers.{minus_more, minus_min}
use Rattle.timber.specs.Timber.{timber_winter}

pub winter_reduced : (w p q d : ℕ) → timber_winter true w (pos p -ℤ pos q) d ≡ pos (min (p + ceil_div d 36) (w + q)) -ℤ pos q
unfolding timber_winter pick
winter_reduced w p q d = rw (minus_more p q (ceil_div d 36)) (minus_min (p + ceil_div d 36) q w)

pub winter_plain : (w p q d : ℕ) → timber_winter false w (pos p -ℤ pos q) d ≡ pos (p + ceil_div d 36) -ℤ pos q
unfolding timber_winter pick
winter_plain w p q d = minus_more p q (ceil_div d 36)
