-- How far a value is from another. A law for each operation composes it along a formula, and its slack is what the operation adds.
use Rattle.std.specs.Prelude.{ℕ}
use Rattle.whole.specs.Frac.{Frac, ◌≤f◌, ◌+f◌, whole}

-- y is never below x, and at most e above it
pub record Near (x y e : Frac) : Type 0 where
  pub above : x ≤f y
  pub close : y ≤f x +f e

-- the whole number c is what rounding up makes of x, and e the most that it has cost
abbrev pub Within : ℕ → Frac → Frac → Type 0
Within c x e = Near x (whole c) e

-- or what rounding down makes of it, as of a subtrahend
abbrev pub Below : ℕ → Frac → Frac → Type 0
Below c x e = Near (whole c) x e
