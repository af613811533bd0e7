-- One of two by a test: the shape of every rule that has cases. It is one definition for numbers, fractions and records, so that its laws are proved once.
use Rattle.std.specs.Prelude.{Bool, true, false}

unfoldable pub pick : {A : Type 0} → Bool → A → A → A
pick true x y = x
pick false x y = y
