-- The quotient of two naturals rounded up. Rounded down it is `◌/◌` itself.
use Rattle.std.specs.Prelude.{ℕ, ◌+◌, ◌-◌, ◌/◌}

-- a / b rounded up, as code computes it
unfoldable pub ceil_div : ℕ → ℕ → ℕ
ceil_div a b = (a + (b - 1)) / b
