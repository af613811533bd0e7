-- What is added to the freeboard before sheer. What depth takes (31) and what the houses deduct (37) stand apart: the difference can be below zero, and sheer may
-- still add to it. So it is taken only at the end, where a floor stands above zero.
use Rattle.std.specs.Prelude.{Bool, ℕ, ◌+◌}
use Rattle.whole.specs.Pick.{pick}
use Rattle.whole.specs.Frac.{Frac, ◌+f◌, whole}
use Rattle.corrections.specs.Short29.{short_b, exact_short_b}
use Rattle.corrections.specs.Fullness30.{fullness, exact_fullness}
use Rattle.corrections.specs.Depth31.{depth_addition, exact_depth_addition}

-- the table (28) with 29 if the ship is of type B, made fuller by 30
unfoldable pub made_full : ℕ → Bool → ℕ → ℕ → ℕ → ℕ
made_full table type_b l cb e = fullness cb (table + pick type_b (short_b l e) 0)

unfoldable pub exact_made_full : Frac → Bool → ℕ → ℕ → Frac → Frac
exact_made_full table type_b l cb e = exact_fullness cb (table +f pick type_b (exact_short_b l e) (whole 0))

-- and what depth (31) adds
unfoldable pub added : ℕ → Bool → ℕ → ℕ → ℕ → ℕ → ℕ
added table type_b l d cb e = made_full table type_b l cb e + depth_addition l d

unfoldable pub exact_added : Frac → Bool → ℕ → ℕ → ℕ → Frac → Frac
exact_added table type_b l d cb e = exact_made_full table type_b l cb e +f exact_depth_addition l d
