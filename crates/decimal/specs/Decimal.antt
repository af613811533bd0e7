-- Whole numbers written in decimal digits, for a u64.
use Rattle.std.specs.Prelude.{ℕ, ◌+◌, ◌*◌, ◌-◌, ◌^◌, Bool, ◌||◌, List, [], ◌∷◌, Option, None, Some, leb, ltb}
use Rattle.whole.specs.Pick.{pick}

-- 0 to 9 are the bytes 48 to 57
abbrev pub no_digit : ℕ → Bool
no_digit b = ltb b 48 || ltb 57 b

-- the digits of bs after a number v, whose number stays below 2^64
unfoldable pub number_from : ℕ → List ℕ → Option ℕ
number_from v [] = Some v
number_from v (b ∷ bs) = pick (no_digit b || leb (2 ^ 64) (10 * v + (b - 48))) None (number_from (10 * v + (b - 48)) bs)

-- at least one digit, and nothing else
unfoldable pub parsed : List ℕ → Option ℕ
parsed [] = None
parsed (b ∷ bs) = number_from 0 (b ∷ bs)
