-- The sign of a whole number, and its two parts.
use Rattle.std.specs.Prelude.{ℕ, suc, Bool, true, false, ℤ, pos, negsuc}

abbrev pub negative : ℤ → Bool
negative (pos n) = false
negative (negsuc n) = true

-- what of it stands above zero, and what lies below: one of the two is 0
abbrev pub above : ℤ → ℕ
above (pos n) = n
above (negsuc n) = 0

abbrev pub under : ℤ → ℕ
under (pos n) = 0
under (negsuc n) = suc n
