-- Regulation 30, full ships. Cb is in 1/10000.
use Rattle.std.specs.Prelude.{ℕ, ◌+◌, min, ltb}
use Rattle.whole.specs.Pick.{pick}
use Rattle.whole.specs.Frac.{Frac, ◌*f◌, whole, frac, ceil}

-- Cb above 1.0 counts as 1.0, here and in 39: each takes a Cb that counts
abbrev pub counted : ℕ → ℕ
counted cb = min cb 10000

-- if Cb > 0.68, the sum so far times (Cb + 0.68) / 1.36
unfoldable pub exact_fullness : ℕ → Frac → Frac
exact_fullness cb sum = pick (ltb 6800 cb) (sum *f frac (cb + 6800) 13600) sum

-- up
unfoldable pub fullness : ℕ → ℕ → ℕ
fullness cb sum = ceil (exact_fullness cb (whole sum))
