-- Fractions of naturals, in which the exact values are written: a top and a bottom that is above zero. They are compared by their cross products. The orders
-- are records, so that a law finds its fractions by itself; `omega` reads and makes them by their fields.
use Rattle.std.specs.Prelude.{◌≡◌, Bool, ℕ, suc, pred, ◌+◌, ◌*◌, ◌-◌, ◌/◌, ◌≤◌, ◌<◌, min, max, ltb}
use Rattle.std.proofs.Common.{arith, mul-pos}
use Rattle.whole.specs.Divide.{ceil_div}

infix 50 ◌≤f◌ ◌<f◌ ◌≈f◌ ◌<f?◌
infixl 65 ◌+f◌ ◌-f◌
infixl 70 ◌*f◌ ◌÷f◌
pub record Frac : Type 0 where
  pub top : ℕ
  pub bot : ℕ
  pub pos : 0 < bot

pub record ◌≤f◌ (x y : Frac) : Type 0 where
  pub le : x.top * y.bot ≤ y.top * x.bot

pub record ◌<f◌ (x y : Frac) : Type 0 where
  pub lt : x.top * y.bot < y.top * x.bot

-- equal in value, however written
pub record ◌≈f◌ (x y : Frac) : Type 0 where
  pub eq : x.top * y.bot ≡ y.top * x.bot

-- the order as a test
abbrev pub ◌<f?◌ : Frac → Frac → Bool
x <f? y = ltb (x.top * y.bot) (y.top * x.bot)

-- ---- operations
abbrev pub whole : ℕ → Frac
whole n = record { top = n; bot = 1; pos = omega arith }

-- n over d, for a d of at least 1: `suc (pred d)`, which is d, needs no proof and so stands in a contract
abbrev pub frac : ℕ → ℕ → Frac
frac n d = record { top = n; bot = suc (pred d); pos = omega arith }

abbrev pub ◌+f◌ : Frac → Frac → Frac
x +f y = record { top = x.top * y.bot + y.top * x.bot; bot = x.bot * y.bot; pos = mul-pos x.pos y.pos }

abbrev pub ◌*f◌ : Frac → Frac → Frac
x *f y = record { top = x.top * y.top; bot = x.bot * y.bot; pos = mul-pos x.pos y.pos }

-- stops at zero, as the difference of naturals does
abbrev pub ◌-f◌ : Frac → Frac → Frac
x -f y = record { top = x.top * y.bot - y.top * x.bot; bot = x.bot * y.bot; pos = mul-pos x.pos y.pos }

-- for a y above zero
abbrev pub ◌÷f◌ : Frac → Frac → Frac
x ÷f y = frac (x.top * y.bot) (x.bot * y.top)

abbrev pub maxf : Frac → Frac → Frac
maxf x y = record { top = max (x.top * y.bot) (y.top * x.bot); bot = x.bot * y.bot; pos = mul-pos x.pos y.pos }

abbrev pub minf : Frac → Frac → Frac
minf x y = record { top = min (x.top * y.bot) (y.top * x.bot); bot = x.bot * y.bot; pos = mul-pos x.pos y.pos }

-- the whole numbers next above and below
abbrev pub ceil : Frac → ℕ
ceil x = ceil_div x.top x.bot

abbrev pub floor : Frac → ℕ
floor x = x.top / x.bot
