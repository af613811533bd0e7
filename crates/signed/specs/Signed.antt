-- Signed fractions, for values that may be below zero: plus less minus, over a bottom that is known to be positive.
use Rattle.std.specs.Prelude.{ℕ, suc, pred, ◌+◌, ◌*◌, ◌<◌, ◌≡◌, Bool, leb, ltb}
use Rattle.std.proofs.Common.{arith, mul-pos}
use Rattle.whole.specs.Pick.{pick}
use Rattle.whole.specs.Frac.{Frac, whole}

infix 50 ◌≈s◌ ◌≤s?◌ ◌<s?◌
infixl 65 ◌+s◌ ◌-s◌
infixl 70 ◌*s◌ ◌÷s◌
pub record Signed : Type 0 where
  pub plus : ℕ
  pub minus : ℕ
  pub bot : ℕ
  pub pos : 0 < bot

-- equal in value, however written: by cross products, each minus on the side where it adds
pub record ◌≈s◌ (x y : Signed) : Type 0 where
  pub eq : x.plus * y.bot + y.minus * x.bot ≡ y.plus * x.bot + x.minus * y.bot

-- the order, and the strict one, as tests
abbrev pub ◌≤s?◌ : Signed → Signed → Bool
x ≤s? y = leb (x.plus * y.bot + y.minus * x.bot) (y.plus * x.bot + x.minus * y.bot)

abbrev pub ◌<s?◌ : Signed → Signed → Bool
x <s? y = ltb (x.plus * y.bot + y.minus * x.bot) (y.plus * x.bot + x.minus * y.bot)

-- ---- operations
-- a fraction that is not below zero
abbrev pub plain : Frac → Signed
plain x = record { plus = x.top; minus = 0; bot = x.bot; pos = x.pos }

abbrev pub nil : Signed
nil = plain (whole 0)

abbrev pub ◌+s◌ : Signed → Signed → Signed
x +s y = record { plus = x.plus * y.bot + y.plus * x.bot; minus = x.minus * y.bot + y.minus * x.bot; bot = x.bot * y.bot; pos = mul-pos x.pos y.pos }

-- never stops
abbrev pub ◌-s◌ : Signed → Signed → Signed
x -s y = record { plus = x.plus * y.bot + y.minus * x.bot; minus = x.minus * y.bot + y.plus * x.bot; bot = x.bot * y.bot; pos = mul-pos x.pos y.pos }

-- minus times minus is plus
abbrev pub ◌*s◌ : Signed → Signed → Signed
x *s y = record {
  plus = x.plus * y.plus + x.minus * y.minus;
  minus = x.plus * y.minus + x.minus * y.plus;
  bot = x.bot * y.bot;
  pos = mul-pos x.pos y.pos;
}

-- over a fraction above zero
abbrev pub ◌÷s◌ : Signed → Frac → Signed
x ÷s y = record { plus = x.plus * y.bot; minus = x.minus * y.bot; bot = suc (pred (x.bot * y.top)); pos = omega arith }

-- the greater and the lesser
unfoldable pub maxs : Signed → Signed → Signed
maxs x y = pick (x ≤s? y) y x

unfoldable pub mins : Signed → Signed → Signed
mins x y = pick (x ≤s? y) x y
