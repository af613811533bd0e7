-- Signed numbers as two naturals: what stands above zero and what lies below, each a difference that stops at zero, so that one of the two is always 0.
-- `signed_down` says that nothing is lost by it, `one_side` that one of the two costs nothing.
use Prim.Native.Nat.{ℕ, ◌+◌, ◌*◌, ◌-◌, ◌/◌, ◌≤◌, ◌<◌}
use mathlib.Core.Path.{◌≡◌}
use mathlib.Core.Logic.{◌⊎◌, inl, inr}
use native.Mathlib.Omega.{arith}
use native.Mathlib.Decide.{dec_lt}
use native.Mathlib.Nat.{mul-pos, mul_comm, div-mul-le_self, lt-div-mul-add}
use Rattle.whole.specs.Divide.{ceil_div}
use Rattle.whole.proofs.Divide.{ceil_ge, ceil_lt, ceil_nought}
use Rattle.whole.specs.Frac.{Frac, ◌≤f◌, ◌<f◌, ◌+f◌, ◌-f◌, whole, ceil, floor}
use Rattle.whole.specs.Round.{Within, Below}
use Rattle.whole.proofs.Round.{nought}

-- The signed p - q over d, rounded down, has the part (p - q) / d above zero and the part ceil_div (q - p) d below it:
-- (above - below) d ≤ p - q < (above - below + 1) d, each term on the side where it is not negative
pub signed_floor : (p q d : ℕ) → 0 < d
    → ((p - q) / d * d + q ≤ p + ceil_div (q - p) d * d) × (p + ceil_div (q - p) d * d < (p - q) / d * d + q + d)
signed_floor p q d h =
    elim (dec_lt p q) [
      | yes t ↦ omega (arith, ceil_ge (q - p) d h, ceil_lt (q - p) d h, div-mul-le_self (p - q) d)
      | no t ↦ (let e : q - p ≡ 0 = omega arith in rw (e, ceil_nought d h) (omega (arith, div-mul-le_self (p - q) d, lt-div-mul-add {a = p - q} h)))
    ]

-- the same of fractions: the signed x - y, rounded down
pub signed_down : (x y : Frac)
    → (whole (floor (x -f y)) +f y ≤f x +f whole (ceil (y -f x))) × (x +f whole (ceil (y -f x)) <f whole (floor (x -f y)) +f y +f whole 1)
signed_down x y =
    let t = signed_floor (x.top * y.bot) (y.top * x.bot) (x.bot * y.bot) (mul-pos x.pos y.pos) in
    rw (mul_comm y.bot x.bot) (omega (arith, t.0), omega (arith, t.1))

-- Of two differences one is 0
pub one_nought : (x y : Frac) → ((x -f y).top ≡ 0) ⊎ ((y -f x).top ≡ 0)
one_nought x y =
    elim (dec_lt (x.top * y.bot) (y.top * x.bot)) [
      | yes t ↦ inl (omega arith)
      | no t ↦ inr (omega arith)
    ]

-- what c for x on the one side and d for y on the other cost together: at most s, however it is split
pub record Cost (c : ℕ) (x : Frac) (d : ℕ) (y s : Frac) : Type 0 where
  pub up : Frac
  pub down : Frac
  pub plus : Within c x up
  pub minus : Below d y down
  pub both : up +f down ≤f s

-- where of two parts one is 0, rounded and exact, only the other's rounding costs
pub one_side : {c d : ℕ} {x y s : Frac} → Within c x s → Below d y s → ((c ≡ 0) × (x.top ≡ 0)) ⊎ ((d ≡ 0) × (y.top ≡ 0)) → Cost c x d y s
one_side {c} {d} {x} {y} {s} v w z =
    elim z [
      | inl p ↦ record { up = whole 0; down = s; plus = nought x (whole c) p.1 p.0; minus = w; both = omega arith }
      | inr p ↦ record { up = s; down = whole 0; plus = v; minus = nought (whole d) y p.0 p.1; both = omega arith }
    ]
