-- The order of the timber marks, for every depth and every LS, the zeros too; LS against the ordinary S; and that the zeros tell where none is given.
use mathlib.Core.Path.{◌≡◌, refl, sym, subst, ap}
use mathlib.Core.Bool.{Bool, true, false, not}
use mathlib.Core.Logic.{◌⊎◌, inl, inr}
use Prim.Native.Nat.{ℕ, ◌+◌, ◌-◌, ◌/◌, ◌≤◌, ◌<◌, max}
use native.Mathlib.Omega.{arith}
use lib.Dec.{T}
use lib.IntN.{ℤ, pos, ◌+ℤ◌, ◌-ℤ◌}
use lib.Signed.{le_z, ◌≤ℤ◌, ≤ℤ_refl}
use Rattle.whole.specs.Divide.{ceil_div}
use Rattle.whole.specs.Pick.{pick}
use Rattle.whole.proofs.Divide.{ceil_ge, ceil_most}
use Rattle.whole.proofs.Integers.{parts_le, parts_lt, minus_above, minus_under, lower, higher}
use Rattle.whole.proofs.Pick.{pick_true, pick_false, by_cases}
use Rattle.mark.specs.Summer.{summer_mark}
use Rattle.mark.proofs.Bound.{mark_quotient}
use Rattle.timber.specs.declared.TimberMarks.{TimberMarks}
use Rattle.timber.specs.Timber.{level_of, timber_summer, timber_draught, timber_winter, timber_from, timber_given, no_timber, timber_marks}

-- what holds of the marks of every draught, and of zeros, holds of the marks
either : (P : TimberMarks → Type 0) (reduced : Bool) (W WNA D : ℕ) (LS : ℤ)
    → P (timber_from reduced W WNA LS (timber_draught D LS)) → P no_timber → P (timber_marks reduced W WNA D LS)
unfolding timber_marks
either P reduced W WNA D LS h z = by_cases P (timber_given D LS) _ _ (λ t. h) (λ t. z)

-- ---- the order of the six
-- LT ≤ LS
pub tropical_first : (reduced : Bool) (W WNA D : ℕ) (LS : ℤ) → let m = timber_marks reduced W WNA D LS in m.lt ≤ℤ m.ls
unfolding timber_from no_timber
tropical_first reduced W WNA D LS =
    either (λ (m : TimberMarks). m.lt ≤ℤ m.ls) reduced W WNA D LS (lower LS (timber_draught D LS / 48)) (≤ℤ_refl (pos 0))

-- LF is LT, and so at most LS
fresh_tropical : (reduced : Bool) (W WNA D : ℕ) (LS : ℤ) → let m = timber_marks reduced W WNA D LS in m.lf ≡ m.lt
unfolding timber_from no_timber
fresh_tropical reduced W WNA D LS = either (λ (m : TimberMarks). m.lf ≡ m.lt) reduced W WNA D LS refl refl

pub fresh_first : (reduced : Bool) (W WNA D : ℕ) (LS : ℤ) → let m = timber_marks reduced W WNA D LS in m.lf ≤ℤ m.ls
fresh_first reduced W WNA D LS =
    let m = timber_marks reduced W WNA D LS in
    subst (λ (z : ℤ). z ≤ℤ m.ls) (sym (fresh_tropical reduced W WNA D LS)) (tropical_first reduced W WNA D LS)

-- LTF ≤ LT
pub fresh_lowest : (reduced : Bool) (W WNA D : ℕ) (LS : ℤ) → let m = timber_marks reduced W WNA D LS in m.ltf ≤ℤ m.lt
unfolding timber_from no_timber
fresh_lowest reduced W WNA D LS =
    let k = timber_draught D LS / 48 in
    either (λ (m : TimberMarks). m.ltf ≤ℤ m.lt) reduced W WNA D LS (lower (LS -ℤ pos k) k) (≤ℤ_refl (pos 0))

-- LS ≤ LW, but on a reduced ship whose W is below LS, with which 45(7) sets LW level
abbrev pub AboveOrLevel : Bool → ℕ → ℤ → ℤ → Type 0
AboveOrLevel reduced W LS LW = (LS ≤ℤ LW) ⊎ ((reduced ≡ true) × (LW ≡ pos W) × (le_z LS (pos W) ≡ false))

-- W itself is one or the other
w_or_level : (W : ℕ) (LS : ℤ) → AboveOrLevel true W LS (pos W)
w_or_level W LS = go (le_z LS (pos W)) refl
  where
    go : (b : Bool) → le_z LS (pos W) ≡ b → AboveOrLevel true W LS (pos W)
    go true e = inl (record { le = subst T (sym e) tt })
    go false e = inr (refl, refl, e)

above_or_level : (reduced : Bool) (W : ℕ) (LS : ℤ) (d : ℕ) → AboveOrLevel reduced W LS (timber_winter reduced W LS d)
unfolding timber_winter
above_or_level false W LS d = inl (subst (λ (z : ℤ). LS ≤ℤ z) (sym (pick_false false _ _ refl)) (higher LS (ceil_div d 36)))
above_or_level true W LS d =
    let n = LS +ℤ pos (ceil_div d 36) in
    subst (AboveOrLevel true W LS) (sym (pick_true true (pick (le_z n (pos W)) n (pos W)) n refl))
    (by_cases (AboveOrLevel true W LS) (le_z n (pos W)) n (pos W) (λ t. inl (higher LS (ceil_div d 36))) (λ t. w_or_level W LS))

pub winter_or_level : (reduced : Bool) (W WNA D : ℕ) (LS : ℤ) → let m = timber_marks reduced W WNA D LS in AboveOrLevel reduced W m.ls m.lw
unfolding timber_from no_timber
winter_or_level reduced W WNA D LS =
    either (λ (m : TimberMarks). AboveOrLevel reduced W m.ls m.lw) reduced W WNA D LS (above_or_level reduced W LS (timber_draught D LS)) (inl (≤ℤ_refl (pos 0)))

-- ---- LS and S: where the timber percentages take no less, LS is not above S, whatever the floor and the bow
no_higher : (floor a t u b : ℕ) → t ≤ u → ceil_div (a - u) 1000 ≤ summer_mark floor a t b
no_higher floor a t u b h =
    let c = max (a - t) b in
    rw (← mark_quotient floor a t b)
    (ceil_most (a - u) 1000 (max floor (ceil_div c 1000)) (omega arith) (omega (arith, ceil_ge c 1000 (omega arith))))

pub timber_no_higher : (floor a t u b : ℕ) → t ≤ u → timber_summer a u ≤ℤ pos (summer_mark floor a t b)
unfolding level_of
timber_no_higher floor a t u b h =
    let p = ceil_div (a - u) 1000 in
    let q = (u - a) / 1000 in
    let k : le_z (pos p -ℤ pos q) (pos (summer_mark floor a t b)) ≡ true =
    parts_le (pos p -ℤ pos q) (pos (summer_mark floor a t b)) (rw (minus_above p q, minus_under p q) (omega (arith, no_higher floor a t u b h))) in
    record { le = subst T (sym k) tt }

-- so that where S is below D, LS is too, and the timber marks are given
below_depth : (D p q : ℕ) → p < D + q → timber_given D (pos p -ℤ pos q) ≡ true
unfolding timber_given
below_depth D p q h = ap not (parts_lt (pos D) (pos p -ℤ pos q) (rw (minus_above p q, minus_under p q) (omega arith)))

pub timber_below : (floor a t u b D : ℕ) → t ≤ u → summer_mark floor a t b < D → timber_given D (timber_summer a u) ≡ true
unfolding level_of
timber_below floor a t u b D h k = below_depth D (ceil_div (a - u) 1000) ((u - a) / 1000) (omega (arith, no_higher floor a t u b h))

-- ---- the six are all zero where none is given, and only there: an LWNA is not 0, as no ship's WNA is
pub none_given : (reduced : Bool) (W WNA D : ℕ) (LS : ℤ) → timber_given D LS ≡ false → timber_marks reduced W WNA D LS ≡ no_timber
unfolding timber_marks
none_given reduced W WNA D LS e = pick_false (timber_given D LS) _ _ e

pub given_not_zero : (reduced : Bool) (W WNA D : ℕ) (LS : ℤ) → timber_given D LS ≡ true → 1 ≤ WNA → 1 ≤ (timber_marks reduced W WNA D LS).lwna
unfolding timber_marks timber_from
given_not_zero reduced W WNA D LS e h =
    rw (ap (λ (m : TimberMarks). m.lwna) (pick_true (timber_given D LS) (timber_from reduced W WNA LS (timber_draught D LS)) no_timber e)) h

pub zeros_tell : (reduced : Bool) (W WNA D : ℕ) (LS : ℤ) → 1 ≤ WNA → timber_marks reduced W WNA D LS ≡ no_timber → timber_given D LS ≡ false
unfolding no_timber
zeros_tell reduced W WNA D LS h e = go (timber_given D LS) refl (ap (λ (m : TimberMarks). m.lwna) e)
  where
    go : (b : Bool) → timber_given D LS ≡ b → (timber_marks reduced W WNA D LS).lwna ≡ 0 → b ≡ false
    go false t z = refl
    go true t z = absurd (omega (arith, given_not_zero reduced W WNA D LS t h))
