-- Laws of specs/Pick.antt.
use mathlib.Core.Path.{◌≡◌, refl, sym, ◌∙◌}
use mathlib.Core.Bool.{Bool, true, false}
use Prim.Native.Nat.{ℕ, ◌≤◌}
use native.Mathlib.Omega.{arith}
use native.Mathlib.Decide.{dec_lt}
use borrow.Author.Tests.{le-leb, lt-leb}
use lib.Dec.{leb}
use Rattle.whole.specs.Pick.{pick}

pub pick_true : {A : Type 0} (b : Bool) (x y : A) → b ≡ true → pick b x y ≡ x
unfolding pick
pick_true b x y e = rw e refl

pub pick_false : {A : Type 0} (b : Bool) (x y : A) → b ≡ false → pick b x y ≡ y
unfolding pick
pick_false b x y e = rw e refl

-- a fact of each arm, with its test, is one of the choice
pub by_cases : {A : Type 0} (P : A → Type 0) (b : Bool) (x y : A) → (b ≡ true → P x) → (b ≡ false → P y) → P (pick b x y)
unfolding pick
by_cases P true x y h g = h refl
by_cases P false x y h g = g refl

-- and a relation of each arm's two is one of the two choices
pub by_both : {A B : Type 0} (R : A → B → Type 0) (b : Bool) (x y : A) (z w : B) → (b ≡ true → R x z) → (b ≡ false → R y w) → R (pick b x y) (pick b z w)
unfolding pick
by_both R true x y z w h g = h refl
by_both R false x y z w h g = g refl

-- two tests that follow from each other are one; for `ltb a b`, which is `leb (suc a) b`, with `suc a` and `suc c`
pub same_test : (a b c d : ℕ) → (a ≤ b → c ≤ d) → (c ≤ d → a ≤ b) → leb a b ≡ leb c d
same_test a b c d f g =
    elim (dec_lt b a) [
      | yes t ↦ (let n : ¬ (c ≤ d) = λ h. omega (arith, g h) in lt-leb a b t ∙ sym (lt-leb c d (omega arith)))
      | no t ↦ (let h : a ≤ b = omega arith in le-leb a b h ∙ sym (le-leb c d (f h)))
    ]

-- a function of a choice is the choice of its values
pub pick_of : {A B : Type 0} (f : A → B) (b : Bool) (x y : A) → pick b (f x) (f y) ≡ f (pick b x y)
unfolding pick
pick_of f true x y = refl
pick_of f false x y = refl
