-- 35: E, rounded and exact.
use mathlib.Core.Bool.{Bool, true, false, not, ◌&&◌}
use mathlib.Core.List.{List, [], ◌∷◌}
use Prim.Native.Nat.{ℕ, ◌+◌, ◌*◌, ◌≤◌, ◌<◌}
use lib.ListN.{length}
use native.Mathlib.Omega.{arith}
use native.Mathlib.Nat.{mul-lt-mul_of_pos_right, mul-le-mul_left, lt-div-mul-add}
use Rattle.whole.specs.Pick.{pick}
use Rattle.whole.specs.Frac.{Frac, ◌≤f◌, ◌<f◌, ◌≈f◌, whole, ◌+f◌, floor}
use Rattle.whole.proofs.Frac.{refl≈, same, sym≈, trans≈, trans≤, trans≤<, trans<≤, +_same}
use Rattle.whole.proofs.Pick.{by_cases}
use Rattle.whole.specs.Round.{Below}
use Rattle.whole.proofs.Round.{near_self, loosen, restate, by_floor, below_sum}
use Rattle.ship.specs.declared.House.{House}
use Rattle.ship.specs.Vessel.{full_breadth}
use Rattle.ship.specs.Good.{GoodHouses}
use Rattle.houses.specs.Length.{total}
use Rattle.houses.specs.Effective.{exact_effective, exact_effective_length, those, is_ordinary, is_raised, is_set_in, effective_length}
use Rattle.houses.proofs.Counted.{covered_most}
use Rattle.houses.proofs.Limits.{exact_by_covered}

-- the three kinds together are the list
all_kinds : (l : ℕ) (hs : List House)
    → exact_effective_length l (those is_ordinary hs) +f exact_effective_length l (those is_raised hs) +f exact_effective_length l (those is_set_in hs)
    ≈f exact_effective_length l hs
unfolding exact_effective_length those pick
all_kinds l [] = omega arith
all_kinds l (h ∷ hs) = trans≈ (go (full_breadth h) h.quarterdeck) (+_same (refl≈ (exact_effective l h)) (all_kinds l hs))
  where
    go : (f q : Bool)
        → exact_effective_length l (pick (f && not q) (h ∷ those is_ordinary hs) (those is_ordinary hs))
        +f exact_effective_length l (pick (f && q) (h ∷ those is_raised hs) (those is_raised hs))
        +f exact_effective_length l (pick (not f) (h ∷ those is_set_in hs) (those is_set_in hs))
        ≈f exact_effective l h
        +f (exact_effective_length l (those is_ordinary hs) +f exact_effective_length l (those is_raised hs) +f exact_effective_length l (those is_set_in hs))
    go true true = omega arith
    go true false = omega arith
    go false q = omega arith

-- houses rounded one by one cost at most 1 um each
one_by_one : (l : ℕ) (hs : List House) → Below (total (λ h. floor (exact_effective l h)) hs) (exact_effective_length l hs) (whole (length hs))
unfolding total exact_effective_length
one_by_one l [] = near_self (whole 0) (whole 0)
one_by_one l (h ∷ hs) = loosen (omega arith) (below_sum (by_floor (exact_effective l h)) (one_by_one l hs))

-- a fraction rounded down is less than 1 below itself; and so with two, and with a third that is at most so far below
floor_over : (x : Frac) → x <f whole (floor x + 1)
floor_over x = omega (arith, lt-div-mul-add {a = x.top} x.pos)

over_sum : {a b : ℕ} {x y : Frac} → x <f whole a → y ≤f whole b → x +f y <f whole (a + b)
over_sum {a} {b} {x} {y} h k =
    let m : x.top < a * x.bot = omega (arith, h.lt) in
    let n : y.top ≤ b * y.bot = omega (arith, k.le) in
    record { lt = omega (arith, mul-lt-mul_of_pos_right m y.pos, mul-le-mul_left x.bot n) }

-- ---- E is never above the exact E. Each of the two sums is less than 1 um below its own, and a house with breadths at most 1 um
pub effective_length_below : (l : ℕ) (hs : List House) → Below (effective_length l hs) (exact_effective_length l hs) (whole (2 + length (those is_set_in hs)))
unfolding effective_length
effective_length_below l hs =
    restate (refl≈ (whole (effective_length l hs))) (all_kinds l hs)
    (loosen (omega arith)
    (below_sum (below_sum (by_floor (exact_effective_length l (those is_ordinary hs))) (by_floor (exact_effective_length l (those is_raised hs)))) (one_by_one l (those is_set_in hs))))

pub effective_under : (l : ℕ) (hs : List House) → whole (effective_length l hs) ≤f exact_effective_length l hs
effective_under l hs = (effective_length_below l hs).above

pub effective_over : (l : ℕ) (hs : List House) → exact_effective_length l hs <f whole (effective_length l hs + (2 + length (those is_set_in hs)))
unfolding effective_length
effective_over l hs =
    let x = exact_effective_length l (those is_ordinary hs) in
    let y = exact_effective_length l (those is_raised hs) in
    let z = exact_effective_length l (those is_set_in hs) in
    let t = total (λ h. floor (exact_effective l h)) (those is_set_in hs) in
    let n = length (those is_set_in hs) in
    let near : z ≤f whole (t + n) = trans≤ (one_by_one l (those is_set_in hs)).close (omega arith) in
    let two : y ≤f whole (floor y + 1) = omega (arith, floor_over y) in
    let sum : x +f y +f z <f whole (floor x + 1 + (floor y + 1) + (t + n)) = over_sum (over_sum (floor_over x) two) near in
    trans≤< (same (sym≈ (all_kinds l hs))) (trans<≤ sum (omega arith))

-- no more of a list pass a test than are in it
pub those_most : (test : House → Bool) (hs : List House) → length (those test hs) ≤ length hs
unfolding those
those_most test [] = omega arith
those_most test (h ∷ hs) =
    by_cases (λ (gs : List House). length gs ≤ length (h ∷ hs)) (test h) _ _ (λ t. omega (arith, those_most test hs)) (λ t. omega (arith, those_most test hs))

-- ---- E is at most 1000 L
pub effective_length_most : (l : ℕ) (hs : List House) → GoodHouses l hs → effective_length l hs ≤ 1000 * l
effective_length_most l hs g =
    omega (arith, trans≤ (effective_under l hs) (exact_by_covered l hs (λ k p. (g.each k p).breadth_most)), covered_most l hs g)
