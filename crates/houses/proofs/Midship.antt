-- 38: the cover is at most 1, since houses in order do not share a place amidships.
use mathlib.Core.Bool.{Bool, true, false, ◌&&◌}
use mathlib.Core.List.{List, [], ◌∷◌}
use Prim.Native.Nat.{ℕ, ◌+◌, ◌*◌, ◌-◌, ◌≤◌, min}
use native.Mathlib.Omega.{arith}
use native.Mathlib.Decide.{dec_lt}
use borrow.Author.Tests.{le-leb, lt-leb}
use lib.Dec.{leb}
use Rattle.whole.specs.Pick.{pick}
use Rattle.whole.proofs.Pick.{by_cases}
use Rattle.ship.specs.declared.House.{House}
use Rattle.ship.specs.Good.{GoodHouses}
use Rattle.houses.specs.Length.{total}
use Rattle.houses.specs.Cover.{amidships, is_amidships, reach_of, reach}
use Rattle.houses.proofs.Order.{InOrder, in_order}

-- what houses from the station m on can reach
left : ℕ → ℕ → ℕ
left l m = pick (leb (10 * m) (amidships l)) (min (amidships l - 10 * m) l + l) 0

left_falls : (l a b : ℕ) → a ≤ b → left l b ≤ left l a
unfolding left pick
left_falls l a b h =
    elim (dec_lt (amidships l) (10 * b)) [
      | yes t ↦ rw (lt-leb (10 * b) (amidships l) t) (omega arith)
      | no t ↦ rw (le-leb (10 * b) (amidships l) (omega arith), le-leb (10 * a) (amidships l) (omega arith)) (omega arith)
    ]

-- a house's reach, with what is left before its fore end, was left before its aft end; in tenths of a mm
meets : (l mid x y : ℕ) → x ≤ y
    → pick (leb x mid && leb mid y) (min (y - mid) l + min (mid - x) l) 0 + pick (leb y mid) (min (mid - y) l + l) 0 ≤ pick (leb x mid) (min (mid - x) l + l) 0
unfolding pick
meets l mid x y p =
    elim (dec_lt mid x) [
      | yes t ↦ rw (lt-leb x mid t, lt-leb y mid (omega arith)) (omega arith)
      | no t ↦ elim (dec_lt mid y) [
        | yes u ↦ rw (le-leb x mid (omega arith), le-leb mid y (omega arith), lt-leb y mid u) (omega arith)
        | no u ↦ elim (dec_lt y mid) [
          | yes v ↦ rw (le-leb x mid (omega arith), lt-leb mid y v, le-leb y mid (omega arith)) (omega arith)
          | no v ↦ rw (le-leb x mid (omega arith), le-leb mid y (omega arith), le-leb y mid (omega arith)) (omega arith)
        ]
      ]
    ]

left_after : (l : ℕ) (h : House) → h.aft.0 ≤ h.fore.0 → reach_of l h + left l h.fore.0 ≤ left l h.aft.0
unfolding reach_of is_amidships left pick
left_after l h p = go h.enclosed (left_falls l h.aft.0 h.fore.0 p)
  where
    go : (e : Bool) → left l h.fore.0 ≤ left l h.aft.0
        → pick (e && leb (10 * h.aft.0) (amidships l) && leb (amidships l) (10 * h.fore.0))
        (min (10 * h.fore.0 - amidships l) l + min (amidships l - 10 * h.aft.0) l) 0 + left l h.fore.0 ≤ left l h.aft.0
    go true q = meets l (amidships l) (10 * h.aft.0) (10 * h.fore.0) (omega arith)
    go false q = omega arith

reach_from : (l m : ℕ) (hs : List House) → InOrder m hs → total (reach_of l) hs ≤ left l m
unfolding total
reach_from l m [] o = omega arith
reach_from l m (h ∷ hs) o =
    omega (arith, reach_from l h.fore.0 hs o.2, left_after l h o.1, left_falls l m h.aft.0 o.0)

pub reach_most : (l : ℕ) (hs : List House) → GoodHouses l hs → reach l hs ≤ 2 * l
unfolding reach left
reach_most l hs g =
    let p : left l 0 ≤ 2 * l = by_cases (λ (n : ℕ). n ≤ 2 * l) (leb (10 * 0) (amidships l)) _ _ (λ t. omega arith) (λ t. omega arith) in
    omega (arith, reach_from l 0 hs (in_order g))
