-- 34: S equals the number of whole millimetres of L that some enclosed house covers, each counted once; so it is at most L.
use mathlib.Core.Path.{◌≡◌, refl, ap₂, ◌∙◌}
use mathlib.Core.Bool.{Bool, true, false, ◌&&◌, and-eq-true_iff}
use mathlib.Core.List.{List, [], ◌∷◌}
use Prim.Native.Nat.{ℕ, ◌+◌, ◌-◌, ◌≤◌, ◌<◌, min, max}
use native.Mathlib.Omega.{arith}
use borrow.Author.Tests.{lt-leb, leb-true}
use lib.Dec.{leb}
use Rattle.whole.specs.Pick.{pick}
use Rattle.whole.specs.Count.{count}
use Rattle.whole.proofs.Count.{count_none, count_most, count_or, count_between}
use Rattle.units.specs.Datum.{station_of}
use Rattle.ship.specs.declared.House.{House}
use Rattle.ship.specs.Vessel.{stands_over}
use Rattle.ship.specs.Good.{GoodHouses}
use Rattle.houses.specs.Length.{part_of, total, covered_length}
use Rattle.houses.specs.Covered.{inside, covered_at}
use Rattle.houses.proofs.Order.{InOrder, in_order}

-- ---- of one house
count_house : (h : House) (n : ℕ) → count (inside h) n ≡ part_of n h
unfolding part_of pick inside stands_over
count_house h n = go h.enclosed
  where
    go : (e : Bool) → count (λ j. e && stands_over h (station_of j)) n ≡ pick e (min h.fore.0 (station_of n) - max h.aft.0 (station_of 0)) 0
    go true = count_between (station_of 0) h.aft.0 h.fore.0 n
    go false = count_none n

-- ---- of houses in order
-- what lies in a house lies before its fore end
inside_below : (h : House) (j : ℕ) → inside h j ≡ true → station_of j < h.fore.0
unfolding inside stands_over
inside_below h j e =
    let p = ((and-eq-true_iff h.enclosed (stands_over h (station_of j))).0 e).1 in
    omega (arith, leb-true (station_of j + 1) h.fore.0 ((and-eq-true_iff (leb h.aft.0 (station_of j)) (leb (station_of j + 1) h.fore.0)).0 p).1)

outside : (h : House) (j : ℕ) → station_of j < h.aft.0 → inside h j ≡ false
unfolding inside stands_over
outside h j p = rw (lt-leb h.aft.0 (station_of j) p) (go h.enclosed)
  where
    go : (e : Bool) → (e && false) ≡ false
    go true = refl
    go false = refl

-- houses in order from m on cover nothing before m
none_yet : (hs : List House) (m j : ℕ) → station_of j < m → InOrder m hs → covered_at hs j ≡ false
unfolding covered_at
none_yet [] m j p o = refl
none_yet (h ∷ hs) m j p o = rw (outside h j (omega arith)) (none_yet hs h.fore.0 j (omega arith) o.2)

counted : (m n : ℕ) (hs : List House) → InOrder m hs → count (covered_at hs) n ≡ total (part_of n) hs
unfolding covered_at total
counted m n [] o = count_none n
counted m n (h ∷ hs) o =
    count_or (inside h) (covered_at hs) n (λ j e. none_yet hs h.fore.0 j (inside_below h j e) o.2)
    ∙ ap₂ ◌+◌ (count_house h n) (counted h.fore.0 n hs o.2)

pub covers : (l : ℕ) (hs : List House) → GoodHouses l hs → count (covered_at hs) l ≡ covered_length l hs
unfolding covered_length
covers l hs g = counted 0 l hs (in_order g)

pub covered_most : (l : ℕ) (hs : List House) → GoodHouses l hs → covered_length l hs ≤ l
covered_most l hs g = rw (← covers l hs g) (count_most (covered_at hs) l)
