-- A ship that was read is near: its stations and ordinates fit their bits, and so a signed number.
use Prim.Native.Nat.{ℕ, zero, suc, ◌+◌, ◌-◌, ◌<◌}
use mathlib.Core.List.{List, [], ◌∷◌, ◌++◌}
use native.Mathlib.Omega.{arith}
use lib.Dec.{eqb}
use lib.ListN.{drop, take, replicate}
use Rattle.whole.proofs.Pick.{by_cases}
use Rattle.units.specs.declared.Ordinate.{Ordinate}
use Rattle.units.specs.Datum.{lift, sheer_at}
use Rattle.ship.specs.declared.House.{House}
use Rattle.ship.specs.declared.Ship.{Ship}
use Rattle.ship.specs.Vessel.{no_house, no_ship, house_at}
use Rattle.ship.specs.Refusals.{first}
use Rattle.ship.specs.Checks.{ship_lines}
use Rattle.record.specs.Layout.{head_in, house_size, house_in, houses_in, places_in, ship_in}
use Rattle.record.specs.Reading.{frame_lines, reading_in}
use Rattle.flat.specs.Flat.{Near, NearHouses, NearSheer}

abbrev All : List House → Type 0
All [] = Unit {0}
All (h ∷ hs) = Near h × All hs

near_in : (version : ℕ) (t : List ℕ) → Near (house_in version t)
unfolding house_in
near_in version t = record { aft = omega arith; fore = omega arith }

all_in : (version n : ℕ) (t : List ℕ) → All (houses_in version n t)
all_in version zero t = tt
all_in version (suc n) t = (near_in version (take (house_size version) t), all_in version n (drop (house_size version) t))

all_none : (n : ℕ) → All (replicate n no_house)
all_none zero = tt
all_none (suc n) = (record { aft = omega arith; fore = omega arith }, all_none n)

all_both : (hs gs : List House) → All hs → All gs → All (hs ++ gs)
all_both [] gs a b = b
all_both (h ∷ hs) gs a b = (a.0, all_both hs gs a.1 b)

each : (hs : List House) → All hs → (k : ℕ) → Near (house_at hs k)
each [] a k = record { aft = omega arith; fore = omega arith }
each (h ∷ hs) a zero = a.0
each (h ∷ hs) a (suc k) = each hs a.1 k

abbrev Low : List Ordinate → Type 0
Low [] = Unit {0}
Low (o ∷ os) = (o.0 < lift + lift) × Low os

low : (os : List Ordinate) → Low os → (k : ℕ) → sheer_at os k < lift + lift
low [] a k = omega arith
low (o ∷ os) a zero = a.0
low (o ∷ os) a (suc k) = low os a.1 k

-- no station lies further from the datum than its bits reach, and no ordinate from its lift
near_ship : (s : List ℕ) → NearSheer (ship_in s).sheer × NearHouses (ship_in s).houses
unfolding ship_in head_in places_in
near_ship s =
    let v = (head_in s).version in
    let n = (ship_in s).n in
    (record { each = low (ship_in s).sheer (omega arith) }, record { each = each (places_in v n s) (all_both (houses_in v n (drop 27 s)) (replicate (8 - n) no_house) (all_in v n (drop 27 s)) (all_none (8 - n))) })

pub near_read : (s : List ℕ) → NearSheer (reading_in s).ship.sheer × NearHouses (reading_in s).ship.houses
unfolding reading_in
near_read s =
    by_cases (λ (x : Ship). NearSheer x.sheer × NearHouses x.houses) (eqb (first (frame_lines s ++ ship_lines (ship_in s))).number 0) (ship_in s) no_ship
    (λ t. near_ship s)
    (λ t. (record { each = low no_ship.sheer (omega arith) }, record { each = each no_ship.houses (all_none 8) }))
