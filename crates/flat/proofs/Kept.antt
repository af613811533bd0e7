-- Nothing is lost between a ship of the steps and a flat one: a ship comes back whole, and of a flat ship that is accepted every station and ordinate is kept.
use Prim.Native.Nat.{ℕ, suc, ◌+◌, ◌-◌, ◌≤◌, ◌<◌}
use mathlib.Core.Bool.{Bool, true, false, true≢false, not, ◌&&◌}
use mathlib.Core.List.{List, [], ◌∷◌, map}
use mathlib.Core.Path.{◌≡◌, refl, sym, ap, ap₂, ◌∙◌}
use native.Mathlib.Omega.{arith}
use native.Mathlib.Decide.{dec_lt}
use borrow.Author.Tests.{lt-ltb, le-ltb, ltb-false}
use lib.Dec.{eqb, ltb}
use lib.IntN.{ℤ, pos, negsuc, nat_abs, ◌-ℤ◌}
use Rattle.whole.specs.Pick.{pick}
use Rattle.whole.specs.Sign.{negative}
use Rattle.whole.proofs.Pick.{pick_false}
use Rattle.units.specs.declared.Ordinate.{Ordinate}
use Rattle.units.specs.Datum.{datum, lift, counted_from, mm_of, station_at, sheer_of, ordinate_at}
use Rattle.record.specs.Layout.{bit}
use Rattle.ship.specs.declared.House.{House}
use Rattle.ship.specs.declared.Ship.{Ship}
use Rattle.ship.specs.Good.{GoodHouse}
use Rattle.flat.specs.declared.FlatHouse.{FlatHouse}
use Rattle.flat.specs.Flat.{sheer_mm, house_of, ship_of, ordinate_from, house_from, ship_from}

-- ---- there and back
-- a number counted from a zero, which lies above the number 0
from_back : (z s : ℕ) → counted_from (suc z) (pos s -ℤ pos (suc z)) ≡ s
unfolding counted_from pick
from_back z s = elim (dec_lt s (suc z)) [ yes t ↦ rw (lt-ltb s (suc z) t) (omega arith) | no t ↦ rw (le-ltb s (suc z) (omega arith)) (omega arith) ]

ordinate_back : (s : ℕ) → ordinate_at (sheer_of s) ≡ s
unfolding ordinate_at
ordinate_back s = pick_false _ _ _ (in_bits s) ∙ from_back (lift - 1) s
  where
    in_bits : (s : ℕ) → (negative (sheer_of s) && ltb lift (nat_abs (sheer_of s))) ≡ false
    in_bits s =
        elim (dec_lt s lift) [
          | yes t ↦ rw (lt-ltb s lift t, le-ltb lift (suc (lift - suc s)) (omega arith)) refl
          | no t ↦ rw (le-ltb s lift (omega arith)) refl
        ]

flag_back : (b : Bool) → not (eqb (bit b) 0) ≡ b
flag_back true = refl
flag_back false = refl

house_back : (h : House) → house_from (house_of h) ≡ h
unfolding house_from house_of
house_back h =
    λ i. record {
      enclosed = flag_back h.enclosed i;
      quarterdeck = flag_back h.quarterdeck i;
      aft = record { 0 = from_back (datum - 1) h.aft.0 i };
      fore = record { 0 = from_back (datum - 1) h.fore.0 i };
      height = h.height;
      breadth = h.breadth;
      beam = h.beam;
    }

sheer_back : (s : List Ordinate) → map ordinate_from (map sheer_mm s) ≡ s
sheer_back [] = refl
sheer_back (o ∷ os) = λ i. record { 0 = ordinate_back o.0 i } ∷ sheer_back os i

houses_back : (hs : List House) → map house_from (map house_of hs) ≡ hs
houses_back [] = refl
houses_back (h ∷ hs) = ap₂ (λ (g : House) (gs : List House). g ∷ gs) (house_back h) (houses_back hs)

pub ship_back : (x : Ship) → ship_from (ship_of x) ≡ x
unfolding ship_from ship_of
ship_back x =
    λ i. record {
      kind = x.kind;
      n = x.n;
      timber = flag_back x.timber i;
      length = x.length;
      depth = x.depth;
      moulded = x.moulded;
      block = x.block;
      waterplane = x.waterplane;
      sheer = sheer_back x.sheer i;
      displacement = x.displacement;
      immersion = x.immersion;
      houses = houses_back x.houses i;
    }

-- ---- what is accepted was meant
from_kept : (z : ℕ) (mm : ℤ) → (negative mm ≡ true → nat_abs mm ≤ suc z) → pos (counted_from (suc z) mm) -ℤ pos (suc z) ≡ mm
unfolding counted_from pick
from_kept z (pos n) h = rw (le-ltb (suc z + n) (suc z) (omega arith)) (ap pos (omega arith))
from_kept z (negsuc n) h = let k : suc n ≤ suc z = h refl in rw (lt-ltb (suc z - suc n) (suc z) (omega arith)) (ap negsuc (omega arith))

-- a station above the datum
near_datum : (mm : ℤ) → 0 < station_at mm → negative mm ≡ true → nat_abs mm ≤ datum
unfolding counted_from pick
near_datum (pos n) h e = absurd (true≢false (sym e))
near_datum (negsuc n) h e = omega arith

station_kept : (mm : ℤ) → 0 < station_at mm → mm_of (station_at mm) ≡ mm
station_kept mm h = from_kept (datum - 1) mm (near_datum mm h)

pub house_kept : (l : ℕ) (h : FlatHouse) → GoodHouse l (house_from h) → (mm_of (house_from h).aft.0 ≡ h.aft) × (mm_of (house_from h).fore.0 ≡ h.fore)
unfolding house_from
house_kept l h g = (station_kept h.aft (omega (arith, g.aft_most)), station_kept h.fore (omega (arith, g.ahead)))

pub ordinate_kept : (mm : ℤ) → ordinate_at mm < lift + lift → sheer_of (ordinate_at mm) ≡ mm
unfolding ordinate_at pick
ordinate_kept mm h = go (negative mm && ltb lift (nat_abs mm)) refl h
  where
    go : (b : Bool) → (negative mm && ltb lift (nat_abs mm)) ≡ b → pick b (lift + lift) (counted_from lift mm) < lift + lift
        → sheer_of (pick b (lift + lift) (counted_from lift mm)) ≡ mm
    go true e h = absurd (omega arith)
    go false e h = from_kept (lift - 1) mm (λ n. ltb-false lift (nat_abs mm) (ap (λ (c : Bool). c && ltb lift (nat_abs mm)) (sym n) ∙ e))
