-- A flat ship that is accepted, as a ship of the steps and flat again, is the flat ship with its flags at 0 or 1 and its places beyond n at zero; the zero ship is all zeros.
use Prim.Native.Nat.{ℕ, zero, suc, ◌+◌, ◌-◌, ◌<◌}
use mathlib.Core.List.{List, [], ◌∷◌, ◌++◌, map, map-append}
use mathlib.Core.Path.{◌≡◌, refl, ap, ap₂, ◌∙◌}
use native.Mathlib.Omega.{arith}
use lib.IntN.{ℤ}
use lib.ListN.{length, take, replicate}
use Rattle.units.specs.declared.Ordinate.{Ordinate}
use Rattle.units.specs.Datum.{lift, sheer_at, Lifted}
use Rattle.ship.specs.Vessel.{no_house, no_ship, house_at, clean}
use Rattle.ship.specs.Good.{GoodHouse, Good}
use Rattle.flat.specs.declared.FlatHouse.{FlatHouse}
use Rattle.flat.specs.declared.FlatShip.{FlatShip}
use Rattle.flat.specs.Flat.{sheer_mm, house_of, ship_of, ordinate_from, house_from, ship_from, flag_of, flat_zero_house, flat_clean_house, flat_clean, flat_zero}
use Rattle.flat.proofs.Kept.{house_kept, ordinate_kept}

map_replicate : {A B : Type 0} (f : A → B) (n : ℕ) (a : A) → map f (replicate n a) ≡ replicate n (f a)
map_replicate f zero a = refl
map_replicate f (suc n) a = ap (λ l. f a ∷ l) (map_replicate f n a)

-- ---- sheer
each_low : (o : List Ordinate) → Lifted o → (k : ℕ) → k < 6 → sheer_at o k < lift + lift
each_low o l zero h = l.ap
each_low o l (suc zero) h = l.after_sixth
each_low o l (suc (suc zero)) h = l.after_third
each_low o l (suc (suc (suc zero))) h = l.forward_third
each_low o l (suc (suc (suc (suc zero)))) h = l.forward_sixth
each_low o l (suc (suc (suc (suc (suc zero))))) h = l.fp
each_low o l (suc (suc (suc (suc (suc (suc k)))))) h = absurd (omega arith)

sheer_kept : (mm : List ℤ) → ((k : ℕ) → k < length mm → sheer_at (map ordinate_from mm) k < lift + lift) → map sheer_mm (map ordinate_from mm) ≡ mm
sheer_kept [] h = refl
sheer_kept (m ∷ ms) h = ap₂ (λ (a : ℤ) (l : List ℤ). a ∷ l) (ordinate_kept m (h 0 (omega arith))) (sheer_kept ms (λ k q. h (suc k) (omega arith)))

-- ---- houses
house_cleaned : (l : ℕ) (h : FlatHouse) → GoodHouse l (house_from h) → house_of (house_from h) ≡ flat_clean_house h
unfolding house_of house_from
house_cleaned l h g =
    let e = house_kept l h g in
    λ i. record { enclosed = flag_of h.enclosed; quarterdeck = flag_of h.quarterdeck; aft = e.0 i; fore = e.1 i; height = h.height; breadth = h.breadth; beam = h.beam }

houses_cleaned : (l n : ℕ) (hs : List FlatHouse) → let gs = take n (map house_from hs) in
    ((k : ℕ) → k < length gs → GoodHouse l (house_at gs k)) → map house_of gs ≡ map flat_clean_house (take n hs)
houses_cleaned l zero hs g = refl
houses_cleaned l (suc n) [] g = refl
houses_cleaned l (suc n) (h ∷ hs) g =
    ap₂ (λ (a : FlatHouse) (b : List FlatHouse). a ∷ b) (house_cleaned l h (g 0 (omega arith))) (houses_cleaned l n hs (λ k q. g (suc k) (omega arith)))

no_house_zero : house_of no_house ≡ flat_zero_house
unfolding house_of
no_house_zero = refl

pub ship_cleaned : (f : FlatShip) → length f.sheer ≡ 6 → Good (ship_from f) → ship_of (clean (ship_from f)) ≡ flat_clean f
unfolding ship_of ship_from flat_clean
ship_cleaned f six g =
    let o = sheer_kept f.sheer (λ k q. each_low (map ordinate_from f.sheer) g.sheer k (omega arith)) in
    let gs = take f.n (map house_from f.houses) in
    let m = 8 - f.n in
    let hs : map house_of (gs ++ replicate m no_house) ≡ map flat_clean_house (take f.n f.houses) ++ replicate m flat_zero_house =
    map-append house_of gs (replicate m no_house)
    ∙ ap₂ (λ (a b : List FlatHouse). a ++ b) (houses_cleaned f.length f.n f.houses g.houses.each) (map_replicate house_of m no_house ∙ ap (replicate m) no_house_zero) in
    λ i. record {
      kind = f.kind;
      n = f.n;
      timber = flag_of f.timber;
      length = f.length;
      depth = f.depth;
      moulded = f.moulded;
      block = f.block;
      waterplane = f.waterplane;
      sheer = o i;
      displacement = f.displacement;
      immersion = f.immersion;
      houses = hs i;
    }

-- ---- the zero ship, as a C caller sees it
pub zero_flat : ship_of no_ship ≡ flat_zero
unfolding ship_of house_of flat_zero
zero_flat = refl
