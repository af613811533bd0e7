-- The house that passes a test; the forecastle, of which there is at most one, the last house; and the raised quarterdeck: at most one, the first.
use mathlib.Core.Path.{◌≡◌, refl}
use mathlib.Core.Bool.{Bool, true, false, and-eq-true_iff}
use mathlib.Core.List.{List, [], ◌∷◌}
use Prim.Native.Nat.{ℕ, zero, suc, ◌+◌, ◌≤◌, ◌<◌}
use native.Mathlib.Omega.{arith}
use native.Mathlib.Decide.{dec_lt}
use native.Mathlib.Numerals.{add-one}
use borrow.Author.Tests.{leb-true}
use lib.Dec.{leb}
use lib.ListN.{length}
use Rattle.whole.specs.Pick.{pick}
use Rattle.units.specs.Datum.{station_of}
use Rattle.ship.specs.declared.House.{House}
use Rattle.ship.specs.Vessel.{house_at, no_house}
use Rattle.ship.specs.Good.{GoodHouses}
use Rattle.houses.specs.Forecastle.{house_that, is_forecastle}

-- what holds of every house of the list, and of an empty one, holds of the one that passes
pub of_that : (P : House → Type 0) (test : House → Bool) (hs : List House) → P no_house → ((k : ℕ) → k < length hs → P (house_at hs k)) → P (house_that test hs)
unfolding house_that pick
of_that P test [] n each = n
of_that P test (h ∷ hs) n each = go (test h) (of_that P test hs n (λ k p. each (suc k) (omega arith)))
  where
    go : (b : Bool) → P (house_that test hs) → P (pick b h (house_that test hs))
    go true r = each 0 (omega arith)
    go false r = r

-- the forecastle is the last house, and the raised quarterdeck the first
module _ (l : ℕ) (hs : List House) (g : GoodHouses l hs) where
  at_fore_end : (k : ℕ) → is_forecastle l (house_at hs k) ≡ true → station_of l ≤ (house_at hs k).fore.0
  unfolding is_forecastle
  at_fore_end k e = leb-true (station_of l) (house_at hs k).fore.0 ((and-eq-true_iff (house_at hs k).enclosed (leb (station_of l) (house_at hs k).fore.0)).0 e).1

  pub forecastle_last : (k : ℕ) → k < length hs → is_forecastle l (house_at hs k) ≡ true → k + 1 ≡ length hs
  forecastle_last k h e =
      elim (dec_lt (k + 1) (length hs)) [
        | yes p ↦ absurd (omega (arith, g.order k p, (g.each (k + 1) p).abaft, at_fore_end k e))
        | no p ↦ omega arith
      ]

  -- any other begins where the one before it has ended, forward of AP
  pub quarterdeck_first : (k : ℕ) → k < length hs → (house_at hs k).quarterdeck ≡ true → k ≡ 0
  quarterdeck_first zero h e = refl
  quarterdeck_first (suc k) h e =
      let o = rw (add-one k) at (g.order k (omega arith)) in
      absurd (omega (arith, o, (g.each k (omega arith)).ahead, (g.each (suc k) h).quarterdeck e))
