-- A list's deck: house by house, within its limits, and empty where the list is.
use Prim.Native.Nat.{ℕ, ◌≤◌}
use mathlib.Core.Bool.{false}
use mathlib.Core.List.{List, [], ◌∷◌, ◌++◌}
use mathlib.Core.Path.{◌≡◌, refl}
use native.Mathlib.Omega.{arith}
use native.Mathlib.Nat.{zero-mul, zero-min}
use Rattle.whole.proofs.Pick.{pick_of}
use Rattle.ship.specs.declared.House.{House}
use Rattle.ship.specs.Vessel.{no_house}
use Rattle.ship.specs.Good.{GoodHouses}
use Rattle.houses.specs.Length.{part_of, total, covered_length}
use Rattle.houses.specs.Forecastle.{house_that, is_forecastle, forecastle_of}
use Rattle.houses.specs.Cover.{reach_of, reach}
use Rattle.houses.specs.Amidships.{covers_amidships, amidships_of}
use Rattle.houses.proofs.Order.{tail}
use Rattle.houses.proofs.Counted.{covered_most}
use Rattle.houses.proofs.Limits.{part_most, no_part, no_limited}
use Rattle.houses.proofs.Rounded.{effective_length_most}
use Rattle.houses.proofs.Foremost.{of_that}
use Rattle.houses.proofs.Midship.{reach_most}
use Rattle.effective.specs.Unrounded.{low_height, lesser_of, ratio_of, FairBreadths, top_of, bottom_of}
use Rattle.effective.proofs.Unrounded.{fair_ratio, bottom_full, fair_unrounded}
use Rattle.summed.proofs.Sums.{summed_with_lem, effective_summed, summed_over, fair_of, good_fair, fair_summed}
use Rattle.deck.specs.Deck.{as_forecastle, deck_of, deck_with, FairDeck}

-- a house set before the others
pub deck_with_lem : (l : ℕ) (h : House) (hs : List House) → deck_with l h (deck_of l hs) ≡ deck_of l (h ∷ hs)
unfolding deck_with deck_of covered_length reach total forecastle_of amidships_of house_that
deck_with_lem l h hs =
    let forecastle = pick_of (as_forecastle l) (is_forecastle l h) h (house_that (is_forecastle l) hs) in
    let amidships = pick_of (ratio_of l) (covers_amidships l h) h (house_that (covers_amidships l) hs) in
    λ i. record {
      s = record { 0 = total (part_of l) (h ∷ hs) };
      effective = summed_with_lem l h hs i;
      reach = total (reach_of l) (h ∷ hs);
      forecastle = forecastle i;
      amidships = amidships i;
    }

-- the forecastle is no broader than the ship
pub fair_forecastle : (l : ℕ) (hs : List House) → GoodHouses l hs → FairBreadths (forecastle_of l hs)
unfolding forecastle_of
fair_forecastle l hs g = of_that FairBreadths (is_forecastle l) hs (omega arith) (λ k h. fair_of (g.each k h))

pub fair_deck : (l : ℕ) (hs : List House) → l ≤ 365000 → GoodHouses l hs → FairDeck l (deck_of l hs)
unfolding deck_of forecastle_of
fair_deck l hs p g = record {
  s = covered_most l hs g;
  sums = fair_summed l hs p g;
  bottoms = summed_over l hs;
  e = rw (effective_summed l hs (good_fair l hs g)) (effective_length_most l hs g);
  reach = reach_most l hs g;
  forecastle = fair_unrounded l (forecastle_of l hs) (fair_forecastle l hs g) p;
  part = part_most l (house_that (is_forecastle l) hs);
  height = of_that (λ h. h.height.0 ≤ 8191) (is_forecastle l) hs (omega arith) (λ k h. (g.each k h).height_most);
  amidships = fair_ratio l (amidships_of l hs);
}

-- ---- the deck from the last house on
no_top : (l : ℕ) → top_of l no_house ≡ 0
unfolding top_of
no_top l = rw (no_limited l) (omega arith)

no_bottom : (l : ℕ) → bottom_of l no_house ≡ (low_height l false).top
no_bottom l = bottom_full l no_house refl

no_lesser : (l : ℕ) → lesser_of l no_house ≡ 0
unfolding lesser_of
no_lesser l = rw (zero-mul, zero-min)

pub bare : (l : ℕ)
    → as_forecastle l (forecastle_of l [])
    ≡ record { effective = record { top = 0; bottom = (low_height l false).top }; part = record { 0 = 0 }; height = record { 0 = 0 } }
unfolding forecastle_of house_that
bare l = λ i. record {
  effective = record { top = no_top l i; bottom = no_bottom l i };
  part = record { 0 = no_part l i };
  height = record { 0 = 0 };
}

pub bare_amidships : (l : ℕ) → ratio_of l (amidships_of l []) ≡ record { top = 0; bottom = (low_height l false).top }
unfolding amidships_of house_that
bare_amidships l = λ i. record { top = no_lesser l i; bottom = (low_height l false).top }

pub good_from : (l : ℕ) (xs ys : List House) → GoodHouses l (xs ++ ys) → GoodHouses l ys
good_from l [] ys g = g
good_from l (x ∷ xs) ys g = good_from l xs ys (tail g)
