-- The trial by what stays the same answers as the whole calculation does on the ship with the poop.
use Prim.Native.Nat.{ℕ, zero, suc, ◌-◌, ◌*◌, ◌≤◌, ◌<◌}
use mathlib.Core.Bool.{Bool, true, false, ◌&&◌}
use mathlib.Core.List.{List, ◌∷◌, ◌++◌}
use mathlib.Core.Path.{◌≡◌, refl, sym, ap, ◌∙◌, subst}
use native.Mathlib.Omega.{arith}
use native.Mathlib.Decide.{dec_lt}
use borrow.Author.Tests.{le-leb, lt-leb, eqb-true, ne_eqb, eq-eqb}
use lib.Dec.{eqb, leb}
use lib.ListN.{length, take, length-take}
use lib.Seq.{take-take, get_or-take}
use native.Mathlib.Numerals.{add-one}
use Rattle.whole.specs.Pick.{pick}
use Rattle.whole.proofs.Pick.{pick_true, pick_false}
use Rattle.units.specs.Datum.{station_of}
use Rattle.ship.specs.declared.House.{House}
use Rattle.ship.specs.declared.Ship.{Ship}
use Rattle.ship.specs.Vessel.{houses_of, house_at}
use Rattle.ship.specs.Refusals.{Paper, Line, accepted, first}
use Rattle.ship.specs.Checks.{house_lines}
use Rattle.ship.specs.Good.{GoodHouses}
use Rattle.ship.proofs.Lines.{all_pass, all_pass_split, first_skip, first_passed}
use Rattle.ship.proofs.Accepted.{good_houses}
use Rattle.ship.proofs.Passing.{lines_pass, good_with}
use Rattle.effective.specs.Unrounded.{lesser_of, ratio_of}
use Rattle.deck.specs.Deck.{deck_of, deck_with, FairDeck}
use Rattle.deck.proofs.Gathered.{deck_with_lem, fair_deck}
use Rattle.mark.specs.Others.{mark_lines}
use Rattle.steps.specs.Steps.{Sound, summer_of, particulars_of}
use Rattle.hull.specs.Parts.{hull_of, FairHull}
use Rattle.summer.specs.Parts.{summer_on}
use Rattle.summer.proofs.Parts.{summer_parts}
use Rattle.steps.proofs.Particulars.{fair_particulars}
use Rattle.trial.specs.declared.Standing.{Standing}
use Rattle.trial.specs.Poop.{poop_house, with_first, with_poop, within, marks_within, fits_at}
use Rattle.trial.specs.Standing.{room_of, standing_of, deck_for, marked_on, fits_on, Fair}
use Rattle.trial.proofs.Passing.{poop_good}

-- 12 and 13 on a ship
abbrev lines : Ship → List Line
lines y = mark_lines (particulars_of y) (summer_of y)

-- 9 to 11, 18 and 23 pass: the marks decide
houses_passed : (y : Ship) (wish : ℕ) → first (house_lines y.length.0 (houses_of y)) ≡ accepted → within (lines y) (summer_of y) wish ≡ marks_within y wish
unfolding marks_within within
houses_passed y wish e =
    let ts = house_lines y.length.0 (houses_of y) in
    let p = all_pass ts (omega arith) (ap (λ (v : Paper). v.number) e) in
    ap (λ (v : Paper). eqb v.number 0 && leb (summer_of y) wish) (sym (first_skip ts (lines y) p))

-- ---- one ship, and one height of poop
module _ (x : Ship) (s : Sound x) (few : x.n < 8) (eight : length x.houses ≡ 8) (height wish : ℕ) (least : 1 ≤ height) (most : height ≤ 8191) where
  -- no poop
  fits_none : fits_on (standing_of x height wish) 0 ≡ fits_at x height wish 0
  unfolding fits_on standing_of deck_for marked_on fits_at with_poop hull_of pick
  fits_none =
      rw (le-leb 0 (room_of x) (omega arith), summer_parts x s.good.houses) (houses_passed x wish (lines_pass x.length.0 (houses_of x) s.good.houses))

  -- the first house, and the room before it
  first_house : 0 < x.n → house_at (houses_of x) 0 ≡ house_at x.houses 0
  first_house p = get_or-take x.n x.houses 0 _ p

  room_before : 0 < x.n → room_of x ≡ (house_at x.houses 0).aft.0 - station_of 0
  unfolding room_of
  room_before p = pick_false (eqb x.n 0) _ _ (ne_eqb x.n 0 (λ z. omega arith))

  room_whole : x.n ≡ 0 → room_of x ≡ x.length.0
  unfolding room_of
  room_whole e = pick_true (eqb x.n 0) _ _ (eq-eqb x.n 0 e)

  -- a poop of k dm before the others
  module _ (k : ℕ) (some : 0 < k) (inside : 100 * k ≤ x.length.0) where
    houses_with : houses_of (with_first (poop_house height k) x) ≡ poop_house height k ∷ houses_of x
    unfolding with_first
    houses_with =
        let h = poop_house height k in
        ap (λ (m : ℕ). take m (h ∷ take 7 x.houses)) (add-one x.n)
        ∙ ap (λ (hs : List House). h ∷ hs) (take-take x.n 7 x.houses (omega arith))

    -- where it does not reach the first house, the list is good
    good_list : 100 * k ≤ room_of x → GoodHouses x.length.0 (poop_house height k ∷ houses_of x)
    unfolding poop_house
    good_list h =
        let g = s.good in
        good_with x.length.0 (poop_house height k) (houses_of x)
        (poop_good x.length.0 height k some (omega (arith, g.length_least)) inside least most) g.houses
        (λ p. let q : 0 < x.n = omega (arith, length-take x.n x.houses) in
        rw (first_house q) (omega (arith, room_before q)))

    -- where it does, the list is refused
    lapped : room_of x < 100 * k → ¬ (GoodHouses x.length.0 (poop_house height k ∷ houses_of x))
    unfolding poop_house
    lapped h g =
        elim (dec_lt 0 x.n) [
          | yes q ↦ (let o = rw (first_house q) at (g.order 0 (omega (arith, length-take x.n x.houses, eight))) in omega (arith, room_before q))
          | no q ↦ omega (arith, room_whole (omega arith))
        ]

    summer_with : 100 * k ≤ room_of x → summer_on (hull_of x) (deck_for (standing_of x height wish) k) ≡ summer_of (with_first (poop_house height k) x)
    unfolding deck_for standing_of with_first hull_of pick
    summer_with h =
        let y = with_first (poop_house height k) x in
        let e : deck_with x.length.0 (poop_house height k) (deck_of x.length.0 (houses_of x)) ≡ deck_of x.length.0 (houses_of y) =
        deck_with_lem x.length.0 (poop_house height k) (houses_of x) ∙ ap (deck_of x.length.0) (sym houses_with) in
        rw (ne_eqb k 0 (λ z. omega arith)) (ap (summer_on (hull_of x)) e ∙ summer_parts y (subst (GoodHouses x.length.0) (sym houses_with) (good_list h)))

    refused_with : room_of x < 100 * k → marks_within (with_first (poop_house height k) x) wish ≡ false
    unfolding marks_within within with_first
    refused_with h = go (eqb (first (house_lines y.length.0 (houses_of y) ++ lines y)).number 0) refl
      where
        y : Ship
        y = with_first (poop_house height k) x

        go : (b : Bool) → eqb (first (house_lines y.length.0 (houses_of y) ++ lines y)).number 0 ≡ b → (b && leb (summer_of y) wish) ≡ false
        go false e = refl
        go true e =
            let ts = house_lines y.length.0 (houses_of y) in
            let p = all_pass_split ts (lines y) (all_pass (ts ++ lines y) (omega arith) (eqb-true _ 0 e)) in
            let g = good_houses y.length.0 (houses_of y) (ap (λ (v : Paper). v.number) (first_passed ts p.0)) in
            absurd (lapped h (subst (GoodHouses x.length.0) houses_with g))

    fits_some : fits_on (standing_of x height wish) k ≡ fits_at x height wish k
    unfolding fits_on fits_at with_poop marked_on standing_of hull_of particulars_of with_first pick
    fits_some =
        let y = with_first (poop_house height k) x in
        let z = ne_eqb k 0 (λ e. omega arith) in
        elim (dec_lt (room_of x) (100 * k)) [
          | yes t ↦ rw (z, lt-leb (100 * k) (room_of x) t) (sym (refused_with t))
          | no t ↦
              (let g = subst (GoodHouses x.length.0) (sym houses_with) (good_list (omega arith)) in
              rw (z, le-leb (100 * k) (room_of x) (omega arith), summer_with (omega arith)) (houses_passed y wish (lines_pass x.length.0 (houses_of y) g)))
        ]

    -- the deck of a list that is good leaves room
    fair_with : 100 * k ≤ room_of x → FairDeck x.length.0 (deck_for (standing_of x height wish) k)
    unfolding deck_for standing_of hull_of pick
    fair_with h =
        rw (ne_eqb k 0 (λ e. omega arith), deck_with_lem x.length.0 (poop_house height k) (houses_of x))
        (fair_deck x.length.0 (poop_house height k ∷ houses_of x) s.good.length_most (good_list h))

  -- ---- every length
  pub fits_same : (k : ℕ) → 100 * k ≤ x.length.0 → fits_on (standing_of x height wish) k ≡ fits_at x height wish k
  fits_same zero h = fits_none
  fits_same (suc k) h = fits_some (suc k) (omega arith) h

  fair_for : (k : ℕ) → 100 * k ≤ x.length.0 → 100 * k ≤ room_of x → FairDeck x.length.0 (deck_for (standing_of x height wish) k)
  unfolding deck_for standing_of pick
  fair_for zero h r = fair_deck x.length.0 (houses_of x) s.good.length_most s.good.houses
  fair_for (suc k) h r = fair_with (suc k) (omega arith) h r

  -- the poop's ratio of heights is the same for every length
  same_ratio : (k : ℕ) → ratio_of x.length.0 (poop_house height 0) ≡ ratio_of x.length.0 (poop_house height k)
  unfolding lesser_of poop_house
  same_ratio k = refl

  -- so what is worked once is within the bounds
  pub fair_standing : FairHull (hull_of x) → Fair (standing_of x height wish)
  unfolding standing_of hull_of
  fair_standing h =
      let p = fair_particulars x s in
      record {
        hull = h;
        deck = fair_deck x.length.0 (houses_of x) s.good.length_most s.good.houses;
        ratio = same_ratio;
        floor = p.0;
        depth = p.1;
        displacement = p.2;
        height_least = least;
        height_most = most;
        poop = fair_for;
      }

  -- ---- the same of anything equal to it, as what the code worked
  module _ (q : Standing) (e : q ≡ standing_of x height wish) where
    pub length_stands : q.hull.length.0 ≡ x.length.0
    unfolding standing_of hull_of
    length_stands = ap (λ (p : Standing). p.hull.length.0) e
