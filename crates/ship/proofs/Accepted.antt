-- What an accepted ship shows: each check that it passed, turned back into the fact that it tests.
use Prim.Native.Nat.{ℕ, zero, suc, ◌+◌, ◌-◌, ◌*◌, ◌≤◌, ◌<◌}
use mathlib.Core.Bool.{true, false}
use mathlib.Core.List.{List}
use mathlib.Core.Path.{◌≡◌, ap}
use lib.ListN.{length, get_or}
use borrow.Author.Tests.{ltb-false}
use native.Mathlib.Decide.{dec_lt}
use native.Mathlib.Numerals.{add-one}
use native.Mathlib.Omega.{arith}
use Rattle.std.proofs.lemmas.Bool.{or_parts}
use Rattle.std.proofs.lemmas.Bool.Decides.{nat_tests}
use Rattle.units.specs.Datum.{station_of}
use Rattle.ship.specs.declared.House.{House}
use Rattle.ship.specs.declared.Ship.{Ship}
use Rattle.ship.specs.declared.rule.Rule.{Rule}
use Rattle.ship.specs.declared.rule.Rule.TheVariants.{EndsAndHeight, SetInSides, RaisedQuarterdeck, Follows}
use Rattle.ship.specs.Vessel.{houses_of, house_at}
use Rattle.ship.specs.Refusals.{Paper, first}
use Rattle.ship.specs.Kinds.{kind_b60, kind_b100, kind_covers}
use Rattle.ship.specs.Checks.{least, most, outside, fields_of, field_out, reduced_short, covers_long, one_alone, bad_ends, bad_breadths, bad_quarterdeck, fore_before, breaks, breach_at, first_breach, house_lines, ship_lines}
use Rattle.ship.specs.Good.{Good, GoodHouses}
use Rattle.ship.proofs.First.{none_before}
use Rattle.ship.proofs.Lines.{all_pass, first_passed}

-- 7: a field before the first that is outside is in its range
pub in_range : (fields : List ℕ) (k : ℕ) → k < field_out fields → (get_or least k 0 ≤ get_or fields k 0) × (get_or fields k 0 ≤ get_or most k 0)
unfolding field_out
in_range fields k h =
    let e = none_before (outside fields) 0 13 k (omega arith) h in grind (arith, nat_tests)

-- 9 to 11, 18 and 23: a house before the first breach breaks no rule
pub obeys : (r : Rule) (l : ℕ) (hs : List House) → length hs ≤ first_breach r l hs → (k : ℕ) → k < length hs → breaks r l (fore_before hs k) (house_at hs k) ≡ false
unfolding first_breach breach_at
obeys r l hs h k g = none_before (breach_at r l hs) 0 (length hs) k (omega arith) (omega arith)

module _ (l : ℕ) (h : House) where
  pub ends_of : bad_ends l h ≡ false → (h.aft.0 < h.fore.0) × (station_of 0 < h.fore.0) × (h.aft.0 < station_of l) × (station_of 0 - 20000 ≤ h.aft.0)
      × (h.fore.0 ≤ station_of (l + 20000)) × (1 ≤ h.height.0) × (h.height.0 ≤ 8191)
  ends_of e = grind (arith, nat_tests)

  breadths_of_lem : bad_breadths h ≡ false → (h.breadth.0 ≤ h.beam.0) × (23 * h.beam.0 ≤ 25 * h.breadth.0) × (h.beam.0 ≤ 65535)
  breadths_of_lem e = grind (arith, nat_tests)

  deck_of_lem : bad_quarterdeck l h ≡ false → h.quarterdeck ≡ true → (h.enclosed ≡ true) × (h.aft.0 ≤ station_of 0) × (h.fore.0 < station_of l)
  deck_of_lem e q = grind (arith, nat_tests)

pub good_houses : (l : ℕ) (hs : List House) → (first (house_lines l hs)).number ≡ 0 → GoodHouses l hs
unfolding breaks
good_houses l hs e =
    let p = all_pass (house_lines l hs) (omega arith) e in
    let ends = obeys EndsAndHeight l hs (ltb-false (first_breach EndsAndHeight l hs) (length hs) p.0) in
    let sides = obeys SetInSides l hs (ltb-false (first_breach SetInSides l hs) (length hs) p.1.0) in
    let deck = obeys RaisedQuarterdeck l hs (ltb-false (first_breach RaisedQuarterdeck l hs) (length hs) p.1.1.0) in
    let follows = obeys Follows l hs (ltb-false (first_breach Follows l hs) (length hs) p.1.1.1.1.0) in
    record {
      each = λ k h.
          let f = ends_of l (house_at hs k) (ends k h) in
          let b = breadths_of_lem l (house_at hs k) (sides k h) in
          record {
            ends = f.0;
            ahead = f.1;
            abaft = f.2;
            aft_most = f.3;
            fore_most = f.4;
            height_least = f.5;
            height_most = f.6;
            breadth_most = b.0;
            breadth_least = b.1;
            beam_most = b.2;
            quarterdeck = deck_of_lem l (house_at hs k) (deck k h);
          };
      order = λ k h.
          rw (add-one k) (ltb-false (house_at hs (suc k)).aft.0 (house_at hs k).fore.0 (follows (suc k) (omega arith)));
    }

-- a house of such a list ends at or abaft where any later one begins
pub later : (l : ℕ) (hs : List House) → GoodHouses l hs → (j k : ℕ) → j < k → k < length hs → (house_at hs j).fore.0 ≤ (house_at hs k).aft.0
later l hs g j zero p q = absurd (omega arith)
later l hs g j (suc k) p q =
    let o = rw (add-one k) at (g.order k (omega arith)) in
    elim (dec_lt j k) [
      | yes t ↦ omega (arith, o, later l hs g j k t (omega arith), (g.each k (omega arith)).ends)
      | no t ↦ (let e : j ≡ k = omega arith in rw e o)
    ]

certified_of : (a b : ℕ) → one_alone a b ≡ false → (0 < a → 0 < b) × (0 < b → 0 < a)
certified_of a b e = grind (arith, nat_tests)

-- 22: a length that its type admits
reduced_of : (kind l : ℕ) → reduced_short kind l ≡ false → (kind ≡ kind_b60 → 100000 < l) × (kind ≡ kind_b100 → 100000 < l)
reduced_of kind l e = grind (arith, nat_tests)

covers_of : (kind l : ℕ) → covers_long kind l ≡ false → kind ≡ kind_covers → l ≤ 200000
covers_of kind l e k = grind (arith, nat_tests)

pub good : (x : Ship) → (first (ship_lines x)).number ≡ 0 → Good x
good x e =
    let p = all_pass (ship_lines x) (omega arith) e in
    let w = or_parts (reduced_short x.kind x.length.0) (covers_long x.kind x.length.0) p.1.0 in
    let r : (k : ℕ) → k < 13 → (get_or least k 0 ≤ get_or (fields_of x) k 0) × (get_or (fields_of x) k 0 ≤ get_or most k 0) =
    λ k h. in_range (fields_of x) k (omega (arith, ltb-false (field_out (fields_of x)) 13 p.0)) in
    record {
      length_least = (r 0 (omega arith)).0;
      length_most = (r 0 (omega arith)).1;
      depth_least = (r 1 (omega arith)).0;
      depth_most = (r 1 (omega arith)).1;
      moulded_least = (r 2 (omega arith)).0;
      moulded_most = (r 2 (omega arith)).1;
      block_least = (r 3 (omega arith)).0;
      block_most = (r 3 (omega arith)).1;
      waterplane_least = (r 4 (omega arith)).0;
      waterplane_most = (r 4 (omega arith)).1;
      sheer = record {
        ap = omega (arith, (r 5 (omega arith)).1);
        after_sixth = omega (arith, (r 6 (omega arith)).1);
        after_third = omega (arith, (r 7 (omega arith)).1);
        forward_third = omega (arith, (r 8 (omega arith)).1);
        forward_sixth = omega (arith, (r 9 (omega arith)).1);
        fp = omega (arith, (r 10 (omega arith)).1);
      };
      displacement = omega (arith, (r 11 (omega arith)).1);
      immersion = omega (arith, (r 12 (omega arith)).1);
      reduced_long = reduced_of x.kind x.length.0 w.0;
      covers_short = covers_of x.kind x.length.0 w.1;
      certified = certified_of x.displacement x.immersion p.1.1.0;
      houses = good_houses x.length.0 (houses_of x) (ap (λ (v : Paper). v.number) (first_passed (house_lines x.length.0 (houses_of x)) p.1.1.1));
    }
