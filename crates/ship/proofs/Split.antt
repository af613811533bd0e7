-- 02 §1: what has become of 01's refusal 11, for every list of houses and every call that checks one.
use Prim.Native.Nat.{ℕ, zero, suc, ◌+◌, ◌-◌, ◌≤◌, ◌<◌, min, max}
use mathlib.Core.Bool.{Bool, true, false, ◌&&◌}
use mathlib.Core.List.{List, [], ◌∷◌, ◌++◌}
use mathlib.Core.Path.{◌≡◌, refl, sym}
use native.Mathlib.Omega.{arith}
use native.Mathlib.Decide.{dec_lt}
use native.Mathlib.Numerals.{add-one}
use borrow.Author.Tests.{ltb-true, ltb-false, eqb-true, ne_eqb}
use lib.Dec.{eqb, ltb, leb}
use lib.ListN.{length}
use Rattle.std.proofs.lemmas.Bool.Decides.{nat_tests}
use Rattle.whole.specs.Pick.{pick}
use Rattle.whole.specs.Count.{count}
use Rattle.whole.proofs.Count.{count_same, count_between}
use Rattle.units.specs.Datum.{station_of}
use Rattle.ship.specs.declared.House.{House}
use Rattle.ship.specs.declared.rule.Rule.TheVariants.{EndsAndHeight, SetInSides, RaisedQuarterdeck, Follows}
use Rattle.ship.specs.declared.Ship.{Ship}
use Rattle.ship.specs.Vessel.{houses_of, house_at, stands_over}
use Rattle.ship.specs.Refusals.{Paper, Line, refused, overlapping, first}
use Rattle.ship.specs.Checks.{breaks, breach_at, first_breach, house_line, out_of_order, overlap_between, order_lines, house_lines, field_lines}
use Rattle.ship.proofs.First.{found_fails}
use Rattle.ship.proofs.Lines.{Each, first_has}
use Rattle.ship.proofs.Accepted.{obeys, ends_of, good_houses, later}

-- ---- in what words
-- a verdict as 01 gave it: 18 was 11, and no refusal had an overlap
abbrev pub joined : Paper → Paper
joined p = refused (pick (eqb p.number 18) 11 p.number) p.place

-- 01's lines of 9 to 11, with 02's 23 in its place
abbrev pub house_lines01 : ℕ → List House → List Line
house_lines01 l hs = house_line 9 EndsAndHeight l hs ∷ house_line 23 SetInSides l hs ∷ house_line 10 RaisedQuarterdeck l hs ∷ house_line 11 Follows l hs ∷ []

abbrev pub ship_lines01 : Ship → List Line
ship_lines01 x = field_lines x ++ house_lines01 x.length.0 (houses_of x)

-- houses in order of their aft ends, as a script sorts them
abbrev pub Sorted : List House → Type 0
Sorted hs = (k : ℕ) → k + 1 < length hs → (house_at hs k).aft.0 ≤ (house_at hs (k + 1)).aft.0

-- the millimetre from a station to the next lies in both of two houses
abbrev pub in_both : House → House → ℕ → Bool
in_both g h station = stands_over g station && stands_over h station

-- the verdict on a ship of length l with these houses, beside the one that 01 gave
pub record Split (l : ℕ) (hs : List House) (new old : Paper) : Type 0 where
  -- 11 or 18 is given exactly where 11 was, at the same place, and no other verdict has changed
  pub joins : joined new ≡ old
  -- houses in order of their aft ends are never refused with 18
  pub sorted : Sorted hs → ¬ (new.number ≡ 18)
  -- the overlap of 11 is at least 1, and the number of whole millimetres that lie in both houses: all houses end within L + 20000
  pub overlap : new.number ≡ 11
      → (1 ≤ new.overlap) × (new.overlap ≡ count (in_both (house_at hs (new.place - 1)) (house_at hs new.place)) (station_of (l + 20000)))
  -- and no other order of the list mends it: no list that has both houses passes
  pub stays : new.number ≡ 11
      → (gs : List House) (i j : ℕ) → i < length gs → j < length gs → ¬ (i ≡ j)
      → house_at gs i ≡ house_at hs (new.place - 1) → house_at gs j ≡ house_at hs new.place → ¬ ((first (house_lines l gs)).number ≡ 0)
  -- beside any other verdict the overlap is 0
  pub none : ¬ (new.number ≡ 11) → new.overlap ≡ 0

-- ---- counting
module _ (g h : House) where
  -- in both: forward of both aft ends, abaft both fore ends
  in_both_lem : (j : ℕ) → in_both g h j ≡ (leb (max g.aft.0 h.aft.0) (0 + j) && leb (0 + j + 1) (min g.fore.0 h.fore.0))
  unfolding stands_over
  in_both_lem j = grind (arith, nat_tests)

  count_both : (n : ℕ) → h.fore.0 ≤ n → g.aft.0 ≤ h.aft.0 → overlap_between g h ≡ count (in_both g h) n
  count_both n end order =
      let c = count_same (in_both g h) (λ j. leb (max g.aft.0 h.aft.0) (0 + j) && leb (0 + j + 1) (min g.fore.0 h.fore.0)) n in_both_lem in
      let s = count_between 0 (max g.aft.0 h.aft.0) (min g.fore.0 h.fore.0) n in
      let t : count (in_both g h) n ≡ min g.fore.0 h.fore.0 - h.aft.0 = omega (arith, c, s) in
      sym t

-- ---- the first bad house: it begins abaft the fore end of the one before it
module _ (l : ℕ) (hs : List House) where
  abbrev place : ℕ
  place = first_breach Follows l hs

  begins : (k : ℕ) → breach_at Follows l hs k ≡ true → (1 ≤ k) × ((house_at hs k).aft.0 < (house_at hs (k - 1)).fore.0)
  unfolding breach_at breaks
  begins zero e = absurd (omega (arith, ltb-true (house_at hs 0).aft.0 0 e))
  begins (suc k) e = let b : suc k - 1 ≡ k = omega arith in (omega arith, rw b (ltb-true (house_at hs (suc k)).aft.0 (house_at hs k).fore.0 e))

  -- it is not the first of the list
  pub first_bad : place < length hs → (1 ≤ place) × ((house_at hs place).aft.0 < (house_at hs (place - 1)).fore.0)
  unfolding first_breach
  first_bad h = begins place (found_fails (breach_at Follows l hs) 0 (length hs) (omega arith))

  -- in a list in order of aft ends it is not out of order
  never_late : Sorted hs → (k : ℕ) → 1 ≤ k → k < length hs → out_of_order (house_at hs (k - 1)) (house_at hs k) ≡ true → ⊥
  never_late o zero m n e = omega arith
  never_late o (suc k) m n e =
      let b : suc k - 1 ≡ k = omega arith in
      let late = ltb-true (house_at hs (suc k)).aft.0 (house_at hs k).aft.0 (rw b at e) in
      omega (arith, late, rw (add-one k) at (o k (omega arith)))

  -- where 9 passes and it is not out of order, it overlaps
  overlaps : ltb (first_breach EndsAndHeight l hs) (length hs) ≡ false → place < length hs → out_of_order (house_at hs (place - 1)) (house_at hs place) ≡ false
      → let mm = overlap_between (house_at hs (place - 1)) (house_at hs place) in
      (1 ≤ mm) × (mm ≡ count (in_both (house_at hs (place - 1)) (house_at hs place)) (station_of (l + 20000)))
  unfolding breaks
  overlaps nine h e =
      let r = first_bad h in
      let o = ltb-false (house_at hs place).aft.0 (house_at hs (place - 1)).aft.0 e in
      let ends = ends_of l (house_at hs place) (obeys EndsAndHeight l hs (ltb-false (first_breach EndsAndHeight l hs) (length hs) nine) place h) in
      (omega (arith, ends.0), count_both (house_at hs (place - 1)) (house_at hs place) (station_of (l + 20000)) ends.4 o)

  -- two houses that overlap stand in no accepted list
  overlap_stays : ltb (first_breach EndsAndHeight l hs) (length hs) ≡ false → place < length hs → out_of_order (house_at hs (place - 1)) (house_at hs place) ≡ false
      → (gs : List House) (i j : ℕ) → i < length gs → j < length gs → ¬ (i ≡ j) → house_at gs i ≡ house_at hs (place - 1) → house_at gs j ≡ house_at hs place
      → ¬ ((first (house_lines l gs)).number ≡ 0)
  unfolding breaks
  overlap_stays nine h e gs i j m n other p q z =
      let g = good_houses l gs z in
      let r = first_bad h in
      let o = ltb-false (house_at hs place).aft.0 (house_at hs (place - 1)).aft.0 e in
      let ends = ends_of l (house_at hs place) (obeys EndsAndHeight l hs (ltb-false (first_breach EndsAndHeight l hs) (length hs) nine) place h) in
      elim (dec_lt i j) [
        | yes t ↦ (let a = rw (p, q) at (later l gs g i j t n) in omega (arith, r.1, a))
        | no t ↦ (let a = rw (p, q) at (later l gs g j i (omega arith) m) in omega (arith, ends.0, a))
      ]

-- ---- along the lines
-- no part of 02 §1: neither 11 nor 18, and no overlap
abbrev pub Plain : Paper → Type 0
Plain p = (¬ (p.number ≡ 11)) × (¬ (p.number ≡ 18)) × (p.overlap ≡ 0)

module _ (l : ℕ) (hs : List House) where
  pub split_plain : (p : Paper) → Plain p → Split l hs p p
  unfolding pick
  split_plain p q = record {
    joins = rw (ne_eqb p.number 18 q.1) (sym (λ i. record { number = p.number; place = p.place; overlap = q.2 i }));
    sorted = λ s. q.1;
    overlap = λ e. absurd (q.0 e);
    stays = λ e. absurd (q.0 e);
    none = λ n. q.2;
  }

  -- plain lines before others
  split_behind : (ts us vs : List Line) → Each Plain ts → Split l hs (first us) (first vs) → Split l hs (first (ts ++ us)) (first (ts ++ vs))
  unfolding first pick
  split_behind [] us vs a s = s
  split_behind (t ∷ ts) us vs a s = go t.0 (split_behind ts us vs a.1 s)
    where
      go : (b : Bool) → Split l hs (first (ts ++ us)) (first (ts ++ vs)) → Split l hs (pick b t.1 (first (ts ++ us))) (pick b t.1 (first (ts ++ vs)))
      go true r = split_plain t.1 a.0
      go false r = r

  -- 9 to 11, 18 and 23, before plain lines
  split_houses : (us : List Line) → Each Plain us → Split l hs (first (house_lines l hs ++ us)) (first (house_lines01 l hs ++ us))
  unfolding first pick
  split_houses us a = nine (ltb (first_breach EndsAndHeight l hs) (length hs)) refl
    where
      k : ℕ
      k = first_breach Follows l hs

      late : Bool
      late = out_of_order (house_at hs (k - 1)) (house_at hs k)

      mm : ℕ
      mm = overlap_between (house_at hs (k - 1)) (house_at hs k)

      order : (b c : Bool) → ltb (first_breach EndsAndHeight l hs) (length hs) ≡ false → ltb k (length hs) ≡ b → late ≡ c
          → Split l hs (pick (b && c) (refused 18 k) (pick b (overlapping k mm) (first us))) (pick b (refused 11 k) (first us))
      order false c e h m = split_plain (first us) (first_has Plain (λ z. omega arith, λ z. omega arith, refl) us a)
      order true true e h m =
          let r = ltb-true k (length hs) h in
          record {
            joins = refl;
            sorted = λ o z. never_late l hs o k (first_bad l hs r).0 r m;
            overlap = λ z. absurd (omega arith);
            stays = λ z. absurd (omega arith);
            none = λ n. refl;
          }
      order true false e h m =
          record {
            joins = refl;
            sorted = λ o z. omega arith;
            overlap = λ z. overlaps l hs e (ltb-true k (length hs) h) m;
            stays = λ z. overlap_stays l hs e (ltb-true k (length hs) h) m;
            none = λ n. absurd (n refl);
          }

      -- 23 and 10 are plain, as 9 is; but only behind 9 are the houses known to end within L + 20000
      behind : List Line
      behind = house_line 23 SetInSides l hs ∷ house_line 10 RaisedQuarterdeck l hs ∷ []

      nine : (b : Bool) → ltb (first_breach EndsAndHeight l hs) (length hs) ≡ b
          → Split l hs (pick b (refused 9 (first_breach EndsAndHeight l hs)) (first (behind ++ (order_lines l hs ++ us))))
          (pick b (refused 9 (first_breach EndsAndHeight l hs)) (first (behind ++ (house_line 11 Follows l hs ∷ us))))
      nine true e = split_plain (refused 9 (first_breach EndsAndHeight l hs)) (λ z. omega arith, λ z. omega arith, refl)
      nine false e = split_behind behind (order_lines l hs ++ us) (house_line 11 Follows l hs ∷ us) (omega arith) (order (ltb k (length hs)) late e refl refl)

  -- what a call says where its lines accept: it accepts by the same lines as before
  pub same_zero : (new : Paper) → eqb (joined new).number 0 ≡ eqb new.number 0
  unfolding pick
  same_zero new = go (eqb new.number 18) refl
    where
      go : (b : Bool) → eqb new.number 18 ≡ b → eqb (pick b 11 new.number) 0 ≡ eqb new.number 0
      go true e = rw (eqb-true new.number 18 e) refl
      go false e = refl

  pub split_answer : (new old v : Paper) → Plain v → Split l hs new old → Split l hs (pick (eqb new.number 0) v new) (pick (eqb old.number 0) v old)
  unfolding pick
  split_answer new old v p s = rw (← s.joins) (rw (same_zero new) (go (eqb new.number 0)))
    where
      go : (b : Bool) → Split l hs (pick b v new) (pick b v (joined new))
      go true = split_plain v p
      go false = rw s.joins s

  -- THE LAW, over the lines that stand before and after: those of each call
  pub split_lines : (ts us : List Line) → Each Plain ts → Each Plain us
      → Split l hs (first (ts ++ (house_lines l hs ++ us))) (first (ts ++ (house_lines01 l hs ++ us)))
  split_lines ts us a b = split_behind ts (house_lines l hs ++ us) (house_lines01 l hs ++ us) a (split_houses us b)
