-- The sums by kind: house by house, of 35's fractions, and within their limits.
use Prim.Native.Nat.{ℕ, suc, ◌+◌, ◌*◌, ◌≤◌, ◌<◌}
use mathlib.Core.Bool.{Bool, true, false, not, ◌&&◌, and-eq-true_iff}
use mathlib.Core.List.{List, [], ◌∷◌}
use mathlib.Core.Path.{◌≡◌, refl, ap, ap₂, subst, ◌∙◌}
use native.Mathlib.Omega.{arith}
use lib.ListN.{length}
use Rattle.std.proofs.lemmas.Bool.{not-true}
use Rattle.whole.specs.Pick.{pick}
use Rattle.whole.specs.Frac.{Frac, frac, ◌≈f◌, ◌+f◌, floor}
use Rattle.whole.proofs.Divide.{floor_most, mul_most}
use Rattle.whole.proofs.Frac.{bot_of, trans≈, +_same}
use Rattle.whole.proofs.Round.{floor_of}
use Rattle.ship.specs.declared.House.{House}
use Rattle.ship.specs.Vessel.{house_at, full_breadth}
use Rattle.ship.specs.Good.{GoodHouse, GoodHouses}
use Rattle.houses.specs.Length.{part_of, total, covered_length}
use Rattle.houses.specs.Effective.{exact_effective, exact_effective_length, those, is_ordinary, is_raised, is_set_in, effective_length}
use Rattle.houses.proofs.Counted.{covered_most}
use Rattle.effective.specs.Unrounded.{low_height, greatest_length, FairBreadths, top_of, bottom_of, unrounded_of}
use Rattle.effective.proofs.Unrounded.{low_sized, unrounded_exact, bottom_full, bottom_some, top_most}
use Rattle.summed.specs.declared.Summed.{Summed}
use Rattle.summed.specs.Summed.{down, summed_of, more, bottom_in, summed_with, effective_on, FairSum, FairSummed}

-- a house set before the others
pub summed_with_lem : (l : ℕ) (h : House) (hs : List House) → summed_with h (unrounded_of l h) (summed_of l hs) ≡ summed_of l (h ∷ hs)
unfolding summed_with summed_of those total pick
summed_with_lem l h hs = go (full_breadth h) h.quarterdeck
  where
    go : (f q : Bool)
        → ◌≡◌ {A = Summed} (record {
          ordinary = pick (f && not q) (more (top_of l h) (summed_of l hs).ordinary) (summed_of l hs).ordinary;
          raised = pick (f && q) (more (top_of l h) (summed_of l hs).raised) (summed_of l hs).raised;
          own = record { 0 = pick (not f) (down (unrounded_of l h) + (summed_of l hs).own.0) (summed_of l hs).own.0 };
        }) (record {
          ordinary = record { top = total (top_of l) (pick (f && not q) (h ∷ those is_ordinary hs) (those is_ordinary hs)); bottom = (low_height l false).top };
          raised = record { top = total (top_of l) (pick (f && q) (h ∷ those is_raised hs) (those is_raised hs)); bottom = (low_height l true).top };
          own = record { 0 = total (λ g. down (unrounded_of l g)) (pick (not f) (h ∷ those is_set_in hs) (those is_set_in hs)) };
        })
    go true true = refl
    go true false = refl
    go false q = refl

-- ---- the numerators' sum is that of the fractions, over houses of one kind
join : (a b d : ℕ) {x y : Frac} → 0 < d → frac a d ≈f x → frac b d ≈f y → frac (a + b) d ≈f x +f y
join a b d p h k = trans≈ {y = frac a d +f frac b d} (record { eq = rw (bot_of d p) (omega arith) }) (+_same h k)

-- no house of a list is broader than the ship
abbrev pub AllFair : List House → Type 0
AllFair [] = Unit {0}
AllFair (h ∷ hs) = FairBreadths h × AllFair hs

-- that house's fraction, over its kind's standard height
full_exact : (l : ℕ) (h : House) → FairBreadths h → full_breadth h ≡ true → frac (top_of l h) (low_height l h.quarterdeck).top ≈f exact_effective l h
full_exact l h f e = subst (λ (b : ℕ). frac (top_of l h) b ≈f exact_effective l h) (bottom_full l h e) (unrounded_exact l h f)

summed_exact : (l : ℕ) (q : Bool) (test : House → Bool) → ((h : House) → test h ≡ true → (full_breadth h ≡ true) × (h.quarterdeck ≡ q)) → (hs : List House) → AllFair hs
    → frac (total (top_of l) (those test hs)) (low_height l q).top ≈f exact_effective_length l (those test hs)
unfolding those total exact_effective_length pick
summed_exact l q test is [] f = record { eq = omega arith }
summed_exact l q test is (h ∷ hs) f = go (test h) refl (summed_exact l q test is hs f.1)
  where
    go : (b : Bool) → test h ≡ b
        → frac (total (top_of l) (those test hs)) (low_height l q).top ≈f exact_effective_length l (those test hs)
        → frac (total (top_of l) (pick b (h ∷ those test hs) (those test hs))) (low_height l q).top
        ≈f exact_effective_length l (pick b (h ∷ those test hs) (those test hs))
    go true e r =
        join (top_of l h) (total (top_of l) (those test hs)) (low_height l q).top (low_sized l q).size_least
        (subst (λ (k : Bool). frac (top_of l h) (low_height l k).top ≈f exact_effective l h) (is h e).1 (full_exact l h f.0 (is h e).0)) r
    go false e r = r

-- what the houses with breadths have, one by one
own_exact : (l : ℕ) (hs : List House) → AllFair hs
    → total (λ h. down (unrounded_of l h)) (those is_set_in hs) ≡ total (λ h. floor (exact_effective l h)) (those is_set_in hs)
unfolding those total pick
own_exact l [] f = refl
own_exact l (h ∷ hs) f = go (full_breadth h) (own_exact l hs f.1)
  where
    gs : List House
    gs = those is_set_in hs

    go : (b : Bool) → total (λ h. down (unrounded_of l h)) gs ≡ total (λ h. floor (exact_effective l h)) gs
        → total (λ h. down (unrounded_of l h)) (pick (not b) (h ∷ gs) gs) ≡ total (λ h. floor (exact_effective l h)) (pick (not b) (h ∷ gs) gs)
    go true r = r
    go false r = ap₂ ◌+◌ (floor_of (top_of l h) (bottom_of l h) (bottom_some l h f.0) (unrounded_exact l h f.0)) r

-- what the tests say
are_ordinary : (h : House) → is_ordinary h ≡ true → (full_breadth h ≡ true) × (h.quarterdeck ≡ false)
are_ordinary h e = let p = (and-eq-true_iff (full_breadth h) (not h.quarterdeck)).0 e in (p.0, not-true h.quarterdeck p.1)

are_raised : (h : House) → is_raised h ≡ true → (full_breadth h ≡ true) × (h.quarterdeck ≡ true)
are_raised h e = (and-eq-true_iff (full_breadth h) h.quarterdeck).0 e

-- so what they come to, rounded, is E
pub effective_summed : (l : ℕ) (hs : List House) → AllFair hs → effective_on (summed_of l hs) ≡ effective_length l hs
unfolding summed_of effective_length
effective_summed l hs f =
    ap₂ ◌+◌
    (ap₂ ◌+◌
    (floor_of (total (top_of l) (those is_ordinary hs)) (low_height l false).top (low_sized l false).size_least (summed_exact l false is_ordinary are_ordinary hs f))
    (floor_of (total (top_of l) (those is_raised hs)) (low_height l true).top (low_sized l true).size_least (summed_exact l true is_raised are_raised hs f)))
    (own_exact l hs f)

-- each sum stands over its kind's standard height
pub summed_over : (l : ℕ) (hs : List House) (quarterdeck : Bool) → bottom_in quarterdeck (summed_of l hs) ≡ (low_height l quarterdeck).top
unfolding summed_of pick
summed_over l hs true = refl
summed_over l hs false = refl

-- ---- room
-- houses of a list are no broader than the ship
pub all_fair : (hs : List House) → ((k : ℕ) → k < length hs → FairBreadths (house_at hs k)) → AllFair hs
all_fair [] p = tt
all_fair (h ∷ hs) p = (p 0 (omega arith), all_fair hs (λ k q. p (suc k) (omega arith)))

pub fair_of : {l : ℕ} {h : House} → GoodHouse l h → FairBreadths h
fair_of g = record { at_most_1 = g.breadth_most; beam_most = g.beam_most }

pub good_fair : (l : ℕ) (hs : List House) → GoodHouses l hs → AllFair hs
good_fair l hs g = all_fair hs (λ k p. fair_of (g.each k p))

both_under : (t u a b s : ℕ) → t ≤ 1000 * a * s → u ≤ 1000 * b * s → t + u ≤ 1000 * (a + b) * s
both_under t u a b s h k = omega arith

tops_most : (l : ℕ) (q : Bool) (test : House → Bool) → ((h : House) → test h ≡ true → (full_breadth h ≡ true) × (h.quarterdeck ≡ q)) → (hs : List House) → AllFair hs
    → total (top_of l) (those test hs) ≤ 1000 * covered_length l hs * (low_height l q).top
unfolding those total covered_length pick
tops_most l q test is [] f = omega arith
tops_most l q test is (h ∷ hs) f = go (test h) refl (tops_most l q test is hs f.1)
  where
    go : (b : Bool) → test h ≡ b → total (top_of l) (those test hs) ≤ 1000 * covered_length l hs * (low_height l q).top
        → total (top_of l) (pick b (h ∷ those test hs) (those test hs)) ≤ 1000 * covered_length l (h ∷ hs) * (low_height l q).top
    go true e r =
        let m : top_of l h ≤ 1000 * part_of l h * (low_height l q).top =
        subst (λ (b : ℕ). top_of l h ≤ 1000 * part_of l h * b) (bottom_full l h (is h e).0 ∙ ap (λ (k : Bool). (low_height l k).top) (is h e).1) (top_most l h f.0) in
        both_under (top_of l h) (total (top_of l) (those test hs)) (part_of l h) (covered_length l hs) (low_height l q).top m r
    go false e r = omega (arith, both_under 0 (total (top_of l) (those test hs)) (part_of l h) (covered_length l hs) (low_height l q).top (omega arith) r)

down_most : (l : ℕ) (h : House) → FairBreadths h → down (unrounded_of l h) ≤ 1000 * part_of l h
down_most l h f = floor_most (top_of l h) (bottom_of l h) (1000 * part_of l h) (omega (arith, top_most l h f))

own_most : (l : ℕ) (hs : List House) → AllFair hs → total (λ h. down (unrounded_of l h)) (those is_set_in hs) ≤ 1000 * covered_length l hs
unfolding those total covered_length pick
own_most l [] f = omega arith
own_most l (h ∷ hs) f = go (full_breadth h) (own_most l hs f.1)
  where
    gs : List House
    gs = those is_set_in hs

    go : (b : Bool) → total (λ h. down (unrounded_of l h)) gs ≤ 1000 * covered_length l hs
        → total (λ h. down (unrounded_of l h)) (pick (not b) (h ∷ gs) gs) ≤ 1000 * covered_length l (h ∷ hs)
    go true r = omega (arith, r)
    go false r = omega (arith, r, down_most l h f.0)

pub fair_summed : (l : ℕ) (hs : List House) → l ≤ 365000 → GoodHouses l hs → FairSummed (summed_of l hs)
unfolding summed_of
fair_summed l hs p g = record { ordinary = sum false is_ordinary are_ordinary; raised = sum true is_raised are_raised; own = omega (arith, own_most l hs f, c) }
  where
    f : AllFair hs
    f = good_fair l hs g

    c : covered_length l hs ≤ l
    c = covered_most l hs g

    sum : (q : Bool) (test : House → Bool) → ((h : House) → test h ≡ true → (full_breadth h ≡ true) × (h.quarterdeck ≡ q))
        → FairSum (record { top = total (top_of l) (those test hs); bottom = (low_height l q).top })
    sum q test is =
        let s = low_sized l q in
        let b = (low_height l q).top in
        record {
          fair = record {
            top_most = omega (arith, tops_most l q test is hs f, mul_most (1000 * covered_length l hs) b greatest_length b (omega (arith, c)) (omega arith));
            bottom_least = s.size_least;
            bottom_most = omega (arith, s.size_most);
          };
          low = s.size_most;
        }
