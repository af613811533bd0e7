-- 02 §6: setting houses in, or writing equal breadths for full breadth, never raises E, and leaves all else that the houses give.
use Prim.Native.Nat.{ℕ, ◌+◌, ◌*◌, ◌≤◌, ◌<◌}
use mathlib.Core.Bool.{Bool, true, false, not, ◌&&◌, true≢false}
use mathlib.Core.List.{List, [], ◌∷◌}
use mathlib.Core.Path.{◌≡◌, refl, sym, ap, ap₂, subst, ◌∙◌}
use native.Mathlib.Omega.{arith}
use borrow.Author.Tests.{ne_eqb}
use Rattle.whole.specs.Pick.{pick}
use Rattle.whole.specs.Frac.{Frac, ◌≤f◌, whole, ◌+f◌, ◌*f◌, floor}
use Rattle.whole.proofs.Frac.{bot_of, refl≤, trans≤, +_mono≤, *_mono≤}
use Rattle.whole.proofs.Round.{exactly, by_floor, below_sum, floor_mono}
use Rattle.units.specs.declared.Span.{Span}
use Rattle.ship.specs.declared.House.{House}
use Rattle.ship.specs.Vessel.{no_house, full_breadth}
use Rattle.houses.specs.Length.{part_of, total, covered_length}
use Rattle.houses.specs.Height.{height_ratio}
use Rattle.houses.specs.Effective.{limited_length, breadth_ratio, exact_effective, exact_effective_length, those, is_ordinary, is_raised, is_set_in, effective_length}
use Rattle.houses.specs.Forecastle.{house_that, is_forecastle, forecastle_of}
use Rattle.houses.specs.Amidships.{covers_amidships, amidships_of}
use Rattle.houses.specs.Cover.{is_amidships, reach_of, reach}
use Rattle.houses.proofs.Limits.{breadth_most, breadth_full, breadth_set_in}

-- ---- in what words
-- a house with these breadths
abbrev pub with_breadths : Span → Span → House → House
with_breadths breadth beam h = record {
  enclosed = h.enclosed;
  quarterdeck = h.quarterdeck;
  aft = h.aft;
  fore = h.fore;
  height = h.height;
  breadth = breadth;
  beam = beam;
}

-- h is g set in, or as it was: they differ in breadths alone, h has them if g has, and its ratio is no greater
pub record Narrowed (g h : House) : Type 0 where
  pub alike : h ≡ with_breadths h.breadth h.beam g
  pub kept : full_breadth h ≡ true → full_breadth g ≡ true
  pub ratio : breadth_ratio h ≤f breadth_ratio g

-- house by house
abbrev pub AllNarrowed : List House → List House → Type 0
AllNarrowed [] [] = Unit {0}
AllNarrowed [] (h ∷ hs) = ⊥
AllNarrowed (g ∷ gs) [] = ⊥
AllNarrowed (g ∷ gs) (h ∷ hs) = Narrowed g h × AllNarrowed gs hs

-- ---- what does not look at breadths
module _ {g h : House} (n : Narrowed g h) where
  pub same_of : {A : Type 0} (f : House → A) → ((b s : Span) → f (with_breadths b s g) ≡ f g) → f h ≡ f g
  same_of f e = ap f n.alike ∙ e h.breadth h.beam

  pub same_part : (l : ℕ) → part_of l h ≡ part_of l g
  unfolding part_of
  same_part l = same_of (part_of l) (λ b s. refl)

  pub same_reach : (l : ℕ) → reach_of l h ≡ reach_of l g
  unfolding reach_of is_amidships
  same_reach l = same_of (reach_of l) (λ b s. refl)

  pub same_ratio : (l : ℕ) → height_ratio l h ≡ height_ratio l g
  unfolding height_ratio
  same_ratio l = same_of (height_ratio l) (λ b s. refl)

  same_limited : (l : ℕ) → limited_length l h ≡ limited_length l g
  unfolding limited_length part_of
  same_limited l = same_of (limited_length l) (λ b s. refl)

  same_quarterdeck : h.quarterdeck ≡ g.quarterdeck
  same_quarterdeck = same_of (λ k. k.quarterdeck) (λ b s. refl)

  -- its effective length is no greater
  pub less_effective : (l : ℕ) → exact_effective l h ≤f exact_effective l g
  unfolding exact_effective
  less_effective l = rw (same_limited l, same_ratio l) (*_mono≤ (refl≤ (whole (limited_length l g) *f height_ratio l g)) n.ratio)

pub narrowed_self : (h : House) → Narrowed h h
narrowed_self h = record { alike = refl; kept = λ e. e; ratio = refl≤ (breadth_ratio h) }

-- breadths given to a house of full breadth set it in, equal ones too, if its own is no greater than the ship's
pub from_full : (g : House) (b s : Span) → full_breadth g ≡ true → b.0 ≤ s.0 → Narrowed g (with_breadths b s g)
from_full g b s e p = record { alike = refl; kept = λ h. e; ratio = rw (breadth_full g e) (breadth_most (with_breadths b s g) p) }

-- and so do breadths of a ratio that is no greater, given to one that has breadths
pub from_set_in : (g : House) (b s : Span) → full_breadth g ≡ false → 0 < g.beam.0 → 0 < b.0 → 0 < s.0 → b.0 * g.beam.0 ≤ g.breadth.0 * s.0
    → Narrowed g (with_breadths b s g)
from_set_in g b s e p q r h =
    let n : full_breadth (with_breadths b s g) ≡ false = rw (ne_eqb b.0 0 (λ z. omega arith)) refl in
    record {
      alike = refl;
      kept = λ t. absurd (true≢false (sym t ∙ n));
      ratio = rw (breadth_set_in (with_breadths b s g) n, breadth_set_in g e) (record { le = rw (bot_of s.0 r, bot_of g.beam.0 p) h });
    }

-- the house that passes a test which does not look at breadths
pub narrowed_that : (test : House → Bool) → ((b s : Span) (g : House) → test (with_breadths b s g) ≡ test g) → (gs hs : List House) → AllNarrowed gs hs
    → Narrowed (house_that test gs) (house_that test hs)
unfolding house_that pick
narrowed_that test blind [] [] n = narrowed_self no_house
narrowed_that test blind [] (h ∷ hs) n = absurd n
narrowed_that test blind (g ∷ gs) [] n = absurd n
narrowed_that test blind (g ∷ gs) (h ∷ hs) n =
    subst (λ (b : Bool). Narrowed (house_that test (g ∷ gs)) (pick b h (house_that test hs))) (sym (same_of n.0 test (λ b s. blind b s g)))
    (go (test g) (narrowed_that test blind gs hs n.1))
  where
    go : (b : Bool) → Narrowed (house_that test gs) (house_that test hs) → Narrowed (pick b g (house_that test gs)) (pick b h (house_that test hs))
    go true r = n.0
    go false r = r

same_total : (f : House → ℕ) → ((g h : House) → Narrowed g h → f h ≡ f g) → (gs hs : List House) → AllNarrowed gs hs → total f hs ≡ total f gs
unfolding total
same_total f e [] [] n = refl
same_total f e [] (h ∷ hs) n = absurd n
same_total f e (g ∷ gs) [] n = absurd n
same_total f e (g ∷ gs) (h ∷ hs) n = ap₂ ◌+◌ (e g h n.0) (same_total f e gs hs n.1)

module _ (l : ℕ) (gs hs : List House) (n : AllNarrowed gs hs) where
  -- S, the cover, the forecastle and the house amidships
  pub same_covered : covered_length l hs ≡ covered_length l gs
  unfolding covered_length
  same_covered = same_total (part_of l) (λ g h k. same_part k l) gs hs n

  pub same_cover : reach l hs ≡ reach l gs
  unfolding reach
  same_cover = same_total (reach_of l) (λ g h k. same_reach k l) gs hs n

  pub narrowed_forecastle : Narrowed (forecastle_of l gs) (forecastle_of l hs)
  unfolding forecastle_of is_forecastle
  narrowed_forecastle = narrowed_that (is_forecastle l) (λ b s g. refl) gs hs n

  pub narrowed_amidships : Narrowed (amidships_of l gs) (amidships_of l hs)
  unfolding amidships_of covers_amidships
  narrowed_amidships = narrowed_that (covers_amidships l) (λ b s g. refl) gs hs n

-- ---- E
-- each house's effective length, down
abbrev downs : ℕ → List House → ℕ
downs l = total (λ h. floor (exact_effective l h))

-- what the houses with breadths have, taken apart by where it was before: o in the ordinary houses' sum, r in the raised quarterdeck's, w in houses with breadths.
-- The lists are those of a kind, after and before
record Parted (l : ℕ) (ordinaries ordinaries₀ raiseds raiseds₀ set_ins set_ins₀ : List House) : Type 0 where
  o : ℕ
  r : ℕ
  w : ℕ
  parts : downs l set_ins ≡ o + r + w
  ordinary : whole o +f exact_effective_length l ordinaries ≤f exact_effective_length l ordinaries₀
  raised : whole r +f exact_effective_length l raiseds ≤f exact_effective_length l raiseds₀
  own : w ≤ downs l set_ins₀

abbrev PartedBy : ℕ → List House → List House → Type 0
PartedBy l gs hs = Parted l (those is_ordinary hs) (those is_ordinary gs) (those is_raised hs) (those is_raised gs) (those is_set_in hs) (those is_set_in gs)

-- a length that stays in its sum, and one that leaves it rounded down
stays : {x y b : Frac} (o : ℕ) (a : Frac) → x ≤f y → whole o +f a ≤f b → whole o +f (x +f a) ≤f y +f b
stays {x} o a h k = trans≤ {y = x +f (whole o +f a)} (omega arith) (+_mono≤ h k)

leaves : {x y b : Frac} (o : ℕ) (a : Frac) → x ≤f y → whole o +f a ≤f b → whole (floor x + o) +f a ≤f y +f b
leaves {x} o a h k = trans≤ {y = whole (floor x) +f (whole o +f a)} (omega arith) (+_mono≤ (trans≤ (by_floor x).above h) k)

parted_with : (l : ℕ) (g h : House) (gs hs : List House) → Narrowed g h → PartedBy l gs hs → PartedBy l (g ∷ gs) (h ∷ hs)
unfolding those total exact_effective_length pick
parted_with l g h gs hs n p =
    subst (λ (q : Bool). Goal (full_breadth g) (full_breadth h) g.quarterdeck q) (sym (same_quarterdeck n)) (go (full_breadth g) (full_breadth h) g.quarterdeck n.kept)
  where
    Goal : (was is raised raised' : Bool) → Type 0
    Goal was is q q' =
        Parted l (pick (is && not q') (h ∷ those is_ordinary hs) (those is_ordinary hs)) (pick (was && not q) (g ∷ those is_ordinary gs) (those is_ordinary gs))
        (pick (is && q') (h ∷ those is_raised hs) (those is_raised hs)) (pick (was && q) (g ∷ those is_raised gs) (those is_raised gs))
        (pick (not is) (h ∷ those is_set_in hs) (those is_set_in hs)) (pick (not was) (g ∷ those is_set_in gs) (those is_set_in gs))

    less : exact_effective l h ≤f exact_effective l g
    less = less_effective n l

    ordinaries : Frac
    ordinaries = exact_effective_length l (those is_ordinary hs)

    raiseds : Frac
    raiseds = exact_effective_length l (those is_raised hs)

    down : ℕ
    down = floor (exact_effective l h)

    go : (was is q : Bool) → (is ≡ true → was ≡ true) → Goal was is q q
    go true true false k = record { o = p.o; r = p.r; w = p.w; parts = p.parts; ordinary = stays p.o ordinaries less p.ordinary; raised = p.raised; own = p.own }
    go true true true k = record { o = p.o; r = p.r; w = p.w; parts = p.parts; ordinary = p.ordinary; raised = stays p.r raiseds less p.raised; own = p.own }
    go true false false k = record { o = down + p.o; r = p.r; w = p.w; parts = omega (arith, p.parts); ordinary = leaves p.o ordinaries less p.ordinary; raised = p.raised; own = p.own }
    go true false true k = record { o = p.o; r = down + p.r; w = p.w; parts = omega (arith, p.parts); ordinary = p.ordinary; raised = leaves p.r raiseds less p.raised; own = p.own }
    go false false q k =
        record {
          o = p.o;
          r = p.r;
          w = down + p.w;
          parts = omega (arith, p.parts);
          ordinary = p.ordinary;
          raised = p.raised;
          own = omega (arith, p.own, floor_mono (exact_effective l h) (exact_effective l g) less);
        }
    go false true q k = absurd (true≢false (sym (k refl)))

parted : (l : ℕ) (gs hs : List House) → AllNarrowed gs hs → PartedBy l gs hs
unfolding those total exact_effective_length
parted l [] [] n = record { o = 0; r = 0; w = 0; parts = refl; ordinary = omega arith; raised = omega arith; own = omega arith }
parted l [] (h ∷ hs) n = absurd n
parted l (g ∷ gs) [] n = absurd n
parted l (g ∷ gs) (h ∷ hs) n = parted_with l g h gs hs n.0 (parted l gs hs n.1)

-- a whole number beside a fraction stays whole
whole_down : (o : ℕ) (x : Frac) {y : Frac} → whole o +f x ≤f y → o + floor x ≤ floor y
whole_down o x {y} h = omega (arith, floor_mono (whole (o + floor x)) y (trans≤ (below_sum (exactly o) (by_floor x)).above h))

-- THE LAW
pub set_in_less : (l : ℕ) (gs hs : List House) → AllNarrowed gs hs → effective_length l hs ≤ effective_length l gs
unfolding effective_length
set_in_less l gs hs n =
    let p = parted l gs hs n in
    let ordinary = whole_down p.o (exact_effective_length l (those is_ordinary hs)) p.ordinary in
    let raised = whole_down p.r (exact_effective_length l (those is_raised hs)) p.raised in
    omega (arith, p.parts, p.own, ordinary, raised)
