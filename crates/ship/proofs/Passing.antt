-- Houses that are good pass checks 9 to 11, 18 and 23; and a good house before good houses, which it does not reach, makes a good list.
use Prim.Native.Nat.{ℕ, zero, suc, ◌+◌, ◌≤◌, ◌<◌}
use mathlib.Core.Bool.{false}
use mathlib.Core.List.{List, ◌∷◌}
use mathlib.Core.Path.{◌≡◌, refl}
use native.Mathlib.Omega.{arith}
use native.Mathlib.Numerals.{add-one}
use borrow.Author.Tests.{le-ltb}
use lib.Dec.{ltb}
use lib.ListN.{length}
use Rattle.std.proofs.lemmas.Bool.Decides.{nat_tests}
use Rattle.ship.specs.declared.House.{House}
use Rattle.ship.specs.declared.rule.Rule.{Rule}
use Rattle.ship.specs.declared.rule.Rule.TheVariants.{EndsAndHeight, SetInSides, RaisedQuarterdeck, Follows}
use Rattle.ship.specs.Vessel.{house_at}
use Rattle.ship.specs.Refusals.{accepted, first}
use Rattle.ship.specs.Checks.{bad_ends, bad_breadths, bad_quarterdeck, breaks, breach_at, first_breach, house_lines}
use Rattle.ship.specs.Good.{GoodHouse, GoodHouses}
use Rattle.ship.proofs.First.{first_none}
use Rattle.ship.proofs.Lines.{first_passed}

-- no house breaks a rule
quarterdeck_passes : (l : ℕ) (h : House) → GoodHouse l h → bad_quarterdeck l h ≡ false
quarterdeck_passes l h g = grind (arith, nat_tests)

breadths_pass : (l : ℕ) (h : House) → GoodHouse l h → bad_breadths h ≡ false
breadths_pass l h g = grind (arith, nat_tests)

ends_pass : (l : ℕ) (h : House) → GoodHouse l h → bad_ends l h ≡ false
ends_pass l h g = grind (arith, nat_tests)

module _ (l : ℕ) (hs : List House) (g : GoodHouses l hs) where
  keeps : (r : Rule) (j : ℕ) → j < length hs → breach_at r l hs j ≡ false
  unfolding breach_at breaks
  keeps EndsAndHeight j m = ends_pass l (house_at hs j) (g.each j m)
  keeps SetInSides j m = breadths_pass l (house_at hs j) (g.each j m)
  keeps RaisedQuarterdeck j m = quarterdeck_passes l (house_at hs j) (g.each j m)
  keeps Follows zero m = le-ltb (house_at hs 0).aft.0 0 (omega arith)
  keeps Follows (suc j) m = le-ltb (house_at hs (suc j)).aft.0 (house_at hs j).fore.0 (rw (add-one j) at (g.order j (omega arith)))

  passes : (r : Rule) → ltb (first_breach r l hs) (length hs) ≡ false
  unfolding first_breach
  passes r =
      let e = first_none (breach_at r l hs) 0 (length hs) (λ j p m. keeps r j (omega arith)) in
      le-ltb (first_breach r l hs) (length hs) (omega (arith, e))

  pub lines_pass : first (house_lines l hs) ≡ accepted
  lines_pass =
      let follows = passes Follows in
      first_passed (house_lines l hs) (passes EndsAndHeight, (passes SetInSides, (passes RaisedQuarterdeck, (rw follows refl, (follows, tt)))))

-- a good house before good houses
pub good_with : (l : ℕ) (h : House) (hs : List House) → GoodHouse l h → GoodHouses l hs → (0 < length hs → h.fore.0 ≤ (house_at hs 0).aft.0) → GoodHouses l (h ∷ hs)
good_with l h hs good g before =
    record {
      each = each;
      order = order;
    }
  where
    each : (k : ℕ) → k < length (h ∷ hs) → GoodHouse l (house_at (h ∷ hs) k)
    each zero m = good
    each (suc k) m = g.each k (omega arith)

    order : (k : ℕ) → k + 1 < length (h ∷ hs) → (house_at (h ∷ hs) k).fore.0 ≤ (house_at (h ∷ hs) (k + 1)).aft.0
    order zero m = before (omega arith)
    order (suc k) m = rw (add-one (suc k)) (rw (add-one k) at (g.order k (omega arith)))
