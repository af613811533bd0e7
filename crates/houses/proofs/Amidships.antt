-- 31: at most one house of an accepted list covers the whole of 0.2 L to 0.8 L.
use mathlib.Core.Path.{◌≡◌}
use mathlib.Core.Bool.{true, ◌&&◌, and-eq-true_iff}
use mathlib.Core.List.{List}
use Prim.Native.Nat.{ℕ, ◌+◌, ◌*◌, ◌≤◌, ◌<◌}
use native.Mathlib.Omega.{arith}
use native.Mathlib.Decide.{dec_lt}
use borrow.Author.Tests.{leb-true}
use lib.Dec.{leb}
use lib.ListN.{length}
use Rattle.units.specs.Datum.{station_of}
use Rattle.ship.specs.declared.House.{House}
use Rattle.ship.specs.Vessel.{house_at}
use Rattle.ship.specs.Good.{GoodHouses}
use Rattle.ship.proofs.Accepted.{later}
use Rattle.houses.specs.Amidships.{covers_amidships}

-- what the test tells
covers : (l : ℕ) (h : House) → covers_amidships l h ≡ true → (10 * h.aft.0 ≤ 10 * station_of 0 + 2 * l) × (10 * station_of 0 + 8 * l ≤ 10 * h.fore.0)
unfolding covers_amidships
covers l h e =
    let both = (and-eq-true_iff (h.enclosed && leb (10 * h.aft.0) (10 * station_of 0 + 2 * l)) (leb (10 * station_of 0 + 8 * l) (10 * h.fore.0))).0 e in
    let aft = (and-eq-true_iff h.enclosed (leb (10 * h.aft.0) (10 * station_of 0 + 2 * l))).0 both.0 in
    (leb-true _ _ aft.1, leb-true _ _ both.1)

module _ (l : ℕ) (hs : List House) (g : GoodHouses l hs) where
  none_later : 0 < l → (j k : ℕ) → k < length hs → covers_amidships l (house_at hs j) ≡ true → covers_amidships l (house_at hs k) ≡ true → k ≤ j
  none_later p j k q u v =
      elim (dec_lt j k) [
        | yes t ↦ absurd (omega (arith, later l hs g j k t q, covers l (house_at hs j) u, covers l (house_at hs k) v))
        | no t ↦ omega arith
      ]

  pub one_amidships : 0 < l → (j k : ℕ) → j < length hs → k < length hs → covers_amidships l (house_at hs j) ≡ true → covers_amidships l (house_at hs k) ≡ true → j ≡ k
  one_amidships p j k q r u v = omega (arith, none_later p j k r u v, none_later p k j q v u)
