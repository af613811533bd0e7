-- 31 in the question: the poop covers 0.2 L to 0.8 L exactly from 100k = 0.8 L on, and is then the house amidships.
use Prim.Native.Nat.{ℕ, ◌+◌, ◌*◌, ◌≤◌}
use mathlib.Core.Path.{◌≡◌, ap₂, ◌∙◌}
use mathlib.Core.Bool.{◌&&◌}
use mathlib.Core.List.{List, ◌∷◌}
use native.Mathlib.Omega.{arith}
use borrow.Author.Tests.{le-leb}
use lib.Dec.{leb}
use Rattle.whole.proofs.Pick.{pick_true, same_test}
use Rattle.units.specs.Datum.{station_of}
use Rattle.ship.specs.declared.House.{House}
use Rattle.houses.specs.Forecastle.{house_that}
use Rattle.houses.specs.Amidships.{covers_amidships, amidships_of}
use Rattle.trial.specs.Poop.{poop_house}

-- 5 times 100k mm against 4 L
pub poop_covers : (l height k : ℕ) → covers_amidships l (poop_house height k) ≡ leb (4 * l) (500 * k)
unfolding covers_amidships poop_house
poop_covers l height k =
    ap₂ ◌&&◌ (le-leb (10 * station_of 0) (10 * station_of 0 + 2 * l) (omega arith))
    (same_test (10 * station_of 0 + 8 * l) (10 * station_of (100 * k)) (4 * l) (500 * k) (λ t. omega arith) (λ t. omega arith))

pub poop_amidships : (l height k : ℕ) (hs : List House) → 4 * l ≤ 500 * k → amidships_of l (poop_house height k ∷ hs) ≡ poop_house height k
unfolding amidships_of house_that
poop_amidships l height k hs p =
    pick_true (covers_amidships l (poop_house height k)) (poop_house height k) (house_that (covers_amidships l) hs) (poop_covers l height k ∙ le-leb (4 * l) (500 * k) p)
