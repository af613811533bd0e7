-- What checks 9 to 11, 18 and 23 show of a list of houses, said along the list.
use Prim.Native.Nat.{ℕ, suc, ◌≤◌, ◌<◌}
use mathlib.Core.List.{List, [], ◌∷◌}
use lib.ListN.{length}
use native.Mathlib.Numerals.{add-one}
use native.Mathlib.Omega.{arith}
use Rattle.ship.specs.declared.House.{House}
use Rattle.ship.specs.Vessel.{house_at}
use Rattle.ship.specs.Good.{GoodHouses}

-- in order from the station m on, none over another
abbrev pub InOrder : ℕ → List House → Type 0
InOrder m [] = Unit {0}
InOrder m (h ∷ hs) = (m ≤ h.aft.0) × (h.aft.0 ≤ h.fore.0) × InOrder h.fore.0 hs

pub tail : {l : ℕ} {h : House} {hs : List House} → GoodHouses l (h ∷ hs) → GoodHouses l hs
tail g = record { each = λ k p. g.each (suc k) (omega arith); order = λ k p. rw (add-one k) (rw (add-one (suc k)) at (g.order (suc k) (omega arith))) }

from : {l : ℕ} (m : ℕ) (hs : List House) → GoodHouses l hs → (0 < length hs → m ≤ (house_at hs 0).aft.0) → InOrder m hs
from m [] g s = tt
from m (h ∷ hs) g s =
    (s (omega arith), omega (arith, (g.each 0 (omega arith)).ends), from h.fore.0 hs (tail g) (λ p. g.order 0 (omega arith)))

pub in_order : {l : ℕ} {hs : List House} → GoodHouses l hs → InOrder 0 hs
in_order {l} {hs} g = from 0 hs g (λ p. omega arith)
