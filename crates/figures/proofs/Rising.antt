-- A longer poop can raise the mark, and one longer still can fit. So a search that stops where the mark first rises is wrong: a ship shows it.
use Prim.Native.Nat.{ℕ, zero, suc, ◌+◌}
use mathlib.Core.Bool.{Bool, true, false, true≢false}
use mathlib.Core.List.{List, [], ◌∷◌, map}
use mathlib.Core.Path.{◌≡◌, refl, sym, ap, ◌∙◌}
use native.Mathlib.Omega.{arith}
use lib.Dec.{ltb}
use lib.ListN.{replicate}
use Rattle.units.specs.declared.Ordinate.{Ordinate}
use Rattle.units.specs.Datum.{lift}
use Rattle.ship.specs.declared.Ship.{Ship}
use Rattle.ship.specs.Vessel.{no_house}
use Rattle.ship.specs.Refusals.{accepted, first}
use Rattle.ship.specs.Checks.{ship_lines}
use Rattle.steps.specs.Steps.{summer_of}
use Rattle.trial.specs.Poop.{with_poop, fits_at}
use Rattle.question.specs.Question.{Reply, given, no_length, shortest_for, reply_for}
use Rattle.question.proofs.Search.{is_shortest}
use Rattle.poop.proofs.Theorems.{of_none}
use Rattle.figures.specs.Figures.{set_in, house}
use Rattle.figures.proofs.Claim.{Tools, Reader, Houses, Corrections, Marking, Asking}

abbrev ordinates : List ℕ → List Ordinate
ordinates o = map (λ (mm : ℕ). record { 0 = lift + mm }) o

-- type A, with a house amidships and more sheer than the standard; of 150 mm, a poop of 0, 1 and 280 dm gives S 823, 824 and 820
unfoldable pub rising : Ship
rising = record {
  kind = 0;
  n = 1;
  timber = false;
  length = record { 0 = 80000 };
  depth = record { 0 = 6500 };
  moulded = record { 0 = 6500 };
  block = 7000;
  waterplane = 9800;
  sheer = ordinates (1120 ∷ 490 ∷ 120 ∷ 240 ∷ 990 ∷ 2250 ∷ []);
  displacement = 0;
  immersion = 0;
  houses = house 28000 51200 2000 ∷ replicate 7 no_house;
}

-- the checks accept it
pub rising_accepted : first (ship_lines rising) ≡ accepted
unfolding rising set_in Tools Reader
rising_accepted = refl

abbrev pub mark : ℕ → ℕ
mark k = summer_of (with_poop 150 k rising)

abbrev pub fits : ℕ → Bool
fits k = fits_at rising 150 822 k

-- the search that gives up where the next mark is greater
unfoldable pub until_rise : ℕ → ℕ → Reply
until_rise zero k = no_length
until_rise (suc m) k = elim (fits k) [ true ↦ given k | false ↦ elim (ltb (mark k) (mark (k + 1))) [ true ↦ no_length | false ↦ until_rise m (k + 1) ] ]

gives_up : until_rise 801 0 ≡ no_length
unfolding until_rise rising set_in Tools Reader Houses Corrections Marking Asking
gives_up = refl

fits_later : fits 280 ≡ true
unfolding rising set_in Tools Reader Houses Corrections Marking Asking
fits_later = refl

-- height, wish and room for a poop pass, so the search answers
asked : reply_for rising 150 822 ≡ shortest_for rising 150 822
unfolding rising set_in Tools reply_for
asked = refl

pub stops_at_rise : ¬ (until_rise 801 0 ≡ reply_for rising 150 822)
unfolding rising
stops_at_rise e =
    let z : shortest_for rising 150 822 ≡ no_length = sym asked ∙ sym e ∙ gives_up in
    let f = of_none fits 80000 (shortest_for rising 150 822) (is_shortest rising 150 822) (ap (λ (r : Reply). r.verdict.number) z) 280 (omega arith) in
    true≢false (sym fits_later ∙ f)
