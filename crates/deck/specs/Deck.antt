-- What the houses of a list give to the steps, gathered; and how one more house before the others changes it. Each amount is the definition of 33 to 35, of
-- 31's house amidships or of 38's cover that the steps name, E by its sums: nobody needs to believe this page.
use Rattle.std.specs.Prelude.{ℕ, ◌+◌, ◌*◌, ◌≤◌, Bool, List, ◌≡◌}
use Rattle.whole.specs.Pick.{pick}
use Rattle.ship.specs.declared.House.{House}
use Rattle.houses.specs.Length.{part_of, covered_length}
use Rattle.houses.specs.Forecastle.{is_forecastle, forecastle_of}
use Rattle.houses.specs.Cover.{reach_of, reach}
use Rattle.houses.specs.Amidships.{covers_amidships, amidships_of}
use Rattle.effective.specs.Unrounded.{low_height, ratio_of, FairRatio, unrounded_of, FairLength}
use Rattle.summed.specs.Summed.{summed_of, bottom_in, summed_with, effective_on, FairSummed}
use Rattle.deck.specs.declared.Deck.{Deck}
use Rattle.deck.specs.declared.Forecastle.{Forecastle}

-- of the house that is the forecastle
abbrev pub as_forecastle : ℕ → House → Forecastle
as_forecastle l h = record { effective = unrounded_of l h; part = record { 0 = part_of l h }; height = h.height }

unfoldable pub deck_of : ℕ → List House → Deck
deck_of l hs = record {
  s = record { 0 = covered_length l hs };
  effective = summed_of l hs;
  reach = reach l hs;
  forecastle = as_forecastle l (forecastle_of l hs);
  amidships = ratio_of l (amidships_of l hs);
}

-- a deck with one more house before the others
unfoldable pub deck_with : ℕ → House → Deck → Deck
deck_with l h d = record {
  s = record { 0 = part_of l h + d.s.0 };
  effective = summed_with h (unrounded_of l h) d.effective;
  reach = reach_of l h + d.reach;
  forecastle = pick (is_forecastle l h) (as_forecastle l h) d.forecastle;
  amidships = pick (covers_amidships l h) (ratio_of l h) d.amidships;
}

-- amounts that leave room for what is worked with them
pub record FairDeck (l : ℕ) (d : Deck) : Type 0 where
  pub s : d.s.0 ≤ l
  pub sums : FairSummed d.effective
  pub bottoms : (quarterdeck : Bool) → bottom_in quarterdeck d.effective ≡ (low_height l quarterdeck).top
  pub e : effective_on d.effective ≤ 1000 * l
  pub reach : d.reach ≤ 2 * l
  pub forecastle : FairLength d.forecastle.effective
  pub part : d.forecastle.part.0 ≤ l
  pub height : d.forecastle.height.0 ≤ 8191
  pub amidships : FairRatio d.amidships
