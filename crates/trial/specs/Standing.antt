-- The trial of one length by what stays the same from length to length. That it answers as `fits_at` does is a theorem (`fits_same`): nobody needs to believe this page.
use Rattle.std.specs.Prelude.{ℕ, ◌-◌, ◌*◌, ◌≤◌, ◌<◌, Bool, ◌&&◌, ◌≡◌, eqb, leb}
use Rattle.whole.specs.Pick.{pick}
use Rattle.units.specs.Datum.{station_of}
use Rattle.ship.specs.declared.Ship.{Ship}
use Rattle.ship.specs.Vessel.{houses_of, house_at}
use Rattle.effective.specs.Unrounded.{ratio_of}
use Rattle.deck.specs.declared.Deck.{Deck}
use Rattle.deck.specs.Deck.{deck_of, deck_with, FairDeck}
use Rattle.mark.specs.Others.{mark_lines}
use Rattle.steps.specs.Steps.{particulars_of}
use Rattle.hull.specs.Parts.{hull_of, FairHull}
use Rattle.summer.specs.Parts.{summer_on}
use Rattle.trial.specs.declared.Standing.{Standing}
use Rattle.trial.specs.Poop.{poop_house, within}

-- how far a poop may reach: to the first house, or to L
unfoldable pub room_of : Ship → ℕ
room_of x = pick (eqb x.n 0) x.length.0 ((house_at x.houses 0).aft.0 - station_of 0)

unfoldable pub standing_of : Ship → ℕ → ℕ → Standing
standing_of x height wish = record {
  hull = hull_of x;
  deck = deck_of x.length.0 (houses_of x);
  ratio = ratio_of x.length.0 (poop_house height 0);
  room = record { 0 = room_of x };
  particulars = particulars_of x;
  height = record { 0 = height };
  wish = wish;
}

-- the deck with a poop of k dm; k = 0 adds none
unfoldable pub deck_for : Standing → ℕ → Deck
deck_for q k = pick (eqb k 0) q.deck (deck_with q.hull.length.0 (poop_house q.height.0 k) q.deck)

-- marks that are given, with S at most the wish
unfoldable pub marked_on : Standing → ℕ → Bool
marked_on q S = within (mark_lines q.particulars S) S q.wish

unfoldable pub fits_on : Standing → ℕ → Bool
fits_on q k = leb (100 * k) q.room.0 && marked_on q (summer_on q.hull (deck_for q k))

-- bounds by which no sum or product of a trial overflows, with any poop that there is room for
pub record Fair (q : Standing) : Type 0 where
  pub hull : FairHull q.hull
  pub deck : FairDeck q.hull.length.0 q.deck
  pub ratio : (k : ℕ) → q.ratio ≡ ratio_of q.hull.length.0 (poop_house q.height.0 k)
  pub floor : q.particulars.floor ≤ 60000
  pub depth : q.particulars.depth.0 ≤ 60000
  pub displacement : q.particulars.displacement < 1048576
  pub height_least : 1 ≤ q.height.0
  pub height_most : q.height.0 ≤ 8191
  pub poop : (k : ℕ) → 100 * k ≤ q.hull.length.0 → 100 * k ≤ q.room.0 → FairDeck q.hull.length.0 (deck_for q k)
