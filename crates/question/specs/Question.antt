-- 01, the shortest-poop question: refusals 1 to 11, 24 after 3, 22 after 7, 23 after 9, and 18 with 11, then 14, 15 and 16, in the papers' order, and the shortest length that fits.
use Rattle.std.specs.Prelude.{ℕ, zero, suc, ◌+◌, ◌*◌, ◌/◌, ◌≤◌, ◌<◌, Bool, true, false, ◌&&◌, ◌||◌, List, [], ◌∷◌, ◌++◌, ◌≡◌, Result, Ok, Err, eqb, ltb, leb}
use Rattle.whole.specs.Pick.{pick}
use Rattle.units.specs.Datum.{station_of}
use Rattle.ship.specs.declared.Ship.{Ship}
use Rattle.ship.specs.declared.refusal.Refusal.{Refusal}
use Rattle.ship.specs.Vessel.{house_at}
use Rattle.ship.specs.Refusals.{Paper, Line, accepted, refused, refused_as, first}
use Rattle.ship.specs.Checks.{ship_lines}
use Rattle.record.specs.Layout.{ship_in}
use Rattle.record.specs.Reading.{frame_lines}
use Rattle.trial.specs.Poop.{fits_at}

-- an answer in 01's own terms: number 0 refuses nothing; beside a refusal the length is zero
pub record Reply : Type 0 where
  pub verdict : Paper
  pub decimetres : ℕ

abbrev pub given : ℕ → Reply
given k = record { verdict = accepted; decimetres = k }

abbrev pub refusing : Paper → Reply
refusing p = record { verdict = p; decimetres = 0 }

-- one definition gives 01's numbers for each case
abbrev pub reply : Result ℕ Refusal → Reply
reply (Ok k) = given k
reply (Err r) = refusing (refused_as r)

-- 14: poop height outside 1..8191, or wish outside 50..60000
abbrev pub bad_asked : ℕ → ℕ → Bool
bad_asked height wish = ltb height 1 || ltb 8191 height || ltb wish 50 || ltb 60000 wish

-- 15: first house has aft end at or below 0, or n is 8; with no house there is no first
abbrev pub no_room : Ship → Bool
no_room x = (ltb 0 x.n && leb (house_at x.houses 0).aft.0 (station_of 0)) || eqb x.n 8

-- 16: no length fits
abbrev pub no_length : Reply
no_length = refusing (refused 16 0)

-- the first of k, k + 1 and so on, m of them, that fits
unfoldable pub shortest_from : (ℕ → Bool) → ℕ → ℕ → Reply
shortest_from fits zero k = no_length
shortest_from fits (suc m) k = elim (fits k) [ true ↦ given k | false ↦ shortest_from fits m (k + 1) ]

-- each k with 100k at most L counts: L / 100 and one more, from 0
unfoldable pub shortest_for : Ship → ℕ → ℕ → Reply
shortest_for x height wish = shortest_from (fits_at x height wish) (x.length.0 / 100 + 1) 0

-- the same said by facts: a length that fits while none shorter does, or that none does
pub data Shortest (fits : ℕ → Bool) (L : ℕ) : Reply → Type 0 where
  fitting : (k : ℕ) → 100 * k ≤ L → fits k ≡ true → ((j : ℕ) → j < k → fits j ≡ false) → Shortest fits L (given k)
  none : ((j : ℕ) → 100 * j ≤ L → fits j ≡ false) → Shortest fits L no_length

-- 14 and 15
abbrev pub ask_lines : Ship → ℕ → ℕ → List Line
ask_lines x height wish = (bad_asked height wish, refused 14 0) ∷ (no_room x, refused 15 0) ∷ []

-- what the lines refuse, else the answer
abbrev pub reply_of : Paper → Reply → Reply
reply_of p r = pick (eqb p.number 0) r (refusing p)

-- the question on a ship that the reader accepts
unfoldable pub reply_for : Ship → ℕ → ℕ → Reply
reply_for x height wish = reply_of (first (ask_lines x height wish)) (shortest_for x height wish)

-- the question on any bytes
unfoldable pub reply_in : List ℕ → ℕ → ℕ → Reply
reply_in s height wish =
    reply_of (first (frame_lines s ++ ship_lines (ship_in s) ++ ask_lines (ship_in s) height wish)) (shortest_for (ship_in s) height wish)
