-- Demand 3 of the call on any bytes, each part in one statement.
use Prim.Native.Nat.{ℕ, ◌*◌, ◌≤◌, ◌<◌}
use mathlib.Core.Bool.{Bool, true, false, ◌&&◌}
use mathlib.Core.List.{List, ◌++◌}
use mathlib.Core.Path.{◌≡◌, refl, sym, ap, subst, ◌∙◌}
use lib.Dec.{eqb, leb}
use borrow.Author.Tests.{eqb-false, le-ltb, lt-leb}
use native.Mathlib.Nat.{lt_of_lt_of_le}
use native.Mathlib.Omega.{arith}
use Rattle.whole.specs.Pick.{pick}
use Rattle.ship.specs.declared.House.{House}
use Rattle.ship.specs.declared.Ship.{Ship}
use Rattle.ship.specs.Kinds.{kind_covers}
use Rattle.ship.specs.Vessel.{houses_of}
use Rattle.ship.specs.Refusals.{Paper, Line, accepted, first}
use Rattle.ship.specs.Checks.{field_lines, house_lines, ship_lines}
use Rattle.ship.proofs.Lines.{first_has, AllPass, all_pass_split, first_skip}
use Rattle.record.specs.Layout.{ship_in}
use Rattle.record.specs.Reading.{frame_lines, reading_in}
use Rattle.record.proofs.Framed.{passes_all, ship_is}
use Rattle.basis.specs.Basis.{basis_of}
use Rattle.steps.specs.Steps.{basis, summer_of, particulars_of}
use Rattle.steps.proofs.Types.{floor_least}
use Rattle.mark.specs.Others.{mark_lines}
use Rattle.trial.specs.Poop.{poop_house, with_first, with_poop, within, marks_within, fits_at}
use Rattle.question.specs.Question.{Reply, refusing, no_room, no_length, Shortest, fitting, none, ask_lines, reply_of, shortest_for, reply_in}
use Rattle.question.proofs.Search.{is_shortest, one_shortest}

-- a reply of number 0 or 16 is the search's
from_search : (p : Paper) (r : Reply) → ¬ (p.number ≡ 16) → (¬ ((reply_of p r).verdict.number ≡ 0) → (reply_of p r).verdict.number ≡ 16) → reply_of p r ≡ r
unfolding pick
from_search p r other h = go (eqb p.number 0) refl h
  where
    go : (b : Bool) → eqb p.number 0 ≡ b → (¬ ((pick b r (refusing p)).verdict.number ≡ 0) → (pick b r (refusing p)).verdict.number ≡ 16) → pick b r (refusing p) ≡ r
    go true e h = refl
    go false e h = absurd (other (h (eqb-false p.number 0 e)))

-- the facts, taken out again
module _ (fits : ℕ → Bool) (L : ℕ) where
  of_given : (r : Reply) → Shortest fits L r → r.verdict.number ≡ 0
      → (100 * r.decimetres ≤ L) × (fits r.decimetres ≡ true) × ((j : ℕ) → j < r.decimetres → fits j ≡ false)
  of_given r (fitting k m e f) z = (m, e, f)
  of_given r (none f) z = absurd (omega arith)

  pub of_none : (r : Reply) → Shortest fits L r → r.verdict.number ≡ 16 → (j : ℕ) → 100 * j ≤ L → fits j ≡ false
  of_none r (fitting k m e f) z = absurd (omega arith)
  of_none r (none f) z = f

  beside : (r : Reply) → Shortest fits L r → ¬ (r.verdict.number ≡ 0) → r.decimetres ≡ 0
  beside r (fitting k m e f) n = absurd (n refl)
  beside r (none f) n = refl

-- ---- a length fits only if its mark, which is at least the floor, is within the wish
high : (b : Bool) (S wish : ℕ) → wish < S → (b && leb S wish) ≡ false
high true S wish h = lt-leb S wish h
high false S wish h = refl

unfit : (x : Ship) (height wish k : ℕ) → wish < (basis x).floor → fits_at x height wish k ≡ false
unfolding fits_at marks_within within with_poop with_first pick
unfit x height wish k h =
    let y = with_poop height k x in
    high (eqb (first (house_lines y.length.0 (houses_of y) ++ mark_lines (particulars_of y) (summer_of y))).number 0) (summer_of y) wish
    (lt_of_lt_of_le (same_floor (eqb k 0) h) (floor_least y))
  where
    same_floor : (b : Bool) → wish < (basis x).floor → wish < (basis (pick b x (with_first (poop_house height k) x))).floor
    same_floor true h = h
    same_floor false h = h

module _ (s : List ℕ) (height wish : ℕ) where
  abbrev x : Ship
  x = ship_in s

  abbrev lines : List Line
  lines = frame_lines s ++ ship_lines x ++ ask_lines x height wish

  same : (¬ ((reply_in s height wish).verdict.number ≡ 0) → (reply_in s height wish).verdict.number ≡ 16) → reply_in s height wish ≡ shortest_for x height wish
  unfolding reply_in
  same h = from_search (first lines) (shortest_for x height wish) (first_has (λ p. ¬ (p.number ≡ 16)) (λ e. omega arith) lines (omega arith)) h

  found : (¬ ((reply_in s height wish).verdict.number ≡ 0) → (reply_in s height wish).verdict.number ≡ 16) → Shortest (fits_at x height wish) x.length.0 (reply_in s height wish)
  found h = subst (λ (r : Reply). Shortest (fits_at x height wish) x.length.0 r) (sym (same h)) (is_shortest x height wish)

  -- the answer fits, and nothing shorter does
  pub answer_fits : (reply_in s height wish).verdict.number ≡ 0
      → let k = (reply_in s height wish).decimetres in
      (100 * k ≤ x.length.0) × (fits_at x height wish k ≡ true) × ((j : ℕ) → j < k → fits_at x height wish j ≡ false)
  answer_fits e = of_given (fits_at x height wish) x.length.0 (reply_in s height wish) (found (λ n. absurd (n e))) e

  -- 16 says that nothing fits, and where nothing fits and no line before it refuses, it is given
  pub sixteen : (reply_in s height wish).verdict.number ≡ 16 → (j : ℕ) → 100 * j ≤ x.length.0 → fits_at x height wish j ≡ false
  sixteen e = of_none (fits_at x height wish) x.length.0 (reply_in s height wish) (found (λ n. e)) e

  pub sixteen_given : first lines ≡ accepted → ((j : ℕ) → 100 * j ≤ x.length.0 → fits_at x height wish j ≡ false) → reply_in s height wish ≡ no_length
  unfolding reply_in pick
  sixteen_given e f =
      rw e (one_shortest (fits_at x height wish) x.length.0 (shortest_for x height wish) no_length (is_shortest x height wish) (none f))

  -- no summer mark is below the floor of the ship's type, so that a smaller wish has no length
  pub below_floor : first lines ≡ accepted → wish < (basis x).floor → reply_in s height wish ≡ no_length
  below_floor e h = sixteen_given e (λ j i. unfit x height wish j h)

  -- these facts leave one answer
  pub one_length : first lines ≡ accepted → (r : Reply) → Shortest (fits_at x height wish) x.length.0 r → r ≡ reply_in s height wish
  unfolding reply_in pick
  one_length e r f =
      rw e (one_shortest (fits_at x height wish) x.length.0 r (shortest_for x height wish) f (is_shortest x height wish))

  -- beside a refusal, whichever it is, the length is zero
  pub zero_beside_refusal : ¬ ((reply_in s height wish).verdict.number ≡ 0) → (reply_in s height wish).decimetres ≡ 0
  unfolding reply_in pick
  zero_beside_refusal = go (eqb (first lines).number 0)
    where
      go : (b : Bool) → let r = pick b (shortest_for x height wish) (refusing (first lines)) in ¬ (r.verdict.number ≡ 0) → r.decimetres ≡ 0
      go true n = beside (fits_at x height wish) x.length.0 (shortest_for x height wish) (is_shortest x height wish) n
      go false n = refl

-- ---- a k fits by 9 to 13, 18 and 23: 7, 22 and 8 pass on the ship with the poop as on the ship without
fields_either : (x : Ship) (h : House) (b : Bool) → AllPass (field_lines x) → AllPass (field_lines (pick b x (with_first h x)))
unfolding with_first pick
fields_either x h true p = p
fields_either x h false p = p

pub whole_calculation : (s : List ℕ) (x : Ship) (height wish k : ℕ) → reading_in s ≡ record { verdict = accepted; ship = x }
    → let y = with_poop height k x in
    fits_at x height wish k ≡ within (ship_lines y ++ mark_lines (particulars_of y) (summer_of y)) (summer_of y) wish
unfolding fits_at marks_within within with_poop
whole_calculation s x height wish k e =
    let y = with_poop height k x in
    let hs = house_lines y.length.0 (houses_of y) in
    let a : AllPass (ship_lines x) = subst (λ (z : Ship). AllPass (ship_lines z)) (ship_is s x e) (passes_all s x e).1 in
    let p = fields_either x (poop_house height k) (eqb k 0) (all_pass_split (field_lines x) (house_lines x.length.0 (houses_of x)) a).0 in
    ap (λ (v : Paper). eqb v.number 0 && leb (summer_of y) wish) (sym (first_skip (field_lines y) (hs ++ mark_lines (particulars_of y) (summer_of y)) p))

-- ---- with portable covers, whose floor is 150 mm, a wish of 50 to 149 is in 14's range and has no length
asked_well : (x : Ship) (height wish : ℕ) → (1 ≤ height) × (height ≤ 8191) → (50 ≤ wish) × (wish ≤ 60000) → no_room x ≡ false → first (ask_lines x height wish) ≡ accepted
unfolding first pick
asked_well x height wish h w r =
    rw (le-ltb height 1 h.0, le-ltb 8191 height h.1, le-ltb wish 50 w.0, le-ltb 60000 wish w.1, r) refl

pub below_covers : (s : List ℕ) (x : Ship) (height wish : ℕ) → reading_in s ≡ record { verdict = accepted; ship = x } → x.kind ≡ kind_covers
    → no_room x ≡ false → (1 ≤ height) × (height ≤ 8191) → (50 ≤ wish) × (wish < 150) → reply_in s height wish ≡ no_length
unfolding basis_of
below_covers s x height wish e k r h w =
    let y = ship_in s in
    let same = ship_is s x e in
    let p = passes_all s x e in
    let passed =
    first_skip (frame_lines s) (ship_lines y ++ ask_lines y height wish) p.0 ∙ first_skip (ship_lines y) (ask_lines y height wish) p.1
    ∙ asked_well y height wish h (w.0, omega arith) (ap no_room same ∙ r) in
    below_floor s height wish passed
    (subst (λ (kind : ℕ). wish < (basis_of kind y.length.0).floor) (sym (ap (λ (z : Ship). z.kind) same ∙ k)) w.1)
