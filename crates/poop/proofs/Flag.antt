-- 02 §9 of the question: the timber flag has no part in its answer, but for 24.
use Prim.Native.Nat.{ℕ, ◌+◌, ◌/◌}
use mathlib.Core.Bool.{Bool, true, false}
use mathlib.Core.List.{List, ◌++◌}
use mathlib.Core.Logic.{◌⊎◌, inl, inr}
use mathlib.Core.Path.{◌≡◌, refl, sym, ap, ap₂, ◌∙◌}
use lib.Dec.{eqb}
use Rattle.whole.specs.Pick.{pick}
use Rattle.ship.specs.declared.Ship.{Ship}
use Rattle.ship.specs.Refusals.{Paper, Line, accepted, refused, first}
use Rattle.ship.specs.Checks.{ship_lines}
use Rattle.ship.proofs.Timber.{with_flag}
use Rattle.record.specs.Layout.{head_in, ship_in}
use Rattle.record.specs.Reading.{frame_lines, reading_in}
use Rattle.record.proofs.Flag.{FlagAlone, flag_ship, flag_verdict}
use Rattle.steps.specs.Steps.{covered_s, effective_e, forecastle_house, amidships_ratio, cover_reach, added_to, taken_from, bow_of, summer_of, particulars_of}
use Rattle.trial.specs.Poop.{poop_house, with_first, with_poop, marks_within, fits_at}
use Rattle.question.specs.Question.{refusing, ask_lines, reply_of, shortest_from, shortest_for, reply_for, reply_in}
use Rattle.poop.proofs.Replies.{reply_read}

-- a length fits a ship with the flag as it fits the ship without it
same_marks : (b c : Bool) (x : Ship) (height wish k : ℕ)
    → marks_within (pick c (with_flag b x) (with_first (poop_house height k) (with_flag b x))) wish ≡ marks_within (pick c x (with_first (poop_house height k) x)) wish
unfolding pick marks_within with_first summer_of particulars_of added_to taken_from bow_of covered_s effective_e forecastle_house amidships_ratio cover_reach
same_marks b true x height wish k = refl
same_marks b false x height wish k = refl

flag_fits : (b : Bool) (x : Ship) (height wish k : ℕ) → fits_at (with_flag b x) height wish k ≡ fits_at x height wish k
unfolding fits_at with_poop
flag_fits b x height wish k = same_marks b (eqb k 0) x height wish k

flag_shortest : (b : Bool) (x : Ship) (height wish : ℕ) → shortest_for (with_flag b x) height wish ≡ shortest_for x height wish
unfolding shortest_for
flag_shortest b x height wish = λ i. shortest_from (λ k. flag_fits b x height wish k i) (x.length.0 / 100 + 1) 0

-- of two records that are read, whatever their versions, as ships that differ in the flag alone
pub flag_asked_read : (s t : List ℕ) (b : Bool) (x : Ship)
    → reading_in s ≡ record { verdict = accepted; ship = with_flag b x } → reading_in t ≡ record { verdict = accepted; ship = x }
    → (height wish : ℕ) → reply_in s height wish ≡ reply_in t height wish
unfolding reply_for
flag_asked_read s t b x p q height wish =
    reply_read height wish s (with_flag b x) p ∙ ap (reply_of (first (ask_lines x height wish))) (flag_shortest b x height wish) ∙ sym (reply_read height wish t x q)

-- of any two records that differ in the flag alone, of which the second does not have it: 24, or the same answer
pub flag_asked : (s t : List ℕ) → FlagAlone s t → (head_in t).timber ≡ false → (height wish : ℕ)
    → (reply_in s height wish ≡ refusing (refused 24 0)) ⊎ (reply_in s height wish ≡ reply_in t height wish)
unfolding reply_in pick
flag_asked s t a e height wish =
    let y = ship_in t in
    let more : Ship → List Line = λ z. ship_lines z ++ ask_lines z height wish in
    let same : more (ship_in s) ≡ more y = ap more (flag_ship s t a) in
    let found : shortest_for (ship_in s) height wish ≡ shortest_for y height wish =
    ap (λ (z : Ship). shortest_for z height wish) (flag_ship s t a) ∙ flag_shortest (head_in s).timber y height wish in
    elim (flag_verdict s t a e (more (ship_in s))) [
      | inl h ↦ inl (ap (λ (v : Paper). reply_of v (shortest_for (ship_in s) height wish)) h)
      | inr h ↦ inr (ap₂ reply_of (h ∙ ap (λ (l : List Line). first (frame_lines t ++ l)) same) found)
    ]
