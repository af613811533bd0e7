-- 02 §1 in the question: what has become of refusal 11, and that no length has changed. 18 joins 9 to 13 as what makes a length unfit.
use Prim.Native.Nat.{ℕ, ◌+◌, ◌/◌}
use mathlib.Core.List.{List, [], ◌++◌}
use mathlib.Core.Bool.{Bool, ◌&&◌}
use mathlib.Core.Path.{◌≡◌, refl, sym, ap, ◌∙◌}
use native.Mathlib.Omega.{arith}
use lib.Dec.{eqb, leb}
use Rattle.whole.specs.Pick.{pick}
use Rattle.whole.proofs.Pick.{pick_of}
use Rattle.ship.specs.declared.Ship.{Ship}
use Rattle.ship.specs.Vessel.{houses_of}
use Rattle.ship.specs.Refusals.{Paper, first}
use Rattle.ship.specs.Checks.{house_lines, ship_lines}
use Rattle.ship.proofs.Split.{Plain, house_lines01, ship_lines01, split_lines, same_zero, split_answer}
use Rattle.record.specs.Layout.{ship_in}
use Rattle.record.specs.Reading.{frame_lines}
use Rattle.record.proofs.Split.{SplitOn, split_call}
use Rattle.mark.specs.Others.{mark_lines}
use Rattle.steps.specs.Steps.{summer_of, particulars_of}
use Rattle.trial.specs.Poop.{with_poop, within, marks_within, fits_at}
use Rattle.question.specs.Question.{Reply, refusing, Shortest, fitting, none, shortest_from, shortest_for, ask_lines, reply_of, reply_in}
use Rattle.question.proofs.Search.{is_shortest, same_search}

-- ---- the question as 01 had it: each length tried by 9 to 13
abbrev pub fits_at01 : Ship → ℕ → ℕ → ℕ → Bool
fits_at01 x height wish k =
    let y = with_poop height k x in
    within (house_lines01 y.length.0 (houses_of y) ++ mark_lines (particulars_of y) (summer_of y)) (summer_of y) wish

abbrev pub shortest_for01 : Ship → ℕ → ℕ → Reply
shortest_for01 x height wish = shortest_from (fits_at01 x height wish) (x.length.0 / 100 + 1) 0

abbrev pub reply_in01 : List ℕ → ℕ → ℕ → Reply
reply_in01 s height wish =
    let x = ship_in s in
    reply_of (first (frame_lines s ++ ship_lines01 x ++ ask_lines x height wish)) (shortest_for01 x height wish)

-- ---- the same lengths fit
same_fit : (x : Ship) (height wish k : ℕ) → fits_at x height wish k ≡ fits_at01 x height wish k
unfolding fits_at marks_within within
same_fit x height wish k =
    let y = with_poop height k x in
    let l = y.length.0 in
    let hs = houses_of y in
    let more = mark_lines (particulars_of y) (summer_of y) in
    let e = (split_lines l hs [] more tt (omega arith)).joins in
    ap (λ (b : Bool). b && leb (summer_of y) wish) (sym (same_zero l hs (first (house_lines l hs ++ more))) ∙ ap (λ (p : Paper). eqb p.number 0) e)

same_shortest : (x : Ship) (height wish : ℕ) → shortest_for x height wish ≡ shortest_for01 x height wish
unfolding shortest_for
same_shortest x height wish =
    same_search (fits_at x height wish) (fits_at01 x height wish) x.length.0 (x.length.0 / 100 + 1) 0 (omega arith) (λ k h. same_fit x height wish k)

-- ---- and the same is answered
-- a length or 16
search_plain : (fits : ℕ → Bool) (L : ℕ) (r : Reply) → Shortest fits L r → Plain r.verdict
search_plain fits L r (fitting k m e f) = (λ z. omega arith, λ z. omega arith, refl)
search_plain fits L r (none f) = (λ z. omega arith, λ z. omega arith, refl)

verdict_of_lem : (p : Paper) (r : Reply) → pick (eqb p.number 0) r.verdict p ≡ (reply_of p r).verdict
verdict_of_lem p r = pick_of (λ (z : Reply). z.verdict) (eqb p.number 0) r (refusing p)

length_of : (p : Paper) (r : Reply) → pick (eqb p.number 0) r.decimetres 0 ≡ (reply_of p r).decimetres
length_of p r = pick_of (λ (z : Reply). z.decimetres) (eqb p.number 0) r (refusing p)

module _ (s : List ℕ) (height wish : ℕ) where
  abbrev x : Ship
  x = ship_in s

  abbrev new : Paper
  new = first (frame_lines s ++ ship_lines x ++ ask_lines x height wish)

  abbrev old : Paper
  old = first (frame_lines s ++ ship_lines01 x ++ ask_lines x height wish)

  lines_split : SplitOn x new old
  lines_split = split_call s (ask_lines x height wish) (omega arith)

  pub split_poop : SplitOn x (reply_in s height wish).verdict (reply_in01 s height wish).verdict
  unfolding reply_in
  split_poop =
      let r = shortest_for x height wish in
      rw (← same_shortest x height wish, ← verdict_of_lem new r, ← verdict_of_lem old r)
      (split_answer x.length.0 (houses_of x) new old r.verdict (search_plain (fits_at x height wish) x.length.0 r (is_shortest x height wish)) lines_split)

  pub same_length : (reply_in s height wish).decimetres ≡ (reply_in01 s height wish).decimetres
  unfolding reply_in
  same_length =
      let r = shortest_for x height wish in
      rw (← same_shortest x height wish, ← length_of new r, ← length_of old r, ← lines_split.joins, same_zero x.length.0 (houses_of x) new) refl
