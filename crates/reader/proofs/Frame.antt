-- What checks 1 to 6 say, check by check as the reader comes to them.
use Prim.Native.Nat.{ℕ, ◌+◌, ◌≤◌, ◌<◌}
use mathlib.Core.List.{List, [], ◌∷◌, ◌++◌}
use mathlib.Core.Path.{◌≡◌, refl, sym, ap, ◌∙◌}
use mathlib.Core.Bool.{not}
use lib.Dec.{eqb, ltb}
use lib.ListN.{length}
use borrow.Author.Tests.{lt-ltb, le-ltb, ltb-false, eqb-true, not-false}
use native.Mathlib.Omega.{arith}
use Rattle.whole.specs.Pick.{pick}
use Rattle.ship.specs.declared.refusal.Refusal.{Refusal}
use Rattle.ship.specs.Refusals.{Paper, accepted, refused, refused_as, first}
use Rattle.ship.specs.declared.Ship.{Ship}
use Rattle.ship.specs.Vessel.{no_ship}
use Rattle.ship.specs.Checks.{ship_lines}
use Rattle.ship.proofs.Lines.{all_pass, first_skip, first_accepted, first_refused}
use Rattle.record.specs.declared.Head.{Head}
use Rattle.record.specs.Layout.{record_length, head_in, places_in, ship_of, ship_in}
use Rattle.record.specs.Reading.{Reading, spares_in, head_lines, spare_line, frame_lines, reading_of, reading_in}
use Rattle.record.proofs.Framed.{reading_framed, reading_refused}

-- what a right head shows
pub headed : (h : Head) (l : ℕ) → first (head_lines h l) ≡ accepted → (h.count ≤ 8) × (l ≡ record_length h.version h.count)
headed h l e =
    let p = all_pass (head_lines h l) (omega arith) (ap (λ (v : Paper). v.number) e) in
    (ltb-false 8 h.count p.1.1.1.0, eqb-true l (record_length h.version h.count) (not-false (eqb l (record_length h.version h.count)) p.1.1.1.1.0))

pub frame_short : (s : List ℕ) → length s < 27 → first (frame_lines s) ≡ refused 1 0
unfolding first pick
frame_short s l = rw (lt-ltb (length s) 27 l) refl

module _ (s : List ℕ) (h : Head) (is : h ≡ head_in s) (long : 27 ≤ length s) where
  -- with bytes enough, the head decides, then the spare bits
  frame_long : first (frame_lines s) ≡ first (head_lines h (length s) ++ (spare_line h s ∷ []))
  frame_long =
      first_skip ((ltb (length s) 27, refused 1 0) ∷ []) (head_lines (head_in s) (length s) ++ (spare_line (head_in s) s ∷ [])) (le-ltb (length s) 27 long, tt)
      ∙ ap (λ (g : Head). first (head_lines g (length s) ++ (spare_line g s ∷ []))) (sym is)

  pub frame_head : (r : Refusal) → first (head_lines h (length s)) ≡ refused_as r → first (frame_lines s) ≡ refused_as r
  frame_head r e = frame_long ∙ first_refused (head_lines h (length s)) (spare_line h s ∷ []) r (omega arith) e

  pub frame_spare : first (head_lines h (length s)) ≡ accepted → first (frame_lines s) ≡ pick (not (eqb (h.spare + spares_in h.version s h.count) 0)) (refused 6 0) accepted
  unfolding first
  frame_spare right = frame_long ∙ first_accepted (head_lines h (length s)) (spare_line h s ∷ []) (omega arith) right

  pub ship_whole : ship_of h (places_in h.version h.count s) ≡ ship_in s
  unfolding ship_in
  ship_whole = ap (λ (g : Head). ship_of g (places_in g.version g.count s)) is

-- ---- the ship of a frame, and what it then reads as
module _ (s : List ℕ) where
  pub framed_refused : (r : Refusal) → first (frame_lines s) ≡ refused_as r → record { verdict = refused_as r; ship = no_ship } ≡ reading_of (first (frame_lines s)) (ship_in s)
  framed_refused r e = sym (ap (λ (p : Paper). reading_of p (ship_in s)) e ∙ reading_refused r (ship_in s))

  pub framed_accepted : (x : Ship) → x ≡ ship_in s → first (frame_lines s) ≡ accepted → record { verdict = accepted; ship = x } ≡ reading_of (first (frame_lines s)) (ship_in s)
  unfolding pick
  framed_accepted x is e = rw (e, is) refl

  -- what is framed reads as its own checks say
  pub judged : (x : Ship) → record { verdict = accepted; ship = x } ≡ reading_of (first (frame_lines s)) (ship_in s) → reading_in s ≡ reading_of (first (ship_lines x)) x
  unfolding pick
  judged x e =
      let p : first (frame_lines s) ≡ accepted = ap (λ (z : Reading). z.verdict) (sym e) in
      let is : x ≡ ship_in s = ap (λ (z : Reading). z.ship) e ∙ ap (λ (v : Paper). pick (eqb v.number 0) (ship_in s) no_ship) p in
      rw is (reading_framed s p)
