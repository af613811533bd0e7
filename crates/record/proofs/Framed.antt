-- What checks 1 to 6 and 24 show of accepted bytes, and what a reading then is.
use Prim.Native.Nat.{ℕ, ◌+◌, ◌≤◌}
use mathlib.Core.Bool.{false, not}
use mathlib.Core.List.{List, ◌++◌}
use mathlib.Core.Path.{◌≡◌, refl, sym, ap, subst, ◌∙◌}
use lib.ListN.{length}
use lib.Dec.{eqb, ltb}
use borrow.Author.Tests.{ltb-false, eqb-true, eqb-false, not-false, le-ltb, eq-eqb, ne_eqb}
use native.Mathlib.Omega.{arith}
use Rattle.whole.specs.Pick.{pick}
use Rattle.whole.proofs.Pick.{by_cases}
use Rattle.ship.specs.declared.Ship.{Ship}
use Rattle.ship.specs.declared.refusal.Refusal.{Refusal}
use Rattle.ship.specs.Kinds.{timber_for_a}
use Rattle.ship.specs.Vessel.{no_ship}
use Rattle.ship.specs.Refusals.{Paper, accepted, refused_as, first}
use Rattle.ship.specs.Checks.{ship_lines}
use Rattle.ship.proofs.Lines.{or_false, AllPass, all_pass, all_pass_split, first_accepted, first_refused, first_passed, beside_refusal}
use Rattle.ship.specs.Good.{Good}
use Rattle.ship.proofs.Accepted.{good}
use Rattle.record.specs.Layout.{record_length, last_version, last_type, last_type_in, head_in, ship_in}
use Rattle.record.specs.Reading.{Reading, spares_in, frame_lines, reading_of, reading_in}

-- the bytes of a record with a right head, in its right length, with no spare bit set
pub record Framed (s : List ℕ) : Type 0 where
  pub long : 27 ≤ length s
  pub first : 1 ≤ (head_in s).version
  pub last : (head_in s).version ≤ last_version
  pub type : (head_in s).kind ≤ last_type_in (head_in s).version
  pub timber : timber_for_a (head_in s).kind (head_in s).timber ≡ false
  pub few : (head_in s).count ≤ 8
  pub exact : length s ≡ record_length (head_in s).version (head_in s).count
  pub blank : (head_in s).spare + spares_in (head_in s).version s (head_in s).count ≡ 0

pub frame_passed : (s : List ℕ) → AllPass (frame_lines s) → Framed s
frame_passed s p =
    let v = (head_in s).version in
    let known = or_false (eqb v 0) (ltb last_version v) p.1.0 in
    record {
      long = ltb-false (length s) 27 p.0;
      first = (let n : ¬ (v ≡ 0) = eqb-false v 0 known.0 in omega arith);
      last = ltb-false last_version v known.1;
      type = ltb-false (last_type_in v) (head_in s).kind p.1.1.0;
      timber = p.1.1.1.0;
      few = ltb-false 8 (head_in s).count p.1.1.1.1.0;
      exact = eqb-true (length s) (record_length v (head_in s).count) (not-false (eqb (length s) (record_length v (head_in s).count)) p.1.1.1.1.1.0);
      blank = eqb-true _ 0 (not-false _ p.1.1.1.1.1.1.0);
    }

-- no version holds a type past the last
pub type_most : {kind : ℕ} (version : ℕ) → kind ≤ last_type_in version → kind ≤ last_type
unfolding last_type_in
type_most {kind} version = by_cases (λ (t : ℕ). kind ≤ t → kind ≤ last_type) (eqb version 1) _ _ (λ t h. omega arith) (λ t h. h)

-- such bytes pass checks 1 to 6
pub frame_passes : (s : List ℕ) → Framed s → first (frame_lines s) ≡ accepted
frame_passes s f =
    first_passed (frame_lines s) (
      le-ltb (length s) 27 f.long,
      (
        rw (ne_eqb (head_in s).version 0 (λ z. omega (arith, f.first)), le-ltb last_version (head_in s).version f.last) refl,
        (
          le-ltb (last_type_in (head_in s).version) (head_in s).kind f.type,
          (
            f.timber,
            (
              le-ltb 8 (head_in s).count f.few,
              (ap not (eq-eqb (length s) (record_length (head_in s).version (head_in s).count) f.exact), (ap not (eq-eqb ((head_in s).spare + spares_in (head_in s).version s (head_in s).count) 0 f.blank), tt)),
            ),
          ),
        ),
      ),
    )

-- bytes with a right frame read as the ship's own checks say
pub reading_framed : (s : List ℕ) → first (frame_lines s) ≡ accepted → reading_in s ≡ reading_of (first (ship_lines (ship_in s))) (ship_in s)
unfolding reading_in
reading_framed s e = ap (λ (p : Paper). reading_of p (ship_in s)) (first_accepted (frame_lines s) (ship_lines (ship_in s)) (omega arith) e)

-- beside a refusal stands no ship
pub reading_refused : (r : Refusal) (x : Ship) → reading_of (refused_as r) x ≡ record { verdict = refused_as r; ship = no_ship }
reading_refused r x = λ i. record { verdict = refused_as r; ship = beside_refusal r x no_ship i }

-- bytes whose frame is refused have its refusal
pub reading_unframed : (s : List ℕ) (r : Refusal) → first (frame_lines s) ≡ refused_as r
    → reading_in s ≡ record { verdict = refused_as r; ship = no_ship }
unfolding reading_in
reading_unframed s r e =
    ap (λ (p : Paper). reading_of p (ship_in s)) (first_refused (frame_lines s) (ship_lines (ship_in s)) r (omega arith) e) ∙ reading_refused r (ship_in s)

-- ---- what an accepted reading shows of its ship
module _ (s : List ℕ) (x : Ship) (e : reading_in s ≡ record { verdict = accepted; ship = x }) where
  pub passes_all : AllPass (frame_lines s) × AllPass (ship_lines (ship_in s))
  unfolding reading_in
  passes_all =
      all_pass_split (frame_lines s) (ship_lines (ship_in s))
      (all_pass (frame_lines s ++ ship_lines (ship_in s)) (omega arith) (ap (λ (r : Reading). r.verdict.number) e))

  pub ship_is : ship_in s ≡ x
  unfolding pick
  ship_is =
      let t = reading_framed s (first_passed (frame_lines s) passes_all.0) in
      let u = first_passed (ship_lines (ship_in s)) passes_all.1 in
      ap (λ (r : Reading). r.ship) (sym (t ∙ ap (λ (p : Paper). reading_of p (ship_in s)) u) ∙ e)

pub read_is_good : (s : List ℕ) (x : Ship) → reading_in s ≡ record { verdict = accepted; ship = x }
    → (x.kind ≤ last_type) × (timber_for_a x.kind x.timber ≡ false) × (x.n ≤ 8) × Good x
unfolding ship_in
read_is_good s x e =
    let f = frame_passed s (passes_all s x e).0 in
    let p = first_passed (ship_lines (ship_in s)) (passes_all s x e).1 in
    subst (λ (y : Ship). (y.kind ≤ last_type) × (timber_for_a y.kind y.timber ≡ false) × (y.n ≤ 8) × Good y) (ship_is s x e)
    (type_most (head_in s).version f.type, f.timber, f.few, good (ship_in s) (ap (λ (v : Paper). v.number) p))
