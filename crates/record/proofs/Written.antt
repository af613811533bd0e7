-- What the writer's verdict is once type, timber flag and count are right, what an accepted one shows, and what the parts that write the ship need of it.
use Prim.Native.Nat.{ℕ, zero, suc, ◌^◌, ◌≤◌, ◌<◌}
use mathlib.Core.Bool.{Bool, true, false, not, true≢false, and-eq-true_iff}
use mathlib.Core.List.{List, [], ◌∷◌}
use mathlib.Core.Path.{◌≡◌, refl, sym, ap, ◌∙◌}
use lib.Dec.{eqb, ltb, leb}
use lib.ListN.{length}
use borrow.Author.Tests.{le-ltb, le-leb, ltb-true, ltb-false, eqb-true, eq-eqb, not-false}
use native.Mathlib.Omega.{arith}
use Rattle.whole.specs.Pick.{pick}
use Rattle.whole.proofs.Pick.{by_cases}
use Rattle.bits.specs.Fields.{Fit}
use Rattle.ship.specs.declared.House.{House}
use Rattle.ship.specs.declared.Ship.{Ship}
use Rattle.ship.specs.Kinds.{timber_for_a}
use Rattle.ship.specs.Vessel as Vessel
use Rattle.ship.specs.Vessel.{full_breadth, houses_of}
use Rattle.ship.specs.Refusals.{accepted, refused, first}
use Rattle.ship.specs.Checks.{ship_lines}
use Rattle.ship.specs.Good.{GoodHouse, Good}
use Rattle.ship.proofs.Lines.{or_false, all_pass, all_pass_split, first_append, first_passed}
use Rattle.record.specs.Layout.{kind_bits, timber_bits, spare_bits, breadth_bits, bit, last_version, last_type, last_type_in, HousesFit, Holds, any_set_in, lowest_for, head_widths, head_fields, ship_head}
use Rattle.record.specs.Writing.{bytes_for, write_lines, writing_of}
use Rattle.record.proofs.House.{bit_lt, fields_fit}

-- the ship's own checks, then the room
pub writing_judged : (room : ℕ) (x : Ship) → x.kind ≤ last_type → timber_for_a x.kind x.timber ≡ false → x.n ≤ 8
    → writing_of room x ≡ pick (eqb (first (ship_lines x)).number 0) (pick (ltb room (bytes_for x)) (refused 17 0) accepted) (first (ship_lines x))
unfolding writing_of first pick
writing_judged room x k t n =
    rw (le-ltb last_type x.kind k, t, le-ltb 8 x.n n) (first_append (ship_lines x) ((ltb room (bytes_for x), refused 17 0) ∷ []) (omega arith))

pub writing_accepted : (room : ℕ) (x : Ship) → x.kind ≤ last_type → timber_for_a x.kind x.timber ≡ false → x.n ≤ 8 → first (ship_lines x) ≡ accepted → bytes_for x ≤ room → writing_of room x ≡ accepted
unfolding pick
writing_accepted room x k t n e h = writing_judged room x k t n ∙ rw (e, le-ltb room (bytes_for x) h) refl

-- what an accepted write shows: type, timber flag, count, the ship's own checks and the room are right
pub writing_passed : (room : ℕ) (x : Ship) → (writing_of room x).number ≡ 0
    → (x.kind ≤ last_type) × (timber_for_a x.kind x.timber ≡ false) × (x.n ≤ 8) × (first (ship_lines x) ≡ accepted) × (bytes_for x ≤ room)
unfolding writing_of
writing_passed room x e =
    let p = all_pass (write_lines room x) (omega arith) e in
    let r = all_pass_split (ship_lines x) ((ltb room (bytes_for x), refused 17 0) ∷ []) p.1.1.1 in
    (ltb-false last_type x.kind p.0, p.1.0, ltb-false 8 x.n p.1.1.0, first_passed (ship_lines x) r.0, ltb-false room (bytes_for x) r.1.0)

-- ---- the lowest version
-- no house of a list has breadths: by the test, and house by house
none_set_in : (hs : List House) → any_set_in hs ≡ false → (k : ℕ) → k < length hs → full_breadth (Vessel.house_at hs k) ≡ true
unfolding any_set_in
none_set_in [] e k h = absurd (omega arith)
none_set_in (g ∷ hs) e zero h = not-false (full_breadth g) (or_false (not (full_breadth g)) (any_set_in hs) e).0
none_set_in (g ∷ hs) e (suc k) h = none_set_in hs (or_false (not (full_breadth g)) (any_set_in hs) e).1 k (omega arith)

all_full : (hs : List House) → ((k : ℕ) → k < length hs → full_breadth (Vessel.house_at hs k) ≡ true) → any_set_in hs ≡ false
unfolding any_set_in
all_full [] f = refl
all_full (g ∷ hs) f = rw (f 0 (omega arith), all_full hs (λ k h. f (suc k) (omega arith))) refl

-- full breadth is two zeros
full_breadths : (h : House) → full_breadth h ≡ true → (h.breadth.0 ≡ 0) × (h.beam.0 ≡ 0)
full_breadths h e =
    let p = (and-eq-true_iff (eqb h.breadth.0 0) (eqb h.beam.0 0)).0 e in
    (eqb-true h.breadth.0 0 p.0, eqb-true h.beam.0 0 p.1)

breadths_full : (h : House) → h.breadth.0 < 1 → h.beam.0 < 1 → full_breadth h ≡ true
breadths_full h b s = rw (eq-eqb h.breadth.0 0 (omega arith), eq-eqb h.beam.0 0 (omega arith)) refl

-- the version that a flag, breadths or none, and a type ask for: it is one, and has the flag and the type, in its bits too; nothing is spare
abbrev Has : Ship → ℕ → Type 0
Has x v =
    (v < 2 ^ 4) × (x.kind < 2 ^ kind_bits v) × (bit x.timber < 2 ^ timber_bits v) × (0 < 2 ^ spare_bits v)
    × (1 ≤ v) × (v ≤ last_version) × (x.kind ≤ last_type_in v)

pub lowest_has : (x : Ship) → x.kind ≤ last_type → Has x (lowest_for x)
unfolding lowest_for last_type_in kind_bits timber_bits spare_bits pick
lowest_has x k =
    by_cases (Has x) x.timber _ _
    (λ f. omega (arith, bit_lt x.timber))
    (λ f.
    let no : bit x.timber ≡ 0 = ap bit f in
    by_cases (Has x) (any_set_in (houses_of x)) _ _
    (λ s. omega arith)
    (λ s. by_cases (Has x) (ltb (last_type_in 1) x.kind) _ _ (λ t. omega arith) (λ t. omega (arith, ltb-false 1 x.kind t))))

-- it has room for the breadths
lowest_breadths : (x : Ship) → (k : ℕ) → k < length (houses_of x) → GoodHouse x.length.0 (Vessel.house_at (houses_of x) k)
    → let h = Vessel.house_at (houses_of x) k in (h.breadth.0 < 2 ^ breadth_bits (lowest_for x)) × (h.beam.0 < 2 ^ breadth_bits (lowest_for x))
unfolding lowest_for breadth_bits pick
lowest_breadths x k p g =
    let h = Vessel.house_at (houses_of x) k in
    let Q : ℕ → Type 0 = λ v. (h.breadth.0 < 2 ^ breadth_bits v) × (h.beam.0 < 2 ^ breadth_bits v) in
    let wide : (h.breadth.0 < 65536) × (h.beam.0 < 65536) = (omega (arith, g.breadth_most, g.beam_most), omega (arith, g.beam_most)) in
    by_cases Q x.timber _ _
    (λ b. wide)
    (λ b. by_cases Q (any_set_in (houses_of x)) _ _
    (λ s. wide)
    (λ s.
    let f = full_breadths h (none_set_in (houses_of x) s k p) in
    by_cases Q (ltb (last_type_in 1) x.kind) _ _ (λ t. (omega (arith, f), omega (arith, f))) (λ t. (omega (arith, f), omega (arith, f)))))

pub houses_fit : (x : Ship) → Good x → HousesFit (lowest_for x) (houses_of x)
houses_fit x g = record {
  each = λ k p.
      let h = g.houses.each k p in
      let b = lowest_breadths x k p h in
      fields_fit (lowest_for x) (Vessel.house_at (houses_of x) k) (omega (arith, h.height_most)) b.0 b.1;
}

-- so it holds the ship
pub lowest_holds : (x : Ship) → x.kind ≤ last_type → Good x → Holds (lowest_for x) x
lowest_holds x k g = let v = lowest_has x k in (v.4, v.5, v.6, v.2, houses_fit x g)

-- and no lower one does
pub lowest_is_lowest : (x : Ship) (version : ℕ) → version < lowest_for x → ¬ (Holds version x)
unfolding lowest_for timber_bits breadth_bits pick
lowest_is_lowest x version l holds = flag x.timber refl l
  where
    go : (b : Bool) → any_set_in (houses_of x) ≡ b → version < pick b 3 (pick (ltb (last_type_in 1) x.kind) 2 1) → ⊥
    go true e m =
        let low : leb version 2 ≡ true = le-leb version 2 (omega arith) in
        let none = all_full (houses_of x) (λ k p.
        let f = rw low at (holds.4.each k p) in
        breadths_full (Vessel.house_at (houses_of x) k) f.1.1.1.1.1.1.0 f.1.1.1.1.1.1.1.0) in
        true≢false (sym e ∙ none)
    go false e m =
        by_cases (λ (v : ℕ). version < v → ⊥) (ltb (last_type_in 1) x.kind) _ _
        (λ t n. let o : version ≡ 1 = omega (arith, holds.0) in omega (arith, ltb-true (last_type_in 1) x.kind t, rw o at holds.2))
        (λ t n. omega (arith, holds.0)) m

    flag : (b : Bool) → x.timber ≡ b → version < pick b 4 (pick (any_set_in (houses_of x)) 3 (pick (ltb (last_type_in 1) x.kind) 2 1)) → ⊥
    flag true e m = let low : leb version 3 ≡ true = le-leb version 3 (omega arith) in let f = rw (low, e) at holds.3 in omega (arith, f)
    flag false e m = go (any_set_in (houses_of x)) refl m

pub head_fits : (x : Ship) → x.kind ≤ last_type → x.n ≤ 8 → Good x → Fit (head_widths (ship_head x).version) (head_fields (ship_head x))
head_fits x k n g =
    let v = lowest_has x k in
    (v.0, (v.1, (omega arith, (v.2, (v.3, omega arith)))))
