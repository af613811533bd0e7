-- 02 §9: two records that differ in the timber flag alone. Checks 1 to 6 answer alike, but that one may be refused by 24, which no type B ship is; and the ships differ in
-- the flag alone. Before version 4 there is no flag.
use Prim.Native.Nat.{ℕ, zero, suc, ◌+◌, ◌-◌, ◌*◌, ◌≤◌}
use mathlib.Core.Bool.{Bool, true, false, not, ◌||◌}
use mathlib.Core.List.{List, [], ◌∷◌, ◌++◌}
use mathlib.Core.Logic.{◌⊎◌, inl, inr}
use mathlib.Core.Path.{◌≡◌, refl, sym, ap, ap₂, subst, ◌∙◌}
use lib.Dec.{eqb, ltb}
use lib.ListN.{length, take, drop, replicate}
use lib.Seq.{drop-drop}
use borrow.Author.Tests.{le-leb, not-true}
use native.Mathlib.Omega.{arith}
use Rattle.whole.specs.Pick.{pick}
use Rattle.ship.specs.Kinds.{kind_a, is_type_b, timber_for_a}
use Rattle.ship.specs.Vessel.{no_house}
use Rattle.ship.specs.Refusals.{Paper, Line, refused, first}
use Rattle.ship.proofs.Timber.{with_flag}
use Rattle.record.specs.declared.Head.{Head}
use Rattle.record.specs.Layout.{timber_bits, record_length, last_version, last_type_in, most_houses, house_size, houses_in, head_in, spare_in, ship_of, places_in, ship_in}
use Rattle.record.specs.Reading.{spares_in, frame_lines}
use Rattle.record.proofs.RoundTrip.{flag_held}

-- a head that differs in the flag alone
abbrev pub head_with : Bool → Head → Head
head_with b h = record {
  version = h.version;
  kind = h.kind;
  count = h.count;
  timber = b;
  spare = h.spare;
  length = h.length;
  depth = h.depth;
  moulded = h.moulded;
  block = h.block;
  waterplane = h.waterplane;
  sheer = h.sheer;
  displacement = h.displacement;
  immersion = h.immersion;
}

-- records of one length whose heads differ in the flag alone, and that are the same behind them
pub record FlagAlone (s t : List ℕ) : Type 0 where
  pub bytes : length s ≡ length t
  pub head : head_in s ≡ head_with (head_in s).timber (head_in t)
  pub behind : drop 27 s ≡ drop 27 t

-- the spare bits of houses are behind the head
spares_behind : (v : ℕ) (s t : List ℕ) → drop 27 s ≡ drop 27 t → (n : ℕ) → spares_in v s n ≡ spares_in v t n
unfolding spares_in
spares_behind v s t e zero = refl
spares_behind v s t e (suc n) =
    let from : drop (27 + house_size v * n) s ≡ drop (27 + house_size v * n) t = sym (drop-drop (house_size v * n) 27 s) ∙ ap (drop (house_size v * n)) e ∙ drop-drop (house_size v * n) 27 t in
    ap₂ (λ (a : ℕ) (d : List ℕ). a + spare_in v (take (house_size v) d)) (spares_behind v s t e n) from

-- the lines of a head of so many bytes, with the test of 24 and the spare bits of its houses
abbrev before24 : Head → ℕ → List Line
before24 h bytes = (ltb bytes 27, refused 1 0) ∷ (eqb h.version 0 || ltb last_version h.version, refused 2 0) ∷ (ltb (last_type_in h.version) h.kind, refused 3 0) ∷ []

abbrev after24 : Head → ℕ → ℕ → List Line
after24 h bytes spares =
    (ltb most_houses h.count, refused 4 0) ∷ (not (eqb bytes (record_length h.version h.count)), refused 5 0) ∷ (not (eqb (h.spare + spares) 0), refused 6 0) ∷ []

abbrev pub line_of24 : Bool → Line
line_of24 b = (b, refused 24 0)

abbrev lines_of : Head → ℕ → ℕ → Bool → List Line
lines_of h bytes spares b = before24 h bytes ++ (line_of24 b ∷ after24 h bytes spares)

-- ---- one line of a list fails, or not: the verdict is its own, or the one without it
one_line : (pre post : List Line) (b : Bool) (p : Paper) → (first (pre ++ ((b, p) ∷ post)) ≡ p) ⊎ (first (pre ++ ((b, p) ∷ post)) ≡ first (pre ++ ((false, p) ∷ post)))
unfolding first pick
one_line [] post true p = inl refl
one_line [] post false p = inr refl
one_line ((true, q) ∷ pre) post b p = inr refl
one_line ((false, q) ∷ pre) post b p = one_line pre post b p

-- of a type B ship the flag is never refused
never_24 : (kind : ℕ) (b : Bool) → is_type_b kind ≡ true → timber_for_a kind b ≡ false
never_24 kind true e = not-true (eqb kind kind_a) e
never_24 kind false e = refl

module _ (s t : List ℕ) (a : FlagAlone s t) where
  pub flag_ship : ship_in s ≡ with_flag (head_in s).timber (ship_in t)
  unfolding ship_in places_in
  flag_ship = ap₂ (λ (h : Head) (d : List ℕ). ship_of h (houses_in h.version h.count d ++ replicate (8 - h.count) no_house)) a.head a.behind

  -- the lines of both are those of one head, but for the test of 24
  abbrev alike : Bool → List Line
  alike b = let h = head_in t in lines_of h (length t) (spares_in h.version t h.count) b

  lines_of_lem : frame_lines s ≡ alike (timber_for_a (head_in t).kind (head_in s).timber)
  lines_of_lem =
      λ i. lines_of (a.head i) (a.bytes i) (spares_behind (a.head i).version s t a.behind (a.head i).count i) (timber_for_a (a.head i).kind (a.head i).timber)

  -- on a type B ship they are the same
  pub flag_frame : is_type_b (head_in t).kind ≡ true → frame_lines s ≡ frame_lines t
  flag_frame e = lines_of_lem ∙ ap alike (never_24 (head_in t).kind (head_in s).timber e ∙ sym (never_24 (head_in t).kind (head_in t).timber e))

  -- and on any, where the second has no flag, a verdict by them and by more lines is 24, or the second's
  pub flag_verdict : (head_in t).timber ≡ false → (more : List Line)
      → (first (frame_lines s ++ more) ≡ refused 24 0) ⊎ (first (frame_lines s ++ more) ≡ first (frame_lines t ++ more))
  flag_verdict e more =
      let h = head_in t in
      let b = timber_for_a h.kind (head_in s).timber in
      let without : alike false ≡ frame_lines t = ap (λ (f : Bool). alike (timber_for_a h.kind f)) (sym e) in
      let P : List Line → List Line → Type 0 = λ l k. (first (l ++ more) ≡ refused 24 0) ⊎ (first (l ++ more) ≡ first (k ++ more)) in
      subst (λ (l : List Line). P l (frame_lines t)) (sym lines_of_lem)
      (subst (P (alike b)) without (one_line (before24 h (length t)) (after24 h (length t) (spares_in h.version t h.count) ++ more) b (refused 24 0)))

-- ---- a record of version 1 to 3 has no flag: the bit that version 4 has for it is spare there, and 6 if it is set
pub no_flag_before_4 : (s : List ℕ) → (head_in s).version ≤ 3 → (head_in s).timber ≡ false
unfolding timber_bits pick
no_flag_before_4 s h = go (head_in s).timber refl
  where
    go : (b : Bool) → (head_in s).timber ≡ b → b ≡ false
    go false e = refl
    go true e = let held = rw (le-leb (head_in s).version 3 h, e) at (flag_held s) in absurd (omega (arith, held))
