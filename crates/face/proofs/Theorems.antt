-- Through the calls for C a ship that was written is read back, and a record that was read is written back, to its bytes if it is in the lowest version that holds its ship; beside a refusal the ship is all
-- zeros; and no second answer meets a call's contract.
use Prim.Native.Nat.{ℕ, ◌≤◌, ◌<◌}
use mathlib.Core.List.{List, [], ◌∷◌, ◌++◌}
use mathlib.Core.Path.{◌≡◌, refl, sym, ap, subst, ◌∙◌}
use native.Mathlib.Omega.{arith}
use borrow.Author.Tests.{ne_eqb}
use lib.Dec.{ltb}
use lib.ListN.{length, take, drop, length-map}
use Rattle.whole.specs.Pick.{pick}
use Rattle.bits.specs.Fields.{Bytes}
use Rattle.ship.specs.declared.Ship.{Ship}
use Rattle.ship.specs.Refusals.{Paper, accepted, refused, first}
use Rattle.ship.specs.Checks.{ship_lines}
use Rattle.ship.specs.Good.{Good}
use Rattle.ship.proofs.Lines.{AllPass, all_pass, all_pass_split, first_passed}
use Rattle.ship.proofs.Accepted.{good}
use Rattle.record.specs.Layout.{lowest_for, version_in, ship_in}
use Rattle.record.specs.Reading.{frame_lines, reading_in}
use Rattle.record.specs.Writing.{bytes_for, write_lines, writing_of, written}
use Rattle.record.proofs.RoundTrip as RoundTrip
use Rattle.record.proofs.Theorems.{read_what_was_written, write_what_was_read, written_reads_same}
use Rattle.marks.specs.Marks.{answer_in}
use Rattle.question.specs.Question.{reply_in}
use Rattle.flat.specs.declared.FlatShip.{FlatShip}
use Rattle.flat.specs.Flat.{ship_of, ordinate_from, house_from, ship_from, flat_clean, flat_zero}
use Rattle.flat.proofs.Kept.{ship_back}
use Rattle.flat.proofs.Clean.{ship_cleaned, zero_flat}
use Rattle.answers.specs.declared.MarksAnswer.{MarksAnswer}
use Rattle.answers.specs.declared.PoopAnswer.{PoopAnswer}
use Rattle.answers.specs.declared.ReadAnswer.{ReadAnswer}
use Rattle.answers.specs.declared.WriteAnswer.{WriteAnswer}
use Rattle.answers.specs.Answers.{from_sheet, from_reply, from_reading, from_verdict}

-- ---- what was written is read back
-- a ship of the C type
pub record Shaped (f : FlatShip) : Type 0 where
  pub eight : length f.houses ≡ 8
  pub six : length f.sheer ≡ 6

shaped_from : (f : FlatShip) → Shaped f → RoundTrip.Shaped (ship_from f)
unfolding ship_from
shaped_from f p = record { eight = length-map f.houses house_from ∙ p.eight; six = length-map f.sheer ordinate_from ∙ p.six }

-- what an accepted write leaves in the buffer
module _ (buf : List ℕ) (x : Ship) (shaped : RoundTrip.Shaped x) (z : (writing_of (length buf) x).number ≡ 0) where
  passed : AllPass (write_lines (length buf) x)
  unfolding writing_of
  passed = all_pass (write_lines (length buf) x) (omega arith) z

  good_ship : Good x
  good_ship = good x (ap (λ (p : Paper). p.number) (first_passed (ship_lines x) (all_pass_split (ship_lines x) ((ltb (length buf) (bytes_for x), refused 17 0) ∷ []) passed.1.1.1).0))

  wrote : writing_of (length buf) x ≡ accepted
  unfolding writing_of
  wrote = first_passed (write_lines (length buf) x) passed

-- the ship is f, its flags as 0 or 1 and its places beyond n at zero
pub read_back : (buf : List ℕ) (f : FlatShip) → Shaped f
    → let x = ship_from f in let p = writing_of (length buf) x in
    (a : WriteAnswer) → a ≡ from_verdict p x → a.verdict.number ≡ 0 → (after : List ℕ) → after ≡ written p x buf
    → from_reading (reading_in (take a.bytes after)) ≡ record { verdict = accepted; ship = flat_clean f }
unfolding from_reading from_verdict pick
read_back buf f q a e z after t =
    let x = ship_from f in
    let s = shaped_from f q in
    let v : (writing_of (length buf) x).number ≡ 0 = sym (ap (λ (r : WriteAnswer). r.verdict.number) e) ∙ z in
    let n : a.bytes ≡ bytes_for x = ap (λ (r : WriteAnswer). r.bytes) e ∙ rw v refl in
    rw (n, t, read_what_was_written x s buf (wrote buf x s v), ship_cleaned f q.six (good_ship buf x s v)) refl

-- ---- beside a refusal
pub refused_zero : (s : List ℕ) (a : ReadAnswer) → a ≡ from_reading (reading_in s) → 0 < a.verdict.number → a.ship ≡ flat_zero
unfolding from_reading reading_in pick
refused_zero s a e h =
    let p = first (frame_lines s ++ ship_lines (ship_in s)) in
    let n : 0 < p.number = omega (arith, ap (λ (r : ReadAnswer). r.verdict.number) e) in
    ap (λ (r : ReadAnswer). r.ship) e ∙ ap ship_of (rw (ne_eqb p.number 0 (λ z. omega arith)) refl) ∙ zero_flat

-- ---- what was read is written back, or reads as the same
-- a reading whose number is 0 is an accepted one
read_whole : (s : List ℕ) → (reading_in s).verdict.number ≡ 0 → reading_in s ≡ record { verdict = accepted; ship = (reading_in s).ship }
unfolding reading_in
read_whole s e =
    let v = first_passed (frame_lines s ++ ship_lines (ship_in s)) (all_pass (frame_lines s ++ ship_lines (ship_in s)) (omega arith) e) in
    λ i. record { verdict = v i; ship = (reading_in s).ship }

-- by an answer that accepts
module _ (s : List ℕ) (a : ReadAnswer) (e : a ≡ from_reading (reading_in s)) (z : a.verdict.number ≡ 0) where
  -- its ship is the one that was read
  same : ship_from a.ship ≡ (reading_in s).ship
  unfolding from_reading
  same = ap (λ (r : ReadAnswer). ship_from r.ship) e ∙ ship_back (reading_in s).ship

  whole : reading_in s ≡ record { verdict = accepted; ship = (reading_in s).ship }
  unfolding from_reading
  whole = read_whole s (sym (ap (λ (r : ReadAnswer). r.verdict.number) e) ∙ z)

  -- the write is accepted, and its answer is the length of what is written, which is no longer than the record
  pub writes : (buf : List ℕ) → length s ≤ length buf
      → let x = ship_from a.ship in
      (from_verdict (writing_of (length buf) x) x ≡ record { verdict = accepted; bytes = bytes_for x }) × (bytes_for x ≤ length s)
  unfolding from_verdict pick
  writes buf h =
      let x = (reading_in s).ship in
      let w = written_reads_same s x whole buf h in (
        ap (λ (y : Ship). from_verdict (writing_of (length buf) y) y) same ∙ ap (λ (p : Paper). from_verdict p x) w.0 ∙ ap (λ (y : Ship). record { verdict = accepted; bytes = bytes_for y }) (sym same),
        subst (λ (y : Ship). bytes_for y ≤ length s) (sym same) (RoundTrip.room_there s x whole),
      )

  -- a record in the lowest version that holds its ship: what is written has its length, and the buffer then holds the record
  pub written_back : Bytes s → let x = ship_from a.ship in version_in s ≡ lowest_for x → (buf : List ℕ) → length s ≤ length buf
      → (bytes_for x ≡ length s) × (written (writing_of (length buf) x) x buf ≡ s ++ drop (length s) buf)
  written_back b lowest buf h =
      let low = lowest ∙ ap lowest_for same in
      let w = write_what_was_read s (reading_in s).ship b whole low buf h in
      (ap bytes_for same ∙ sym (RoundTrip.length_there s (reading_in s).ship whole low), ap (λ (y : Ship). written (writing_of (length buf) y) y buf) same ∙ w.1)

  -- a record in any version: the bytes that the buffer then holds have the same answer
  pub written_same : (buf : List ℕ) → length s ≤ length buf
      → let x = ship_from a.ship in
      from_reading (reading_in (take (bytes_for x) (written (writing_of (length buf) x) x buf))) ≡ a
  written_same buf h =
      let w = written_reads_same s (reading_in s).ship whole buf h in
      ap (λ (y : Ship). from_reading (reading_in (take (bytes_for y) (written (writing_of (length buf) y) y buf)))) same
      ∙ ap from_reading (w.1 ∙ sym whole) ∙ sym e

-- ---- one answer
pub one_marks : (s : List ℕ) (a b : MarksAnswer) → a ≡ from_sheet (answer_in s) → b ≡ from_sheet (answer_in s) → a ≡ b
one_marks s a b p q = p ∙ sym q

pub one_poop : (s : List ℕ) (height wish : ℕ) (a b : PoopAnswer) → a ≡ from_reply (reply_in s height wish) → b ≡ from_reply (reply_in s height wish) → a ≡ b
one_poop s height wish a b p q = p ∙ sym q

pub one_reading : (s : List ℕ) (a b : ReadAnswer) → a ≡ from_reading (reading_in s) → b ≡ from_reading (reading_in s) → a ≡ b
one_reading s a b p q = p ∙ sym q

pub one_writing : (buf : List ℕ) (f : FlatShip) (a b : WriteAnswer) (after later : List ℕ)
    → let x = ship_from f in let p = writing_of (length buf) x in
    a ≡ from_verdict p x → after ≡ written p x buf → b ≡ from_verdict p x → later ≡ written p x buf → (a ≡ b) × (after ≡ later)
one_writing buf f a b after later p q r t = (p ∙ sym r, q ∙ sym t)
