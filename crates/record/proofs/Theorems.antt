-- The promises of 01 and 02 about the record, each in one statement.
use Prim.Native.Nat.{ℕ, ◌-◌, ◌≤◌}
use mathlib.Core.Bool.{false}
use mathlib.Core.List.{List, ◌++◌}
use mathlib.Core.Path.{◌≡◌, refl, sym, ap, ◌∙◌}
use lib.ListN.{length, take, drop, replicate}
use lib.Seq.{take_at, length-take-le}
use native.Mathlib.Omega.{arith}
use Rattle.whole.specs.Pick.{pick}
use Rattle.bits.specs.Fields.{Bytes}
use Rattle.ship.specs.declared.Ship.{Ship}
use Rattle.ship.specs.Kinds.{timber_for_a}
use Rattle.ship.specs.Vessel.{no_house, houses_of, clean, Same}
use Rattle.ship.specs.Refusals.{Paper, accepted, first}
use Rattle.ship.specs.Checks.{ship_lines}
use Rattle.record.specs.Layout.{last_type, lowest_for, version_in, record_bytes}
use Rattle.record.specs.Reading.{reading_in}
use Rattle.record.specs.Writing.{bytes_for, writing_of, written}
use Rattle.record.proofs.Written.{writing_passed}
use Rattle.record.proofs.RoundTrip.{Shaped, length_record, version_back, read_back, shaped_read, clean_read, write_back, length_there, writes_back}

-- ---- reading a written record gives the ship back
module _ (x : Ship) (shaped : Shaped x) (buf : List ℕ) (wrote : writing_of (length buf) x ≡ accepted) where
  right : (x.kind ≤ last_type) × (timber_for_a x.kind x.timber ≡ false) × (x.n ≤ 8) × (first (ship_lines x) ≡ accepted)
  right = let p = writing_passed (length buf) x (ap (λ (v : Paper). v.number) wrote) in (p.0, p.1, p.2, p.3)

  -- from the bytes that the buffer then holds; places beyond n read as zero
  pub read_what_was_written : reading_in (take (bytes_for x) (written (writing_of (length buf) x) x buf)) ≡ record { verdict = accepted; ship = clean x }
  unfolding written pick
  read_what_was_written =
      let l = length_record x shaped right.0 right.1 right.2 right.3 in
      rw wrote (ap reading_in (take_at (record_bytes x) _ (bytes_for x) l) ∙ read_back x shaped right.0 right.1 right.2 right.3)

  -- they are in the lowest version that holds the ship
  pub written_version : version_in (take (bytes_for x) (written (writing_of (length buf) x) x buf)) ≡ lowest_for x
  unfolding written pick
  written_version =
      let l = length_record x shaped right.0 right.1 right.2 right.3 in
      rw wrote (ap version_in (take_at (record_bytes x) _ (bytes_for x) l) ∙ version_back x shaped right.0 right.1 right.2 right.3)

  -- the ship written and the ship read are equal in document 01's sense
  pub same_ship : Same x (clean x)
  same_ship =
      let e : length (houses_of x) ≡ x.n = length-take-le x.n x.houses (omega (arith, shaped.eight, right.2)) in
      record {
        kind = refl;
        count = refl;
        timber = refl;
        length = refl;
        depth = refl;
        moulded = refl;
        block = refl;
        waterplane = refl;
        sheer = refl;
        displacement = refl;
        immersion = refl;
        houses = sym (take_at (houses_of x) (replicate (8 - x.n) no_house) x.n e);
      }

-- ---- writing an accepted record's ship is accepted; if the record is in the lowest version that holds the ship, it gives its bytes back, spare bits included
pub write_what_was_read : (s : List ℕ) (x : Ship) → Bytes s → reading_in s ≡ record { verdict = accepted; ship = x } → version_in s ≡ lowest_for x
    → (buf : List ℕ) → length s ≤ length buf
    → (writing_of (length buf) x ≡ accepted) × (written (writing_of (length buf) x) x buf ≡ s ++ drop (length s) buf)
unfolding written pick
write_what_was_read s x b e lowest buf h =
    let l = sym (length_there s x e lowest) in
    let w = writes_back s x e (length buf) h in
    (w, rw w (λ i. write_back s x e b lowest i ++ drop (l i) buf))

-- in any version, what is written reads as the same ship
pub written_reads_same : (s : List ℕ) (x : Ship) → reading_in s ≡ record { verdict = accepted; ship = x }
    → (buf : List ℕ) → length s ≤ length buf
    → (writing_of (length buf) x ≡ accepted)
    × (reading_in (take (bytes_for x) (written (writing_of (length buf) x) x buf)) ≡ record { verdict = accepted; ship = x })
written_reads_same s x e buf h =
    let w = writes_back s x e (length buf) h in
    (w, read_what_was_written x (shaped_read s x e) buf w ∙ ap (λ (y : Ship). record { verdict = accepted; ship = y }) (clean_read s x e))
