-- One house, and houses one after the other: read from what was written, and written from what was read.
use Prim.Native.Nat.{ℕ, zero, suc, ◌+◌, ◌*◌, ◌^◌, ◌≤◌, ◌<◌}
use mathlib.Core.Bool.{Bool, true, false}
use mathlib.Core.List.{List, [], ◌∷◌, ◌++◌, append_assoc}
use mathlib.Core.Path.{◌≡◌, refl, sym, ap, ap₂, ◌∙◌}
use lib.ListN.{length, take, drop, get_or, length-drop}
use lib.Seq.{take_at, drop_at, take-add, drop-drop, length-take-le}
use lib.Dec.{eqb}
use native.Mathlib.Omega.{arith}
use native.Mathlib.Nat.{mul-zero}
use Rattle.bits.specs.Fields.{number, pack, unpack, bytes, Fit, Bytes}
use Rattle.bits.proofs.Radix.{read_written, written_read, fit_unpack, bytes_take, bytes_drop}
use Rattle.units.specs.Datum.{datum}
use Rattle.ship.specs.declared.House.{House}
use Rattle.ship.specs.Vessel as Vessel
use Rattle.record.specs.Layout.{breadth_bits, house_widths, house_size, house_fields, house_of, house_bytes, house_in, spare_in, houses_bytes, houses_in, bit}
use Rattle.record.proofs.Complement.{turn_turn}
use Rattle.record.proofs.Parts.{length_house_bytes, house_total}

pub bit_back : (b : Bool) → eqb (bit b) 1 ≡ b
bit_back true = refl
bit_back false = refl

pub bit_there : (f : ℕ) → f < 2 → bit (eqb f 1) ≡ f
bit_there zero h = refl
bit_there (suc zero) h = refl
bit_there (suc (suc f)) h = absurd (omega arith)

pub bit_lt : (b : Bool) → bit b < 2
bit_lt true = omega arith
bit_lt false = omega arith

-- a house's ends stand within their bits
pub record Held (h : House) : Type 0 where
  pub aft : h.aft.0 < 2097152
  pub fore : h.fore.0 < 2097152

house_fields_lem : (h : House) → Held h → house_of (house_fields h) ≡ h
house_fields_lem h p = λ i. record {
  enclosed = bit_back h.enclosed i;
  quarterdeck = bit_back h.quarterdeck i;
  aft = record { 0 = turn_turn datum h.aft.0 p.aft i };
  fore = record { 0 = turn_turn datum h.fore.0 p.fore i };
  height = h.height;
  breadth = h.breadth;
  beam = h.beam;
}

-- ---- in a version
module _ (version : ℕ) where
  abbrev ws : List ℕ
  ws = house_widths version

  abbrev size : ℕ
  size = house_size version

  -- a house fits if its height and its breadths do
  pub fields_fit : (h : House) → h.height.0 < 8192 → h.breadth.0 < 2 ^ breadth_bits version → h.beam.0 < 2 ^ breadth_bits version → Fit ws (house_fields h)
  fields_fit h p b s = (bit_lt h.enclosed, (bit_lt h.quarterdeck, (omega arith, (omega arith, (p, (omega arith, (b, (s, tt))))))))

  fields_house : (a b c d e g m n : ℕ) → let f = a ∷ b ∷ c ∷ d ∷ e ∷ g ∷ m ∷ n ∷ [] in Fit ws f → g ≡ 0 → house_fields (house_of f) ≡ f
  fields_house a b c d e g m n w z =
      λ i. bit_there a w.0 i ∷ bit_there b w.1.0 i ∷ turn_turn datum c w.1.1.0 i ∷ turn_turn datum d w.1.1.1.0 i ∷ e ∷ sym z i ∷ m ∷ n ∷ []

  fields_back : (h : House) → Fit ws (house_fields h) → unpack ws (number (house_bytes version h)) ≡ house_fields h
  unfolding house_bytes
  fields_back h p = read_written ws size (house_total version) (house_fields h) p

  pub house_back : (h : House) → Held h → Fit ws (house_fields h) → house_in version (house_bytes version h) ≡ h
  unfolding house_in
  house_back h p f = ap house_of (fields_back h f) ∙ house_fields_lem h p

  -- a written house has no spare bit
  pub spare_back : (h : House) → Fit ws (house_fields h) → spare_in version (house_bytes version h) ≡ 0
  unfolding spare_in
  spare_back h p = ap (λ (f : List ℕ). get_or f 5 0) (fields_back h p)

  pub house_there : (t : List ℕ) → Bytes t → length t ≡ size → spare_in version t ≡ 0 → house_bytes version (house_in version t) ≡ t
  unfolding house_in house_bytes spare_in unpack
  house_there t b l z =
      ap (λ (f : List ℕ). bytes size (pack ws f)) (fields_house _ _ _ _ _ _ _ _ (fit_unpack ws (number t)) z) ∙ written_read ws size (house_total version) t b l

  -- ---- houses, one after the other
  abbrev pub AllHeld : List House → Type 0
  AllHeld [] = Unit {0}
  AllHeld (h ∷ hs) = Held h × Fit ws (house_fields h) × AllHeld hs

  pub houses_back : (hs : List House) → AllHeld hs → (rest : List ℕ) → houses_in version (length hs) (houses_bytes version hs ++ rest) ≡ hs
  houses_back [] p rest = refl
  houses_back (h ∷ hs) p rest =
      let t = house_bytes version h in
      let u = houses_bytes version hs in
      rw (
        append_assoc t u rest,
        take_at t (u ++ rest) size (length_house_bytes version h),
        drop_at t (u ++ rest) size (length_house_bytes version h),
      )
      (ap₂ ◌∷◌ (house_back h p.0 p.1) (houses_back hs p.2 rest))

  pub houses_there : (n : ℕ) (t : List ℕ) → Bytes t → size * n ≤ length t → ((k : ℕ) → k < n → spare_in version (take size (drop (size * k) t)) ≡ 0)
      → houses_bytes version (houses_in version n t) ≡ take (size * n) t
  houses_there zero t b l z = rw (mul-zero size) refl
  houses_there (suc n) t b l z =
      let e : size + size * n ≡ size * suc n = omega arith in
      let first : spare_in version (take size t) ≡ 0 = rw (mul-zero size) at (z 0 (omega arith)) in
      ap₂ ◌++◌
      (house_there (take size t) (bytes_take size t b) (length-take-le size t (omega arith)) first)
      (houses_there n (drop size t) (bytes_drop size t b) (omega (arith, length-drop size t)) (λ k h.
      let f : size + size * k ≡ size * suc k = omega arith in
      rw (drop-drop (size * k) size t, f) (z (suc k) (omega arith))))
      ∙ sym (take-add size (size * n) t) ∙ ap (λ (k : ℕ). take k t) e

  -- the house at place k of those written
  pub house_at_lem : (hs : List House) (k : ℕ) → k < length hs → take size (drop (size * k) (houses_bytes version hs)) ≡ house_bytes version (Vessel.house_at hs k)
  house_at_lem [] k h = absurd (omega arith)
  house_at_lem (g ∷ hs) zero h = rw (mul-zero size) (take_at (house_bytes version g) (houses_bytes version hs) size (length_house_bytes version g))
  house_at_lem (g ∷ hs) (suc k) h =
      let f : size + size * k ≡ size * suc k = omega arith in
      rw (← f, ← drop-drop (size * k) size (house_bytes version g ++ houses_bytes version hs), drop_at (house_bytes version g) (houses_bytes version hs) size (length_house_bytes version g)) (house_at_lem hs k (omega arith))
