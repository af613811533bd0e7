-- A signed field of the record is the number that its bits are in two's complement.
use Prim.Native.Nat.{ℕ, zero, suc, ◌+◌, ◌-◌, ◌*◌, ◌%◌, ◌^◌, ◌≤◌, ◌<◌}
use mathlib.Core.List.{List}
use mathlib.Core.Path.{◌≡◌, sym, ap, ◌∙◌}
use lib.Dec.{ltb}
use lib.IntN.{ℤ, pos, neg_ℤ, ◌+ℤ◌, ◌-ℤ◌, +ℤ_assoc, neg_ℤ-+ℤ, +ℤ-neg_ℤ_cancel}
use lib.ListN.{take, get_or}
use lib.Pow.{pow-add, pow_pos}
use borrow.Author.Tests.{lt-ltb, le-ltb}
use native.Mathlib.Decide.{dec_lt}
use native.Mathlib.Nat.{mod-lt}
use native.Mathlib.Omega.{arith}
use Rattle.whole.specs.Pick.{pick}
use Rattle.whole.proofs.Pick.{pick_true, pick_false}
use Rattle.bits.specs.Fields.{number, unpack}
use Rattle.bits.proofs.Radix.{fit_unpack, fit_each}
use Rattle.units.specs.Datum.{mm_of, sheer_of, sheer_at}
use Rattle.record.specs.Layout.{turn, version_in, head_widths, house_widths, house_in, head_in}
use Rattle.record.proofs.Complement.{turn_below, turn_above, turn_turn}
use Rattle.record.proofs.Parts.{fields_in, head_within}

-- what w bits are as a signed number: v itself below 2^(w-1), from there on v - 2^w
abbrev pub complement : ℕ → ℕ → ℤ
complement w v = pick (ltb v (2 ^ (w - 1))) (pos v) (pos v -ℤ pos (2 ^ w))

-- a difference stays where both its numbers fall by the same
both_fall : (a h : ℕ) → pos (a + h) -ℤ pos (h + h) ≡ pos a -ℤ pos h
both_fall a h =
    ap (λ (z : ℤ). pos (a + h) +ℤ z) (neg_ℤ-+ℤ (pos h) (pos h))
    ∙ sym (+ℤ_assoc (pos (a + h)) (neg_ℤ (pos h)) (neg_ℤ (pos h)))
    ∙ ap (λ (z : ℤ). z -ℤ pos h) (+ℤ-neg_ℤ_cancel (pos a) (pos h))

twice : (w : ℕ) → 1 ≤ w → 2 ^ w ≡ 2 * 2 ^ (w - 1)
twice w h = let e : w ≡ 1 + (w - 1) = omega arith in ap (λ (k : ℕ). 2 ^ k) e ∙ pow-add 2 1 (w - 1)

module _ (w : ℕ) (some : 1 ≤ w) where
  abbrev half : ℕ
  half = 2 ^ (w - 1)

  -- THE LAW, over the width: a field read as a number from the lowest up, and counted from the middle
  pub turned_signed : (v : ℕ) → v < 2 ^ w → pos (turn half v) -ℤ pos half ≡ complement w v
  turned_signed v h =
      let t : 2 ^ w ≡ 2 * half = twice w some in
      let mm : ℕ → ℤ = λ u. pos u -ℤ pos half in
      elim (dec_lt v half) [
        | yes l ↦ ap mm (turn_below half v l) ∙ +ℤ-neg_ℤ_cancel (pos v) (pos half) ∙ sym (pick_true (ltb v half) _ _ (lt-ltb v half l))
        | no g ↦ (
            let a : ℕ = v - half in
            let e : a + half ≡ v = omega arith in
            let d : half + half ≡ 2 ^ w = omega arith in
            ap mm (turn_above half v (omega arith) (omega arith))
            ∙ sym (both_fall a half) ∙ (λ i. pos (e i) -ℤ pos (d i)) ∙ sym (pick_false (ltb v half) _ _ (le-ltb v half (omega arith)))
            )
      ]

  -- and back: the field that is written is the signed number's
  pub signed_turned : (o : ℕ) → o < 2 ^ w → complement w (turn half o) ≡ pos o -ℤ pos half
  signed_turned o h =
      let t : 2 ^ w ≡ 2 * half = twice w some in
      let p : 0 < half = pow_pos (w - 1) in
      let l : turn half o < 2 * half = mod-lt (o % (2 * half) + half) {m = 2 * half} (omega arith) in
      sym (turned_signed (turn half o) (omega arith)) ∙ ap (λ (u : ℕ). pos u -ℤ pos half) (turn_turn half o (omega arith))

-- ---- the record's signed fields: the one at place k of the fields of these widths in a number
abbrev pub signed_at : List ℕ → ℕ → ℕ → ℤ
signed_at ws n k = complement (get_or ws k 0) (get_or (unpack ws n) k 0)

-- a house's ends, 21 bits each, in mm forward of the after perpendicular
pub ends_signed : (version : ℕ) (t : List ℕ)
    → (mm_of (house_in version t).aft.0 ≡ signed_at (house_widths version) (number t) 2) × (mm_of (house_in version t).fore.0 ≡ signed_at (house_widths version) (number t) 3)
unfolding house_in
ends_signed version t =
    let ws = house_widths version in
    let w = fit_each ws (unpack ws (number t)) (fit_unpack ws (number t)) in
    (turned_signed 21 (omega arith) (get_or (unpack ws (number t)) 2 0) (w 2), turned_signed 21 (omega arith) (get_or (unpack ws (number t)) 3 0) (w 3))

-- the six ordinates of sheer, 14 bits each, in mm
pub sheer_signed : (s : List ℕ) (k : ℕ) → k < 6 → sheer_of (sheer_at (head_in s).sheer k) ≡ signed_at (head_widths (version_in s)) (number (take 27 s)) (10 + k)
unfolding head_in
sheer_signed s zero h = turned_signed 14 (omega arith) (get_or (fields_in s) 10 0) (head_within s 10)
sheer_signed s (suc zero) h = turned_signed 14 (omega arith) (get_or (fields_in s) 11 0) (head_within s 11)
sheer_signed s (suc (suc zero)) h = turned_signed 14 (omega arith) (get_or (fields_in s) 12 0) (head_within s 12)
sheer_signed s (suc (suc (suc zero))) h = turned_signed 14 (omega arith) (get_or (fields_in s) 13 0) (head_within s 13)
sheer_signed s (suc (suc (suc (suc zero)))) h = turned_signed 14 (omega arith) (get_or (fields_in s) 14 0) (head_within s 14)
sheer_signed s (suc (suc (suc (suc (suc zero))))) h = turned_signed 14 (omega arith) (get_or (fields_in s) 15 0) (head_within s 15)
sheer_signed s (suc (suc (suc (suc (suc (suc k)))))) h = absurd (omega arith)
