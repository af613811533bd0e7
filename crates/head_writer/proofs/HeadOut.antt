-- The head's bytes are those of four words, one after the other.
use Prim.Native.Nat.{ℕ, ◌+◌, ◌-◌, ◌*◌, ◌/◌, ◌%◌, ◌^◌, ◌<◌}
use mathlib.Core.List.{List, [], ◌∷◌, ◌++◌}
use mathlib.Core.Path.{◌≡◌, refl, sym, ap, ap₂, subst, ◌∙◌}
use lib.ListN.{length, take, drop, length-append, length-drop}
use lib.Seq.{length-take-le}
use native.Mathlib.Omega.{arith}
use lib.Dec.{eqb, leb}
use Rattle.whole.proofs.Pick.{by_cases}
use Rattle.bits.specs.Fields.{total, pack, bytes, Fit}
use Rattle.bits.proofs.Radix.{pack_append, pack_lt, length_bytes}
use Rattle.bits.proofs.Fill.{two_parts}
use Rattle.bits.proofs.Joined.{bytes_pack}
use Rattle.record.specs.declared.Head.{Head}
use Rattle.record.specs.Layout.{kind_bits, timber_bits, spare_bits, bit, opening_widths, head_widths, head_fields, head_bytes}
use Rattle.record.specs.Words.{first_widths, fullness_widths, four_widths, last_widths, first_fields, fullness_fields, four_fields, last_fields}
use Rattle.record.proofs.Parts.{eight_bits}
use Rattle.bits.proofs.Cut.{value_cut}

-- two pairs of words over the head's 27 bytes
pub two_halves : (d : List ℕ) (A B C D : ℕ) {p q : List ℕ} → length d ≡ 27
    → let x = p ++ drop 12 d in
    p ≡ bytes 8 A ++ bytes (length (take 12 d) - 8) B → q ≡ bytes 7 C ++ bytes (length (take 15 (drop 12 x)) - 7) D
    → take 12 x ++ (q ++ drop 15 (drop 12 x)) ≡ (bytes 8 A ++ bytes 4 B) ++ (bytes 7 C ++ bytes 8 D)
two_halves d A B C D {p} {q} h ep eq =
    let x : List ℕ = p ++ drop 12 d in
    let p' : p ≡ bytes 8 A ++ bytes 4 B = ep ∙ ap (λ (k : ℕ). bytes 8 A ++ bytes (k - 8) B) (length-take-le 12 d (omega arith)) in
    let lp : length p ≡ 12 = ap length p' ∙ omega (arith, length-append (bytes 8 A) (bytes 4 B), length_bytes 8 A, length_bytes 4 B) in
    let lq : length (take 15 (drop 12 x)) ≡ 15 =
    length-take-le 15 (drop 12 x) (omega (arith, length-drop 12 x, length-append p (drop 12 d), length-drop 12 d)) in
    two_parts d p q 12 15 lp h ∙ ap₂ ◌++◌ p' (eq ∙ ap (λ (k : ℕ). bytes 7 C ++ bytes (k - 7) D) lq)

-- ---- the opening, by the version
-- with a bits for the type and t for the flag
abbrev Opens : ℕ → ℕ → ℕ → ℕ → ℕ → ℕ → ℕ → Type 0
Opens v k n f s a t =
    (((v * 2 ^ a + k) * 16 + n) * 2 ^ t + f) * 2 ^ (8 - (a + t)) + s ≡ pack (4 ∷ a ∷ 4 ∷ t ∷ (8 - (a + t)) ∷ []) (v ∷ k ∷ n ∷ f ∷ s ∷ [])

opening_same : (version v k n f s : ℕ) → Opens v k n f s (kind_bits version) (timber_bits version)
unfolding kind_bits timber_bits pack
opening_same version v k n f s =
    let flagged : (a : ℕ) → Opens v k n f s a 0 → Opens v k n f s a 1 → Opens v k n f s a (timber_bits version) =
    λ a no yes. by_cases (Opens v k n f s a) (leb version 3) 0 1 (λ e. no) (λ e. yes) in
    by_cases (λ (a : ℕ). Opens v k n f s a (timber_bits version)) (eqb version 1) 2 3 (λ e. flagged 2 (omega arith) (omega arith)) (λ e. flagged 3 (omega arith) (omega arith))

-- as the code multiplies, with the ranges of type, flag and spare
pub opening_code : (h : Head) {kinds flags spares flag : ℕ}
    → kinds ≡ 2 ^ kind_bits h.version → flags ≡ 2 ^ timber_bits h.version → spares ≡ 2 ^ spare_bits h.version → flag ≡ bit h.timber
    → (((h.version * kinds + h.kind) * 16 + h.count) * flags + flag) * spares + h.spare ≡ pack (opening_widths h.version) (take 5 (head_fields h))
unfolding spare_bits
opening_code h p q r b = rw (p, q, r, b) (opening_same h.version h.version h.kind h.count (bit h.timber) h.spare)

pub opening_lt : (h : Head) → Fit (head_widths h.version) (head_fields h) → pack (opening_widths h.version) (take 5 (head_fields h)) < 65536
opening_lt h f =
    let e : total (opening_widths h.version) ≡ 16 = omega (arith, eight_bits h.version) in
    subst (λ (k : ℕ). pack (opening_widths h.version) (take 5 (head_fields h)) < 2 ^ k) e
    (pack_lt (opening_widths h.version) (take 5 (head_fields h)) (f.0, (f.1.0, (f.1.1.0, (f.1.1.1.0, (f.1.1.1.1.0, tt))))))

-- and what follows it in the first word
tail_code : (a b c : ℕ) → pack (20 ∷ 16 ∷ 12 ∷ []) (a ∷ b ∷ c ∷ []) ≡ (a * 65536 + b) * 4096 + c
unfolding pack
tail_code a b c = omega arith

pub first_code : (h : Head) {word : ℕ} → word ≡ pack (opening_widths h.version) (take 5 (head_fields h))
    → ((word * 1048576 + h.length.0) * 65536 + h.depth.0) * 4096 + h.moulded.0 / 2 ^ 4 ≡ pack (first_widths h.version) (first_fields h)
first_code h {word} e =
    let us : List ℕ = 20 ∷ 16 ∷ 12 ∷ [] in
    let xs : List ℕ = h.length.0 ∷ h.depth.0 ∷ h.moulded.0 / 2 ^ 4 ∷ [] in
    let first = pack_append (opening_widths h.version) us (take 5 (head_fields h)) xs refl in
    omega (arith, first, tail_code h.length.0 h.depth.0 (h.moulded.0 / 2 ^ 4))

-- M written whole, and cut
pack_cut : (us vs : List ℕ) (v : ℕ) → pack (16 ∷ us) (v ∷ vs) ≡ pack (12 ∷ 4 ∷ us) (v / 2 ^ 4 ∷ v % 2 ^ 4 ∷ vs)
unfolding pack
pack_cut us vs v = value_cut v 4 (total us) (pack us vs)

module _ (h : Head) (f : Fit (head_widths h.version) (head_fields h)) where
  cut : pack (head_widths h.version) (head_fields h) ≡ pack ((first_widths h.version ++ fullness_widths) ++ (four_widths ++ last_widths)) ((first_fields h ++ fullness_fields h) ++ (four_fields h ++ last_fields h))
  cut =
      let ws = take 7 (head_widths h.version) in
      let us = drop 8 (head_widths h.version) in
      let vs = take 7 (head_fields h) in
      let xs = drop 8 (head_fields h) in
      let m = h.moulded.0 in
      pack_append ws (16 ∷ us) vs (m ∷ xs) refl
      ∙ ap (λ (n : ℕ). pack ws vs * 2 ^ total (16 ∷ us) + n) (pack_cut us xs m)
      ∙ sym (pack_append ws (12 ∷ 4 ∷ us) vs (m / 2 ^ 4 ∷ m % 2 ^ 4 ∷ xs) refl)

  pub four_words : head_bytes h
      ≡ (bytes 8 (pack (first_widths h.version) (first_fields h)) ++ bytes 4 (pack fullness_widths (fullness_fields h))) ++ (bytes 7 (pack four_widths (four_fields h)) ++ bytes 8 (pack last_widths (last_fields h)))
  unfolding head_bytes
  four_words =
      ap (bytes 27) cut
      ∙ bytes_pack 12 15 (first_widths h.version ++ fullness_widths) (four_widths ++ last_widths) (first_fields h ++ fullness_fields h) (four_fields h ++ last_fields h) refl refl (omega arith)
      ∙ ap₂ ◌++◌
      (bytes_pack 8 4 (first_widths h.version) fullness_widths (first_fields h) (fullness_fields h) refl refl (omega arith))
      (bytes_pack 7 8 four_widths last_widths (four_fields h) (last_fields h) refl refl (omega arith))
