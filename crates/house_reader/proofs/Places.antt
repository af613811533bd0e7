-- One house more is read: its place is filled, and its spare bits are added.
use Prim.Native.Nat.{ℕ, zero, suc, ◌+◌, ◌-◌, ◌*◌, ◌%◌, ◌≤◌, ◌<◌}
use mathlib.Core.Bool.{Bool, true, false}
use mathlib.Core.List.{List, [], ◌∷◌, ◌++◌, append-nil}
use mathlib.Core.Path.{◌≡◌, refl, sym, ap, ap₂, subst, ◌∙◌}
use lib.Dec.{leb}
use lib.ListN.{length, take, drop, get_or, set, replicate, length-drop}
use lib.Seq.{set_at, append_snoc, drop-drop}
use native.Mathlib.Nat.{mul-zero, sub-zero}
use native.Mathlib.Numerals.{add-one}
use native.Mathlib.Omega.{arith}
use Rattle.std.proofs.lemmas.List.{take-replicate, drop-replicate}
use Rattle.whole.specs.Pick.{pick}
use Rattle.bits.specs.Fields.{number, pack, unpack, piece, Bytes}
use Rattle.bits.proofs.Joined.{unpack_parts}
use Rattle.bits.proofs.Radix.{bytes_drop}
use Rattle.ship.specs.declared.House.{House}
use Rattle.ship.specs.Vessel.{no_house}
use Rattle.record.specs.Layout.{breadth_bits, house_widths, house_size, house_of, house_in, spare_in, house_at, houses_in, places_in}
use Rattle.record.specs.Reading.{spares_in}
use Rattle.record.specs.Words.{eight_widths, breadth_widths}
use Rattle.record.proofs.Parts.{length_houses_in, size_within, house_total}

-- a house of zero bits is the empty house
zero_bits : house_of (unpack eight_widths 0 ++ unpack breadth_widths 0) ≡ no_house
unfolding unpack piece
zero_bits = refl

-- ---- a house is two words
-- the breadths' widths in a version, over the bytes that they have there
breadths_read : (version : ℕ) (t : List ℕ)
    → unpack (breadth_bits version ∷ breadth_bits version ∷ []) (number (take (house_size version - 8) t)) ≡ unpack breadth_widths (number (take (house_size version - 8) t))
unfolding breadth_bits house_size unpack piece number pack pick
breadths_read version t = go (leb version 2)
  where
    go : (b : Bool) → let w : ℕ = pick b 0 16 in let m = number (take (pick b 8 12 - 8) t) in unpack (w ∷ w ∷ []) m ≡ unpack breadth_widths m
    go true = refl
    go false = refl

module _ (version : ℕ) (s : List ℕ) (bs : Bytes s) (a : ℕ) (h : a + house_size version ≤ length s) where
  abbrev first : ℕ
  first = number (take 8 (drop a s))

  abbrev last : ℕ
  last = number (take (house_size version - 8) (drop 8 (drop a s)))

  two_words : unpack (house_widths version) (number (take (house_size version) (drop a s))) ≡ unpack eight_widths first ++ unpack breadth_widths last
  two_words =
      let size = house_size version in
      let w = breadth_bits version in
      let k = (size_within version).0 in
      let e : 8 + (size - 8) ≡ size = omega arith in
      let widths : w + (w + 0) ≡ 8 * (size - 8) = omega (arith, house_total version) in
      ap (λ (n : ℕ). unpack (house_widths version) (number (take n (drop a s)))) (sym e)
      ∙ unpack_parts (drop a s) 8 (size - 8) (omega (arith, length-drop a s)) (bytes_drop a s bs) eight_widths (w ∷ w ∷ []) widths
      ∙ ap (λ (l : List ℕ). unpack eight_widths first ++ l) (breadths_read version (drop 8 (drop a s)))

  house_words : house_in version (take (house_size version) (drop a s)) ≡ house_of (unpack eight_widths first ++ unpack breadth_widths last)
  unfolding house_in
  house_words = ap house_of two_words

  -- the spare bits stand at the end of the first
  spare_words : spare_in version (take (house_size version) (drop a s)) ≡ first % 128
  unfolding spare_in unpack piece
  spare_words = ap (λ (f : List ℕ). get_or f 5 0) two_words ∙ omega arith

-- as the reader takes them: of the m bytes from 27 + m k on, the first eight, then those behind them
pub two_read : (version : ℕ) (s : List ℕ) (m k : ℕ) {word breadths : ℕ} → Bytes s → m ≡ house_size version → 27 + m * k + m ≤ length s
    → word ≡ number (take (27 + m * k + 8 - (27 + m * k)) (drop (27 + m * k) s)) → breadths ≡ number (take (27 + m * k + m - (27 + m * k + 8)) (drop (27 + m * k + 8) s))
    → (house_of (unpack eight_widths word ++ unpack breadth_widths breadths) ≡ house_in version (house_at version s k)) × (word % 128 ≡ spare_in version (house_at version s k))
two_read version s m k {word} {breadths} bs e h p q =
    let n = house_size version in
    let a : ℕ = 27 + n * k in
    let long : a + n ≤ length s = subst (λ (z : ℕ). 27 + z * k + z ≤ length s) e h in
    let eight : 27 + m * k + 8 - (27 + m * k) ≡ 8 = omega arith in
    let rest : 27 + m * k + m - (27 + m * k + 8) ≡ m - 8 = omega arith in
    let first-is : word ≡ number (take 8 (drop a s)) = p ∙ (λ i. number (take (eight i) (drop (27 + e i * k) s))) in
    let last-is : breadths ≡ number (take (n - 8) (drop 8 (drop a s))) =
    q ∙ (λ i. number (take (rest i) (drop (27 + m * k + 8) s))) ∙ (λ i. number (take (e i - 8) (drop (27 + e i * k + 8) s)))
    ∙ ap (λ (t : List ℕ). number (take (n - 8) t)) (sym (drop-drop 8 a s)) in (
      ap₂ (λ (u v : ℕ). house_of (unpack eight_widths u ++ unpack breadth_widths v)) first-is last-is ∙ sym (house_words version s bs a long),
      ap (λ (u : ℕ). u % 128) first-is ∙ sym (spare_words version s bs a long),
    )

-- ---- houses, one after the other
module _ (version : ℕ) where
  abbrev size : ℕ
  size = house_size version

  houses_in_snoc : (n : ℕ) (t : List ℕ) → houses_in version (suc n) t ≡ houses_in version n t ++ (house_in version (take size (drop (size * n) t)) ∷ [])
  houses_in_snoc zero t = rw (mul-zero size) refl
  houses_in_snoc (suc n) t =
      let e : size + size * n ≡ size * suc n = omega arith in
      ap (λ (l : List House). house_in version (take size t) ∷ l) (rw (drop-drop (size * n) size t, e) at (houses_in_snoc n (drop size t)))

  -- none of n places is filled, of all eight that were made
  pub places_none : (n : ℕ) {h : House} → n ≤ 8 → h ≡ house_of (unpack eight_widths 0 ++ unpack breadth_widths 0) → take n (replicate 8 h) ≡ replicate (n - 0) no_house
  places_none n few e = rw (e ∙ zero_bits, sub-zero) (take-replicate n 8 no_house few)

  -- one place more is filled
  pub places_more : (s : List ℕ) (n k : ℕ) → k < n
      → set (houses_in version k (drop 27 s) ++ replicate (n - k) no_house) k (house_in version (house_at version s k))
      ≡ houses_in version (k + 1) (drop 27 s) ++ replicate (n - (k + 1)) no_house
  places_more s n k h =
      let m : ℕ = n - (k + 1) in
      let e : n - k ≡ suc m = omega arith in
      let p : List House = houses_in version k (drop 27 s) in
      let a : House = house_in version (house_at version s k) in
      let q : houses_in version (k + 1) (drop 27 s) ≡ p ++ (a ∷ []) =
      ap (λ (n : ℕ). houses_in version n (drop 27 s)) (add-one k) ∙ houses_in_snoc k (drop 27 s)
      ∙ ap (λ (t : List ℕ). p ++ (house_in version (take size t) ∷ [])) (drop-drop (size * k) 27 s) in
      rw (e, set_at p no_house (replicate m no_house) a k (length_houses_in version k (drop 27 s)))
      (sym (append_snoc p a (replicate m no_house)) ∙ ap (λ (l : List House). l ++ replicate m no_house) (sym q))

  -- all of them are, and those beyond n are as they were made
  pub places_all : (s : List ℕ) (n k : ℕ) {h : House} {ps : List House} → n ≤ 8 → k ≡ n → h ≡ house_of (unpack eight_widths 0 ++ unpack breadth_widths 0)
      → ps ≡ houses_in version k (drop 27 s) ++ replicate (n - k) no_house → ps ++ drop n (replicate 8 h) ≡ places_in version n s
  unfolding places_in
  places_all s n k few e z p =
      let none : n - n ≡ 0 = omega arith in
      rw (p, z ∙ zero_bits, e, none, append-nil) (ap (λ (l : List House). houses_in version n (drop 27 s) ++ l) (drop-replicate n 8 no_house))

  pub spares_more : (s : List ℕ) (k : ℕ) → spares_in version s k + spare_in version (house_at version s k) ≡ spares_in version s (k + 1)
  unfolding spares_in
  spares_more s k = rw (add-one k) refl
