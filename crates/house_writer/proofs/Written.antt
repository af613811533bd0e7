-- One house more is written, and the houses stand behind the head.
use Prim.Native.Nat.{ℕ, ◌+◌, ◌-◌, ◌*◌, ◌^◌, ◌≤◌, ◌<◌}
use mathlib.Core.Bool.{Bool, true, false}
use mathlib.Core.List.{List, [], ◌∷◌, ◌++◌, append_assoc, append-nil}
use mathlib.Core.Path.{◌≡◌, refl, sym, ap, ◌∙◌}
use lib.ListN.{length, take, drop, length-append}
use lib.Seq.{drop-append-add, take_at, drop-drop, take-suc, length-take-le}
use native.Mathlib.Numerals.{add-one}
use native.Mathlib.Omega.{arith}
use lib.Dec.{leb}
use Rattle.whole.specs.Pick.{pick}
use Rattle.whole.proofs.Pick.{by_cases}
use Rattle.bits.specs.Fields.{pack, unpack, bytes, Fit}
use Rattle.bits.proofs.Fill.{part_back}
use Rattle.bits.proofs.Joined.{bytes_pack}
use Rattle.ship.specs.declared.House.{House}
use Rattle.ship.specs.Vessel as Vessel
use Rattle.record.specs.Layout.{breadth_bits, house_widths, house_size, house_fields, house_bytes, houses_bytes}
use Rattle.record.specs.Words.{eight_widths, breadth_widths, eight_fields, breadth_fields}
use Rattle.record.proofs.Parts.{length_houses_bytes}

-- ---- a house is two words, of which the second has no byte in versions 1 and 2
no_bytes : (m n : ℕ) → bytes 0 m ≡ bytes 0 n
unfolding bytes unpack
no_bytes m n = refl

house_words : (version : ℕ) (h : House) → Fit (house_widths version) (house_fields h)
    → house_bytes version h ≡ bytes 8 (pack eight_widths (eight_fields h)) ++ bytes (house_size version - 8) (pack breadth_widths (breadth_fields h))
unfolding house_bytes breadth_bits house_size pick
house_words version h f = go (leb version 2) f.1.1.1.1.1.1
  where
    go : (b : Bool) → let w : ℕ = pick b 0 16 in let us = w ∷ w ∷ [] in Fit us (breadth_fields h)
        → bytes (pick b 8 12) (pack (eight_widths ++ us) (house_fields h)) ≡ bytes 8 (pack eight_widths (eight_fields h)) ++ bytes (pick b 8 12 - 8) (pack breadth_widths (breadth_fields h))
    go true g =
        bytes_pack 8 0 eight_widths (0 ∷ 0 ∷ []) (eight_fields h) (breadth_fields h) refl refl g
        ∙ ap (λ (t : List ℕ). bytes 8 (pack eight_widths (eight_fields h)) ++ t) (no_bytes (pack (0 ∷ 0 ∷ []) (breadth_fields h)) (pack breadth_widths (breadth_fields h)))
    go false g = bytes_pack 8 4 eight_widths (16 ∷ 16 ∷ []) (eight_fields h) (breadth_fields h) refl refl g

-- as the writer puts them into the m bytes of a house
pub house_put : (version m : ℕ) (h : House) {t : List ℕ} → Fit (house_widths version) (house_fields h) → m ≡ house_size version
    → t ≡ bytes 8 (pack eight_widths (eight_fields h)) ++ bytes (m - 8) (pack breadth_widths (breadth_fields h)) → t ≡ house_bytes version h
house_put version m h f e p =
    p ∙ ap (λ (n : ℕ). bytes 8 (pack eight_widths (eight_fields h)) ++ bytes (n - 8) (pack breadth_widths (breadth_fields h))) e ∙ sym (house_words version h f)

-- and within which limits
pub fit_limits : (version : ℕ) (h : House) → Fit (house_widths version) (house_fields h) → (h.height.0 < 8192) × (h.breadth.0 < 65536) × (h.beam.0 < 65536)
unfolding breadth_bits
fit_limits version h f =
    let below : (n : ℕ) → n < 2 ^ breadth_bits version → n < 65536 =
    λ n p. by_cases (λ (w : ℕ). n < 2 ^ w → n < 65536) (leb version 2) 0 16 (λ t q. omega arith) (λ t q. q) p in
    (f.1.1.1.1.0, below h.breadth.0 f.1.1.1.1.1.1.0, below h.beam.0 f.1.1.1.1.1.1.1.0)

-- ---- houses, one after the other
module _ (version : ℕ) where
  abbrev size : ℕ
  size = house_size version

  houses_bytes_snoc : (hs : List House) (h : House) → houses_bytes version (hs ++ (h ∷ [])) ≡ houses_bytes version hs ++ house_bytes version h
  houses_bytes_snoc [] h = append-nil (house_bytes version h)
  houses_bytes_snoc (g ∷ hs) h = rw (houses_bytes_snoc hs h) (sym (append_assoc (house_bytes version g) (houses_bytes version hs) (house_bytes version h)))

  -- one house more is written
  pub houses_more : (b : List ℕ) (hs : List House) (k : ℕ) → k < length hs → 27 ≤ length b
      → let x = (take 27 b ++ houses_bytes version (take k hs)) ++ drop (27 + size * k) b in
      take (27 + size * k) x ++ (house_bytes version (Vessel.house_at hs k) ++ drop size (drop (27 + size * k) x))
      ≡ (take 27 b ++ houses_bytes version (take (k + 1) hs)) ++ drop (27 + size * (k + 1)) b
  houses_more b hs k hk hb =
      let u : List ℕ = houses_bytes version (take k hs) in
      let p : List ℕ = take 27 b ++ u in
      let h : House = Vessel.house_at hs k in
      let lk : length (take k hs) ≡ k = length-take-le k hs (omega arith) in
      let lu : length u ≡ size * k = length_houses_bytes version (take k hs) ∙ ap (λ (n : ℕ). size * n) lk in
      let lp : length p ≡ 27 + size * k = omega (arith, length-append (take 27 b) u, length-take-le 27 b hb, lu) in
      let n : 27 + size * k + size ≡ 27 + size * (k + 1) = omega arith in
      part_back p (drop (27 + size * k) b) (house_bytes version h) (27 + size * k) size lp
      ∙ rw (
        drop-drop size (27 + size * k) b,
        n,
        append_assoc (take 27 b) u (house_bytes version h),
        ← houses_bytes_snoc (take k hs) h,
        ← take-suc hs k _ hk,
        ← add-one k,
      ) refl

  -- the houses behind a head of 27 bytes
  pub behind_head : (h b : List ℕ) (n : ℕ) (hs : List House) → length h ≡ 27
      → (take 27 (h ++ drop 27 b) ++ houses_bytes version (take n hs)) ++ drop (27 + size * n) (h ++ drop 27 b) ≡ (h ++ houses_bytes version (take n hs)) ++ drop (27 + size * n) b
  behind_head h b n hs e =
      let m = size * n in
      let d : drop (27 + m) (h ++ drop 27 b) ≡ drop (27 + m) b =
      ap (λ (k : ℕ). drop (k + m) (h ++ drop 27 b)) (sym e) ∙ drop-append-add h (drop 27 b) m ∙ drop-drop m 27 b in
      rw (take_at h (drop 27 b) 27 e, d) refl
