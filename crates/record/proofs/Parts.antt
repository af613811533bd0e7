-- How long a record's parts are, and that fields stand within their widths.
use Prim.Native.Nat.{ℕ, zero, suc, ◌+◌, ◌*◌, ◌^◌, ◌≤◌, ◌<◌}
use mathlib.Core.List.{List, [], ◌∷◌}
use mathlib.Core.Path.{◌≡◌, refl, sym, ap, subst}
use lib.ListN.{length, take, drop, get_or, length-append}
use native.Mathlib.Omega.{arith}
use lib.Dec.{eqb, leb}
use lib.Pow.{pow_mono}
use native.Mathlib.Nat.{lt_of_lt_of_le, mul-le-mul_left}
use Rattle.whole.proofs.Divide.{mul_most}
use Rattle.whole.proofs.Pick.{by_cases, by_both}
use Rattle.bits.specs.Fields.{total, number, piece, pack, unpack}
use Rattle.bits.proofs.Radix.{length_bytes, fit_unpack, fit_each}
use Rattle.ship.specs.declared.House.{House}
use Rattle.record.specs.declared.Head.{Head}
use Rattle.record.specs.Layout.{kind_bits, timber_bits, spare_bits, breadth_bits, house_size, record_length, head_widths, house_widths, house_fields, house_bytes, houses_bytes, houses_in, head_fields, head_bytes, version_in, head_in}

pub length_house_bytes : (version : ℕ) (h : House) → length (house_bytes version h) ≡ house_size version
unfolding house_bytes
length_house_bytes version h = length_bytes (house_size version) (pack (house_widths version) (house_fields h))

pub length_houses_bytes : (version : ℕ) (hs : List House) → length (houses_bytes version hs) ≡ house_size version * length hs
length_houses_bytes version [] = omega arith
length_houses_bytes version (h ∷ hs) =
    omega (arith, length-append (house_bytes version h) (houses_bytes version hs), length_house_bytes version h, length_houses_bytes version hs)

pub length_head_bytes : (h : Head) → length (head_bytes h) ≡ 27
unfolding head_bytes
length_head_bytes h = length_bytes 27 (pack (head_widths h.version) (head_fields h))

pub length_houses_in : (version n : ℕ) (t : List ℕ) → length (houses_in version n t) ≡ n
length_houses_in version zero t = refl
length_houses_in version (suc n) t = ap suc (length_houses_in version n (drop (house_size version) t))

-- ---- a version's widths
kind_bits_lem : (version : ℕ) → (2 ≤ kind_bits version) × (kind_bits version ≤ 3)
unfolding kind_bits
kind_bits_lem version = by_cases (λ (n : ℕ). (2 ≤ n) × (n ≤ 3)) (eqb version 1) _ _ (λ t. omega arith) (λ t. omega arith)

timber_bits_lem : (version : ℕ) → timber_bits version ≤ 1
unfolding timber_bits
timber_bits_lem version = by_cases (λ (n : ℕ). n ≤ 1) (leb version 3) _ _ (λ t. omega arith) (λ t. omega arith)

-- what the type or the flag has more, the spare has less
pub eight_bits : (version : ℕ)
    → (kind_bits version + timber_bits version + spare_bits version ≡ 8) × (kind_bits version ≤ 3) × (timber_bits version ≤ 1) × (spare_bits version ≤ 6)
unfolding spare_bits
eight_bits version =
    let k = kind_bits_lem version in
    let t = timber_bits_lem version in
    (omega (arith, k, t), k.1, t, omega (arith, k))

-- so every head fills its 27 bytes
pub head_total : (version : ℕ) → total (head_widths version) ≡ 8 * 27
head_total version = omega (arith, eight_bits version)

-- and every house its own
pub house_total : (version : ℕ) → total (house_widths version) ≡ 8 * house_size version
unfolding breadth_bits house_size
house_total version = by_both (λ (w n : ℕ). 1 + (1 + (21 + (21 + (13 + (7 + (w + (w + 0))))))) ≡ 8 * n) (leb version 2) 0 16 8 12 (λ t. refl) (λ t. refl)

-- the eight bytes, and from version 3 on the breadths behind them
pub size_within : (version : ℕ) → (8 ≤ house_size version) × (house_size version ≤ 12)
unfolding house_size
size_within version = by_cases (λ (n : ℕ). (8 ≤ n) × (n ≤ 12)) (leb version 2) _ _ (λ t. omega arith) (λ t. omega arith)

-- a house's m bytes are within those of a record that has it, and few
pub house_within : (version n k : ℕ) {m len : ℕ} → m ≡ house_size version → n ≤ 8 → k < n → record_length version n ≤ len
    → (8 ≤ m) × (m ≤ 12) × (m * k + m ≤ 96) × (27 + m * k + m ≤ len)
house_within version n k {m} {len} e few h within =
    let s = size_within version in
    let w : 27 + m * n ≤ len = subst (λ (z : ℕ). 27 + z * n ≤ len) (sym e) within in
    let p : m * (k + 1) ≤ m * n = mul-le-mul_left m (omega arith) in
    (omega (arith, e, s), omega (arith, e, s), omega (arith, p, mul_most m n 12 8 (omega (arith, e, s)) few), omega (arith, p, w))

-- the bits of the head's fields
abbrev pub fields_in : List ℕ → List ℕ
fields_in s = unpack (head_widths (version_in s)) (number (take 27 s))

-- each stands within its width
pub head_within : (s : List ℕ) (k : ℕ) → get_or (fields_in s) k 0 < 2 ^ get_or (head_widths (version_in s)) k 0
head_within s = fit_each (head_widths (version_in s)) (fields_in s) (fit_unpack (head_widths (version_in s)) (number (take 27 s)))

-- the version is the same in the bits of any layout
pub version_first : (version n : ℕ) → get_or (unpack (head_widths version) n) 0 0 ≡ piece n 212 4
unfolding unpack
version_first version n =
    let e : kind_bits version + (4 + (timber_bits version + (spare_bits version + 200))) ≡ 212 = omega (arith, eight_bits version) in
    ap (λ (a : ℕ). piece n a 4) e

pub version_is : (s : List ℕ) → (head_in s).version ≡ version_in s
unfolding head_in
version_is s = version_first (version_in s) (number (take 27 s))

pub spare_within : (s : List ℕ) → (head_in s).spare < 64
unfolding head_in
spare_within s = lt_of_lt_of_le (head_within s 4) (pow_mono (eight_bits (version_in s)).3)
