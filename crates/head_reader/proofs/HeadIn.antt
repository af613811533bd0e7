-- The head's fields, by shifts and remainders of four words.
use Prim.Native.Nat.{ℕ, ◌+◌, ◌*◌, ◌/◌, ◌%◌, ◌^◌, ◌≤◌}
use mathlib.Core.List.{List, [], ◌∷◌, ◌++◌}
use mathlib.Core.Path.{◌≡◌, refl, sym, ap, ◌∙◌}
use lib.ListN.{length, take, drop, get_or}
use lib.Dec.{eqb}
use native.Mathlib.Omega.{arith}
use Rattle.bits.specs.Fields.{number, unpack, piece, Bytes}
use Rattle.bits.proofs.Joined.{unpack_parts}
use Rattle.units.specs.declared.Ordinate.{Ordinate}
use Rattle.units.specs.Datum.{lift}
use Rattle.record.specs.declared.Head.{Head}
use Rattle.record.specs.Layout.{kind_bits, timber_bits, spare_bits, head_widths, head_of, version_in, head_in, ordinate_in}
use Rattle.record.proofs.Complement.{turn_low}
use Rattle.record.proofs.Parts.{eight_bits, version_first}
use Rattle.record.specs.Words.{first_widths, fullness_widths, four_widths, last_widths, sheer_in}
use Rattle.bits.proofs.Cut.{piece_cut}

-- the head that four words hold, as the reader takes them apart, with its ordinates of sheer: how many bits stand after the type, after n and after the timber
-- flag, and how many values the type, the flag and the spare can have
abbrev pub head_cut : ℕ → ℕ → ℕ → ℕ → ℕ → ℕ → ℕ → ℕ → ℕ → List Ordinate → Head
head_cut after_kind kinds after_count after_timber flags spares a b d o = record {
  version = a / 2 ^ 60 % 2 ^ 4;
  kind = a / 2 ^ after_kind % kinds;
  count = a / 2 ^ after_count % 2 ^ 4;
  timber = eqb (a / 2 ^ after_timber % flags) 1;
  spare = a / 2 ^ 48 % spares;
  length = record { 0 = a / 2 ^ 28 % 2 ^ 20 };
  depth = record { 0 = a / 2 ^ 12 % 2 ^ 16 };
  moulded = record { 0 = a % 2 ^ 12 * 2 ^ 4 + b / 2 ^ 28 % 2 ^ 4 };
  block = b / 2 ^ 14 % 2 ^ 14;
  waterplane = b % 2 ^ 14;
  sheer = o;
  displacement = d / 2 ^ 16 % 2 ^ 20;
  immersion = d % 2 ^ 16;
}

-- as a version has them
abbrev pub head_of_words : ℕ → ℕ → ℕ → ℕ → List Ordinate → Head
head_of_words version a b d o =
    head_cut (52 + spare_bits version + timber_bits version) (2 ^ kind_bits version) (48 + spare_bits version + timber_bits version) (48 + spare_bits version)
    (2 ^ timber_bits version) (2 ^ spare_bits version) a b d o

-- all fields, M in two
abbrev cut : ℕ → List ℕ
cut version = first_widths version ++ fullness_widths ++ four_widths ++ last_widths

-- and M whole again
abbrev joined : List ℕ → List ℕ
joined f = take 7 f ++ ((get_or f 7 0 * 2 ^ 4 + get_or f 8 0) ∷ drop 9 f)

join_cut : (version n : ℕ) → unpack (head_widths version) n ≡ joined (unpack (cut version) n)
unfolding unpack
join_cut version n = ap (λ (m : ℕ). take 7 (unpack (head_widths version) n) ++ (m ∷ unpack (drop 8 (head_widths version)) n)) (piece_cut n 148 12 4)

-- an ordinate from a word, and from its piece
ordinate_piece : (n a : ℕ) → ordinate_in (piece n a 14) ≡ ordinate_in (n / 2 ^ a)
unfolding piece
ordinate_piece n a = λ i. record { 0 = turn_low lift (n / 2 ^ a) i }

-- what stands after the version
after_version : (version : ℕ) → kind_bits version + (4 + (timber_bits version + (spare_bits version + 48))) ≡ 60
after_version version = omega (arith, eight_bits version)

pieces : (version a b c d : ℕ)
    → head_of (joined (unpack (first_widths version) a ++ unpack fullness_widths b ++ unpack four_widths c ++ unpack last_widths d)) ≡ head_of_words version a b d (sheer_in c d)
unfolding unpack piece
pieces version a b c d =
    let after_kind : 4 + (timber_bits version + (spare_bits version + 48)) ≡ 52 + spare_bits version + timber_bits version = omega arith in
    let after_count : timber_bits version + (spare_bits version + 48) ≡ 48 + spare_bits version + timber_bits version = omega arith in
    let after_timber : spare_bits version + 48 ≡ 48 + spare_bits version = omega arith in
    let whole : (n : ℕ) → n / 2 ^ 0 ≡ n = λ n. omega arith in
    λ i. record {
      version = a / 2 ^ after_version version i % 2 ^ 4;
      kind = a / 2 ^ after_kind i % 2 ^ kind_bits version;
      count = a / 2 ^ after_count i % 2 ^ 4;
      timber = eqb (a / 2 ^ after_timber i % 2 ^ timber_bits version) 1;
      spare = a / 2 ^ 48 % 2 ^ spare_bits version;
      length = record { 0 = a / 2 ^ 28 % 2 ^ 20 };
      depth = record { 0 = a / 2 ^ 12 % 2 ^ 16 };
      moulded = record { 0 = whole a i % 2 ^ 12 * 2 ^ 4 + b / 2 ^ 28 % 2 ^ 4 };
      block = b / 2 ^ 14 % 2 ^ 14;
      waterplane = whole b i % 2 ^ 14;
      sheer =
          ordinate_piece c 42 i ∷ ordinate_piece c 28 i ∷ ordinate_piece c 14 i
          ∷ (ordinate_piece c 0 ∙ ap ordinate_in (whole c)) i ∷ ordinate_piece d 50 i ∷ ordinate_piece d 36 i ∷ [];
      displacement = d / 2 ^ 16 % 2 ^ 20;
      immersion = whole d i % 2 ^ 16;
    }

-- the word of the m bytes from n on
abbrev part : List ℕ → ℕ → ℕ → ℕ
part s n m = number (take m (drop n s))

module _ (s : List ℕ) (bs : Bytes s) (h : 27 ≤ length s) where
  words : (version : ℕ) → unpack (cut version) (number (take 27 s)) ≡ unpack (first_widths version) (part s 0 8) ++ unpack fullness_widths (part s 8 4) ++ unpack four_widths (part s 12 7) ++ unpack last_widths (part s 19 8)
  unfolding unpack
  words version =
      unpack_parts s 19 8 (omega arith) bs (first_widths version ++ fullness_widths ++ four_widths) last_widths refl
      ∙ ap (λ (l : List ℕ). l ++ unpack last_widths (part s 19 8)) (unpack_parts s 12 7 (omega arith) bs (first_widths version ++ fullness_widths) four_widths refl
      ∙ ap (λ (l : List ℕ). l ++ unpack four_widths (part s 12 7)) (unpack_parts s 8 4 (omega arith) bs (first_widths version) fullness_widths refl))

  -- the version, by which the others are cut, is in the first word
  version_there : version_in s ≡ part s 0 8 / 2 ^ 60 % 2 ^ 4
  unfolding piece
  version_there =
      sym (version_first 1 (number (take 27 s))) ∙ ap (λ (fs : List ℕ). get_or fs 0 0) (join_cut 1 (number (take 27 s)) ∙ ap joined (words 1))
      ∙ ap (λ (f : Head). f.version) (pieces 1 (part s 0 8) (part s 8 4) (part s 12 7) (part s 19 8))

  pub head_words : (version : ℕ) → version ≡ part s 0 8 / 2 ^ 60 % 2 ^ 4
      → head_in s ≡ head_of_words version (part s 0 8) (part s 8 4) (part s 19 8) (sheer_in (part s 12 7) (part s 19 8))
  unfolding head_in
  head_words version e =
      ap (λ (v : ℕ). head_of (unpack (head_widths v) (number (take 27 s)))) (version_there ∙ sym e)
      ∙ ap head_of (join_cut version (number (take 27 s)) ∙ ap joined (words version)) ∙ pieces version (part s 0 8) (part s 8 4) (part s 12 7) (part s 19 8)
