-- `pack` and `unpack` are inverse over any widths, and so are the numbers and the bytes: every law here is by induction over the widths.
use Prim.Native.Nat.{ℕ, zero, suc, ◌+◌, ◌-◌, ◌*◌, ◌/◌, ◌%◌, ◌^◌, ◌≤◌, ◌<◌}
use mathlib.Core.List.{List, [], ◌∷◌, ◌++◌}
use mathlib.Core.Path.{◌≡◌, refl, sym, ap, ap₂, subst, ◌∙◌}
use lib.ListN.{length, take, drop, replicate, get_or, length-append, replicate-append-replicate, length-replicate}
use lib.Pow.{pow_mono, pow-add, pow_pos, mod-pow-add, high}
use lib.Arith.{digits_lt}
use lib.Seq.{take-suc, get_or-drop, length-take-le}
use native.Mathlib.Nat.{lt_of_lt_of_le, mod-lt, mod-one, mod-eq_of_lt, zero-add, add_assoc, mul_assoc, mul-add-div_right, mul-add-mod_self_right, add-mul, pow-suc, div-one, suc-add}
use native.Mathlib.Omega.{arith}
use native.Mathlib.Numerals.{add-one}
use Rattle.std.specs.Int.{bytes_high_first}
use Rattle.std.proofs.lemmas.List.{take_rest}
use Rattle.bits.specs.Fields.{total, pack, piece, unpack, Fit, number, bytes, Bytes}

pub total_eights : (k : ℕ) → total (replicate k 8) ≡ 8 * k
unfolding pack unpack piece number bytes
total_eights zero = refl
total_eights (suc k) = omega (arith, total_eights k)

pub pack_lt : (ws vs : List ℕ) → Fit ws vs → pack ws vs < 2 ^ total ws
unfolding pack unpack piece number bytes
pack_lt [] (v ∷ vs) f = elim f [ ]
pack_lt (w ∷ ws) [] f = elim f [ ]
pack_lt [] [] f = omega arith
pack_lt (w ∷ ws) (v ∷ vs) f = rw (pow-add 2 w (total ws)) (digits_lt f.0 (pack_lt ws vs f.1))

-- bits of a number above its fields do not count
pub unpack_high : (ws : List ℕ) (j h n : ℕ) → unpack ws (h * 2 ^ (j + total ws) + n) ≡ unpack ws n
unfolding pack unpack piece number bytes
unpack_high [] j h n = refl
unpack_high (w ∷ ws) j h n = rw (← add_assoc j w (total ws)) (ap₂ ◌∷◌ head (unpack_high ws (j + w) h n))
  where
    head : (h * 2 ^ (j + w + total ws) + n) / 2 ^ total ws % 2 ^ w ≡ n / 2 ^ total ws % 2 ^ w
    head = rw (pow-add 2 (j + w) (total ws), ← mul_assoc h (2 ^ (j + w)) (2 ^ total ws), mul-add-div_right (pow_pos (total ws)) (h * 2 ^ (j + w)) n, pow-add 2 j w, ← mul_assoc h (2 ^ j) (2 ^ w)) (mul-add-mod_self_right (h * 2 ^ j) (2 ^ w) (n / 2 ^ total ws))

pub unpack_pack : (ws vs : List ℕ) → Fit ws vs → unpack ws (pack ws vs) ≡ vs
unfolding pack unpack piece number bytes
unpack_pack [] (v ∷ vs) f = elim f [ ]
unpack_pack (w ∷ ws) [] f = elim f [ ]
unpack_pack [] [] f = refl
unpack_pack (w ∷ ws) (v ∷ vs) f =
    ap₂ ◌∷◌
    (rw (high v (total ws) (pack_lt ws vs f.1)) (mod-eq_of_lt f.0))
    ((rw zero-add at (unpack_high ws 0 v (pack ws vs))) ∙ unpack_pack ws vs f.1)

pub pack_unpack : (ws : List ℕ) (n : ℕ) → pack ws (unpack ws n) ≡ n % 2 ^ total ws
unfolding pack unpack piece number bytes
pack_unpack [] n = sym (mod-one n)
pack_unpack (w ∷ ws) n = rw (pack_unpack ws n) (sym (mod-pow-add n w (total ws)))

pub fit_unpack : (ws : List ℕ) (n : ℕ) → Fit ws (unpack ws n)
unfolding pack unpack piece number bytes
fit_unpack [] n = tt
fit_unpack (w ∷ ws) n = (mod-lt (n / 2 ^ total ws) (pow_pos w), fit_unpack ws n)

pub total_append : (ws us : List ℕ) → total (ws ++ us) ≡ total ws + total us
unfolding pack unpack piece number bytes
total_append [] us = sym (zero-add (total us))
total_append (w ∷ ws) us = omega (arith, total_append ws us)

pub pack_append : (ws us vs xs : List ℕ) → length ws ≡ length vs → pack (ws ++ us) (vs ++ xs) ≡ pack ws vs * 2 ^ total us + pack us xs
unfolding pack unpack piece number bytes
pack_append [] us [] xs e = omega arith
pack_append [] us (v ∷ vs) xs e = absurd (let z : ◌≡◌ {A = ℕ} 0 1 = omega arith in omega arith)
pack_append (w ∷ ws) us [] xs e = absurd (omega arith)
pack_append (w ∷ ws) us (v ∷ vs) xs e =
    rw (pack_append ws us vs xs (omega arith), total_append ws us, pow-add 2 (total ws) (total us)) (simp (add-mul, mul_assoc, add_assoc))

pub bytes_fit : (s : List ℕ) → Bytes s → Fit (replicate (length s) 8) s
unfolding pack unpack piece number bytes
bytes_fit [] f = tt
bytes_fit (b ∷ s) f = (f 0, bytes_fit s (λ i. f (suc i)))

pub number_lt : (s : List ℕ) → Bytes s → number s < 2 ^ (8 * length s)
unfolding pack unpack piece number bytes
number_lt s f = subst (λ (k : ℕ). number s < 2 ^ k) (total_eights (length s)) (pack_lt (replicate (length s) 8) s (bytes_fit s f))

pub number_append : (a b : List ℕ) → number (a ++ b) ≡ number a * 2 ^ (8 * length b) + number b
unfolding pack unpack piece number bytes
number_append a b =
    rw (length-append a b, ← replicate-append-replicate {A = ℕ} (length a) (length b) 8, pack_append (replicate (length a) 8) (replicate (length b) 8) a b (length-replicate (length a) 8), total_eights (length b)) refl

-- one byte more
pub number_more : (s : List ℕ) (i : ℕ) → i < length s → number (take (i + 1) s) ≡ number (take i s) * 256 + get_or s i 0
unfolding pack unpack piece number bytes
number_more s i h = rw (add-one i, take-suc s i 0, number_append (take i s) (get_or s i 0 ∷ [])) (omega arith)

pub length_unpack : (ws : List ℕ) (n : ℕ) → length (unpack ws n) ≡ length ws
unfolding pack unpack piece number bytes
length_unpack [] n = refl
length_unpack (w ∷ ws) n = ap suc (length_unpack ws n)

pub length_bytes : (k n : ℕ) → length (bytes k n) ≡ k
unfolding pack unpack piece number bytes
length_bytes k n = length_unpack (replicate k 8) n ∙ length-replicate k 8

pub number_bytes : (k n : ℕ) → n < 2 ^ (8 * k) → number (bytes k n) ≡ n
unfolding pack unpack piece number bytes
number_bytes k n lt = rw (length_bytes k n, pack_unpack (replicate k 8) n, total_eights k) (mod-eq_of_lt lt)

pub bytes_number : (s : List ℕ) → Bytes s → bytes (length s) (number s) ≡ s
unfolding pack unpack piece number bytes
bytes_number s f = unpack_pack (replicate (length s) 8) s (bytes_fit s f)

-- THE TWO LAWS of a record of k bytes whose fields have the widths ws: the fields that are read from what was written are those that were written,
pub read_written : (ws : List ℕ) (k : ℕ) → total ws ≡ 8 * k → (vs : List ℕ) → Fit ws vs → unpack ws (number (bytes k (pack ws vs))) ≡ vs
unfolding pack unpack piece number bytes
read_written ws k e vs f =
    ap (unpack ws) (number_bytes k (pack ws vs) (subst (λ (t : ℕ). pack ws vs < 2 ^ t) e (pack_lt ws vs f))) ∙ unpack_pack ws vs f

-- and the bytes that are written from what was read are those that were read
pub written_read : (ws : List ℕ) (k : ℕ) → total ws ≡ 8 * k → (s : List ℕ) → Bytes s → length s ≡ k → bytes k (pack ws (unpack ws (number s))) ≡ s
unfolding pack unpack piece number bytes
written_read ws k e s f l =
    let lt : number s < 2 ^ total ws = subst (λ (t : ℕ). number s < 2 ^ t) (ap (λ (n : ℕ). 8 * n) l ∙ sym e) (number_lt s f) in
    rw (pack_unpack ws (number s), mod-eq_of_lt lt, ← l) (bytes_number s f)

-- fields, one by one

pub fit_each : (ws vs : List ℕ) → Fit ws vs → (i : ℕ) → get_or vs i 0 < 2 ^ get_or ws i 0
fit_each [] (v ∷ vs) f i = elim f [ ]
fit_each (w ∷ ws) [] f i = elim f [ ]
fit_each [] [] f i = omega arith
fit_each (w ∷ ws) (v ∷ vs) f zero = f.0
fit_each (w ∷ ws) (v ∷ vs) f (suc i) = fit_each ws vs f.1 i

-- ---- as the library has them: the last k of all eight
pow_eights : (k : ℕ) → 256 ^ k ≡ 2 ^ (8 * k)
pow_eights zero = refl
pow_eights (suc k) = let e : 8 * suc k ≡ 8 * k + 8 = omega arith in rw (e, pow-add 2 (8 * k) 8, pow-suc 256 k, pow_eights k) refl

high_first : (k n : ℕ) → bytes_high_first k n ≡ bytes k n
unfolding unpack piece bytes
high_first zero n = refl
high_first (suc zero) n = rw div-one refl
high_first (suc (suc k)) n =
    let e : total (replicate (suc k) 8) ≡ 8 * suc k = total_eights (suc k) in
    ap₂ ◌∷◌ (rw (e, pow_eights (suc k)) refl) (high_first (suc k) n)

last_of : (m k n : ℕ) → drop m (bytes_high_first (m + k) n) ≡ bytes_high_first k n
last_of zero k n = rw zero-add refl
last_of (suc m) k n = rw suc-add (last_of m k n)

pub last_bytes : (k n : ℕ) → k ≤ 8 → take (8 - (8 - k)) (drop (8 - k) (bytes_high_first 8 n)) ≡ bytes k n
last_bytes k n h =
    let e : 8 ≡ 8 - k + k = omega arith in
    take_rest (bytes_high_first 8 n) (8 - k)
    ∙ ap (λ (i : ℕ). drop (8 - k) (bytes_high_first i n)) e ∙ last_of (8 - k) k n ∙ high_first k n

pub bytes_take : (k : ℕ) (s : List ℕ) → Bytes s → Bytes (take k s)
bytes_take zero s b i = omega arith
bytes_take (suc k) [] b i = omega arith
bytes_take (suc k) (x ∷ s) b zero = b 0
bytes_take (suc k) (x ∷ s) b (suc i) = bytes_take k s (λ j. b (suc j)) i

pub bytes_drop : (k : ℕ) (s : List ℕ) → Bytes s → Bytes (drop k s)
bytes_drop k s b i = rw (get_or-drop k s i 0) (b (k + i))

-- fewer than eight bytes leave room for one more
pub number_room : (s : List ℕ) (i : ℕ) → Bytes s → i < length s → length s ≤ 8 → number (take i s) < 2 ^ 56
number_room s i b h l =
    lt_of_lt_of_le (number_lt (take i s) (bytes_take i s b))
    (pow_mono {j = 56} (omega (arith, length-take-le i s (omega arith))))
