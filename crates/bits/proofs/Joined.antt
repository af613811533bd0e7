-- Numbers one above the other: their fields, and their bytes, stand one after the other.
use Prim.Native.Nat.{ℕ, ◌+◌, ◌*◌, ◌^◌, ◌≤◌, ◌<◌}
use mathlib.Core.List.{List, [], ◌∷◌, ◌++◌}
use mathlib.Core.Path.{◌≡◌, refl, sym, ap, ap₂, subst, ◌∙◌}
use lib.ListN.{length, take, drop, replicate, length-drop, replicate-append-replicate}
use lib.Pow.{shr-shr, high}
use lib.Seq.{take-add, length-take-le}
use native.Mathlib.Nat.{zero-add, add_comm}
use native.Mathlib.Omega.{arith}
use Rattle.bits.specs.Fields.{total, pack, piece, unpack, number, bytes, Fit, Bytes}
use Rattle.bits.proofs.Radix.{unpack_high, total_append, total_eights, pack_append, pack_lt, number_append, number_lt, bytes_take, bytes_drop}

pub unpack_append : (ws us : List ℕ) (hi lo : ℕ) → lo < 2 ^ total us → unpack (ws ++ us) (hi * 2 ^ total us + lo) ≡ unpack ws hi ++ unpack us lo
unfolding unpack piece
unpack_append [] us hi lo h = rw zero-add at (unpack_high us 0 hi lo)
unpack_append (w ∷ ws) us hi lo h =
    ap₂ ◌∷◌
    (rw (total_append ws us, add_comm (total ws) (total us), ← shr-shr (hi * 2 ^ total us + lo) (total us) (total ws), high hi (total us) h) refl)
    (unpack_append ws us hi lo h)

pub bytes_append : (m n hi lo : ℕ) → lo < 2 ^ (8 * n) → bytes (m + n) (hi * 2 ^ (8 * n) + lo) ≡ bytes m hi ++ bytes n lo
unfolding bytes
bytes_append m n hi lo h =
    let k : lo < 2 ^ total (replicate n 8) = rw (total_eights n) h in
    rw (← replicate-append-replicate {A = ℕ} m n 8, ← total_eights n) (unpack_append (replicate m 8) (replicate n 8) hi lo k)

-- fields that fill whole bytes, behind others
pub bytes_pack : (m n : ℕ) (ws us vs xs : List ℕ) → total us ≡ 8 * n → length ws ≡ length vs → Fit us xs
    → bytes (m + n) (pack (ws ++ us) (vs ++ xs)) ≡ bytes m (pack ws vs) ++ bytes n (pack us xs)
bytes_pack m n ws us vs xs e l f =
    rw (pack_append ws us vs xs l, e) (bytes_append m n (pack ws vs) (pack us xs) (subst (λ (k : ℕ). pack us xs < 2 ^ k) e (pack_lt us xs f)))

-- ---- the m bytes of s from n on
module _ (s : List ℕ) (n m : ℕ) (h : n + m ≤ length s) where
  part_length : length (take m (drop n s)) ≡ m
  part_length = length-take-le m (drop n s) (omega (arith, length-drop n s))

  pub part_lt : Bytes s → number (take m (drop n s)) < 2 ^ (8 * m)
  part_lt b = subst (λ (k : ℕ). number (take m (drop n s)) < 2 ^ (8 * k)) part_length (number_lt (take m (drop n s)) (bytes_take m (drop n s) (bytes_drop n s b)))

  -- as a number they stand below the n bytes before them
  pub part_joined : number (take (n + m) s) ≡ number (take n s) * 2 ^ (8 * m) + number (take m (drop n s))
  part_joined =
      ap number (take-add n m s) ∙ number_append (take n s) (take m (drop n s))
      ∙ ap (λ (k : ℕ). number (take n s) * 2 ^ (8 * k) + number (take m (drop n s))) part_length

  -- and their fields stand behind the fields of those
  pub unpack_parts : Bytes s → (ws us : List ℕ) → total us ≡ 8 * m
      → unpack (ws ++ us) (number (take (n + m) s)) ≡ unpack ws (number (take n s)) ++ unpack us (number (take m (drop n s)))
  unpack_parts b ws us e =
      let hi : ℕ = number (take n s) in
      let lo : ℕ = number (take m (drop n s)) in
      ap (unpack (ws ++ us)) (part_joined ∙ ap (λ (k : ℕ). hi * 2 ^ k + lo) (sym e))
      ∙ unpack_append ws us hi lo (subst (λ (k : ℕ). lo < 2 ^ k) (sym e) (part_lt b))
