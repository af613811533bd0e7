-- Laws of slices that are filled from the front, part by part.
use Prim.Native.Nat.{ℕ, ◌+◌}
use mathlib.Core.List.{List, ◌++◌, append_assoc, append-nil}
use mathlib.Core.Path.{◌≡◌, sym, ◌∙◌}
use lib.ListN.{length, take, drop, drop_of_length-le}
use lib.Seq.{take_at, drop_at, drop-drop}
use native.Mathlib.Omega.{arith}

-- a part that was lent from a on, back with other bytes
pub part_back : (p q ys : List ℕ) (a m : ℕ) → length p ≡ a → take a (p ++ q) ++ (ys ++ drop m (drop a (p ++ q))) ≡ (p ++ ys) ++ drop m q
part_back p q ys a m e = rw (take_at p q a e, drop_at p q a e) (sym (append_assoc p ys (drop m q)))

-- two parts lent one after the other, up to the slice's end
pub two_parts : (d p q : List ℕ) (a b : ℕ) → length p ≡ a → length d ≡ a + b
    → let x = p ++ drop a d in
    take a x ++ (q ++ drop b (drop a x)) ≡ p ++ q
two_parts d p q a b lp ld = part_back p (drop a d) q a b lp ∙ rw (drop-drop b a d, drop_of_length-le d {i = a + b} (omega arith)) (append-nil (p ++ q))
