-- A field cut in two, k bits off its end: read as two pieces, written as two values.
use Prim.Native.Nat.{ℕ, ◌+◌, ◌*◌, ◌/◌, ◌%◌, ◌^◌}
use mathlib.Core.Path.{◌≡◌, refl, sym, ap, ◌∙◌}
use lib.Pow.{shr-shr, mod-pow-add, pow-add}
use native.Mathlib.Nat.{add-mul, mul_assoc, add_assoc, div-add-mod'}
use Rattle.bits.specs.Fields.{piece}

pub piece_cut : (n a w k : ℕ) → piece n a (w + k) ≡ piece n (a + k) w * 2 ^ k + piece n a k
unfolding piece
piece_cut n a w k = mod-pow-add (n / 2 ^ a) w k ∙ rw (shr-shr n a k) refl

pub value_cut : (v k after rest : ℕ) → v * 2 ^ after + rest ≡ v / 2 ^ k * 2 ^ (k + after) + (v % 2 ^ k * 2 ^ after + rest)
value_cut v k after rest =
    ap (λ (u : ℕ). u * 2 ^ after + rest) (sym (div-add-mod' v (2 ^ k)))
    ∙ rw (add-mul (v / 2 ^ k * 2 ^ k) (v % 2 ^ k) (2 ^ after), mul_assoc (v / 2 ^ k) (2 ^ k) (2 ^ after), ← pow-add 2 k after)
    (add_assoc (v / 2 ^ k * 2 ^ (k + after)) (v % 2 ^ k * 2 ^ after) rest)
