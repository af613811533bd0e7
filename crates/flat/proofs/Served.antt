-- An array's `map`: when the function may be called at each element in turn, and what it makes of the array.
use Rattle.std.proofs.Common.{ℕ, suc, List, [], ◌∷◌, ◌≡◌, ◌∙◌, refl, sym, subst, get_or, map, length, arith}
use Rattle.std.specs.Iterator.{Yields, CallableAtEachTurn}
use Rattle.std.specs.Array.{list_steps, IsMapOf}
use Rattle.std.specs.Fn.{Called}
use Rattle.std.proofs.lemmas.List.{same_lists, length-map, get_or-map}
use denote.Param.Members.{Mut}

-- ---- it may be called at each, if it may at each place
-- an element that comes has a place in the array
place : {A : Type 0} (d : A) (s xs t : List A) (x : A) (u : List A) → Yields list_steps s xs t → t ≡ x ∷ u → (k : ℕ) × (get_or s k d ≡ x)
place d s [] t x u y e = (0, rw (y ∙ e) refl)
place d s (z ∷ zs) t x u y e = let r = place d y.0 zs t x u y.2 e in (suc r.0, rw y.1 r.1)

pub served : {A P : Type 0} {R : P → A → P → Type 0} {Q : P → A → Type 0} (d : A) (s : List A) {p : P} → ((k : ℕ) (q : P) → Q q (get_or s k d)) → CallableAtEachTurn list_steps R Q s p
served {Q = Q} d s each = record { at = λ xs t q x u y f e. let r = place d s xs t x u y e in subst (λ v. Q q v) r.1 (each r.0 q) }

-- ---- where each call gives what h gives, the array is h of each
pub mapped : {F A B : Type 0} (g : Mut F (A × Unit {0}) B) (h : A → B) (d : A) {f : F} {xs : List A} {ys : List B} {n : ℕ}
    → IsMapOf g f xs ys n → length xs ≡ n → ((p q : F) (x : A) (y : B) → Called g p (x, tt) y q → y ≡ h x) → ys ≡ map h xs
mapped g h d {xs = xs} {ys = ys} m e gives =
    same_lists ys (map h xs) (m.long ∙ sym e ∙ sym (length-map xs h))
    (λ k b l. let c = m.at k d b (omega (arith, m.long)) in gives c.0 c.1 _ _ c.2 ∙ sym (get_or-map h xs k d b (omega (arith, m.long))))
