-- An array that is filled from the front with what a function gives of another, place by place.
use Prim.Native.Nat.{ℕ, suc, ◌+◌, ◌-◌, ◌<◌}
use mathlib.Core.List.{List, [], ◌∷◌, ◌++◌, map, append-nil}
use mathlib.Core.Path.{◌≡◌, refl, sym, ap, ◌∙◌}
use lib.ListN.{length, take, set, replicate, get_or, length-map, length-take}
use lib.Seq.{set_at, append_snoc, take-suc, take_all}
use native.Mathlib.Numerals.{add-one}
use native.Mathlib.Omega.{arith}

-- k places filled, the others as they were at first
abbrev pub filled : {A B : Type 0} → (A → B) → B → ℕ → List A → List B
filled f z k xs = map f (take k xs) ++ replicate (length xs - k) z

map_snoc : {A B : Type 0} (f : A → B) (xs : List A) (a : A) → map f (xs ++ (a ∷ [])) ≡ map f xs ++ (f a ∷ [])
map_snoc f [] a = refl
map_snoc f (x ∷ xs) a = ap (λ l. f x ∷ l) (map_snoc f xs a)

-- none yet
pub filled_none : {A B : Type 0} (f : A → B) (z : B) (xs : List A) (n : ℕ) → length xs ≡ n → replicate n z ≡ filled f z 0 xs
filled_none f z xs n e = let m : n ≡ length xs - 0 = omega arith in ap (λ (k : ℕ). replicate k z) m

-- one place more
pub filled_more : {A B : Type 0} (f : A → B) (z : B) (xs : List A) (k : ℕ) (d : A) → k < length xs → set (filled f z k xs) k (f (get_or xs k d)) ≡ filled f z (k + 1) xs
filled_more f z xs k d h =
    let m : ℕ = length xs - (k + 1) in
    let e : length xs - k ≡ suc m = omega arith in
    let p = map f (take k xs) in
    let a = f (get_or xs k d) in
    let q : map f (take (k + 1) xs) ≡ p ++ (a ∷ []) = ap (λ (n : ℕ). map f (take n xs)) (add-one k) ∙ ap (map f) (take-suc xs k d h) ∙ map_snoc f (take k xs) (get_or xs k d) in
    rw (e, set_at p z (replicate m z) a k (length-map (take k xs) f ∙ length-take k xs ∙ omega arith))
    (sym (append_snoc p a (replicate m z)) ∙ ap (λ l. l ++ replicate m z) (sym q))

-- all of them
pub filled_all : {A B : Type 0} (f : A → B) (z : B) (xs : List A) (k : ℕ) → length xs ≡ k → filled f z k xs ≡ map f xs
filled_all f z xs k e =
    let n : length xs - k ≡ 0 = omega arith in
    rw (n, append-nil (map f (take k xs)), take_all k xs (omega arith)) refl
