-- Regulation 37: what code computes, the bounds, and what each rounding costs.
use mathlib.Core.Path.{◌≡◌, refl, ap, sym, ◌∙◌}
use mathlib.Core.Bool.{Bool, true, false, ◌&&◌, true≢false}
use mathlib.Core.List.{List, [], ◌∷◌}
use Prim.Native.Nat.{ℕ, ◌+◌, ◌*◌, ◌-◌, ◌/◌, ◌≤◌, ◌<◌}
use native.Mathlib.Omega.{arith}
use native.Mathlib.Nat.{le_refl, div-mul-le_self, lt-div-mul-add, mul-one, one-mul}
use borrow.Author.Tests.{ltb-true, ltb-false, lt-ltb, le-ltb}
use lib.Dec.{ltb}
use lib.ListN.{length, get_or}
use Rattle.whole.specs.Frac.{Frac, ◌≤f◌, ◌<f?◌, ◌≈f◌, ◌+f◌, ◌*f◌, whole, frac}
use Rattle.whole.specs.Pick.{pick}
use Rattle.whole.specs.Round.{Below}
use Rattle.whole.specs.Row.{Rising, height, along}
use Rattle.whole.proofs.Pick.{by_cases, by_both}
use Rattle.whole.proofs.Divide.{mul_most, floor_most, min_mul}
use Rattle.whole.proofs.Frac.{bot_of, refl≤, trans≤, *_mono≤, refl≈, <?_same}
use Rattle.whole.proofs.Round.{near_self, loosen, by_floor, floor_of, floor_under, floor_mono, near_times, near_mult, near_floor, millionths_down}
use Rattle.whole.proofs.Row.{height_in, near_along, along_mono, along_most, height_by, height_of_two, entry_rises, entry_most}
use Rattle.deduction.specs.Deduction37.{full, exact_full, share, exact_share, of_full, deduction, exact_deduction, lacks_forecastle, deducted, exact_deducted}
use Rattle.deduction.specs.Tenth37.{tenth, share_from}

-- ---- the full amount: its rounding costs 1 um
full_below : (l : ℕ) → Below (full l) (exact_full l) (whole 1)
unfolding full
full_below l = by_floor (exact_full l)

pub full_most : (l : ℕ) → full l ≤ 1070000
unfolding full exact_full
full_most l =
    floor_under 1070000
    (by_cases (λ (x : Frac). x ≤f whole 1070000) (ltb l 85000) _ _ (λ t. omega (arith, ltb-true l 85000 t))
    (λ t. by_cases (λ (x : Frac). x ≤f whole 1070000) (ltb l 122000) _ _ (λ u. omega (arith, ltb-true l 122000 u)) (λ u. omega arith)))

-- what code computes on each of its three pieces
pub full_to_85 : (l : ℕ) → l < 85000 → 350000 + (l - 24000) * 510 / 61 ≡ full l
unfolding pick full exact_full
full_to_85 l h = simp (lt-ltb l 85000 h) (omega arith)

pub full_to_122 : (l : ℕ) → 85000 ≤ l → l < 122000 → 860000 + (l - 85000) * 210 / 37 ≡ full l
unfolding pick full exact_full
full_to_122 l h k = simp (le-ltb l 85000 h, lt-ltb l 122000 k) (omega arith)

pub full_from_122 : (l : ℕ) → 122000 ≤ l → 1070000 ≡ full l
unfolding pick full exact_full
full_from_122 l h = simp (le-ltb l 85000 (omega arith), le-ltb l 122000 h) (omega arith)

-- ---- the share: an E that is short by s costs s * 180 * 1000 / (100 L) millionths, most at L = 24000, and the rounding 1
share_below : {row : List ℕ} {s : Frac} → Rising 180 1000 row → (l e : ℕ) (x : Frac) → 24000 ≤ l → Below e x s
    → Below (share row l e) (exact_share row l x *f whole 1000000) (s *f frac 3 40 +f whole 1)
unfolding share exact_share
share_below {s = s} r l e x h w =
    near_floor
    (loosen (trans≤ {y = s *f frac 180000 (100 * l)} (omega arith) (*_mono≤ (refl≤ s) (omega arith)))
    (near_times (whole 1000000) (near_times (frac 1 1000) (near_along r (near_times (frac 1 (100 * l)) w)))))

share_most : {m : ℕ} {row : List ℕ} → Rising m 1000 row → (l e : ℕ) → share row l e ≤ 1000000
unfolding share exact_share
share_most r l e =
    floor_under 1000000
    (trans≤ (*_mono≤ (*_mono≤ (along_most r (whole e *f frac 1 (100 * l))) (refl≤ (frac 1 1000))) (refl≤ (whole 1000000))) (omega arith))

-- as one quotient
share_quotient : (row : List ℕ) (l e : ℕ) → 0 < l → height row e (100 * l) * 1000 / (100 * l) ≡ share row l e
unfolding share exact_share
share_quotient row l e h =
    floor_of (height row e (100 * l) * 1000) (100 * l) {x = along row (whole e *f frac 1 (100 * l)) *f frac 1 1000 *f whole 1000000} (omega arith)
    (record { eq = rw (mul-one e, bot_of (100 * l) (omega arith), one-mul (100 * l)) (omega arith) })

-- E ends in its tenth
pub tenth_begins : (l e : ℕ) → tenth l e * (100 * l) ≤ e
unfolding tenth
tenth_begins l e = omega (arith, div-mul-le_self e (100 * l), min_mul (e / (100 * l)) 9 (100 * l))

tenth_ends : (l e : ℕ) → 0 < l → e ≤ 1000 * l → e - tenth l e * (100 * l) ≤ 100 * l
unfolding tenth
tenth_ends l e p h = omega (arith, lt-div-mul-add {a = e} {b = 100 * l} (omega arith), min_mul (e / (100 * l)) 9 (100 * l))

-- what code computes of two percentages
pub share_of_two : (p q l e : ℕ) → 0 < l → e ≤ 1000 * l
    → (p * (100 * l) + (q - p) * (e - tenth l e * (100 * l))) * 1000 / (100 * l) ≡ share_from p q l e
unfolding share_from
share_of_two p q l e n m =
    rw (height_of_two p q (e - tenth l e * (100 * l)) (100 * l) (tenth_ends l e n m)) at (share_quotient (p ∷ q ∷ []) l (e - tenth l e * (100 * l)) n)

pub share_from_most : (p q l e : ℕ) → p ≤ q → q ≤ 1000 → share_from p q l e ≤ 1000000
unfolding share_from
share_from_most p q l e h k = share_most {m = 1000} {row = p ∷ q ∷ []} (record { steps = omega arith }) l (e - tenth l e * (100 * l))

-- by the entries of a row at the ends of the tenth it is the share by the whole row
pub share_read : {row : List ℕ} → Rising 180 1000 row → length row ≡ 11 → (l e : ℕ) {j p q : ℕ} → 24000 ≤ l → e ≤ 1000 * l
    → j ≡ tenth l e → p ≡ get_or row j 0 → q ≡ get_or row (j + 1) 0 → share_from p q l e ≡ share row l e
unfolding tenth height_in
share_read {row} r n l e {j} {p} {q} h k a b c =
    let t : height_in row (tenth l e) e (100 * l) ≡ height row e (100 * l) = height_by r 9 e (100 * l) (omega arith) (omega arith) (omega arith) in
    sym (share_of_two p q l e (omega arith) k)
    ∙ rw (b, c, a) (ap (λ (z : ℕ). z * 1000 / (100 * l)) t)
    ∙ share_quotient row l e (omega arith)

-- and two neighbours of a row are what `share` of src/ asks for
pub neighbours : {row : List ℕ} → Rising 180 1000 row → length row ≡ 11 → {j p q : ℕ} → j ≤ 9 → p ≡ get_or row j 0 → q ≡ get_or row (j + 1) 0 → (p ≤ q) × (q ≤ 1000)
neighbours r n {j} h b c = rw (b, c) (entry_rises r j (omega arith), entry_most r (j + 1))

-- ---- the product: 1 um of the full amount, the share's millionths of at most 1.07 m, and its own rounding
pub deduction_below : {row : List ℕ} {s : Frac} → Rising 180 1000 row → (l e : ℕ) (x : Frac) → 24000 ≤ l → Below e x s
    → Below (deduction row l e) (exact_deduction row l x) (s *f frac 81 1000 +f frac 308 100)
unfolding of_full deduction exact_deduction
deduction_below {row} r l e x h w =
    loosen (omega arith)
    (near_floor (near_mult {m = whole 1070000} {k = whole 1} (omega (arith, full_most l)) (omega (arith, share_most r l e))
    (full_below l) (millionths_down (exact_share row l x) (share_below r l e x h w))))

pub of_full_most : (l s : ℕ) → s ≤ 1000000 → of_full l s ≤ 1070000
unfolding of_full
of_full_most l s h = floor_most (full l * s) 1000000 1070000 (omega (arith, mul_most (full l) s 1070000 1000000 (full_most l) h))

-- ---- the test on the forecastle's effective length as code has it: by the cross product, so that nothing is rounded
pub lacks_quotient : (type_b : Bool) (top bottom l : ℕ) → 0 < bottom → lacks_forecastle type_b (frac top bottom) l ≡ (type_b && ltb top (70 * l * bottom))
unfolding lacks_forecastle
lacks_quotient type_b top bottom l p = rw (mul-one top, bot_of bottom p) refl

-- and however the fraction is written
pub lacks_same : (type_b : Bool) {f g : Frac} (l : ℕ) → f ≈f g → lacks_forecastle type_b f l ≡ lacks_forecastle type_b g l
unfolding lacks_forecastle
lacks_same type_b l e = ap (λ (t : Bool). type_b && t) (<?_same e (refl≈ (whole (70 * l))))

-- ---- as it is granted: where there is none, nothing is lost
-- f is the forecastle's effective length
pub deducted_below : {row : List ℕ} {s : Frac} → Rising 180 1000 row → (type_b : Bool) (f : Frac) (l e : ℕ) (x : Frac) → 24000 ≤ l → Below e x s
    → Below (deducted type_b row f l e) (exact_deducted type_b row f l x) (s *f frac 81 1000 +f frac 308 100)
unfolding deducted exact_deducted
deducted_below {s = s} r type_b f l e x h w =
    let m = s *f frac 81 1000 +f frac 308 100 in
    by_both (λ (c : ℕ) (y : Frac). Below c y m) (lacks_forecastle type_b f l) _ _ _ _
    (λ t. near_self (whole 0) m) (λ t. deduction_below r l e x h w)

-- a ship of type B has no more than one of type A
pub deducted_falls : (t u : Bool) (row : List ℕ) (f : Frac) (l e : ℕ) → (t ≡ true → u ≡ true) → deducted u row f l e ≤ deducted t row f l e
unfolding deducted lacks_forecastle pick
deducted_falls false u row f l e b = by_cases (λ (n : ℕ). n ≤ deduction row l e) (u && (f <f? whole (70 * l))) 0 (deduction row l e) (λ t. omega arith) (λ t. le_refl _)
deducted_falls true true row f l e b = le_refl _
deducted_falls true false row f l e b = absurd (true≢false (sym (b refl)))

-- and the same where its forecastle is long enough
pub deducted_same : (t u : Bool) (row : List ℕ) (f : Frac) (l e : ℕ) → lacks_forecastle true f l ≡ false → deducted t row f l e ≡ deducted u row f l e
unfolding deducted lacks_forecastle
deducted_same t u row f l e h = ap (λ (b : Bool). pick b 0 (deduction row l e)) (either t ∙ sym (either u))
  where
    either : (b : Bool) → lacks_forecastle b f l ≡ false
    either true = h
    either false = refl

-- ---- a greater E, and a longer forecastle, never deduct less
share_grows : (row : List ℕ) (l e f : ℕ) → e ≤ f → share row l e ≤ share row l f
unfolding share exact_share
share_grows row l e f h =
    let t = frac 1 (100 * l) in
    floor_mono (exact_share row l (whole e) *f whole 1000000) (exact_share row l (whole f) *f whole 1000000)
    (*_mono≤ (*_mono≤ (along_mono row (*_mono≤ {x = whole e} {y = whole f} (omega arith) (refl≤ t))) (refl≤ (frac 1 1000))) (refl≤ (whole 1000000)))

pub of_full_grows : (l s t : ℕ) → s ≤ t → of_full l s ≤ of_full l t
unfolding of_full
of_full_grows l s t h =
    floor_mono (whole (full l) *f frac s 1000000) (whole (full l) *f frac t 1000000)
    (*_mono≤ {z = frac s 1000000} {w = frac t 1000000} (refl≤ (whole (full l))) (omega arith))

pub deduction_grows : (row : List ℕ) (l e f : ℕ) → e ≤ f → deduction row l e ≤ deduction row l f
unfolding deduction
deduction_grows row l e f h = of_full_grows l (share row l e) (share row l f) (share_grows row l e f h)

pub deducted_grows : (type_b : Bool) (row : List ℕ) {x y : Frac} (l e f : ℕ) → x ≤f y → e ≤ f → deducted type_b row x l e ≤ deducted type_b row y l f
unfolding deducted lacks_forecastle pick
deducted_grows false row l e f h k = deduction_grows row l e f k
deducted_grows true row {x} {y} l e f h k = go (x <f? whole (70 * l)) (y <f? whole (70 * l)) refl refl
  where
    go : (a b : Bool) → (x <f? whole (70 * l)) ≡ a → (y <f? whole (70 * l)) ≡ b → pick a 0 (deduction row l e) ≤ pick b 0 (deduction row l f)
    go true b p q = omega arith
    go false false p q = deduction_grows row l e f k
    go false true p q =
        let m : whole (70 * l) ≤f x = record { le = ltb-false (x.top * 1) (70 * l * x.bot) p } in
        let n = ltb-true (y.top * 1) (70 * l * y.bot) q in
        absurd (omega (arith, trans≤ m h, n))
