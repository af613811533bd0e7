-- Laws of specs/Row.antt.
use mathlib.Core.Path.{◌≡◌, refl, sym}
use mathlib.Core.List.{List, [], ◌∷◌}
use Prim.Native.Nat.{ℕ, zero, suc, zero-le, ◌+◌, ◌*◌, ◌-◌, ◌/◌, ◌≤◌, ◌<◌, min}
use native.Mathlib.Omega.{arith}
use native.Mathlib.Decide.{dec_lt}
use native.Mathlib.Numerals.{add-one}
use native.Mathlib.Nat.{mul-le-mul_left, mul-le-mul_right, mul_comm, zero-sub, min-zero, min-eq_right, div-mul-le_self, lt-div-mul-add, not-suc-le-zero, le_of_suc-le-suc, le_trans}
use lib.ListN.{length, get_or}
use Rattle.whole.proofs.Divide.{min_mul, sub_mul}
use Rattle.whole.specs.Frac.{Frac, ◌≤f◌, ◌≈f◌, ◌+f◌, ◌*f◌, ◌-f◌, whole}
use Rattle.whole.specs.Round.{Near}
use Rattle.whole.specs.Row.{Rises, Rising, Under, gain, height, along}

-- the value from the beginning of the segment j, in which the place lies: as code works it
unfoldable pub height_in : List ℕ → ℕ → ℕ → ℕ → ℕ
height_in row j t d = get_or row j 0 * d + (get_or row (j + 1) 0 - get_or row j 0) * (t - j * d)

-- ---- the four laws of the gain, each by induction over the segments
gain_mono : (p : ℕ) (ps : List ℕ) (t u d : ℕ) → t ≤ u → gain p ps t d ≤ gain p ps u d
unfolding gain
gain_mono p [] t u d h = zero-le
gain_mono p (q ∷ ps) t u d h =
    let k : min d t ≤ min d u = omega arith in
    omega (arith, mul-le-mul_left (q - p) k, gain_mono q ps (t - d) (u - d) d (omega arith))

-- of the way from t to u, what lies in the first segment and what lies past it
way : (d t u s : ℕ) → u ≤ t + s → min d u - min d t + (u - d - (t - d)) ≤ s
way d t u s h = omega arith

one_more : (r m x y a b c f g : ℕ) → r ≤ m → x ≤ y + a → f ≤ g + m * b → a + b ≤ c → r * x + f ≤ r * y + g + m * c
one_more r m x y a b c f g h k i l = omega (arith, mul-le-mul_left r k, mul-le-mul_right a h, mul-le-mul_left m l)

-- going on by s adds at most m times s
gain_steep : (m M p : ℕ) (ps : List ℕ) → Rises m M p ps → (t u s d : ℕ) → u ≤ t + s → gain p ps u d ≤ gain p ps t d + m * s
unfolding gain
gain_steep m M p [] r t u s d h = zero-le
gain_steep m M p (q ∷ ps) r t u s d h =
    one_more (q - p) m (min d u) (min d t) (min d u - min d t) (u - d - (t - d)) s (gain q ps (u - d) d) (gain q ps (t - d) d)
    (omega arith) (omega arith) (gain_steep m M q ps r.2 (t - d) (u - d) (u - d - (t - d)) d (omega arith)) (way d t u s h)

-- the gain goes with the unit
gain_scale : (p : ℕ) (ps : List ℕ) (t d k : ℕ) → gain p ps (t * k) (d * k) ≡ gain p ps t d * k
unfolding gain
gain_scale p [] t d k = omega arith
gain_scale p (q ∷ ps) t d k = rw (← min_mul d t k, ← sub_mul t d k, gain_scale q ps (t - d) d k) (omega arith)

gain_most : (m M p : ℕ) (ps : List ℕ) → Rises m M p ps → (t d : ℕ) → p * d + gain p ps t d ≤ M * d
unfolding gain
gain_most m M p [] r t d = omega (arith, mul-le-mul_right d r)
gain_most m M p (q ∷ ps) r t d =
    let k : min d t ≤ d = omega arith in
    omega (arith, mul-le-mul_left (q - p) k, sub_mul q p d, mul-le-mul_right d r.0, gain_most m M q ps r.2 (t - d) d)

-- nothing is gained at the row's beginning
gain_zero : (p : ℕ) (ps : List ℕ) (d : ℕ) → gain p ps 0 d ≡ 0
unfolding gain
gain_zero p [] d = refl
gain_zero p (q ∷ ps) d = rw (zero-sub d, gain_zero q ps d, min-zero d) (omega arith)

-- of two rows, one nowhere below the other: on a segment, and from it on
blend : (p r q s t e : ℕ) → p ≤ r → q ≤ s → p ≤ q → r ≤ s → p * (t + e) + (r - p) * t ≤ q * (t + e) + (s - q) * t
blend p r q s t e a b c d =
    omega (arith, sub_mul r p t, sub_mul s q t, mul-le-mul_right t a, mul-le-mul_right t b, mul-le-mul_right e c, mul-le-mul_right t d)

gain_under : (m M n N p q : ℕ) (ps qs : List ℕ) → Rises m M p ps → Rises n N q qs → p ≤ q → Under ps qs → (t d : ℕ)
    → p * d + gain p ps t d ≤ q * d + gain q qs t d
unfolding gain
gain_under m M n N p q [] [] a b c u t d = omega (arith, mul-le-mul_right d c)
gain_under m M n N p q [] (s ∷ qs) a b c u t d = omega (arith, mul-le-mul_right d c)
gain_under m M n N p q (r ∷ ps) [] a b c u t d = absurd u
gain_under m M n N p q (r ∷ ps) (s ∷ qs) a b c u t d =
    elim (dec_lt t d) [
      | yes h ↦ (
          let z : t - d ≡ 0 = omega arith in
          let k : min d t ≡ t = omega arith in
          let e : t + (d - t) ≡ d = omega arith in
          let f : p * d + (r - p) * t ≤ q * d + (s - q) * t = rw e at (blend p r q s t (d - t) a.0 b.0 c u.0) in
          rw (z, k, gain_zero r ps d, gain_zero s qs d) (omega (arith, f))
          )
      | no h ↦ (
          let k : min d t ≡ d = omega arith in
          let i = gain_under m M n N r s ps qs a.2 b.2 u.0 u.1 (t - d) d in
          rw k (omega (arith, i, sub_mul r p d, sub_mul s q d, mul-le-mul_right d a.0, mul-le-mul_right d b.0))
          )
    ]

segment : (m M p : ℕ) (ps : List ℕ) → Rises m M p ps → (j t d : ℕ) → j < length ps → j * d ≤ t → t ≤ suc j * d
    → p * d + gain p ps t d ≡ get_or (p ∷ ps) j 0 * d + (get_or (p ∷ ps) (suc j) 0 - get_or (p ∷ ps) j 0) * (t - j * d)
unfolding gain
segment m M p [] r j t d h k l = absurd (not-suc-le-zero h)
segment m M p (q ∷ ps) r zero t d h k l =
    let e : t - d ≡ 0 = omega arith in
    let f : min d t ≡ t - 0 * d = omega arith in
    rw (e, f, gain_zero q ps d) (omega arith)
segment m M p (q ∷ ps) r (suc j) t d h k l =
    let e : t - suc j * d ≡ t - d - j * d = omega arith in
    let f : min d t ≡ d = omega arith in
    let g : (q - p) * d + p * d ≡ q * d = omega (arith, sub_mul q p d, mul-le-mul_right d r.0) in
    rw (e, f) (omega (arith, segment m M q ps r.2 j (t - d) d (le_of_suc-le-suc h) (omega arith) (omega arith)))

-- ---- over the row
-- what code computes, with any j whose segment holds the place, is the row's value
pub height_in_lem : {m M : ℕ} {row : List ℕ} → Rising m M row → (j t d : ℕ) → j + 1 < length row → j * d ≤ t → t ≤ (j + 1) * d
    → height_in row j t d ≡ height row t d
unfolding height height_in
height_in_lem {row = []} r j t d h k l = absurd r.steps
height_in_lem {m} {M} {row = p ∷ ps} r j t d h k l = rw add-one (sym (segment m M p ps r.steps j t d (omega arith) k (omega arith)))

-- j = t / d, and n in the last segment, which the row's end closes
pub height_by : {m M : ℕ} {row : List ℕ} → Rising m M row → (n t d : ℕ) → 0 < d → n + 1 < length row → t ≤ (n + 1) * d
    → height_in row (min (t / d) n) t d ≡ height row t d
height_by r n t d p h l =
    height_in_lem r (min (t / d) n) t d (omega arith)
    (omega (arith, div-mul-le_self t d, min_mul (t / d) n d))
    (omega (arith, lt-div-mul-add {a = t} p, min_mul (t / d) n d))

-- of a row of two, within its one segment
pub height_of_two : (p q t d : ℕ) → t ≤ d → height (p ∷ q ∷ []) t d ≡ p * d + (q - p) * t
unfolding height gain
height_of_two p q t d h = rw (min-eq_right {n = t} {m = d} h) (omega arith)

pub height_mono : (row : List ℕ) (t d u c : ℕ) → t * c ≤ u * d → height row t d * c ≤ height row u c * d
unfolding height
height_mono [] t d u c h = omega arith
height_mono (p ∷ ps) t d u c h =
    omega (arith, gain_scale p ps t d c, rw (mul_comm c d) at (gain_scale p ps u c d), gain_mono p ps (t * c) (u * d) (d * c) h)

pub height_steep : {m M : ℕ} {row : List ℕ} → Rising m M row → (t d u c a b : ℕ) → u * (d * b) ≤ (t * b + a * d) * c
    → height row u c * (d * b) ≤ (height row t d * b + m * a * d) * c
unfolding height
height_steep {row = []} r t d u c a b h = absurd r.steps
height_steep {m} {M} {row = p ∷ ps} r t d u c a b h =
    let e : c * (d * b) ≡ d * (b * c) = omega arith in
    omega (
      arith,
      gain_scale p ps t d (b * c),
      rw e at (gain_scale p ps u c (d * b)),
      gain_steep m M p ps r.steps (t * (b * c)) (u * (d * b)) (a * (d * c)) (d * (b * c)) (omega arith),
    )

pub height_most : {m M : ℕ} {row : List ℕ} → Rising m M row → (t d : ℕ) → height row t d ≤ M * d
unfolding height
height_most {row = []} r t d = absurd r.steps
height_most {m} {M} {row = p ∷ ps} r t d = gain_most m M p ps r.steps t d

-- an entry is at most the next, and at most M
rises_at : (m M p : ℕ) (ps : List ℕ) → Rises m M p ps → (j : ℕ) → j < length ps → get_or (p ∷ ps) j 0 ≤ get_or (p ∷ ps) (suc j) 0
rises_at m M p [] r j h = absurd (not-suc-le-zero h)
rises_at m M p (q ∷ ps) r zero h = r.0
rises_at m M p (q ∷ ps) r (suc j) h = rises_at m M q ps r.2 j (le_of_suc-le-suc h)

most_at : (m M p : ℕ) (ps : List ℕ) → Rises m M p ps → (j : ℕ) → get_or (p ∷ ps) j 0 ≤ M
most_at m M p [] r zero = r
most_at m M p [] r (suc j) = zero-le
most_at m M p (q ∷ ps) r zero = le_trans r.0 (most_at m M q ps r.2 zero)
most_at m M p (q ∷ ps) r (suc j) = most_at m M q ps r.2 j

pub entry_rises : {m M : ℕ} {row : List ℕ} → Rising m M row → (j : ℕ) → j + 1 < length row → get_or row j 0 ≤ get_or row (j + 1) 0
entry_rises {row = []} r j h = absurd r.steps
entry_rises {m} {M} {row = p ∷ ps} r j h = rw add-one (rises_at m M p ps r.steps j (omega arith))

pub entry_most : {m M : ℕ} {row : List ℕ} → Rising m M row → (j : ℕ) → get_or row j 0 ≤ M
entry_most {row = []} r j = zero-le
entry_most {m} {M} {row = p ∷ ps} r j = most_at m M p ps r.steps j

pub along_mono : (row : List ℕ) {x y : Frac} → x ≤f y → along row x ≤f along row y
along_mono row {x} {y} h = record { le = height_mono row x.top x.bot y.top y.bot h.le }

-- y is at most s past x: its value is at most m s more
pub along_steep : {m M : ℕ} {row : List ℕ} → Rising m M row → (x y s : Frac) → y ≤f x +f s → along row y ≤f along row x +f whole m *f s
along_steep r x y s h = omega (arith, height_steep r x.top x.bot y.top y.bot s.top s.bot h.le)

pub along_most : {m M : ℕ} {row : List ℕ} → Rising m M row → (x : Frac) → along row x ≤f whole M
along_most r x = omega (arith, height_most r x.top x.bot)

-- a row that is nowhere below another has nowhere a lower value
pub along_under : {m M n N : ℕ} {row upper : List ℕ} → Rising m M row → Rising n N upper → Under row upper → (x : Frac) → along row x ≤f along upper x
unfolding height
along_under {row = []} a b u x = absurd a.steps
along_under {row = p ∷ ps} {upper = []} a b u x = absurd u
along_under {m} {M} {n} {N} {row = p ∷ ps} {upper = q ∷ qs} a b u x =
    record { le = mul-le-mul_right x.bot (gain_under m M n N p q ps qs a.steps b.steps u.0 u.1 x.top x.bot) }

-- what the value is: between the entries j and j + 1 it is linear
pub along_in : {m M : ℕ} {row : List ℕ} → Rising m M row → (j : ℕ) (x : Frac) → j + 1 < length row → whole j ≤f x → x ≤f whole (j + 1)
    → along row x ≈f whole (get_or row j 0) +f whole (get_or row (j + 1) 0 - get_or row j 0) *f (x -f whole j)
unfolding height_in
along_in {row = row} r j x h k l =
    let e : height row x.top x.bot ≡ height_in row j x.top x.bot = sym (height_in_lem r j x.top x.bot h (omega arith) (omega arith)) in
    let f : x.top * 1 - j * x.bot ≡ x.top - j * x.bot = omega arith in
    rw (e, f) (omega arith)

pub near_along : {m M : ℕ} {row : List ℕ} {x y s : Frac} → Rising m M row → Near x y s → Near (along row x) (along row y) (whole m *f s)
near_along {row = row} {x} {y} {s} r n = record { above = along_mono row n.above; close = along_steep r x y s n.close }
