-- What is added before sheer: what the roundings cost along the steps.
use mathlib.Core.Bool.{Bool, true, false, true≢false}
use mathlib.Core.Path.{◌≡◌, refl, sym, ap, ◌∙◌}
use Prim.Native.Nat.{ℕ, ◌+◌, ◌≤◌, ◌<◌}
use native.Mathlib.Omega.{arith}
use Rattle.whole.specs.Frac.{Frac, ◌+f◌, ◌*f◌, whole, frac}
use Rattle.whole.specs.Pick.{pick}
use Rattle.whole.specs.Round.{Within, Below}
use Rattle.whole.proofs.Pick.{by_both}
use Rattle.whole.proofs.Round.{near_self, sum, loosen}
use Rattle.corrections.specs.Short29.{short_b}
use Rattle.corrections.specs.Fullness30.{fullness}
use Rattle.corrections.specs.Depth31.{depth_addition}
use Rattle.corrections.specs.Gathered.{made_full, exact_made_full, added, exact_added}
use Rattle.corrections.proofs.Short29.{short_within, short_long, short_falls}
use Rattle.corrections.proofs.Fullness30.{fullness_within, fullness_rises}
use Rattle.corrections.proofs.Depth31.{depth_within}

-- what the table's line is rounded by and what 29 costs with an E that is short by s, grown by 30, and 1 um each of 30 and 31
pub added_within : {table : ℕ} {t r s : Frac} → Within table t r → (type_b : Bool) (l d cb e : ℕ) (x : Frac) → 24000 ≤ l → cb ≤ 12000 → Below e x s
    → Within (added table type_b l d cb e) (exact_added t type_b l d cb x) ((r +f (s *f frac 19 800 +f whole 1)) *f frac 47 34 +f whole 2)
unfolding added exact_added made_full exact_made_full
added_within {s = s} v type_b l d cb e x h k w =
    loosen (omega arith)
    (sum (fullness_within cb k (sum v (by_both (λ (c : ℕ) (y : Frac). Within c y (s *f frac 19 800 +f whole 1)) type_b _ _ _ _
    (λ t. short_within l e x h w) (λ t. near_self (whole 0) (s *f frac 19 800 +f whole 1)))))
    (depth_within l d))

-- a higher line has no less, and a ship of type B no less than one of type A: 29 only adds
pub added_rises : (m n : ℕ) (t u : Bool) (l d cb e : ℕ) → m ≤ n → (t ≡ true → u ≡ true) → added m t l d cb e ≤ added n u l d cb e
unfolding added made_full pick
added_rises m n t u l d cb e h b = omega (arith, fullness_rises cb (m + pick t (short_b l e) 0) (n + pick u (short_b l e) 0) (sums t u b))
  where
    sums : (t u : Bool) → (t ≡ true → u ≡ true) → m + pick t (short_b l e) 0 ≤ n + pick u (short_b l e) 0
    sums false u b = omega arith
    sums true true b = omega arith
    sums true false b = absurd (true≢false (sym (b refl)))

-- and from 100 m on the same: 29 is for shorter ships
pub added_long : (m : ℕ) (t u : Bool) (l d cb e : ℕ) → 100000 ≤ l → added m t l d cb e ≡ added m u l d cb e
unfolding added made_full pick
added_long m t u l d cb e h = ap (λ (n : ℕ). fullness cb (m + n) + depth_addition l d) (none t ∙ sym (none u))
  where
    none : (b : Bool) → pick b (short_b l e) 0 ≡ 0
    none false = refl
    none true = short_long l e h

-- and a greater E never more
pub added_falls : (m : ℕ) (t : Bool) (l d cb e f : ℕ) → 0 < l → e ≤ f → added m t l d cb f ≤ added m t l d cb e
unfolding added made_full pick
added_falls m t l d cb e f p h = omega (arith, fullness_rises cb (m + pick t (short_b l f) 0) (m + pick t (short_b l e) 0) (sums t))
  where
    sums : (t : Bool) → m + pick t (short_b l f) 0 ≤ m + pick t (short_b l e) 0
    sums false = omega arith
    sums true = omega (arith, short_falls l e f p h)
