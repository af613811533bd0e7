-- The rule of a row of percentages, by one test for all of them.
use mathlib.Core.Path.{◌≡◌, refl, sym}
use mathlib.Core.Bool.{Bool, true, false, true≢false, ◌&&◌, and-eq-true_iff}
use mathlib.Core.List.{List, [], ◌∷◌}
use Prim.Native.Nat.{ℕ, zero, suc, zero-le, ◌+◌, ◌≤◌}
use native.Mathlib.Nat.{le_trans}
use borrow.Author.Tests.{leb-true}
use lib.Dec.{leb}
use lib.ListN.{length, get_or}
use Rattle.whole.specs.Row.{Rising}
use Rattle.percentages.specs.declared.Row.{Row}
use Rattle.percentages.specs.declared.Row.TheVariants.{Ordinary, Timber, Older, OlderBridge}
use Rattle.percentages.specs.Table37.{ordinary_row, timber_row, older_row, older_bridge_row, entries}
use Rattle.percentages.specs.Rule37.{Percentages}

-- the steps as a test, which the check computes: none down, none by more than 18 %, and not past 100 %
unfoldable rises : List ℕ → Bool
rises [] = false
rises (p ∷ []) = leb p 1000
rises (p ∷ q ∷ ps) = (leb p q && leb q (p + 180)) && rises (q ∷ ps)

-- what the test shows of the first two
record Step (p q : ℕ) (ps : List ℕ) : Type 0 where
  up : p ≤ q
  most : q ≤ p + 180
  rest : rises (q ∷ ps) ≡ true

step : (p q : ℕ) (ps : List ℕ) → rises (p ∷ q ∷ ps) ≡ true → Step p q ps
unfolding rises
step p q ps t =
    let a = (and-eq-true_iff (leb p q && leb q (p + 180)) (rises (q ∷ ps))).0 t in
    let b = (and-eq-true_iff (leb p q) (leb q (p + 180))).0 a.0 in
    record { up = leb-true _ _ b.0; most = leb-true _ _ b.1; rest = a.1 }

rising : (row : List ℕ) → rises row ≡ true → Rising 180 1000 row
unfolding rises
rising [] t = absurd (true≢false (sym t))
rising (p ∷ []) t = record { steps = leb-true _ _ t }
rising (p ∷ q ∷ ps) t = let s = step p q ps t in record { steps = (s.up, s.most, (rising (q ∷ ps) s.rest).steps) }

most : (row : List ℕ) → rises row ≡ true → (k : ℕ) → get_or row k 0 ≤ 1000
unfolding rises
most [] t k = absurd (true≢false (sym t))
most (p ∷ []) t zero = leb-true _ _ t
most (p ∷ []) t (suc k) = zero-le
most (p ∷ q ∷ ps) t zero = let s = step p q ps t in le_trans s.up (most (q ∷ ps) s.rest zero)
most (p ∷ q ∷ ps) t (suc k) = most (q ∷ ps) (step p q ps t).rest k

percentages : (row : List ℕ) → rises row ≡ true → length row ≡ 11 → get_or row 10 0 ≡ 1000 → Percentages row
percentages row t e f = record { eleven = e; rising = rising row t; most = most row t; last = f }

pub each_row : (row : Row) → Percentages (entries row)
unfolding rises ordinary_row timber_row older_row older_bridge_row
each_row Ordinary = percentages ordinary_row refl refl refl
each_row Timber = percentages timber_row refl refl refl
each_row Older = percentages older_row refl refl refl
each_row OlderBridge = percentages older_bridge_row refl refl refl
