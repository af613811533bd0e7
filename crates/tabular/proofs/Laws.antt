-- Laws of a table's line, from the rule of its rows: it is what code finds between two rows, it grows with the length, and A is at most B.
use mathlib.Core.Path.{◌≡◌, refl, ap}
use mathlib.Core.List.{List}
use Prim.Native.Nat.{ℕ, ◌+◌, ◌*◌, ◌-◌, ◌%◌, ◌≤◌, ◌<◌, min, max}
use native.Mathlib.Nat.{le_refl, le_of_lt, mul-le-mul_right}
use native.Mathlib.Decide.{dec_lt}
use native.Mathlib.Omega.{arith}
use lib.ListN.{length, get_or}
use Rattle.std.specs.List.Sorted.{IsNonDecreasing}
use Rattle.std.proofs.lemmas.List.Sorted.{IsNonDecreasingBy-from_default}
use Rattle.whole.proofs.Climb.{climb}
use Rattle.tables.proofs.Rule27 as Rule27
use Rattle.tables.proofs.Rule28.{rule}
use Rattle.tables.specs.Table27.{table27}
use Rattle.tables.specs.Table28.{table28_a, table28_b}
use Rattle.tabular.specs.Tabular.{tabular, row_of, next_of, table_a, table_b, covers_add}

-- what the laws ask of a table, and each of the three has: how many rows it has, that they rise, and that none is above `most`
pub record Rows (n most : ℕ) (t : List ℕ) : Type 0 where
  pub count : length t ≡ n
  pub rises : (k : ℕ) → k + 1 < n → get_or t k 0 < get_or t (k + 1) 0
  pub small : (k : ℕ) → k < n → get_or t k 0 ≤ most

pub rows_a : Rows 342 6000 table28_a
rows_a =
    record {
      count = unfold table28_a in refl;
      rises = λ k h. (rule k (omega arith)).a_rises h;
      small = λ k h. (let r = rule k h in omega arith);
    }

pub rows_b : Rows 342 6000 table28_b
rows_b =
    record {
      count = unfold table28_b in refl;
      rises = λ k h. (rule k (omega arith)).b_rises h;
      small = λ k h. (rule k h).b_small;
    }

pub rows_27 : Rows 93 358 table27
rows_27 =
    record {
      count = unfold table27 in refl;
      rises = λ k h. (Rule27.rule k (omega arith)).rises h;
      small = λ k h. (Rule27.rule k h).small;
    }

module _ {n most : ℕ} {t : List ℕ} (r : Rows n most t) where
  -- no row is above a later one
  later_row : (j k : ℕ) → j ≤ k → k < n → get_or t j 0 ≤ get_or t k 0
  later_row = climb (λ k. get_or t k 0) n (λ k h. le_of_lt (r.rises k h))

  pub non_decreasing : IsNonDecreasing t
  non_decreasing = IsNonDecreasingBy-from_default (λ (x : ℕ). x) t 0 (λ i j h g. later_row i j h (omega (arith, r.count)))

module _ {n most : ℕ} {t : List ℕ} (r : Rows n most t) (first : ℕ) where
  -- the two rows that a length lies between
  record Pair (l : ℕ) : Type 0 where
    up : get_or t (row_of first l) 0 ≤ get_or t (next_of first t l) 0
    small : get_or t (next_of first t l) 0 ≤ most

  pair : (l : ℕ) → row_of first l < n → Pair l
  pair l h = record { up = up; small = r.small (next_of first t l) (omega (arith, r.count)) }
    where
      up : get_or t (row_of first l) 0 ≤ get_or t (next_of first t l) 0
      up =
          elim (dec_lt (row_of first l + 1) n) [
            | yes g ↦ (let e : next_of first t l ≡ row_of first l + 1 = omega (arith, r.count) in rw e (omega (arith, r.rises (row_of first l) g)))
            | no g ↦ (let e : next_of first t l ≡ row_of first l = omega (arith, r.count) in rw e (le_refl _))
          ]

  pub tabular_at_most_next : (l : ℕ) → row_of first l < n → tabular first t l ≤ get_or t (next_of first t l) 0 * 1000
  unfolding tabular
  tabular_at_most_next l h =
      let q = pair l h in
      let p : l % 1000 ≤ 1000 = omega arith in
      omega (arith, mul-le-mul_right (get_or t (next_of first t l) 0 - get_or t (row_of first l) 0) p)

  -- nothing between two rows is above the greatest row
  pub at_most : (l : ℕ) → row_of first l < n → tabular first t l ≤ 1000 * most
  at_most l h = omega (arith, tabular_at_most_next l h, (pair l h).small)

  -- a longer ship has no less
  pub tabular_grows : (l m : ℕ) → 1000 * first ≤ l → l ≤ m → row_of first m < n → tabular first t l ≤ tabular first t m
  unfolding tabular
  tabular_grows l m h g b =
      elim (dec_lt (row_of first l) (row_of first m)) [
        | yes i ↦
            omega (arith, tabular_at_most_next l (omega arith), later_row r (next_of first t l) (row_of first m) (omega (arith, r.count)) (omega arith))
        | no i ↦
            let e : row_of first l ≡ row_of first m = omega arith in
            let p : l % 1000 ≤ m % 1000 = omega arith in
            rw e (omega (arith, mul-le-mul_right (get_or t (next_of first t m) 0 - get_or t (row_of first m) 0) p))
      ]

-- the value between two rows, as a share of each
mix : (lo hi p : ℕ) → lo ≤ hi → p ≤ 1000 → 1000 * lo + p * (hi - lo) ≡ lo * (1000 - p) + hi * p
mix lo hi p h g =
    let e : lo + (hi - lo) ≡ hi = omega arith in
    let f : p + (1000 - p) ≡ 1000 = omega arith in
    omega (arith, ap (λ (x : ℕ). x * p) e, ap (λ (x : ℕ). lo * x) f)

pub tabular_a_at_most_b : (l : ℕ) → l ≤ 365000 → table_a l ≤ table_b l
unfolding tabular
tabular_a_at_most_b l h =
    let r = pair rows_a 24 l (omega arith) in
    let s = pair rows_b 24 l (omega arith) in
    let k : ℕ = row_of 24 l in
    let j : ℕ = min (k + 1) 341 in
    rw (rows_a.count, rows_b.count)
    (rw (mix (get_or table28_a k 0) (get_or table28_a j 0) (l % 1000) (rw rows_a.count at r.up) (omega arith), mix (get_or table28_b k 0) (get_or table28_b j 0) (l % 1000) (rw rows_b.count at s.up) (omega arith))
    (omega (
      arith,
      mul-le-mul_right (1000 - l % 1000) (rule k (omega arith)).a_at_most_b,
      mul-le-mul_right (l % 1000) (rule j (omega arith)).a_at_most_b,
    )))

-- what portable covers add grows with the length to 200 m
pub covers_grow : (l m : ℕ) → l ≤ m → m ≤ 200000 → covers_add l ≤ covers_add m
covers_grow l m h g = tabular_grows rows_27 108 (max l 108000) (max m 108000) (omega arith) (omega arith) (omega arith)
