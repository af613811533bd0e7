-- The rule of tables 28.1 and 28.2, proved once over the row.
use mathlib.Core.Path.{◌≡◌, refl}
use mathlib.Core.Bool.{Bool, true, ◌&&◌, and-eq-true_iff}
use Prim.Native.Nat.{ℕ, ◌+◌, ◌<◌}
use borrow.Author.Tests.{leb-true, ltb-true}
use lib.Dec.{leb, ltb}
use lib.ListN.{get_or}
use Rattle.std.proofs.lemmas.List.{get_or_default}
use Rattle.tables.proofs.Every.{every, at}
use Rattle.tables.specs.Table28.{table28_a, table28_b}
use Rattle.tables.specs.Rule28.{RowRule}

-- the rule as a test. Past the last row it reads 6001, above all rows, so that the last needs no case
rises : ℕ → Bool
rises k = ltb (get_or table28_a k 0) (get_or table28_a (k + 1) 6001) && ltb (get_or table28_b k 0) (get_or table28_b (k + 1) 6001)

bounds : ℕ → Bool
bounds k = leb (get_or table28_a k 0) (get_or table28_b k 0) && leb (get_or table28_b k 0) 6000

test : ℕ → Bool
test k = rises k && bounds k

passed : every test 342 ≡ true
unfolding test rises bounds every table28_a table28_b
passed = refl

pub rule : (k : ℕ) → k < 342 → RowRule k
unfolding test rises bounds
rule k h =
    let t = (and-eq-true_iff (rises k) (bounds k)).0 (at test 342 passed k h) in
    let r = (and-eq-true_iff _ _).0 t.0 in
    let b = (and-eq-true_iff _ _).0 t.1 in
    record {
      a_rises = λ g. rw (get_or_default table28_a (k + 1) 0 6001 (unfold table28_a in g)) (ltb-true _ _ r.0);
      b_rises = λ g. rw (get_or_default table28_b (k + 1) 0 6001 (unfold table28_b in g)) (ltb-true _ _ r.1);
      a_at_most_b = leb-true _ _ b.0;
      b_small = leb-true _ _ b.1;
    }
