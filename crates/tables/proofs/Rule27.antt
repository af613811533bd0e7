-- The rule of table 27.1, proved once over the row.
use mathlib.Core.Path.{◌≡◌, refl}
use mathlib.Core.Bool.{Bool, true, ◌&&◌, and-eq-true_iff}
use Prim.Native.Nat.{ℕ, ◌+◌, ◌<◌}
use borrow.Author.Tests.{leb-true, ltb-true}
use lib.Dec.{leb, ltb}
use lib.ListN.{get_or}
use Rattle.std.proofs.lemmas.List.{get_or_default}
use Rattle.tables.proofs.Every.{every, at}
use Rattle.tables.specs.Table27.{table27}
use Rattle.tables.specs.Rule27.{RowRule}

-- the rule as a test. Past the last row it reads 359, above all rows, so that the last needs no case
test : ℕ → Bool
test k = ltb (get_or table27 k 0) (get_or table27 (k + 1) 359) && leb (get_or table27 k 0) 358

passed : every test 93 ≡ true
unfolding test every table27
passed = refl

pub rule : (k : ℕ) → k < 93 → RowRule k
unfolding test
rule k h =
    let t = (and-eq-true_iff _ _).0 (at test 93 passed k h) in
    record {
      rises = λ g. rw (get_or_default table27 (k + 1) 0 359 (unfold table27 in g)) (ltb-true _ _ t.0);
      small = leb-true _ _ t.1;
    }
