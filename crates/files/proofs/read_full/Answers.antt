-- What a turn read stands in the buffer behind what the turns before it filled.
use Rattle.std.proofs.Common.{◌≡◌, ℕ, ◌+◌, ◌-◌, ◌≤◌, List, ◌++◌, rules, arith, length, take, length-take-le}
use Rattle.std.proofs.lemmas.Slice.{take-put_mid_below}
use Rattle.std.proofs.lemmas.Grind.{common_steps}
use Rattle.std.proofs.KnownBytes.{Consumes-trans}
use borrow.Rule.Slice.PartMut.{put_mid}
use lib.Seq.{take-add}
use Rattle.files.proofs.read_full.Goals as goal

take_filled : (a k n : ℕ) (xs ys : List ℕ) → a ≤ length xs → n ≤ length ys → take (a + n) (put_mid a k xs ys) ≡ take a xs ++ take n ys
take_filled a k n xs ys within fits = grind (arith, common_steps, take-add, take-put_mid_below, length-take-le)

pub loop-done-preserved : goal.loop-done-preserved
loop-done-preserved g c =
    let from = c.loop-done.done in
    let buf = c.loop-done.buf in
    let n = c.in-Ok-1-to-max.n in
    let filled = take_filled from (length buf - from) n buf c.read.new.buf c.loop-done.invariant.1 c.in-Ok-1-to-max.ensures.bound.0 in
    (search rules, search rules, rw filled (Consumes-trans _ _ _ _ _ c.loop-done.invariant.2 c.in-Ok-1-to-max.ensures.bytes.0))
