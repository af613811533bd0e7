-- Fewer than eight bytes leave room for one more.
use Rattle.std.proofs.Common.{refl, arith}
use Rattle.bits.specs.Fields.{number, pack}
use Rattle.bits.proofs.Radix.{number_more, number_room}
use Rattle.bits.proofs.word.Goals as goal

pub loop-b-init : goal.loop-b-init
unfolding number pack
loop-b-init c = refl

pub overflow_mul-acc : goal.overflow_mul-acc
overflow_mul-acc c = omega (arith, number_room c.args.s.now c.loop-b.b-index (λ i. omega (arith, c.type_inv.s i)) (omega arith) c.requires)

pub overflow_add-acc : goal.overflow_add-acc
overflow_add-acc c = omega (arith, number_room c.args.s.now c.loop-b.b-index (λ i. omega (arith, c.type_inv.s i)) (omega arith) c.requires)

pub loop-b-preserved : goal.loop-b-preserved
loop-b-preserved c = omega (arith, number_more c.args.s.now c.loop-b.b-index)
