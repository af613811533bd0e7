use mathlib.Core.Path.{sym, ap, ◌∙◌}
use lib.ListN.{length}
use Rattle.ship.specs.Refusals.{Paper}
use Rattle.face.proofs.Room.{few_written}
use Rattle.face.proofs.loadline_write.Goals as goal

pub length_of-requires : goal.length_of-requires
length_of-requires c = λ z. few_written (length c.args.buffer.now) c.from-x.result (ap (λ (p : Paper). p.number) (sym c.write-v.ensures.result_value) ∙ z)
