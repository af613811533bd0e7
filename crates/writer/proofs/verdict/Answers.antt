-- Behind the head's checks the ship's own decide, then the room.
use Rattle.std.proofs.Common.{◌≡◌, sym, ◌∙◌, arith}
use Rattle.whole.specs.Pick.{pick}
use Rattle.record.specs.Writing.{bytes_for}
use Rattle.record.proofs.Written.{writing_judged}
use Rattle.writer.proofs.verdict.Goals as goal

pub returns : goal.returns
unfolding pick
returns c =
    let x = c.args.x in
    let bytes : c.record_length.result ≡ bytes_for x = cc in
    c.after.ensures ∙ rw (c.of_ship.ensures, c.line-last.ensures, bytes)
    (sym (writing_judged c.args.room x (omega arith) (sym c.timber_for_a.ensures ∙ c.if-timber_for_a.false) (omega arith)))
