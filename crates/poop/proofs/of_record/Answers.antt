use mathlib.Core.Path.{sym, ap, ◌∙◌}
use Rattle.std.proofs.lemmas.Result.{err_from_is_err_and}
use Rattle.record.specs.Reading.{Reading}
use Rattle.marks.proofs.Sheet.{sound_read}
use Rattle.poop.proofs.Replies.{reply_read, reply_refused}
use Rattle.poop.proofs.of_record.Goals as goal

pub returns-in_err-ship : goal.returns-in_err-ship
returns-in_err-ship c =
    let a = c.args in
    let p = err_from_is_err_and c.from_residual.result c.from_residual.ensures.1 in
    rw (p.1, p.2) (sym (reply_refused a.height a.wish a.s.now c.in_err-ship.field-0.0 (ap (λ (z : Reading). z.verdict) (sym c.in_err-ship.ensures))))

pub invariant_of-of_ship : goal.invariant_of-of_ship
invariant_of-of_ship c = record { sound = sound_read c.args.s.now c.in_ok-ship.ship (sym c.in_ok-ship.ensures) }

pub returns : goal.returns
returns c = let a = c.args in c.of_ship.ensures ∙ sym (reply_read a.height a.wish a.s.now c.in_ok-ship.ship (sym c.in_ok-ship.ensures))
