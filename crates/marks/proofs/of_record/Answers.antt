use mathlib.Core.Path.{sym, ap, ◌∙◌}
use Rattle.std.proofs.lemmas.Result.{err_from_is_err_and}
use Rattle.record.specs.Reading.{Reading}
use Rattle.marks.proofs.Demand.{bounded_in}
use Rattle.marks.proofs.Sheet.{sound_read, answer_read, answer_refused}
use Rattle.marks.proofs.of_record.Goals as goal

pub returns-in_err-ship-clause-equation : goal.returns-in_err-ship-clause-equation
returns-in_err-ship-clause-equation c =
    let p = err_from_is_err_and c.from_residual.result c.from_residual.ensures.1 in
    rw (p.1, p.2) (sym (answer_refused c.args.s.now c.in_err-ship.field-0.0 (ap (λ (z : Reading). z.verdict) (sym c.in_err-ship.ensures))))

pub invariant_of-of_ship : goal.invariant_of-of_ship
invariant_of-of_ship c = record { sound = sound_read c.args.s.now c.in_ok-ship.ship (sym c.in_ok-ship.ensures) }

pub returns-clause-equation : goal.returns-clause-equation
returns-clause-equation c = c.of_ship.ensures.equation ∙ sym (answer_read c.args.s.now c.in_ok-ship.ship (sym c.in_ok-ship.ensures))

pub returns-clause-bounded : goal.returns-clause-bounded
returns-clause-bounded c = bounded_in c.args.s.now c.of_ship.result (returns-clause-equation c)
