-- What is framed is judged.
use Rattle.std.proofs.Common.{sym, ap, ◌∙◌}
use Rattle.std.proofs.lemmas.Result.{err_from_is_err_and}
use Rattle.whole.specs.Pick.{pick}
use Rattle.ship.specs.Refusals.{Paper}
use Rattle.record.specs.Reading.{Reading, reading_of}
use Rattle.record.proofs.Framed.{reading_refused, reading_unframed}
use Rattle.reader.proofs.Frame.{judged}
use Rattle.reader.proofs.read.Goals as goal

pub returns-in_err-x : goal.returns-in_err-x
returns-in_err-x c =
    let p = err_from_is_err_and c.from_residual.result c.from_residual.ensures.1 in
    rw (p.1, p.2) (sym (reading_unframed c.args.s.now c.in_err-x.field-0.0 (ap (λ (z : Reading). z.verdict) (sym c.in_err-x.ensures.answer))))

pub returns-in_err-of_ship : goal.returns-in_err-of_ship
returns-in_err-of_ship c =
    let p = err_from_is_err_and c.from_residual-in_err-of_ship.result c.from_residual-in_err-of_ship.ensures.1 in
    let x = c.in_ok-x.x in
    rw (p.1, p.2) (sym (judged c.args.s.now x c.in_ok-x.ensures.answer ∙ ap (λ (v : Paper). reading_of v x) (sym c.in_err-of_ship.ensures) ∙ reading_refused c.in_err-of_ship.field-0.0 x))

pub returns : goal.returns
unfolding pick
returns c =
    let x = c.in_ok-x.x in
    sym (judged c.args.s.now x c.in_ok-x.ensures.answer ∙ ap (λ (v : Paper). reading_of v x) (sym c.in_ok-of_ship.ensures))
