-- A refusal leaves the buffer; a ship that is not refused is good.
use Rattle.std.proofs.Common.{length, sym, ap}
use Rattle.std.proofs.lemmas.Result.{err_from_is_err_and}
use Rattle.ship.specs.Refusals.{Paper}
use Rattle.ship.proofs.Accepted.{good}
use Rattle.ship.proofs.Lines.{beside_refusal}
use Rattle.record.specs.Writing.{written}
use Rattle.record.proofs.Written.{writing_passed, head_fits, houses_fit}
use Rattle.writer.proofs.write.Goals as goal

pub returns-in_err-verdict-clause-buf_after : goal.returns-in_err-verdict-clause-buf_after
unfolding written
returns-in_err-verdict-clause-buf_after c =
    let p = err_from_is_err_and c.from_residual.result c.from_residual.ensures.1 in
    rw (p.1, p.2) (sym (beside_refusal c.in_err-verdict.field-0.0 _ _))

pub put_record-requires : goal.put_record-requires
put_record-requires c =
    let x = c.args.x in
    let p = writing_passed (length c.args.buf.now) x (ap (λ (z : Paper). z.number) (sym c.in_ok-verdict.ensures)) in
    let g = good x (ap (λ (z : Paper). z.number) p.3) in
    record { n_bound = (p.2, p.4); fit = head_fits x p.0 p.2 g; houses_fit = houses_fit x g }
