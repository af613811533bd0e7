-- Too few bytes, a head that is refused, a spare bit that is set, or a ship.
use Rattle.std.proofs.Common.{sym, ap, ◌∙◌, arith}
use Rattle.std.proofs.lemmas.Result.{err_from_is_err_and}
use Rattle.ship.specs.declared.Ship.{Ship}
use Rattle.ship.specs.declared.refusal.Refusal.TheVariants.{ShortRecord}
use Rattle.record.specs.declared.Head.{Head}
use Rattle.record.specs.Layout.{ship_of}
use Rattle.record.proofs.Parts.{spare_within}
use Rattle.reader.proofs.Frame.{headed, frame_short, frame_head, frame_spare, ship_whole, framed_refused, framed_accepted}
use Rattle.reader.proofs.framed.Goals as goal

pub returns-then-short-clause-answer : goal.returns-then-short-clause-answer
returns-then-short-clause-answer c = let s = c.args.s.now in framed_refused s ShortRecord (frame_short s (omega arith))

pub returns-in_err-check_head-clause-answer : goal.returns-in_err-check_head-clause-answer
returns-in_err-check_head-clause-answer c =
    let p = err_from_is_err_and c.from_residual.result c.from_residual.ensures.1 in
    let r = c.in_err-check_head.field-0.0 in
    let s = c.args.s.now in
    rw (p.1, p.2) (framed_refused s r (frame_head s c.read-h.result c.read-h.ensures (omega arith) r (sym c.in_err-check_head.ensures)))

pub houses_in-all-requires : goal.houses_in-all-requires
houses_in-all-requires c = let f = headed c.read-h.result _ (sym c.in_ok-check_head.ensures) in (f.0, omega arith)

pub overflow_add-h : goal.overflow_add-h
overflow_add-h c = omega (arith, spare_within c.args.s.now, ap (λ (h : Head). h.spare) c.read-h.ensures, c.houses_in-all.ensures.2)

pub returns-in_err-line-clause-answer : goal.returns-in_err-line-clause-answer
returns-in_err-line-clause-answer c =
    let p = err_from_is_err_and c.from_residual-in_err-line.result c.from_residual-in_err-line.ensures.1 in
    let s = c.args.s.now in
    let h = c.read-h.result in
    rw (p.1, p.2) (framed_refused s c.in_err-line.field-0.0 (frame_spare s h c.read-h.ensures (omega arith) (sym c.in_ok-check_head.ensures) ∙ rw (← c.houses_in-all.ensures.1) (sym c.in_err-line.ensures)))

pub ship_of-requires : goal.ship_of-requires
ship_of-requires c = (headed c.read-h.result _ (sym c.in_ok-check_head.ensures)).0

pub returns-clause-answer : goal.returns-clause-answer
returns-clause-answer c =
    let s = c.args.s.now in
    let h = c.read-h.result in
    framed_accepted s c.ship_of.result (c.ship_of.ensures ∙ ap (ship_of h) c.houses_in-all.ensures.0 ∙ ship_whole s h c.read-h.ensures (omega arith))
    (frame_spare s h c.read-h.ensures (omega arith) (sym c.in_ok-check_head.ensures) ∙ rw (← c.houses_in-all.ensures.1) (sym c.in_ok-line.ensures))

pub returns-clause-places : goal.returns-clause-places
returns-clause-places c = omega (arith, (headed c.read-h.result _ (sym c.in_ok-check_head.ensures)).0, ap (λ (x : Ship). x.n) c.ship_of.ensures)
