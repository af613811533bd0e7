-- Fields that are refused hide the houses; fields that are accepted leave the verdict to them.
use Rattle.std.proofs.Common.{◌≡◌, ◌≤◌, sym, ap, ◌∙◌, arith}
use Rattle.std.proofs.lemmas.Result.{err_from_is_err_and}
use borrow.Author.Tests.{ltb-false}
use Rattle.ship.specs.declared.Ship.{Ship}
use Rattle.ship.specs.Vessel.{houses_of}
use Rattle.ship.specs.Refusals.{Paper, first, accepted}
use Rattle.ship.specs.Checks.{fields_of, field_out, field_lines, house_lines}
use Rattle.ship.proofs.Lines.{all_pass, first_accepted, first_refused}
use Rattle.ship.proofs.Accepted.{in_range}
use Rattle.checks.proofs.of_ship.Goals as goal

-- L is in its range
length_most : (x : Ship) → first (field_lines x) ≡ accepted → x.length.0 ≤ 365000
length_most x e =
    let p = all_pass (field_lines x) (omega arith) (ap (λ (v : Paper). v.number) e) in
    (in_range (fields_of x) 0 (omega (arith, ltb-false (field_out (fields_of x)) 13 p.0))).1

pub returns-in_err-of_fields : goal.returns-in_err-of_fields
returns-in_err-of_fields c =
    let x = c.args.x in
    let p = err_from_is_err_and c.from_residual.result c.from_residual.ensures.1 in
    rw (p.1, p.2) (sym (first_refused (field_lines x) (house_lines x.length.0 (houses_of x)) c.in_err-of_fields.field-0.0 (omega arith) (sym c.in_err-of_fields.ensures)))

pub of-l-requires : goal.of-l-requires
of-l-requires c = length_most c.args.x (sym c.in_ok-of_fields.ensures)

pub returns : goal.returns
returns c =
    let x = c.args.x in
    let l : c.of-l.result.mm ≡ x.length.0 = c.of-l.ensures in
    c.of_houses.ensures ∙ rw l (sym (first_accepted (field_lines x) (house_lines x.length.0 (houses_of x)) (omega arith) (sym c.in_ok-of_fields.ensures)))
