-- The mark of hull and deck is the ship's, and what follows from it is its sheet; beside it stand the timber marks that are asked for.
use mathlib.Core.Path.{ap, ◌∙◌}
use borrow.Author.Rules.{rules}
use Rattle.std.specs.Prelude.{Ok}
use Rattle.std.proofs.lemmas.Option.{IfSome_then}
use Rattle.std.proofs.lemmas.Result.{err_from_is_err_and}
use Rattle.hull.specs.declared.Hull.{Hull}
use Rattle.hull.specs.Parts.{hull_of}
use Rattle.steps.proofs.Particulars.{fair_particulars}
use Rattle.marks.proofs.Sheet.{sheet_parts, with_given, with_refusal, winter_small}
use Rattle.marks.proofs.Demand.{bounded}
use Rattle.marks.proofs.of_ship.Goals as goal

pub invariant_of-vessel : goal.invariant_of-vessel
unfolding hull_of
invariant_of-vessel c = record { fair_hull = c.hull-hull.ensures.fair_hull; fair_deck = rw (c.hull-hull.ensures.value, ← c.length.ensures) c.deck_of-deck.ensures.fair_deck }

pub particulars_of-requires : goal.particulars_of-requires
unfolding hull_of
particulars_of-requires c = ap (λ (h : Hull). h.basis.floor) c.hull-hull.ensures.value

pub follow-requires : goal.follow-requires
follow-requires c = rw c.particulars_of.ensures (fair_particulars c.args.x.ship c.args.x.sound)

pub returns-in_err-ordinary-clause-equation : goal.returns-in_err-ordinary-clause-equation
returns-in_err-ordinary-clause-equation c = let e = sheet_parts c.args.x.ship c.args.x.sound _ _ _ _ c.particulars_of.ensures c.hull-hull.ensures.value (rw c.length.ensures at c.deck_of-deck.ensures.value) c.summer.ensures in
    let p = err_from_is_err_and c.from_residual.result c.from_residual.ensures.1 in
    rw (p.1, p.2) (with_refusal c.args.x.ship c.in_err-ordinary.field-0.0 (c.in_err-ordinary.ensures ∙ e))

pub then-timber-requires : goal.then-timber-requires
then-timber-requires c =
    let x = c.args.x.ship in
    let e = c.in_ok-ordinary.ensures ∙ sheet_parts x c.args.x.sound _ _ _ _ c.particulars_of.ensures c.hull-hull.ensures.value (rw c.length.ensures at c.deck_of-deck.ensures.value) c.summer.ensures in
    let w = winter_small x c.args.x.sound c.in_ok-ordinary.ordinary e in
    λ t. search rules

pub returns-clause-equation : goal.returns-clause-equation
returns-clause-equation c =
    let x = c.args.x.ship in
    let e = sheet_parts x c.args.x.sound _ _ _ _ c.particulars_of.ensures c.hull-hull.ensures.value (rw c.length.ensures at c.deck_of-deck.ensures.value) c.summer.ensures in
    with_given x c.in_ok-ordinary.ordinary c.then-timber.result (c.in_ok-ordinary.ensures ∙ e) c.then-timber.ensures.variant (IfSome_then c.then-timber.result c.then-timber.ensures.some (λ u k. search rules))

pub returns-clause-bounded : goal.returns-clause-bounded
returns-clause-bounded c = bounded c.args.x.ship c.args.x.sound (Ok (record { ordinary = c.in_ok-ordinary.ordinary; timber = c.then-timber.result })) (returns-clause-equation c)
