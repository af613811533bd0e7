-- A house of full breadth has the denominator of its kind's sum.
use Rattle.std.proofs.Common.{sym, ap, ◌∙◌}
use Rattle.units.specs.declared.Unrounded.{Unrounded}
use Rattle.effective.proofs.Unrounded.{bottom_full}
use Rattle.deck.proofs.with_house.Goals as goal

pub with_one-effective-requires : goal.with_one-effective-requires
with_one-effective-requires c =
    let d = c.requires.2 in
    let over = ap (λ (u : Unrounded). u.bottom) c.effective_of-own.ensures.value in
    (c.effective_of-own.ensures.fair_length, d.sums, λ f. over ∙ bottom_full c.args.p.l.mm c.args.p.house f ∙ sym (d.bottoms c.args.p.house.quarterdeck))
