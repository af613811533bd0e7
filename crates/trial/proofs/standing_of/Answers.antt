use mathlib.Core.Path.{◌≡◌}
use lib.ListN.{length}
use borrow.Author.Rules.{rules}
use Rattle.hull.specs.Parts.{hull_of}
use Rattle.trial.specs.Poop.{poop_house}
use Rattle.trial.specs.Standing.{standing_of}
use Rattle.trial.proofs.Trial.{fair_standing}
use Rattle.trial.proofs.standing_of.Goals as goal

pub returns-clause-value : goal.returns-clause-value
unfolding standing_of hull_of poop_house
returns-clause-value c = search rules

pub returns-clause-fair : goal.returns-clause-fair
returns-clause-fair c =
    let a = c.args in
    let p = c.requires in
    let eight : length a.x.ship.houses ≡ 8 = search rules in
    rw (returns-clause-value c) (fair_standing a.x.ship a.x.sound p.0 eight a.height.0 a.wish p.1 p.2 (rw c.hull-hull.ensures.value at c.hull-hull.ensures.fair_hull))
