-- LS of hull and deck is the ship's, and what follows from it are its timber marks.
use mathlib.Core.Path.{◌≡◌, ap, ◌∙◌}
use Rattle.timber.specs.Timber.{signed, timber_marks}
use Rattle.steps.specs.Timber.{timber_summer_of, timber_marks_of}
use Rattle.summer.specs.Parts.{timber_on}
use Rattle.summer.proofs.Parts.{timber_parts}
use Rattle.marks.proofs.timber_marks.Goals as goal

pub returns : goal.returns
unfolding timber_marks_of
returns c =
    let x = c.args.x.ship in
    let m = c.args.m in
    let p = c.requires in
    let ls : signed c.timber-s.result ≡ timber_summer_of x =
    ap signed (c.timber-s.ensures.value ∙ (λ i. timber_on (c.timber_line.ensures.result_value i) (p.0 i) (p.1 i))) ∙ timber_parts x c.args.x.sound.good.houses in
    c.follow.ensures ∙ (λ i. timber_marks (c.is_reduced.ensures i) m.w m.wna x.depth.0 (ls i))
