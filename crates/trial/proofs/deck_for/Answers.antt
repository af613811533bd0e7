use Rattle.std.proofs.Common.{ℕ, ◌≡◌}
use mathlib.Core.Path.{sym, ap, ◌∙◌}
use native.Mathlib.Omega.{arith}
use Rattle.effective.specs.Unrounded.{ratio_of}
use Rattle.trial.proofs.Passing.{poop_good}
use Rattle.trial.proofs.deck_for.Goals as goal

pub with_house-requires : goal.with_house-requires
with_house-requires c =
    let q = c.args.q in
    let f = c.requires.0 in
    let l : c.of.result.mm ≡ q.hull.length.0 = c.of.ensures in (
      rw (l, c.poop_house.ensures)
          (poop_good q.hull.length.0 q.height.0 c.args.k (omega arith) (omega (arith, f.hull.length_least)) c.requires.1 f.height_least f.height_most),
      f.ratio c.args.k ∙ ap (ratio_of q.hull.length.0) (sym c.poop_house.ensures) ∙ ap (λ (n : ℕ). ratio_of n c.poop_house.result) (sym l),
      rw l f.deck,
    )
