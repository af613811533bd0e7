use Rattle.ship.proofs.Timber.{timber_kind_lem}
use Rattle.hull.proofs.Accepted.timber_line.Goals as goal

pub basis_of-requires-clause-kind_le_kind_covers : goal.basis_of-requires-clause-kind_le_kind_covers
basis_of-requires-clause-kind_le_kind_covers c =
    let x = c.args.self in
    let t = timber_kind_lem x.ship.kind in
    rw (c.for_timber.ensures, c.length.ensures) (t.0 x.sound.type, λ e. x.sound.good.covers_short (t.1 e))
