use native.Mathlib.Omega.{arith}
use Rattle.trial.proofs.fits.Goals as goal

pub invariant_of-vessel : goal.invariant_of-vessel
invariant_of-vessel c = let f = c.requires.0 in record { fair_hull = f.hull; fair_deck = rw c.deck_for.ensures (f.poop c.args.k c.requires.1 (omega arith)) }
