use Prim.Native.Nat.{◌^◌, ◌<◌}
use native.Mathlib.Omega.{arith}
use Rattle.std.specs.Prelude.{Option, Some, None, IfSome, unwrap_or}
use Rattle.timber.specs.declared.TimberMarks.{TimberMarks}
use Rattle.timber.specs.Timber.{no_timber}
use Rattle.answers.proofs.marked.Goals as goal

small : (t : Option TimberMarks) → IfSome t (λ u. u.lwna < 2 ^ 32) → (unwrap_or t no_timber).lwna < 2 ^ 32
unfolding no_timber
small None h = omega arith
small (Some t) h = h

pub with_sign-requires-5 : goal.with_sign-requires-5
with_sign-requires-5 c = rw (c.unwrap_or-l.ensures, c.none.ensures) (small c.args.g.timber c.requires.1)
