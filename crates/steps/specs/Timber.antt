-- Timber freeboards (41 to 45) of a ship: the steps to the summer mark once more, with what 45 puts in the place of theirs.
use Rattle.std.specs.Prelude.{Bool, ℤ}
use Rattle.whole.specs.Frac.{Frac}
use Rattle.percentages.specs.Table37.{timber_row}
use Rattle.ship.specs.declared.Ship.{Ship}
use Rattle.ship.specs.Kinds.{is_reduced, timber_kind}
use Rattle.mark.specs.declared.Marks.{Marks}
use Rattle.timber.specs.declared.TimberMarks.{TimberMarks}
use Rattle.timber.specs.Timber.{timber_summer, timber_given, timber_marks}
use Rattle.basis.specs.Basis.{Basis, basis_of}
use Rattle.steps.specs.Steps.{added_to, taken_from}
use Rattle.steps.specs.Exact.{exact_added_to, exact_taken_from}

-- 45(6): the line that they begin from, of a reduced ship the ordinary type B's
abbrev pub timber_basis : Ship → Basis
timber_basis x = basis_of (timber_kind x.kind) x.length.0

-- 45(1): LS. Everything is added and taken as for S, but for the line and 45's percentages in the place of 37's; there is no bow height (39(1)) and no floor
unfoldable pub timber_summer_of : Ship → ℤ
timber_summer_of x = timber_summer (added_to (timber_basis x).line x) (taken_from timber_row x)

-- the exact value of LS is the difference of these, with its sign
abbrev pub exact_timber_added : Ship → Frac
exact_timber_added x = exact_added_to (timber_basis x).exact x

abbrev pub exact_timber_taken : Ship → Frac
exact_timber_taken x = exact_taken_from timber_row x

-- 02: a ship has timber marks where its LS is below D
abbrev pub has_timber : Ship → Bool
has_timber x = timber_given x.depth.0 (timber_summer_of x)

-- the six timber marks, beside the ordinary ones, of which they need W and WNA
unfoldable pub timber_marks_of : Ship → Marks → TimberMarks
timber_marks_of x m = timber_marks (is_reduced x.kind) m.w m.wna x.depth.0 (timber_summer_of x)
