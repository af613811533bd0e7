-- The timber row (45) is nowhere below the ordinary one (37).
use native.Mathlib.Omega.{arith}
use Rattle.whole.specs.Row.{Under}
use Rattle.percentages.specs.Table37.{ordinary_row, timber_row}

pub ordinary_under_timber : Under ordinary_row timber_row
unfolding ordinary_row timber_row
ordinary_under_timber = omega arith
