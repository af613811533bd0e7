-- What the marks call answers, in the papers' own terms: the ordinary sheet, and the timber marks beside it where they are asked for.
use Rattle.std.specs.Prelude.{Bool, false, ◌&&◌, is_some, unwrap_or, Result, Ok, Err, eqb}
use Rattle.whole.specs.Pick.{pick}
use Rattle.ship.specs.declared.refusal.Refusal.{Refusal}
use Rattle.mark.specs.Others as Mark
use Rattle.timber.specs.declared.TimberMarks.{TimberMarks}
use Rattle.timber.specs.declared.Given.{Given}
use Rattle.timber.specs.Timber.{no_timber}

-- whether timber marks stand in the answer, and these; where they do not, they are all zero
pub record Sheet : Type 0 where
  pub ordinary : Mark.Sheet
  pub given : Bool
  pub timber : TimberMarks

abbrev pub sheet : Result Given Refusal → Sheet
sheet (Ok g) = record { ordinary = Mark.sheet (Ok g.ordinary); given = is_some g.timber; timber = unwrap_or g.timber no_timber }
sheet (Err r) = record { ordinary = Mark.sheet (Err r); given = false; timber = no_timber }

-- timber marks beside an ordinary sheet: only where it gives marks and they are asked for
unfoldable pub sheet_with : Mark.Sheet → Bool → TimberMarks → Sheet
sheet_with o asked t = let given = eqb o.verdict.number 0 && asked in record { ordinary = o; given = given; timber = pick given t no_timber }
