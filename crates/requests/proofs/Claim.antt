-- Every figure of 02's table is what the definitions give: one claim, by computing.
use mathlib.Core.Path.{refl}
use lib.Dec.{T}
use Rattle.bits.specs.Fields.{bytes}
use Rattle.record.specs.Layout.{any_set_in, lowest_for, head_bytes, house_bytes, record_bytes}
use Rattle.record.specs.Reading.{reading_in}
use Rattle.record.specs.Writing.{writing_of}
use Rattle.record.proofs.Flag.{FlagAlone}
use Rattle.figures.specs.Figures.{k1, k2, marks_row, asked_row, set_in, agree, all_agree}
use Rattle.figures.proofs.Claim.{Tools, Reader, Houses, Corrections, Marking, Asking}
use Rattle.percentages.specs.Table37.{timber_row}
use Rattle.ship.specs.Kinds.{timber_kind}
use Rattle.timber.specs.Timber.{level_of, timber_draught, timber_winter, timber_from, timber_given, no_timber, timber_marks}
use Rattle.timber.specs.Answer.{sheet_with}
use Rattle.steps.specs.Timber.{timber_summer_of, timber_marks_of}
use Rattle.marks.specs.Marks.{answer_in}
use Rattle.requests.specs.Requests.{r1, r4, long5, full5, short5, covered5, sides6, full6, bare6, timber_marks_row, bare9, flagged9, reduced9, house9, low9, covers9, depth9, requests}

-- and a timber mark
unfoldable Timbering : Type 0
unfolding timber_row timber_kind level_of timber_draught timber_winter timber_from timber_given no_timber timber_marks sheet_with timber_summer_of timber_marks_of answer_in
Timbering = Unit {0}

pub claim_02 : T (all_agree requests)
unfolding bytes any_set_in lowest_for head_bytes house_bytes record_bytes reading_in writing_of marks_row asked_row set_in k1 k2 r1 r4 long5 full5 short5 covered5 sides6 full6 bare6 timber_marks_row bare9 flagged9 reduced9 house9 low9 covers9 depth9 requests agree all_agree Tools Reader Houses Corrections Marking Asking Timbering
claim_02 = tt

-- k2 in version 4 with the timber flag and without it differ in the flag alone
pub flag_of_k2 : FlagAlone (flagged9 0x42 0x30) (flagged9 0x42 0x20)
unfolding flagged9 Tools Reader
flag_of_k2 = record { bytes = refl; head = refl; behind = refl }
