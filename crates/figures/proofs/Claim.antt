-- Every figure of the table is what the definitions give: one claim, by computing.
use lib.Dec.{T}
use Rattle.whole.specs.Pick as Pick
use Rattle.whole.specs.Divide as Divide
use Rattle.whole.specs.Row as Row
use Rattle.tables.specs.Table27 as Table27
use Rattle.tables.specs.Table28 as Table28
use Rattle.tabular.specs.Tabular as Tabular
use Rattle.percentages.specs.Table37 as Table37
use Rattle.ship.specs.Refusals as Refusals
use Rattle.ship.specs.Checks as Checks
use Rattle.bits.specs.Fields as Fields
use Rattle.record.specs.Layout as Layout
use Rattle.record.specs.Reading as Reading
use Rattle.houses.specs.Length as Length
use Rattle.houses.specs.Height as Height
use Rattle.houses.specs.Effective as Effective
use Rattle.houses.specs.Forecastle as Forecastle
use Rattle.houses.specs.Amidships as Amidships
use Rattle.houses.specs.Cover as Cover
use Rattle.corrections.specs.Short29 as Short29
use Rattle.corrections.specs.Fullness30 as Fullness30
use Rattle.corrections.specs.Depth31 as Depth31
use Rattle.deduction.specs.Deduction37 as Deduction37
use Rattle.corrections.specs.Gathered as Gathered
use Rattle.sheer.specs.Sheer as Sheer
use Rattle.bow.specs.Bow as Bow
use Rattle.mark.specs.Summer as Summer
use Rattle.mark.specs.Others as Others
use Rattle.basis.specs.Basis as Basis
use Rattle.steps.specs.Steps as Steps
use Rattle.marks.specs.Marks as Marks
use Rattle.trial.specs.Poop as Poop
use Rattle.question.specs.Question as Question
use Rattle.figures.specs.Figures.{k1, k2, bow_height, marks_row, asked_row, set_in, figures, agree, all_agree}

-- what a figure computes through
unfoldable pub Tools : Type 0
unfolding Pick.pick Divide.ceil_div Row.gain Row.height Table27.table27 Table28.table28_a Table28.table28_b Tabular.tabular Table37.ordinary_row Refusals.first
Tools = Unit {0}

unfoldable pub Reader : Type 0
unfolding Fields.pack Fields.piece Fields.unpack Fields.number Layout.kind_bits Layout.timber_bits Layout.spare_bits Layout.breadth_bits Layout.house_size Layout.last_type_in Layout.house_in Layout.spare_in Layout.head_in Layout.places_in Layout.ship_in Reading.spares_in Checks.first_from Checks.field_out Checks.breaks Checks.breach_at Checks.first_breach
Reader = Unit {0}

unfoldable pub Houses : Type 0
unfolding Length.part_of Length.total Length.covered_length Height.ordinary_height Height.raised_height Height.standard_height Height.height_ratio Effective.limited_length Effective.breadth_ratio Effective.exact_effective Effective.exact_effective_length Effective.those Effective.effective_length Forecastle.house_that Forecastle.is_forecastle Forecastle.forecastle_of Amidships.covers_amidships Amidships.amidships_of Cover.is_amidships Cover.reach_of Cover.reach
Houses = Unit {0}

unfoldable pub Corrections : Type 0
unfolding Short29.exact_short_b Short29.short_b Fullness30.exact_fullness Fullness30.fullness Depth31.rate Depth31.exact_depth_addition Depth31.depth_addition Depth31.exact_depth_reduction Depth31.depth_reduction Deduction37.exact_full Deduction37.full Deduction37.exact_share Deduction37.share Deduction37.of_full Deduction37.deduction Deduction37.lacks_forecastle Gathered.made_full Gathered.added Deduction37.deducted Sheer.after_sum Sheer.forward_sum Sheer.unit Sheer.standard_after Sheer.standard_forward Sheer.above Sheer.lacks Sheer.after_counts Sheer.forward_share Sheer.mean_above Sheer.mean_lacks Sheer.exact_excess Sheer.exact_deficiency Sheer.excess Sheer.deficiency Sheer.exact_addition Sheer.exact_deduction Sheer.addition Sheer.deduction Sheer.added Sheer.deducted Bow.hundreds Bow.exact_b1 Bow.rises Bow.falls Bow.exact_b2_above Bow.exact_b2_below Bow.b2_above Bow.b2_below Bow.higher Bow.lower Bow.sheer_taken Bow.forecastle_taken Bow.bow_freeboard
Corrections = Unit {0}

unfoldable pub Marking : Type 0
unfolding Summer.exact_summer Summer.summer_mark Others.tropical Others.winter Others.atlantic Others.allowance Others.six_marks Others.sheet_at Basis.exact_reduced Basis.basis_of Steps.covered_s Steps.effective_e Steps.forecastle_house Steps.amidships_ratio Steps.cover_reach Steps.added_to Steps.taken_from Steps.bow_of Steps.summer_of Steps.particulars_of Marks.sheet_in
Marking = Unit {0}

unfoldable pub Asking : Type 0
unfolding Poop.poop_house Poop.with_first Poop.with_poop Poop.within Poop.marks_within Poop.fits_at Question.shortest_from Question.shortest_for Question.reply_in
Asking = Unit {0}

pub claim : T (all_agree figures)
unfolding k1 k2 bow_height marks_row asked_row set_in figures agree all_agree Tools Reader Houses Corrections Marking Asking
claim = tt
