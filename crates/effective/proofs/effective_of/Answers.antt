use Rattle.std.proofs.Common.{◌≤◌, sym, subst, arith}
use Rattle.whole.proofs.Divide.{mul_most}
use Rattle.effective.specs.Unrounded.{greatest_size, greatest_length, greatest_breadth, FairRatio, top_of, bottom_of}
use Rattle.effective.proofs.Unrounded.{fair_ratio, fair_breadths, fair_unrounded}
use Rattle.effective.proofs.effective_of.Goals as goal
use Rattle.effective.proofs.effective_of.Goals.{After-breadth_ratio-breadths}

ratio_fair : (c : After-breadth_ratio-breadths) → FairRatio c.args.ratio
ratio_fair c = subst FairRatio (sym c.requires.0) (fair_ratio c.args.p.l.mm c.args.p.house)

pub overflow_mul-result : goal.overflow_mul-result
overflow_mul-result c =
    let r = ratio_fair (goal.at.overflow_mul-result c).After-breadth_ratio-breadths in
    let length : c.limited_length-length.result.0 ≤ greatest_length = omega (arith, c.limited_length-length.ensures.result_bound, c.args.p.l.within) in
    omega (arith, mul_most c.limited_length-length.result.0 c.args.ratio.top greatest_length greatest_size length (omega (arith, r.at_most_1, r.bottom_most)))

pub overflow_mul-result-3 : goal.overflow_mul-result-3
overflow_mul-result-3 c =
    let r = ratio_fair (goal.at.overflow_mul-result-3 c).After-breadth_ratio-breadths in
    let breadths : c.breadth_ratio-breadths.result.bottom ≤ greatest_breadth = rw c.breadth_ratio-breadths.ensures.value (fair_breadths c.args.p.house c.requires.1).2 in
    omega (arith, mul_most c.args.ratio.bottom c.breadth_ratio-breadths.result.bottom greatest_size greatest_breadth r.bottom_most breadths)

pub returns-clause-fair_length : goal.returns-clause-fair_length
unfolding top_of bottom_of
returns-clause-fair_length c =
    rw (c.limited_length-length.ensures.result_value, c.requires.0, c.breadth_ratio-breadths.ensures.value)
    (fair_unrounded c.args.p.l.mm c.args.p.house c.requires.1 c.args.p.l.within)
