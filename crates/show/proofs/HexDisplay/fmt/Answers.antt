use Rattle.std.proofs.Common.{[], get_or, take, ap, sym, ◌∙◌, arith, rules}
use Rattle.std.proofs.Output.{has_written_append, has_written_of_eq}
use Rattle.std.proofs.lemmas.List.{flat_map_more, take_more}
use Rattle.show.specs.Printed.{byte_text, bytes_text}
use Rattle.show.proofs.HexDisplay.fmt.Goals as goal

pub loop-b-preserved : goal.loop-b-preserved
loop-b-preserved g c = λ plain.
    let bs = c.args.self.now.0.now in
    let i = c.loop-b.b-index in
    let more = flat_map_more byte_text [] (take i bs) (get_or bs i 0) ∙ ap bytes_text (sym (take_more bs i 0 (omega arith))) in
    has_written_of_eq _ _ _ _ _ more (has_written_append _ _ _ _ _ _ (c.loop-b.invariant plain) (search rules))
