-- Four words, one after the other, are the head's bytes.
use Rattle.std.proofs.Common.{◌∙◌, sym}
use Rattle.head_writer.proofs.HeadOut.{two_halves, four_words}
use Rattle.head_writer.proofs.write.Goals as goal

pub returns : goal.returns
returns c =
    two_halves c.args.out.now _ _ _ _ c.requires.0 c.put_two.ensures c.put_two-2.ensures
    ∙ rw (c.first_word-first.ensures, c.fullness_word-fullness.ensures, c.four_word-four.ensures, c.last_word-last.ensures) (sym (four_words c.args.h c.requires.1))
