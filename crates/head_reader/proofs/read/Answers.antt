-- Four words, whose pieces are the fields; the version is the first, and says where the next stand.
use Rattle.std.proofs.Common.{ℕ, ◌/◌, ◌%◌, ◌^◌, sym, ap, ◌∙◌, arith}
use Rattle.record.specs.Words.{sheer_in}
use Rattle.head_reader.proofs.HeadIn.{head_cut, head_of_words, head_words}
use Rattle.head_reader.proofs.read.Goals as goal

pub returns : goal.returns
returns c =
    let version : ℕ = c.word-first.result / 2 ^ 60 % 2 ^ 4 in
    (λ i. head_cut (c.kind.ensures.0 i) (c.kind-2.ensures.0 i) (c.count.ensures.0 i) (c.timber.ensures.0 i) (c.timber-2.ensures.0 i) (c.spare.ensures.0 i) c.word-first.result c.word-fullness.result c.word-last.result (c.sheer_in-sheer.ensures i))
    ∙ (λ i. head_of_words version (c.word-first.ensures i) (c.word-fullness.ensures i) (c.word-last.ensures i) (sheer_in (c.word-four.ensures i) (c.word-last.ensures i)))
    ∙ sym (head_words c.args.s.now (λ i. omega (arith, c.type_inv.s i)) (omega arith) version (ap (λ (w : ℕ). w / 2 ^ 60 % 2 ^ 4) c.word-first.ensures))
