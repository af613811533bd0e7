-- The head, then the houses behind it.
use Rattle.std.proofs.Common.{ℕ, ◌≡◌, ap, ◌∙◌}
use Rattle.record.specs.Layout.{lowest_for, record_bytes, head_bytes, head_for, ship_head}
use Rattle.record.proofs.Parts.{length_head_bytes}
use Rattle.house_writer.proofs.Written.{behind_head}
use Rattle.writer.proofs.put_record.Goals as goal

pub returns : goal.returns
unfolding record_bytes
returns c =
    let x = c.args.x in
    let headed : c.head_of-h.result ≡ ship_head x = c.head_of-h.ensures ∙ ap (λ (v : ℕ). head_for v x) c.lowest_for-version.ensures in
    c.put_houses.ensures
    ∙ rw (c.write.ensures, headed, c.lowest_for-version.ensures) (behind_head (lowest_for x) (head_bytes (ship_head x)) c.args.buf.now x.n x.houses (length_head_bytes (ship_head x)))
