-- Proves that the octets are the head of a BlockAck and the four words of its bitmap.
use Rattle.std.proofs.Common.{ap, ◌∙◌, ℕ, ◌++◌, take, arith, ◌%◌}
use Rattle.wf_report.proofs.Acks.{head_is, wide_is}
use Rattle.wf_report.proofs.captures.frames.wide_ack.Goals as goal

pub returns : goal.returns
returns c =
    let s : ℕ = c.args.sent.station in
    let first : ℕ = c.args.shown.start in
    let head = head_is s c.args.sent.tid first c.base_address.result c.station_address.result c.of.result
    c.base_address.ensures c.station_address.ensures (c.of.ensures ∙ ap (λ n. n % 4096) c.from.ensures) in
    let one = c.put.ensures.up_to_it ∙ ap (λ b. take 20 c.encode_wide.new.out ++ b) c.to_le_bytes.ensures in
    let two = c.put-2.ensures.up_to_it ∙ ap (λ b. take 28 c.put.new.out ++ b) c.to_le_bytes-2.ensures in
    let three = c.put-3.ensures.up_to_it ∙ ap (λ b. take 36 c.put-2.new.out ++ b) c.to_le_bytes-3.ensures in
    let four = c.put-4.ensures.up_to_it ∙ ap (λ b. take 44 c.put-3.new.out ++ b) c.to_le_bytes-4.ensures in
    wide_is s c.args.sent.tid first c.args.shown.b0 c.args.shown.b1 c.args.shown.b2 c.args.shown.b3
    c.put.result c.put-2.result c.put-3.result c.put-4.result
    _ c.encode_wide.new.out c.put.new.out c.put-2.new.out c.put-3.new.out c.put-4.new.out head
    c.encode_wide.ensures.octets
    (omega (arith, c.put.ensures.place)) one (omega (arith, c.put-2.ensures.place)) two
    (omega (arith, c.put-3.ensures.place)) three
    (omega (arith, c.put-4.ensures.place)) (omega arith) four
