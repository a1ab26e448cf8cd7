-- Proves that the packet of the BlockAck is written. By cases of its width, and of whether the exchange is
-- open.
use Rattle.std.proofs.Common.{◌≡◌, ◌∙◌, ap, sym, ℕ, Bool, List, [], ◌∷◌}
use Rattle.wf_def_world.specs.World.{World}
use Rattle.wf_path.specs.declared.reading.Sent.{Sent}
use Rattle.wf_report.specs.BlockAcks.{block_ack_frame}
use Rattle.wf_report.specs.Packets.{words_told}
use Rattle.wf_report.specs.Samples.{world_behind}
use Rattle.wf_report.proofs.Answered.{acks_one, one_written, one_front, on_ok}
use Rattle.wf_report.proofs.captures.writing.write_block_ack.Goals as goal

-- The octets of a BlockAck of this width.
told_octets : Sent → ℕ → List ℕ → Bool → List ℕ
told_octets told start words wide = block_ack_frame told.station told.tid start (words_told wide words) wide

pub returns-then-wide-clause-written : goal.returns-then-wide-clause-written
unfolding told_octets
returns-then-wide-clause-written g c =
    let w : World = world_behind c.args.cell.now in
    let words : List ℕ = c.args.shown.b0 ∷ c.args.shown.b1 ∷ c.args.shown.b2 ∷ c.args.shown.b3 ∷ [] in
    let f : Bool → List ℕ = told_octets c.in-Some.sent c.args.shown.start words in
    let same : c.wide_ack.result ≡ f c.args.wide = c.wide_ack.ensures ∙ ap f (sym c.if-wide.true) in
    on_ok c.write_packet.result
    (one_written (g.K.Sink.held c.args.sink.now) (g.K.Sink.held c.write_packet.new.sink) c.clock-at.result
    w.clock c.wide_ack.result (f c.args.wide) _ c.clock-at.ensures.value same
    (acks_one w.clock c.args.shown.start words c.args.wide w c.args.exchange c.in-Some.sent
    c.in-Some.ensures.told))
    c.write_packet.ensures.written

pub returns-then-wide-clause-front : goal.returns-then-wide-clause-front
unfolding told_octets
returns-then-wide-clause-front g c =
    let w : World = world_behind c.args.cell.now in
    let words : List ℕ = c.args.shown.b0 ∷ c.args.shown.b1 ∷ c.args.shown.b2 ∷ c.args.shown.b3 ∷ [] in
    let f : Bool → List ℕ = told_octets c.in-Some.sent c.args.shown.start words in
    let same : c.wide_ack.result ≡ f c.args.wide = c.wide_ack.ensures ∙ ap f (sym c.if-wide.true) in
    one_front (g.K.Sink.held c.args.sink.now) (g.K.Sink.held c.write_packet.new.sink) c.clock-at.result
    w.clock c.wide_ack.result (f c.args.wide) _ c.clock-at.ensures.value same
    (acks_one w.clock c.args.shown.start words c.args.wide w c.args.exchange c.in-Some.sent
    c.in-Some.ensures.told)
    c.write_packet.ensures.prefix

pub returns-else-wide-clause-written : goal.returns-else-wide-clause-written
unfolding told_octets
returns-else-wide-clause-written g c =
    let w : World = world_behind c.args.cell.now in
    let words : List ℕ = c.args.shown.b0 ∷ c.args.shown.b1 ∷ c.args.shown.b2 ∷ c.args.shown.b3 ∷ [] in
    let f : Bool → List ℕ = told_octets c.in-Some.sent c.args.shown.start words in
    let same : c.narrow_ack.result ≡ f c.args.wide = c.narrow_ack.ensures ∙ ap f (sym c.if-wide.false) in
    on_ok c.write_packet-else-wide.result
    (one_written (g.K.Sink.held c.args.sink.now) (g.K.Sink.held c.write_packet-else-wide.new.sink)
    c.clock-at.result w.clock c.narrow_ack.result (f c.args.wide) _ c.clock-at.ensures.value same
    (acks_one w.clock c.args.shown.start words c.args.wide w c.args.exchange c.in-Some.sent
    c.in-Some.ensures.told))
    c.write_packet-else-wide.ensures.written

pub returns-else-wide-clause-front : goal.returns-else-wide-clause-front
unfolding told_octets
returns-else-wide-clause-front g c =
    let w : World = world_behind c.args.cell.now in
    let words : List ℕ = c.args.shown.b0 ∷ c.args.shown.b1 ∷ c.args.shown.b2 ∷ c.args.shown.b3 ∷ [] in
    let f : Bool → List ℕ = told_octets c.in-Some.sent c.args.shown.start words in
    let same : c.narrow_ack.result ≡ f c.args.wide = c.narrow_ack.ensures ∙ ap f (sym c.if-wide.false) in
    one_front (g.K.Sink.held c.args.sink.now) (g.K.Sink.held c.write_packet-else-wide.new.sink)
    c.clock-at.result w.clock c.narrow_ack.result (f c.args.wide) _ c.clock-at.ensures.value same
    (acks_one w.clock c.args.shown.start words c.args.wide w c.args.exchange c.in-Some.sent
    c.in-Some.ensures.told)
    c.write_packet-else-wide.ensures.prefix
