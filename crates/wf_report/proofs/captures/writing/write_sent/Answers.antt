-- Proves that the loop writes the packets of the definition, one transmission per step.
use Rattle.std.proofs.Common.{◌≡◌, ◌∙◌, ap, take, arith, ℕ}
use Rattle.std.specs.Io.KnownBytes.{append_known}
use Rattle.wf_io.proofs.FrontLaws.{front_whole}
use Rattle.wf_def_world.specs.World.{World}
use Rattle.wf_report.specs.Captures.{samples}
use Rattle.wf_report.specs.Packets.{frames_sent, packets_at, octets_of_packets}
use Rattle.wf_report.specs.Samples.{world_behind}
use Rattle.wf_report.proofs.SentPackets.{more_sent, some_sent, whole_sent}
use Rattle.wf_report.proofs.captures.writing.write_sent.Goals as goal

pub returns-in_err-write_packet-clause-front : goal.returns-in_err-write_packet-clause-front
returns-in_err-write_packet-clause-front g c =
    let w : World = world_behind c.args.cell.now in
    some_sent (g.K.Sink.held c.args.sink.now) (g.K.Sink.held c.loop-index.sink)
    (g.K.Sink.held c.write_packet.new.sink) w
    (samples w) c.args.exchange c.loop-index.index c.clock-at.result
    (take c.transmission-len.result c.transmission-len.new.octets) c.transmission-len.ensures.octets
    c.clock-at.ensures.value c.loop-index.invariant.0 c.write_packet.ensures.prefix

pub loop-index-preserved : goal.loop-index-preserved
loop-index-preserved g c =
    let w : World = world_behind c.args.cell.now in (
      more_sent (g.K.Sink.held c.args.sink.now) (g.K.Sink.held c.loop-index.sink)
          (g.K.Sink.held c.write_packet.new.sink) w
          (samples w) c.args.exchange c.loop-index.index c.clock-at.result
          (take c.transmission-len.result c.transmission-len.new.octets) c.transmission-len.ensures.octets
          c.clock-at.ensures.value c.loop-index.invariant.0 c.in_ok-write_packet.ensures.written,
      c.in_ok-write_packet.ensures.cause.quiet ∙ c.loop-index.invariant.1,
    )

pub returns-clause-front : goal.returns-clause-front
returns-clause-front g c =
    let w : World = world_behind c.args.cell.now in
    let last : c.loop-index.index ≡ c.in-Some.sent.count =
    omega (arith, c.loop-index-test.false, c.loop-index.auto.index-end) in
    front_whole (g.K.Sink.held c.args.sink.now) (g.K.Sink.held c.loop-index.sink)
    (octets_of_packets (packets_at w.clock (frames_sent w (samples w) c.args.exchange)))
    (whole_sent (g.K.Sink.held c.args.sink.now) (g.K.Sink.held c.loop-index.sink) w (samples w)
    c.args.exchange c.in-Some.sent c.in-Some.ensures.told
    (c.loop-index.invariant.0 ∙ ap (λ (n : ℕ). append_known (g.K.Sink.held c.args.sink.now) (octets_of_packets
    (packets_at w.clock (take n (frames_sent w (samples w) c.args.exchange))))) last))
