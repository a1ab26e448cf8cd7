-- A prefix of the header, or the header and a prefix of the octets, is a prefix of the packet.
use Rattle.std.proofs.Common.{◌≡◌, length, OnOk, subst, ap, ◌∙◌}
use Rattle.std.specs.Io.KnownBytes.{append_known}
use Rattle.wf_io.specs.Capture.{packet_head}
use Rattle.wf_io.proofs.CaptureFronts.{one_after_another, front_of_first, front_of_second}
use Rattle.wf_io.proofs.pcap.writing.write_packet.Goals as goal

pub returns-in_err-write_all-clause-prefix : goal.returns-in_err-write_all-clause-prefix
returns-in_err-write_all-clause-prefix g c =
    let front = rw (c.packet_head.ensures) at c.write_all.ensures.prefix in
    front_of_first _ _ (packet_head c.args.at (length c.args.octets.now)) c.args.octets.now front

pub returns-clause-written : goal.returns-clause-written
returns-clause-written g c =
    let head = packet_head c.args.at (length c.args.octets.now) in
    let old = g.K.Sink.held c.args.sink.now in
    let wrote : g.K.Sink.held c.write_all.new.sink ≡ append_known old head =
    rw (c.packet_head.ensures) at c.in_ok-write_all.ensures.written in
    let whole = ap (λ h. append_known h c.args.octets.now) wrote
    ∙ one_after_another old head c.args.octets.now in
    subst (λ h. OnOk c.write_all-2.result (g.K.Sink.held c.write_all-2.new.sink ≡ h)) whole
    c.write_all-2.ensures.written

pub returns-clause-prefix : goal.returns-clause-prefix
returns-clause-prefix g c =
    let wrote = rw (c.packet_head.ensures) at c.in_ok-write_all.ensures.written in
    front_of_second _ _ _ (packet_head c.args.at (length c.args.octets.now)) c.args.octets.now wrote
    c.write_all-2.ensures.prefix
