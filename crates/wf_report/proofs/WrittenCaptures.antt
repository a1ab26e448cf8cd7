-- Proves that a capture that is written packet by packet is listed packet by packet. By induction on the
-- packets.
use Rattle.std.proofs.Common.{◌≡◌, ℕ, ◌+◌, ◌*◌, ◌/◌, ◌%◌, ◌^◌, ◌<◌, ◌≤◌, List, [], ◌∷◌, ◌++◌, length, map, rules, refl, sym, ◌∙◌, ap, arith, length-append}
use Rattle.std.specs.Prelude.{Option, Some, None, flat_map}
use Rattle.std.proofs.lemmas.Grind.{common_steps}
use Rattle.wf_io.specs.declared.pcap.reading.Form.{Form}
use Rattle.wf_io.specs.declared.pcap.reading.Packet.{Packet}
use Rattle.wf_io.specs.declared.pcap.reading.PcapFault.{PcapFault}
use Rattle.wf_io.specs.Capture.{written_form, file_head_octets, packet_octets, packet_in}
use Rattle.wf_io.specs.CaptureFaults.{form_of, head_fault, packet_fault}
use Rattle.wf_report.specs.ListedPackets.{Captured, listed, packets_from, from_each, with_packet, most_octets_read, captured_in}
use Rattle.wf_report.specs.ListingLaw.{Sent, IsWritable, AreWritable, capture_of_packets, seen, IsListed, FramesLaw}
use Rattle.wf_report.specs.ListingReading.{IsWhole}
use Rattle.wf_report.proofs.NextPackets.{packet_of, packet_first}

abbrev pub octets_of : List Sent → List ℕ
octets_of packets = flat_map (λ (p : Sent). packet_octets p.at p.octets) packets

-- The header of a written packet.
in_header : (at : ℕ) (octets : List ℕ) → at < 2 ^ 32 * 1000000 → length octets ≤ 65535 →
    packet_in written_form (packet_octets at octets)
    ≡ record {
      seconds = at / 1000000;
      fraction = at % 1000000;
      captured = length octets;
      original =
          length octets;
    }
in_header at octets time most = search rules

sound : (at : ℕ) (octets : List ℕ) → length octets ≤ 65535 →
    packet_fault written_form (packet_octets at octets) ≡ None
sound at octets most = search rules

captured : (at : ℕ) (octets : List ℕ) → length octets ≤ 65535 →
    captured_in written_form (packet_octets at octets) ≡ length octets
captured at octets most = search rules

size : (at : ℕ) (octets : List ℕ) → length (packet_octets at octets) ≡ 16 + length octets
size at octets = grind (arith, common_steps)

whole : (p : Sent) → IsWritable p → IsWhole written_form (packet_octets p.at p.octets)
whole p is = record {
  head = omega (arith, size p.at p.octets);
  size = omega (arith, size p.at p.octets, captured p.at p.octets is.most);
  sound = sound p.at p.octets is.most;
}

as_seen : (p : Sent) → IsWritable p → packet_of written_form (packet_octets p.at p.octets) ≡ seen p
as_seen p is = ap (λ (h : Packet). let r : Captured = record { header = h; octets = p.octets } in r)
    (in_header p.at p.octets is.time is.most)

-- Packets in order, the first of them after `place` octets.
from_here : (packets : List Sent) (place number total : ℕ) → AreWritable packets →
    total ≡ place + length (octets_of packets) → total ≤ most_octets_read →
    packets_from written_form total number (from_each written_form 0 (octets_of packets))
    ≡ record { packets = map seen packets; fault = None }
from_here [] place number total are is few = refl
from_here (p ∷ packets) place number total are is few =
    let first = packet_octets p.at p.octets in
    let others = octets_of packets in
    let long = length-append first others in
    ap (λ n. packets_from written_form n number (from_each written_form 0 (first ++ others))) is
    ∙ packet_first written_form place number first others (whole p are.0) (omega (arith, long, is, few))
    ∙ ap (λ (c : Captured). with_packet c (packets_from written_form (place + length (first ++ others))
    (number + 1) (from_each written_form 0 others))) (as_seen p are.0)
    ∙ ap (λ n. with_packet (seen p) (packets_from written_form n (number + 1)
    (from_each written_form 0 others))) (sym is)
    ∙ ap (with_packet (seen p)) (from_here packets (place + length first) (number + 1) total are.1
    (omega (arith, long, is)) few)

no_fault : (rest : List ℕ) → head_fault (file_head_octets ++ rest) ≡ None
no_fault rest = search rules

its_form : (rest : List ℕ) → form_of (file_head_octets ++ rest) ≡ Some written_form
its_form rest = search rules

pub written_law : (packets : List Sent) → AreWritable packets →
    length (capture_of_packets packets) ≤ most_octets_read → IsListed packets
written_law packets are few =
    let input = file_head_octets ++ octets_of packets in
    ap (λ (f : Option PcapFault). listed input f (form_of input)) (no_fault (octets_of packets))
    ∙ ap (λ (f : Option Form). listed input None f) (its_form (octets_of packets))
    ∙ from_here packets 24 1 (24 + length (octets_of packets)) are refl
    (omega (arith, few, length-append file_head_octets (octets_of packets)))

pub frames_law : (input : List ℕ) → FramesLaw input
frames_law input packets are is few = written_law packets are (omega (arith, few, ap length is))
