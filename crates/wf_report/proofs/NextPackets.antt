-- Proves that the list of a capture is its first packet followed by the list of the rest.
use Rattle.std.proofs.Common.{◌≡◌, ℕ, zero, suc, ◌+◌, ◌≤◌, List, [], ◌∷◌, ◌++◌, length, take, drop, refl, sym, ◌∙◌, ap, arith, length-drop}
use Rattle.std.specs.Prelude.{Option, Some}
use Rattle.std.proofs.lemmas.List.{take_at, drop-append-le}
use Rattle.wf_io.specs.declared.pcap.reading.Form.{Form}
use Rattle.wf_io.specs.declared.pcap.reading.Packet.{Packet}
use Rattle.wf_io.specs.Capture.{packet_in}
use Rattle.wf_report.specs.declared.captures.listing.fault.FaultKind.{FaultKind}
use Rattle.wf_report.specs.ListedPackets.{Captured, captured_in, from_each, packet_at, packets_from, with_packet, stopped, judged, most_octets_read}
use Rattle.wf_report.specs.ListingReading.{IsWhole, IsFlawed}
use Rattle.wf_report.proofs.Heads.{captured_front, packet_front}
use Rattle.wf_report.proofs.Flaws.{sound_flaw}

inside : (form : Form) (count : ℕ) (octets more : List ℕ) → length octets ≡ count →
    from_each form count (octets ++ more) ≡ from_each form 0 more
inside form zero [] more is = refl
inside form zero (octet ∷ octets) more is = absurd (omega (arith, is))
inside form (suc count) [] more is = absurd (omega (arith, is))
inside form (suc count) (octet ∷ octets) more is = inside form count octets more (omega (arith, is))

from_packet : (form : Form) (octets more : List ℕ) → IsWhole form octets →
    from_each form 0 (octets ++ more) ≡ (octets ++ more) ∷ from_each form 0 more
from_packet form [] more whole = absurd (omega (arith, whole.head))
from_packet form (octet ∷ octets) more whole =
    ap (λ l. (octet ∷ (octets ++ more)) ∷ l)
    (inside form (15 + captured_in form (octet ∷ (octets ++ more))) octets more
    (omega (arith, whole.size, captured_front form (octet ∷ octets) more whole.head)))

-- The packet that complete octets are.
abbrev pub packet_of : Form → List ℕ → Captured
packet_of form octets = record { header = packet_in form octets; octets = drop 16 octets }

at_front : (form : Form) (octets more : List ℕ) → IsWhole form octets →
    packet_at form (octets ++ more) ≡ packet_of form octets
at_front form octets more whole =
    let header = packet_front form octets more whole.head in
    let body : take (captured_in form (octets ++ more)) (drop 16 (octets ++ more)) ≡ drop 16 octets
    = ap (λ l. take (captured_in form (octets ++ more)) l) (drop-append-le 16 octets more whole.head)
    ∙ take_at (drop 16 octets) more (captured_in form (octets ++ more))
    (omega (arith, length-drop 16 octets, whole.size, captured_front form octets more whole.head)) in
    ap (λ (h : Packet). let p : Captured = record {
      header = h;
      octets =
          take (captured_in form (octets ++ more)) (drop 16 (octets ++ more));
    } in p) header
    ∙ ap (λ (l : List ℕ). let p : Captured = record { header = packet_in form octets; octets = l } in p) body

-- A complete packet comes before the packets after it.
pub packet_first : (form : Form) (place number : ℕ) (octets more : List ℕ) → IsWhole form octets →
    place + length octets ≤ most_octets_read →
    packets_from form (place + length (octets ++ more)) number (from_each form 0 (octets ++ more))
    ≡ with_packet (packet_of form octets) (packets_from form (place + length (octets ++ more)) (number + 1)
    (from_each form 0 more))
packet_first form place number octets more whole few =
    let total = place + length (octets ++ more) in
    let others = packets_from form total (number + 1) (from_each form 0 more) in
    ap (packets_from form total number) (from_packet form octets more whole)
    ∙ ap (λ (f : Option FaultKind). judged f number (packet_at form (octets ++ more)) others)
    (sound_flaw form place octets more whole.head (sym whole.sound) (omega (arith, whole.size))
    (omega (arith, whole.size)))
    ∙ ap (λ (p : Captured). with_packet p others) (at_front form octets more whole)

-- The list stops at a packet with a fault.
pub stops : (form : Form) (place number : ℕ) (kind : FaultKind) (left : Option (List ℕ))
    (octets more : List ℕ) → IsFlawed form place kind left octets → left ≡ Some more →
    packets_from form (place + length (octets ++ more)) number (from_each form 0 (octets ++ more))
    ≡ stopped number kind
stops form place number kind left [] more flawed told = absurd (omega (arith, flawed.0))
stops form place number kind left (octet ∷ octets) more flawed told =
    let total = place + length (octet ∷ octets ++ more) in
    let after = from_each form (15 + captured_in form (octet ∷ (octets ++ more))) (octets ++ more) in
    ap (λ (f : Option FaultKind). judged f number (packet_at form (octet ∷ (octets ++ more)))
    (packets_from form total (number + 1) after)) (flawed.1 more told)
