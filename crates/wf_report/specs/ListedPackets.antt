-- Defines the packets of a capture, in order, up to its first fault.
use Rattle.std.specs.Prelude.{ℕ, zero, suc, ◌+◌, ◌-◌, nat_lt, ◌&&◌, Bool, List, [], ◌∷◌, length, take, drop, Option, Some, None, if◌then◌else◌}
use Rattle.wf_io.specs.declared.source.TheConstants.{MOST_OCTETS}
use Rattle.wf_io.specs.declared.pcap.reading.Form.{Form}
use Rattle.wf_io.specs.declared.pcap.reading.Packet.{Packet}
use Rattle.wf_io.specs.declared.pcap.reading.PcapFault.{PcapFault}
use Rattle.wf_io.specs.declared.pcap.reading.PcapFault.TheVariants as pcap
use Rattle.wf_io.specs.Capture.{number_in_order, packet_in}
use Rattle.wf_io.specs.CaptureFaults.{form_of, head_fault, packet_fault}
use Rattle.wf_report.specs.declared.captures.listing.fault.Fault.{Fault}
use Rattle.wf_report.specs.declared.captures.listing.fault.FaultKind.{FaultKind}
use Rattle.wf_report.specs.declared.captures.listing.fault.FaultKind.TheVariants.{Short, Magic, Version, Link, Long, TooBig}

-- The length of a file header, and that of a packet's header, in octets.
abbrev pub file_head : ℕ
file_head = 24

abbrev pub packet_head_length : ℕ
packet_head_length = 16

-- The most octets of an input that are read, 2^40.
abbrev pub most_octets_read : ℕ
most_octets_read = MOST_OCTETS

abbrev pub kind_of : PcapFault → FaultKind
kind_of (pcap.Short need have) = Short
kind_of pcap.Magic = Magic
kind_of (pcap.Version major minor) = Version
kind_of (pcap.Link kind) = Link
kind_of (pcap.Long captured) = Long

-- The captured length of a packet, from the header at the front of the octets.
abbrev pub captured_in : Form → List ℕ → ℕ
captured_in form octets = number_in_order form.big 4 octets 8

-- The rest of the octets from each packet on. A packet begins at the end of the previous one, which is
-- `inside` octets away.
abbrev pub from_each : Form → ℕ → List ℕ → List (List ℕ)
from_each form inside [] = []
from_each form zero (octet ∷ octets) = (octet ∷ octets)
    ∷ from_each form (packet_head_length - 1 + captured_in form (octet ∷ octets)) octets
from_each form (suc inside) (octet ∷ octets) = from_each form inside octets

-- The length of the packet at the front of the octets: that of its header, and the captured length if the
-- header is complete.
abbrev pub packet_size : Form → List ℕ → ℕ
packet_size form octets = if nat_lt (length octets) packet_head_length then packet_head_length
    else packet_head_length + captured_in form octets

-- The octets are the end of an input of `total` octets. The input goes beyond the octets that are read, and
-- so does the packet at the front.
abbrev pub is_too_big : Form → ℕ → List ℕ → Bool
is_too_big form total octets = nat_lt most_octets_read total
    && nat_lt most_octets_read (total - length octets + packet_size form octets)

-- The fault of a packet that is not too big: that of its header, or that the input ends inside it.
abbrev pub small_flaw : Form → List ℕ → Option PcapFault → Option FaultKind
small_flaw form octets (Some fault) = Some (kind_of fault)
small_flaw form octets None = if nat_lt (length octets) (packet_size form octets) then Some Short else None

-- The first fault of the packet at the front of the octets, which are the end of an input of `total` octets.
abbrev pub packet_flaw : Form → ℕ → List ℕ → Option FaultKind
packet_flaw form total octets = if is_too_big form total octets then Some TooBig
    else small_flaw form octets (packet_fault form octets)

-- A packet: the fields of its header, and the captured octets.
pub record Captured : Type 0 where
  pub header : Packet
  pub octets : List ℕ

abbrev pub packet_at : Form → List ℕ → Captured
packet_at form octets = record {
  header = packet_in form octets;
  octets =
      take (captured_in form octets) (drop packet_head_length octets);
}

-- The packets of a capture up to its first fault, and that fault if there is one.
pub record Listing : Type 0 where
  pub packets : List Captured
  pub fault : Option Fault

abbrev pub with_packet : Captured → Listing → Listing
with_packet packet others = record { packets = packet ∷ others.packets; fault = others.fault }

abbrev pub stopped : ℕ → FaultKind → Listing
stopped packet kind = record { packets = []; fault = Some (record { packet = packet; kind = kind }) }

-- A packet is put in front of the others if it has no fault.
abbrev pub judged : Option FaultKind → ℕ → Captured → Listing → Listing
judged None number packet others = with_packet packet others
judged (Some kind) number packet others = stopped number kind

-- The packets at the front of each of these rests, counted from a number on.
abbrev pub packets_from : Form → ℕ → ℕ → List (List ℕ) → Listing
packets_from form total number [] = record { packets = []; fault = None }
packets_from form total number (octets ∷ others) =
    judged (packet_flaw form total octets) number (packet_at form octets)
    (packets_from form total (number + 1) others)

-- The packets after a file header of this form.
abbrev pub behind_head : Form → List ℕ → Listing
behind_head form octets = packets_from form (file_head + length octets) 1 (from_each form 0 octets)

-- The list of octets that begin with a file header of this form, if its checks pass. The file header counts
-- as packet 0.
abbrev pub listed : List ℕ → Option PcapFault → Option Form → Listing
listed octets (Some fault) form = stopped 0 (kind_of fault)
listed octets None None = stopped 0 Magic
listed octets None (Some form) = behind_head form (drop file_head octets)

-- The list of a capture.
abbrev pub listing : List ℕ → Listing
listing octets = listed octets (head_fault octets) (form_of octets)
