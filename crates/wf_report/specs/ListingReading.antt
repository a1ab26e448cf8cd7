-- Defines what contracts state of a packet that is read.
use Rattle.std.specs.Prelude.{◌≡◌, ◌⊎◌, ℕ, ◌+◌, ◌<◌, ◌≤◌, List, [], ◌++◌, length, take, drop, Option, Some, None, Result, Ok, Err}
use Rattle.std.specs.Io.KnownBytes.{prepend_known, IsAtEnd}
use Rattle.wf_io.specs.declared.source.Failed.{Failed}
use Rattle.wf_io.specs.declared.pcap.reading.Form.{Form}
use Rattle.wf_io.specs.declared.pcap.reading.PcapFault.{PcapFault}
use Rattle.wf_io.specs.declared.pcap.reading.PcapFault.TheVariants as pcap
use Rattle.wf_io.specs.Capture.{packet_in}
use Rattle.wf_io.specs.CaptureFaults.{packet_fault}
use Rattle.wf_report.specs.declared.captures.listing.fault.FaultKind.{FaultKind}
use Rattle.wf_report.specs.declared.captures.listing.fault.FaultKind.TheVariants.{TooBig}
use Rattle.wf_report.specs.declared.captures.listing.reader.Next.{Next}
use Rattle.wf_report.specs.declared.captures.listing.reader.Next.TheVariants as next
use Rattle.wf_report.specs.ListedPackets.{packet_head_length, packet_flaw, most_octets_read, captured_in}

-- These octets are exactly one packet.
pub record IsWhole (form : Form) (octets : List ℕ) : Type 0 where
  pub head : packet_head_length ≤ length octets
  pub size : length octets ≡ packet_head_length + captured_in form octets
  pub sound : packet_fault form octets ≡ None

-- The packet that follows the first `place` octets and begins with these has this fault, whatever of the
-- input follows them.
abbrev pub IsFlawed : Form → ℕ → FaultKind → Option (List ℕ) → List ℕ → Type 0
IsFlawed form place kind left octets =
    (0 < length octets) × ((more : List ℕ) → left ≡ Some more →
    packet_flaw form (place + length (octets ++ more)) (octets ++ more) ≡ Some kind)

-- These octets, after the first `place` octets, are an incomplete packet from which no fault follows: the
-- fault that it has if the input ends there is not a fault of every longer input.
pub record IsPart (form : Form) (place : ℕ) (octets : List ℕ) : Type 0 where
  pub kind : FaultKind
  pub now : packet_flaw form (place + length octets) octets ≡ Some kind
  pub more : List ℕ
  pub later : packet_flaw form (place + length (octets ++ more)) (octets ++ more) ≡ Some kind → ⊥

-- The octets that were read are a packet with this header, and the captured ones are in the buffer; or they
-- have a fault; or there are none; or, if the source failed, they are an incomplete packet.
abbrev pub SaysPacket : Form → ℕ → Result Next Failed → List ℕ → Option (List ℕ) → List ℕ → Type 0
SaysPacket form place (Ok (next.Packet packet)) body left octets =
    IsWhole form octets × (packet ≡ packet_in form octets) × (place + length octets ≤ most_octets_read) ×
    (take packet.captured body ≡ drop packet_head_length octets)
SaysPacket form place (Ok (next.Bad kind)) body left octets = IsFlawed form place kind left octets
SaysPacket form place (Ok next.Over) body left octets = (octets ≡ []) × IsAtEnd left
SaysPacket form place (Err failed) body left octets = IsPart form place octets

-- A call read octets, with this result.
abbrev pub TakesPacket : Form → ℕ → Option (List ℕ) → Result Next Failed → List ℕ → Option (List ℕ) → Type 0
TakesPacket form place left result body left_new =
    (octets : List ℕ) × (left ≡ prepend_known octets left_new) ×
    SaysPacket form place result body left_new octets

-- The same after a packet header that was read before.
abbrev pub TakesBehind : Form → ℕ → List ℕ → Option (List ℕ) → Result Next Failed → List ℕ → Option (List ℕ) →
    Type 0
TakesBehind form place head left result body left_new =
    (octets : List ℕ) × (left ≡ prepend_known octets left_new) ×
    SaysPacket form place result body left_new (head ++ octets)

-- The fault of a packet that goes beyond the octets that are read: the input does so as well, or it ends and
-- the packet has another fault.
abbrev pub GoesPast : ℕ → FaultKind → Next → Option (List ℕ) → List ℕ → Type 0
GoesPast behind kind result left octets =
    ((result ≡ next.Bad TooBig) × (most_octets_read < behind + length octets))
    ⊎ ((result ≡ next.Bad kind) × (behind + length octets ≤ most_octets_read) × IsAtEnd left)

-- The captured length of a header that is refused for its length alone, or 0.
abbrev pub captured_of : PcapFault → ℕ
captured_of (pcap.Short need have) = 0
captured_of pcap.Magic = 0
captured_of (pcap.Version major minor) = 0
captured_of (pcap.Link kind) = 0
captured_of (pcap.Long captured) = captured
