-- Defines capture files in the format of libpcap: a file header of 24 octets, then packets, each with a
-- header of 16 octets and the captured octets.
use Rattle.std.specs.Prelude.{◌≡◌, ℕ, ◌/◌, ◌%◌, ◌≤◌, Bool, false, if◌then◌else◌, List, ◌++◌, length, drop}
use Rattle.byteorder.specs.Endian.{big_number, little_number, little_bytes}
use Rattle.wf_io.specs.declared.pcap.reading.Form.{Form}
use Rattle.wf_io.specs.declared.pcap.reading.Packet.{Packet}

-- the number in the `count` octets at a place, big-endian (`big`) or little-endian
abbrev pub number_in_order : Bool → ℕ → List ℕ → ℕ → ℕ
number_in_order big count octets place = if big then big_number count (drop place octets)
    else little_number count (drop place octets)

-- the number that a file begins with; it says whether fractions of a second are in nanoseconds or in
-- microseconds
abbrev pub magic_of : Bool → ℕ
magic_of nanos = if nanos then 0xa1b23c4d else 0xa1b2c3d4

-- the link type of IEEE 802.11 frames without radio fields before them
abbrev pub link_of_frames : ℕ
link_of_frames = 105

-- A file header: the magic number, version 2.4, zone, accuracy and snap length, which are free, and the link
-- type in the low 16 bits of its field.
pub record IsHead (octets : List ℕ) (form : Form) : Type 0 where
  pub size : 24 ≤ length octets
  pub magic : number_in_order form.big 4 octets 0 ≡ magic_of form.nanos
  pub major : number_in_order form.big 2 octets 4 ≡ 2
  pub minor : number_in_order form.big 2 octets 6 ≡ 4
  pub link : number_in_order form.big 4 octets 20 % 65536 ≡ link_of_frames

-- the fields of a packet header
abbrev pub packet_in : Form → List ℕ → Packet
packet_in form octets = record {
  seconds = number_in_order form.big 4 octets 0;
  fraction = number_in_order form.big 4 octets 4;
  captured = number_in_order form.big 4 octets 8;
  original = number_in_order form.big 4 octets 12;
}

-- the form of the files that are written: little-endian, in microseconds
abbrev pub written_form : Form
written_form = record { big = false; nanos = false }

-- the file header that is written: magic, version, zone 0, accuracy 0, snap length and link type
abbrev pub file_head_octets : List ℕ
file_head_octets =
    little_bytes 4 (magic_of false) ++ little_bytes 2 2 ++ little_bytes 2 4 ++ little_bytes 4 0
    ++ little_bytes 4 0 ++ little_bytes 4 65535
    ++ little_bytes 4 link_of_frames

-- the header of a written packet of `count` octets at a time in microseconds; it has the low 32 bits of the
-- seconds
abbrev pub packet_head : ℕ → ℕ → List ℕ
packet_head at count = little_bytes 4 (at / 1000000) ++ little_bytes 4 (at % 1000000) ++ little_bytes 4 count
    ++ little_bytes 4 count

-- a written packet: its header and its octets, all of them captured
abbrev pub packet_octets : ℕ → List ℕ → List ℕ
packet_octets at octets = packet_head at (length octets) ++ octets
