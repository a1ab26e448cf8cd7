-- Defines the checks of a capture file's headers, in order.
use Rattle.std.specs.Prelude.{ℕ, ◌%◌, ◌==◌, ◌&&◌, nat_lt, not, Bool, true, false, List, length, Option, Some, None, if◌then◌else◌}
use Rattle.wf_io.specs.declared.pcap.reading.Form.{Form}
use Rattle.wf_io.specs.declared.pcap.reading.PcapFault.{PcapFault}
use Rattle.wf_io.specs.declared.pcap.reading.PcapFault.TheVariants.{Short, Magic, Version, Link, Long}
use Rattle.wf_io.specs.Capture.{number_in_order, magic_of, link_of_frames}

-- whether a magic number means nanoseconds, if it is a magic number
abbrev pub precision_of : ℕ → Option Bool
precision_of magic = if magic == magic_of false then Some false
    else (if magic == magic_of true then Some true else None)

-- the form with this byte order and precision, if the precision is known
abbrev pub with_order : Bool → Option Bool → Option Form
with_order big (Some nanos) = Some (record { big = big; nanos = nanos })
with_order big None = None

-- the first form, or the second if there is no first
abbrev pub or_else : Option Form → Option Form → Option Form
or_else (Some form) other = Some form
or_else None other = other

-- the form of a file: the byte order in which its first number is a magic number, and its precision
abbrev pub form_of : List ℕ → Option Form
form_of octets = or_else (with_order false (precision_of (number_in_order false 4 octets 0)))
    (with_order true (precision_of (number_in_order true 4 octets 0)))

-- the first fault of a file header after the magic number
abbrev pub fault_past_magic : List ℕ → Option Form → Option PcapFault
fault_past_magic octets None = Some Magic
fault_past_magic octets (Some form) =
    if not (number_in_order form.big 2 octets 4 == 2 && number_in_order form.big 2 octets 6 == 4)
    then Some (Version (number_in_order form.big 2 octets 4) (number_in_order form.big 2 octets 6))
    else (if not (number_in_order form.big 4 octets 20 % 65536 == link_of_frames)
    then Some (Link (number_in_order form.big 4 octets 20)) else None)

-- the first fault of a file header
abbrev pub head_fault : List ℕ → Option PcapFault
head_fault octets = if nat_lt (length octets) 24 then Some (Short 24 (length octets))
    else fault_past_magic octets (form_of octets)

-- the first fault of a packet header; a packet has at most 262,144 captured octets
abbrev pub packet_fault : Form → List ℕ → Option PcapFault
packet_fault form octets =
    if nat_lt (length octets) 16 then Some (Short 16 (length octets))
    else (if nat_lt 262144 (number_in_order form.big 4 octets 8)
    then Some (Long (number_in_order form.big 4 octets 8)) else None)
