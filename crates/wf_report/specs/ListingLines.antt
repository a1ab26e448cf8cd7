-- Defines the text that `frames` writes for a capture.
use Rattle.std.specs.Prelude.{ℕ, List, [], ◌∷◌, ◌++◌, length, codes, decimal, flat_map, Option, Some, None}
use Rattle.wf_frame.specs.Words.{line}
use Rattle.wf_def_world.specs.Text.{bit_word}
use Rattle.wf_report.specs.declared.captures.listing.fault.Fault.{Fault}
use Rattle.wf_report.specs.declared.captures.listing.fault.FaultKind.{FaultKind}
use Rattle.wf_report.specs.declared.captures.listing.fault.FaultKind.TheVariants.{Short, Magic, Version, Link, Long, TooBig}
use Rattle.wf_report.specs.declared.captures.listing.frame.Frame.{Frame}
use Rattle.wf_report.specs.declared.captures.listing.frame.Frame.TheVariants.{Data, Bar, Ba, Beacon, Group, Other}
use Rattle.wf_report.specs.Frames.{frame_listed}
use Rattle.wf_report.specs.ListedPackets.{Captured, Listing, listing}

-- The words of a frame.
abbrev pub frame_words : Frame → List (List ℕ)
frame_words (Data tid seq) = codes "data" ∷ codes "tid" ∷ decimal tid ∷ codes "seq" ∷ decimal seq ∷ []
frame_words (Bar tid start) = codes "bar" ∷ codes "tid" ∷ decimal tid ∷ codes "start" ∷ decimal start ∷ []
frame_words (Ba tid start) = codes "ba" ∷ codes "tid" ∷ decimal tid ∷ codes "start" ∷ decimal start ∷ []
frame_words (Beacon seq count period group) =
    codes "beacon" ∷ codes "seq" ∷ decimal seq ∷ codes "count" ∷ decimal count
    ∷ codes "period" ∷ decimal period ∷ codes "group" ∷ bit_word group ∷ []
frame_words (Group seq) = codes "group" ∷ codes "seq" ∷ decimal seq ∷ []
frame_words Other = codes "other" ∷ []

-- The line of a packet: its time as in its header, its captured length, and the words of its frame.
abbrev pub packet_line : Captured → List ℕ
packet_line p =
    line (decimal p.header.seconds ∷ decimal p.header.fraction ∷ codes "len" ∷ decimal p.header.captured
    ∷ frame_words (frame_listed p.octets))

abbrev pub packet_lines : List Captured → List ℕ
packet_lines packets = flat_map packet_line packets

abbrev pub kind_word : FaultKind → List ℕ
kind_word Short = codes "short"
kind_word Magic = codes "magic"
kind_word Version = codes "version"
kind_word Link = codes "link"
kind_word Long = codes "long"
kind_word TooBig = codes "too-big"

abbrev pub capture_fault_line : Fault → List ℕ
capture_fault_line fault =
    line (codes "fault" ∷ codes "packet" ∷ decimal fault.packet ∷ kind_word fault.kind ∷ [])

abbrev pub count_line : ℕ → List ℕ
count_line count = line (codes "packets" ∷ decimal count ∷ [])

-- The last line: the fault line, or the number of packets.
abbrev pub last_line : ℕ → Option Fault → List ℕ
last_line count None = count_line count
last_line count (Some fault) = capture_fault_line fault

abbrev pub listing_text : Listing → List ℕ
listing_text l = packet_lines l.packets ++ last_line (length l.packets) l.fault

-- The text that is written for a capture.
abbrev pub text : List ℕ → List ℕ
text octets = listing_text (listing octets)
