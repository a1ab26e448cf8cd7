-- Defines the law of `frames` for the captures that this project writes.
use Rattle.std.specs.Prelude.{◌≡◌, ℕ, ◌/◌, ◌%◌, ◌*◌, ◌^◌, ◌<◌, ◌≤◌, List, [], ◌∷◌, ◌++◌, length, map, flat_map, None}
use Rattle.wf_io.specs.Capture.{file_head_octets, packet_octets}
use Rattle.wf_report.specs.ListedPackets.{Captured, listing, most_octets_read}

-- A packet to be written: its time in microseconds, and its octets.
pub record Sent : Type 0 where
  pub at : ℕ
  pub octets : List ℕ

-- The time has 32 bits of seconds, and the packet is at most as long as the file header allows.
pub record IsWritable (p : Sent) : Type 0 where
  pub time : p.at < 2 ^ 32 * 1000000
  pub most : length p.octets ≤ 65535

abbrev pub AreWritable : List Sent → Type 0
AreWritable [] = Unit {0}
AreWritable (p ∷ packets) = IsWritable p × AreWritable packets

-- The octets of a capture: the file header, and then the packets in order.
abbrev pub capture_of_packets : List Sent → List ℕ
capture_of_packets packets = file_head_octets ++ flat_map (λ (p : Sent). packet_octets p.at p.octets) packets

-- The list entry of a packet: its seconds and microseconds, its length and its octets.
abbrev pub seen : Sent → Captured
seen p = record {
  header = record {
    seconds = p.at / 1000000;
    fraction = p.at % 1000000;
    captured = length p.octets;
    original = length p.octets;
  };
  octets = p.octets;
}

-- `frames` lists each packet of a capture of these packets in order, and no fault.
abbrev pub IsListed : List Sent → Type 0
IsListed packets = listing (capture_of_packets packets) ≡ record { packets = map seen packets; fault = None }

-- This holds for every capture that is not too big.
abbrev pub FramesLaw : List ℕ → Type 0
FramesLaw input = (packets : List Sent) → AreWritable packets → input ≡ capture_of_packets packets →
    length input ≤ most_octets_read → IsListed packets
