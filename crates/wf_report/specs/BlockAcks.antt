-- Defines the octets of a BlockAck in a reply (IEEE 802.11-2012, 8.3.1.9, and 802.11ax-2021, 9.3.1.8.2).
use Rattle.std.specs.Prelude.{ℕ, Bool, List, ◌++◌, flat_map}
use Rattle.byteorder.specs.Endian.{little_bytes}
use Rattle.wf_octets.specs.Addresses.{base, address_of_station}
use Rattle.wf_octets.specs.BlockLayout.{head_octets, answer, fragment_of}
use Rattle.wf_octets.specs.declared.block.frames.Bar.{Bar}
use Rattle.wf_send_parts.specs.Window.{on_air}

-- All fields except the bitmap: to the access point, from station s, with Duration 0, of TID t, with this
-- start.
abbrev pub block_ack_head : ℕ → ℕ → ℕ → Bar
block_ack_head s t start = record {
  ra = base;
  ta = address_of_station s;
  duration = 0;
  tid = t;
  start =
      on_air start;
}

-- A bitmap of words of 64 bits, the lowest octet of each word first.
abbrev pub bitmap_octets : List ℕ → List ℕ
bitmap_octets words = flat_map (little_bytes 8) words

-- A BlockAck of 64 numbers, with one word, or a wide one of 256 numbers, with four.
abbrev pub block_ack_frame : ℕ → ℕ → ℕ → List ℕ → Bool → List ℕ
block_ack_frame s t start words wide =
    head_octets answer (fragment_of wide) (block_ack_head s t start)
    ++ bitmap_octets words
