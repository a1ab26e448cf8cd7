-- Defines the layouts of BlockAckReq and BlockAck with a compressed bitmap (IEEE 802.11-2012, 8.3.1.8 and
-- 8.3.1.9), and of the BlockAck of 256 numbers (IEEE 802.11ax-2021, 9.3.1.8.2), as relations between octets
-- and fields. All numbers are little-endian.
use Rattle.std.specs.Prelude.{◌≡◌, ℕ, ◌+◌, ◌*◌, ◌/◌, ◌%◌, Bool, true, false, List, [], ◌∷◌, ◌++◌, length, drop, slice_index, if◌then◌else◌}
use Rattle.wf_octets.specs.Fields.{is_set, number_at, part, two_octets}
use Rattle.wf_octets.specs.Offsets.{offsets_in}
use Rattle.wf_octets.specs.declared.block.frames.Bar.{Bar}
use Rattle.wf_octets.specs.declared.block.frames.Ba.{Ba}
use Rattle.wf_octets.specs.declared.block.frames.WideBa.{WideBa}

-- the first octet of Frame Control
abbrev pub request : ℕ
request = 0x84

abbrev pub answer : ℕ
answer = 0x94

-- the fragment number (802.11ax-2021, 9.3.1.8.2): 0 for a BlockAckReq and for a bitmap of 64 bits, 4 for a
-- bitmap of 256 bits
abbrev pub narrow_fragment : ℕ
narrow_fragment = 0

abbrev pub wide_fragment : ℕ
wide_fragment = 4

abbrev pub fragment_of : Bool → ℕ
fragment_of wide = if wide then wide_fragment else narrow_fragment

-- The fields that all these frames begin with: Duration, the recipient, the transmitter, the control field
-- with Compressed Bitmap (bit 2) set, Multi-TID (bit 1) clear and the TID in bits 12 to 15, and Starting
-- Sequence Control with the fragment number in bits 0 to 3. The second octet of Frame Control and the other
-- bits of the control field are free.
pub record HasHead (octets : List ℕ) (first fragment : ℕ) (h : Bar) : Type 0 where
  pub kind : slice_index octets 0 ≡ first
  pub duration : number_at octets 2 ≡ h.duration
  pub recipient : part octets 4 6 ≡ h.ra
  pub transmitter : part octets 10 6 ≡ h.ta
  pub compressed : is_set (slice_index octets 16) 2 ≡ true
  pub one_tid : is_set (slice_index octets 16) 1 ≡ false
  pub tid : slice_index octets 17 / 16 ≡ h.tid
  pub start : number_at octets 18 ≡ 16 * h.start + fragment

abbrev pub head_of_ba : Ba → Bar
head_of_ba b = record { ra = b.ra; ta = b.ta; duration = b.duration; tid = b.tid; start = b.start }

abbrev pub head_of_wide : WideBa → Bar
head_of_wide b = record { ra = b.ra; ta = b.ta; duration = b.duration; tid = b.tid; start = b.start }

-- the octets are the BlockAckReq b
pub record IsBar (octets : List ℕ) (b : Bar) : Type 0 where
  pub size : length octets ≡ 20
  pub head : HasHead octets request narrow_fragment b

-- the octets are the BlockAck b, whose bitmap has eight octets
pub record IsBlockAck (octets : List ℕ) (b : Ba) : Type 0 where
  pub size : length octets ≡ 28
  pub head : HasHead octets answer narrow_fragment (head_of_ba b)
  pub bitmap : offsets_in (drop 20 octets) ≡ b.bits

-- the octets are the BlockAck b of 256 numbers, whose bitmap has 32 octets
pub record IsWideBa (octets : List ℕ) (b : WideBa) : Type 0 where
  pub size : length octets ≡ 52
  pub head : HasHead octets answer wide_fragment (head_of_wide b)
  pub bitmap : offsets_in (drop 20 octets) ≡ b.bits

-- the low octet of the control field, with only Compressed Bitmap set
abbrev pub compressed_form : ℕ
compressed_form = 4

-- the octets before the bitmap, with free bits 0
abbrev pub head_octets : ℕ → ℕ → Bar → List ℕ
head_octets first fragment h =
    (first ∷ 0 ∷ []) ++ two_octets h.duration ++ h.ra ++ h.ta ++ (compressed_form ∷ 16 * h.tid ∷ [])
    ++ two_octets (16 * h.start + fragment)

-- the fields before the bitmap, read at their places
abbrev pub head_in : List ℕ → Bar
head_in octets =
    record {
      ra = part octets 4 6;
      ta = part octets 10 6;
      duration = number_at octets 2;
      tid =
          slice_index octets 17 / 16;
      start = number_at octets 18 / 16 % 4096;
    }
