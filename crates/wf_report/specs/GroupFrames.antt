-- Defines the octets of beacons (IEEE 802.11-2012, 8.3.3.2) and of group frames (8.3.2.1) in a capture.
use Rattle.std.specs.Prelude.{ℕ, ◌-◌, ◌*◌, min, Bool, List, [], ◌∷◌, ◌++◌, Option, Some, None}
use Rattle.byteorder.specs.Endian.{little_bytes}
use Rattle.wf_def_lists.specs.Lengths.{greatest_body}
use Rattle.wf_frame.specs.Frames.{made_up_source, sample_body}
use Rattle.wf_octets.specs.Addresses.{base}
use Rattle.wf_octets.specs.Fields.{two_octets}
use Rattle.wf_octets.specs.GroupLayout.{group_octets}
use Rattle.wf_octets.specs.declared.header.group.GroupHeader.{GroupHeader}
use Rattle.wf_def_world.specs.Group.{GroupFrame}
use Rattle.wf_def_world.specs.World.{World, group_of}
use Rattle.wf_def_world.specs.Text.{beacon_map, with_traffic}
use Rattle.wf_send_parts.specs.Window.{on_air}
use Rattle.wf_send_half.specs.Group.{everyone}

-- ---- group frames

-- The body of a group frame: that of a frame of flow 0. A body has at most 2,304 octets (8.2.3).
abbrev pub group_body : ℕ → List ℕ
group_body len = sample_body 0 (min len greatest_body)

-- The header of a group frame: to all stations, from the access point and from the placeholder source, with
-- this number and this More Data bit.
abbrev pub group_header : ℕ → Bool → GroupHeader
group_header number more = record {
  more = more;
  group = everyone;
  bss = base;
  source = made_up_source;
  seq = on_air number;
}

-- A group frame with a body of `len` octets, before the frame check sequence.
abbrev pub group_frame : ℕ → Bool → ℕ → List ℕ
group_frame number more len = group_octets (group_header number more) ++ group_body len

-- The group frame that is on the air, if there is one.
abbrev pub group_frames : ℕ → Bool → Option GroupFrame → List (List ℕ)
group_frames number more None = []
group_frames number more (Some x) = group_frame number more x.len ∷ []

-- ---- beacons

-- The fields of a beacon after its Timestamp and before its TIM element: a Beacon Interval of 100 units of
-- 1,024 microseconds (8.4.1.3), the Capability Information of a BSS (8.4.1.4), an SSID of no octets
-- (8.4.2.2), and the rates of 6 to 54 Mbit/s, of which 6, 12 and 24 are basic (8.4.2.3).
abbrev pub beacon_fields : List ℕ
beacon_fields =
    0x64 ∷ 0x00 ∷ 0x01 ∷ 0x00 ∷ 0x00 ∷ 0x00 ∷ 0x01 ∷ 0x08 ∷ 0x8C ∷ 0x12 ∷ 0x98 ∷ 0x24 ∷ 0xB0 ∷ 0x48 ∷ 0x60
    ∷ 0x6C ∷ []

-- A beacon up to its TIM element, with this number at this clock: Frame Control, a Duration of 0, the
-- addresses of all stations and twice of the access point, Sequence Control, Timestamp, and these fields.
abbrev pub beacon_head : ℕ → ℕ → List ℕ
beacon_head number clock =
    (0x80 ∷ 0x00 ∷ 0x00 ∷ 0x00 ∷ []) ++ everyone ++ base ++ base ++ two_octets (16 * on_air number)
    ++ little_bytes 8 clock ++ beacon_fields

-- The latest beacon of BSS b, if no other call followed: the number before the next one, the clock, and the
-- TIM element.
abbrev pub beacon_frame : World → ℕ → List ℕ
beacon_frame w b = beacon_head ((group_of w b).number - 1) w.clock ++ beacon_map w b (with_traffic w b)
