-- Defines the header of the group frame that is on the air, and when that frame is the one of an answer.
use Rattle.std.specs.Prelude.{◌≡◌, ℕ, Bool, List, Some, option_map}
use Rattle.wf_frame.specs.declared.notes.GroupReply.TheVariants.{Send}
use Rattle.wf_frame.specs.declared.notes.ReplyNote.{ReplyNote}
use Rattle.wf_frame.specs.declared.notes.ReplyNote.TheVariants.{Group}
use Rattle.wf_octets.specs.declared.header.group.GroupHeader.{GroupHeader}
use Rattle.wf_send_parts.specs.Group.{GroupValue}
use Rattle.wf_send_parts.specs.Window.{on_air}
use Rattle.wf_send_parts.specs.declared.group.GroupFlight.{GroupFlight}
use Rattle.wf_path.specs.Addresses.{Addresses, bss_in}

-- its header with this source: to its destination, from the access point of BSS b
abbrev pub group_header_of : Addresses → ℕ → List ℕ → GroupFlight → GroupHeader
group_header_of a b source x = record {
  more = x.more;
  group = x.frame.to;
  bss = bss_in a b;
  source = source;
  seq = on_air x.number;
}

-- the id, the number and the More Data bit of a frame that is on the air
abbrev pub flight_said : GroupFlight → ℕ × ℕ × Bool
flight_said x = (x.frame.id, x.number, x.more)

-- if a reply sends a group frame, this frame is on the air, with the number and the More Data bit of the
-- reply, which its header then has; this says nothing of another reply
abbrev pub FliesAsSaid : GroupValue → ReplyNote → Type 0
FliesAsSaid v (Group (Send id number air more)) =
    option_map flight_said v.flying ≡ Some (id, number, more)
FliesAsSaid v reply = Unit {0}
