-- Proves which octets the header of a group frame has, and which packets a call about group frames has.
use Rattle.std.proofs.Common.{◌≡◌, refl, ap, sym, ◌∙◌, ℕ, Bool, List, [], Option, Some, None, append-nil}
use Rattle.std.specs.Option.{option_map_or}
use Rattle.wf_frame.specs.Frames.{FrameValue, made_up_source}
use Rattle.wf_frame.specs.declared.notes.GroupReply.{GroupReply}
use Rattle.wf_frame.specs.declared.notes.Note.{Note}
use Rattle.wf_frame.specs.declared.notes.ReplyNote.TheVariants as reply
use Rattle.wf_io.specs.Capture.{packet_octets}
use Rattle.wf_octets.specs.Addresses.{base}
use Rattle.wf_octets.specs.GroupLayout.{group_octets}
use Rattle.wf_octets.specs.declared.header.group.GroupHeader.{GroupHeader}
use Rattle.wf_def_world.specs.Group.{GroupFrame}
use Rattle.wf_def_world.specs.World.{World}
use Rattle.wf_send_parts.specs.Window.{on_air}
use Rattle.wf_send_half.specs.Group.{everyone}
use Rattle.wf_report.specs.GroupFrames.{group_header, group_frame, group_frames}
use Rattle.wf_report.specs.Packets.{bss_named, frames_of_group, frames_by, packets_at, octets_of_packets}

-- The fields that are written are those of the definition.
pub header_is : (number : ℕ) (more : Bool) (bss source : List ℕ) (seq : ℕ) → bss ≡ base →
    source ≡ made_up_source → seq ≡ on_air number →
    (let h : GroupHeader = record { more = more; group = everyone; bss = bss; source = source; seq = seq } in
    group_octets h) ≡ group_octets (group_header number more)
header_is number more bss source seq to from same = rw (to, from, same) refl

-- The group frame that is on the air has one packet.
pub group_one : (at number : ℕ) (more : Bool) (flying : Option GroupFrame) (x : GroupFrame) →
    Some x ≡ flying →
    octets_of_packets (packets_at at (group_frames number more flying))
    ≡ packet_octets at (group_frame number more x.len)
group_one at number more flying x is =
    ap (λ o. octets_of_packets (packets_at at (group_frames number more o))) (sym is)
    ∙ append-nil (packet_octets at (group_frame number more x.len))

-- If there is none, there is no packet.
pub group_none : (at number : ℕ) (more : Bool) (flying : Option GroupFrame) → None ≡ flying →
    octets_of_packets (packets_at at (group_frames number more flying)) ≡ []
group_none at number more flying is =
    ap (λ o. octets_of_packets (packets_at at (group_frames number more o))) (sym is)

-- The packets of a call about group frames are those of the BSS that it names, if there is one of that
-- number.
pub packets_named : (w : World) (bodies : ℕ → FrameValue) (note : Note) (answered : GroupReply)
    (o : Option ℕ) → o ≡ bss_named w note →
    octets_of_packets (packets_at w.clock (frames_by w bodies note (reply.Group answered)))
    ≡ octets_of_packets (packets_at w.clock (option_map_or (λ b. frames_of_group w b answered) o []))
packets_named w bodies note answered o is =
    ap (λ (n : Option ℕ). octets_of_packets (packets_at w.clock
    (option_map_or (λ b. frames_of_group w b answered) n []))) (sym is)
