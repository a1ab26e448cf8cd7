-- Defines the header of a group frame: a data frame without QoS from the distribution system (IEEE
-- 802.11-2012, 8.3.2.1).
use Rattle.std.specs.Prelude.{ℕ, ◌*◌, Bool, List, [], ◌∷◌, ◌++◌, if◌then◌else◌}
use Rattle.wf_octets.specs.Fields.{two_octets}
use Rattle.wf_octets.specs.declared.header.group.GroupHeader.{GroupHeader}

-- the second octet of Frame Control: From DS, and More Data if another group frame follows (8.2.4.1.8)
abbrev pub group_flags : Bool → ℕ
group_flags more = if more then 0x22 else 0x02

-- the octets of the header: Frame Control, a Duration of 0, the addresses of the group, the access point and
-- the source, and Sequence Control with fragment number 0
abbrev pub group_octets : GroupHeader → List ℕ
group_octets h =
    (0x08 ∷ group_flags h.more ∷ 0 ∷ 0 ∷ []) ++ h.group ++ h.bss ++ h.source ++ two_octets (16 * h.seq)
