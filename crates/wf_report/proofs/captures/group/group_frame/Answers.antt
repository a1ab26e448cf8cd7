-- Proves that the header and the body are written one after the other.
use Rattle.std.proofs.Common.{◌≡◌, ◌++◌, ap, ◌∙◌, ◌%◌, take}
use Rattle.wf_frame.specs.Frames.{sample_body}
use Rattle.wf_octets.specs.GroupLayout.{group_octets}
use Rattle.wf_report.specs.GroupFrames.{group_header, group_body}
use Rattle.wf_report.proofs.Takes.{then_put}
use Rattle.wf_report.proofs.GroupPackets.{header_is}
use Rattle.wf_report.proofs.captures.group.group_frame.Goals as goal

pub returns-clause-octets : goal.returns-clause-octets
returns-clause-octets c =
    let first : take c.put-place.result c.put-place.new.out
    ≡ group_octets (group_header c.args.number c.args.more) =
    c.put-place.ensures.up_to_it ∙ c.encode_group.ensures
    ∙ header_is c.args.number c.args.more c.base_address.result c.source_address.result c.of.result
    c.base_address.ensures c.source_address.ensures (c.of.ensures ∙ ap (λ n. n % 4096) c.from.ensures) in
    let all : take c.put_body.result c.put_body.new.octets
    ≡ group_octets (group_header c.args.number c.args.more) ++ group_body c.args.len =
    then_put c.put_body.ensures.octets first (ap (sample_body 0) c.min.ensures) in all
