-- The charge of a frame with or without an agreement is that of the definition.
use Rattle.std.proofs.Common.{rules, ◌∙◌, ap}
use Rattle.wf_uplink.specs.World.{side_of_frame, frame_air_of}
use Rattle.wf_uplink.proofs.Heard.{frame_air_is}
use Rattle.wf_uplink.proofs.uplink.Uplink.heard.Goals as goal

pub returns-clause-air : goal.returns-clause-air
returns-clause-air c =
    let octets = c.args.octets.now in
    let w = c.args.self.now in
    frame_air_is (side_of_frame octets w) c.in-Some.rate octets c.in_ok-length.length c.frame_air.result
    c.is_plain-plain.result c.in_ok-length.ensures.body (search rules) c.frame_air.ensures
    ∙ ap (λ o. frame_air_of (side_of_frame octets w) o octets) (search rules)
