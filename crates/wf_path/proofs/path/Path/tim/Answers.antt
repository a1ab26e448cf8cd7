-- Proves what `Path::tim` promises: the latest beacon of the BSS is the world's, so the element that is
-- written is the world's. With the identifiers of a new path it is the element of a run.
use Rattle.std.proofs.Common.{ap, ◌∙◌, length}
use Rattle.wf_def_tim.specs.Tim.{tim_element, with_group_bit}
use Rattle.wf_def_world.specs.Text.{beacon_map}
use Rattle.wf_send_parts.specs.declared.group.Beacon.{Beacon}
use Rattle.wf_path.specs.Traffic.{aids_shown}
use Rattle.wf_path.proofs.Identifiers.{made_up_shown}
use Rattle.wf_path.proofs.Inside.{stands_inside}
use Rattle.wf_path.proofs.path.Path.tim.Goals as goal

pub returns-clause-octets : goal.returns-clause-octets
returns-clause-octets c w bodies h =
    let aids = aids_shown c.args.self.now.addresses c.args.bss w in
    c.tim_with.ensures.octets w bodies h
    ∙ ap (λ (b : Beacon). with_group_bit b.announced (tim_element b.count b.period aids))
    (c.beacon-beacon.ensures.world w bodies (stands_inside c.self.view_is w bodies h))

pub returns-clause-size : goal.returns-clause-size
returns-clause-size c w bodies h =
    let aids = aids_shown c.args.self.now.addresses c.args.bss w in
    c.tim_with.ensures.size w bodies h
    ∙ ap (λ (b : Beacon). length (with_group_bit b.announced (tim_element b.count b.period aids)))
    (c.beacon-beacon.ensures.world w bodies (stands_inside c.self.view_is w bodies h))

pub returns-clause-made_up : goal.returns-clause-made_up
returns-clause-made_up c made w bodies h =
    returns-clause-octets c w bodies h
    ∙ ap (beacon_map w c.args.bss)
    (made_up_shown w c.args.self.now.addresses made h.reached.in_range.stations.1 c.args.bss)
