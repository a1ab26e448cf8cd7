-- Proves that the TIM element follows the other fields.
use Rattle.std.proofs.Common.{◌≡◌, ◌++◌, ◌-◌, ap, ◌∙◌, take}
use Rattle.wf_def_world.specs.Group.{GroupState}
use Rattle.wf_def_world.specs.World.{World, group_of}
use Rattle.wf_def_world.specs.Text.{beacon_map, with_traffic}
use Rattle.wf_report.specs.GroupFrames.{beacon_head}
use Rattle.wf_report.specs.Samples.{world_behind}
use Rattle.wf_report.proofs.Takes.{then_put}
use Rattle.wf_report.proofs.captures.group.beacon.Goals as goal

pub returns-clause-octets : goal.returns-clause-octets
returns-clause-octets c =
    let w : World = world_behind c.args.cell.now in
    let g : GroupState = group_of w c.args.bss in
    let number = c.saturating_sub.ensures ∙ ap (λ n. n - 1) c.numbers.ensures in
    let first : take c.put-place.result c.put-place.new.out ≡ beacon_head (g.number - 1) w.clock =
    c.put-place.ensures.up_to_it ∙ c.beacon_head-head.ensures
    ∙ ap (λ n. beacon_head n c.clock.result) number
    ∙ ap (beacon_head (g.number - 1)) c.clock.ensures.value in
    let all : take c.put.result c.put.new.out
    ≡ beacon_head (g.number - 1) w.clock ++ beacon_map w c.args.bss (with_traffic w c.args.bss) =
    then_put c.put.ensures.up_to_it first c.traffic-len.ensures.octets in all
