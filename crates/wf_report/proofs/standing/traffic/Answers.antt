-- Proves that the octets equal the world's TIM element.
use Rattle.std.proofs.Common.{rules, ◌∙◌, take, ap}
use Rattle.wf_path.specs.Addresses.{Addresses}
use Rattle.wf_path.proofs.MadeUp.{made_up_has_aids}
use Rattle.wf_def_world.specs.Run.{world_of}
use Rattle.wf_report.proofs.Cells.{bss_within}
use Rattle.wf_report.proofs.Takes.{take_within}
use Rattle.wf_report.proofs.standing.traffic.Goals as goal

pub tim-requires : goal.tim-requires
tim-requires c =
    let stands = c.path.ensures.stands in
    rw (c.path.ensures.value)
    (bss_within _ (world_of c.args.cell.now.past) stands.0 c.args.bss stands.1 c.requires)

pub returns-clause-octets : goal.returns-clause-octets
returns-clause-octets c =
    let stands = c.path.ensures.stands in
    ap (λ n. take n c.tim.new.out) c.min.ensures ∙ take_within c.tim.result 256 c.tim.new.out (search rules)
    ∙ c.tim.ensures.made_up (ap (λ (a : Addresses). a.aids) c.path.ensures.addresses ∙ made_up_has_aids)
    (world_of c.args.cell.now.past) stands.0 (rw (c.path.ensures.value) stands.1)
