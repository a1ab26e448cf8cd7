-- Proves what `Path::tim_with` promises: the identifiers that are present are those that the element of the
-- world shows.
use Rattle.std.proofs.Common.{◌≡◌, ap, ◌∙◌, arith, List, ℕ, length}
use Rattle.wf_frame.specs.declared.settings.Config.{Config}
use Rattle.wf_def_tim.specs.Tim.{tim_element, with_group_bit}
use Rattle.wf_octets.specs.Tim.{aids_of}
use Rattle.wf_path.specs.Addresses.{Addresses}
use Rattle.wf_path.specs.Traffic.{aids_shown}
use Rattle.wf_path.proofs.Identifiers.{shown_are}
use Rattle.wf_path.proofs.Inside.{stands_inside}
use Rattle.wf_path.proofs.Values.{addresses_are}
use Rattle.wf_path.proofs.path.Path.tim_with.Goals as goal

pub mark_present-requires-clause-few : goal.mark_present-requires-clause-few
mark_present-requires-clause-few c =
    let few = c.self.invariant.stands.reached.in_range.stations.1 in
    omega (arith, few, ap (λ (k : Config). k.stations) c.self.invariant.stands.parts.others.config)

pub returns-clause-octets : goal.returns-clause-octets
returns-clause-octets c w bodies h =
    let tim = c.args.tim in
    let aids : aids_of c.mark_present.new.present ≡ aids_shown c.args.self.now.addresses c.args.bss w =
    shown_are c.self.inside.half w bodies (stands_inside c.self.view_is w bodies h)
    c.mark_present.new.present c.self.inside.addresses c.args.bss c.mark_present.ensures
    ∙ ap (λ (a : Addresses). aids_shown a c.args.bss w) (addresses_are c.self.view_is) in
    c.encode_tim.ensures.octets
    ∙ ap (λ (l : List ℕ). with_group_bit tim.group (tim_element tim.count tim.period l)) aids

pub returns-clause-size : goal.returns-clause-size
returns-clause-size c w bodies h =
    let tim = c.args.tim in
    let aids : aids_of c.mark_present.new.present ≡ aids_shown c.args.self.now.addresses c.args.bss w =
    shown_are c.self.inside.half w bodies (stands_inside c.self.view_is w bodies h)
    c.mark_present.new.present c.self.inside.addresses c.args.bss c.mark_present.ensures
    ∙ ap (λ (a : Addresses). aids_shown a c.args.bss w) (addresses_are c.self.view_is) in
    c.encode_tim.ensures.size
    ∙ ap (λ (l : List ℕ). length (with_group_bit tim.group (tim_element tim.count tim.period l))) aids
