-- Proves that `written` does not fail, and that it writes octets with the fields of the transmission.
use Rattle.std.proofs.Common.{◌≡◌, ap, ◌∙◌, subst, arith, length, take, Some}
use Rattle.wf_path.specs.Addresses.{Addresses, made_up}
use Rattle.wf_path.specs.Transmissions.{octets_sent}
use Rattle.wf_path.specs.Writing.{write_fault}
use Rattle.wf_cell_model.proofs.Sent.{tid_now}
use Rattle.wf_cell.proofs.Written.{octets_say, has_source, no_write_fault}
use Rattle.wf_cell.proofs.air.written.Goals as goal

pub unreachable-requires : goal.unreachable-requires
unreachable-requires c =
    let r = c.requires.on_air in
    let long : length c.args.octets.now ≡ 2330 = omega arith in
    let fault =
    c.in-Err.ensures.fault r.world r.bodies r.stands
    ∙ ap (λ (a : Addresses). write_fault a r.world r.bodies c.args.exchange c.args.index
    (length c.args.octets.now)) c.requires.made_up
    ∙ ap (λ n. write_fault made_up r.world r.bodies c.args.exchange c.args.index n) long
    ∙ no_write_fault c.args.path.now.half r.world r.bodies r.stands c.args.exchange r.sending r.known
    c.args.index
    r.within in
    cc

pub returns-clause-says : goal.returns-clause-says
returns-clause-says c = λ w bodies x stands known few.
    octets_say w bodies c.args.exchange c.args.index x _ known
    (tid_now w stands.reached c.args.exchange x known) few
    (λ m among. has_source c.args.path.now.half w bodies stands c.args.exchange x known c.args.index m among)
    (subst (λ (a : Addresses). octets_sent a w bodies c.args.exchange c.args.index
    ≡ Some (take c.in-Ok.len c.mpdu_with_zeros.new.out)) c.requires.made_up
    (c.in-Ok.ensures.octets w bodies stands))
