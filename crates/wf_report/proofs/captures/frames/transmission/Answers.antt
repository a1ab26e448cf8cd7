-- Proves that the buffer has room for every transmission of an open exchange, so that encoding does not fail.
use Rattle.std.proofs.Common.{◌≡◌, ap, sym, ◌∙◌, subst, length, take, Some, arith}
use Rattle.std.proofs.lemmas.List.{length-take}
use Rattle.wf_path.specs.Addresses.{Addresses, made_up}
use Rattle.wf_path.specs.Transmissions.{octets_sent}
use Rattle.wf_path.specs.Writing.{write_fault}
use Rattle.wf_cell.proofs.Written.{no_write_fault}
use Rattle.wf_def_world.specs.World.{World}
use Rattle.wf_report.specs.Samples.{world_behind}
use Rattle.wf_report.proofs.SentPackets.{some_octets, octets_same}
use Rattle.wf_report.proofs.captures.frames.transmission.Goals as goal

pub unreachable-requires : goal.unreachable-requires
unreachable-requires c =
    let s = c.requires.samples in
    let r = c.requires.sending in
    let w : World = world_behind c.args.cell.now in
    let long : length c.args.octets.now ≡ 2330 = omega arith in
    let fault =
    c.in-Err.ensures.fault w s.bodies (rw (c.path.ensures.value) s.stands)
    ∙ ap (λ (a : Addresses). write_fault a w s.bodies c.args.exchange c.args.index
    (length c.args.octets.now)) c.path.ensures.addresses
    ∙ ap (λ n. write_fault made_up w s.bodies c.args.exchange c.args.index n) long
    ∙ no_write_fault c.args.cell.now.half w s.bodies s.stands c.args.exchange r.sending r.known c.args.index
    r.within in
    cc

pub returns-clause-some : goal.returns-clause-some
returns-clause-some c =
    let s = c.requires.samples in
    let w : World = world_behind c.args.cell.now in
    let some = some_octets w s.bodies c.args.exchange c.args.index _
    (subst (λ (a : Addresses). octets_sent a w s.bodies c.args.exchange c.args.index
    ≡ Some (take c.in-Ok.len c.mpdu_with_zeros.new.out)) c.path.ensures.addresses
    (c.in-Ok.ensures.octets w s.bodies (rw (c.path.ensures.value) s.stands))) in
    omega (arith, some, length-take c.in-Ok.len c.mpdu_with_zeros.new.out)

pub returns-clause-octets : goal.returns-clause-octets
returns-clause-octets c =
    let s = c.requires.samples in
    let w : World = world_behind c.args.cell.now in
    sym (octets_same c.args.cell.now.half w s.bodies s.stands s.samples c.args.exchange c.args.index)
    ∙ subst (λ (a : Addresses). octets_sent a w s.bodies c.args.exchange c.args.index
    ≡ Some (take c.in-Ok.len c.mpdu_with_zeros.new.out)) c.path.ensures.addresses
    (c.in-Ok.ensures.octets w s.bodies (rw (c.path.ensures.value) s.stands))
