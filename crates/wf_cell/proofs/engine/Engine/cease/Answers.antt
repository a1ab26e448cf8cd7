-- Proves the effect of a Cease on an engine. By cases of the path's reply.
use Rattle.std.proofs.Common.{◌≡◌, ap, sym, ◌∙◌, subst, List, length, arith, true, false}
use Rattle.std.proofs.lemmas.List.{length-set}
use Rattle.wf_path.specs.Paths.{PathValue}
use Rattle.wf_cell.specs.Engines.{EngineValue}
use Rattle.wf_frame.specs.Answers.{reply_of, reply_with}
use Rattle.wf_frame.specs.declared.answers.Answer.{Answer}
use Rattle.wf_frame.specs.declared.answers.Brief.{Brief}
use Rattle.wf_frame.specs.declared.notes.Ask.TheVariants.{Cease}
use Rattle.wf_frame.specs.declared.notes.Note.TheVariants.{Asked}
use Rattle.wf_def_world.specs.World.{World}
use Rattle.wf_def_world.specs.Step.{plain_window, step}
use Rattle.wf_recv_peer.specs.Agreements.{PeerValue, new_agreement, with_agreement}
use Rattle.wf_send_half_model.specs.Standing.{Meets as PathMeets}
use Rattle.wf_send_half_model.specs.Half.{TransmitValue}
use Rattle.wf_path.specs.Jobs.{changes_nothing}
use Rattle.wf_cell_model.specs.Arriving.{peer_requested}
use Rattle.wf_cell_model.specs.Hearing.{peer_of, with_peer}
use Rattle.wf_cell_model.proofs.Renewing.{ceased_station, ceased_tid}
use Rattle.wf_cell.proofs.Calls.{refused_meets}
use Rattle.wf_cell.proofs.Renewals.{IsCeased, not_ceased, ceased_brief, not_released, ceased_done, ceased_is_live, ceased_meets}
use Rattle.wf_cell.proofs.Inside.{inside}
use Rattle.wf_cell.proofs.engine.Engine.cease.Goals as goal

pub start_of-start-requires-clause-live : goal.start_of-start-requires-clause-live
start_of-start-requires-clause-live c =
    let w = c.requires.some.world in let bodies = c.requires.some.bodies in
    let j = inside c.self.view_is w bodies c.requires.some.is_in in
    let a : Answer = c.call.new.answer in
    let x = c.args in
    let m = c.call.ensures.meets w bodies j.half tt in
    ceased_is_live _ c.call.new.self.half a.brief a.pairs a.ids w bodies x.station x.tid c.in-Ceased.dropped j
    m c.in-Ceased.is

pub start_of-start-requires-clause-tid : goal.start_of-start-requires-clause-tid
start_of-start-requires-clause-tid c =
    let w = c.requires.some.world in let bodies = c.requires.some.bodies in
    let j = inside c.self.view_is w bodies c.requires.some.is_in in
    let a : Answer = c.call.new.answer in
    let x = c.args in
    let m = c.call.ensures.meets w bodies j.half tt in
    let done = ceased_done _ c.call.new.self.half a.brief a.pairs a.ids w bodies x.station x.tid
    c.in-Ceased.dropped j m c.in-Ceased.is in
    ceased_tid w x.station x.tid done

pub move_to-requires-clause-within : goal.move_to-requires-clause-within
move_to-requires-clause-within c =
    let w = c.requires.some.world in let bodies = c.requires.some.bodies in
    let j = inside c.self.view_is w bodies c.requires.some.is_in in
    let a : Answer = c.call.new.answer in
    let x = c.args in
    let m = c.call.ensures.meets w bodies j.half tt in
    let done = ceased_done _ c.call.new.self.half a.brief a.pairs a.ids w bodies x.station x.tid
    c.in-Ceased.dropped j m c.in-Ceased.is in
    omega (arith, ceased_station w x.station x.tid done, j.hears.sized.count)

pub move_to-requires-clause-tid : goal.move_to-requires-clause-tid
move_to-requires-clause-tid c =
    let w = c.requires.some.world in let bodies = c.requires.some.bodies in
    let j = inside c.self.view_is w bodies c.requires.some.is_in in
    let a : Answer = c.call.new.answer in
    let x = c.args in
    let m = c.call.ensures.meets w bodies j.half tt in
    let done = ceased_done _ c.call.new.self.half a.brief a.pairs a.ids w bodies x.station x.tid
    c.in-Ceased.dropped j m c.in-Ceased.is in
    ceased_tid w x.station x.tid done

pub renew-requires-clause-within : goal.renew-requires-clause-within
renew-requires-clause-within c =
    let w = c.requires.some.world in let bodies = c.requires.some.bodies in
    let j = inside c.self.view_is w bodies c.requires.some.is_in in
    let a : Answer = c.call.new.answer in
    let x = c.args in
    let m = c.call.ensures.meets w bodies j.half tt in
    let done = ceased_done _ c.call.new.self.half a.brief a.pairs a.ids w bodies x.station x.tid
    c.in-Ceased.dropped j m c.in-Ceased.is in
    omega (
      arith,
      ceased_station w x.station x.tid done,
      j.hears.sized.count,
      ap (λ (ps : List PeerValue). length ps) c.move_to.ensures.moved,
      length-set c.self.inside.peers x.station
          (peer_requested x.tid c.start_of-start.result (peer_of c.self.inside.peers x.station)),
    )

pub renew-requires-clause-tid : goal.renew-requires-clause-tid
renew-requires-clause-tid c =
    let w = c.requires.some.world in let bodies = c.requires.some.bodies in
    let j = inside c.self.view_is w bodies c.requires.some.is_in in
    let a : Answer = c.call.new.answer in
    let x = c.args in
    let m = c.call.ensures.meets w bodies j.half tt in
    let done = ceased_done _ c.call.new.self.half a.brief a.pairs a.ids w bodies x.station x.tid
    c.in-Ceased.dropped j m c.in-Ceased.is in
    ceased_tid w x.station x.tid done

pub returns-in-Ceased-clause-meets : goal.returns-in-Ceased-clause-meets
returns-in-Ceased-clause-meets c = λ w bodies i.
    let j = inside c.self.view_is w bodies i in
    let a : Answer = c.call.new.answer in
    let after : TransmitValue = c.call.new.self.half in
    let x = c.args in
    let m = c.call.ensures.meets w bodies j.half tt in
    let done = ceased_done _ c.call.new.self.half a.brief a.pairs a.ids w bodies x.station x.tid
    c.in-Ceased.dropped j m c.in-Ceased.is in
    let v : World = (step w (Asked (Cease x.station x.tid))).world in
    ceased_meets _ after a.brief a.pairs a.ids w bodies x.station x.tid c.in-Ceased.dropped j m c.in-Ceased.is
    c.start_of-start.result c.move_to.new.up (c.start_of-start.ensures v bodies m.stands) c.move_to.ensures.up
    (omega (arith, ceased_station w x.station x.tid done, j.hears.sized.count)) c.renew.new.self
    (c.renew.ensures ∙ ap (λ (ps : List PeerValue). with_peer x.station (with_agreement x.tid
    (new_agreement c.start_of-start.result plain_window) (peer_of ps x.station)) ps) c.move_to.ensures.moved)

pub returns-in_default-clause-meets : goal.returns-in_default-clause-meets
returns-in_default-clause-meets c = λ w bodies i.
    let j = inside c.self.view_is w bodies i in
    let a : Answer = c.call.new.answer in
    let after : TransmitValue = c.call.new.self.half in
    let x = c.args in
    let m = c.call.ensures.meets w bodies j.half tt in
    let same = not_released a.brief a.pairs a.ids w x.station x.tid c.in_default.not-Ceased in
    refused_meets _ after (Asked (Cease x.station x.tid)) (reply_of a) w bodies bodies j
    (subst (PathMeets w bodies (Asked (Cease x.station x.tid)) after) same m)
    (not_ceased w x.station x.tid (λ ceased. ceased_brief a.brief a.pairs a.ids w x.station x.tid
    (subst IsCeased (sym m.reply) ceased) c.in_default.not-Ceased))

pub returns-in-Ceased-clause-path_kept : goal.returns-in-Ceased-clause-path_kept
returns-in-Ceased-clause-path_kept c = λ is.
    let a : Answer = c.call.new.answer in
    let b : true ≡ false = sym is
    ∙ ap (λ (k : Brief). changes_nothing (reply_with k a.pairs c.move_to.new.up)) c.in-Ceased.is in
    absurd (cc b)

pub returns-in_default-clause-path_kept : goal.returns-in_default-clause-path_kept
returns-in_default-clause-path_kept c = λ is.
    ap (λ (p : PathValue). p.half) (c.call.ensures.refused is) ∙ ap (λ (u : EngineValue). u.half)
    c.self.view_is
