-- Proves the effect of a Begin on an engine. By cases of the path's reply.
use Rattle.std.proofs.Common.{ap, sym, ◌∙◌, subst, List, arith}
use Rattle.wf_path.specs.Paths.{PathValue}
use Rattle.wf_cell.specs.Engines.{EngineValue, EngineMeets}
use Rattle.wf_frame.specs.Answers.{reply_of, reply_with}
use Rattle.wf_frame.specs.declared.answers.Answer.{Answer}
use Rattle.wf_frame.specs.declared.answers.Brief.{Brief}
use Rattle.wf_frame.specs.declared.notes.Ask.TheVariants.{Begin}
use Rattle.wf_frame.specs.declared.notes.Note.TheVariants.{Asked}
use Rattle.wf_def_world.specs.World.{World}
use Rattle.wf_def_world.specs.Step.{step}
use Rattle.wf_recv_peer.specs.Agreements.{PeerValue}
use Rattle.wf_send_half_model.specs.Half.{TransmitValue}
use Rattle.wf_cell_model.proofs.Renewing.{begun_station, begun_tid, begun_window}
use Rattle.wf_cell.proofs.Calls.{refused_meets}
use Rattle.wf_cell.proofs.Renewals.{is_begun, not_begun, begun_brief, begun_is_live, begun_meets}
use Rattle.wf_cell.proofs.Inside.{inside}
use Rattle.wf_cell.proofs.engine.Engine.begin.Goals as goal

pub start_of-start-requires-clause-live : goal.start_of-start-requires-clause-live
start_of-start-requires-clause-live c =
    let w = c.requires.some.world in let bodies = c.requires.some.bodies in
    let j = inside c.self.view_is w bodies c.requires.some.is_in in
    let a : Answer = c.call.new.answer in
    let x = c.args in
    let m = c.call.ensures.meets w bodies j.half tt in
    let done = is_begun w x.station x.tid x.window (sym m.reply
    ∙ ap (λ (b : Brief). reply_with b a.pairs a.ids) c.in-Begun.is) in
    begun_is_live _ c.call.new.self.half (reply_of a) w bodies x.station x.tid x.window j m done

pub start_of-start-requires-clause-tid : goal.start_of-start-requires-clause-tid
start_of-start-requires-clause-tid c =
    let w = c.requires.some.world in let bodies = c.requires.some.bodies in
    let j = inside c.self.view_is w bodies c.requires.some.is_in in
    let a : Answer = c.call.new.answer in
    let x = c.args in
    let m = c.call.ensures.meets w bodies j.half tt in
    let done = is_begun w x.station x.tid x.window (sym m.reply
    ∙ ap (λ (b : Brief). reply_with b a.pairs a.ids) c.in-Begun.is) in
    begun_tid w x.station x.tid x.window done

pub renew-requires-clause-within : goal.renew-requires-clause-within
renew-requires-clause-within c =
    let w = c.requires.some.world in let bodies = c.requires.some.bodies in
    let j = inside c.self.view_is w bodies c.requires.some.is_in in
    let a : Answer = c.call.new.answer in
    let x = c.args in
    let m = c.call.ensures.meets w bodies j.half tt in
    let done = is_begun w x.station x.tid x.window (sym m.reply
    ∙ ap (λ (b : Brief). reply_with b a.pairs a.ids) c.in-Begun.is) in
    omega (arith, begun_station w x.station x.tid x.window done, j.hears.sized.count)

pub renew-requires-clause-tid : goal.renew-requires-clause-tid
renew-requires-clause-tid c =
    let w = c.requires.some.world in let bodies = c.requires.some.bodies in
    let j = inside c.self.view_is w bodies c.requires.some.is_in in
    let a : Answer = c.call.new.answer in
    let x = c.args in
    let m = c.call.ensures.meets w bodies j.half tt in
    let done = is_begun w x.station x.tid x.window (sym m.reply
    ∙ ap (λ (b : Brief). reply_with b a.pairs a.ids) c.in-Begun.is) in
    begun_tid w x.station x.tid x.window done

pub renew-requires-clause-size : goal.renew-requires-clause-size
renew-requires-clause-size c =
    let w = c.requires.some.world in let bodies = c.requires.some.bodies in
    let j = inside c.self.view_is w bodies c.requires.some.is_in in
    let a : Answer = c.call.new.answer in
    let x = c.args in
    let m = c.call.ensures.meets w bodies j.half tt in
    let done = is_begun w x.station x.tid x.window (sym m.reply
    ∙ ap (λ (b : Brief). reply_with b a.pairs a.ids) c.in-Begun.is) in
    begun_window w x.station x.tid x.window done

pub returns-in-Begun-clause-meets : goal.returns-in-Begun-clause-meets
returns-in-Begun-clause-meets c = λ w bodies i.
    let j = inside c.self.view_is w bodies i in
    let a : Answer = c.call.new.answer in
    let after : TransmitValue = c.call.new.self.half in
    let x = c.args in
    let m = c.call.ensures.meets w bodies j.half tt in
    let done = is_begun w x.station x.tid x.window (sym m.reply
    ∙ ap (λ (b : Brief). reply_with b a.pairs a.ids) c.in-Begun.is) in
    let v : World = (step w (Asked (Begin x.station x.tid x.window))).world in
    subst (λ (ps : List PeerValue). let u : EngineValue =
    record { half = after; peers = ps; marks = c.self.inside.marks } in
    EngineMeets w bodies (Asked (Begin x.station x.tid x.window)) u (reply_of a)) (sym c.renew.ensures)
    (begun_meets _ after (reply_of a) w bodies x.station x.tid x.window j m done c.start_of-start.result
    (c.start_of-start.ensures v bodies m.stands))

pub returns-in_default-clause-meets : goal.returns-in_default-clause-meets
returns-in_default-clause-meets c = λ w bodies i.
    let j = inside c.self.view_is w bodies i in
    let a : Answer = c.call.new.answer in
    let after : TransmitValue = c.call.new.self.half in
    let x = c.args in
    let m = c.call.ensures.meets w bodies j.half tt in
    refused_meets _ after (Asked (Begin x.station x.tid x.window)) (reply_of a) w bodies bodies j m
    (not_begun w x.station x.tid x.window
    (λ begun. c.in_default.not-Begun (begun_brief a.brief a.pairs a.ids (m.reply ∙ begun))))

pub returns-in-Begun-clause-path_kept : goal.returns-in-Begun-clause-path_kept
returns-in-Begun-clause-path_kept c = λ is.
    ap (λ (p : PathValue). p.half) (c.call.ensures.refused is) ∙ ap (λ (u : EngineValue). u.half)
    c.self.view_is

pub returns-in_default-clause-path_kept : goal.returns-in_default-clause-path_kept
returns-in_default-clause-path_kept c = λ is.
    ap (λ (p : PathValue). p.half) (c.call.ensures.refused is) ∙ ap (λ (u : EngineValue). u.half)
    c.self.view_is
