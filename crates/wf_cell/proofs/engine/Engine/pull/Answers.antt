-- Proves the effect of a Pull on an engine, and that a new mark has room. By cases of the path's reply.
use Rattle.std.proofs.Common.{ap, sym, ◌∙◌, subst, List}
use Rattle.wf_path.specs.Paths.{PathValue}
use Rattle.wf_cell.specs.Engines.{EngineValue, EngineMeets}
use Rattle.wf_frame.specs.Answers.{reply_of, reply_with, part_sent}
use Rattle.wf_frame.specs.declared.answers.Answer.{Answer}
use Rattle.wf_frame.specs.declared.answers.Brief.{Brief}
use Rattle.wf_frame.specs.declared.notes.Ask.TheVariants.{Pull}
use Rattle.wf_frame.specs.declared.notes.Note.TheVariants.{Asked}
use Rattle.wf_recv_marks.specs.declared.marks.Mark.{Mark}
use Rattle.wf_send_half.specs.Replies.{bodies_sent}
use Rattle.wf_send_half_model.specs.Half.{TransmitValue}
use Rattle.wf_cell.proofs.Calls.{IsSend, send_brief, mark_fits, pulled_meets, not_pulled, refused_meets}
use Rattle.wf_cell.proofs.Inside.{inside}
use Rattle.wf_cell.proofs.engine.Engine.pull.Goals as goal

pub open-requires-clause-room : goal.open-requires-clause-room
open-requires-clause-room c =
    let w = c.requires.some.world in let bodies = c.requires.some.bodies in let i = c.requires.some.is_in in
    let j = inside c.self.view_is w bodies i in
    let a : Answer = c.call.new.answer in
    let after : TransmitValue = c.call.new.self.half in
    let s = c.in-Send in
    let sent : IsSend (reply_of a) = record {
      number = s.exchange;
      station = s.station;
      tid = s.tid;
      charge = s.air;
      part = part_sent s.request s.kind a.pairs;
      more = s.more;
      eosp = s.eosp;
      is = ap (λ (b : Brief). reply_with b a.pairs a.ids) s.is;
    } in
    (mark_fits _ after (reply_of a) w bodies (bodies_sent (reply_of a) bodies) c.args.class c.args.limits j
    (c.call.ensures.meets w bodies j.half tt) sent).room

pub open-requires-clause-above : goal.open-requires-clause-above
open-requires-clause-above c =
    let w = c.requires.some.world in let bodies = c.requires.some.bodies in let i = c.requires.some.is_in in
    let j = inside c.self.view_is w bodies i in
    let a : Answer = c.call.new.answer in
    let after : TransmitValue = c.call.new.self.half in
    let s = c.in-Send in
    let sent : IsSend (reply_of a) = record {
      number = s.exchange;
      station = s.station;
      tid = s.tid;
      charge = s.air;
      part = part_sent s.request s.kind a.pairs;
      more = s.more;
      eosp = s.eosp;
      is = ap (λ (b : Brief). reply_with b a.pairs a.ids) s.is;
    } in
    (mark_fits _ after (reply_of a) w bodies (bodies_sent (reply_of a) bodies) c.args.class c.args.limits j
    (c.call.ensures.meets w bodies j.half tt) sent).above

pub returns-in-Send-clause-meets : goal.returns-in-Send-clause-meets
returns-in-Send-clause-meets c = λ w bodies i.
    let j = inside c.self.view_is w bodies i in
    let a : Answer = c.call.new.answer in
    let after : TransmitValue = c.call.new.self.half in
    let s = c.in-Send in
    let sent : IsSend (reply_of a) = record {
      number = s.exchange;
      station = s.station;
      tid = s.tid;
      charge = s.air;
      part = part_sent s.request s.kind a.pairs;
      more = s.more;
      eosp = s.eosp;
      is = ap (λ (b : Brief). reply_with b a.pairs a.ids) s.is;
    } in
    subst (λ (ms : List Mark). let u : EngineValue =
    record { half = after; peers = c.self.inside.peers; marks = ms } in
    EngineMeets w (bodies_sent (reply_of a) bodies) (Asked (Pull c.args.class c.args.limits)) u (reply_of a))
    (sym c.open.ensures) (pulled_meets _ after (reply_of a) w bodies (bodies_sent (reply_of a) bodies)
    c.args.class c.args.limits j (c.call.ensures.meets w bodies j.half tt) sent)

pub returns-in_default-clause-meets : goal.returns-in_default-clause-meets
returns-in_default-clause-meets c = λ w bodies i.
    let j = inside c.self.view_is w bodies i in
    let a : Answer = c.call.new.answer in
    let after : TransmitValue = c.call.new.self.half in
    let m = c.call.ensures.meets w bodies j.half tt in
    refused_meets _ after (Asked (Pull c.args.class c.args.limits)) (reply_of a) w bodies
    (bodies_sent (reply_of a) bodies) j m
    (not_pulled w c.args.class c.args.limits (λ sent. send_brief a.brief a.pairs a.ids
    (subst IsSend (sym m.reply) sent) c.in_default.not-Send))

pub returns-in-Send-clause-path_kept : goal.returns-in-Send-clause-path_kept
returns-in-Send-clause-path_kept c = λ is.
    ap (λ (p : PathValue). p.half) (c.call.ensures.refused is) ∙ ap (λ (u : EngineValue). u.half)
    c.self.view_is

pub returns-in_default-clause-path_kept : goal.returns-in_default-clause-path_kept
returns-in_default-clause-path_kept c = λ is.
    ap (λ (p : PathValue). p.half) (c.call.ensures.refused is) ∙ ap (λ (u : EngineValue). u.half)
    c.self.view_is
