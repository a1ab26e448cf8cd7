-- Proves the effect of a Flush on an engine. By cases of the path's reply.
use Rattle.std.proofs.Common.{ap, sym, ◌∙◌, subst, arith}
use Rattle.wf_path.specs.Paths.{PathValue}
use Rattle.wf_path.specs.Jobs.{changes_nothing}
use Rattle.wf_cell.specs.Engines.{EngineValue, EngineMeets}
use Rattle.wf_frame.specs.Answers.{reply_of, reply_with}
use Rattle.wf_frame.specs.declared.answers.Answer.{Answer}
use Rattle.wf_frame.specs.declared.answers.Brief.{Brief}
use Rattle.wf_frame.specs.declared.notes.Ask.TheVariants.{Flush}
use Rattle.wf_frame.specs.declared.notes.Note.{Note}
use Rattle.wf_frame.specs.declared.notes.Note.TheVariants.{Asked}
use Rattle.wf_frame.specs.declared.notes.ReplyNote.{ReplyNote}
use Rattle.wf_def_world.specs.Step.{step}
use Rattle.wf_send_half_model.specs.Half.{TransmitValue}
use Rattle.wf_cell_model.proofs.Catching.{flushed_station, flushed_tid, live_when_flushed}
use Rattle.wf_cell.proofs.Calls.{IsFlushed, is_flushed, not_flushed, flushed_brief, same_flushed, flushed_meets, refused_meets}
use Rattle.wf_cell.proofs.Inside.{inside, of_parts}
use Rattle.wf_cell.proofs.engine.Engine.flush.Goals as goal

pub catch_up-requires-clause-tid : goal.catch_up-requires-clause-tid
catch_up-requires-clause-tid c =
    let w = c.requires.some.world in let bodies = c.requires.some.bodies in
    let j = inside c.self.view_is w bodies c.requires.some.is_in in
    let a : Answer = c.call.new.answer in
    let x = c.args in
    flushed_tid w x.station x.tid (is_flushed w x.station x.tid (record {
      dropped = c.in-Flushed.dropped;
      is = sym (c.call.ensures.meets w bodies j.half tt).reply
          ∙ ap (λ (b : Brief). reply_with b a.pairs a.ids) c.in-Flushed.is;
    }))

pub catch_up-requires-clause-within : goal.catch_up-requires-clause-within
catch_up-requires-clause-within c =
    let w = c.requires.some.world in let bodies = c.requires.some.bodies in
    let j = inside c.self.view_is w bodies c.requires.some.is_in in
    let a : Answer = c.call.new.answer in
    let x = c.args in
    let done = is_flushed w x.station x.tid (record {
      dropped = c.in-Flushed.dropped;
      is = sym (c.call.ensures.meets w bodies j.half tt).reply
          ∙ ap (λ (b : Brief). reply_with b a.pairs a.ids) c.in-Flushed.is;
    }) in
    omega (arith, flushed_station w x.station x.tid done, j.hears.sized.count)

pub returns-in-Flushed-clause-meets : goal.returns-in-Flushed-clause-meets
returns-in-Flushed-clause-meets c = λ w bodies i.
    let j = inside c.self.view_is w bodies i in
    let a : Answer = c.call.new.answer in
    let after : TransmitValue = c.call.new.self.half in
    let m = c.call.ensures.meets w bodies j.half tt in
    let x = c.args in
    let note : Note = Asked (Flush x.station x.tid) in
    let done = is_flushed w x.station x.tid (record {
      dropped = c.in-Flushed.dropped;
      is = sym m.reply ∙ ap (λ (b : Brief). reply_with b a.pairs a.ids) c.in-Flushed.is;
    }) in
    let u : EngineValue = c.catch_up.new.self in
    of_parts (λ (k : EngineValue). EngineMeets w bodies note k (reply_with a.brief a.pairs c.catch_up.new.up))
    u after c.self.inside.marks c.catch_up.ensures.path_kept c.catch_up.ensures.marks_kept
    (subst (λ (r : ReplyNote). EngineMeets w bodies note
    (record { half = after; peers = u.peers; marks = c.self.inside.marks }) r)
    (sym (same_flushed a.brief c.in-Flushed.dropped a.pairs a.ids c.catch_up.new.up c.in-Flushed.is))
    (flushed_meets _ after (reply_of a) w bodies x.station x.tid j m done u.peers
    (c.catch_up.ensures.peers (step w note).world bodies m.stands
    (live_when_flushed w x.station x.tid done))))

pub returns-in_default-clause-meets : goal.returns-in_default-clause-meets
returns-in_default-clause-meets c = λ w bodies i.
    let j = inside c.self.view_is w bodies i in
    let a : Answer = c.call.new.answer in
    let after : TransmitValue = c.call.new.self.half in
    let m = c.call.ensures.meets w bodies j.half tt in
    let x = c.args in
    refused_meets _ after (Asked (Flush x.station x.tid)) (reply_of a) w bodies bodies j m
    (not_flushed w x.station x.tid (λ flushed. flushed_brief a.brief a.pairs a.ids
    (subst IsFlushed (sym m.reply) flushed) c.in_default.not-Flushed))

pub returns-in-Flushed-clause-path_kept : goal.returns-in-Flushed-clause-path_kept
returns-in-Flushed-clause-path_kept c = λ is.
    let a : Answer = c.call.new.answer in
    let same = same_flushed a.brief c.in-Flushed.dropped a.pairs a.ids c.catch_up.new.up c.in-Flushed.is in
    c.catch_up.ensures.path_kept
    ∙ ap (λ (p : PathValue). p.half) (c.call.ensures.refused (sym (ap changes_nothing same) ∙ is))
    ∙ ap (λ (u : EngineValue). u.half) c.self.view_is

pub returns-in_default-clause-path_kept : goal.returns-in_default-clause-path_kept
returns-in_default-clause-path_kept c = λ is.
    ap (λ (p : PathValue). p.half) (c.call.ensures.refused is) ∙ ap (λ (u : EngineValue). u.half)
    c.self.view_is
