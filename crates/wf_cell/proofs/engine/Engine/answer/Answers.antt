-- Proves the effect of an Answer on an engine. By cases of its refusal.
use Rattle.std.proofs.Common.{ap, ap₂, sym, ◌∙◌, subst, ℕ, Bool, if◌then◌else◌, List}
use Rattle.wf_cell.specs.Engines.{EngineValue, EngineMeets}
use Rattle.wf_frame.specs.Answers.{reply_with}
use Rattle.wf_frame.specs.declared.answers.Brief.{Brief}
use Rattle.wf_frame.specs.declared.notes.Ask.TheVariants.{Answer}
use Rattle.wf_frame.specs.declared.notes.Note.TheVariants.{Asked}
use Rattle.wf_frame.specs.declared.notes.ReplyNote.{ReplyNote}
use Rattle.wf_frame.specs.declared.notes.ReplyNote.TheVariants.{Ack}
use Rattle.wf_recv_peer.specs.Board.{Board}
use Rattle.wf_recv_marks.specs.Marks.{with_answer, with_changed}
use Rattle.wf_cell_model.specs.Hearing.{agreement_of}
use Rattle.wf_cell.proofs.Exchanges.{ack_or_reply, answer_refused, answered_meets, told_station, told_tid}
use Rattle.wf_cell.proofs.Inside.{inside}
use Rattle.wf_cell.proofs.engine.Engine.answer.Goals as goal

pub returns-in-Err-clause-meets : goal.returns-in-Err-clause-meets
returns-in-Err-clause-meets c = λ w bodies i.
    answer_refused c.args.self.now w bodies c.args.exchange i c.in-Err.reason
    (c.in-Err.ensures.refused w bodies i)

pub keep_answer-ba-requires-clause-within : goal.keep_answer-ba-requires-clause-within
keep_answer-ba-requires-clause-within c =
    told_station c.args.self.now c.requires.world c.requires.bodies c.args.exchange c.in-Ok.sent
    c.requires.is_in (c.in-Ok.ensures.sent c.requires.world c.requires.bodies c.requires.is_in)

pub keep_answer-ba-requires-clause-tid : goal.keep_answer-ba-requires-clause-tid
keep_answer-ba-requires-clause-tid c =
    told_tid c.requires.world c.args.exchange c.in-Ok.sent c.requires.is_in.half.reached
    (c.in-Ok.ensures.sent c.requires.world c.requires.bodies c.requires.is_in)

pub returns-in-Ok-clause-meets : goal.returns-in-Ok-clause-meets
returns-in-Ok-clause-meets c = λ w bodies i.
    let e : ℕ = c.args.exchange in
    let sent = c.in-Ok.sent in
    let b : Board = (agreement_of c.args.self.now.peers sent.station sent.tid).board in
    let u : EngineValue = record c.args.self.now {
      marks =
          with_changed e (with_answer b.start b.offsets) c.args.self.now.marks;
    } in
    let pairs : List (ℕ × ℕ) = c.args.answer.now.pairs in
    let ids : List ℕ = c.args.answer.now.ids in
    let meets = answered_meets c.args.self.now w bodies e i sent (c.in-Ok.ensures.sent w bodies i)
    (sym (c.in-Ok.ensures.refused w bodies i)) in
    let plain = c.is_plain-plain.ensures w bodies (inside c.self.view_is w bodies i).half in
    let told = sym (ap (λ (k : Brief). reply_with k pairs ids) c.ack_or-answer.ensures
    ∙ ack_or_reply c.is_plain-plain.result c.keep_answer-ba.result pairs ids
    ∙ ap₂ (λ (k : Bool) (r : ReplyNote). if k then Ack else r) plain
    (ap (λ (k : Brief). reply_with k pairs ids) c.keep_answer-ba.ensures.brief)) in
    subst (λ (k : EngineValue). EngineMeets w bodies (Asked (Answer e)) k
    (reply_with c.ack_or-answer.result pairs ids)) (sym c.keep_answer-ba.ensures.kept)
    (subst (λ (r : ReplyNote). EngineMeets w bodies (Asked (Answer e)) u r) told meets)

pub returns-in-Ok-clause-path_kept : goal.returns-in-Ok-clause-path_kept
returns-in-Ok-clause-path_kept c = ap (λ (u : EngineValue). u.half) c.keep_answer-ba.ensures.kept
