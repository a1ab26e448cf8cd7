-- Proves that a cell's answers are right: the returned frame is the one that the reply refers to.
use Rattle.std.proofs.Common.{◌≡◌, refl, ap, sym, ◌∙◌, subst, ℕ, ◌<◌, true, List, [], ◌∷◌, length, take, Option, Some, None}
use Rattle.wf_frame.specs.Frames.{FrameValue}
use Rattle.wf_frame.specs.declared.classes.Fate.{Fate}
use Rattle.wf_frame.specs.declared.notes.Ask.TheVariants as ask
use Rattle.wf_frame.specs.declared.notes.Note.TheVariants.{Asked}
use Rattle.wf_frame.specs.declared.notes.Refusal.{Refusal}
use Rattle.wf_frame.specs.declared.notes.ReplyNote.{ReplyNote}
use Rattle.wf_frame.specs.declared.notes.ReplyNote.TheVariants as reply
use Rattle.wf_law_rules.proofs.Lemmas.Members.{has_head}
use Rattle.wf_law_rules.proofs.Lemmas.Joined.{has_second}
use Rattle.wf_def_lists.specs.Table.{has}
use Rattle.wf_def_world.specs.World.{World, accepted_count, opening}
use Rattle.wf_def_world.specs.Refusals.{refusal}
use Rattle.wf_def_world.specs.Run.{Past, world_of}
use Rattle.wf_def_world.specs.Step.{Outcome, outcome_of, reap_outcome, step}
use Rattle.wf_law_runs.specs.Finished.{KeepsFinished, reaped_ids}
use Rattle.wf_law_runs.proofs.Frames.FinishedLaw.{finished_law}
use Rattle.wf_send_half_model.specs.Half.{TransmitValue}
use Rattle.wf_send_half_model.specs.Standing.{StandsFor, IsReached}
use Rattle.wf_send_half_model.proofs.Reached.{now_is, step_done, step_refused}
use Rattle.wf_path.specs.declared.job.Job.{Job}
use Rattle.wf_path.specs.declared.job.Job.TheVariants.{Give, Call}
use Rattle.wf_path.specs.Jobs.{frame_given_back, note_of}
use Rattle.wf_cell.specs.Rights.{IsReaped, IsBack, IsRight}

-- ---- a reap

-- a reaped id is on the finished list
told_of : (ids : List ℕ) (w : World) (id : ℕ) (fate : Fate) →
    (reap_outcome w ids).reply ≡ reply.Reaped id fate → has ids id ≡ true
unfolding reap_outcome
told_of [] w id fate e = absurd (cc e)
told_of (first ∷ ids) w id fate e = let same : first ≡ id = cc e in
    subst (λ k. has (first ∷ ids) k ≡ true) same (has_head first ids)

pub on_the_list : (w : World) (id : ℕ) (fate : Fate) →
    (step w (Asked ask.Reap)).reply ≡ reply.Reaped id fate → has w.finished id ≡ true
unfolding outcome_of
on_the_list w id fate e = of (refusal w (Asked ask.Reap)) refl
  where
    of : (o : Option Refusal) → refusal w (Asked ask.Reap) ≡ o → has w.finished id ≡ true
    of None is = told_of w.finished w id fate (sym
        (ap (λ (o : Outcome). o.reply) (step_done w (Asked ask.Reap) is)) ∙ e)
    of (Some r) is = let other : reply.Refused r ≡ reply.Reaped id fate =
        sym (ap (λ (o : Outcome). o.reply) (step_refused w (Asked ask.Reap) r is)) ∙ e in absurd (cc other)

-- a reaped id was accepted
pub reaped_known : (w : World) (r : IsReached w) (id : ℕ) (fate : Fate) →
    (step w (Asked ask.Reap)).reply ≡ reply.Reaped id fate → id < accepted_count w
reaped_known w r id fate e =
    let reaped : List ℕ = reaped_ids (opening w.config) (take (length r.history) r.history) in
    let keeps : KeepsFinished reaped w = subst (KeepsFinished reaped) (now_is w r)
    (finished_law w.config r.history (length r.history)) in
    ((keeps.exactly id).0 (has_second reaped w.finished id (on_the_list w id fate e))).0

-- ---- the returned frame

module _ (v : TransmitValue) (w : World) (bodies : ℕ → FrameValue) (stands : StandsFor v w bodies) where
  reaped_back : (id : ℕ) (fate : Fate) → reply.Reaped id fate ≡ (step w (Asked ask.Reap)).reply →
      IsReaped w id fate (record (bodies id) { fate = fate })
  reaped_back id fate e =
      let a = stands.parts.others.notes id (reaped_known w stands.reached id fate (sym e)) in
      record { id_is = a.id; fate_is = refl; note_is = a.note }

  pub back_is : (job : Job) (answered : ReplyNote) → answered ≡ (step w (note_of job)).reply →
      IsBack w job answered (frame_given_back bodies job answered)
  back_is (Give f) reply.Joined e = refl
  back_is (Give f) (reply.Left dropped) e = refl
  back_is (Give f) reply.Set e = refl
  back_is (Give f) (reply.Now now) e = refl
  back_is (Give f) (reply.Accepted id dropped) e = refl
  back_is (Give f) (reply.Send exchange station tid air part more eosp) e = refl
  back_is (Give f) (reply.Released ids) e = refl
  back_is (Give f) (reply.Ba start b0 b1 b2 b3 wide) e = refl
  back_is (Give f) (reply.Done acked waiting failed) e = refl
  back_is (Give f) reply.Slept e = refl
  back_is (Give f) reply.Woken e = refl
  back_is (Give f) reply.Stopped e = refl
  back_is (Give f) reply.Started e = refl
  back_is (Give f) reply.Marked e = refl
  back_is (Give f) (reply.Flushed dropped) e = refl
  back_is (Give f) reply.Ack e = refl
  back_is (Give f) (reply.Held start) e = refl
  back_is (Give f) reply.Begun e = refl
  back_is (Give f) reply.Freed e = refl
  back_is (Give f) (reply.Ceased dropped released) e = refl
  back_is (Give f) (reply.Group answer) e = refl
  back_is (Give f) (reply.Service answer) e = refl
  back_is (Give f) (reply.Polled class) e = refl
  back_is (Give f) (reply.Charged deficit) e = refl
  back_is (Give f) (reply.Reaped id fate) e = refl
  back_is (Give f) (reply.Refused reason) e = refl
  back_is (Call ask.Reap) reply.Joined e = refl
  back_is (Call ask.Reap) (reply.Left dropped) e = refl
  back_is (Call ask.Reap) reply.Set e = refl
  back_is (Call ask.Reap) (reply.Now now) e = refl
  back_is (Call ask.Reap) (reply.Accepted id dropped) e = refl
  back_is (Call ask.Reap) (reply.Send exchange station tid air part more eosp) e = refl
  back_is (Call ask.Reap) (reply.Released ids) e = refl
  back_is (Call ask.Reap) (reply.Ba start b0 b1 b2 b3 wide) e = refl
  back_is (Call ask.Reap) (reply.Done acked waiting failed) e = refl
  back_is (Call ask.Reap) reply.Slept e = refl
  back_is (Call ask.Reap) reply.Woken e = refl
  back_is (Call ask.Reap) reply.Stopped e = refl
  back_is (Call ask.Reap) reply.Started e = refl
  back_is (Call ask.Reap) reply.Marked e = refl
  back_is (Call ask.Reap) (reply.Flushed dropped) e = refl
  back_is (Call ask.Reap) reply.Ack e = refl
  back_is (Call ask.Reap) (reply.Held start) e = refl
  back_is (Call ask.Reap) reply.Begun e = refl
  back_is (Call ask.Reap) reply.Freed e = refl
  back_is (Call ask.Reap) (reply.Ceased dropped released) e = refl
  back_is (Call ask.Reap) (reply.Group answer) e = refl
  back_is (Call ask.Reap) (reply.Service answer) e = refl
  back_is (Call ask.Reap) (reply.Polled class) e = refl
  back_is (Call ask.Reap) (reply.Charged deficit) e = refl
  back_is (Call ask.Reap) (reply.Reaped id fate) e = reaped_back id fate e
  back_is (Call ask.Reap) (reply.Refused reason) e = refl
  back_is (Call (ask.Join s window start exponent weight)) answered e = refl
  back_is (Call (ask.Leave s)) answered e = refl
  back_is (Call (ask.Rate s rate)) answered e = refl
  back_is (Call (ask.Tick by)) answered e = refl
  back_is (Call (ask.Pull c l)) answered e = refl
  back_is (Call (ask.Arrive exchange index)) answered e = refl
  back_is (Call (ask.Answer exchange)) answered e = refl
  back_is (Call (ask.Done exchange heard air)) answered e = refl
  back_is (Call (ask.Sleep s)) answered e = refl
  back_is (Call (ask.Wake s)) answered e = refl
  back_is (Call (ask.Poll s)) answered e = refl
  back_is (Call (ask.Rx s c air)) answered e = refl
  back_is (Call (ask.Ampdu s octets)) answered e = refl
  back_is (Call (ask.Bss s b)) answered e = refl
  back_is (Call (ask.Stop s)) answered e = refl
  back_is (Call (ask.Start s)) answered e = refl
  back_is (Call (ask.Unsent exchange index)) answered e = refl
  back_is (Call (ask.GiveUp exchange index)) answered e = refl
  back_is (Call (ask.Flush s t)) answered e = refl
  back_is (Call (ask.Offload s exponent weight)) answered e = refl
  back_is (Call (ask.Weight s weight)) answered e = refl
  back_is (Call (ask.Plain s start exponent weight)) answered e = refl
  back_is (Call (ask.Hold s t)) answered e = refl
  back_is (Call (ask.Begin s t window)) answered e = refl
  back_is (Call (ask.Free s t)) answered e = refl
  back_is (Call (ask.Cease s t)) answered e = refl
  back_is (Call (ask.Group asked)) answered e = refl
  back_is (Call (ask.Service asked)) answered e = refl

-- an answer is right if its reply is the run's and the returned frame is the path's
pub is_right : (v : TransmitValue) (p : Past) (bodies : ℕ → FrameValue) (job : Job) (answered : ReplyNote)
    (back : Option FrameValue) → StandsFor v (world_of p) bodies →
    answered ≡ (step (world_of p) (note_of job)).reply → back ≡ frame_given_back bodies job answered →
    IsRight p.config p.history job answered back
is_right v p bodies job answered back stands replied given = record {
  reply = replied;
  back_is = subst (IsBack (world_of p) job answered) (sym given)
      (back_is v (world_of p) bodies stands job answered replied);
}
