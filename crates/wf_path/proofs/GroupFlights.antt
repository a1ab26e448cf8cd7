-- Proves that after the pull of a group frame this frame is on the air as the answer says: with its id, its
-- number and its More Data bit.
use Rattle.std.proofs.Common.{◌≡◌, refl, ap, sym, ◌∙◌, subst, ℕ, ◌<◌, Bool, true, false, not, List, [], ◌∷◌, Option, Some, None}
use Rattle.std.proofs.lemmas.List.{get_or-set_same}
use Rattle.wf_frame.specs.Calls.{in_bss}
use Rattle.wf_frame.specs.Frames.{FrameValue}
use Rattle.wf_frame.specs.declared.notes.Ask.TheVariants.{Group}
use Rattle.wf_frame.specs.declared.notes.GroupAsk.{GroupAsk}
use Rattle.wf_frame.specs.declared.notes.GroupAsk.TheVariants.{Accept, Beacon, Pull, Done}
use Rattle.wf_frame.specs.declared.notes.GroupCall.{GroupCall}
use Rattle.wf_frame.specs.declared.notes.GroupReply.{GroupReply}
use Rattle.wf_frame.specs.declared.notes.Note.TheVariants.{Asked}
use Rattle.wf_frame.specs.declared.notes.Refusal.{Refusal}
use Rattle.wf_frame.specs.declared.notes.ReplyNote.TheVariants as reply
use Rattle.wf_frame.specs.declared.settings.Config.{Config}
use Rattle.wf_def_world.specs.Group.{may_go, group_answer}
use Rattle.wf_def_world.specs.World.{World, is_any_asleep}
use Rattle.wf_def_world.specs.Refusals.{refusal, refusals}
use Rattle.wf_def_world.specs.Step.{Outcome}
use Rattle.wf_law_runs.proofs.Windows.Opened.{NoRow, no_row}
use Rattle.wf_send_parts.specs.Group.{GroupValue, no_group_frames, group_state, group_value_after, with_flight}
use Rattle.wf_send_parts.specs.declared.group.GroupFrame.{GroupFrame}
use Rattle.wf_send_half.specs.Group.{everyone}
use Rattle.wf_send_half.specs.Replies.{reaped_reply}
use Rattle.wf_send_half_model.specs.Changes.{after_group_call}
use Rattle.wf_send_half_model.specs.Half.{TransmitValue, group_in, is_any_asleep_of}
use Rattle.wf_send_half_model.specs.Standing.{StandsFor, Meets}
use Rattle.wf_send_half_model.proofs.Groups.{any_asleep_same, bss_below, group_meets}
use Rattle.wf_send_half_model.proofs.Reached.{step_refused}
use Rattle.wf_path.specs.Group.{FliesAsSaid}
use Rattle.wf_path.specs.Paths.{IsPath}

-- the answer of a reap is about no group frame
pub reaped_flies : (g : GroupValue) (back : Option FrameValue) → FliesAsSaid g (reaped_reply back)
reaped_flies g None = tt
reaped_flies g (Some f) = tt

-- the first queued frame flies as the answer says, if it may go
first_flies : (config : Config) (sleeps : Bool) (g : GroupValue) (queued : List GroupFrame) →
    g.queued ≡ queued → may_go sleeps (group_state g) ≡ true →
    FliesAsSaid (with_flight sleeps g) (reply.Group (group_answer config sleeps Pull (group_state g)))
first_flies config sleeps g [] is may =
    absurd (let none : may_go sleeps (group_state g) ≡ false =
    ap (λ (xs : List GroupFrame). may_go sleeps (group_state (record g { queued = xs }))) is in
    cc (none, may))
first_flies config sleeps g (x ∷ xs) is may =
    subst (λ (ys : List GroupFrame). FliesAsSaid (with_flight sleeps (record g { queued = ys }))
    (reply.Group (group_answer config sleeps Pull (group_state (record g { queued = ys }))))) (sym is) refl

not_no : (b : Bool) → not b ≡ false → b ≡ true
not_no true h = refl
not_no false h = absurd (cc h)

module _ (v : TransmitValue) (w : World) (bodies : ℕ → FrameValue) (h : StandsFor v w bodies) (b : ℕ) where
  -- a pull that is not refused finds a frame that may go
  pull_may_go : refusal w (Asked (Group (in_bss b Pull))) ≡ None →
      may_go (is_any_asleep_of v b) (group_state (group_in v b)) ≡ true
  pull_may_go fine =
      let row : NoRow (refusals w (Asked (Group (in_bss b Pull)))) =
      no_row (refusals w (Asked (Group (in_bss b Pull)))) fine in
      ap (λ (t : Bool). may_go t (group_state (group_in v b))) (any_asleep_same v w bodies h.parts b)
      ∙ ap (may_go (is_any_asleep w b)) (h.parts.others.groups.each b) ∙ not_no _ row.1.1.0

  -- the group frames of the BSS after a call that is not refused
  abbrev next : GroupAsk → GroupValue
  next ask = group_value_after v.config (is_any_asleep_of v b) ask 0 everyone (group_in v b)

  next_is : (ask : GroupAsk) → refusal w (Asked (Group (in_bss b ask))) ≡ None →
      group_in (after_group_call v (in_bss b ask) 0 everyone) b ≡ next ask
  next_is ask fine = get_or-set_same v.groups b (next ask) (no_group_frames 0)
      (subst (λ (n : ℕ). b < n) (sym h.parts.others.groups.sized) (bss_below w (in_bss b ask) fine))

  answer_flies : (ask : GroupAsk) → refusal w (Asked (Group (in_bss b ask))) ≡ None → FliesAsSaid (next ask)
      (reply.Group (group_answer v.config (is_any_asleep_of v b) ask (group_state (group_in v b))))
  answer_flies (Accept len) fine = tt
  answer_flies Beacon fine = tt
  answer_flies Pull fine =
      first_flies v.config (is_any_asleep_of v b) (group_in v b) (group_in v b).queued refl (pull_may_go fine)
  answer_flies Done fine = tt

  answered_flies : (u : TransmitValue) (ask : GroupAsk) (answer : GroupReply) →
      Meets w bodies (Asked (Group (in_bss b ask))) u (reply.Group answer) → (r : Option Refusal) →
      refusal w (Asked (Group (in_bss b ask))) ≡ r →
      FliesAsSaid (group_in (after_group_call v (in_bss b ask) 0 everyone) b) (reply.Group answer)
  answered_flies u ask answer m (Some r) is =
      absurd (let no : reply.Group answer ≡ reply.Refused r =
      m.reply ∙ ap (λ (o : Outcome). o.reply) (step_refused w (Asked (Group (in_bss b ask))) r is) in cc no)
  answered_flies u ask answer m None is =
      subst (λ (g : GroupValue). FliesAsSaid g (reply.Group answer)) (sym (next_is ask is))
      (subst (FliesAsSaid (next ask))
      ((group_meets v w bodies h (in_bss b ask) 0 everyone is).reply ∙ sym m.reply) (answer_flies ask is))

-- for a path whose half is x, and u after the call
pub pulled_flight : (x u : TransmitValue) (h : IsPath x) (g : GroupCall) (answer : GroupReply) →
    Meets h.world h.bodies (Asked (Group g)) u (reply.Group answer) →
    u ≡ after_group_call x g 0 everyone → FliesAsSaid (group_in u g.bss) (reply.Group answer)
pulled_flight x u h g answer m changed =
    subst (λ (z : TransmitValue). FliesAsSaid (group_in z g.bss) (reply.Group answer)) (sym changed)
    (answered_flies x h.world h.bodies h.stands g.bss u g.ask answer m
    (refusal h.world (Asked (Group g))) refl)
