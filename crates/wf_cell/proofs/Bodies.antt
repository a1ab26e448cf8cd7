-- Proves which bodies a transmit half has after a call. By cases of the job and of its reply.
use Rattle.std.proofs.Common.{◌≡◌, refl, ap, sym, ◌∙◌, subst, ℕ, ◌==◌, Bool, true, false, if◌then◌else◌, List, map, Option, Some, None, IfSome, is_some}
use Rattle.wf_frame.specs.Frames.{FrameValue, sent_once_less}
use Rattle.wf_frame.specs.declared.classes.Fate.{Fate}
use Rattle.wf_frame.specs.declared.notes.Ask.{Ask}
use Rattle.wf_frame.specs.declared.notes.Ask.TheVariants as ask
use Rattle.wf_frame.specs.declared.notes.Note.TheVariants.{Asked}
use Rattle.wf_frame.specs.declared.notes.Part.TheVariants.{Mpdus, Batch, Plain}
use Rattle.wf_frame.specs.declared.notes.ReplyNote.{ReplyNote}
use Rattle.wf_frame.specs.declared.notes.ReplyNote.TheVariants as reply
use Rattle.wf_law_rules.proofs.Lemmas.Numbers.{on_bool}
use Rattle.wf_def_lists.specs.Table.{at, has}
use Rattle.wf_def_world.specs.World.{World, Exchange, Content, Frames, Request, exchange}
use Rattle.wf_def_world.specs.Exchanges.{no_mpdu}
use Rattle.wf_def_world.specs.Step.{step}
use Rattle.wf_send_parts.specs.Tally.{Counts}
use Rattle.wf_queue_flows_refines.specs.Frames.{with_body}
use Rattle.wf_send_half.specs.Enqueues.{as_accepted}
use Rattle.wf_send_half.specs.Marks.{bodies_unsent}
use Rattle.wf_send_half.specs.Replies.{bodies_sent}
use Rattle.wf_send_half_model.specs.Marking.{with_transmission_unsent}
use Rattle.wf_send_half_model.specs.Half.{TransmitValue, body_of}
use Rattle.wf_send_half_model.specs.Standing.{StandsFor}
use Rattle.wf_send_half_model.specs.Inside.{is_held_id, is_inside, inside_after, body_inside}
use Rattle.wf_send_half_model.proofs.Inside.{next_id, inside_reached}
use Rattle.wf_send_half_model.proofs.Frames.{bodies_are}
use Rattle.wf_send_parts.proofs.Sending.{all_sent_keep}
use Rattle.wf_path.specs.declared.job.Job.{Job}
use Rattle.wf_path.specs.declared.job.Job.TheVariants.{Give, Call}
use Rattle.wf_path.specs.Jobs.{bodies_after, frame_given_back, note_of}
use Rattle.wf_cell.specs.Bodies.{body_after}
use Rattle.wf_cell.proofs.Rights.{on_the_list}

-- a pull does not change the body of a frame that it sends
sent_body : (answered : ReplyNote) (bodies : ℕ → FrameValue) (id : ℕ) →
    (bodies_sent answered bodies id).body ≡ (bodies id).body
sent_body (reply.Send exchange station tid air (Mpdus pairs) more eosp) bodies id =
    all_sent_keep (λ (f : FrameValue). f.body) (λ f. refl) pairs bodies id
sent_body (reply.Send exchange station tid air (Plain pairs) more eosp) bodies id =
    all_sent_keep (λ (f : FrameValue). f.body) (λ f. refl) pairs bodies id
sent_body (reply.Send exchange station tid air (Batch ids) more eosp) bodies id =
    all_sent_keep (λ (f : FrameValue). f.body) (λ f. refl) (map (λ k. (k, 0)) ids) bodies id
sent_body _ bodies id = refl

-- nor does it change if the frame counts one transmission less
unsent_body : (c : Content) (i : ℕ) (bodies : ℕ → FrameValue) (id : ℕ) →
    (with_transmission_unsent c i bodies id).body ≡ (bodies id).body
unsent_body (Request start) i bodies id = refl
unsent_body (Frames ms) i bodies id = either_way (id == (at no_mpdu ms i).id) (bodies id)
  where
    either_way : (b : Bool) (f : FrameValue) → (if b then sent_once_less f else f).body ≡ f.body
    either_way true f = refl
    either_way false f = refl

marked_body : (o : Option Exchange) (i : ℕ) (answered : ReplyNote) (bodies : ℕ → FrameValue) (id : ℕ) →
    (bodies_unsent o i answered bodies id).body ≡ (bodies id).body
marked_body (Some x) i reply.Marked bodies id = unsent_body x.content i bodies id
marked_body _ i _ bodies id = refl

called_body : (v : TransmitValue) (w : World) (ask : Ask) (answered : ReplyNote) (bodies : ℕ → FrameValue)
    (id : ℕ) → (bodies_after v w (Call ask) answered bodies id).body ≡ (bodies id).body
called_body v w (ask.Pull class limits) answered bodies id = sent_body answered bodies id
called_body v w (ask.Unsent e i) answered bodies id = marked_body (exchange w e) i answered bodies id
called_body v w _ answered bodies id = refl

module _ (v : TransmitValue) (w : World) (bodies : ℕ → FrameValue) (stands : StandsFor v w bodies) where
  -- an id whose body is unchanged
  stays : (id : ℕ) → body_inside w bodies id ≡ body_of v id
  stays id = sym (bodies_are v w bodies stands id)

  -- a new id gets the body of its frame
  comes : (f : FrameValue) (new id : ℕ) → new ≡ v.tally.accepted →
      (if (if id == new then true else is_inside w id) then Some (with_body bodies (as_accepted v f) id).body
      else None) ≡ (if id == new then Some f.body else body_of v id)
  comes f new id next =
      subst (λ k. (if (if id == k then true else is_inside w id)
      then Some (with_body bodies (as_accepted v f) id).body else None)
      ≡ (if id == k then Some f.body else body_of v id)) (sym next) (of (id == v.tally.accepted) refl)
    where
      of : (b : Bool) → (id == v.tally.accepted) ≡ b →
          (if (if id == v.tally.accepted then true else is_inside w id)
          then Some (if id == v.tally.accepted then as_accepted v f else bodies id).body else None)
          ≡ (if id == v.tally.accepted then Some f.body else body_of v id)
      of true e = subst (λ b. (if (if b then true else is_inside w id)
          then Some (if b then as_accepted v f else bodies id).body else None)
          ≡ (if b then Some f.body else body_of v id)) (sym e) refl
      of false e = subst (λ b. (if (if b then true else is_inside w id)
          then Some (if b then as_accepted v f else bodies id).body else None)
          ≡ (if b then Some f.body else body_of v id)) (sym e) (stays id)

  -- a reaped id loses its body
  goes : (gone id : ℕ) → (if (if id == gone then false else is_inside w id) then Some (bodies id).body
      else None) ≡ (if id == gone then None else body_of v id)
  goes gone id = of (id == gone)
    where
      of : (b : Bool) → (if (if b then false else is_inside w id) then Some (bodies id).body else None)
          ≡ (if b then None else body_of v id)
      of true = refl
      of false = stays id

  -- the bodies after a call without a frame
  by_call : (ask : Ask) (answered : ReplyNote) (id : ℕ) →
      (if inside_after w answered (Asked ask) id then Some (bodies id).body else None)
      ≡ body_after v answered (Call ask) id
  by_call ask reply.Joined id = stays id
  by_call ask (reply.Left dropped) id = stays id
  by_call ask reply.Set id = stays id
  by_call ask (reply.Now now) id = stays id
  by_call ask (reply.Accepted new dropped) id = stays id
  by_call ask (reply.Send exchange station tid air part more eosp) id = stays id
  by_call ask (reply.Released ids) id = stays id
  by_call ask (reply.Ba start b0 b1 b2 b3 wide) id = stays id
  by_call ask (reply.Done acked waiting failed) id = stays id
  by_call ask reply.Slept id = stays id
  by_call ask reply.Woken id = stays id
  by_call ask reply.Stopped id = stays id
  by_call ask reply.Started id = stays id
  by_call ask reply.Marked id = stays id
  by_call ask (reply.Flushed dropped) id = stays id
  by_call ask reply.Ack id = stays id
  by_call ask (reply.Held start) id = stays id
  by_call ask reply.Begun id = stays id
  by_call ask reply.Freed id = stays id
  by_call ask (reply.Ceased dropped released) id = stays id
  by_call ask (reply.Group answer) id = stays id
  by_call ask (reply.Service answer) id = stays id
  by_call ask (reply.Polled class) id = stays id
  by_call ask (reply.Charged deficit) id = stays id
  by_call ask (reply.Reaped gone fate) id = goes gone id
  by_call ask (reply.Refused reason) id = stays id

  by_reply : (job : Job) (answered : ReplyNote) (id : ℕ) →
      ((f : FrameValue) (new : ℕ) (dropped : Option ℕ) → job ≡ Give f →
      answered ≡ reply.Accepted new dropped → new ≡ v.tally.accepted) →
      (if inside_after w answered (note_of job) id then Some (bodies_after v w job answered bodies id).body
      else None) ≡ body_after v answered job id
  by_reply (Give f) reply.Joined id next = stays id
  by_reply (Give f) (reply.Left dropped) id next = stays id
  by_reply (Give f) reply.Set id next = stays id
  by_reply (Give f) (reply.Now now) id next = stays id
  by_reply (Give f) (reply.Accepted new dropped) id next = comes f new id (next f new dropped refl refl)
  by_reply (Give f) (reply.Send exchange station tid air part more eosp) id next = stays id
  by_reply (Give f) (reply.Released ids) id next = stays id
  by_reply (Give f) (reply.Ba start b0 b1 b2 b3 wide) id next = stays id
  by_reply (Give f) (reply.Done acked waiting failed) id next = stays id
  by_reply (Give f) reply.Slept id next = stays id
  by_reply (Give f) reply.Woken id next = stays id
  by_reply (Give f) reply.Stopped id next = stays id
  by_reply (Give f) reply.Started id next = stays id
  by_reply (Give f) reply.Marked id next = stays id
  by_reply (Give f) (reply.Flushed dropped) id next = stays id
  by_reply (Give f) reply.Ack id next = stays id
  by_reply (Give f) (reply.Held start) id next = stays id
  by_reply (Give f) reply.Begun id next = stays id
  by_reply (Give f) reply.Freed id next = stays id
  by_reply (Give f) (reply.Ceased dropped released) id next = stays id
  by_reply (Give f) (reply.Group answer) id next = stays id
  by_reply (Give f) (reply.Service answer) id next = stays id
  by_reply (Give f) (reply.Polled class) id next = stays id
  by_reply (Give f) (reply.Charged deficit) id next = stays id
  by_reply (Give f) (reply.Reaped gone fate) id next = goes gone id
  by_reply (Give f) (reply.Refused reason) id next = stays id
  by_reply (Call ask) answered id next =
      ap (λ (l : List ℕ). if inside_after w answered (Asked ask) id then Some l else None)
      (called_body v w ask answered bodies id) ∙ by_call ask answered id

-- the body of each id after a call
pub bodies_then : (v u : TransmitValue) (w : World) (bodies : ℕ → FrameValue) (job : Job)
    (answered : ReplyNote) → StandsFor v w bodies → answered ≡ (step w (note_of job)).reply →
    StandsFor u (step w (note_of job)).world (bodies_after v w job answered bodies) →
    (id : ℕ) → body_of u id ≡ body_after v answered job id
bodies_then v u w bodies job answered stands told after id =
    let inside : is_inside (step w (note_of job)).world id ≡ inside_after w answered (note_of job) id =
    inside_reached w stands.reached (note_of job) id
    ∙ ap (λ (r : ReplyNote). inside_after w r (note_of job) id) (sym told) in
    bodies_are u (step w (note_of job)).world (bodies_after v w job answered bodies) after id
    ∙ ap (λ (b : Bool). if b then Some (bodies_after v w job answered bodies id).body else None) inside
    ∙ by_reply v w bodies stands job answered id
    (λ f new dropped is said. next_id w f.station f.tid f.flow _ new dropped
    (ap (λ (j : Job). (step w (note_of j)).reply) (sym is) ∙ sym told ∙ said)
    ∙ sym (ap (λ (c : Counts). c.accepted) stands.parts.others.tally))

-- the frame that a reap returns has the body of its id
pub reaped_body : (v : TransmitValue) (w : World) (bodies : ℕ → FrameValue) (job : Job) (answered : ReplyNote)
    (back : Option FrameValue) → StandsFor v w bodies → answered ≡ (step w (note_of job)).reply →
    back ≡ frame_given_back bodies job answered →
    (id : ℕ) (fate : Fate) → answered ≡ reply.Reaped id fate → IfSome back (λ f. body_of v id ≡ Some f.body)
reaped_body v w bodies job answered back stands told given id fate is =
    subst (λ (b : Option FrameValue). IfSome b (λ f. body_of v id ≡ Some f.body))
    (sym (given ∙ ap (frame_given_back bodies job) is)) (of job (sym (sym is ∙ told)))
  where
    had : (step w (Asked ask.Reap)).reply ≡ reply.Reaped id fate → body_of v id ≡ Some (bodies id).body
    had e =
        let there : has w.finished id ≡ true = on_the_list w id fate e in
        let inside : is_inside w id ≡ true = on_bool (is_held_id w id) (λ b. cc b) (λ b. cc (b, there)) in
        bodies_are v w bodies stands id ∙ ap (λ (b : Bool). if b then Some (bodies id).body else None) inside

    of : (j : Job) → (step w (note_of j)).reply ≡ reply.Reaped id fate →
        IfSome (frame_given_back bodies j (reply.Reaped id fate)) (λ f. body_of v id ≡ Some f.body)
    of (Give f) e = tt
    of (Call ask.Reap) e = had e
    of (Call (ask.Join s window start exponent weight)) e = tt
    of (Call (ask.Leave s)) e = tt
    of (Call (ask.Rate s rate)) e = tt
    of (Call (ask.Tick by)) e = tt
    of (Call (ask.Pull c l)) e = tt
    of (Call (ask.Arrive exchange index)) e = tt
    of (Call (ask.Answer exchange)) e = tt
    of (Call (ask.Done exchange heard air)) e = tt
    of (Call (ask.Sleep s)) e = tt
    of (Call (ask.Wake s)) e = tt
    of (Call (ask.Poll s)) e = tt
    of (Call (ask.Rx s c air)) e = tt
    of (Call (ask.Ampdu s octets)) e = tt
    of (Call (ask.Stop s)) e = tt
    of (Call (ask.Start s)) e = tt
    of (Call (ask.Unsent exchange index)) e = tt
    of (Call (ask.GiveUp exchange index)) e = tt
    of (Call (ask.Flush s t)) e = tt
    of (Call (ask.Offload s exponent weight)) e = tt
    of (Call (ask.Weight s weight)) e = tt
    of (Call (ask.Plain s start exponent weight)) e = tt
    of (Call (ask.Hold s t)) e = tt
    of (Call (ask.Begin s t window)) e = tt
    of (Call (ask.Free s t)) e = tt
    of (Call (ask.Cease s t)) e = tt
    of (Call (ask.Group asked)) e = tt
    of (Call (ask.Service asked)) e = tt
    of (Call (ask.Bss s b)) e = tt

-- an id has a body exactly if its frame is inside
pub ids_inside : (v : TransmitValue) (w : World) (bodies : ℕ → FrameValue) → StandsFor v w bodies → (id : ℕ) →
    is_some (body_of v id) ≡ is_inside w id
ids_inside v w bodies stands id = ap is_some (bodies_are v w bodies stands id) ∙ of (is_inside w id)
  where
    of : (b : Bool) → is_some (if b then Some (bodies id).body else None) ≡ b
    of true = refl
    of false = refl
