-- Proves the effect of a Begin and of a Cease on an engine, from the effect on its path and its receive
-- halves.
use Rattle.std.proofs.Common.{◌≡◌, refl, ap, sym, ◌∙◌, subst, ℕ, ◌<◌, List, true, None, length}
use Rattle.wf_frame.specs.Answers.{reply_with}
use Rattle.wf_frame.specs.Frames.{FrameValue}
use Rattle.wf_frame.specs.declared.answers.Brief.{Brief}
use Rattle.wf_frame.specs.declared.answers.Brief.TheVariants as brief
use Rattle.wf_frame.specs.declared.notes.Ask.TheVariants.{Begin, Cease}
use Rattle.wf_frame.specs.declared.notes.Note.TheVariants.{Asked}
use Rattle.wf_frame.specs.declared.notes.ReplyNote.{ReplyNote}
use Rattle.wf_frame.specs.declared.notes.ReplyNote.TheVariants as reply
use Rattle.wf_def_world.specs.World.{World, is_live}
use Rattle.wf_def_world.specs.Refusals.{refusal}
use Rattle.wf_def_world.specs.Step.{plain_window, begin_outcome, cease_outcome, outcome_of, step}
use Rattle.wf_recv_peer.specs.Agreements.{PeerValue, new_agreement, with_agreement}
use Rattle.wf_recv_peer.specs.Buffer.{request_outcome as buffer_requested}
use Rattle.wf_send_half.specs.Half.{IsLive}
use Rattle.wf_send_half_model.specs.Flushing.{released_at_cease}
use Rattle.wf_send_half_model.specs.Half.{TransmitValue}
use Rattle.wf_send_half_model.specs.Standing.{StandsFor, Meets as PathMeets}
use Rattle.wf_send_half_model.proofs.Readers.{live_same}
use Rattle.wf_path.specs.declared.job.Job.TheVariants.{Call}
use Rattle.wf_path.specs.Jobs.{with_released}
use Rattle.wf_path.specs.Transmissions.{start_on_air}
use Rattle.wf_cell_model.specs.Arriving.{peer_requested}
use Rattle.wf_cell_model.specs.Catching.{peers_renewed}
use Rattle.wf_cell_model.specs.Hearing.{Hears, with_peer, peer_of, agreement_of}
use Rattle.wf_cell_model.proofs.Renewing.{begun_hears, begun_live, ceased_hears, ceased_up, cease_live, renewed_moved}
use Rattle.wf_cell.specs.Engines.{EngineValue, EngineIsIn, EngineMeets}
use Rattle.wf_cell.proofs.Calls.{IsRefused, not_refused, refused_else, done_reply}

-- ---- an agreement begins

module _ (w : World) (s t window : ℕ) where
  begun_reply : refusal w (Asked (Begin s t window)) ≡ None →
      (step w (Asked (Begin s t window))).reply ≡ reply.Begun
  unfolding outcome_of begin_outcome
  begun_reply = done_reply w (Asked (Begin s t window))

  pub is_begun : (step w (Asked (Begin s t window))).reply ≡ reply.Begun →
      refusal w (Asked (Begin s t window)) ≡ None
  is_begun e = not_refused w (Asked (Begin s t window))
      (λ r other. let two : reply.Begun ≡ reply.Refused r = sym e ∙ other in cc)

  pub not_begun : ((step w (Asked (Begin s t window))).reply ≡ reply.Begun → ⊥) →
      IsRefused w (Asked (Begin s t window))
  not_begun other = refused_else w (Asked (Begin s t window)) (λ e. other (begun_reply e))

pub begun_brief : (b : Brief) (pairs : List (ℕ × ℕ)) (ids : List ℕ) → reply_with b pairs ids ≡ reply.Begun →
    b ≡ brief.Begun
begun_brief brief.Begun pairs ids e = refl
begun_brief _ pairs ids e = cc

-- the station is live in the half afterwards
live_in_half : (v : TransmitValue) (w : World) (bodies : ℕ → FrameValue) (s : ℕ) → StandsFor v w bodies →
    is_live w s ≡ true → IsLive v s
live_in_half v w bodies s stands live = live_same v w bodies s stands.parts ∙ live

-- the path after an agreement began
module _ (v : EngineValue) (after : TransmitValue) (answered : ReplyNote) (w : World)
    (bodies : ℕ → FrameValue) (s t window : ℕ) (i : EngineIsIn v w bodies)
    (m : PathMeets w bodies (Asked (Begin s t window)) after answered)
    (done : refusal w (Asked (Begin s t window)) ≡ None) where
  pub begun_is_live : IsLive after s
  begun_is_live = live_in_half after (step w (Asked (Begin s t window))).world bodies s m.stands
      (begun_live w s t window done)

  pub begun_meets : (start : ℕ) → start ≡ start_on_air (step w (Asked (Begin s t window))).world s t →
      EngineMeets w bodies (Asked (Begin s t window)) (record v {
        half = after;
        peers = with_peer s (with_agreement t (new_agreement start window) (peer_of v.peers s)) v.peers;
      }) answered
  begun_meets start is = record {
    is_in = record {
      half = m.stands;
      hears = subst (λ (k : ℕ). Hears (with_peer s (with_agreement t (new_agreement k window)
          (peer_of v.peers s)) v.peers) v.marks (step w (Asked (Begin s t window))).world) (sym is)
          (begun_hears v.peers v.marks w s t window i.half.reached i.hears done);
    };
    reply = m.reply;
  }

-- ---- an agreement ends

-- the reply of a Cease
pub record IsCeased (answered : ReplyNote) : Type 0 where
  pub dropped : ℕ
  pub ids : List ℕ
  pub is : answered ≡ reply.Ceased dropped ids

module _ (w : World) (s t : ℕ) where
  ceased_reply : refusal w (Asked (Cease s t)) ≡ None → IsCeased (step w (Asked (Cease s t))).reply
  unfolding outcome_of cease_outcome
  ceased_reply e = subst IsCeased (sym (done_reply w (Asked (Cease s t)) e))
      (record { dropped = _; ids = _; is = refl })

  pub is_ceased : IsCeased (step w (Asked (Cease s t))).reply → refusal w (Asked (Cease s t)) ≡ None
  is_ceased f = not_refused w (Asked (Cease s t))
      (λ r other. let two : reply.Ceased f.dropped f.ids ≡ reply.Refused r = sym f.is ∙ other in cc)

  pub not_ceased : (IsCeased (step w (Asked (Cease s t))).reply → ⊥) → IsRefused w (Asked (Cease s t))
  not_ceased other = refused_else w (Asked (Cease s t)) (λ e. other (ceased_reply e))

-- a brief whose reply belongs to a Cease, with any ids
pub ceased_brief : (b : Brief) (pairs : List (ℕ × ℕ)) (ids : List ℕ) (w : World) (s t : ℕ) →
    IsCeased (with_released w (Call (Cease s t)) (reply_with b pairs ids)) →
    ((dropped : ℕ) → b ≡ brief.Ceased dropped → ⊥) → ⊥
ceased_brief (brief.Ceased dropped) pairs ids w s t f other = other dropped refl
ceased_brief _ pairs ids w s t f other = cc (f.is)

-- a brief that is not that of a Cease has the machine's reply
pub not_released : (b : Brief) (pairs : List (ℕ × ℕ)) (ids : List ℕ) (w : World) (s t : ℕ) →
    ((dropped : ℕ) → b ≡ brief.Ceased dropped → ⊥) →
    with_released w (Call (Cease s t)) (reply_with b pairs ids) ≡ reply_with b pairs ids
not_released (brief.Ceased dropped) pairs ids w s t other = absurd (other dropped refl)
not_released _ pairs ids w s t other = refl

module _ (v : EngineValue) (after : TransmitValue) (b : Brief) (pairs : List (ℕ × ℕ)) (ids : List ℕ)
    (w : World) (bodies : ℕ → FrameValue) (s t dropped : ℕ) (i : EngineIsIn v w bodies)
    (m : PathMeets w bodies (Asked (Cease s t)) after
    (with_released w (Call (Cease s t)) (reply_with b pairs ids)))
    (is : b ≡ brief.Ceased dropped) where
  ceased_says : (step w (Asked (Cease s t))).reply ≡ reply.Ceased dropped (released_at_cease w s t)
  ceased_says = sym m.reply
      ∙ ap (λ (k : Brief). with_released w (Call (Cease s t)) (reply_with k pairs ids)) is

  pub ceased_done : refusal w (Asked (Cease s t)) ≡ None
  ceased_done = is_ceased w s t
      (record { dropped = dropped; ids = released_at_cease w s t; is = ceased_says })

  pub ceased_is_live : IsLive after s
  ceased_is_live = live_in_half after (step w (Asked (Cease s t))).world bodies s m.stands
      (cease_live w s t ceased_done)

  -- the window of the receive half moved to this start, which passed up these ids, and the TID began again
  pub ceased_meets : (start : ℕ) (up : List ℕ) →
      start ≡ start_on_air (step w (Asked (Cease s t))).world s t →
      up ≡ (buffer_requested start (agreement_of v.peers s t).buffer).up → s < length v.peers →
      (peers : List PeerValue) → peers ≡ with_peer s (with_agreement t (new_agreement start plain_window)
      (peer_of (with_peer s (peer_requested t start (peer_of v.peers s)) v.peers) s))
      (with_peer s (peer_requested t start (peer_of v.peers s)) v.peers) →
      EngineMeets w bodies (Asked (Cease s t)) (record v { half = after; peers = peers })
      (reply_with b pairs up)
  ceased_meets start up at_start passed low peers are =
      let u : World = (step w (Asked (Cease s t))).world in
      let same : peers ≡ peers_renewed u s t plain_window v.peers =
      are ∙ renewed_moved v.peers s t start (new_agreement start plain_window) low
      ∙ ap (λ (k : ℕ). with_peer s (with_agreement t (new_agreement k plain_window) (peer_of v.peers s))
      v.peers) at_start in
      let released : up ≡ released_at_cease w s t =
      passed ∙ ap (λ (k : ℕ). (buffer_requested k (agreement_of v.peers s t).buffer).up) at_start
      ∙ ceased_up v.peers v.marks w s t i.half.reached i.hears ceased_done in
      record {
        is_in = record {
          half = m.stands;
          hears = subst (λ (ps : List PeerValue). Hears ps v.marks u) (sym same)
              (ceased_hears v.peers v.marks w s t i.half.reached i.hears ceased_done);
        };
        reply = ap (λ (k : Brief). reply_with k pairs up) is
            ∙ ap (λ (xs : List ℕ). reply.Ceased dropped xs) released ∙ sym ceased_says;
      }
