-- Proves the clauses of an enqueue and of a reap from those of the half: the path after the call, its counts,
-- and the frame that is returned.
use Rattle.std.proofs.Common.{◌≡◌, refl, ap, sym, ◌∙◌, subst, ℕ, true, List, Option, Some, None}
use Rattle.std.specs.Prelude.{IfSome, IfNone}
use Rattle.wf_frame.specs.Answers.{reply_with}
use Rattle.wf_frame.specs.Frames.{FrameValue}
use Rattle.wf_frame.specs.declared.answers.Brief.{Brief}
use Rattle.wf_frame.specs.declared.notes.Ask.TheVariants.{Reap}
use Rattle.wf_frame.specs.declared.notes.Note.TheVariants.{Asked}
use Rattle.wf_frame.specs.declared.notes.Refusal.{Refusal}
use Rattle.wf_frame.specs.declared.notes.ReplyNote.{ReplyNote}
use Rattle.wf_frame.specs.declared.notes.ReplyNote.TheVariants.{Accepted, Refused}
use Rattle.wf_def_world.specs.World.{World}
use Rattle.wf_queue_flows_refines.specs.Frames.{with_body, IsBodySettled}
use Rattle.wf_send_half_model.specs.Half.{TransmitValue}
use Rattle.wf_send_half_model.specs.Standing.{StandsFor, Meets}
use Rattle.wf_send_half.specs.Enqueues.{enqueue_of, as_accepted}
use Rattle.wf_send_half.specs.Replies.{reaped_reply}
use Rattle.wf_path.specs.Addresses.{Addresses}
use Rattle.wf_path.specs.Jobs.{note_of, MayCall, bodies_after, frame_given_back, is_refused, with_released}
use Rattle.wf_path.specs.Paths.{PathValue, IsPath, RiseLittle}
use Rattle.wf_path.specs.declared.job.Job.{Job}
use Rattle.wf_path.specs.declared.job.Job.TheVariants.{Give, Call}
use Rattle.wf_path.proofs.Rises.{rises_by}
use Rattle.wf_path.proofs.Values.{half_is, with_half}

-- x is the half of the path p, a are its addresses, and u is the half after the call
module _ (x : TransmitValue) (h : IsPath x) (u : TransmitValue) (a : Addresses) (p : PathValue)
    (same : ◌≡◌ {A = PathValue} (record { half = x; addresses = a }) p) (job : Job) where
  -- the frame f is given
  module _ (f : FrameValue) (is : job ≡ Give f) where
    pub accepted_meets : (id : ℕ) (dropped : Option ℕ) → ((w : World) (bodies : ℕ → FrameValue) →
        StandsFor x w bodies →
        Meets w (with_body bodies (as_accepted x f)) (enqueue_of f) u (Accepted id dropped)) →
        (w : World) (bodies : ℕ → FrameValue) → StandsFor p.half w bodies → MayCall w job →
        Meets w (bodies_after p.half w job (Accepted id dropped) bodies) (note_of job) u
        (with_released w job (Accepted id dropped))
    accepted_meets id dropped meets w bodies st may =
        subst (λ (j : Job). Meets w (bodies_after p.half w j (Accepted id dropped) bodies) (note_of j) u
        (with_released w j (Accepted id dropped))) (sym is)
        (subst (λ (z : TransmitValue). StandsFor z w bodies →
        Meets w (with_body bodies (as_accepted z f)) (enqueue_of f) u (Accepted id dropped)) (half_is same)
        (meets w bodies) st)

    pub accepted_rises : (id : ℕ) (dropped : Option ℕ) → ((w : World) (bodies : ℕ → FrameValue) →
        StandsFor x w bodies →
        Meets w (with_body bodies (as_accepted x f)) (enqueue_of f) u (Accepted id dropped)) →
        RiseLittle p.half u
    accepted_rises id dropped meets = subst (λ (z : TransmitValue). RiseLittle z u) (half_is same)
        (rises_by x u h (with_body h.bodies (as_accepted x f)) (enqueue_of f) (Accepted id dropped)
        (meets h.world h.bodies h.stands))

    pub refused_meets : (r : Refusal) → ((w : World) (bodies : ℕ → FrameValue) → StandsFor x w bodies →
        Meets w bodies (enqueue_of f) u (Refused r)) →
        (w : World) (bodies : ℕ → FrameValue) → StandsFor p.half w bodies → MayCall w job →
        Meets w (bodies_after p.half w job (Refused r) bodies) (note_of job) u (with_released w job (Refused r))
    refused_meets r meets w bodies st may =
        subst (λ (j : Job). Meets w (bodies_after p.half w j (Refused r) bodies) (note_of j) u
        (with_released w j (Refused r)))
        (sym is) (meets w bodies (subst (λ (z : TransmitValue). StandsFor z w bodies) (sym (half_is same))
        st))

    pub accepted_back : (id : ℕ) (dropped : Option ℕ) (bodies : ℕ → FrameValue) →
        ◌≡◌ {A = Option FrameValue} None (frame_given_back bodies job (Accepted id dropped))
    accepted_back id dropped bodies = subst (λ (j : Job).
        ◌≡◌ {A = Option FrameValue} None (frame_given_back bodies j (Accepted id dropped))) (sym is) refl

    pub refused_back : (r : Refusal) (bodies : ℕ → FrameValue) (g : FrameValue) → g ≡ f →
        Some g ≡ frame_given_back bodies job (Refused r)
    refused_back r bodies g back = ap (λ (k : FrameValue). Some k) back
        ∙ subst (λ (j : Job). Some f ≡ frame_given_back bodies j (Refused r)) (sym is) refl

  -- a frame is reaped, or none
  module _ (is : job ≡ Call Reap) (reaped : Option FrameValue) (b : Brief)
      (says : (pairs : List (ℕ × ℕ)) (ids : List ℕ) → reply_with b pairs ids ≡ reaped_reply reaped)
      (meets : (w : World) (bodies : ℕ → FrameValue) → StandsFor x w bodies →
      Meets w bodies (Asked Reap) u (reaped_reply reaped)) (pairs : List (ℕ × ℕ)) (ids : List ℕ) where
    before : (w : World) (bodies : ℕ → FrameValue) → StandsFor p.half w bodies → StandsFor x w bodies
    before w bodies st = subst (λ (z : TransmitValue). StandsFor z w bodies) (sym (half_is same)) st

    pub reaped_meets : (w : World) (bodies : ℕ → FrameValue) → StandsFor p.half w bodies → MayCall w job →
        Meets w (bodies_after p.half w job (reply_with b pairs ids) bodies) (note_of job) u
        (with_released w job (reply_with b pairs ids))
    reaped_meets w bodies st may =
        subst (λ (j : Job). Meets w (bodies_after p.half w j (reply_with b pairs ids) bodies) (note_of j) u
        (with_released w j (reply_with b pairs ids))) (sym is)
        (subst (λ (z : ReplyNote). Meets w bodies (Asked Reap) u z) (sym (says pairs ids))
        (meets w bodies (before w bodies st)))

    pub reaped_rises : RiseLittle p.half u
    reaped_rises = subst (λ (z : TransmitValue). RiseLittle z u) (half_is same)
        (rises_by x u h h.bodies (Asked Reap) (reaped_reply reaped) (meets h.world h.bodies h.stands))

    settled_back : (o : Option FrameValue) (w : World) (bodies : ℕ → FrameValue) → StandsFor x w bodies →
        IfSome o (λ f. (v : World) (z : ℕ → FrameValue) → StandsFor x v z → IsBodySettled z f) →
        o ≡ frame_given_back bodies (Call Reap) (reaped_reply o)
    settled_back None w bodies st settled = refl
    settled_back (Some f) w bodies st settled =
        ap (λ (k : FrameValue). Some (record k { fate = f.fate })) (settled w bodies st).0

    pub reaped_back : IfSome reaped (λ f. (w : World) (bodies : ℕ → FrameValue) → StandsFor x w bodies →
        IsBodySettled bodies f) → (w : World) (bodies : ℕ → FrameValue) → StandsFor p.half w bodies →
        reaped ≡ frame_given_back bodies job (reply_with b pairs ids)
    reaped_back settled w bodies st =
        settled_back reaped w bodies (before w bodies st) settled
        ∙ ap (frame_given_back bodies (Call Reap)) (sym (says pairs ids))
        ∙ subst (λ (j : Job). frame_given_back bodies (Call Reap) (reply_with b pairs ids)
        ≡ frame_given_back bodies j (reply_with b pairs ids)) (sym is) refl

    stays : (o : Option FrameValue) → IfNone o (u ≡ x) → is_refused (reaped_reply o) ≡ true → u ≡ x
    stays None none e = none
    stays (Some f) none e = absurd (cc e)

    pub reaped_refused : IfNone reaped (u ≡ x) → is_refused (reply_with b pairs ids) ≡ true →
        with_half a u ≡ p
    reaped_refused none e = ap (λ (z : TransmitValue). with_half a z)
        (stays reaped none (ap is_refused (sym (says pairs ids)) ∙ e)) ∙ same
