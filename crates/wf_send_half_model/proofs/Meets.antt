-- Proves that a call whose parts represent its outcome meets the step: the station that it concerns is
-- listed, and the half then represents the world after the step. By cases of which listing is needed.
use Rattle.std.proofs.Common.{◌≡◌, ap, sym, ◌∙◌, subst, ℕ, true, Option, Some, None}
use Rattle.wf_frame.specs.declared.notes.Note.{Note}
use Rattle.wf_frame.specs.declared.notes.Refusal.{Refusal}
use Rattle.wf_frame.specs.declared.notes.Refusal.TheVariants.{Idle}
use Rattle.wf_frame.specs.declared.notes.ReplyNote.TheVariants.{Refused}
use Rattle.wf_frame.specs.declared.classes.Class.{Class}
use Rattle.wf_frame.specs.Frames.{FrameValue}
use Rattle.wf_def_lists.specs.Lengths.{greatest_body}
use Rattle.wf_def_rotation.specs.Rotation.{has_key}
use Rattle.wf_def_world.specs.World.{World, rotation}
use Rattle.wf_def_world.specs.CanSend.{is_to_list, with_listings_of}
use Rattle.wf_def_world.specs.Refusals.{refusal}
use Rattle.wf_def_world.specs.Step.{Outcome, outcome_of, concerned_station, after_refusal, step}
use Rattle.wf_law_runs.specs.Queues.{HasLength, IsAtMost}
use Rattle.wf_send_half_model.specs.Half.{TransmitValue}
use Rattle.wf_send_half_model.specs.Standing.{Parts, IsReached, StandsFor, Meets}
use Rattle.wf_send_half_model.specs.Changes.{after_listing, after_listing_in}
use Rattle.wf_send_half_model.specs.Readiness.{IsListedBut}
use Rattle.wf_send_half_model.proofs.Reached.{reached_step, step_done, step_refused, nothing_changed}
use Rattle.wf_send_half_model.proofs.Listings.{listing_parts, nobody_new, one_listing}

-- the step leads to this world, with this reply
by_step : (v : TransmitValue) (w : World) (bodies : ℕ → FrameValue) (note : Note) (o : Outcome) →
    step w note ≡ o → Parts v o.world bodies → IsReached (step w note).world → Meets w bodies note v o.reply
by_step v w bodies note o e h r = record {
  stands = record { parts = subst (λ (x : Outcome). Parts v x.world bodies) (sym e) h; reached = r };
  reply = sym (ap (λ (x : Outcome). x.reply) e);
}

pub listed_none : (v : TransmitValue) (u : World) (bodies : ℕ → FrameValue) → Parts v u bodies →
    Parts v (with_listings_of u None) bodies
unfolding with_listings_of
listed_none v u bodies h = h

module _ (v : TransmitValue) (w : World) (bodies : ℕ → FrameValue) (note : Note) (r : IsReached w)
    (some : HasLength note) (most : IsAtMost greatest_body note) (done : refusal w note ≡ None)
    (h : Parts v (outcome_of w note).world bodies) where
  -- the station that the call concerns is listed in each class in which it belongs on a list
  pub listed_meets : (s : ℕ) → concerned_station w note ≡ Some s →
      Meets w bodies note (after_listing v s) (outcome_of w note).reply
  listed_meets s e = by_step (after_listing v s) w bodies note _ (step_done w note done)
      (subst (λ (o : Option ℕ). Parts (after_listing v s)
      (with_listings_of (outcome_of w note).world o) bodies) (sym e)
      (listing_parts v (outcome_of w note).world bodies s h)) (reached_step w note r some most)

  -- the station is listed in one class; each other class in which it belongs on a list lists it already
  pub listed_in_meets : (s : ℕ) (c : Class) → concerned_station w note ≡ Some s →
      IsListedBut (outcome_of w note).world s c →
      Meets w bodies note (after_listing_in v s c) (outcome_of w note).reply
  listed_in_meets s c e others =
      subst (λ (z : TransmitValue). Meets w bodies note z (outcome_of w note).reply)
      (one_listing v (outcome_of w note).world bodies s c h others) (listed_meets s e)

  -- the call concerns no station
  pub unlisted_meets : concerned_station w note ≡ None → Meets w bodies note v (outcome_of w note).reply
  unlisted_meets e = by_step v w bodies note _ (step_done w note done)
      (subst (λ (o : Option ℕ). Parts v (with_listings_of (outcome_of w note).world o) bodies) (sym e)
      (listed_none v (outcome_of w note).world bodies h)) (reached_step w note r some most)

  -- the station is already listed in each class in which it belongs on a list
  pub idle_meets : (s : ℕ) → concerned_station w note ≡ Some s →
      ((c : Class) → is_to_list (outcome_of w note).world c s ≡ true →
      has_key (rotation (outcome_of w note).world c) s ≡ true) →
      Meets w bodies note v (outcome_of w note).reply
  idle_meets s e all = by_step v w bodies note _ (step_done w note done)
      (subst (λ (o : Option ℕ). Parts v (with_listings_of (outcome_of w note).world o) bodies) (sym e)
      (subst (λ (u : World). Parts v u bodies) (sym (nobody_new (outcome_of w note).world s all)) h))
      (reached_step w note r some most)

-- a refusal
pub refused_meets : (v : TransmitValue) (w : World) (bodies : ℕ → FrameValue) (note : Note) (r : Refusal) →
    StandsFor v w bodies → refusal w note ≡ Some r → (r ≡ Idle → ⊥) → Meets w bodies note v (Refused r)
refused_meets v w bodies note r h e other =
    let same : after_refusal w note r ≡ w = nothing_changed w note r other in
    let world : (step w note).world ≡ w = ap (λ (o : Outcome). o.world) (step_refused w note r e) ∙ same in
    record {
      stands = subst (λ (u : World). StandsFor v u bodies) (sym world) h;
      reply = sym (ap (λ (o : Outcome). o.reply) (step_refused w note r e));
    }
