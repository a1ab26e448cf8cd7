-- Proves a whole receive charge: the half with its changes represents the world after the step, and the reply
-- is the step's. The charge lowers the standing of its station, which is listed in the class if it is a
-- debtor now.
use Rattle.std.proofs.Common.{◌≡◌, refl, ap, sym, ◌∙◌, subst, ℕ, ◌<◌, pos, ◌+ℤ◌, ◌-ℤ◌, Bool, true, false, not, None}
use Rattle.wf_frame.specs.declared.classes.Class.{Class}
use Rattle.wf_frame.specs.declared.notes.Note.TheVariants.{Asked}
use Rattle.wf_frame.specs.declared.notes.Ask.TheVariants.{Rx}
use Rattle.wf_frame.specs.declared.notes.ReplyNote.{ReplyNote}
use Rattle.wf_frame.specs.declared.notes.ReplyNote.TheVariants.{Charged}
use Rattle.wf_frame.specs.Frames.{FrameValue}
use Rattle.wf_def_world.specs.World.{World, is_live}
use Rattle.wf_def_world.specs.Refusals.{refusal, refusals}
use Rattle.wf_def_world.specs.Step.{outcome_of, rx_outcome}
use Rattle.wf_law_runs.proofs.Deficits.KeptStep.{NoRow, no_row}
use Rattle.wf_sched.specs.ClassRotas.{deficit}
use Rattle.wf_sched_refines.specs.Standing.{with_deficit_charged as with_turns_charged}
use Rattle.wf_sched_refines.proofs.Charges.{receive_reply}
use Rattle.wf_send_parts.specs.Members.{on_member, with_receipt}
use Rattle.wf_send_half_model.specs.Half.{TransmitValue, pending_air_of}
use Rattle.wf_send_half_model.specs.Standing.{StandsFor, Meets}
use Rattle.wf_send_half_model.specs.Changes.{after_listing_in}
use Rattle.wf_send_half_model.proofs.Calls.{rx_parts}
use Rattle.wf_send_half_model.proofs.Meets.{listed_in_meets}
use Rattle.wf_send_half_model.proofs.OneClass.{rx_listed}
use Rattle.wf_send_half_model.proofs.Readers.{pending_same}
use Rattle.wf_send_half_model.proofs.Whole.{below}

live_of : (b : Bool) → not b ≡ false → b ≡ true
live_of true e = refl
live_of false e = absurd (cc e)

-- the half with the station charged, before it is listed
abbrev pub after_receipt : TransmitValue → ℕ → Class → ℕ → TransmitValue
after_receipt v s c air = record v {
  sched = with_turns_charged v.sched s c air;
  members = on_member v.members s (with_receipt c air);
}

module _ (v : TransmitValue) (w : World) (bodies : ℕ → FrameValue) (h : StandsFor v w bodies) (s : ℕ)
    (c : Class) (air : ℕ) where
  receipt_reply : is_live w s ≡ true →
      (rx_outcome w s c air).reply ≡ Charged ((deficit v.sched c s +ℤ pos (pending_air_of v s c)) -ℤ pos air)
  receipt_reply live =
      receive_reply v.sched w s c air h.parts.others.turns live
      ∙ ap (λ (n : ℕ). Charged ((deficit v.sched c s +ℤ pos n) -ℤ pos air))
      (sym (pending_same v w bodies s c h.parts))

  charged : refusal w (Asked (Rx s c air)) ≡ None → s < w.config.stations → is_live w s ≡ true →
      Meets w bodies (Asked (Rx s c air)) (after_listing_in (after_receipt v s c air) s c)
      (Charged ((deficit v.sched c s +ℤ pos (pending_air_of v s c)) -ℤ pos air))
  unfolding outcome_of
  charged done low live =
      subst (λ (z : ReplyNote). Meets w bodies (Asked (Rx s c air))
      (after_listing_in (after_receipt v s c air) s c) z)
      (receipt_reply live)
      (listed_in_meets (after_receipt v s c air) w bodies (Asked (Rx s c air)) h.reached tt tt done
      (rx_parts v w bodies s low h.parts c air) s c refl (rx_listed w s c air h.reached))

  pub rx_meets : refusal w (Asked (Rx s c air)) ≡ None →
      Meets w bodies (Asked (Rx s c air)) (after_listing_in (after_receipt v s c air) s c)
      (Charged ((deficit v.sched c s +ℤ pos (pending_air_of v s c)) -ℤ pos air))
  rx_meets done =
      let rows : NoRow (refusals w (Asked (Rx s c air))) = no_row (refusals w (Asked (Rx s c air))) done in
      charged done (below w s rows.0) (live_of (is_live w s) rows.1.1.0)
