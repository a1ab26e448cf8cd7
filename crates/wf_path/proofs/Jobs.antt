-- Proves for each call of a path which frame it returns, and that it leaves an unheard world unheard. By
-- cases of the call.
use Rattle.std.proofs.Common.{◌≡◌, refl, subst, sym, ℕ, List, Option, None}
use Rattle.wf_frame.specs.Answers.{reply_with}
use Rattle.wf_frame.specs.Frames.{FrameValue}
use Rattle.wf_frame.specs.declared.answers.Brief.{Brief}
use Rattle.wf_frame.specs.declared.notes.Ask.{Ask}
use Rattle.wf_frame.specs.declared.notes.Note.TheVariants.{Asked}
use Rattle.wf_frame.specs.declared.notes.ReplyNote.{ReplyNote}
use Rattle.wf_def_world.specs.World.{World}
use Rattle.wf_def_world.specs.Step.{step}
use Rattle.wf_law_driver.specs.Unheard.{IsSilent, IsUnheard}
use Rattle.wf_send_half_model.specs.Half.{TransmitValue}
use Rattle.wf_send_half_model.specs.Standing.{StandsFor, Meets}
use Rattle.wf_path.specs.Jobs.{as_ask, job_of, note_of, MayCall, bodies_after, frame_given_back, with_released}
use Rattle.wf_path.specs.declared.asks.PathAsk.{PathAsk}
use Rattle.wf_path.specs.declared.asks.PathAsk.TheVariants.{Join, Leave, Rate, Tick, Sleep, Wake, Poll, Rx, Ampdu, Stop, Start, Unsent, GiveUp, Flush, Offload, Weight, Plain, Hold, Begin, Free, Cease, Group, Service, Bss}
use Rattle.wf_path.specs.declared.asks.PathJob.{PathJob}
use Rattle.wf_path.specs.declared.asks.PathJob.TheVariants as path
use Rattle.wf_path.specs.declared.job.Job.{Job}
use Rattle.wf_path.specs.declared.job.Job.TheVariants.{Call}
use Rattle.wf_send_half.proofs.Kept.{silent_at}

-- an ask returns no frame
none_for : (bodies : ℕ → FrameValue) (ask : PathAsk) (reply : ReplyNote) →
    ◌≡◌ {A = Option FrameValue} None (frame_given_back bodies (Call (as_ask ask)) reply)
none_for bodies (Join s window start exponent weight) reply = refl
none_for bodies (Leave s) reply = refl
none_for bodies (Rate s rate) reply = refl
none_for bodies (Tick by) reply = refl
none_for bodies (Sleep s) reply = refl
none_for bodies (Wake s) reply = refl
none_for bodies (Poll s) reply = refl
none_for bodies (Rx s c air) reply = refl
none_for bodies (Ampdu s octets) reply = refl
none_for bodies (Stop s) reply = refl
none_for bodies (Start s) reply = refl
none_for bodies (Unsent e i) reply = refl
none_for bodies (GiveUp e i) reply = refl
none_for bodies (Flush s t) reply = refl
none_for bodies (Offload s exponent weight) reply = refl
none_for bodies (Weight s weight) reply = refl
none_for bodies (Plain s start exponent weight) reply = refl
none_for bodies (Hold s t) reply = refl
none_for bodies (Begin s t window) reply = refl
none_for bodies (Free s t) reply = refl
none_for bodies (Cease s t) reply = refl
none_for bodies (Group ask) reply = refl
none_for bodies (Service ask) reply = refl
none_for bodies (Bss s b) reply = refl

pub none_back : (bodies : ℕ → FrameValue) (job : PathJob) (ask : PathAsk) → job ≡ path.Call ask →
    (reply : ReplyNote) → ◌≡◌ {A = Option FrameValue} None (frame_given_back bodies (job_of job) reply)
none_back bodies job ask is reply = subst
    (λ (j : PathJob). ◌≡◌ {A = Option FrameValue} None (frame_given_back bodies (job_of j) reply)) (sym is)
    (none_for bodies ask reply)

pub asked_meets : (v u : TransmitValue) (job : PathJob) (ask : Ask) → job_of job ≡ Call ask →
    (b : Brief) (pairs : List (ℕ × ℕ)) (ids : List ℕ) (w : World) (bodies : ℕ → FrameValue) →
    (MayCall w (Call ask) → Meets w (bodies_after v w (Call ask) (reply_with b pairs ids) bodies) (Asked ask)
    u
    (with_released w (Call ask) (reply_with b pairs ids))) →
    MayCall w (job_of job) →
    Meets w (bodies_after v w (job_of job) (reply_with b pairs ids) bodies) (note_of (job_of job)) u
    (with_released w (job_of job) (reply_with b pairs ids))
asked_meets v u job ask same b pairs ids w bodies m =
    subst (λ (j : Job). MayCall w j → Meets w (bodies_after v w j (reply_with b pairs ids) bodies)
    (note_of j) u
    (with_released w j (reply_with b pairs ids))) (sym same) m

-- ---- no call is about a receiver

silent_ask : (ask : PathAsk) → IsSilent (Asked (as_ask ask))
silent_ask (Join s window start exponent weight) = tt
silent_ask (Leave s) = tt
silent_ask (Rate s rate) = tt
silent_ask (Tick by) = tt
silent_ask (Sleep s) = tt
silent_ask (Wake s) = tt
silent_ask (Poll s) = tt
silent_ask (Rx s c air) = tt
silent_ask (Ampdu s octets) = tt
silent_ask (Stop s) = tt
silent_ask (Start s) = tt
silent_ask (Unsent e i) = tt
silent_ask (GiveUp e i) = tt
silent_ask (Flush s t) = tt
silent_ask (Offload s exponent weight) = tt
silent_ask (Weight s weight) = tt
silent_ask (Plain s start exponent weight) = tt
silent_ask (Hold s t) = tt
silent_ask (Begin s t window) = tt
silent_ask (Free s t) = tt
silent_ask (Cease s t) = tt
silent_ask (Group ask) = tt
silent_ask (Service ask) = tt
silent_ask (Bss s b) = tt

silent_job : (job : PathJob) → IsSilent (note_of (job_of job))
silent_job (path.Give f) = tt
silent_job (path.Pull c l) = tt
silent_job (path.Call ask) = silent_ask ask
silent_job path.Reap = tt

pub unheard_after : (v : TransmitValue) (job : PathJob) (w : World) (bodies : ℕ → FrameValue) →
    StandsFor v w bodies → IsUnheard w → IsUnheard (step w (note_of (job_of job))).world
unheard_after v job w bodies h = silent_at w (note_of (job_of job)) h.reached (silent_job job)
