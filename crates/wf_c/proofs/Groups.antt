-- Proves the effect of the acceptance of a group frame from the clauses of the path's call. By cases of its
-- result.
use Rattle.std.proofs.Common.{◌≡◌, refl, ap, sym, ◌∙◌, subst, ℕ, List, arith, true, false}
use Rattle.std.specs.Prelude.{Result, Ok, Err, IfErr, OnOk}
use Rattle.wf_frame.specs.Answers.{reply_of, reply_with}
use Rattle.wf_frame.specs.Calls.{in_bss}
use Rattle.wf_frame.specs.Frames.{FrameValue}
use Rattle.wf_frame.specs.declared.answers.Brief.{Brief}
use Rattle.wf_frame.specs.declared.notes.Ask.{Ask}
use Rattle.wf_frame.specs.declared.notes.Ask.TheVariants.{Group}
use Rattle.wf_frame.specs.declared.notes.GroupAsk.TheVariants.{Accept}
use Rattle.wf_frame.specs.declared.notes.GroupReply.TheVariants.{Queued}
use Rattle.wf_frame.specs.declared.notes.Note.TheVariants.{Asked}
use Rattle.wf_frame.specs.declared.notes.Refusal.{Refusal}
use Rattle.wf_frame.specs.declared.notes.ReplyNote.{ReplyNote}
use Rattle.wf_frame.specs.declared.notes.ReplyNote.TheVariants as reply
use Rattle.wf_def_world.specs.World.{World}
use Rattle.wf_send_half.specs.Replies.{reply_of_result}
use Rattle.wf_send_half_model.specs.Changes.{after_group_call}
use Rattle.wf_send_half_model.specs.Standing.{StandsFor, Meets}
use Rattle.wf_path.specs.Jobs.{bodies_after, changes_nothing, with_released}
use Rattle.wf_path.specs.Paths.{PathValue, IsPath}
use Rattle.wf_path.specs.declared.job.Job.TheVariants.{Call}
use Rattle.wf_c.specs.Groups.{IsGroupAccepted, accepted_brief, is_refusal}
use Rattle.wf_c.specs.Numbers.{numbers_of}
use Rattle.wf_c.specs.declared.held.Held.{Held}
use Rattle.wf_c.specs.declared.reply.Reply.{Reply}

-- the reply of the call with this result
abbrev told : Result ℕ Refusal → ReplyNote
told r = reply_of_result (λ id. reply.Group (Queued id)) r

-- an answer with the brief of a result has its reply
says : (pairs : List (ℕ × ℕ)) (ids : List ℕ) (r : Result ℕ Refusal) →
    reply_with (accepted_brief r) pairs ids ≡ told r
says pairs ids (Ok id) = refl
says pairs ids (Err reason) = refl

-- only a refusal changes nothing
stays : (p q : PathValue) (r : Result ℕ Refusal) → IfErr r (λ _. q ≡ p) →
    changes_nothing (told r) ≡ true → q ≡ p
stays p q (Ok id) refused e = absurd (cc e)
stays p q (Err reason) refused e = refused

-- a result that is no refusal has queued the frame
queues : (p q : PathValue) (b len tag : ℕ) (to : List ℕ) (r : Result ℕ Refusal) →
    OnOk r (q ≡ record p { half = after_group_call p.half (in_bss b (Accept len)) tag to }) →
    is_refusal (accepted_brief r) ≡ false → q.half ≡ after_group_call p.half (in_bss b (Accept len)) tag to
queues p q b len tag to (Ok id) queued e = ap (λ (x : PathValue). x.half) queued
queues p q b len tag to (Err reason) queued e = absurd (cc e)

-- h is the handle before, q its path after the call about BSS n, b the answer, and r the result
module _ (h : Held) (q : PathValue) (b : Brief) (n len tag : ℕ) (to : List ℕ) (shown : Reply)
    (r : Result ℕ Refusal) (answered : b ≡ accepted_brief r) where
  abbrev after : Held
  after = record h { path = q; answer = record h.answer { brief = b } }

  abbrev ask : Ask
  ask = Group (in_bss n (Accept len))

  replied : reply_of after.answer ≡ told r
  replied = ap (λ (z : Brief). reply_with z h.answer.pairs h.answer.ids) answered
      ∙ says h.answer.pairs h.answer.ids r

  pub group_accepted : ((w : World) (bodies : ℕ → FrameValue) → StandsFor h.path.half w bodies →
      Meets w bodies (Asked ask) q.half (told r)) →
      OnOk r (q ≡ record h.path { half = after_group_call h.path.half (in_bss n (Accept len)) tag to }) →
      IfErr r (λ _. q ≡ h.path) → q.addresses ≡ h.path.addresses → IsPath q.half →
      shown ≡ numbers_of b → IsGroupAccepted h n len tag to after shown
  group_accepted meets queued refused addresses path shows = record {
    called = record {
      meets = λ w bodies stands _. subst (λ (z : ReplyNote).
          Meets w (bodies_after h.path.half w (Call ask) z bodies) (Asked ask) q.half
          (with_released w (Call ask) z)) (sym replied) (meets w bodies stands);
      refused = λ e. stays h.path q r refused (ap changes_nothing (sym replied) ∙ e);
      addresses = addresses;
      reserve = omega arith;
      path = path;
      shows = shows;
    };
    queued = λ e. queues h.path q n len tag to r queued (ap is_refusal (sym answered) ∙ e);
  }
