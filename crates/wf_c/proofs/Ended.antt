-- Proves which refusal the answer to the end of an exchange shows. By cases of whether the end is refused.
use Rattle.std.proofs.Common.{◌≡◌, refl, ap, ◌∙◌, inl, inr, ℕ, true, false, Some, None}
use Rattle.std.proofs.lemmas.Bool.{both_ways}
use Rattle.std.specs.Prelude.{Option, List, [], ◌⊎◌}
use Rattle.wf_frame.specs.Answers.{reply_with}
use Rattle.wf_frame.specs.Refusals.{refusal_number}
use Rattle.wf_frame.specs.declared.answers.Brief.{Brief}
use Rattle.wf_frame.specs.declared.answers.Brief.TheVariants.{Accepted, Send, Refused}
use Rattle.wf_frame.specs.declared.answers.Brief.TheVariants as brief
use Rattle.wf_frame.specs.declared.notes.GroupReply.TheVariants as answer
use Rattle.wf_frame.specs.declared.notes.ServiceReply.TheVariants as service
use Rattle.wf_frame.specs.declared.notes.Refusal.{Refusal}
use Rattle.wf_frame.specs.declared.notes.Refusal.TheVariants as refusal
use Rattle.wf_send_half.specs.Bits.{end_refusal}
use Rattle.wf_path.specs.Driver.{IsEnded}
use Rattle.wf_path.specs.Jobs.{is_refused}
use Rattle.wf_path.specs.Paths.{PathValue}
use Rattle.wf_c.specs.Ends.{refused_code}
use Rattle.wf_c.specs.Numbers.{numbers_of}

-- the field of a refusal has its number; the last line is for all refusals without a count
shows_why : (why : Refusal) → (numbers_of (Refused why)).refusal ≡ refusal_number why
shows_why (refusal.Open count) = refl
shows_why (refusal.Room inside) = refl
shows_why (refusal.Sleeping queued) = refl
shows_why (refusal.Full count) = refl
shows_why (refusal.Debt deficit) = refl
shows_why (refusal.Ahead owed) = refl
shows_why (refusal.Waits count) = refl
shows_why _ = refl

-- another answer shows no refusal; the last line is for all answers without an option
shows_none : (b : Brief) → is_refused (reply_with b [] []) ≡ false → (numbers_of b).refusal ≡ 0
shows_none (Refused why) is = absurd (both_ways true is refl)
shows_none (Accepted id None) is = refl
shows_none (Accepted id (Some dropped)) is = refl
shows_none (Send exchange station tid air None kind more eosp) is = refl
shows_none (Send exchange station tid air (Some start) kind more eosp) is = refl
shows_none (brief.Group (answer.Queued id)) is = refl
shows_none (brief.Group (answer.Beacon count follows)) is = refl
shows_none (brief.Group (answer.Send id number air more)) is = refl
shows_none (brief.Group (answer.Done id)) is = refl
shows_none (brief.Service service.Set) is = refl
shows_none (brief.Service (service.Triggered class)) is = refl
shows_none (brief.Service service.Ended) is = refl
shows_none _ is = refl

module _ {p q : PathValue} {e : ℕ} {heard : Option (ℕ × List ℕ)} {air : Option ℕ} {b : Brief}
    (ended : IsEnded p e heard air q b) where
  of_refusal : (o : Option Refusal) → end_refusal p.half e heard air ≡ o →
      (numbers_of b).refusal ≡ refused_code o
  of_refusal None fine = shows_none b (ended.answered fine)
  of_refusal (Some why) is =
      ap (λ (k : Brief). (numbers_of k).refusal) (ended.refused why is).0 ∙ shows_why why

  pub shows_refusal : (numbers_of b).refusal ≡ refused_code (end_refusal p.half e heard air)
  shows_refusal = of_refusal (end_refusal p.half e heard air) refl

  stays_if : (o : Option Refusal) → end_refusal p.half e heard air ≡ o →
      ((numbers_of b).refusal ≡ 0) ⊎ (q ≡ p)
  stays_if None fine = inl (shows_none b (ended.answered fine))
  stays_if (Some why) is = inr (ended.refused why is).1

  pub stays : ((numbers_of b).refusal ≡ 0) ⊎ (q ≡ p)
  stays = stays_if (end_refusal p.half e heard air) refl
