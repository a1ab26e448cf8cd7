-- Defines how a path ends an exchange.
use Rattle.std.specs.Prelude.{◌≡◌, ◌==◌, ℕ, Bool, true, false, List, [], find, Option, None, Some, is_some, IfNone, IfSome, if◌then◌else◌}
use Rattle.wf_frame.specs.Answers.{reply_with}
use Rattle.wf_frame.specs.Frames.{FrameValue}
use Rattle.wf_frame.specs.declared.answers.Brief.{Brief}
use Rattle.wf_frame.specs.declared.answers.Brief.TheVariants.{Refused}
use Rattle.wf_frame.specs.declared.answers.Brief.TheVariants as briefs
use Rattle.wf_frame.specs.declared.notes.Ask.TheVariants.{Done}
use Rattle.wf_frame.specs.declared.notes.Note.TheVariants.{Asked}
use Rattle.wf_frame.specs.declared.notes.Refusal.TheVariants.{NoExchange}
use Rattle.wf_def_agreement.specs.Receiver.{Score}
use Rattle.wf_def_world.specs.World.{World, Exchange, exchange, is_wide}
use Rattle.wf_def_world.specs.CanSend.{is_request}
use Rattle.wf_law_driver.specs.Inferred.{AreAckedWhere, is_wholly_unsent, shown_of_sent}
use Rattle.wf_law_driver.specs.Unheard.{IsUnheard}
use Rattle.wf_send_half.specs.Bits.{is_shown, IsNoBatch, IsToldAs, AreShown, AreArrived, NoneIsShown, count_shown_of, end_refusal}
use Rattle.wf_send_half.specs.Driven.{outcome_after_done, world_after_done, MeetsUnheard}
use Rattle.wf_send_half_model.specs.Standing.{StandsFor, Meets}
use Rattle.wf_path.specs.Addresses.{Addresses}
use Rattle.wf_path.specs.Answers.{read_fault}
use Rattle.wf_path.specs.Jobs.{is_refused}
use Rattle.wf_path.specs.declared.faults.DoneFault.{DoneFault}
use Rattle.wf_path.specs.Paths.{PathValue, IsPath, RiseLittle}
use Rattle.wf_frame.specs.declared.notes.Refusal.{Refusal}

-- The end of exchange e makes q of the path p and answers with a brief. `heard` is the start and the
-- offsets of a BlockAck, if one was heard; `air` is the airtime, if it was given.
--
--   lost         if nothing was heard, the end is the machine's Done that was not heard; this says nothing of
--                a batch
--   shown        if the bits agree with the receiver's answer about each of its numbers that went on the air,
--                the end is the Done that was heard
--   none_shown   if they show none of an aggregate's numbers that went on the air, of which there are some,
--                the end is the Done that was not heard
--   arrived      if the bits show exactly those numbers of a batch that arrived, the end is its Done
--   driven       in an unheard world the end is the Done after exactly the calls that the BlockAck implies,
--                and it leaves an unheard world
--   acked_where  in an unheard world, if the end is not refused, exactly those numbers of the exchange are
--                acknowledged that went on the air and that the bits show
--   acked        as many frames are acknowledged as the bits show numbers that went on the air
--   refused      a refusal is the answer, and changes nothing
--   answered     without a refusal the answer is none
--   not_open     an exchange that is not open is refused as NoExchange, which changes nothing
--   addresses    the addresses are unchanged
--   path         q represents an unheard world
--   rises        the counts rise by this Done alone; the calls that the BlockAck implies change none
pub record IsEnded (p : PathValue) (e : ℕ) (heard : Option (ℕ × List ℕ)) (air : Option ℕ)
    (q : PathValue) (brief : Brief) : Type 0 where
  pub lost : IfNone heard ((w : World) (bodies : ℕ → FrameValue) (pairs : List (ℕ × ℕ)) (ids : List ℕ) →
      StandsFor p.half w bodies → IsNoBatch w e →
      Meets w bodies (Asked (Done e false air)) q.half (reply_with brief pairs ids))
  pub shown : IfSome heard (λ score. (w : World) (bodies : ℕ → FrameValue) (x : Exchange) (b : Score)
      (pairs : List (ℕ × ℕ)) (ids : List ℕ) →
      StandsFor p.half w bodies → exchange w e ≡ Some x → x.batch ≡ false → x.answer ≡ Some b →
      AreShown w x b (Some score) →
      Meets w bodies (Asked (Done e true air)) q.half (reply_with brief pairs ids))
  pub none_shown : (w : World) (bodies : ℕ → FrameValue) (x : Exchange) (pairs : List (ℕ × ℕ))
      (ids : List ℕ) → StandsFor p.half w bodies →
      exchange w e ≡ Some x → x.batch ≡ false → is_request x.content ≡ false → is_wholly_unsent x ≡ false →
      NoneIsShown w x heard →
      Meets w bodies (Asked (Done e false air)) q.half (reply_with brief pairs ids)
  pub arrived : (w : World) (bodies : ℕ → FrameValue) (x : Exchange) (told : Bool) (pairs : List (ℕ × ℕ))
      (ids : List ℕ) → StandsFor p.half w bodies →
      exchange w e ≡ Some x → x.batch ≡ true → IsToldAs x heard told → AreArrived w x heard →
      Meets w bodies (Asked (Done e told air)) q.half (reply_with brief pairs ids)
  pub driven : (w : World) (bodies : ℕ → FrameValue) (caller : ℕ) (pairs : List (ℕ × ℕ)) (ids : List ℕ) →
      StandsFor p.half w bodies → IsUnheard w →
      MeetsUnheard bodies (outcome_after_done w caller e heard air) q.half (reply_with brief pairs ids)
  pub acked_where : (w : World) (bodies : ℕ → FrameValue) (caller : ℕ) (x : Exchange) →
      StandsFor p.half w bodies → IsUnheard w → exchange w e ≡ Some x →
      end_refusal p.half e heard air ≡ None →
      AreAckedWhere (world_after_done w caller e heard air)
      (shown_of_sent x (is_shown (is_wide w x.station x.tid) heard)) x
  pub acked : (acked waiting failed : ℕ) → brief ≡ briefs.Done acked waiting failed →
      IfSome (find (λ x. x.number == e) p.half.opened) (λ x. acked ≡ count_shown_of p.half heard x)
  pub refused : (why : Refusal) → end_refusal p.half e heard air ≡ Some why → (brief ≡ Refused why) × (q ≡ p)
  pub answered : end_refusal p.half e heard air ≡ None → is_refused (reply_with brief [] []) ≡ false
  pub not_open : find (λ x. x.number == e) p.half.opened ≡ None → (brief ≡ Refused NoExchange) × (q ≡ p)
  pub addresses : q.addresses ≡ p.addresses
  pub path : IsPath q.half
  pub rises : RiseLittle p.half q.half

-- ---- by octets

-- The first check that fails: that exchange e is open, then those of the octets of its BlockAck, if one was
-- heard.
abbrev pub end_fault : Addresses → World → ℕ → Option (List ℕ) → Option DoneFault
end_fault a w e None = if is_some (exchange w e) then None else Some DoneFault.NoExchange
end_fault a w e (Some octets) = read_fault a w e octets
