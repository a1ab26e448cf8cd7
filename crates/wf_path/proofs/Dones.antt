-- Proves the clauses of the end of an exchange from those of `Transmit::done`, for an unheard world by the
-- law of the calls that a BlockAck implies (wf_law_driver).
use Rattle.std.proofs.Common.{◌≡◌, refl, ap, sym, ◌∙◌, subst, arith, ℕ, ◌<◌, ◌≤◌, ◌==◌, ◌^◌, Bool, not, ◌&&◌, ◌↔◌, List, [], ◌∷◌, ◌++◌, true, false, Option, Some, None, is_some, is_none, option_map, unwrap_or, if◌then◌else◌}
use Rattle.std.specs.Prelude.{find, IfSome, IfNone, Result, Ok, Err, is_ok}
use Rattle.wf_frame.specs.Answers.{reply_with}
use Rattle.wf_frame.specs.Frames.{FrameValue}
use Rattle.wf_frame.specs.Settings.{is_bad_air}
use Rattle.wf_frame.specs.declared.answers.Brief.{Brief}
use Rattle.wf_frame.specs.declared.answers.Brief.TheVariants as brief
use Rattle.wf_frame.specs.declared.notes.Ask.TheVariants.{Done}
use Rattle.wf_frame.specs.declared.notes.Note.{Note}
use Rattle.wf_frame.specs.declared.notes.Note.TheVariants.{Asked}
use Rattle.wf_frame.specs.declared.notes.Refusal.{Refusal}
use Rattle.wf_frame.specs.declared.notes.Refusal.TheVariants.{NoExchange, NoAnswer, BadAir}
use Rattle.wf_frame.specs.declared.notes.ReplyNote.{ReplyNote}
use Rattle.wf_frame.specs.declared.settings.Config.{Config}
use Rattle.wf_def_lists.specs.Table.{has}
use Rattle.wf_def_agreement.specs.Receiver.{Score}
use Rattle.wf_def_agreement.specs.Session.{Session, State, slot, next_number}
use Rattle.wf_def_world.specs.World.{World, Exchange, Mpdu, Content, session, exchange, is_live, is_wide, opening}
use Rattle.wf_def_world.specs.Exchanges.{mpdus_of, numbers_unsent}
use Rattle.wf_def_world.specs.Run.{Entry, by, world_after}
use Rattle.wf_def_world.specs.Step.{step}
use Rattle.wf_law_runs.specs.Windows.{EachMpdu, KeepsWindows}
use Rattle.wf_law_runs.proofs.Frames.Fates.{world_after-append}
use Rattle.wf_law_runs.proofs.Windows.Agreement.{below_next}
use Rattle.wf_law_driver.specs.Inferred.{after_inferred, done_inferred, shown_of_sent, is_wholly_unsent, ShowsSent, AreAckedWhere, IsInferred}
use Rattle.wf_law_driver.specs.Unheard.{IsUnheard}
use Rattle.wf_law_driver.proofs.Ended.{windows_after, kept_after, live_flying, ended_step, may_end_lost}
use Rattle.wf_law_driver.proofs.Opened.{one_entry}
use Rattle.wf_law_driver.proofs.Runs.{inferred_keeps}
use Rattle.wf_law_driver.proofs.Inferred.{inferred_law}
use Rattle.wf_send_parts.specs.declared.exchanges.opened.Open.{Open}
use Rattle.wf_send_parts.specs.Members.{member, charged_in}
use Rattle.wf_send_half.specs.declared.finish.Ended.{Ended}
use Rattle.wf_send_half.specs.Bits.{AreShown, IsNoBatch, is_shown, ended_reply, end_refusal, count_shown_of, is_unanswered, IsChargeSmall}
use Rattle.wf_send_half.specs.Driven.{ended_by, outcome_after_done, world_after_done, IsAfterDone, MeetsUnheard}
use Rattle.wf_send_half.specs.Replies.{reply_of_result}
use Rattle.wf_send_half.proofs.Driven.{meets_unheard}
use Rattle.wf_send_half.proofs.Dones.{ends_unknown, nothing_same}
use Rattle.wf_send_half_model.specs.Half.{TransmitValue}
use Rattle.wf_send_half_model.specs.Standing.{StandsFor, Meets, IsReached, open_of}
use Rattle.wf_send_half_model.proofs.Endings.{flown_each}
use Rattle.wf_send_half_model.proofs.Readers.{exchange_same}
use Rattle.wf_send_half_model.proofs.Whole.{arrive_stands, answer_stands}
use Rattle.wf_path.specs.Addresses.{Addresses}
use Rattle.wf_path.specs.Driver.{IsEnded}
use Rattle.wf_path.specs.Jobs.{is_refused}
use Rattle.wf_path.specs.Paths.{PathValue, IsPath, IsSmall, RiseLittle}
use Rattle.wf_path.proofs.Rises.{rise_little}
use Rattle.wf_path.proofs.Values.{half_is, addresses_are, with_half}

-- ---- its condition

charges_small : (v : TransmitValue) → IsSmall v → (o : Option Open) →
    IfSome o (λ x. IfSome (member v.members x.station) (λ m. charged_in m x.class < 2 ^ 62))
charges_small v small None = tt
charges_small v small (Some x) = small.charged x.station x.class

pub charge_small : (v x : TransmitValue) → x ≡ v → (e : ℕ) → IsSmall v → IsChargeSmall x e
charge_small v x same e small = subst (λ (z : TransmitValue). IsChargeSmall z e) (sym same)
    (charges_small v small (find (λ y. y.number == e) v.opened))

-- ---- an end that is not refused

-- something went on the air if anything was heard and the exchange is no batch, and the airtime is in range
pub record IsAllowed (w : World) (x : Exchange) (heard : Option (ℕ × List ℕ)) (air : Option ℕ) : Type 0 where
  pub sent : is_some heard ≡ true → (not x.batch && is_wholly_unsent x) ≡ false
  pub fine : is_bad_air w.config air ≡ false

tests_none : (a b : Bool) → (if a then Some NoAnswer else if b then Some BadAir else None) ≡ None →
    (a ≡ false) × (b ≡ false)
tests_none true b h = absurd (cc h)
tests_none false true h = absurd (cc h)
tests_none false false h = (refl, refl)

pub allowed : (v : TransmitValue) (w : World) (bodies : ℕ → FrameValue) → StandsFor v w bodies → (e : ℕ)
    (x : Exchange) → exchange w e ≡ Some x → (heard : Option (ℕ × List ℕ)) (air : Option ℕ) →
    end_refusal v e heard air ≡ None → IsAllowed w x heard air
allowed v w bodies st e x known heard air none =
    let found : find (λ y. y.number == e) v.opened ≡ Some (open_of x) =
    exchange_same v w bodies e st.parts ∙ ap (option_map open_of) known in
    let both = tests_none (is_some heard && is_unanswered (open_of x)) (is_bad_air v.config air)
    (sym (ap (λ (f : Option Open). if is_none f then Some NoExchange
    else if is_some heard && unwrap_or (option_map is_unanswered f) false then Some NoAnswer
    else if is_bad_air v.config air then Some BadAir else None) found) ∙ none) in
    record {
      sent = λ some. ap (λ (b : Bool). not x.batch && b) (sym (nothing_same x))
          ∙ sym (ap (λ (b : Bool). b && is_unanswered (open_of x)) some) ∙ both.0;
      fine = ap (λ (c : Config). is_bad_air c air) (sym st.parts.others.config) ∙ both.1;
    }

-- ---- the numbers that are acknowledged

pub told_at : (w : World) → IsReached w → (caller e : ℕ) (shown : ℕ → Bool) (air : Option ℕ) (x : Exchange) →
    IsUnheard w → exchange w e ≡ Some x → ShowsSent shown x → is_bad_air w.config air ≡ false →
    IsInferred w caller e shown air x
told_at w r caller e shown air x =
    subst (λ (u : World). IsUnheard u → exchange u e ≡ Some x → ShowsSent shown x →
    is_bad_air u.config air ≡ false → IsInferred u caller e shown air x) (sym r.after)
    (inferred_law w.config r.history caller e shown air x)

-- each number that is believed to be shown went on the air
pub shows_sent : (x : Exchange) (p : ℕ → Bool) → (not x.batch && is_wholly_unsent x) ≡ false →
    ShowsSent (shown_of_sent x p) x
shows_sent x p some = record {
  numbers = each (mpdus_of x.content);
  some = λ unbatched. ap (λ (b : Bool). not b && is_wholly_unsent x) (sym unbatched) ∙ some;
}
  where
    sent_by : (a b : Bool) → (a && not b) ≡ true → b ≡ false
    sent_by true true h = absurd (cc h)
    sent_by false true h = absurd (cc h)
    sent_by a false h = refl

    each : (ms : List Mpdu) → EachMpdu (λ m. shown_of_sent x p m.number ≡ true →
        has (numbers_unsent x) m.number ≡ false) ms
    each [] = tt
    each (m ∷ ms) = (sent_by (p m.number) (has (numbers_unsent x) m.number), each ms)

-- the number flies
abbrev pub Flies : World → Exchange → Mpdu → Type 0
Flies w x m = ((session w x.station x.tid).first ≤ m.number) ×
    ((slot (session w x.station x.tid) m.number).state ≡ State.Flying x.number)

-- no number is acknowledged
abbrev NoneAcked : World → Exchange → List Mpdu → Type 0
NoneAcked v x ms =
    EachMpdu (λ m. ((slot (session v x.station x.tid) m.number).state ≡ State.Acked) ↔ (false ≡ true)) ms

-- If nothing was heard, nothing is acknowledged: in an unheard world a number that flies has not arrived.
module _ (config : Config) (h : List Entry) (e : ℕ) (x : Exchange) (air : Option ℕ)
    (un : IsUnheard (world_after (opening config) h))
    (known : exchange (world_after (opening config) h) e ≡ Some x)
    (fine : is_bad_air (world_after (opening config) h).config air ≡ false) where
  abbrev w : World
  w = world_after (opening config) h

  abbrev v : World
  v = (step w (Asked (Done e false air))).world

  none_acked : (ms : List Mpdu) → EachMpdu (Flies w x) ms → NoneAcked v x ms
  none_acked [] fly = tt
  none_acked (m ∷ ms) fly =
      let note : Note = Asked (Done e false air) in
      let y : Session = session w x.station x.tid in
      let later : world_after (opening config) (h ++ by 0 note ∷ []) ≡ v =
      world_after-append h (opening config) (by 0 note ∷ []) ∙ one_entry w (by 0 note) in
      let windows : KeepsWindows v = subst KeepsWindows later (windows_after config (h ++ by 0 note ∷ [])) in
      let ended = ended_step w e x false air known (may_end_lost w e x air known fine) in
      let live : is_live w x.station ≡ true = live_flying w x.station x.tid m.number x.number fly.0.1 in
      let numbers = (kept_after config h note).numbers x.station x.tid live (ended.live x.station ∙ live) in
      let below : m.number < next_number y = below_next y m.number fly.0.0 (λ a. cc (a, fly.0.1)) in (
        (
          (λ a. absurd (cc (
            (un.acked x.station x.tid m.number
                (ap (λ (xs : List ℕ). has xs m.number) (sym (ended.arrived x.station x.tid))
                ∙ (windows.known x.station x.tid).acked m.number (omega (arith, fly.0.0, numbers.first))
                (omega (arith, below, numbers.next)) a)).acked,
            fly.0.1,
          ))),
          (λ yes. absurd (cc yes)),
        ),
        none_acked ms fly.1,
      )

pub lost_acks_none : (v : TransmitValue) (w : World) (bodies : ℕ → FrameValue) → StandsFor v w bodies →
    IsUnheard w → (e : ℕ) (x : Exchange) → exchange w e ≡ Some x → (air : Option ℕ) →
    is_bad_air w.config air ≡ false →
    NoneAcked (step w (Asked (Done e false air))).world x (mpdus_of x.content)
lost_acks_none v w bodies st un e x known air fine =
    subst (λ (u : World). IsUnheard u → exchange u e ≡ Some x → is_bad_air u.config air ≡ false →
    EachMpdu (Flies u x) (mpdus_of x.content) →
    NoneAcked (step u (Asked (Done e false air))).world x (mpdus_of x.content)) (sym st.reached.after)
    (λ a b c. none_acked w.config st.reached.history e x air a b c (mpdus_of x.content))
    un known fine (flown_each v w bodies st e x known)

-- the numbers of x that a BlockAck shows and that went on the air
abbrev pub shown_by : World → Exchange → Option (ℕ × List ℕ) → ℕ → Bool
shown_by w x heard = shown_of_sent x (is_shown (is_wide w x.station x.tid) heard)

module _ (half : TransmitValue) (w : World) (bodies : ℕ → FrameValue) (st : StandsFor half w bodies)
    (un : IsUnheard w) (caller e : ℕ) (x : Exchange) (known : exchange w e ≡ Some x) (air : Option ℕ) where
  acked_open : (heard : Option (ℕ × List ℕ)) → IsAllowed w x heard air →
      AreAckedWhere (ended_by w caller e heard air (Some x)).world (shown_by w x heard) x
  acked_open None may = lost_acks_none half w bodies st un e x known air may.fine
  acked_open (Some score) may =
      let shown : ℕ → Bool = shown_by w x (Some score) in
      let some : (not x.batch && is_wholly_unsent x) ≡ false = may.sent refl in
      subst (λ (none : Bool). AreAckedWhere (if none then step w (Asked (Done e true air))
      else if is_bad_air w.config air then step w (Asked (Done e false air))
      else step (after_inferred w caller e shown x.batch x.content)
      (done_inferred e shown air x.content)).world shown x) (sym some)
      (subst (λ (bad : Bool). AreAckedWhere (if bad then step w (Asked (Done e false air))
      else step (after_inferred w caller e shown x.batch x.content)
      (done_inferred e shown air x.content)).world shown x)
      (sym may.fine) (told_at w st.reached caller e shown air x un known
      (shows_sent x (is_shown (is_wide w x.station x.tid) (Some score)) some) may.fine).acked)

  pub acked_where_shown : (heard : Option (ℕ × List ℕ)) → IsAllowed w x heard air →
      AreAckedWhere (world_after_done w caller e heard air) (shown_by w x heard) x
  acked_where_shown heard may = subst (λ (o : Option Exchange).
      AreAckedWhere (ended_by w caller e heard air o).world (shown_by w x heard) x) (sym known)
      (acked_open heard may)

-- ---- the counts

-- the calls that a BlockAck implies change nothing of the half
told_stands : (v : TransmitValue) (w : World) (bodies : ℕ → FrameValue) → StandsFor v w bodies →
    (caller e : ℕ) (shown : ℕ → Bool) (batch : Bool) (content : Content) →
    StandsFor v (after_inferred w caller e shown batch content) bodies
told_stands v w bodies h caller e shown batch content =
    inferred_keeps (λ u. StandsFor v u bodies) (λ u d i k. arrive_stands v u bodies d i k)
    (λ u d k. answer_stands v u bodies d k) w caller e shown batch content h

rise_ended : (v u : TransmitValue) (w : World) (bodies : ℕ → FrameValue) → StandsFor v w bodies →
    (caller e : ℕ) (heard : Option (ℕ × List ℕ)) (air : Option ℕ) (x : Option Exchange) →
    StandsFor u (ended_by w caller e heard air x).world bodies → RiseLittle v u
rise_ended v u w bodies h caller e None air x st =
    rise_little v u w bodies bodies (Asked (Done e false air)) h st
rise_ended v u w bodies h caller e (Some score) air None st =
    rise_little v u w bodies bodies (Asked (Done e false air)) h st
rise_ended v u w bodies h caller e (Some score) air (Some x) st =
    on_air (not x.batch && is_wholly_unsent x) st
  where
    shown : ℕ → Bool
    shown = shown_by w x (Some score)

    either : (bad : Bool) → StandsFor u (if bad then step w (Asked (Done e false air))
        else step (after_inferred w caller e shown x.batch x.content)
        (done_inferred e shown air x.content)).world bodies →
        RiseLittle v u
    either true there = rise_little v u w bodies bodies (Asked (Done e false air)) h there
    either false there =
        rise_little v u (after_inferred w caller e shown x.batch x.content) bodies bodies
        (done_inferred e shown air x.content)
        (told_stands v w bodies h caller e shown x.batch x.content) there

    on_air : (none : Bool) → StandsFor u (if none then step w (Asked (Done e true air))
        else if is_bad_air w.config air then step w (Asked (Done e false air))
        else step (after_inferred w caller e shown x.batch x.content)
        (done_inferred e shown air x.content)).world bodies →
        RiseLittle v u
    on_air true there = rise_little v u w bodies bodies (Asked (Done e true air)) h there
    on_air false there = either (is_bad_air w.config air) there

-- ---- the whole end

-- x is the half of a path, and u is the half after `Transmit::done`
module _ (x : TransmitValue) (h : IsPath x) (u : TransmitValue) (unheard : IsPath u) (e : ℕ)
    (heard : Option (ℕ × List ℕ)) (air : Option ℕ) (result : Result Ended Refusal)
    (done : IsAfterDone x u e heard air result) where
  ended : MeetsUnheard h.bodies (outcome_after_done h.world 0 e heard air) u
      (reply_of_result ended_reply result)
  ended = meets_unheard x u h.world h.bodies h.stands h.unheard e heard air result done 0

  rises : RiseLittle x u
  rises = rise_ended x u h.world h.bodies h.stands 0 e heard air (exchange h.world e) ended.stands

  -- p is the path before, and a are its addresses
  module _ (a : Addresses) (p : PathValue)
      (same : ◌≡◌ {A = PathValue} (record { half = x; addresses = a }) p) (b : Brief)
      (says : (pairs : List (ℕ × ℕ)) (ids : List ℕ) →
      reply_of_result ended_reply result ≡ reply_with b pairs ids)
      (acked : (acked waiting failed : ℕ) → b ≡ brief.Done acked waiting failed →
      IfSome (find (λ y. y.number == e) x.opened) (λ y. acked ≡ count_shown_of x heard y)) where
    before : (w : World) (bodies : ℕ → FrameValue) → StandsFor p.half w bodies → StandsFor x w bodies
    before w bodies st = subst (λ (z : TransmitValue). StandsFor z w bodies) (sym (half_is same)) st

    lost_if : (o : Option (ℕ × List ℕ)) → IfNone o
        ((w : World) (bodies : ℕ → FrameValue) → StandsFor x w bodies → IsNoBatch w e →
        Meets w bodies (Asked (Done e false air)) u (reply_of_result ended_reply result)) →
        IfNone o ((w : World) (bodies : ℕ → FrameValue) (pairs : List (ℕ × ℕ)) (ids : List ℕ) →
        StandsFor p.half w bodies → IsNoBatch w e →
        Meets w bodies (Asked (Done e false air)) u (reply_with b pairs ids))
    lost_if None f = λ w bodies pairs ids st unbatched. subst
        (λ (z : ReplyNote). Meets w bodies (Asked (Done e false air)) u z) (says pairs ids)
        (f w bodies (before w bodies st) unbatched)
    lost_if (Some score) f = tt

    pub is_ended : ((why : Refusal) → end_refusal x e heard air ≡ Some why → (b ≡ brief.Refused why) ×
        (u ≡ x)) →
        IsEnded p e heard air (record { half = u; addresses = a }) b
    is_ended refuses = record {
      lost = lost_if heard done.lost;
      shown = shown_if heard done.shown;
      none_shown = λ w bodies y pairs ids st known unbatched plain some hidden.
          subst (λ (z : ReplyNote). Meets w bodies (Asked (Done e false air)) u z) (says pairs ids)
          (done.none_shown w bodies y (before w bodies st) known unbatched plain some hidden);
      arrived = λ w bodies y told pairs ids st known batched as_told all.
          subst (λ (z : ReplyNote). Meets w bodies (Asked (Done e told air)) u z) (says pairs ids)
          (done.arrived w bodies y told (before w bodies st) known batched as_told all);
      driven = λ w bodies caller pairs ids st un.
          subst (λ (z : ReplyNote). MeetsUnheard bodies (outcome_after_done w caller e heard air) u z)
          (says pairs ids)
          (meets_unheard x u w bodies (before w bodies st) un e heard air result done caller);
      acked_where = λ w bodies caller y st un known none.
          acked_where_shown p.half w bodies st un caller e y known air heard
          (allowed p.half w bodies st e y known heard air none);
      acked = λ n i f is. subst (λ (z : TransmitValue).
          IfSome (find (λ y. y.number == e) z.opened) (λ y. n ≡ count_shown_of z heard y)) (half_is same)
          (acked n i f is);
      refused = λ why is.
          let k = refuses why (ap (λ (z : TransmitValue). end_refusal z e heard air) (half_is same) ∙ is) in
          (k.0, ap (λ (z : TransmitValue). with_half a z) k.1 ∙ same);
      answered = λ none. ap is_refused (sym (says [] [])) ∙ not_refused result
          (done.found ∙ ap is_none (ap (λ (z : TransmitValue). end_refusal z e heard air) (half_is same) ∙
          none));
      not_open = λ e'. let k = refuses NoExchange (ends_unknown x e heard air
          (sym (ap (λ (z : TransmitValue). find (λ y. y.number == e) z.opened) (half_is same) ∙ e'))) in
          (k.0, ap (λ (z : TransmitValue). with_half a z) k.1 ∙ same);
      addresses = addresses_are same;
      path = unheard;
      rises = subst (λ (z : TransmitValue). RiseLittle z u) (half_is same) rises;
    }
      where
        not_refused : (r : Result Ended Refusal) → is_ok r ≡ true →
            is_refused (reply_of_result ended_reply r) ≡ false
        not_refused (Ok ended) is = refl
        not_refused (Err why) is = absurd (cc is)

        shown_if : (o : Option (ℕ × List ℕ)) → IfSome o
            (λ score. (w : World) (bodies : ℕ → FrameValue) (y : Exchange) (answer : Score) →
            StandsFor x w bodies → exchange w e ≡ Some y → y.batch ≡ false → y.answer ≡ Some answer →
            AreShown w y answer (Some score) → Meets w bodies (Asked (Done e true air)) u
            (reply_of_result ended_reply result)) →
            IfSome o (λ score. (w : World) (bodies : ℕ → FrameValue) (y : Exchange) (answer : Score)
            (pairs : List (ℕ × ℕ)) (ids : List ℕ) → StandsFor p.half w bodies → exchange w e ≡ Some y →
            y.batch ≡ false → y.answer ≡ Some answer → AreShown w y answer (Some score) →
            Meets w bodies (Asked (Done e true air)) u (reply_with b pairs ids))
        shown_if None f = tt
        shown_if (Some score) f = λ w bodies y answer pairs ids st known unbatched kept shows.
            subst (λ (z : ReplyNote). Meets w bodies (Asked (Done e true air)) u z) (says pairs ids)
            (f w bodies y answer (before w bodies st) known unbatched kept shows)
