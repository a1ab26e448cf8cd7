-- Proves the clauses of the end of an exchange by what became of each of its transmissions. After the marks
-- the
-- exchange ends by a BlockAck that shows exactly the acknowledged numbers, and this is believed.
use Rattle.std.proofs.Common.{◌≡◌, refl, ap, ap₂, sym, ◌∙◌, subst, arith, ℕ, suc, ◌+◌, ◌-◌, ◌<◌, ◌≤◌, ◌==◌, nat_lt, Bool, true, false, not, ◌&&◌, ◌||◌, ◌↔◌, if◌then◌else◌, List, [], ◌∷◌, ◌++◌, length, Option, Some, None, is_some, option_map}
use Rattle.std.specs.Prelude.{find, count_by, IfSome}
use Rattle.std.specs.List.{list_all}
use Rattle.std.specs.Option.{option_map_or}
use Rattle.std.proofs.lemmas.Bool.{and_parts}
use Rattle.wf_frame.specs.Answers.{reply_with}
use Rattle.wf_frame.specs.Frames.{FrameValue}
use Rattle.wf_frame.specs.Settings.{is_bad_air}
use Rattle.wf_frame.specs.declared.answers.Brief.{Brief}
use Rattle.wf_frame.specs.declared.answers.Brief.TheVariants as briefs
use Rattle.wf_frame.specs.declared.notes.Ask.TheVariants.{Done}
use Rattle.wf_frame.specs.declared.notes.Note.TheVariants.{Asked}
use Rattle.wf_frame.specs.declared.notes.Refusal.{Refusal}
use Rattle.wf_frame.specs.declared.notes.Refusal.TheVariants.{NoExchange, BadIndex, Marked, BadAir}
use Rattle.wf_frame.specs.declared.settings.Config.{Config}
use Rattle.wf_def_agreement.specs.Session.{Session, State, slot, is_settled, start_of}
use Rattle.wf_def_lists.specs.Bounds.{narrow_window}
use Rattle.wf_def_lists.specs.Table.{has, upto}
use Rattle.wf_def_world.specs.Exchanges.{transmissions, mpdus_of, numbers_unsent}
use Rattle.wf_def_world.specs.Run.{Entry, world_after}
use Rattle.wf_def_world.specs.Step.{Outcome as MachineOutcome, step}
use Rattle.wf_def_world.specs.World.{World, Exchange, Mpdu, Content, Frames, Request, exchange, session, is_wide}
use Rattle.wf_law_rules.proofs.Lemmas.Numbers.{on_bool, lt_no, yes_lt, has_other, eq_yes}
use Rattle.wf_law_runs.specs.Delivery.{is_batch}
use Rattle.wf_law_runs.specs.Sent.{NumbersRise}
use Rattle.wf_law_runs.specs.Windows.{EachMpdu, KeepsWindows}
use Rattle.wf_law_runs.proofs.Deficits.Configs.{config_run}
use Rattle.wf_law_runs.proofs.Frames.Fates.{world_after-append}
use Rattle.wf_law_runs.proofs.Windows.Law.{window_law}
use Rattle.wf_law_runs.proofs.Windows.Sizes.{IsSized, sized}
use Rattle.wf_law_driver.specs.Inferred.{arrivals, answer_inferred, indices_inferred, after_inferred, done_inferred, is_wholly_unsent, AreAnswered, AreAckedWhere}
use Rattle.wf_law_driver.specs.Unheard.{IsUnheard}
use Rattle.wf_law_driver.proofs.Indices.{both_mpdu}
use Rattle.wf_octets.specs.Distance.{distance}
use Rattle.wf_send_parts.proofs.Numbers.{open_number}
use Rattle.wf_send_parts.specs.declared.exchanges.opened.Open.{Open}
use Rattle.wf_send_parts.specs.Exchanges.{transmissions_of, sending_is_request}
use Rattle.wf_send_parts.specs.Window.{on_air}
use Rattle.wf_send_half.specs.Bits.{is_shown, span_of, numbers_sent, count_shown, count_shown_of}
use Rattle.wf_send_half.specs.Driven.{ended_by, outcome_after_done, MeetsUnheard}
use Rattle.wf_send_half.proofs.Dones.{IsKnown, known_of, low_tid}
use Rattle.wf_send_half_model.specs.Half.{TransmitValue}
use Rattle.wf_send_half_model.specs.Pulling.{is_wide_of}
use Rattle.wf_send_half_model.specs.Standing.{numbers_on_air, sending_of, open_of, StandsFor}
use Rattle.wf_send_half_model.proofs.Endings.{from_first, open_live, open_sent, flown_each}
use Rattle.wf_send_half_model.proofs.FitMarks.{unsent_at, same_transmissions}
use Rattle.wf_send_half_model.proofs.Pulls.{wide_same}
use Rattle.wf_send_half_model.proofs.Reached.{by_law}
use Rattle.wf_send_half_model.proofs.Readers.{exchange_same}
use Rattle.wf_path.specs.Addresses.{Addresses}
use Rattle.wf_path.specs.Driver.{IsEnded}
use Rattle.wf_path.specs.Each.{indices_acked, some_acked, marks, calls_before_done, done_by, outcome_each, bodies_each, AreAckedBy, has_no_mark, each_fault, each_refusal, count_acked, IsEndedEach}
use Rattle.wf_path.specs.Heard.{offsets_acked, score_of, heard_of, IsNarrow, IsMarked}
use Rattle.wf_path.specs.Paths.{PathValue, IsPath, HasCountsBelow}
use Rattle.wf_path.specs.declared.each.Outcome.{Outcome}
use Rattle.wf_path.specs.declared.each.Outcome.TheVariants.{Acked, Retry, Unsent, GaveUp}
use Rattle.wf_path.proofs.Dones.{IsAllowed, shows_sent, told_at, shown_by, Flies, acked_where_shown}
use Rattle.wf_path.proofs.EachShown.{AreFrom, offset_of, AreShownBy, shown_offsets, shown_alike, none_shown_by, AckedSent, shown_believed, indices_shown, some_indices, no_indices, not_wholly, count_acked_is, near_by}
use Rattle.wf_path.proofs.Marks.{marked, all_marked, AreMarked, after_marks, AreFresh, marks_answered, IsSameElse, marked_else}
use Rattle.wf_path.proofs.Rises.{counts_kept, no_rise}
use Rattle.wf_path.proofs.Values.{half_is}

-- ---- the numbers of an open exchange

span_fits : (size : ℕ) → size ≤ 256 → size ≤ span_of (nat_lt narrow_window size)
span_fits size most = on_bool (nat_lt narrow_window size)
    (λ e. subst (λ (b : Bool). size ≤ span_of b) (sym e) most)
    (λ e. subst (λ (b : Bool). size ≤ span_of b) (sym e) (lt_no narrow_window size e))

module _ (v : TransmitValue) (w : World) (bodies : ℕ → FrameValue) (st : StandsFor v w bodies) (e : ℕ)
    (x : Exchange) (known : exchange w e ≡ Some x) where
  abbrev y : Session
  y = session w x.station x.tid

  most : y.size ≤ 256
  most = (subst IsSized (sym st.reached.after) (sized w.config st.reached.history)).size x.station x.tid

  rising : NumbersRise y.first (mpdus_of x.content)
  rising = (open_sent w st.reached e x known).rising

  -- each is at or past the least number that is not settled, and less than a window above it
  in_window : (ms : List Mpdu) → EachMpdu (Flies w x) ms →
      EachMpdu (λ m. (start_of y ≤ m.number) × (m.number < start_of y + y.size)) ms
  in_window [] fly = tt
  in_window (m ∷ ms) fly =
      let n = open_number y m.number (on_air m.number) fly.0.0 (ap is_settled fly.0.1) refl in
      let near = (by_law KeepsWindows w st.reached (window_law w.config st.reached.history)).near x.station
      x.tid
      in
      ((n.from_start, omega (arith, n.given, near.next_start)), in_window ms fly.1)

  -- all are less than a window above the first one
  from_head : (m : Mpdu) (ms : List Mpdu) → x.content ≡ Frames (m ∷ ms) → (span : ℕ) → y.size ≤ span →
      AreFrom m.number span (m ∷ ms)
  from_head m ms is span fits =
      let fly : EachMpdu (Flies w x) (m ∷ ms) =
      subst (λ (c : Content). EachMpdu (Flies w x) (mpdus_of c)) is (flown_each v w bodies st e x known) in
      let rise : NumbersRise y.first (m ∷ ms) =
      subst (λ (c : Content). NumbersRise y.first (mpdus_of c)) is rising in
      let within = in_window (m ∷ ms) fly in
      both_mpdu (λ k. m.number ≤ k.number) (λ k. (start_of y ≤ k.number) × (k.number < start_of y + y.size))
      (λ k. (m.number ≤ k.number) × (k.number < m.number + span)) (m ∷ ms)
      (λ k a b. (a, omega (arith, b.1, within.0.0, fits)))
      (from_first m.number (m ∷ ms) (omega arith, rise.1)) within

  narrow_content : (c : Content) → x.content ≡ c → IsNarrow (sending_of c)
  narrow_content (Request start) is = tt
  narrow_content (Frames []) is = tt
  narrow_content (Frames (m ∷ ms)) is = near_by m.number (m ∷ ms) (from_head m ms is 256 most)

-- the numbers of an open exchange of a path are near the first one
pub narrow : (v : TransmitValue) → IsPath v → (e : ℕ) (o : Open) → Some o ≡ find (λ x. x.number == e)
    v.opened →
    IsNarrow o.sending
narrow v h e o is =
    let k : IsKnown h.world e o = known_of v h.world h.bodies h.stands e o is in
    subst (λ (z : Open). IsNarrow z.sending) (sym k.same)
    (narrow_content v h.world h.bodies h.stands e k.exchange_is k.known k.exchange_is.content refl)

-- ---- after the marks

one_acked : (outcomes : List Outcome) → length outcomes ≡ 1 → some_acked outcomes ≡ true →
    0 ∷ [] ≡ indices_acked 0 outcomes
one_acked [] long on = absurd (cc on)
one_acked (Acked ∷ []) long on = refl
one_acked (Retry ∷ []) long on = absurd (cc on)
one_acked (Unsent ∷ []) long on = absurd (cc on)
one_acked (GaveUp ∷ []) long on = absurd (cc on)
one_acked (a ∷ b ∷ outcomes) long on = absurd (omega (arith, long))

-- no answer is inferred if nothing arrived
no_answer : (batch : Bool) (caller e : ℕ) → answer_inferred batch caller e [] ≡ []
no_answer true caller e = refl
no_answer false caller e = refl

-- an exchange of which something went on the air may be answered
and_sent : (batch unsent : Bool) → unsent ≡ false → (not batch && unsent) ≡ false
and_sent true unsent h = refl
and_sent false unsent h = h

world_after_none : (w : World) → world_after w [] ≡ w
unfolding world_after
world_after_none w = refl

air_shown : (wide : Bool) (heard : Option (ℕ × List ℕ)) (n : ℕ) → is_shown wide heard (on_air n)
    ≡ is_shown wide heard n
air_shown wide None n = refl
air_shown wide (Some score) n =
    let same : distance (on_air n) score.0 ≡ distance n score.0 = omega arith in
    ap (λ (d : ℕ). nat_lt d (span_of wide) && has score.1 d) same

acked_as : (u : World) (s t : ℕ) (p : ℕ → Bool) (ms : List Mpdu) (outcomes : List Outcome) →
    AreShownBy p ms outcomes →
    EachMpdu (λ m. ((slot (session u s t) m.number).state ≡ State.Acked) ↔ (p m.number ≡ true)) ms →
    AreAckedBy u s t ms outcomes
acked_as u s t p [] outcomes shown h = tt
acked_as u s t p (m ∷ ms) [] shown h = tt
acked_as u s t p (m ∷ ms) (outcome ∷ outcomes) shown h = (
  ((λ a. sym shown.0 ∙ h.0.0 a), (λ yes. h.0.1 (shown.0 ∙ yes))),
  acked_as u s t p ms outcomes shown.1 h.1,
)

-- the world w after the marks: x is the exchange then
module _ (v : TransmitValue) (w : World) (bodies : ℕ → FrameValue) (st : StandsFor v w bodies)
    (un : IsUnheard w) (e : ℕ) (x : Exchange) (known : exchange w e ≡ Some x) (outcomes : List Outcome)
    (long : length outcomes ≡ transmissions x.content) (sent : AckedSent x.unsent 0 outcomes) (air : Option ℕ)
    (fine : is_bad_air w.config air ≡ false) where
  abbrev heard : Option (ℕ × List ℕ)
  heard = heard_of (sending_of x.content) outcomes

  abbrev wide : Bool
  wide = is_wide w x.station x.tid

  -- the BlockAck shows the acknowledged numbers
  shown_content : (c : Content) → x.content ≡ c →
      AreShownBy (is_shown wide (Some (score_of (sending_of c) outcomes))) (mpdus_of c) outcomes
  shown_content (Request start) is = tt
  shown_content (Frames []) is = tt
  shown_content (Frames (m ∷ ms)) is =
      let offsets : List ℕ = offsets_acked (on_air m.number) [] (numbers_on_air (m ∷ ms)) outcomes in
      let rise : NumbersRise (session w x.station x.tid).first (m ∷ ms) =
      subst (λ (c : Content). NumbersRise (session w x.station x.tid).first (mpdus_of c)) is
      (rising v w bodies st e x known) in
      let small : (session w x.station x.tid).size ≤ 256 = most v w bodies st e x known in
      shown_alike (λ n. has offsets (n - m.number)) (is_shown wide (Some (on_air m.number, offsets))) (m ∷ ms)
      outcomes
      (each m.number offsets (m ∷ ms)
      (from_head v w bodies st e x known m ms is (span_of wide)
      (span_fits (session w x.station x.tid).size small))
      (from_head v w bodies st e x known m ms is 4096 (omega (arith, small))))
      (shown_offsets m.number (session w x.station x.tid).first (m ∷ ms) outcomes
      (from_head v w bodies st e x known m ms is 4096 (omega (arith, small))) rise)
    where
      each : (first : ℕ) (offsets : List ℕ) (ks : List Mpdu) → AreFrom first (span_of wide) ks →
          AreFrom first 4096 ks → EachMpdu (λ k. is_shown wide (Some (on_air first, offsets)) k.number
          ≡ has offsets (k.number - first)) ks
      each first offsets [] near far = tt
      each first offsets (k ∷ ks) near far =
          let d : distance k.number (on_air first) ≡ k.number - first =
          offset_of k.number first far.0.0 far.0.1 in (
            ap (λ (n : ℕ). nat_lt n (span_of wide) && has offsets n) d
                ∙ ap (λ (b : Bool). b && has offsets (k.number - first))
                (yes_lt (k.number - first) (span_of wide) (omega (arith, near.0.0, near.0.1))),
            each first offsets ks near.1 far.1,
          )

  heard_some : some_acked outcomes ≡ true → heard ≡ Some (score_of (sending_of x.content) outcomes)
  heard_some on =
      ap (λ (b : Bool). if b then Some (score_of (sending_of x.content) outcomes) else None) on

  heard_none : some_acked outcomes ≡ false → heard ≡ None
  heard_none off =
      ap (λ (b : Bool). if b then Some (score_of (sending_of x.content) outcomes) else None) off

  shown_each : AreShownBy (is_shown wide heard) (mpdus_of x.content) outcomes
  shown_each = on_bool (some_acked outcomes)
      (λ on. subst (λ (h : Option (ℕ × List ℕ)). AreShownBy (is_shown wide h) (mpdus_of x.content) outcomes)
      (sym (heard_some on)) (shown_content x.content refl))
      (λ off. subst (λ (h : Option (ℕ × List ℕ)). AreShownBy (is_shown wide h) (mpdus_of x.content) outcomes)
      (sym (heard_none off))
      (none_shown_by (is_shown wide None) (mpdus_of x.content) outcomes (λ n. refl) off))

  -- it is believed in this
  believed_content : (c : Content) → x.content ≡ c → AreShownBy (is_shown wide heard) (mpdus_of c) outcomes →
      AreShownBy (shown_by w x heard) (mpdus_of c) outcomes
  believed_content (Request start) is h = tt
  believed_content (Frames ms) is h = shown_believed (is_shown wide heard) (numbers_unsent x) x.unsent 0 ms
      outcomes
      (λ j low. let here : j ≡ 0 + j = omega arith in
      unsent_at w st.reached e x ms known is j low ∙ ap (has x.unsent) here) sent h

  believed : AreShownBy (shown_by w x heard) (mpdus_of x.content) outcomes
  believed = believed_content x.content refl shown_each

  some_went : some_acked outcomes ≡ true → is_wholly_unsent x ≡ false
  some_went on = subst (λ (n : ℕ). list_all (has x.unsent) (upto n) ≡ false) long
      (not_wholly x.unsent outcomes sent on)

  may_answer : some_acked outcomes ≡ true → (not x.batch && is_wholly_unsent x) ≡ false
  may_answer on = and_sent x.batch (is_wholly_unsent x) (some_went on)

  pub may_end : IsAllowed w x heard air
  may_end = record {
    sent = λ some. on_bool (some_acked outcomes) may_answer
        (λ off. absurd (let no : false ≡ true = ap is_some (sym (heard_none off)) ∙ some in cc no));
    fine = fine;
  }

  indices_content : (c : Content) → length outcomes ≡ transmissions c →
      AreShownBy (shown_by w x heard) (mpdus_of c) outcomes → some_acked outcomes ≡ true →
      indices_inferred (shown_by w x heard) c ≡ indices_acked 0 outcomes
  indices_content (Request start) few h on = one_acked outcomes few on
  indices_content (Frames ms) few h on = indices_shown (shown_by w x heard) 0 ms outcomes few h

  indices : some_acked outcomes ≡ true →
      indices_inferred (shown_by w x heard) x.content ≡ indices_acked 0 outcomes
  indices on = indices_content x.content long believed on

  -- the calls that the acknowledgements imply
  abbrev implied : ℕ → List ℕ → List Entry
  implied caller is = arrivals caller e is ++ answer_inferred x.batch caller e is

  none_implied : (caller : ℕ) → some_acked outcomes ≡ false → implied caller (indices_acked 0 outcomes) ≡ []
  none_implied caller off = ap (implied caller) (no_indices 0 outcomes off) ∙ no_answer x.batch caller e

  -- the exchange ends as the machine's does after these calls
  pub outcome_is : (caller : ℕ) → ended_by w caller e heard air (Some x)
      ≡ step (world_after w (implied caller (indices_acked 0 outcomes))) (done_by e outcomes air)
  outcome_is caller = on_bool (some_acked outcomes) by_some by_none
    where
      by_none : some_acked outcomes ≡ false → ended_by w caller e heard air (Some x)
          ≡ step (world_after w (implied caller (indices_acked 0 outcomes))) (done_by e outcomes air)
      by_none off =
          let same : world_after w (implied caller (indices_acked 0 outcomes)) ≡ w =
          ap (world_after w) (none_implied caller off) ∙ world_after_none w in
          ap (λ (h : Option (ℕ × List ℕ)). ended_by w caller e h air (Some x)) (heard_none off)
          ∙ ap₂ (λ (u : World) (b : Bool). step u (Asked (Done e b air))) (sym same) (sym off)

      by_some : some_acked outcomes ≡ true → ended_by w caller e heard air (Some x)
          ≡ step (world_after w (implied caller (indices_acked 0 outcomes))) (done_by e outcomes air)
      by_some on =
          let score : ℕ × List ℕ = score_of (sending_of x.content) outcomes in
          let shown : ℕ → Bool = shown_by w x (Some score) in
          let is : indices_inferred shown x.content ≡ indices_acked 0 outcomes =
          subst (λ (h : Option (ℕ × List ℕ)). indices_inferred (shown_by w x h) x.content
          ≡ indices_acked 0 outcomes) (heard_some on) (indices on) in
          ap (λ (h : Option (ℕ × List ℕ)). ended_by w caller e h air (Some x)) (heard_some on)
          ∙ ap (λ (none : Bool). if none then step w (Asked (Done e true air))
          else if is_bad_air w.config air then step w (Asked (Done e false air))
          else step (after_inferred w caller e shown x.batch x.content) (done_inferred e shown air x.content))
          (may_answer on)
          ∙ ap (λ (bad : Bool). if bad then step w (Asked (Done e false air))
          else step (after_inferred w caller e shown x.batch x.content) (done_inferred e shown air x.content))
          fine
          ∙ ap (λ (js : List ℕ). step (world_after w (implied caller js))
          (Asked (Done e (nat_lt 0 (length js)) air))) is
          ∙ ap (λ (b : Bool). step (world_after w (implied caller (indices_acked 0 outcomes)))
          (Asked (Done e b air))) (some_indices 0 outcomes)

  pub implied_answered : (caller : ℕ) → AreAnswered w (implied caller (indices_acked 0 outcomes))
  implied_answered caller = on_bool (some_acked outcomes)
      (λ on. subst (λ (js : List ℕ). AreAnswered w (implied caller js)) (indices on)
      (told_at w st.reached caller e (shown_by w x heard) air x un known
      (shows_sent x (is_shown wide heard) (may_answer on)) fine).answered)
      (λ off. subst (AreAnswered w) (sym (none_implied caller off)) tt)

  pub acked_each : (u : World) → AreAckedWhere u (shown_by w x heard) x →
      AreAckedBy u x.station x.tid (mpdus_of x.content) outcomes
  acked_each u h = acked_as u x.station x.tid (shown_by w x heard) (mpdus_of x.content) outcomes believed h

  count_content : (c : Content) → length outcomes ≡ transmissions c →
      AreShownBy (is_shown wide heard) (mpdus_of c) outcomes →
      count_by (is_shown wide heard) (numbers_sent (record (open_of x) { sending = sending_of c }))
      ≡ count_acked outcomes (record (open_of x) { sending = sending_of c })
  count_content (Request start) few h = refl
  count_content (Frames ms) few h = count_acked_is (is_shown wide heard) (is_shown wide heard) x.unsent 0 ms
      outcomes few (air_shown wide heard) sent h

  pub count_is : count_shown_of v heard (open_of x) ≡ count_acked outcomes (open_of x)
  count_is =
      let same : is_wide_of v x.station x.tid ≡ wide = wide_same v w bodies x.station x.tid st.parts
      (open_live w st.reached e x known) (low_tid v w bodies st e x known) in
      ap (λ (b : Bool). count_shown b heard (numbers_sent (open_of x))) same
      ∙ count_content x.content long shown_each

-- ---- when it is not refused

tests_none : (a b c : Bool) →
    (if not a then Some BadIndex else if not b then Some Marked else if c then Some BadAir else None) ≡ None →
    (a ≡ true) × (b ≡ true) × (c ≡ false)
tests_none false b c h = absurd (cc h)
tests_none true false c h = absurd (cc h)
tests_none true true true h = absurd (cc h)
tests_none true true false h = (refl, refl, refl)

empty : (xs : List ℕ) → (length xs == 0) ≡ true → xs ≡ []
empty [] h = refl
empty (x ∷ xs) h = absurd (omega (arith, eq_yes (length (x ∷ xs)) 0 h))

-- its outcomes are as many as its transmissions, none of which has a mark, and the airtime is in range
pub record IsOpenEach (w : World) (outcomes : List Outcome) (air : Option ℕ) (x : Exchange) : Type 0 where
  pub long : length outcomes ≡ transmissions x.content
  pub unsent : x.unsent ≡ []
  pub given_up : x.given_up ≡ []
  pub fine : is_bad_air w.config air ≡ false

pub open_each : (v : TransmitValue) (w : World) (bodies : ℕ → FrameValue) → StandsFor v w bodies → (e : ℕ)
    (x : Exchange) → exchange w e ≡ Some x → (outcomes : List Outcome) (air : Option ℕ) →
    each_refusal v e outcomes air ≡ None → IsOpenEach w outcomes air x
open_each v w bodies st e x known outcomes air none =
    let found : find (λ y. y.number == e) v.opened ≡ Some (open_of x) =
    exchange_same v w bodies e st.parts ∙ ap (option_map open_of) known in
    let three = tests_none (length outcomes == transmissions_of (sending_of x.content))
    (has_no_mark (open_of x)) (is_bad_air v.config air)
    (sym (ap (λ (o : Option Open). option_map_or (each_fault v.config outcomes air) o (Some NoExchange))
    found)
    ∙ none) in
    let both = and_parts (length x.unsent == 0) (length x.given_up == 0) three.1 in
    record {
      long = eq_yes (length outcomes) (transmissions_of (sending_of x.content)) three.0
          ∙ same_transmissions x.content;
      unsent = empty x.unsent both.0;
      given_up = empty x.given_up both.1;
      fine = ap (λ (c : Config). is_bad_air c air) (sym st.parts.others.config) ∙ three.2;
    }

-- there are at most 256 outcomes then
transmissions_few : (c : Content) → length (mpdus_of c) ≤ 256 → transmissions c ≤ 256
transmissions_few (Frames mpdus) few = few
transmissions_few (Request start) few = omega arith

refused_unknown : (v : TransmitValue) (e : ℕ) (outcomes : List Outcome) (air : Option ℕ) →
    each_refusal v e outcomes air ≡ None → find (λ x. x.number == e) v.opened ≡ None → ⊥
refused_unknown v e outcomes air none is =
    let no : Some NoExchange ≡ None =
    sym (ap (λ (o : Option Open). option_map_or (each_fault v.config outcomes air) o (Some NoExchange)) is) ∙
    none
    in
    cc no

pub few_outcomes : (v : TransmitValue) → IsPath v → (e : ℕ) (outcomes : List Outcome) (air : Option ℕ) →
    each_refusal v e outcomes air ≡ None → length outcomes ≤ 256
few_outcomes v h e outcomes air none = by_found (find (λ x. x.number == e) v.opened) refl
  where
    by_found : (o : Option Open) → find (λ x. x.number == e) v.opened ≡ o → length outcomes ≤ 256
    by_found None is = absurd (refused_unknown v e outcomes air none is)
    by_found (Some o) is =
        let k : IsKnown h.world e o = known_of v h.world h.bodies h.stands e o (sym is) in
        omega (
          arith,
          (open_each v h.world h.bodies h.stands e k.exchange_is k.known outcomes air none).long,
          transmissions_few k.exchange_is.content
              (open_sent h.world h.stands.reached e k.exchange_is k.known).most,
        )

-- ---- a refused end

pub is_refused_each : (p : PathValue) (e : ℕ) (outcomes : List Outcome) (air : Option ℕ) (why : Refusal) →
    IsPath p.half → each_refusal p.half e outcomes air ≡ Some why →
    IsEndedEach p e outcomes air p (briefs.Refused why)
is_refused_each p e outcomes air why h is = record {
  refused = λ reason also. (
    (let same : why ≡ reason = cc (is, also) in ap briefs.Refused same),
    refl,
  );
  driven = λ w bodies caller x pairs ids st un known none. absurd (cc (none, is));
  answered = λ w bodies caller st un none. absurd (cc (none, is));
  acked = λ w bodies caller x st un known none. absurd (cc (none, is));
  counted = λ a w f same. absurd (cc same);
  addresses = refl;
  path = h;
  rises = no_rise p.half;
}

-- ---- its checks

-- x and a are the fields of the path p
module _ {x : TransmitValue} {a : Addresses} {p : PathValue}
    (same : ◌≡◌ {A = PathValue} (record { half = x; addresses = a }) p) (e : ℕ) (outcomes : List Outcome)
    (air : Option ℕ) where
  -- the exchange is not open
  pub unknown_each : None ≡ find (λ y. y.number == e) x.opened → Some NoExchange
      ≡ each_refusal p.half e outcomes air
  unknown_each is = subst (λ (z : TransmitValue). Some NoExchange ≡ each_refusal z e outcomes air)
      (half_is same)
      (ap (λ (o : Option Open). option_map_or (each_fault x.config outcomes air) o (Some NoExchange)) is)

  -- it is o
  module _ (o : Open) (is : Some o ≡ find (λ y. y.number == e) x.opened) where
    found_same : Some o ≡ find (λ y. y.number == e) p.half.opened
    found_same = is ∙ ap (λ (z : TransmitValue). find (λ y. y.number == e) z.opened) (half_is same)

    pub fault_same : (config : Config) → config ≡ p.half.config →
        each_fault config outcomes air o ≡ each_refusal p.half e outcomes air
    fault_same config here = ap (λ (c : Config). each_fault c outcomes air o) here
        ∙ ap (λ (f : Option Open). option_map_or (each_fault p.half.config outcomes air) f (Some NoExchange))
        found_same

    pub heard_same : (h : Option (ℕ × List ℕ)) → h ≡ heard_of o.sending outcomes →
        IfSome (find (λ y. y.number == e) p.half.opened) (λ y. h ≡ heard_of y.sending outcomes)
    heard_same h here = subst (λ (f : Option Open). IfSome f (λ y. h ≡ heard_of y.sending outcomes))
        found_same here

pub long_each : (config : Config) (outcomes : List Outcome) (air : Option ℕ) (o : Open) →
    None ≡ each_fault config outcomes air o → length outcomes ≡ transmissions_of o.sending
long_each config outcomes air o none = eq_yes (length outcomes) (transmissions_of o.sending)
    (tests_none (length outcomes == transmissions_of o.sending) (has_no_mark o) (is_bad_air config air)
    (sym none)).0

-- ---- which transmissions are marked

still_sent : (outcomes : List Outcome) (i j : ℕ) (x : Exchange) → j < i →
    has (all_marked i outcomes x).unsent j ≡ has x.unsent j
still_sent [] i j x less = refl
still_sent (Acked ∷ outcomes) i j x less = still_sent outcomes (suc i) j x (omega (arith, less))
still_sent (Retry ∷ outcomes) i j x less = still_sent outcomes (suc i) j x (omega (arith, less))
still_sent (GaveUp ∷ outcomes) i j x less =
    still_sent outcomes (suc i) j (marked i GaveUp x) (omega (arith, less))
still_sent (Unsent ∷ outcomes) i j x less =
    still_sent outcomes (suc i) j (marked i Unsent x) (omega (arith, less))
    ∙ has_other x.unsent i j (λ e. absurd (omega (arith, e, less)))

acked_sent : (outcomes : List Outcome) (i : ℕ) (x : Exchange) → ((j : ℕ) → i ≤ j → has x.unsent j ≡ false) →
    AckedSent (all_marked i outcomes x).unsent i outcomes
acked_sent [] i x fresh = tt
acked_sent (Acked ∷ outcomes) i x fresh = (
  (λ on. still_sent outcomes (suc i) i x (omega arith) ∙ fresh i (omega arith)),
  acked_sent outcomes (suc i) x (λ j past. fresh j (omega (arith, past))),
)
acked_sent (Retry ∷ outcomes) i x fresh =
    ((λ on. absurd (cc on)), acked_sent outcomes (suc i) x (λ j past. fresh j (omega (arith, past))))
acked_sent (GaveUp ∷ outcomes) i x fresh = (
  (λ on. absurd (cc on)),
  acked_sent outcomes (suc i) (marked i GaveUp x) (λ j past. fresh j (omega (arith, past))),
)
acked_sent (Unsent ∷ outcomes) i x fresh = (
  (λ on. absurd (cc on)),
  acked_sent outcomes (suc i) (marked i Unsent x) (λ j past.
      has_other x.unsent i j (λ e. absurd (omega (arith, e, past))) ∙ fresh j (omega (arith, past))),
)

-- ---- the marks of a path

-- v is the half before the marks, and u after them
module _ (v u : TransmitValue) (e : ℕ) (outcomes : List Outcome) (air : Option ℕ)
    (none : each_refusal v e outcomes air ≡ None) (are : IsMarked v u e 0 outcomes) where
  module _ (w : World) (bodies : ℕ → FrameValue) (caller : ℕ) (x : Exchange) (st : StandsFor v w bodies)
      (un : IsUnheard w) (known : exchange w e ≡ Some x) where
    here : IsOpenEach w outcomes air x
    here = open_each v w bodies st e x known outcomes air none

    fresh : AreFresh 0 x
    fresh j past = ap₂ (λ (a b : List ℕ). has a j || has b j) here.unsent here.given_up

    pub taken : AreAnswered w (marks caller e 0 outcomes)
    taken = marks_answered outcomes w caller e 0 x st.reached un known (omega (arith, here.long)) fresh

    pub so_marked : AreMarked w caller e 0 outcomes x
    so_marked = after_marks outcomes w caller e 0 x st.reached un known taken

    pub stands_then : StandsFor u (world_after w (marks caller e 0 outcomes))
        (bodies_each x 0 outcomes bodies)
    stands_then = are w bodies caller x st un known taken

  -- they raise no count
  pub counts_stay : (h : IsPath v) (n : ℕ) → HasCountsBelow n v → HasCountsBelow n u
  counts_stay h = by_found (find (λ x. x.number == e) v.opened) refl
    where
      by_found : (o : Option Open) → find (λ x. x.number == e) v.opened ≡ o → (n : ℕ) → HasCountsBelow n v →
          HasCountsBelow n u
      by_found None is = absurd (refused_unknown v e outcomes air none is)
      by_found (Some o) is =
          let k : IsKnown h.world e o = known_of v h.world h.bodies h.stands e o (sym is) in
          counts_kept v u h.world (world_after h.world (marks 0 e 0 outcomes)) h.bodies
          (bodies_each k.exchange_is 0 outcomes h.bodies) h.stands
          (stands_then h.world h.bodies 0 k.exchange_is h.stands h.unheard k.known)
          (so_marked h.world h.bodies 0 k.exchange_is h.stands h.unheard k.known).counts

-- ---- the whole end

answered_both : (xs ys : List Entry) (w : World) → AreAnswered w xs → AreAnswered (world_after w xs) ys →
    AreAnswered w (xs ++ ys)
unfolding world_after
answered_both [] ys w h k = k
answered_both (x ∷ xs) ys w h k = (h.0, answered_both xs ys (step w x.1).world h.1 k)

-- p is the path before, r after the marks, and q after the end
module _ (p r q : PathValue) (e : ℕ) (outcomes : List Outcome) (air : Option ℕ)
    (heard : Option (ℕ × List ℕ)) (b : Brief) (path : IsPath p.half)
    (none : each_refusal p.half e outcomes air ≡ None)
    (by : IfSome (find (λ x. x.number == e) p.half.opened) (λ x. heard ≡ heard_of x.sending outcomes))
    (are : IsMarked p.half r.half e 0 outcomes) (addresses : r.addresses ≡ p.addresses)
    (ended : IsEnded r e heard air q b) where
  module _ (w : World) (bodies : ℕ → FrameValue) (caller : ℕ) (x : Exchange) (st : StandsFor p.half w bodies)
      (un : IsUnheard w) (known : exchange w e ≡ Some x) where
    abbrev after : World
    after = world_after w (marks caller e 0 outcomes)

    abbrev z : Exchange
    z = all_marked 0 outcomes x

    -- the calls that the acknowledgements imply, if the exchange is a batch or not
    abbrev rest : Bool → List Entry
    rest batch =
        arrivals caller e (indices_acked 0 outcomes) ++ answer_inferred batch caller e
        (indices_acked 0 outcomes)

    open_here : IsOpenEach w outcomes air x
    open_here = open_each p.half w bodies st e x known outcomes air none

    k : AreMarked w caller e 0 outcomes x
    k = so_marked p.half r.half e outcomes air none are w bodies caller x st un known

    now : StandsFor r.half after (bodies_each x 0 outcomes bodies)
    now = stands_then p.half r.half e outcomes air none are w bodies caller x st un known

    same : IsSameElse z x
    same = marked_else outcomes 0 x

    batch_is : z.batch ≡ is_batch (exchange w e)
    batch_is = same.batch ∙ sym (ap is_batch known)

    long : length outcomes ≡ transmissions z.content
    long = open_here.long ∙ sym (ap transmissions same.content)

    sent : AckedSent z.unsent 0 outcomes
    sent = acked_sent outcomes 0 x (λ j past. ap (λ (l : List ℕ). has l j) open_here.unsent)

    fine : is_bad_air after.config air ≡ false
    fine = ap (λ (c : Config). is_bad_air c air) (config_run (marks caller e 0 outcomes) w) ∙ open_here.fine

    heard_is : heard ≡ heard_of (sending_of z.content) outcomes
    heard_is =
        let found : find (λ y. y.number == e) p.half.opened ≡ Some (open_of x) =
        exchange_same p.half w bodies e st.parts ∙ ap (option_map open_of) known in
        subst (λ (o : Option Open). IfSome o (λ y. heard ≡ heard_of y.sending outcomes)) found by
        ∙ ap (λ (c : Content). heard_of (sending_of c) outcomes) (sym same.content)

    outcome_same : outcome_after_done after caller e heard air ≡ outcome_each w caller e outcomes air
    outcome_same =
        ap (ended_by after caller e heard air) k.known
        ∙ ap (λ (h : Option (ℕ × List ℕ)). ended_by after caller e h air (Some z)) heard_is
        ∙ outcome_is r.half after (bodies_each x 0 outcomes bodies) now k.unheard e z k.known outcomes long
        sent air
        fine caller
        ∙ ap (λ (o : World). step o (done_by e outcomes air))
        (sym (world_after-append (marks caller e 0 outcomes) w (rest z.batch)))
        ∙ ap (λ (batch : Bool). step (world_after w (calls_before_done batch caller e outcomes))
        (done_by e outcomes air)) batch_is

    driven_each : (pairs : List (ℕ × ℕ)) (ids : List ℕ) →
        MeetsUnheard (bodies_each x 0 outcomes bodies) (outcome_each w caller e outcomes air) q.half
        (reply_with b pairs ids)
    driven_each pairs ids = subst (λ (o : MachineOutcome). MeetsUnheard (bodies_each x 0 outcomes bodies) o
        q.half
        (reply_with b pairs ids)) outcome_same
        (ended.driven after (bodies_each x 0 outcomes bodies) caller pairs ids now k.unheard)

    answered_each : AreAnswered w (calls_before_done (is_batch (exchange w e)) caller e outcomes)
    answered_each = subst (λ (batch : Bool). AreAnswered w (calls_before_done batch caller e outcomes))
        batch_is (answered_both (marks caller e 0 outcomes) (rest z.batch) w
        (taken p.half r.half e outcomes air none are w bodies caller x st un known)
        (implied_answered r.half after (bodies_each x 0 outcomes bodies) now k.unheard e z k.known outcomes
        long sent
        air fine caller))

    may : IsAllowed after z heard air
    may = subst (λ (h : Option (ℕ × List ℕ)). IsAllowed after z h air) (sym heard_is)
        (may_end r.half after (bodies_each x 0 outcomes bodies) now k.unheard e z k.known outcomes long sent
        air fine)

    acked_by : AreAckedBy (outcome_each w caller e outcomes air).world x.station x.tid (mpdus_of x.content)
        outcomes
    acked_by =
        let where_shown : AreAckedWhere (outcome_after_done after caller e heard air).world
        (shown_by after z heard) z =
        acked_where_shown r.half after (bodies_each x 0 outcomes bodies) now k.unheard caller e z k.known air
        heard may
        in
        let there : AreAckedBy (outcome_each w caller e outcomes air).world z.station z.tid
        (mpdus_of z.content)
        outcomes =
        acked_each r.half after (bodies_each x 0 outcomes bodies) now k.unheard e z k.known outcomes long
        sent air fine
        (outcome_each w caller e outcomes air).world
        (subst (λ (o : MachineOutcome). AreAckedWhere o.world
        (shown_by after z (heard_of (sending_of z.content) outcomes)) z) outcome_same
        (subst (λ (h : Option (ℕ × List ℕ)). AreAckedWhere (outcome_after_done after caller e heard air).world
        (shown_by after z h) z) heard_is where_shown)) in
        let u : World = (outcome_each w caller e outcomes air).world in
        subst (λ (c : Content). AreAckedBy u x.station x.tid (mpdus_of c) outcomes) same.content
        (subst (λ (t : ℕ). AreAckedBy u x.station t (mpdus_of z.content) outcomes) same.tid
        (subst (λ (s : ℕ). AreAckedBy u s z.tid (mpdus_of z.content) outcomes) same.station there))

    counted_here : (acked waiting failed : ℕ) → b ≡ briefs.Done acked waiting failed →
        acked ≡ count_acked outcomes (open_of x)
    counted_here acked waiting failed is =
        let found : find (λ y. y.number == e) r.half.opened ≡ Some (open_of z) =
        exchange_same r.half after (bodies_each x 0 outcomes bodies) e now.parts ∙ ap (option_map open_of)
        k.known in
        subst (λ (o : Option Open). IfSome o (λ y. acked ≡ count_shown_of r.half heard y)) found
        (ended.acked acked waiting failed is)
        ∙ ap (λ (h : Option (ℕ × List ℕ)). count_shown_of r.half h (open_of z)) heard_is
        ∙ count_is r.half after (bodies_each x 0 outcomes bodies) now k.unheard e z k.known outcomes long
        sent air fine
        ∙ ap (λ (c : Content). if sending_is_request (sending_of c) then 0 else length
        (indices_acked 0 outcomes))
        same.content

  counted_each : (acked waiting failed : ℕ) → b ≡ briefs.Done acked waiting failed →
      IfSome (find (λ x. x.number == e) p.half.opened) (λ x. acked ≡ count_acked outcomes x)
  counted_each acked waiting failed is = by_found (find (λ x. x.number == e) p.half.opened) refl
    where
      by_found : (o : Option Open) → find (λ x. x.number == e) p.half.opened ≡ o →
          IfSome o (λ x. acked ≡ count_acked outcomes x)
      by_found None is_open = tt
      by_found (Some o) is_open =
          let i : IsKnown path.world e o = known_of p.half path.world path.bodies path.stands e o
          (sym is_open) in
          counted_here path.world path.bodies 0 i.exchange_is path.stands path.unheard i.known acked waiting
          failed
          is ∙ ap (count_acked outcomes) (sym i.same)

  pub is_ended_each : IsEndedEach p e outcomes air q b
  is_ended_each = record {
    refused = λ why is. absurd (cc (none, is));
    driven = λ w bodies caller x pairs ids st un known _. driven_each w bodies caller x st un known pairs ids;
    answered = λ w bodies caller st un _. by_open w bodies caller st un (exchange w e) refl;
    acked = λ w bodies caller x st un known _. acked_by w bodies caller x st un known;
    counted = counted_each;
    addresses = ended.addresses ∙ addresses;
    path = ended.path;
    rises = λ n small. ended.rises n (counts_stay p.half r.half e outcomes air none are path n small);
  }
    where
      by_open : (w : World) (bodies : ℕ → FrameValue) (caller : ℕ) → StandsFor p.half w bodies → IsUnheard w →
          (o : Option Exchange) → exchange w e ≡ o →
          AreAnswered w (calls_before_done (is_batch (exchange w e)) caller e outcomes)
      by_open w bodies caller st un None is = absurd (refused_unknown p.half e outcomes air none
          (exchange_same p.half w bodies e st.parts ∙ ap (option_map open_of) is))
      by_open w bodies caller st un (Some x) is = answered_each w bodies caller x st un is
