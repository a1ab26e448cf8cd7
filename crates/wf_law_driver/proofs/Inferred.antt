-- Proves the law of inferred calls: the arrivals after them give the bits of the answer, and
-- from that what the Done acknowledges.
use Rattle.std.proofs.Common.{◌≡◌, refl, ap, sym, ◌∙◌, subst, arith, ℕ, suc, ◌+◌, ◌*◌, ◌<◌, ◌≤◌, ◌==◌, nat_lt, Bool, true, false, not, ◌&&◌, ◌↔◌, inl, inr, List, [], ◌∷◌, ◌++◌, length, map, Option, Some, None, IfSome}
use Rattle.wf_frame.specs.declared.settings.Config.{Config}
use Rattle.wf_frame.specs.declared.notes.Ask.TheVariants.{Done}
use Rattle.wf_frame.specs.declared.notes.Note.{Note}
use Rattle.wf_frame.specs.declared.notes.Note.TheVariants.{Asked}
use Rattle.wf_def_lists.specs.Table.{has}
use Rattle.wf_def_agreement.specs.Receiver.{Receiver, Score, shows}
use Rattle.wf_def_agreement.specs.Session.{Session, State, slot, next_number}
use Rattle.wf_law_rules.proofs.Lemmas.Numbers.{on_bool, same_bool, yes_lt}
use Rattle.wf_def_world.specs.World.{World, Exchange, Mpdu, Content, session, receiver, is_live, exchange, opening}
use Rattle.wf_def_world.specs.CanSend.{is_request}
use Rattle.wf_def_world.specs.Exchanges.{transmissions, numbers_unsent, numbers_arrived, number_at, mpdus_of}
use Rattle.wf_def_world.specs.Refusals.{refusal}
use Rattle.wf_frame.specs.Settings.{is_bad_air}
use Rattle.wf_def_world.specs.Step.{step}
use Rattle.wf_def_world.specs.Run.{Entry, by, world_after}
use Rattle.wf_law_runs.specs.Kept.{KeepsByCall}
use Rattle.wf_law_runs.specs.Sent.{NumbersRise, IsSent}
use Rattle.wf_law_runs.specs.Windows.{EachMpdu, IsOpenRight, KeepsWindows, Settles}
use Rattle.wf_law_runs.proofs.Windows.Agreement.{below_next}
use Rattle.wf_law_runs.proofs.Windows.Opened.{Each, each_map, each_find, left_true}
use Rattle.wf_law_runs.proofs.Windows.Agreed.{IsLawful, IsOpenIn, lawful}
use Rattle.wf_law_runs.proofs.Deficits.Configs.{config_run}
use Rattle.wf_law_runs.proofs.Frames.Fates.{world_after-append}
use Rattle.wf_law_driver.specs.Inferred.{ShowsSent, is_wholly_unsent, arrivals, answer_inferred, indices_inferred, inferred, tells, AreAnswered, AreAckedWhere, KeepsAnswer, KeepsArrived, IsInferred, InferredLaw}
use Rattle.wf_law_driver.specs.Unheard.{IsUnmarked, HasAcked, IsUnheard}
use Rattle.wf_law_driver.proofs.Opened.{one_entry, to_each, of_each, found_each, found_number, some_at}
use Rattle.wf_law_driver.proofs.Arrivals.{IsAmong, AreIndices, AreIn, AreNotIn, IsOther, IsAfter, AllInferred, all_inferred}
use Rattle.wf_law_driver.proofs.Indices.{both_mpdu, each_mpdu, inferred_rise, inferred_shown, shown_inferred, inferred_not_in, among_each, among_in}
use Rattle.wf_law_driver.proofs.Ended.{windows_after, sent_after, kept_after, live_acked, live_flying, kept_acked, IsEnded, ended_step, batch_settled, lacks_answer, batch_lacks_none, answered_lacks_none, may_end_lost, may_end_told}

-- ---- the numbers of an open exchange

-- the number was given, and is flying in e
record Flies (w : World) (s t e n : ℕ) : Type 0 where
  from : (session w s t).first ≤ n
  flying : (slot (session w s t) n).state ≡ State.Flying e

rising_from : (lo bottom : ℕ) (ms : List Mpdu) → bottom ≤ lo → NumbersRise lo ms →
    EachMpdu (λ m. bottom ≤ m.number) ms
rising_from lo bottom [] h r = tt
rising_from lo bottom (m ∷ ms) h r = (
  omega (arith, r.0),
  rising_from (suc m.number) bottom ms (omega (arith, r.0)) r.1,
)

all_fly : (w : World) (e : ℕ) (x : Exchange) → x.number ≡ e → IsSent w x →
    IsOpenRight (session w x.station x.tid) (receiver w x.station x.tid) x →
    EachMpdu (λ m. Flies w x.station x.tid e m.number) (mpdus_of x.content)
all_fly w e x n sent right =
    let y : Session = session w x.station x.tid in
    both_mpdu (λ m. y.first ≤ m.number) (λ m. (slot y m.number).state ≡ State.Flying x.number)
    (λ m. Flies w x.station x.tid e m.number) (mpdus_of x.content)
    (λ m l f. record { from = l; flying = f ∙ ap State.Flying n })
    (rising_from y.first y.first (mpdus_of x.content) (omega arith) sent.rising) right.flies

-- it has not arrived in an unheard world
not_arrived : (w : World) (s t e n : ℕ) → IsUnheard w → Flies w s t e n →
    has (receiver w s t).arrived n ≡ true → ⊥
not_arrived w s t e n un f h = cc ((un.acked s t n h).acked, f.flying)

-- a number that was acknowledged before stays so
stays_acked : (w u : World) (note : Note) (i j n : ℕ) → session u i j ≡ session w i j → KeepsByCall u note →
    is_live (step u note).world i ≡ is_live u i → HasAcked (session w i j) n →
    HasAcked (session (step u note).world i j) n
stays_acked w u note i j n same k live h =
    let before : HasAcked (session u i j) n = subst (λ (y : Session). HasAcked y n) (sym same) h in
    let is : is_live u i ≡ true = live_acked u i j n before in
    kept_acked (session u i j) (session (step u note).world i j) n (k.numbers i j is (live ∙ is)) before

others_marked : (w : World) (e : ℕ) → IsUnheard w → Each (IsOther e) w.opened
others_marked w e un = each_map IsUnmarked (IsOther e) w.opened (λ y h _. h)
    (to_each IsUnmarked w.opened un.marks)

-- ---- after the inferred calls

both_hold : (a b : Bool) → a ≡ true → b ≡ false → (a && not b) ≡ true
both_hold true false h k = refl
both_hold true true h k = absurd (cc k)
both_hold false b h k = absurd (cc h)

-- w is an unheard world of a run, in which exchange e is x, and u is the world after the inferred calls,
-- which is a world of a run too
record IsBetween (w u : World) (e : ℕ) (shown : ℕ → Bool) (x last : Exchange) (air : Option ℕ) : Type 0 where
  un : IsUnheard w
  found : exchange w e ≡ Some x
  fly : EachMpdu (λ m. Flies w x.station x.tid e m.number) (mpdus_of x.content)
  after : IsAfter e x last (IsAmong x.content (indices_inferred shown x.content)) w u
  sent : ShowsSent shown x
  fine : is_bad_air u.config air ≡ false

module _ (w u : World) (e : ℕ) (shown : ℕ → Bool) (x last : Exchange) (air : Option ℕ)
    (k : IsBetween w u e shown x last air) where
  abbrev Inferred : ℕ → Type 0
  Inferred n = IsAmong x.content (indices_inferred shown x.content) n

  abbrev Arrived : ℕ → Type 0
  Arrived n = has (receiver u x.station x.tid).arrived n ≡ true

  -- a number has arrived if and only if it is shown
  arrived_as_shown : EachMpdu (λ m. has (receiver u x.station x.tid).arrived m.number ≡ shown m.number)
      (mpdus_of x.content)
  arrived_as_shown =
      both_mpdu (λ m. Flies w x.station x.tid e m.number) (λ m. shown m.number ≡ true → Inferred m.number)
      (λ m. has (receiver u x.station x.tid).arrived m.number ≡ shown m.number) (mpdus_of x.content)
      (λ m f inferred_of. same_bool (has (receiver u x.station x.tid).arrived m.number) (shown m.number)
      (λ h. elim (k.after.old x.station x.tid m.number h) [
        | inl was ↦ absurd (not_arrived w x.station x.tid e m.number k.un f was)
        | inr is ↦ inferred_shown shown x.content m.number is.2
      ])
      (λ yes. k.after.new (live_flying w x.station x.tid m.number e f.flying) m.number (inferred_of yes)))
      k.fly (shown_inferred shown x.content)

  abbrev done_world : World
  done_world = (step u (Asked (Done e true air))).world

  -- the numbers of the exchange that have arrived and went on the air are acknowledged
  abbrev SettlesSent : Type 0
  SettlesSent = EachMpdu (λ m. ((slot (session done_world x.station x.tid) m.number).state ≡ State.Acked) ↔
      (has (receiver u x.station x.tid).arrived m.number && not (has (numbers_unsent x) m.number) ≡ true))
      (mpdus_of x.content)

  -- ---- an exchange that keeps an answer

  -- the kept answer shows the numbers that have arrived
  answer_shows : (b : Score) → last.answer ≡ Some b → KeepsWindows u →
      EachMpdu (λ m. shows b m.number
      ≡ has (receiver u x.station x.tid).arrived m.number) (mpdus_of x.content)
  answer_shows b kept windows =
      let y : Session = session u last.station last.tid in
      let r : Receiver = receiver u last.station last.tid in
      let right : IsOpenRight y r last = found_each
      (λ z. IsOpenRight (session u z.station z.tid) (receiver u z.station z.tid) z) u e last k.after.found
      windows.opened in
      let said = subst (λ (o : Option Score). IfSome o
      (λ a. EachMpdu (λ m. (shows a m.number ≡ has r.arrived m.number) × (a.start ≤ m.number) ×
      (m.number < a.start + 2 * y.size)) (mpdus_of last.content))) kept right.answer in
      subst (λ (z : Exchange). EachMpdu (λ m. shows b m.number
      ≡ has (receiver u z.station z.tid).arrived m.number) (mpdus_of z.content)) k.after.same
      (each_mpdu (λ m. (shows b m.number ≡ has r.arrived m.number) × (b.start ≤ m.number) ×
      (m.number < b.start + 2 * y.size)) (λ m. shows b m.number ≡ has r.arrived m.number)
      (mpdus_of last.content) (λ m h. h.0) said)

  keeps_answer : (b : Score) → last.answer ≡ Some b → KeepsWindows u → KeepsAnswer u e shown x
  keeps_answer b kept windows = record {
    marked = last;
    answer = b;
    open_now = k.after.found;
    same = k.after.same;
    kept = kept;
    shows = both_mpdu (λ m. shows b m.number ≡ has (receiver u x.station x.tid).arrived m.number)
        (λ m. has (receiver u x.station x.tid).arrived m.number ≡ shown m.number)
        (λ m. shows b m.number ≡ shown m.number) (mpdus_of x.content)
        (λ m h g. h ∙ g) (answer_shows b kept windows) arrived_as_shown;
  }

  answer_settles : (b : Score) → last.answer ≡ Some b → KeepsWindows u → SettlesSent
  answer_settles b kept windows =
      let r : Receiver = receiver u last.station last.tid in
      let y : Session = session done_world last.station last.tid in
      let all : Settles u e last = some_at (Settles u e) (exchange u e) last k.after.found
      (windows.settles e) in
      let said = subst (λ (o : Option Score). IfSome o
      (λ _. EachMpdu (λ m. ((slot y m.number).state ≡ State.Acked) ↔
      (has r.arrived m.number && not (has (numbers_unsent last) m.number) ≡ true))
      (mpdus_of last.content))) kept (all air k.fine) in
      subst (λ (z : Exchange). EachMpdu (λ m. ((slot (session done_world z.station z.tid) m.number).state
      ≡ State.Acked) ↔ (has (receiver u z.station z.tid).arrived m.number
      && not (has (numbers_unsent z) m.number) ≡ true)) (mpdus_of z.content))
      k.after.same said

  -- ---- a batch

  -- a number of a batch arrived if and only if its receiver has it
  batch_arrived : x.batch ≡ true → IsOpenIn u last → AreIn last.arrived (indices_inferred shown x.content) →
      EachMpdu (λ m. has (numbers_arrived last) m.number ≡ has (receiver u x.station x.tid).arrived m.number)
      (mpdus_of x.content)
  batch_arrived batch o reached =
      let content : last.content ≡ x.content = ap (λ (z : Exchange). z.content) k.after.same in
      let batch_last : last.batch ≡ true = ap (λ (z : Exchange). z.batch) k.after.same ∙ batch in
      let receives : receiver u last.station last.tid ≡ receiver u x.station x.tid =
      ap (λ (z : Exchange). receiver u z.station z.tid) k.after.same in
      both_mpdu (λ m. has (receiver u x.station x.tid).arrived m.number ≡ shown m.number)
      (λ m. shown m.number ≡ true → Inferred m.number)
      (λ m. has (numbers_arrived last) m.number ≡ has (receiver u x.station x.tid).arrived m.number)
      (mpdus_of x.content)
      (λ m same inferred_of. same_bool (has (numbers_arrived last) m.number)
      (has (receiver u x.station x.tid).arrived m.number)
      (λ h. ap (λ (r : Receiver). has r.arrived m.number) (sym receives)
      ∙ o.opened.reached (o.right.frames batch_last) m.number h)
      (λ yes. ap (λ (c : Content). has (map (number_at c) last.arrived) m.number) content
      ∙ among_in x.content last.arrived (indices_inferred shown x.content) m.number reached
      (inferred_of (sym same ∙ yes))))
      arrived_as_shown (shown_inferred shown x.content)

  keeps_arrived : x.batch ≡ true → IsOpenIn u last → AreIn last.arrived (indices_inferred shown x.content) →
      KeepsArrived u e shown x
  keeps_arrived batch o reached = record {
    marked = last;
    open_now = k.after.found;
    same = k.after.same;
    arrived =
        both_mpdu (λ m. has (numbers_arrived last) m.number
        ≡ has (receiver u x.station x.tid).arrived m.number)
        (λ m. has (receiver u x.station x.tid).arrived m.number ≡ shown m.number)
        (λ m. has (numbers_arrived last) m.number ≡ shown m.number) (mpdus_of x.content)
        (λ m h g. h ∙ g) (batch_arrived batch o reached) arrived_as_shown;
  }

  batch_settles : x.batch ≡ true → IsOpenIn u last → AreIn last.arrived (indices_inferred shown x.content) →
      refusal u (Asked (Done e true air)) ≡ None → SettlesSent
  batch_settles batch o reached may =
      let batch_last : last.batch ≡ true = ap (λ (z : Exchange). z.batch) k.after.same ∙ batch in
      let said = batch_settled u e last true air k.after.found batch_last o may in
      both_mpdu (λ m. ((slot (session done_world x.station x.tid) m.number).state ≡ State.Acked) ↔
      (has (numbers_arrived last) m.number && not (has (numbers_unsent x) m.number) ≡ true))
      (λ m. has (numbers_arrived last) m.number ≡ has (receiver u x.station x.tid).arrived m.number)
      (λ m. ((slot (session done_world x.station x.tid) m.number).state ≡ State.Acked) ↔
      (has (receiver u x.station x.tid).arrived m.number && not (has (numbers_unsent x) m.number) ≡ true))
      (mpdus_of x.content)
      (λ m h same.
      let both_same = ap (λ (b : Bool). b && not (has (numbers_unsent x) m.number)) same in
      ((λ a. sym both_same ∙ h.0 a), (λ a. h.1 (both_same ∙ a))))
      (subst (λ (z : Exchange). EachMpdu (λ m.
      ((slot (session done_world z.station z.tid) m.number).state ≡ State.Acked) ↔
      (has (numbers_arrived last) m.number && not (has (numbers_unsent z) m.number) ≡ true))
      (mpdus_of z.content)) k.after.same said)
      (batch_arrived batch o reached)

  -- ---- after the Done

  -- a number that has arrived is shown, so it went on the air
  arrived_sent : EachMpdu (λ m. Arrived m.number → has (numbers_unsent x) m.number ≡ false)
      (mpdus_of x.content)
  arrived_sent =
      both_mpdu (λ m. has (receiver u x.station x.tid).arrived m.number ≡ shown m.number)
      (λ m. shown m.number ≡ true → has (numbers_unsent x) m.number ≡ false)
      (λ m. Arrived m.number → has (numbers_unsent x) m.number ≡ false) (mpdus_of x.content)
      (λ m same on_air h. on_air (sym same ∙ h)) arrived_as_shown k.sent.numbers

  -- the numbers of the exchange that have arrived are acknowledged
  settled : SettlesSent → EachMpdu (λ m.
      ((slot (session done_world x.station x.tid) m.number).state ≡ State.Acked) ↔ Arrived m.number)
      (mpdus_of x.content)
  settled settles =
      both_mpdu (λ m. ((slot (session done_world x.station x.tid) m.number).state ≡ State.Acked) ↔
      (has (receiver u x.station x.tid).arrived m.number && not (has (numbers_unsent x) m.number) ≡ true))
      (λ m. Arrived m.number → has (numbers_unsent x) m.number ≡ false)
      (λ m. ((slot (session done_world x.station x.tid) m.number).state ≡ State.Acked) ↔ Arrived m.number)
      (mpdus_of x.content)
      (λ m h on_air. (
        (λ acked. left_true (has (receiver u x.station x.tid).arrived m.number)
            (not (has (numbers_unsent x) m.number)) (h.0 acked)),
        (λ arrived. h.1 (both_hold (has (receiver u x.station x.tid).arrived m.number)
            (has (numbers_unsent x) m.number) arrived (on_air arrived))),
      ))
      settles arrived_sent

  acked_as_shown : SettlesSent → AreAckedWhere done_world shown x
  acked_as_shown settles =
      both_mpdu (λ m. ((slot (session done_world x.station x.tid) m.number).state ≡ State.Acked) ↔
      Arrived m.number) (λ m. has (receiver u x.station x.tid).arrived m.number ≡ shown m.number)
      (λ m. ((slot (session done_world x.station x.tid) m.number).state ≡ State.Acked) ↔
      (shown m.number ≡ true)) (mpdus_of x.content)
      (λ m h same. ((λ a. sym same ∙ h.0 a), (λ yes. h.1 (same ∙ yes)))) (settled settles) arrived_as_shown

  inferred_acked : SettlesSent → KeepsByCall u (Asked (Done e true air)) → IsEnded e u done_world → (n : ℕ) →
      Inferred n → Arrived n → HasAcked (session done_world x.station x.tid) n
  inferred_acked settles calls ended n among arrived =
      let y : Session = session u x.station x.tid in
      let z : Session = session done_world x.station x.tid in
      let is : List ℕ = indices_inferred shown x.content in
      let rise : AreIndices 0 (transmissions x.content) is = inferred_rise shown x.content in
      let f : Flies w x.station x.tid e n = among_each
      (λ i. Flies w x.station x.tid e i) x.content 0 is n rise among k.fly in
      let acked : (slot z n).state ≡ State.Acked = (among_each
      (λ i. ((slot z i).state
      ≡ State.Acked) ↔ Arrived i) x.content 0 is n rise among (settled settles)).1 arrived
      in
      let same : y ≡ session w x.station x.tid = k.after.sessions x.station x.tid in
      let from : y.first ≤ n = omega (arith, ap (λ (a : Session). a.first) same, f.from) in
      let flying : (slot y n).state ≡ State.Flying e =
      ap (λ (a : Session). (slot a n).state) same ∙ f.flying in
      let live : is_live u x.station ≡ true = live_flying u x.station x.tid n e flying in
      let numbers = calls.numbers x.station x.tid live (ended.live x.station ∙ live) in
      record {
        from = omega (arith, from, numbers.first);
        below = omega (arith, below_next y n from (λ h. cc (h, flying)), numbers.next);
        acked = acked;
      }

  heard_unheard : SettlesSent → KeepsByCall u (Asked (Done e true air)) →
      refusal u (Asked (Done e true air)) ≡ None → IsUnheard done_world
  heard_unheard settles calls fine =
      let ended : IsEnded e u done_world = ended_step u e last true air k.after.found fine in
      let here : (i j n : ℕ) → has (receiver u i j).arrived n ≡ true → x.station ≡ i → x.tid ≡ j →
      Inferred n →
      HasAcked (session done_world i j) n = λ i j n h s t is.
      subst (λ (a : ℕ). HasAcked (session done_world a j) n) s
      (subst (λ (c : ℕ). HasAcked (session done_world x.station c) n) t
      (inferred_acked settles calls ended n is (subst (λ (c : ℕ). has (receiver u x.station c).arrived n
      ≡ true)
      (sym t)
      (subst (λ (a : ℕ). has (receiver u a j).arrived n ≡ true) (sym s) h)))) in
      record {
        marks = of_each IsUnmarked done_world.opened (ended.marks (k.after.others (others_marked w e k.un)));
        acked = λ i j n h.
            let had : has (receiver u i j).arrived n ≡ true =
            ap (λ (xs : List ℕ). has xs n) (sym (ended.arrived i j)) ∙ h in
            elim (k.after.old i j n had) [
              | inl was ↦ stays_acked w u (Asked (Done e true air)) i j n (k.after.sessions i j) calls
                  (ended.live i) (k.un.acked i j n was)
              | inr is ↦ here i j n had is.0 is.1 is.2
            ];
      }

-- a Done that is not heard
lost_unheard : (w : World) (e : ℕ) (x : Exchange) (air : Option ℕ) → IsUnheard w →
    KeepsByCall w (Asked (Done e false air)) → exchange w e ≡ Some x → is_bad_air w.config air ≡ false
    → IsUnheard (step w (Asked (Done e false air))).world
lost_unheard w e x air un calls found fine =
    let v : World = (step w (Asked (Done e false air))).world in
    let ended : IsEnded e w v = ended_step w e x false air found (may_end_lost w e x air found fine) in
    record {
      marks = of_each IsUnmarked v.opened (ended.marks (others_marked w e un));
      acked = λ i j n h. stays_acked w w (Asked (Done e false air)) i j n refl calls (ended.live i)
          (un.acked i j n (ap (λ (xs : List ℕ). has xs n) (sym (ended.arrived i j)) ∙ h));
    }

-- an open exchange of a run
open_found : (w : World) (e : ℕ) (x : Exchange) → exchange w e ≡ Some x → IsLawful w → IsOpenIn w x
open_found w e x found i = some_at (IsOpenIn w) (exchange w e) x found
    (each_find (IsOpenIn w) (IsOpenIn w) (λ y. y.number == e) w.opened (λ y _ o. o) i.opened)

-- ---- the law

after_none : (w : World) → world_after w [] ≡ w
unfolding world_after
after_none w = refl

module _ (config : Config) (h : List Entry) (caller e : ℕ) (shown : ℕ → Bool) (air : Option ℕ) (x : Exchange)
    (un : IsUnheard (world_after (opening config) h))
    (found : exchange (world_after (opening config) h) e ≡ Some x) (sent : ShowsSent shown x)
    (fine : is_bad_air (world_after (opening config) h).config air ≡ false) where
  abbrev w : World
  w = world_after (opening config) h

  abbrev entries : List Entry
  entries = inferred caller e shown x.batch x.content

  fly : EachMpdu (λ m. Flies w x.station x.tid e m.number) (mpdus_of x.content)
  fly = all_fly w e x (found_number w e x found) (found_each (IsSent w) w e x found (sent_after config h))
      (found_each (λ y. IsOpenRight (session w y.station y.tid) (receiver w y.station y.tid) y) w e x found
      (windows_after config h).opened)

  open_now : IsOpenIn w x
  open_now = open_found w e x found (lawful config h)

  -- a request of which nothing went on the air is not shown: it is no batch
  request_sent : is_request x.content ≡ true → is_wholly_unsent x ≡ false
  request_sent asks = on_bool x.batch
      (λ yes. absurd (cc (asks, open_now.right.frames yes))) (λ no. sent.some no)

  -- if some number is shown
  inferred_any : (i : ℕ) (is : List ℕ) → indices_inferred shown x.content ≡ i ∷ is →
      IsInferred w caller e shown air x
  inferred_any i is some =
      let u : World = world_after w entries in
      let k : AllInferred x.batch caller e x (indices_inferred shown x.content) w =
      subst (λ (js : List ℕ). AllInferred x.batch caller e x js w) (sym some)
      (all_inferred x.batch i is caller e w x found refl (found_each IsUnmarked w e x found un.marks)
      (subst (AreIndices 0 (transmissions x.content)) some (inferred_rise shown x.content))
      (subst (AreNotIn x.unsent) some
      (inferred_not_in x.unsent shown x.content sent.numbers request_sent))) in
      let later : world_after (opening config) (h ++ entries) ≡ u =
      world_after-append h (opening config) entries in
      let may : is_bad_air u.config air ≡ false =
      ap (λ (c : Config). is_bad_air c air) (config_run entries w) ∙ fine in
      let between : IsBetween w u e shown x k.last air = record {
        un = un;
        found = found;
        fly = fly;
        after = k.after;
        sent = sent;
        fine = may;
      } in
      let windows : KeepsWindows u = subst KeepsWindows later (windows_after config (h ++ entries)) in
      let open_last : IsOpenIn u k.last =
      open_found u e k.last k.after.found (subst IsLawful later (lawful config (h ++ entries))) in
      let calls : KeepsByCall u (Asked (Done e true air)) =
      subst (λ (v : World). KeepsByCall v (Asked (Done e true air))) later
      (kept_after config (h ++ entries) (Asked (Done e true air))) in
      let heard : tells shown x.content ≡ true = ap (λ (js : List ℕ). nat_lt 0 (length js)) some
      ∙ yes_lt 0 (length (i ∷ is)) (omega arith) in
      let told : lacks_answer k.last ≡ false = on_bool x.batch
      (λ yes. batch_lacks_none k.last (ap (λ (z : Exchange). z.batch) k.after.same ∙ yes))
      (λ no. answered_lacks_none k.last k.answer (k.kept no)) in
      let ends : refusal u (Asked (Done e true air)) ≡ None =
      may_end_told u e k.last air k.after.found told may in
      let settles : SettlesSent w u e shown x k.last air between = on_bool x.batch
      (λ yes. batch_settles w u e shown x k.last air between yes open_last k.reached ends)
      (λ no. answer_settles w u e shown x k.last air between k.answer (k.kept no) windows) in
      record {
        answered = k.answered;
        keeps = λ no _. keeps_answer w u e shown x k.last air between k.answer (k.kept no) windows;
        arrived = λ yes. keeps_arrived w u e shown x k.last air between yes open_last k.reached;
        ends = subst (λ (b : Bool). refusal u (Asked (Done e b air)) ≡ None) (sym heard) ends;
        acked = subst (λ (b : Bool). AreAckedWhere (step u (Asked (Done e b air))).world shown x) (sym heard)
            (acked_as_shown w u e shown x k.last air between settles);
        unheard = subst (λ (b : Bool). IsUnheard (step u (Asked (Done e b air))).world) (sym heard)
            (heard_unheard w u e shown x k.last air between settles calls ends);
      }

  -- if no number is shown, none has arrived, so the Done acknowledges none
  none_acked : indices_inferred shown x.content ≡ [] →
      AreAckedWhere (step w (Asked (Done e false air))).world shown x
  none_acked none =
      let v : World = (step w (Asked (Done e false air))).world in
      let note : Note = Asked (Done e false air) in
      let later : world_after (opening config) (h ++ by caller note ∷ []) ≡ v =
      world_after-append h (opening config) (by caller note ∷ []) ∙ one_entry w (by caller note) in
      let windows : KeepsWindows v = subst KeepsWindows later
      (windows_after config (h ++ by caller note ∷ [])) in
      let ended : IsEnded e w v = ended_step w e x false air found (may_end_lost w e x air found fine) in
      let calls : KeepsByCall w note = kept_after config h note in
      both_mpdu (λ m. Flies w x.station x.tid e m.number)
      (λ m. shown m.number ≡ true → IsAmong x.content (indices_inferred shown x.content) m.number)
      (λ m. ((slot (session v x.station x.tid) m.number).state ≡ State.Acked) ↔ (shown m.number ≡ true))
      (mpdus_of x.content)
      (λ m f inferred_of.
      let y : Session = session w x.station x.tid in
      let live : is_live w x.station ≡ true = live_flying w x.station x.tid m.number e f.flying in
      let numbers = calls.numbers x.station x.tid live (ended.live x.station ∙ live) in
      let from : y.first ≤ m.number = f.from in
      let below : m.number < next_number y = below_next y m.number from (λ a. cc (a, f.flying)) in (
        (λ a. absurd (not_arrived w x.station x.tid e m.number un f
            (ap (λ (xs : List ℕ). has xs m.number) (sym (ended.arrived x.station x.tid))
            ∙ (windows.known x.station x.tid).acked m.number (omega (arith, from, numbers.first))
            (omega (arith, below, numbers.next)) a))),
        (λ yes. absurd (subst (λ (js : List ℕ). IsAmong x.content js m.number) none (inferred_of yes))),
      )) fly (shown_inferred shown x.content)

  -- nothing of the exchange has arrived
  none_arrived : indices_inferred shown x.content ≡ [] → KeepsArrived w e shown x
  none_arrived none = record {
    marked = x;
    open_now = found;
    same = refl;
    arrived =
        each_mpdu (λ m. shown m.number ≡ true → IsAmong x.content (indices_inferred shown x.content) m.number)
        (λ m. has (numbers_arrived x) m.number ≡ shown m.number) (mpdus_of x.content)
        (λ m inferred_of. same_bool (has (numbers_arrived x) m.number) (shown m.number)
        (λ had. absurd (cc (ap (λ (xs : List ℕ). has (map (number_at x.content) xs) m.number)
        (sym (found_each IsUnmarked w e x found un.marks).arrived) ∙ had)))
        (λ yes. absurd (subst (λ (js : List ℕ). IsAmong x.content js m.number) none (inferred_of yes))))
        (shown_inferred shown x.content);
  }

  -- then no calls are inferred, and the Done is not heard
  inferred_none : indices_inferred shown x.content ≡ [] → IsInferred w caller e shown air x
  inferred_none none =
      let nothing : entries ≡ [] =
      ap (λ (js : List ℕ). arrivals caller e js ++ answer_inferred x.batch caller e js) none in
      let same : world_after w entries ≡ w = ap (world_after w) nothing ∙ after_none w in
      let lost : tells shown x.content ≡ false = ap (λ (js : List ℕ). nat_lt 0 (length js)) none in
      record {
        answered = subst (AreAnswered w) (sym nothing) tt;
        keeps = λ _ heard. absurd (cc (heard, lost));
        arrived = λ _. subst (λ (v : World). KeepsArrived v e shown x) (sym same) (none_arrived none);
        ends = subst (λ (v : World). refusal v (Asked (Done e (tells shown x.content) air)) ≡ None) (sym same)
            (subst (λ (b : Bool). refusal w (Asked (Done e b air)) ≡ None) (sym lost)
            (may_end_lost w e x air found fine));
        acked = subst (λ (v : World). AreAckedWhere
            (step v (Asked (Done e (tells shown x.content) air))).world
            shown x) (sym same) (subst
            (λ (b : Bool). AreAckedWhere (step w (Asked (Done e b air))).world shown x)
            (sym lost) (none_acked none));
        unheard = subst (λ (v : World). IsUnheard (step v (Asked (Done e (tells shown x.content) air))).world)
            (sym same)
            (subst (λ (b : Bool). IsUnheard (step w (Asked (Done e b air))).world) (sym lost)
            (lost_unheard w e x air un (kept_after config h (Asked (Done e false air))) found fine));
      }

  inferred_right : (is : List ℕ) → indices_inferred shown x.content ≡ is → IsInferred w caller e shown air x
  inferred_right [] k = inferred_none k
  inferred_right (i ∷ is) k = inferred_any i is k

pub inferred_law : (config : Config) (h : List Entry) → InferredLaw config h
inferred_law config h caller e shown air x un found sent fine =
    inferred_right config h caller e shown air x un found sent fine (indices_inferred shown x.content) refl
