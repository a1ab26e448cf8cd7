-- Proves whole calls that move no frame, except that a reap takes one from the finished list: if the machine
-- does not refuse them, the half with the call's changes represents the world after the step, and the reply
-- is the step's.
use Rattle.std.proofs.Common.{◌≡◌, refl, ap, sym, ◌∙◌, subst, arith, ℕ, ◌+◌, ◌-◌, ◌<◌, ◌==◌, pos, Bool, true, false, not, ◌&&◌, ◌||◌, List, ◌∷◌, length, Option, Some, None, is_some, option_map, inl, inr}
use Rattle.std.specs.Prelude.{nat_le, int_le}
use Rattle.std.proofs.lemmas.Bool.{and_parts, leb-false}
use Rattle.std.proofs.lemmas.List.{get_or-set_same}
use Rattle.wf_frame.specs.declared.classes.Class.{Class}
use Rattle.wf_frame.specs.declared.notes.AskedRate.{AskedRate}
use Rattle.wf_frame.specs.declared.notes.Note.TheVariants.{Asked}
use Rattle.wf_frame.specs.declared.notes.Ask.TheVariants as call
use Rattle.wf_frame.specs.declared.notes.Ask.TheVariants.{Join, Offload, Rate, Tick, Arrive, Answer, Sleep, Wake, Poll, Reap, Ampdu, Stop, Start, Service, Bss}
use Rattle.wf_frame.specs.declared.notes.ServiceAsk.{ServiceAsk}
use Rattle.wf_frame.specs.declared.notes.ServiceAsk.TheVariants as service
use Rattle.wf_frame.specs.declared.notes.Refusal.{Refusal}
use Rattle.wf_frame.specs.declared.notes.ReplyNote.{ReplyNote}
use Rattle.wf_frame.specs.declared.notes.ReplyNote.TheVariants as reply
use Rattle.wf_frame.specs.declared.notes.ReplyNote.TheVariants.{Joined, Set, Now, Slept, Woken, Polled, Reaped, Stopped, Started}
use Rattle.wf_frame.specs.Classes.{lower_tid, upper_tid}
use Rattle.wf_frame.specs.Frames.{FrameValue}
use Rattle.wf_def_rotation.specs.Rotation.{Rotation, has_key}
use Rattle.wf_def_lists.specs.Bounds.{greatest_window}
use Rattle.wf_def_world.specs.Rates.{rate_asked}
use Rattle.wf_def_world.specs.World.{World, Exchange, rotation, is_live, exchange, on_station, on_tid, on_receiver, on_share, with_station, with_exchange}
use Rattle.wf_def_world.specs.CanSend.{is_ready, is_debtor, is_to_list, with_listings_of}
use Rattle.wf_def_world.specs.Refusals.{refusal, refusals}
use Rattle.wf_def_world.specs.Service.{station_served}
use Rattle.wf_def_world.specs.Step.{outcome_of, outcome_where_open, station_of, after_refusal, judged_outcome, step, arrive_outcome, answer_outcome, class_to_send, service_answer, tick_outcome, rate_outcome, sleep_outcome, wake_outcome, poll_outcome, rx_outcome, plain_window, join_outcome, offload_outcome, plain_outcome, ampdu_outcome, bss_outcome}
use Rattle.wf_law_rules.proofs.Lemmas.Numbers.{either}
use Rattle.wf_law_runs.proofs.Deficits.KeptStep.{NoRow, no_row}
use Rattle.wf_law_runs.proofs.Deficits.Law.{deficits}
use Rattle.wf_sched.specs.ClassRotas.{deficit}
use Rattle.wf_queue_flows_refines.specs.Standing.{with_finished}
use Rattle.wf_queue_flows_refines.proofs.Ends.{reply_reaped}
use Rattle.wf_send_parts.specs.Window.{WindowValue}
use Rattle.wf_send_parts.specs.declared.stations.members.Member.{Member}
use Rattle.wf_send_parts.specs.declared.stations.modes.Mode.{Mode}
use Rattle.wf_send_parts.specs.declared.stations.modes.Mode.TheVariants.{Agreed}
use Rattle.wf_send_parts.specs.Members.{member, on_member, with_rate, with_ampdu}
use Rattle.wf_send_parts.specs.declared.stations.sleepers.Sleeper.{Sleeper}
use Rattle.wf_send_parts.specs.Sleepers.{awake, sleeper, with_sleeper, woken, is_reachable_in}
use Rattle.wf_send_half_model.specs.Half.{TransmitValue, can_send_of, is_below_aql_of, may_receive_of, is_debtor_of, is_to_list_of}
use Rattle.wf_send_half_model.specs.Standing.{Parts, IsReached, StandsFor, Meets}
use Rattle.wf_send_half_model.specs.Changes.{after_listing, AreReset, AreSet, after_admission, after_service_call}
use Rattle.wf_send_half_model.proofs.Reached.{by_law, reached_step, rises, owes_nothing}
use Rattle.wf_send_half_model.proofs.Readers.{to_list_same}
use Rattle.wf_send_half_model.proofs.Calls.{tick_parts, rate_parts, sleep_parts, wake_parts, poll_parts, reap_parts, ampdu_parts, stop_parts, start_parts, service_parts, bss_parts}
use Rattle.wf_send_half_model.proofs.Joins.{admitted, join_parts, plain_parts, offload_parts}
use Rattle.wf_send_half_model.proofs.Meets.{listed_none, listed_meets, unlisted_meets, idle_meets}
use Rattle.wf_send_half_model.proofs.Listings.{nobody_new}
use Rattle.wf_send_half_model.proofs.Unheard.{arrive_parts, answer_parts}

-- ---- the listed stations

-- in the world of a run, each station is listed in each class in which it is ready
pub listed_where_ready : (w : World) → IsReached w → (s : ℕ) (c : Class) → is_ready w c s ≡ true →
    has_key (rotation w c) s ≡ true
listed_where_ready w r s c ready =
    by_law (λ u. is_live u s ≡ true → is_ready u c s ≡ true → has_key (rotation u c) s ≡ true) w r
    (λ m live is. (deficits w.config r.history r.in_range m s c live).ready is)
    (and_parts (is_live w s) _ ready).0 ready

-- in the world of a run, each station is listed in each class in which it is a debtor
pub listed_where_debtor : (w : World) → IsReached w → (s : ℕ) (c : Class) → is_debtor w c s ≡ true →
    has_key (rotation w c) s ≡ true
listed_where_debtor w r s c owes =
    by_law (λ u. is_live u s ≡ true → is_debtor u c s ≡ true → has_key (rotation u c) s ≡ true) w r
    (λ m live is. (deficits w.config r.history r.in_range m s c live).debtor is)
    (and_parts (is_live w s) _ (and_parts (w.config.pending == 1) _ owes).1).0 owes

-- the station is listed in each class in which it belongs on a list
pub listed_where_wanted : (w : World) → IsReached w → (s : ℕ) (c : Class) → is_to_list w c s ≡ true →
    has_key (rotation w c) s ≡ true
listed_where_wanted w r s c wanted = elim (either (is_ready w c s) (is_debtor w c s) wanted) [
  | inl ready ↦ listed_where_ready w r s c ready
  | inr owes ↦ listed_where_debtor w r s c owes
]

-- two worlds with the same lists, with a half for each that finds that the same stations belong on a list
same_listed : (v x : TransmitValue) (w u : World) (bodies : ℕ → FrameValue) (s : ℕ) → IsReached w →
    Parts v w bodies → Parts x u bodies → ((c : Class) → is_to_list_of x c s ≡ is_to_list_of v c s) →
    ((c : Class) → rotation u c ≡ rotation w c) →
    (c : Class) → is_to_list u c s ≡ true → has_key (rotation u c) s ≡ true
same_listed v x w u bodies s r h k wanted lists c is =
    ap (λ (z : Rotation). has_key z s) (lists c)
    ∙ listed_where_wanted w r s c (sym (to_list_same v w bodies c s h) ∙ sym (wanted c)
    ∙ to_list_same x u bodies c s k ∙ is)

kept_live : (f : Member → Member) (m : Option Member) → is_some (option_map f m) ≡ is_some m
kept_live f None = refl
kept_live f (Some m) = refl

-- changing a member does not remove it
member_kept : (members : List (Option Member)) (s : ℕ) (f : Member → Member) → s < length members →
    is_some (member (on_member members s f) s) ≡ is_some (member members s)
member_kept members s f low = ap is_some (get_or-set_same members s
    (option_map f (member members s)) None low) ∙ kept_live f (member members s)

same_wanted : (v : TransmitValue) (s : ℕ) (f : Member → Member) → s < length v.members → (c : Class) →
    is_to_list_of (record v { members = on_member v.members s f }) c s ≡ is_to_list_of v c s
same_wanted v s f low c = ap (λ (b : Bool).
    (b && ((can_send_of v s (lower_tid c) || can_send_of v s (upper_tid c)) && may_receive_of v s c))
    || ((v.config.pending == 1) && (b && int_le (deficit v.sched c s) (pos 0))))
    (member_kept v.members s f low)

-- a station's BSS does not decide whether it belongs on a list
wanted_anywhere : (v : TransmitValue) (s b : ℕ) → s < length v.sleepers → (c : Class) →
    is_to_list_of (record v {
      sleepers = with_sleeper v.sleepers s (record (sleeper v.sleepers s) { bss = b });
    }) c s ≡ is_to_list_of v c s
wanted_anywhere v s b low c = ap (λ (y : Sleeper). (is_some (member v.members s)
    && ((can_send_of v s (lower_tid c) || can_send_of v s (upper_tid c))
    && (not y.stopped && (is_reachable_in y c && is_below_aql_of v s c)))) || is_debtor_of v c s)
    (get_or-set_same v.sleepers s (record (sleeper v.sleepers s) { bss = b }) awake low)

rate_lists : (w : World) (s : ℕ) (rate : AskedRate) (c : Class) →
    rotation (rate_outcome w s rate).world c ≡ rotation w c
unfolding rate_outcome on_station with_station
rate_lists w s rate c = refl

pub rx_lists : (w : World) (s : ℕ) (d : Class) (air : ℕ) (c : Class) →
    rotation (rx_outcome w s d air).world c ≡ rotation w c
unfolding rx_outcome on_share on_station with_station
rx_lists w s d air c = refl

ampdu_lists : (w : World) (s octets : ℕ) (c : Class) →
    rotation (ampdu_outcome w s octets).world c ≡ rotation w c
unfolding on_station with_station
ampdu_lists w s octets c = refl

bss_lists : (w : World) (s b : ℕ) (c : Class) → rotation (bss_outcome w s b).world c ≡ rotation w c
unfolding on_station with_station
bss_lists w s b c = refl

rate_reply : (w : World) (s : ℕ) (rate : AskedRate) → (rate_outcome w s rate).reply ≡ Set
unfolding rate_outcome
rate_reply w s rate = refl

-- ---- the calls

pub below : (w : World) (s : ℕ) → nat_le w.config.stations s ≡ false → s < w.config.stations
below w s e = leb-false _ _ e

-- a call about service periods that is not refused has a station of the machine
served_below : (w : World) (ask : ServiceAsk) → refusal w (Asked (Service ask)) ≡ None →
    station_served ask < w.config.stations
served_below w (service.Set s classes most) done =
    below w s (no_row (refusals w (Asked (Service (service.Set s classes most)))) done).0
served_below w (service.Trigger s) done =
    below w s (no_row (refusals w (Asked (Service (service.Trigger s)))) done).0
served_below w (service.End s) done =
    below w s (no_row (refusals w (Asked (Service (service.End s)))) done).0

module _ (v : TransmitValue) (w : World) (bodies : ℕ → FrameValue) (h : StandsFor v w bodies) where
  sized : (s : ℕ) → s < w.config.stations → s < length v.members
  sized s low = omega (arith, low, h.parts.others.stations.sized.0)

  pub tick_meets : (by : ℕ) → refusal w (Asked (Tick by)) ≡ None →
      Meets w bodies (Asked (Tick by)) (record v { clock = v.clock + by }) (Now (v.clock + by))
  unfolding outcome_of tick_outcome
  tick_meets by done =
      subst (λ (n : ℕ). Meets w bodies (Asked (Tick by)) (record v { clock = v.clock + by })
      (Now (n + by))) (sym h.parts.others.clock)
      (unlisted_meets (record v { clock = v.clock + by }) w bodies (Asked (Tick by)) h.reached tt tt done
      (tick_parts v w bodies by h.parts) refl)

  pub reap_meets : (f : FrameValue) (behind : List FrameValue) → v.flows.backlog.finished ≡ f ∷ behind →
      refusal w (Asked Reap) ≡ None →
      Meets w bodies (Asked Reap) (record v { inside = v.inside - 1; flows = with_finished v.flows behind })
      (Reaped f.id f.fate)
  unfolding outcome_of
  reap_meets f behind e done =
      subst (λ (x : ReplyNote). Meets w bodies (Asked Reap)
      (record v { inside = v.inside - 1; flows = with_finished v.flows behind }) x)
      (reply_reaped v.flows w f behind h.parts.others.flows e)
      (unlisted_meets (record v { inside = v.inside - 1; flows = with_finished v.flows behind }) w bodies
      (Asked Reap) h.reached tt tt done (reap_parts v w bodies f behind e h.parts) refl)

  pub rate_meets : (s : ℕ) (rate : AskedRate) → refusal w (Asked (Rate s rate)) ≡ None →
      Meets w bodies (Asked (Rate s rate))
      (record v { members = on_member v.members s (with_rate (rate_asked rate)) }) Set
  unfolding outcome_of
  rate_meets s rate done =
      let rows : NoRow (refusals w (Asked (Rate s rate))) =
      no_row (refusals w (Asked (Rate s rate))) done in
      rated (below w s rows.0)
    where
      rated : s < w.config.stations → Meets w bodies (Asked (Rate s rate))
          (record v { members = on_member v.members s (with_rate (rate_asked rate)) }) Set
      rated low =
          let x : TransmitValue =
          record v { members = on_member v.members s (with_rate (rate_asked rate)) } in
          let k : Parts x (rate_outcome w s rate).world bodies =
          rate_parts v w bodies s low h.parts rate in
          subst (λ (z : ReplyNote). Meets w bodies (Asked (Rate s rate)) x z)
          (rate_reply w s rate)
          (idle_meets x w bodies (Asked (Rate s rate)) h.reached tt tt done k s refl
          (same_listed v x w (rate_outcome w s rate).world bodies s h.reached h.parts k
          (same_wanted v s (with_rate (rate_asked rate)) (sized s low)) (rate_lists w s rate)))

  pub sleep_meets : (s : ℕ) → refusal w (Asked (Sleep s)) ≡ None →
      Meets w bodies (Asked (Sleep s)) (after_listing
      (record v {
        sleepers = with_sleeper v.sleepers s
            (record (sleeper v.sleepers s) { asleep = true });
      }) s) Slept
  unfolding outcome_of sleep_outcome
  sleep_meets s done =
      let rows : NoRow (refusals w (Asked (Sleep s))) = no_row (refusals w (Asked (Sleep s))) done in
      listed_meets (record v {
        sleepers = with_sleeper v.sleepers s
            (record (sleeper v.sleepers s) { asleep = true });
      }) w bodies (Asked (Sleep s)) h.reached tt tt done
      (sleep_parts v w bodies s (below w s rows.0) h.parts) s refl

  pub wake_meets : (s : ℕ) → refusal w (Asked (Wake s)) ≡ None →
      Meets w bodies (Asked (Wake s)) (after_listing
      (record v { sleepers = with_sleeper v.sleepers s (woken (sleeper v.sleepers s)) }) s) Woken
  unfolding outcome_of wake_outcome
  wake_meets s done =
      let rows : NoRow (refusals w (Asked (Wake s))) = no_row (refusals w (Asked (Wake s))) done in
      listed_meets (record v { sleepers = with_sleeper v.sleepers s (woken (sleeper v.sleepers s)) }) w bodies
      (Asked (Wake s)) h.reached tt tt done (wake_parts v w bodies s (below w s rows.0) h.parts) s refl

  pub poll_meets : (s : ℕ) → refusal w (Asked (Poll s)) ≡ None →
      Meets w bodies (Asked (Poll s)) (after_listing
      (record v {
        sleepers = with_sleeper v.sleepers s
            (record (sleeper v.sleepers s) { credit = Some (class_to_send w s) });
      }) s)
      (Polled (class_to_send w s))
  unfolding outcome_of poll_outcome
  poll_meets s done =
      let rows : NoRow (refusals w (Asked (Poll s))) = no_row (refusals w (Asked (Poll s))) done in
      listed_meets (record v {
        sleepers = with_sleeper v.sleepers s
            (record (sleeper v.sleepers s) { credit = Some (class_to_send w s) });
      }) w bodies
      (Asked (Poll s)) h.reached tt tt done (poll_parts v w bodies s (below w s rows.0) h.parts) s refl

  pub ampdu_meets : (s octets : ℕ) → refusal w (Asked (Ampdu s octets)) ≡ None →
      Meets w bodies (Asked (Ampdu s octets))
      (record v { members = on_member v.members s (with_ampdu octets) }) Set
  unfolding outcome_of
  ampdu_meets s octets done =
      let rows : NoRow (refusals w (Asked (Ampdu s octets))) =
      no_row (refusals w (Asked (Ampdu s octets))) done in
      stated (below w s rows.0)
    where
      stated : s < w.config.stations → Meets w bodies (Asked (Ampdu s octets))
          (record v { members = on_member v.members s (with_ampdu octets) }) Set
      stated low =
          let x : TransmitValue = record v { members = on_member v.members s (with_ampdu octets) } in
          let k : Parts x (ampdu_outcome w s octets).world bodies =
          ampdu_parts v w bodies s low h.parts octets in
          idle_meets x w bodies (Asked (Ampdu s octets)) h.reached tt tt done k s refl
          (same_listed v x w (ampdu_outcome w s octets).world bodies s h.reached h.parts k
          (same_wanted v s (with_ampdu octets) (sized s low)) (ampdu_lists w s octets))

  pub bss_meets : (s b : ℕ) → refusal w (Asked (Bss s b)) ≡ None →
      Meets w bodies (Asked (Bss s b))
      (record v { sleepers = with_sleeper v.sleepers s (record (sleeper v.sleepers s) { bss = b }) }) Set
  unfolding outcome_of
  bss_meets s b done =
      let rows : NoRow (refusals w (Asked (Bss s b))) = no_row (refusals w (Asked (Bss s b))) done in
      moved (below w s rows.0)
    where
      moved : s < w.config.stations → Meets w bodies (Asked (Bss s b))
          (record v { sleepers = with_sleeper v.sleepers s (record (sleeper v.sleepers s) { bss = b }) }) Set
      moved low =
          let x : TransmitValue =
          record v { sleepers = with_sleeper v.sleepers s (record (sleeper v.sleepers s) { bss = b }) } in
          let k : Parts x (bss_outcome w s b).world bodies = bss_parts v w bodies s low h.parts b in
          idle_meets x w bodies (Asked (Bss s b)) h.reached tt tt done k s refl
          (same_listed v x w (bss_outcome w s b).world bodies s h.reached h.parts k
          (wanted_anywhere v s b (omega (arith, low, h.parts.others.stations.sized.1))) (bss_lists w s b))

  pub stop_meets : (s : ℕ) → refusal w (Asked (Stop s)) ≡ None →
      Meets w bodies (Asked (Stop s)) (after_listing
      (record v {
        sleepers = with_sleeper v.sleepers s
            (record (sleeper v.sleepers s) { stopped = true });
      }) s) Stopped
  unfolding outcome_of
  stop_meets s done =
      let rows : NoRow (refusals w (Asked (Stop s))) = no_row (refusals w (Asked (Stop s))) done in
      listed_meets (record v {
        sleepers = with_sleeper v.sleepers s
            (record (sleeper v.sleepers s) { stopped = true });
      }) w bodies (Asked (Stop s)) h.reached tt tt done
      (stop_parts v w bodies s (below w s rows.0) h.parts) s refl

  pub service_meets : (ask : ServiceAsk) → refusal w (Asked (Service ask)) ≡ None →
      Meets w bodies (Asked (Service ask)) (after_listing (after_service_call v ask) (station_served ask))
      (reply.Service (service_answer w ask))
  unfolding outcome_of
  service_meets ask done =
      listed_meets (after_service_call v ask) w bodies (Asked (Service ask)) h.reached tt tt done
      (service_parts v w bodies ask (served_below w ask done) h.parts) (station_served ask) refl

  pub start_meets : (s : ℕ) → refusal w (Asked (Start s)) ≡ None →
      Meets w bodies (Asked (Start s)) (after_listing
      (record v {
        sleepers = with_sleeper v.sleepers s
            (record (sleeper v.sleepers s) { stopped = false });
      }) s) Started
  unfolding outcome_of
  start_meets s done =
      let rows : NoRow (refusals w (Asked (Start s))) = no_row (refusals w (Asked (Start s))) done in
      listed_meets (record v {
        sleepers = with_sleeper v.sleepers s
            (record (sleeper v.sleepers s) { stopped = false });
      }) w bodies (Asked (Start s)) h.reached tt tt done
      (start_parts v w bodies s (below w s rows.0) h.parts) s refl

  module _ (windows : List WindowValue) (modes : List Mode) (s : ℕ) where
    pub join_meets : (window start exponent weight : ℕ) →
        refusal w (Asked (Join s window start exponent weight)) ≡ None →
        AreReset v.windows windows s start window → AreSet v.modes modes s Agreed →
        Meets w bodies (Asked (Join s window start exponent weight))
        (after_admission v windows modes s exponent weight false) Joined
    unfolding outcome_of join_outcome
    join_meets window start exponent weight done reset set =
        let rows : NoRow (refusals w (Asked (Join s window start exponent weight))) =
        no_row (refusals w (Asked (Join s window start exponent weight))) done in
        listed_meets (admitted v windows modes s exponent weight false) w bodies
        (Asked (Join s window start exponent weight)) h.reached tt tt done
        (join_parts v w bodies windows modes s (below w s rows.0) rows.1.1.1.1.1.0
        (λ c. owes_nothing w h.reached s c rows.1.1.1.1.1.0) h.parts window start exponent weight reset set)
        s refl

    pub plain_meets : (start exponent weight : ℕ) →
        refusal w (Asked (call.Plain s start exponent weight)) ≡ None →
        AreReset v.windows windows s start plain_window → AreSet v.modes modes s Mode.Plain →
        Meets w bodies (Asked (call.Plain s start exponent weight))
        (after_admission v windows modes s exponent weight false) Joined
    unfolding outcome_of plain_outcome
    plain_meets start exponent weight done reset set =
        let rows : NoRow (refusals w (Asked (call.Plain s start exponent weight))) =
        no_row (refusals w (Asked (call.Plain s start exponent weight))) done in
        listed_meets (admitted v windows modes s exponent weight false) w bodies
        (Asked (call.Plain s start exponent weight)) h.reached tt tt done
        (plain_parts v w bodies windows modes s (below w s rows.0) rows.1.1.1.1.0
        (λ c. owes_nothing w h.reached s c rows.1.1.1.1.0) h.parts start exponent weight reset set)
        s refl

    pub offload_meets : (exponent weight : ℕ) →
        refusal w (Asked (Offload s exponent weight)) ≡ None →
        AreReset v.windows windows s 0 greatest_window → AreSet v.modes modes s Mode.Plain →
        Meets w bodies (Asked (Offload s exponent weight))
        (after_admission v windows modes s exponent weight true) Joined
    unfolding outcome_of offload_outcome
    offload_meets exponent weight done reset set =
        let rows : NoRow (refusals w (Asked (Offload s exponent weight))) =
        no_row (refusals w (Asked (Offload s exponent weight))) done in
        listed_meets (admitted v windows modes s exponent weight true) w bodies
        (Asked (Offload s exponent weight)) h.reached tt tt done
        (offload_parts v w bodies windows modes s (below w s rows.0) rows.1.1.1.0
        (λ c. owes_nothing w h.reached s c rows.1.1.1.0) h.parts exponent weight reset set)
        s refl

-- ---- Arrive and Answer

arrive_lists : (w : World) (x : Exchange) (i : ℕ) (c : Class) →
    rotation (arrive_outcome w x i).world c ≡ rotation w c
unfolding arrive_outcome with_exchange on_receiver on_tid on_station with_station
arrive_lists w x i c = refl

answer_lists : (w : World) (x : Exchange) (c : Class) → rotation (answer_outcome w x).world c ≡ rotation w c
unfolding answer_outcome with_exchange
answer_lists w x c = refl

module _ (v : TransmitValue) (w : World) (bodies : ℕ → FrameValue) (h : StandsFor v w bodies) where
  -- a world with the same lists that the half represents: no station has to be listed
  unlisted : (u : World) (s : ℕ) → Parts v u bodies → ((c : Class) → rotation u c ≡ rotation w c) →
      Parts v (with_listings_of u (Some s)) bodies
  unlisted u s k lists = subst (λ (x : World). Parts v x bodies)
      (sym (nobody_new u s (same_listed v v w u bodies s h.reached h.parts k (λ c. refl) lists))) k

  arrived_parts : (e i : ℕ) (o : Option Exchange) → exchange w e ≡ o →
      Parts v (with_listings_of (outcome_where_open w o (λ x. arrive_outcome w x i)).world (station_of o))
      bodies
  unfolding outcome_where_open
  arrived_parts e i None known = listed_none v w bodies h.parts
  arrived_parts e i (Some x) known = unlisted (arrive_outcome w x i).world x.station
      (arrive_parts v w bodies e x known (rises w h.reached) h.parts i) (arrive_lists w x i)

  answered_parts : (e : ℕ) (o : Option Exchange) → exchange w e ≡ o →
      Parts v (with_listings_of (outcome_where_open w o (λ x. answer_outcome w x)).world (station_of o))
      bodies
  unfolding outcome_where_open
  answered_parts e None known = listed_none v w bodies h.parts
  answered_parts e (Some x) known = unlisted (answer_outcome w x).world x.station
      (answer_parts v w bodies e x known (rises w h.reached) h.parts) (answer_lists w x)

  arrive_step : (e i : ℕ) (o : Option Refusal) →
      Parts v (judged_outcome w (Asked (Arrive e i)) o).world bodies
  unfolding judged_outcome outcome_of after_refusal
  arrive_step e i None = arrived_parts e i (exchange w e) refl
  arrive_step e i (Some r) = h.parts

  answer_step : (e : ℕ) (o : Option Refusal) → Parts v (judged_outcome w (Asked (Answer e)) o).world bodies
  unfolding judged_outcome outcome_of after_refusal
  answer_step e None = answered_parts e (exchange w e) refl
  answer_step e (Some r) = h.parts

pub arrive_stands : (v : TransmitValue) (w : World) (bodies : ℕ → FrameValue) (e i : ℕ) →
    StandsFor v w bodies → StandsFor v (step w (Asked (Arrive e i))).world bodies
unfolding step
arrive_stands v w bodies e i h = record {
  parts =
      arrive_step v w bodies h e i (refusal w (Asked (Arrive e i)));
  reached =
      reached_step w (Asked (Arrive e i)) h.reached tt tt;
}

pub answer_stands : (v : TransmitValue) (w : World) (bodies : ℕ → FrameValue) (e : ℕ) → StandsFor v w bodies →
    StandsFor v (step w (Asked (Answer e))).world bodies
unfolding step
answer_stands v w bodies e h = record {
  parts = answer_step v w bodies h e (refusal w (Asked (Answer e)));
  reached = reached_step w (Asked (Answer e)) h.reached tt tt;
}
