-- Proves which calls leave every receive half unchanged.
use Rattle.std.proofs.Common.{◌≡◌, ◌≢◌, refl, ap, ap₂, sym, ◌∙◌, subst, ℕ, ◌==◌, Bool, true, false, List, [], ◌∷◌, map, Option, Some, None, is_some, if◌then◌else◌, length}
use Rattle.wf_frame.specs.declared.settings.Config.{Config}
use Rattle.wf_frame.specs.declared.notes.Ask.TheVariants.{Join, Leave, Rate, Tick, Pull, Arrive, Answer, Done, Sleep, Wake, Poll, Rx, Reap, Ampdu, Stop, Start, Unsent, GiveUp, Flush, Offload, Weight, Plain, Hold, Begin, Free, Cease, Group, Service, Bss}
use Rattle.wf_frame.specs.declared.notes.Note.{Note}
use Rattle.wf_frame.specs.declared.notes.Note.TheVariants.{Enqueue, Asked}
use Rattle.wf_frame.specs.declared.notes.Refusal.{Refusal}
use Rattle.wf_frame.specs.declared.notes.Refusal.TheVariants.{Idle}
use Rattle.wf_frame.specs.Classes.{all_classes}
use Rattle.wf_def_lists.specs.Table.{at, upto, with_member}
use Rattle.wf_def_agreement.specs.Receiver.{Receiver}
use Rattle.wf_def_agreement.specs.Session.{Session}
use Rattle.wf_def_world.specs.World.{World, Station, Tid, Mode, Exchange, session, receiver, is_live, exchange, with_exchange, with_station, with_mode, opening}
use Rattle.wf_def_world.specs.CanSend.{with_listings_of}
use Rattle.wf_def_world.specs.Refusals.{refusal}
use Rattle.wf_def_world.specs.Service.{station_served}
use Rattle.wf_def_world.specs.Exchanges.{after_pick}
use Rattle.wf_frame.specs.declared.classes.Class.{Class}
use Rattle.wf_def_world.specs.Step.{Outcome, after_tids_left, without_listings, leave_outcome, rate_outcome, tick_outcome, outcome_where_open, sleep_outcome, wake_outcome, poll_outcome, rx_outcome, reap_outcome, unsent_outcome, give_up_outcome, hold_outcome, free_outcome, outcome_of, concerned_station, after_refusal, judged_outcome, step}
use Rattle.wf_law_runs.proofs.Windows.Sides.{Side, Same, sides_of, each_side_on, on_live, on_opened, then_same, same_on_station, same_on_share, same as same_world, same_listed, same_after_pick, same_weighed}
use Rattle.wf_law_runs.proofs.Windows.Agreed.{IsLawful, lawful, same_left_tids, same_off_lists}
use Rattle.wf_law_runs.proofs.Frames.Delivered.{same_enqueued}
use Rattle.wf_law_runs.proofs.Releases.Kept.{Kept, KeptSession, kept_equal, then_kept, kept_same, keep_unsent, keep_given_up}
use Rattle.wf_law_runs.proofs.Releases.Released.{side_with_station, live_with_station, live_own_station}
use Rattle.wf_law_runs.proofs.Deficits.Configs.{config_step}
use Rattle.wf_law_driver.proofs.Opened.{with_replaced, step_done, found_number}
use Rattle.wf_recv_peer.specs.Agreements.{PeerValue, AgreementValue}
use Rattle.wf_recv_peer_refines.specs.Half.{ReceiveHalfStandsFor}
use Rattle.wf_recv_peer_refines.proofs.Halves.{other_ids}
use Rattle.wf_recv_marks.specs.declared.marks.Mark.{Mark}
use Rattle.wf_send_half_model.specs.Standing.{IsReached}
use Rattle.wf_recv_marks.specs.Marks.{with_changed}
use Rattle.wf_cell_model.proofs.Marks.{rises_now, changed_marks}
use Rattle.wf_cell_model.proofs.Receivers.{SameReceivers, receivers_same, receivers_exchange}
use Rattle.wf_cell_model.specs.Arriving.{IsUntold}
use Rattle.wf_cell_model.specs.Hearing.{agreement_of, HasAddresses, ArePeers, AreNew, carried, StandsForTid, mark_of, Hears}

pub lawful_now : (w : World) → IsReached w → IsLawful w
lawful_now w r = subst IsLawful (sym r.after) (lawful w.config r.history)

-- ---- two worlds

-- each station that is live in the later world has the receivers that it had in the earlier one, and each
-- given number keeps its id
pub record Stays (w v : World) : Type 0 where
  pub live : (s : ℕ) → is_live v s ≡ true → is_live w s ≡ true
  pub receivers : (s t : ℕ) → is_live v s ≡ true → receiver v s t ≡ receiver w s t
  pub sessions : (s t : ℕ) → is_live v s ≡ true → KeptSession (session w s t) (session v s t)

pub stays_kept : (w v : World) → Kept w v → SameReceivers w v → Stays w v
stays_kept w v k r = record {
  live = λ s l. sym (k.live s) ∙ l;
  receivers = λ s t _. r.each s t;
  sessions = λ s t _. k.sessions s t;
}

pub stays_same : (w v : World) → Same w v → Stays w v
stays_same w v h = stays_kept w v (kept_same w v h) (receivers_same w v h)

pub then_stays : (u v w : World) → Stays u v → Stays v w → Stays u w
then_stays u v w h k = record {
  live = λ s l. h.live s (k.live s l);
  receivers = λ s t l. k.receivers s t l ∙ h.receivers s t (k.live s l);
  sessions = λ s t l. then_kept (session u s t) (session v s t) (session w s t) (h.sessions s t (k.live s l))
      (k.sessions s t l);
}

pub stays_stand : (w v : World) (s t : ℕ) (a : AgreementValue) → IsLawful w →
    receiver v s t ≡ receiver w s t →
    KeptSession (session w s t) (session v s t) → StandsForTid w s t a → StandsForTid v s t a
stays_stand w v s t a i same kept h =
    let y : Session = session w s t in
    let z : Session = session v s t in
    subst (λ (r : Receiver). ReceiveHalfStandsFor (carried z) r a.board a.buffer) (sym same)
    (other_ids (carried y) (carried z) (receiver w s t) a.board a.buffer
    (λ n there. sym (kept.ids n ((i.agreed s t).arrived n there).0 ((i.agreed s t).arrived n there).1)) h)

pub hears_stays : (peers : List PeerValue) (marks after : List Mark) (w v : World) → IsLawful w → Stays w v →
    v.config ≡ w.config →
    after ≡ map mark_of v.opened → Hears peers marks w → Hears peers after v
hears_stays peers marks after w v i k config kept h = record {
  sized = subst (λ (c : Config). ArePeers c.stations peers) (sym config) h.sized;
  agreements = λ s t live low. stays_stand w v s t (agreement_of peers s t) i (k.receivers s t live)
      (k.sessions s t live)
      (h.agreements s t (k.live s live) low);
  kept = kept;
}

-- ---- a call that is not refused

pub config_done : (w : World) (note : Note) → refusal w note ≡ None →
    (with_listings_of (outcome_of w note).world (concerned_station w note)).config ≡ w.config
config_done w note fine = ap (λ (u : World). u.config) (sym (step_done w note fine)) ∙ config_step w note

pub reply_done : (w : World) (note : Note) → refusal w note ≡ None →
    (step w note).reply ≡ (outcome_of w note).reply
unfolding step judged_outcome
reply_done w note fine = ap (λ (o : Option Refusal). (judged_outcome w note o).reply) fine

-- the effect of such a call, from its outcome
pub hears_outcome : (peers : List PeerValue) (marks after : List Mark) (w : World) (note : Note) →
    IsLawful w → refusal w note ≡ None →
    Stays w (outcome_of w note).world → after ≡ map mark_of (outcome_of w note).world.opened →
    Hears peers marks w → Hears peers after (step w note).world
hears_outcome peers marks after w note i fine k kept h =
    let u : World = (outcome_of w note).world in
    let v : World = with_listings_of u (concerned_station w note) in
    let same : Same u v = same_listed (concerned_station w note) u in
    subst (Hears peers after) (sym (step_done w note fine))
    (hears_stays peers marks after w v i (then_stays w u v k (stays_same u v same)) (config_done w note fine)
    (kept ∙ ap (map mark_of) (sym same.opened)) h)

-- ---- calls that change no receive half and no mark

pub record IsLeft (w v : World) : Type 0 where
  pub stays : Stays w v
  pub opened : v.opened ≡ w.opened

left_same : (w v : World) → Same w v → IsLeft w v
left_same w v h = record { stays = stays_same w v h; opened = h.opened }

left_here : (w v : World) → v.stations ≡ w.stations → v.opened ≡ w.opened → IsLeft w v
left_here w v e opened = record {
  stays = record {
    live = λ s l. ap (λ (u : List (Option Station)). is_some (at None u s)) (sym e) ∙ l;
    receivers = λ s t _. ap (λ (u : List (Option Station)). (sides_of (at None u s) t).receiver) e;
    sessions = λ s t _. kept_equal (session w s t) (session v s t)
        (ap (λ (u : List (Option Station)). (sides_of (at None u s) t).session) e);
  };
  opened = opened;
}

-- a station leaves
stays_away : (w : World) (i : ℕ) → Stays w (with_station w i None)
stays_away w i = record {
  live = λ s l. sym (live_with_station w i s None (other s l)) ∙ l;
  receivers = λ s t l. ap (λ (a : Side). a.receiver) (side_with_station w i s t None (other s l));
  sessions = λ s t l. kept_equal (session w s t) (session (with_station w i None) s t)
      (ap (λ (a : Side). a.session) (side_with_station w i s t None (other s l)));
}
  where
    other : (s : ℕ) → is_live (with_station w i None) s ≡ true → i ≢ s
    other s l e = cc (live_own_station w i None, ap (is_live (with_station w i None)) e, l)

opened_away : (w : World) (i : ℕ) → (with_station w i None).opened ≡ w.opened
unfolding with_station
opened_away w i = refl

left_gone : (w : World) (i : ℕ) → IsLeft w (leave_outcome w i).world
unfolding leave_outcome
left_gone w i =
    let u : World = without_listings (after_tids_left w i (upto 8)) i all_classes in
    let same : Same w u = then_same _ _ _ (same_left_tids (upto 8) w i) (same_off_lists all_classes _ i) in
    record {
      stays = then_stays w u _ (stays_same w u same) (stays_away u i);
      opened =
          opened_away u i ∙ same.opened;
    }

left_reaped : (ids : List ℕ) (w : World) → IsLeft w (reap_outcome w ids).world
unfolding reap_outcome
left_reaped [] w = left_here w w refl refl
left_reaped (id ∷ ids) w = left_here w _ refl refl

-- the mode of a TID changes
left_moded : (w : World) (s t : ℕ) (mode : Mode) → IsLeft w (with_mode w s t mode)
unfolding with_mode
left_moded w s t mode =
    let f : Tid → Tid = λ y. record y { mode = mode } in
    record {
      stays = record {
        live = λ i l. sym (on_live w s t f i) ∙ l;
        receivers = λ i j _. each_side_on (λ a b z. z.receiver ≡ receiver w a b) w s t f (λ a b. refl) refl i
            j;
        sessions = λ i j _. kept_equal (session w i j) _
            (each_side_on (λ a b z. z.session ≡ session w a b) w s t f (λ a b. refl) refl i j);
      };
      opened = on_opened w s t f;
    }

-- a call that changes no open exchange either: any other than a mark
abbrev pub IsQuiet : Note → Type 0
IsQuiet (Asked (Unsent e i)) = ⊥
IsQuiet (Asked (GiveUp e i)) = ⊥
IsQuiet note = IsUntold note

pub left_quiet : (note : Note) (w : World) → IsQuiet note → IsLeft w (outcome_of w note).world
unfolding outcome_of tick_outcome rate_outcome sleep_outcome wake_outcome poll_outcome rx_outcome
    hold_outcome free_outcome
left_quiet (Enqueue s t flow len) w k = left_same w _ (same_enqueued w s t flow len)
left_quiet (Asked (Join s window start exponent weight)) w k = absurd k
left_quiet (Asked (Leave s)) w k = left_gone w s
left_quiet (Asked (Rate s rate)) w k = left_same w _ (same_on_station w s _ (λ x t. refl))
left_quiet (Asked (Tick by)) w k = left_here w _ refl refl
left_quiet (Asked (Pull c l)) w k = absurd k
left_quiet (Asked (Arrive e n)) w k = absurd k
left_quiet (Asked (Answer e)) w k = absurd k
left_quiet (Asked (Done e heard air)) w k = absurd k
left_quiet (Asked (Sleep s)) w k = left_same w _ (same_on_station w s _ (λ x t. refl))
left_quiet (Asked (Wake s)) w k = left_same w _ (same_on_station w s _ (λ x t. refl))
left_quiet (Asked (Poll s)) w k = left_same w _ (same_on_station w s _ (λ x t. refl))
left_quiet (Asked (Rx s c air)) w k = left_same w _ (same_on_share w s c _)
left_quiet (Asked Reap) w k = left_reaped w.finished w
left_quiet (Asked (Ampdu s octets)) w k = left_same w _ (same_on_station w s _ (λ x t. refl))
left_quiet (Asked (Stop s)) w k = left_same w _ (same_on_station w s _ (λ x t. refl))
left_quiet (Asked (Start s)) w k = left_same w _ (same_on_station w s _ (λ x t. refl))
left_quiet (Asked (Unsent e n)) w k = absurd k
left_quiet (Asked (GiveUp e n)) w k = absurd k
left_quiet (Asked (Flush s t)) w k = absurd k
left_quiet (Asked (Offload s exponent weight)) w k = absurd k
left_quiet (Asked (Weight s weight)) w k = left_same w _ (same_weighed w s weight)
left_quiet (Asked (Plain s start exponent weight)) w k = absurd k
left_quiet (Asked (Hold s t)) w k = left_moded w s t _
left_quiet (Asked (Begin s t window)) w k = absurd k
left_quiet (Asked (Free s t)) w k = left_moded w s t _
left_quiet (Asked (Cease s t)) w k = absurd k
left_quiet (Asked (Group ask)) w k = left_here w _ refl refl
left_quiet (Asked (Service ask)) w k =
    left_same w _ (same_on_station w (station_served ask) _ (λ x t. refl))
left_quiet (Asked (Bss s b)) w k = left_same w _ (same_on_station w s _ (λ x t. refl))

-- An idle pull leaves what receivers have, whether it changes the lists or not.
left_idle : (b : Bool) (w : World) (c : Class) → IsLeft w (if b then w else after_pick w c)
left_idle true w c = left_here w w refl refl
left_idle false w c = left_same w _ (same_after_pick w c)

pub left_refused : (note : Note) (r : Refusal) (w : World) → IsLeft w (after_refusal w note r)
unfolding after_refusal
left_refused (Asked (Pull c l)) Idle w = left_idle (w.config.pending == 1) w c
left_refused _ _ w = left_here w w refl refl

pub refused_world : (w : World) (note : Note) (r : Refusal) → refusal w note ≡ Some r →
    (step w note).world ≡ after_refusal w note r
unfolding step judged_outcome
refused_world w note r e = ap (λ (o : Option Refusal). (judged_outcome w note o).world) e

pub refused_hears : (peers : List PeerValue) (marks : List Mark) (w : World) (note : Note) (r : Refusal) →
    IsReached w → Hears peers marks w →
    refusal w note ≡ Some r → Hears peers marks (step w note).world
refused_hears peers marks w note r reached h e =
    let v : World = after_refusal w note r in
    let k : IsLeft w v = left_refused note r w in
    let same : (step w note).world ≡ v = refused_world w note r e in
    subst (Hears peers marks) (sym same)
    (hears_stays peers marks marks w v (lawful_now w reached) k.stays
    (ap (λ (u : World). u.config) (sym same) ∙ config_step w note)
    (h.kept ∙ ap (map mark_of) (sym k.opened)) h)

-- ---- the marks of a device

no_change : (e : ℕ) (marks : List Mark) → with_changed e (λ m. m) marks ≡ marks
no_change e [] = refl
no_change e (m ∷ ms) = ap₂ (λ (k : Mark) (ks : List Mark). k ∷ ks) (same_both (m.number == e) m)
    (no_change e ms)
  where
    same_both : (b : Bool) (m : Mark) → (if b then m else m) ≡ m
    same_both true m = refl
    same_both false m = refl

opened_exchange : (w : World) (z : Exchange) → (with_exchange w z).opened ≡ with_replaced z w.opened
unfolding with_exchange
opened_exchange w z = refl

-- an open exchange with other marks of the device has the same mark
same_marks : (w : World) → IsReached w → (e : ℕ) (x z : Exchange) → exchange w e ≡ Some x →
    z.number ≡ x.number → mark_of z ≡ mark_of x → map mark_of w.opened ≡ map mark_of
    (with_exchange w z).opened
same_marks w reached e x z found number same =
    sym (no_change e (map mark_of w.opened))
    ∙ changed_marks 0 w.exchanges e w.opened x z (λ m. m) (rises_now w reached) found
    (number ∙ found_number w e x found) (sym same)
    ∙ ap (map mark_of) (sym (opened_exchange w z))

stays_unsent : (w : World) (x : Exchange) (i : ℕ) → Stays w (unsent_outcome w x i).world
unfolding unsent_outcome
stays_unsent w x i = stays_kept w _ (keep_unsent w x i)
    (receivers_exchange w (record x { unsent = with_member i x.unsent }))

stays_given_up : (w : World) (x : Exchange) (i : ℕ) → Stays w (give_up_outcome w x i).world
unfolding give_up_outcome
stays_given_up w x i = stays_kept w _ (keep_given_up w x i)
    (receivers_exchange w (record x { given_up = with_member i x.given_up }))

module _ (peers : List PeerValue) (marks : List Mark) (w : World) (note : Note) (reached : IsReached w)
    (h : Hears peers marks w) (fine : refusal w note ≡ None) where
  -- f is the outcome of a mark of the exchange with number e
  marked_hears : (e : ℕ) (f : Exchange → Outcome) → (outcome_of w note).world
      ≡ (outcome_where_open w (exchange w e) f).world → ((x : Exchange) → Stays w (f x).world) →
      ((x : Exchange) → exchange w e ≡ Some x → map mark_of w.opened ≡ map mark_of (f x).world.opened) →
      Hears peers marks (step w note).world
  unfolding outcome_where_open
  marked_hears e f is keep same = go (exchange w e) refl
    where
      go : (o : Option Exchange) → exchange w e ≡ o → Hears peers marks (step w note).world
      go None none =
          let here : (outcome_of w note).world ≡ w = is ∙ ap (λ o. (outcome_where_open w o f).world) none in
          hears_outcome peers marks marks w note (lawful_now w reached) fine
          (subst (Stays w) (sym here) (stays_same w w (same_world w)))
          (h.kept ∙ ap (λ (u : World). map mark_of u.opened) (sym here)) h
      go (Some x) found =
          let here : (outcome_of w note).world ≡ (f x).world =
          is ∙ ap (λ o. (outcome_where_open w o f).world) found in
          hears_outcome peers marks marks w note (lawful_now w reached) fine
          (subst (Stays w) (sym here) (keep x))
          (h.kept ∙ same x found ∙ ap (λ (u : World). map mark_of u.opened) (sym here)) h

  left_hears : IsLeft w (outcome_of w note).world → Hears peers marks (step w note).world
  left_hears left = hears_outcome peers marks marks w note (lawful_now w reached) fine left.stays
      (h.kept ∙ ap (map mark_of) (sym left.opened)) h

done_hears : (peers : List PeerValue) (marks : List Mark) (w : World) (note : Note) → IsReached w →
    Hears peers marks w → IsUntold note → refusal w note ≡ None → Hears peers marks (step w note).world
unfolding outcome_of unsent_outcome give_up_outcome
done_hears peers marks w (Asked (Unsent e i)) reached h k fine =
    marked_hears peers marks w (Asked (Unsent e i)) reached h fine e (λ x. unsent_outcome w x i) refl
    (λ x. stays_unsent w x i)
    (λ x found. same_marks w reached e x (record x { unsent = with_member i x.unsent }) found refl refl)
done_hears peers marks w (Asked (GiveUp e i)) reached h k fine =
    marked_hears peers marks w (Asked (GiveUp e i)) reached h fine e (λ x. give_up_outcome w x i) refl
    (λ x. stays_given_up w x i)
    (λ x found. same_marks w reached e x (record x { given_up = with_member i x.given_up }) found refl refl)
done_hears peers marks w note reached h k fine =
    left_hears peers marks w note reached h fine (left_quiet note w k)

pub untold_hears : (peers : List PeerValue) (marks : List Mark) (w : World) (note : Note) → IsReached w →
    Hears peers marks w → IsUntold note →
    Hears peers marks (step w note).world
untold_hears peers marks w note reached h k = go (refusal w note) refl
  where
    go : (o : Option Refusal) → refusal w note ≡ o → Hears peers marks (step w note).world
    go (Some r) e = refused_hears peers marks w note r reached h e
    go None e = done_hears peers marks w note reached h k e

-- ---- new receive halves

pub new_hears : (c : Config) (peers : List PeerValue) → AreNew c.stations peers → Hears peers [] (opening c)
new_hears c peers h = record {
  sized = record {
    count = h.count;
    addresses = λ s low. subst (HasAddresses s) (sym (h.each s low)) (record { own = refl; base = refl });
    eight = λ s low. ap (λ (p : PeerValue). length p.agreements) (h.each s low);
  };
  agreements = λ s t live low. absurd (cc live);
  kept = refl;
}
