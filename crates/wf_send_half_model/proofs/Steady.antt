-- Proves that some calls change the readiness of no station: a rate, a weight, a tick, an Arrive, an Answer,
-- a mark of a device, a receive charge and a reap. They change no session, mode, queue or open request, nor
-- which stations may receive.
use Rattle.std.proofs.Common.{◌≡◌, refl, ap, ap₂, sym, ◌∙◌, ℕ, Bool, true, not, ◌&&◌, ◌||◌, List, [], ◌∷◌, length, Option, Some, None, unwrap_or, option_map, map, sum_by, nat_lt}
use Rattle.std.specs.Prelude.{◌==◌}
use Rattle.std.specs.List.{list_any}
use Rattle.wf_frame.specs.declared.classes.Class.{Class}
use Rattle.wf_frame.specs.declared.settings.Config.{Config}
use Rattle.wf_frame.specs.declared.notes.AskedRate.{AskedRate}
use Rattle.wf_frame.specs.declared.notes.Note.{Note}
use Rattle.wf_frame.specs.declared.notes.Note.TheVariants.{Enqueue, Asked}
use Rattle.wf_frame.specs.declared.notes.Ask.TheVariants.{Join, Leave, Rate, Tick, Pull, Arrive, Answer, Done, Sleep, Wake, Poll, Rx, Reap, Ampdu, Stop, Start, Unsent, GiveUp, Flush, Offload, Weight, Hold, Begin, Free, Cease, Group, Service, Bss}
use Rattle.wf_frame.specs.declared.notes.Ask.TheVariants as call
use Rattle.wf_frame.specs.Classes.{all_classes, lower_tid, upper_tid}
use Rattle.wf_def_lists.specs.Table.{at}
use Rattle.wf_def_rotation.specs.Rotation.{in_order}
use Rattle.wf_def_agreement.specs.Receiver.{Receiver}
use Rattle.wf_def_world.specs.World.{World, holds_back, Station, Share, Exchange, no_station, owed, exchange, on_station, with_station, on_tid, on_receiver, on_share, with_exchange}
use Rattle.wf_def_world.specs.CanSend.{is_request, request_open, is_reachable, is_below_aql, may_receive, is_ready}
use Rattle.wf_def_world.specs.Step.{Outcome, outcome_of, step, outcome_where_open, rate_outcome, tick_outcome, arrive_outcome, answer_outcome, unsent_outcome, give_up_outcome, rx_outcome, reap_outcome, ampdu_outcome, with_deficits_lowered, weight_outcome, bss_outcome}
use Rattle.wf_law_rules.proofs.Lemmas.Tables.{each_put}
use Rattle.wf_law_runs.proofs.Common.Marks.{marked_world}
use Rattle.wf_law_runs.proofs.Deficits.Books.{Books, books, core}
use Rattle.wf_law_runs.proofs.Deficits.Openings.{owed-core}
use Rattle.wf_law_runs.proofs.Deficits.Kept.{IsKept}
use Rattle.wf_law_runs.proofs.Deficits.KeptStep.{IsFound, books_arrived, books_answered, books_marked}
use Rattle.wf_queue_flows_refines.specs.Standing.{Part, flows_part}
use Rattle.wf_queue_flows_refines.proofs.Leaves.{station_alone, receiver_alone, exchange_alone}
use Rattle.wf_send_parts.specs.declared.stations.sleepers.Sleeper.{Sleeper}
use Rattle.wf_send_parts.specs.Sleepers.{is_reachable_in}
use Rattle.wf_send_half_model.specs.Standing.{sleeper_of, IsReached}
use Rattle.wf_send_half_model.specs.Readiness.{leaves_ready}
use Rattle.wf_send_half_model.specs.Views.{Agreements, agreements}
use Rattle.wf_send_half_model.proofs.Views.{agreements_station, agreements_receiver}
use Rattle.wf_send_half_model.proofs.Spared.{IsSameTid, ready_same_by, ready_stepped, orderly_reached}

-- v has the same flow queues, sessions, modes and open requests as w, and the same stations may receive
pub record IsSteady (w v : World) : Type 0 where
  part : flows_part v ≡ flows_part w
  agreements : agreements v ≡ agreements w
  requests : (s t : ℕ) → request_open v s t ≡ request_open w s t
  receives : (s : ℕ) (c : Class) → may_receive v s c ≡ may_receive w s c

steady_here : (w : World) → IsSteady w w
steady_here w = record { part = refl; agreements = refl; requests = λ s t. refl; receives = λ s c. refl }

steady_then : (w u v : World) → IsSteady w u → IsSteady u v → IsSteady w v
steady_then w u v h k = record {
  part = k.part ∙ h.part;
  agreements = k.agreements ∙ h.agreements;
  requests = λ s t. k.requests s t ∙ h.requests s t;
  receives = λ s c. k.receives s c ∙ h.receives s c;
}

steady_tid : (w v : World) → IsSteady w v → (s t : ℕ) → IsSameTid w v s t
steady_tid w v h s t = record {
  session = ap (λ (a : Agreements). a.sessions s t) h.agreements;
  held = ap (λ (a : Agreements). holds_back (a.modes s t)) h.agreements;
  request = h.requests s t;
  queued = ap (λ (p : Part). sum_by (λ q. length (p.queues q).items) (in_order (p.lists s t))) h.part;
}

pub steady_ready : (w v : World) → IsSteady w v → (c : Class) (s : ℕ) → is_ready v c s ≡ is_ready w c s
steady_ready w v h c s = ready_same_by w v c s (ap (λ (a : Agreements). a.live s) h.agreements)
    (h.receives s c) (steady_tid w v h s (lower_tid c)) (steady_tid w v h s (upper_tid c))

-- ---- a station changes, but not its TIDs, its power save or its stop

-- a sleeper that is of BSS 0
abbrev pub in_first : Sleeper → Sleeper
in_first y = record y { bss = 0 }

-- whether a station may receive in a class, if its airtime in flight is below the limit, or not
abbrev pub receives : Class → Option Station → Bool → Bool
receives c o below = not (unwrap_or o no_station).stopped
    && (is_reachable (unwrap_or o no_station) c && below)

-- the change does not affect power save and stop; it may affect the BSS
abbrev pub KeepsSleep : (Station → Station) → Type 0
KeepsSleep f = (x : Station) → in_first (sleeper_of (f x)) ≡ in_first (sleeper_of x)

receives_mapped : (f : Station → Station) → KeepsSleep f → (c : Class) (below : Bool) (o : Option Station) →
    receives c (option_map f o) below ≡ receives c o below
receives_mapped f h c below None = refl
receives_mapped f h c below (Some x) =
    ap (λ (y : Sleeper). not y.stopped && (is_reachable_in y c && below)) (h x)

heard_on_station : (w : World) (i : ℕ) (f : Station → Station) → KeepsSleep f → (s : ℕ) (c : Class)
    (below : Bool) →
    receives c (at None (on_station w i f).stations s) below ≡ receives c (at None w.stations s) below
unfolding on_station with_station
heard_on_station w i f h s c below =
    each_put (λ y o. receives c o below ≡ receives c (at None w.stations y) below) None w.stations i
    (option_map f (at None w.stations i)) (λ y. refl) (receives_mapped f h c below (at None w.stations i)) s

pub below_on_station : (w : World) (i : ℕ) (f : Station → Station) (s : ℕ) (c : Class) →
    is_below_aql (on_station w i f) s c ≡ is_below_aql w s c
unfolding on_station with_station
below_on_station w i f s c = refl

pub receives_on_station : (w : World) (i : ℕ) (f : Station → Station) → KeepsSleep f → (s : ℕ) (c : Class) →
    may_receive (on_station w i f) s c ≡ may_receive w s c
receives_on_station w i f h s c =
    heard_on_station w i f h s c (is_below_aql (on_station w i f) s c)
    ∙ ap (receives c (at None w.stations s)) (below_on_station w i f s c)

requests_on_station : (w : World) (i : ℕ) (f : Station → Station) (s t : ℕ) →
    request_open (on_station w i f) s t ≡ request_open w s t
unfolding on_station with_station
requests_on_station w i f s t = refl

steady_rated : (w : World) (i : ℕ) (rate : AskedRate) → IsSteady w (rate_outcome w i rate).world
unfolding rate_outcome
steady_rated w i rate = record {
  part = station_alone w i _ (λ x. refl);
  agreements = agreements_station w i _ (λ x. refl);
  requests = requests_on_station w i _;
  receives = receives_on_station w i _ (λ x. refl);
}

steady_stated : (w : World) (i octets : ℕ) → IsSteady w (ampdu_outcome w i octets).world
steady_stated w i octets = record {
  part = station_alone w i _ (λ x. refl);
  agreements = agreements_station w i _ (λ x. refl);
  requests = requests_on_station w i _;
  receives = receives_on_station w i _ (λ x. refl);
}

steady_moved : (w : World) (i b : ℕ) → IsSteady w (bss_outcome w i b).world
steady_moved w i b = record {
  part = station_alone w i _ (λ x. refl);
  agreements = agreements_station w i _ (λ x. refl);
  requests = requests_on_station w i _;
  receives = receives_on_station w i _ (λ x. refl);
}

steady_received : (w : World) (i : ℕ) (d : Class) (air : ℕ) → IsSteady w (rx_outcome w i d air).world
unfolding rx_outcome on_share
steady_received w i d air = record {
  part = station_alone w i _ (λ x. refl);
  agreements = agreements_station w i _ (λ x. refl);
  requests = requests_on_station w i _;
  receives = receives_on_station w i _ (λ x. refl);
}

steady_shared : (w : World) (i : ℕ) (d : Class) (f : Share → Share) → IsSteady w (on_share w i d f)
unfolding on_share
steady_shared w i d f = record {
  part = station_alone w i _ (λ x. refl);
  agreements = agreements_station w i _ (λ x. refl);
  requests = requests_on_station w i _;
  receives = receives_on_station w i _ (λ x. refl);
}

steady_lowered : (cs : List Class) (w : World) (i : ℕ) → IsSteady w (with_deficits_lowered w i cs)
unfolding with_deficits_lowered
steady_lowered [] w i = steady_here w
steady_lowered (c ∷ cs) w i = steady_then w _ _ (steady_shared w i c _) (steady_lowered cs _ i)

steady_weighed : (w : World) (i weight : ℕ) → IsSteady w (weight_outcome w i weight).world
unfolding weight_outcome
steady_weighed w i weight = steady_then w _ _ (record {
  part = station_alone w i _ (λ x. refl);
  agreements = agreements_station w i _ (λ x. refl);
  requests = requests_on_station w i _;
  receives = receives_on_station w i _ (λ x. refl);
}) (steady_lowered all_classes _ i)

-- ---- an open exchange is marked

-- whether a request of a TID is among these exchanges
abbrev pub asks : ℕ → ℕ → List Exchange → Bool
asks s t xs = list_any (λ x. (x.station == s) && ((x.tid == t) && is_request x.content)) xs

asks_core : (s t : ℕ) (xs : List Exchange) → asks s t (map core xs) ≡ asks s t xs
asks_core s t [] = refl
asks_core s t (x ∷ xs) = ap (λ (b : Bool). ((x.station == s) && ((x.tid == t) && is_request x.content)) || b)
    (asks_core s t xs)

same_requests : (w v : World) → books v ≡ books w → (s t : ℕ) → request_open v s t ≡ request_open w s t
same_requests w v e s t = sym (asks_core s t v.opened) ∙ ap (λ (b : Books). asks s t b.opened) e
    ∙ asks_core s t w.opened

agreements_marked : (w : World) (z : Exchange) → agreements (with_exchange w z) ≡ agreements w
unfolding with_exchange
agreements_marked w z = refl

heard_marked : (w : World) (z : Exchange) (s : ℕ) (c : Class) (below : Bool) →
    receives c (at None (with_exchange w z).stations s) below ≡ receives c (at None w.stations s) below
unfolding with_exchange
heard_marked w z s c below = refl

heard_receiver : (w : World) (i t : ℕ) (f : Receiver → Receiver) (s : ℕ) (c : Class) (below : Bool) →
    receives c (at None (on_receiver w i t f).stations s) below ≡ receives c (at None w.stations s) below
unfolding on_receiver on_tid
heard_receiver w i t f = heard_on_station w i _ (λ x. refl)

-- the same books have the same airtime in flight
same_below : (w v : World) → books v ≡ books w → (s : ℕ) (c : Class) → is_below_aql v s c ≡ is_below_aql w s c
same_below w v e s c = ap₂ (λ (config : Config) (n : ℕ). (config.aql == 0) || nat_lt n config.aql)
    (ap (λ (b : Books). b.config) e)
    (sym (owed-core s c v.opened) ∙ ap (λ (b : Books). owed s c b.opened) e ∙ owed-core s c w.opened)

steady_arrived : (w : World) (e i : ℕ) (x : Exchange) → IsKept (books w) → IsFound w e x →
    IsSteady w (arrive_outcome w x i).world
unfolding arrive_outcome
steady_arrived w e i x kept found = record {
  part = exchange_alone _ _ ∙ receiver_alone w x.station x.tid _;
  agreements = agreements_marked _ _ ∙ agreements_receiver w x.station x.tid _;
  requests = same_requests w (arrive_outcome w x i).world (books_arrived w e i x kept found);
  receives = λ s c.
      let u : World = (arrive_outcome w x i).world in
      heard_marked _ _ s c (is_below_aql u s c) ∙ heard_receiver w x.station x.tid _ s c (is_below_aql u s c)
      ∙ ap (receives c (at None w.stations s)) (same_below w u (books_arrived w e i x kept found) s c);
}

steady_answered : (w : World) (e : ℕ) (x : Exchange) → IsKept (books w) → IsFound w e x →
    IsSteady w (answer_outcome w x).world
unfolding answer_outcome
steady_answered w e x kept found = record {
  part = exchange_alone w _;
  agreements = agreements_marked w _;
  requests = same_requests w (answer_outcome w x).world (books_answered w e x kept found);
  receives = λ s c.
      let u : World = (answer_outcome w x).world in
      heard_marked w _ s c (is_below_aql u s c)
      ∙ ap (receives c (at None w.stations s)) (same_below w u (books_answered w e x kept found) s c);
}

pub steady_marked : (w : World) (e : ℕ) (x : Exchange) (unsent given_up : List ℕ) → IsKept (books w) →
    IsFound w e x → IsSteady w (marked_world w x unsent given_up)
steady_marked w e x unsent given_up kept found = record {
  part = exchange_alone w _;
  agreements = agreements_marked w _;
  requests = same_requests w (marked_world w x unsent given_up)
      (books_marked w e x unsent given_up kept found);
  receives = λ s c.
      let u : World = marked_world w x unsent given_up in
      heard_marked w _ s c (is_below_aql u s c)
      ∙ ap (receives c (at None w.stations s)) (same_below w u
      (books_marked w e x unsent given_up kept found) s c);
}

steady_open : (o : Option Exchange) (w : World) (e : ℕ) (f : Exchange → Outcome) → exchange w e ≡ o →
    ((x : Exchange) → IsFound w e x → IsSteady w (f x).world) → IsSteady w (outcome_where_open w o f).world
unfolding outcome_where_open
steady_open None w e f k h = steady_here w
steady_open (Some x) w e f k h = h x k

-- ---- the calls

ready_tick : (w : World) (by : ℕ) (c : Class) (s : ℕ) →
    is_ready (tick_outcome w by).world c s ≡ is_ready w c s
unfolding tick_outcome
ready_tick w by c s = refl

ready_reap : (ids : List ℕ) (w : World) (c : Class) (s : ℕ) →
    is_ready (reap_outcome w ids).world c s ≡ is_ready w c s
unfolding reap_outcome
ready_reap [] w c s = refl
ready_reap (id ∷ ids) w c s = refl

pub ready_received : (w : World) (i : ℕ) (d : Class) (air : ℕ) (c : Class) →
    is_ready (rx_outcome w i d air).world c i ≡ is_ready w c i
ready_received w i d air c = steady_ready w (rx_outcome w i d air).world (steady_received w i d air) c i

steady_done : (note : Note) (w : World) → IsReached w → leaves_ready note ≡ true → (c : Class) (s : ℕ) →
    is_ready (outcome_of w note).world c s ≡ is_ready w c s
unfolding outcome_of unsent_outcome give_up_outcome
steady_done (Asked (Rate i rate)) w r h c s = steady_ready w _ (steady_rated w i rate) c s
steady_done (Asked (Tick by)) w r h c s = ready_tick w by c s
steady_done (Asked (Arrive e i)) w r h c s = steady_ready w
    (outcome_where_open w (exchange w e) (λ x. arrive_outcome w x i)).world
    (steady_open (exchange w e) w e (λ x. arrive_outcome w x i) refl
    (λ x k. steady_arrived w e i x (orderly_reached w r).kept k)) c s
steady_done (Asked (Answer e)) w r h c s = steady_ready w
    (outcome_where_open w (exchange w e) (λ x. answer_outcome w x)).world
    (steady_open (exchange w e) w e (λ x. answer_outcome w x) refl
    (λ x k. steady_answered w e x (orderly_reached w r).kept k)) c s
steady_done (Asked (Rx i d air)) w r h c s = steady_ready w _ (steady_received w i d air) c s
steady_done (Asked Reap) w r h c s = ready_reap w.finished w c s
steady_done (Asked (Group ask)) w r h c s = refl
steady_done (Enqueue i t flow len) w r h c s = absurd (cc h)
steady_done (Asked (Join i window start exponent weight)) w r h c s = absurd (cc h)
steady_done (Asked (Offload i exponent weight)) w r h c s = absurd (cc h)
steady_done (Asked (call.Plain i start exponent weight)) w r h c s = absurd (cc h)
steady_done (Asked (Hold i t)) w r h c s = absurd (cc h)
steady_done (Asked (Begin i t window)) w r h c s = absurd (cc h)
steady_done (Asked (Free i t)) w r h c s = absurd (cc h)
steady_done (Asked (Cease i t)) w r h c s = absurd (cc h)
steady_done (Asked (Weight i weight)) w r h c s =
    steady_ready w (weight_outcome w i weight).world (steady_weighed w i weight) c s
steady_done (Asked (Leave i)) w r h c s = absurd (cc h)
steady_done (Asked (Pull d l)) w r h c s = absurd (cc h)
steady_done (Asked (Done e heard air)) w r h c s = absurd (cc h)
steady_done (Asked (Sleep i)) w r h c s = absurd (cc h)
steady_done (Asked (Ampdu i octets)) w r h c s = steady_ready w _ (steady_stated w i octets) c s
steady_done (Asked (Bss i b)) w r h c s = steady_ready w _ (steady_moved w i b) c s
steady_done (Asked (Stop i)) w r h c s = absurd (cc h)
steady_done (Asked (Start i)) w r h c s = absurd (cc h)
steady_done (Asked (Service ask)) w r h c s = absurd (cc h)
steady_done (Asked (Unsent e i)) w r h c s = steady_ready w
    (outcome_where_open w (exchange w e) (λ x. unsent_outcome w x i)).world
    (steady_open (exchange w e) w e (λ x. unsent_outcome w x i) refl
    (λ x k. steady_marked w e x _ _ (orderly_reached w r).kept k)) c s
steady_done (Asked (GiveUp e i)) w r h c s = steady_ready w
    (outcome_where_open w (exchange w e) (λ x. give_up_outcome w x i)).world
    (steady_open (exchange w e) w e (λ x. give_up_outcome w x i) refl
    (λ x k. steady_marked w e x _ _ (orderly_reached w r).kept k)) c s
steady_done (Asked (Flush i t)) w r h c s = absurd (cc h)
steady_done (Asked (Wake i)) w r h c s = absurd (cc h)
steady_done (Asked (Poll i)) w r h c s = absurd (cc h)

pub ready_left : (w : World) (note : Note) → IsReached w → leaves_ready note ≡ true → (s : ℕ) (c : Class) →
    is_ready (step w note).world c s ≡ is_ready w c s
ready_left w note r h s c = ready_stepped w note s c (λ _. steady_done note w r h c s)
