-- Proves that a pull changes the readiness of the station that it picks only in the pull's class, unless its
-- exchange ends a service period: then the station may be ready no longer in other classes too.
use Rattle.std.proofs.Common.{◌≡◌, refl, ap, ap₂, sym, ◌∙◌, subst, arith, ℕ, zero, suc, ◌<◌, ◌≤◌, Bool, true, false, not, ◌&&◌, ◌||◌, if◌then◌else◌, List, [], ◌∷◌, ◌++◌, length, Option, Some, None, is_some, IfSome, option_map, inl, inr, nat_lt}
use Rattle.std.specs.Prelude.{◌==◌}
use Rattle.std.proofs.lemmas.Bool.{cases_eq, ne_eqb, and_parts}
use Rattle.std.proofs.lemmas.List.Folds.{list_any-append}
use Rattle.wf_frame.specs.declared.classes.Class.{Class}
use Rattle.wf_frame.specs.declared.classes.Fate.{Fate}
use Rattle.wf_frame.specs.declared.notes.Note.TheVariants.{Asked}
use Rattle.wf_frame.specs.declared.notes.Ask.TheVariants.{Pull}
use Rattle.wf_frame.specs.declared.notes.Limits.{Limits}
use Rattle.wf_frame.specs.Classes.{lower_tid, upper_tid, class_of, class_number}
use Rattle.wf_def_lists.specs.Table.{at, change}
use Rattle.wf_def_codel.specs.Codel.{Item}
use Rattle.wf_def_lists.specs.Lists.{on}
use Rattle.wf_def_rotation.specs.Rotation.{Rotation, in_order}
use Rattle.wf_def_world.specs.World.{World, holds_back, Station, Exchange, owed, Tid, Queue, Mpdu, no_tid, rotation, tid_of, queue, is_live, on_queue, with_station, on_station, on_tid, with_queues, with_frames_finished}
use Rattle.wf_def_world.specs.FlowQueues.{taken_from_picked, taken_by_codel, taken_for_tid, with_queues_paid}
use Rattle.wf_def_world.specs.CanSend.{is_request, has_credit, is_reachable, is_below_aql, may_receive, is_ready}
use Rattle.wf_def_world.specs.Exchanges.{Aggregate, Prepared, picked_station, station_need, with_fresh, aggregate_of, prepared_data, prepared_exchange, with_number, after_pick, after_tid_turn, sending_tid, exchange_of, mpdus_of, credit_after, service_spent, spent, with_spent, with_exchange_opened}
use Rattle.wf_def_world.specs.Refusals.{refusal}
use Rattle.wf_def_world.specs.Service.{is_delivered, is_served, service_after_sent}
use Rattle.wf_def_world.specs.Step.{Outcome, outcome_of, send_outcome, pull_outcome_for, pull_outcome, step}
use Rattle.wf_law_rules.proofs.Lemmas.Counts.{listed-some}
use Rattle.wf_law_rules.proofs.Lemmas.Tables.{at_put_same, at_put_other}
use Rattle.wf_law_runs.specs.Queues.{KeepsQueues}
use Rattle.wf_law_runs.proofs.Queues.Law.{queue_law}
use Rattle.wf_law_runs.proofs.Common.Picked.{picked_world}
use Rattle.wf_law_runs.proofs.Queues.Shelves.{Shelves, shelves, shelves_picked}
use Rattle.wf_law_runs.proofs.Windows.Sides.{live_on}
use Rattle.wf_law_runs.proofs.Windows.Opened.{pick_ready}
use Rattle.wf_law_runs.proofs.Frames.Delivered.{less_pulled}
use Rattle.wf_law_runs.proofs.Releases.Placed.{Any}
use Rattle.wf_law_runs.proofs.Deficits.Books.{cases_class, same_number}
use Rattle.wf_law_runs.proofs.Deficits.Mild.{Lists}
use Rattle.wf_queue_flows_refines.specs.Standing.{Part}
use Rattle.wf_queue_flows_refines.proofs.Leaves.{pick_alone}
use Rattle.wf_send_half_model.specs.Standing.{IsReached}
use Rattle.wf_send_half_model.specs.Readiness.{ends_service}
use Rattle.wf_send_half_model.proofs.Reached.{by_law, step_done}
use Rattle.wf_send_half_model.proofs.Apart.{IsApart, apart_pulled}
use Rattle.wf_send_half_model.proofs.Steady.{asks, receives, receives_on_station}
use Rattle.wf_send_half_model.proofs.Spared.{IsSameTid, same_less, ready_same_by, ready_less_by, queued_same, ready_stepped, ready_others, ready_after_pick, winner_live}
use Rattle.wf_send_half_model.proofs.OwnClass.{lower_class, upper_class}
use Rattle.wf_send_half_model.proofs.ChargedClass.{sending_class, owed_append}
use Rattle.wf_send_half_model.proofs.Beyond.{IsBeyond, beyond_here, beyond_then, beyond_on_session, beyond_on_share, beyond_finish, tid_on_station, on_station_opened}

-- ---- the parts

beyond_on_queue : (s t : ℕ) (w : World) (q : ℕ) (f : Queue → Queue) → IsBeyond s t w (on_queue w q f)
unfolding on_queue
beyond_on_queue s t w q f = record { tids = λ j _. refl; live = refl; receives = λ c. refl; opened = refl }

beyond_with_queues : (w : World) (s t : ℕ) (r : Rotation) → IsBeyond s t w (with_queues w s t r)
unfolding with_queues on_tid
beyond_with_queues w s t r = record {
  tids = λ j other. tid_on_station w s j (λ x. record
      x { tids = change no_tid x.tids t (λ y. record y { queues = r }) })
      (λ x. at_put_other no_tid x.tids t j _ (λ e. other (sym e)));
  live = live_on w s _ s;
  receives = receives_on_station w s _ (λ x. refl) s;
  opened = on_station_opened w s _;
}

beyond_finish_all : (ids : List ℕ) (s t : ℕ) (w : World) (fate : Fate) →
    IsBeyond s t w (with_frames_finished w fate ids)
unfolding with_frames_finished
beyond_finish_all [] s t w fate = beyond_here s t w
beyond_finish_all (id ∷ ids) s t w fate = beyond_then s t w _ _ (beyond_finish s t w fate id)
    (beyond_finish_all ids s t _ fate)

beyond_paid : (qs : List ℕ) (s t : ℕ) (w : World) (quanta : ℕ → ℕ) →
    IsBeyond s t w (with_queues_paid w quanta qs)
unfolding with_queues_paid
beyond_paid [] s t w quanta = beyond_here s t w
beyond_paid (q ∷ qs) s t w quanta = beyond_then s t w _ _ (beyond_on_queue s t w q _)
    (beyond_paid qs s t _ quanta)

beyond_taken : (o : Option ℕ) (s t : ℕ) (w : World) → IsBeyond s t w (taken_from_picked w s o).world
unfolding taken_from_picked taken_by_codel
beyond_taken None s t w = beyond_here s t w
beyond_taken (Some q) s t w = beyond_then s t w _ _ (beyond_on_queue s t w q _) (beyond_finish_all _ s t _ _)

beyond_take : (w : World) (s t : ℕ) → IsBeyond s t w (taken_for_tid w s t).world
unfolding taken_for_tid
beyond_take w s t = beyond_then s t w _ _ (beyond_then s t w _ _ (beyond_paid _ s t w _)
    (beyond_with_queues _ s t _)) (beyond_taken _ s t _)

beyond_number : (o : Option Item) (w : World) (s t : ℕ) → IsBeyond s t w (with_number w s t o)
unfolding with_number
beyond_number None w s t = beyond_here s t w
beyond_number (Some x) w s t = beyond_on_session w s t _

filled_if : (b : Bool) (s t : ℕ) (w : World) (x y : Aggregate) → IsBeyond s t w x.world →
    IsBeyond s t w y.world → IsBeyond s t w (if b then x else y).world
filled_if true s t w x y h k = h
filled_if false s t w x y h k = k

beyond_fresh : (n : ℕ) (w : World) (s t : ℕ) (mpdus : List Mpdu) →
    IsBeyond s t w (with_fresh n w s t mpdus).world
unfolding with_fresh
beyond_fresh zero w s t mpdus = beyond_here s t w
beyond_fresh (suc n) w s t mpdus =
    let k = beyond_then s t w _ _ (beyond_take w s t)
    (beyond_number (taken_for_tid w s t).item (taken_for_tid w s t).world s t) in
    filled_if _ s t w _ _ (beyond_here s t w) (filled_if _ s t w _ _
    (beyond_then s t w _ _ k (beyond_fresh n _ s t _)) k)

beyond_filled : (w : World) (s t : ℕ) → IsBeyond s t w (aggregate_of w s t).world
unfolding aggregate_of
beyond_filled w s t = filled_if _ s t w _ _ (beyond_fresh _ w s t _) (beyond_here s t w)

prepared_if : (b : Bool) (s t : ℕ) (w : World) (x y : Prepared) → IsBeyond s t w x.world →
    IsBeyond s t w y.world → IsBeyond s t w (if b then x else y).world
prepared_if true s t w x y h k = h
prepared_if false s t w x y h k = k

beyond_prepared : (w : World) (s t : ℕ) → IsBeyond s t w (prepared_exchange w s t).world
unfolding prepared_exchange prepared_data
beyond_prepared w s t = prepared_if _ s t w _ _ (beyond_here s t w)
    (beyond_then s t w _ _ (beyond_filled w s t) (beyond_on_session _ s t _))

beyond_turn : (w : World) (s : ℕ) (c : Class) (t : ℕ) → IsBeyond s t w (after_tid_turn w s c t)
unfolding after_tid_turn
beyond_turn w s c t = beyond_on_share w s t c _

-- ---- the exchange opens

sent_tids : (s t j : ℕ) (d : Class) (p : Prepared) →
    tid_of (send_outcome s t d p).world s j ≡ tid_of p.world s j
unfolding send_outcome with_spent with_exchange_opened
sent_tids s t j d p = tid_on_station (with_exchange_opened p.world (exchange_of s t d p)) s j
    (spent (exchange_of s t d p)) (λ x. refl)

sent_live : (s t : ℕ) (d : Class) (p : Prepared) → is_live (send_outcome s t d p).world s ≡ is_live p.world s
unfolding send_outcome with_spent with_exchange_opened
sent_live s t d p = live_on (with_exchange_opened p.world (exchange_of s t d p)) s _ s

sent_requests : (s t j : ℕ) (d : Class) (p : Prepared) → (j ≡ t → ⊥) →
    asks s j (send_outcome s t d p).world.opened ≡ asks s j p.world.opened
unfolding send_outcome with_spent with_exchange_opened on_station with_station
sent_requests s t j d p other =
    let none : (t == j) ≡ false = ne_eqb t j (λ e. other (sym e)) in
    list_any-append (λ x. (x.station == s) && ((x.tid == j) && is_request x.content)) p.world.opened
    (exchange_of s t d p ∷ [])
    ∙ ap (λ (b : Bool). asks s j p.world.opened || (((s == s) && (b && is_request p.content)) || false)) none
    ∙ nothing (s == s) (asks s j p.world.opened)
  where
    nothing : (a b : Bool) → b || ((a && false) || false) ≡ b
    nothing true true = refl
    nothing true false = refl
    nothing false true = refl
    nothing false false = refl

-- ---- a credit or frames of a service period are spent

-- a credit for class d is for no other class
apart_credit : (o : Option Class) (d c : Class) → (d ≡ c → ⊥) → has_credit o d ≡ true → has_credit o c ≡ false
apart_credit None d c other is = refl
apart_credit (Some k) d c other is = elim (cases_class k c) [
  | inl same ↦ elim (cases_class k d) [
    | inl here ↦ absurd (other (sym here ∙ same))
    | inr differs ↦ absurd (cc (is, ne_eqb (class_number k) (class_number d) differs))
  ]
  | inr differs ↦ ne_eqb (class_number k) (class_number c) differs
]

-- a credit for another class than that of the exchange stays, if the exchange is due to a service period
credit_kept : (o : Option Class) (d c : Class) (served : Bool) → (d ≡ c → ⊥) →
    (has_credit o d || served) ≡ true →
    has_credit (if served && not (has_credit o d) then o else None) c ≡ has_credit o c
credit_kept o d c served other h = go served (has_credit o d) refl h
  where
    go : (a b : Bool) → has_credit o d ≡ b → (b || a) ≡ true →
        has_credit (if a && not b then o else None) c ≡ has_credit o c
    go true true is k = sym (apart_credit o d c other is)
    go false true is k = sym (apart_credit o d c other is)
    go true false is k = refl
    go false false is k = absurd (cc k)

-- a service period stays open, unless the exchange ends it
service_kept : (served : Bool) (n : ℕ) (o : Option ℕ) →
    is_some (if served then service_after_sent false n o else o) ≡ is_some o
service_kept true n None = refl
service_kept true n (Some left) = refl
service_kept false n o = refl

-- no exchange opens a service period
service_less : (served eosp : Bool) (n : ℕ) (o : Option ℕ) →
    is_some (if served then service_after_sent eosp n o else o) ≡ true → is_some o ≡ true
service_less true true n o h = absurd (cc h)
service_less true false n None h = h
service_less true false n (Some left) h = refl
service_less false eosp n o h = h

-- whether a station is reachable in a class, by whether it sleeps, has a credit for the class, is in a
-- service period, and has the class among its delivery-enabled ones
abbrev reaches : Bool → Bool → Bool → Bool → Bool
reaches asleep credit service delivered = not asleep || (credit || (service && (delivered && asleep)))

reaches_same : (asleep a b m n delivered : Bool) → (asleep ≡ true → a ≡ b) → m ≡ n →
    reaches asleep a m delivered ≡ reaches asleep b n delivered
reaches_same false a b m n delivered h k = refl
reaches_same true a b m n delivered h k =
    ap₂ (λ (x y : Bool). x || (y && (delivered && true))) (h refl) k

reaches_less : (asleep a b m n delivered : Bool) → (asleep ≡ true → a ≡ b) → (m ≡ true → n ≡ true) →
    reaches asleep a m delivered ≡ true → reaches asleep b n delivered ≡ true
reaches_less false a b m n delivered h k is = refl
reaches_less true a true m n delivered h k is = refl
reaches_less true true false m n delivered h k is = absurd (cc (h refl))
reaches_less true false false false n delivered h k is = absurd (cc is)
reaches_less true false false true n delivered h k is =
    ap (λ (y : Bool). y && (delivered && true)) (k refl) ∙ is

module _ (x : Exchange) (y : Station) (c : Class) (other : x.class ≡ c → ⊥)
    (granted : is_reachable y x.class ≡ true) where
  credit_left : y.asleep ≡ true → has_credit (credit_after x.class y) c ≡ has_credit y.credit c
  credit_left on = credit_kept y.credit x.class c (is_served y x.class) other
      (ap (λ (b : Bool). not b || (has_credit y.credit x.class || is_served y x.class)) (sym on) ∙ granted)

  -- an exchange of one class changes nothing in another one, unless it ends a service period
  reachable_kept : x.eosp ≡ false → is_reachable (spent x y) c ≡ is_reachable y c
  reachable_kept stays = reaches_same y.asleep (has_credit (credit_after x.class y) c) (has_credit y.credit c)
      (is_some (service_spent x y)) (is_some y.service) (is_delivered y c) credit_left
      (ap (λ (b : Bool). is_some (if is_served y x.class
      then service_after_sent b (length (mpdus_of x.content)) y.service else y.service)) stays
      ∙ service_kept (is_served y x.class) (length (mpdus_of x.content)) y.service)

  -- and makes the station reachable nowhere
  reachable_less : is_reachable (spent x y) c ≡ true → is_reachable y c ≡ true
  reachable_less = reaches_less y.asleep (has_credit (credit_after x.class y) c) (has_credit y.credit c)
      (is_some (service_spent x y)) (is_some y.service) (is_delivered y c) credit_left
      (service_less (is_served y x.class) x.eosp (length (mpdus_of x.content)) y.service)

granted_in : (y : Station) (d : Class) (low : Bool) → receives d (Some y) low ≡ true → is_reachable y d ≡ true
granted_in y d low h = (and_parts (is_reachable y d) low (and_parts (not y.stopped) _ h).1).0

spent_receives : (x : Exchange) (o : Option Station) (c : Class) (low below : Bool) → (x.class ≡ c → ⊥) →
    receives x.class o low ≡ true → x.eosp ≡ false →
    receives c (option_map (spent x) o) below ≡ receives c o below
spent_receives x None c low below other h stays = refl
spent_receives x (Some y) c low below other h stays = ap (λ (a : Bool). not y.stopped && (a && below))
    (reachable_kept x y c other (granted_in y x.class low h) stays)

spent_receives_less : (x : Exchange) (o : Option Station) (c : Class) (low below : Bool) →
    (x.class ≡ c → ⊥) → receives x.class o low ≡ true →
    receives c (option_map (spent x) o) below ≡ true → receives c o below ≡ true
spent_receives_less x None c low below other h is = is
spent_receives_less x (Some y) c low below other h is =
    let parts = and_parts (not y.stopped) (is_reachable (spent x y) c && below) is in
    let more = and_parts (is_reachable (spent x y) c) below parts.1 in
    let there : is_reachable y c ≡ true =
    reachable_less x y c other (granted_in y x.class low h) more.0 in
    rw (parts.0, there, more.1) refl

-- the station of an exchange that was sent, after it spent what allowed it
sent_station : (s t : ℕ) (d c : Class) (p : Prepared) → (d ≡ c → ⊥) →
    may_receive (send_outcome s t d p).world s c
    ≡ receives c (option_map (spent (exchange_of s t d p)) (at None p.world.stations s))
    (is_below_aql p.world s c)
unfolding send_outcome with_spent with_exchange_opened on_station with_station
sent_station s t d c p other =
    let below : ℕ → Bool = λ n. (p.world.config.aql == 0) || nat_lt n p.world.config.aql in
    let x : Exchange = exchange_of s t d p in
    ap (λ (o : Option Station). receives c o (below (owed s c (p.world.opened ++ x ∷ []))))
    (at_put_same None p.world.stations s (option_map (spent x) (at None p.world.stations s)))
    ∙ ap (λ (n : ℕ). receives c (option_map (spent x) (at None p.world.stations s)) (below n))
    (owed_append s c p.world.opened x (λ e. other (same_number d c e)))

module _ (s t : ℕ) (d c : Class) (p : Prepared) (other : d ≡ c → ⊥)
    (may : may_receive p.world s d ≡ true) where
  sent_receives : (exchange_of s t d p).eosp ≡ false →
      may_receive (send_outcome s t d p).world s c ≡ may_receive p.world s c
  sent_receives stays = sent_station s t d c p other
      ∙ spent_receives (exchange_of s t d p) (at None p.world.stations s) c (is_below_aql p.world s d)
      (is_below_aql p.world s c) other may stays

  sent_receives_less : may_receive (send_outcome s t d p).world s c ≡ true →
      may_receive p.world s c ≡ true
  sent_receives_less is =
      spent_receives_less (exchange_of s t d p) (at None p.world.stations s) c (is_below_aql p.world s d)
      (is_below_aql p.world s c) other may (sym (sent_station s t d c p other) ∙ is)

-- ---- the pull

module _ (w : World) (d : Class) (l : Limits) (i : ℕ) (r : IsReached w)
    (won : (picked_station w d).winner ≡ Some i) where
  picked : World
  picked = picked_world w d l

  sends_on : ℕ
  sends_on = sending_tid (picked_world w d l) i d

  sent : World
  sent = (pull_outcome_for (picked_world w d l) d (Some i)).world

  beyond_ready : IsBeyond i sends_on picked (prepared_exchange
      (after_tid_turn picked i d sends_on) i sends_on).world
  beyond_ready = beyond_then i sends_on picked _ _ (beyond_turn picked i d sends_on)
      (beyond_prepared _ i sends_on)

  whole : (pull_outcome w d l).world ≡ sent
  unfolding sent pull_outcome
  whole = ap (λ (o : Option ℕ). (pull_outcome_for (picked_world w d l) d o).world) won

  winner_ready : is_ready w d i ≡ true
  winner_ready = subst (λ (o : Option ℕ). IfSome o (λ k. is_ready w d k ≡ true)) won
      (pick_ready (station_need w d) (is_ready w d) (rotation w d))

  sent_long : (j q : ℕ) → (j ≡ sends_on → ⊥) → Lists w i j q →
      length (queue sent q).items ≡ length (queue picked q).items
  unfolding picked sends_on sent
  sent_long j q other k =
      let keeps : KeepsQueues w = by_law KeepsQueues w r (queue_law w.config r.history r.in_range) in
      let T : ℕ → Type 0 = λ z. z ≡ sending_tid (picked_world w d l) i d in
      let same : shelves (picked_world w d l) ≡ shelves w = shelves_picked w d l in
      let before : IsApart T (length (queue w q).items) q i (shelves w) = record {
        live = winner_live w d i won;
        off = λ t e. elim (cases_eq (on (in_order (tid_of w i t).queues) q) 0) [
          | inl none ↦ none
          | inr some ↦ absurd (other ((keeps.sole i j i t q (listed-some (tid_of w i j).queues q k)
              (listed-some (tid_of w i t).queues q (omega (arith, some)))).1 ∙ e))
        ];
        long = omega arith;
      } in
      let after : IsApart T (length (queue w q).items) q i
      (shelves (pull_outcome_for (picked_world w d l) d (Some i)).world) =
      apart_pulled T (length (queue w q).items) q i (picked_world w d l) d refl
      (subst (IsApart T (length (queue w q).items) q i) (sym same) before) in
      let short : length (queue (pull_outcome w d l).world q).items ≤ length (queue w q).items =
      ((less_pulled Any w d l).queues q).short in
      let is : length (queue (pull_outcome w d l).world q).items
      ≡ length (queue (pull_outcome_for (picked_world w d l) d (Some i)).world q).items =
      ap (λ (u : World). length (queue u q).items) whole in
      let first : length (queue (picked_world w d l) q).items ≡ length (queue w q).items =
      ap (λ (b : Shelves). length (b.queues q).items) same in
      omega (arith, after.long, short, is, first)

  sent_tid : (j : ℕ) → (j ≡ sends_on → ⊥) → IsSameTid picked sent i j
  unfolding picked sends_on sent pull_outcome_for after_pick
  sent_tid j other =
      let p : Prepared = prepared_exchange (after_tid_turn picked i d sends_on) i sends_on in
      let tid : tid_of (send_outcome i sends_on d p).world i j ≡ tid_of picked i j =
      sent_tids i sends_on j d p ∙ beyond_ready.tids j other in
      let lists : (tid_of picked i j).queues ≡ (tid_of w i j).queues =
      ap (λ (x : Part). x.lists i j) (pick_alone w d) in
      record {
        session = ap (λ (y : Tid). y.session) tid;
        held = ap (λ (y : Tid). holds_back y.mode) tid;
        request = sent_requests i sends_on j d p other ∙ ap (asks i j) beyond_ready.opened;
        queued = queued_same picked sent i j (ap (λ (y : Tid). y.queues) tid)
            (λ q k. sent_long j q other (subst (λ (z : Rotation). 0 < on (in_order z) q) lists k));
      }

  -- the exchange that is sent
  abbrev prepared : Prepared
  prepared = prepared_exchange (after_tid_turn picked i d sends_on) i sends_on

  exchange_sent : Exchange
  exchange_sent = exchange_of i sends_on d prepared

  may_now : may_receive prepared.world i d ≡ true
  unfolding picked after_pick
  may_now =
      let ready : is_ready picked d i ≡ true = ready_after_pick w d d i ∙ winner_ready in
      beyond_ready.receives d ∙ (and_parts _ _ (and_parts _ _ ready).1).1

  live_now : is_live sent i ≡ is_live picked i
  unfolding picked sends_on sent pull_outcome_for
  live_now = sent_live i sends_on d prepared ∙ beyond_ready.live

  lower_same : (c : Class) → (d ≡ c → ⊥) → IsSameTid picked sent i (lower_tid c)
  unfolding picked sends_on
  lower_same c other = sent_tid (lower_tid c) (λ e. other (sym (sending_class picked i d)
      ∙ ap class_of (sym e) ∙ lower_class c))

  upper_same : (c : Class) → (d ≡ c → ⊥) → IsSameTid picked sent i (upper_tid c)
  unfolding picked sends_on
  upper_same c other = sent_tid (upper_tid c) (λ e. other (sym (sending_class picked i d)
      ∙ ap class_of (sym e) ∙ upper_class c))

  own_pulled : (c : Class) → (d ≡ c → ⊥) → exchange_sent.eosp ≡ false → is_ready sent c i ≡ is_ready w c i
  unfolding picked sends_on sent exchange_sent pull_outcome_for
  own_pulled c other stays =
      ready_same_by picked sent c i live_now
      (sent_receives i sends_on d c prepared other may_now stays ∙ beyond_ready.receives c)
      (lower_same c other) (upper_same c other)
      ∙ ready_after_pick w d c i

  own_less : (c : Class) → (d ≡ c → ⊥) → is_ready sent c i ≡ true → is_ready w c i ≡ true
  unfolding picked sends_on sent pull_outcome_for
  own_less c other is =
      sym (ready_after_pick w d c i)
      ∙ ready_less_by picked sent c i live_now
      (λ may. sym (beyond_ready.receives c) ∙ sent_receives_less i sends_on d c prepared other may_now may)
      (same_less picked sent i (lower_tid c) (lower_same c other))
      (same_less picked sent i (upper_tid c) (upper_same c other)) is

  whole_pulled : (c : Class) → (d ≡ c → ⊥) → exchange_sent.eosp ≡ false →
      is_ready (outcome_of w (Asked (Pull d l))).world c i ≡ is_ready w c i
  unfolding outcome_of
  whole_pulled c other stays =
      ap (λ (u : World). is_ready u c i) whole ∙ own_pulled c other stays

  -- in another class than its own a pull makes its station ready nowhere
  pub whole_less : (c : Class) → (d ≡ c → ⊥) → is_ready (outcome_of w (Asked (Pull d l))).world c i ≡ true →
      is_ready w c i ≡ true
  unfolding outcome_of
  whole_less c other is = own_less c other (ap (λ (u : World). is_ready u c i) (sym whole) ∙ is)

  -- the reply says whether the exchange ends a service period
  reply_ends : refusal w (Asked (Pull d l)) ≡ None →
      ends_service (step w (Asked (Pull d l))).reply ≡ exchange_sent.eosp
  unfolding outcome_of pull_outcome pull_outcome_for send_outcome picked sends_on exchange_sent
  reply_ends done = ap (λ (o : Outcome). ends_service o.reply) (step_done w (Asked (Pull d l)) done)
      ∙ ap (λ (o : Option ℕ). ends_service (pull_outcome_for (picked_world w d l) d o).reply) won

pub ready_pulled : (w : World) (d : Class) (l : Limits) → IsReached w → (i : ℕ) (c : Class) →
    ((picked_station w d).winner ≡ Some i →
    (d ≡ c → ⊥) × (ends_service (step w (Asked (Pull d l))).reply ≡ false)) →
    is_ready (step w (Asked (Pull d l))).world c i ≡ is_ready w c i
ready_pulled w d l r i c other = go (picked_station w d).winner refl
  where
    go : (o : Option ℕ) → (picked_station w d).winner ≡ o →
        is_ready (step w (Asked (Pull d l))).world c i ≡ is_ready w c i
    go None e = ready_others w (Asked (Pull d l)) r i c (λ k. absurd (cc (e, k))) refl
    go (Some k) e = elim (cases_eq k i) [
      | inl same ↦
          let won : (picked_station w d).winner ≡ Some i = e ∙ ap (λ (n : ℕ). Some n) same in
          ready_stepped w (Asked (Pull d l)) i c (λ done. whole_pulled w d l i r won c (other won).0
          (sym (reply_ends w d l i r won done) ∙ (other won).1))
      | inr differs ↦ ready_others w (Asked (Pull d l)) r i c (λ h. differs (cc (e, h))) refl
    ]
