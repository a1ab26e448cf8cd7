-- Proves that an Arrive and an Answer do not change what a transmit path keeps. They change receivers and
-- marks, on which readiness does not depend, so no station is listed by them.
use Rattle.std.proofs.Common.{◌≡◌, refl, ap, ap₂, sym, ◌∙◌, subst, arith, ℕ, suc, ◌+◌, ◌<◌, ◌==◌, nat_lt, Bool, true, false, not, ◌&&◌, ◌||◌, if◌then◌else◌, List, [], ◌∷◌, ◌++◌, length, map, find, sum_by, Option, Some, None, is_some, unwrap_or, option_map, ℤ, pos, ◌-ℤ◌, int_le}
use Rattle.std.specs.List.{list_any}
use Rattle.std.proofs.Math.Seq.{take-length}
use Rattle.wf_frame.specs.declared.settings.Config.{Config}
use Rattle.wf_frame.specs.declared.classes.Class.{Class}
use Rattle.wf_frame.specs.declared.notes.Ask.TheVariants.{Arrive, Answer}
use Rattle.wf_frame.specs.declared.notes.Note.{Note}
use Rattle.wf_frame.specs.declared.notes.Note.TheVariants.{Asked}
use Rattle.wf_frame.specs.declared.notes.Refusal.{Refusal}
use Rattle.wf_frame.specs.Classes.{all_classes, lower_tid, upper_tid, class_number, same_class}
use Rattle.wf_frame.specs.Settings.{IsInRange}
use Rattle.wf_def_lists.specs.Table.{at}
use Rattle.wf_def_rotation.specs.Rotation.{Rotation, has_key, in_order, no_keys, with_key_listed}
use Rattle.wf_def_agreement.specs.Session.{Session, request_due, has_room, waiting_numbers}
use Rattle.wf_law_rules.proofs.Lemmas.Numbers.{on_bool, not_eq, eq_yes}
use Rattle.wf_law_rules.proofs.Lemmas.Tables.{each_put}
use Rattle.wf_def_world.specs.World.{World, Mode, holds_back, Station, Tid, Queue, Exchange, no_tid, no_station, new_queue, session, tid_of, station, rotation, is_live, owed, exchange, with_station, on_station, on_tid, on_receiver, with_rotation, with_exchange, opening, standing, no_share}
use Rattle.wf_def_world.specs.CanSend.{is_request, request_open, can_send, can_send_in, is_below_aql, may_receive, is_ready, with_listing_in, with_listings_in, with_listings_of, is_to_list, is_reachable}
use Rattle.wf_def_world.specs.Exchanges.{after_arrival}
use Rattle.wf_def_world.specs.Refusals.{refusal}
use Rattle.wf_def_world.specs.Step.{Outcome, arrive_outcome, answer_outcome, outcome_where_open, outcome_of, station_of, after_refusal, judged_outcome, step}
use Rattle.wf_def_world.specs.Run.{Entry, world_after}
use Rattle.wf_law_runs.specs.Windows.{OpenRises}
use Rattle.wf_law_runs.proofs.Deficits.Law.{deficits}
use Rattle.wf_law_runs.proofs.Frames.Fates.{world_after-append}
use Rattle.wf_law_runs.proofs.Windows.Sides.{on_tids}
use Rattle.wf_law_driver.specs.Inferred.{arrivals, answer_inferred, indices_inferred, inferred}
use Rattle.wf_law_driver.specs.Transmit.{without_tids, HasSameTransmit, TransmitLaw}
use Rattle.wf_law_driver.specs.Unheard.{unmarked}
use Rattle.wf_law_driver.proofs.Opened.{with_replaced, found_number}
use Rattle.wf_law_driver.proofs.Arrivals.{with_arrival, with_answer, answer_now}
use Rattle.wf_law_driver.proofs.Ended.{windows_after}
use Rattle.wf_law_runs.proofs.Deficits.KeptStep.{to_list_live}
use Rattle.wf_law_runs.specs.Deficits.{IsAccounted}
use Rattle.wf_def_world.specs.Stretches.{world_at}

same_transmit : (w : World) → HasSameTransmit w w
same_transmit w = record {
  config = refl;
  clock = refl;
  exchanges = refl;
  stations = λ s. refl;
  sessions = λ s t. refl;
  modes = λ s t. refl;
  lists = λ s t. refl;
  queues = refl;
  rotations = refl;
  opened = refl;
  frames = refl;
  finished = refl;
  bounds = refl;
}

then_transmit : (u v w : World) → HasSameTransmit u v → HasSameTransmit v w → HasSameTransmit u w
then_transmit u v w h k = record {
  config = k.config ∙ h.config;
  clock = k.clock ∙ h.clock;
  exchanges = k.exchanges ∙ h.exchanges;
  stations = λ s. k.stations s ∙ h.stations s;
  sessions = λ s t. k.sessions s t ∙ h.sessions s t;
  modes = λ s t. k.modes s t ∙ h.modes s t;
  lists = λ s t. k.lists s t ∙ h.lists s t;
  queues = k.queues ∙ h.queues;
  rotations = k.rotations ∙ h.rotations;
  opened = k.opened ∙ h.opened;
  frames = k.frames ∙ h.frames;
  finished = k.finished ∙ h.finished;
  bounds = k.bounds ∙ h.bounds;
}

-- ---- one exchange is replaced by another that differs only in its marks

untouched : (lo hi : ℕ) (xs : List Exchange) (z : Exchange) → z.number < lo → OpenRises lo hi xs →
    with_replaced z xs ≡ xs
untouched lo hi [] z l r = refl
untouched lo hi (y ∷ ys) z l r =
    let other : (y.number == z.number) ≡ false = not_eq y.number z.number (λ e. omega (arith, e, l, r.0)) in
    ap₂ (λ (q : Exchange) (qs : List Exchange). q ∷ qs) (ap (λ (b : Bool). if b then z else y) other)
    (untouched (suc y.number) hi ys z (omega (arith, l, r.0)) r.2)

first_found : (b : Bool) (y x : Exchange) (o : Option Exchange) → (if b then Some y else o) ≡ Some x →
    b ≡ true → y ≡ x
first_found true y x o h e = cc h
first_found false y x o h e = absurd (cc e)

later_found : (b : Bool) (y x : Exchange) (o : Option Exchange) → (if b then Some y else o) ≡ Some x →
    b ≡ false → o ≡ Some x
later_found true y x o h e = absurd (cc e)
later_found false y x o h e = h

replaced_same : (lo hi e : ℕ) (xs : List Exchange) (x z : Exchange) → OpenRises lo hi xs →
    find (λ y. y.number == e) xs ≡ Some x → z.number ≡ e → unmarked z ≡ unmarked x →
    map unmarked (with_replaced z xs) ≡ map unmarked xs
replaced_same lo hi e [] x z r h n same = refl
replaced_same lo hi e (y ∷ ys) x z r h n same = on_bool (y.number == e)
    (λ yes. ap₂ (λ (q : Exchange) (qs : List Exchange). q ∷ qs)
    (ap (λ (b : Bool). unmarked (if b then z else y)) (at_z ∙ yes)
    ∙ (same ∙ ap unmarked (sym (first_found (y.number == e) y x _ h yes))))
    (ap (map unmarked) (untouched (suc y.number) hi ys z (omega (arith, n, eq_yes y.number e yes)) r.2)))
    (λ no_match. ap₂ (λ (q : Exchange) (qs : List Exchange). q ∷ qs)
    (ap (λ (b : Bool). unmarked (if b then z else y)) (at_z ∙ no_match))
    (replaced_same (suc y.number) hi e ys x z r.2 (later_found (y.number == e) y x _ h no_match) n same))
  where
    at_z : (y.number == z.number) ≡ (y.number == e)
    at_z = ap (λ (k : ℕ). y.number == k) n

-- ---- a receiver changes

bare_on_tids : (t : ℕ) (f : Tid → Tid) (o : Option Station) →
    option_map without_tids (option_map (on_tids t f) o) ≡ option_map without_tids o
bare_on_tids t f None = refl
bare_on_tids t f (Some x) = refl

tid_on_tids : {X : Type 0} (R : Tid → X) (t : ℕ) (f : Tid → Tid) → ((y : Tid) → R (f y) ≡ R y) →
    (o : Option Station) (j : ℕ) → R (at no_tid (unwrap_or (option_map (on_tids t f) o) no_station).tids j)
    ≡ R (at no_tid (unwrap_or o no_station).tids j)
tid_on_tids R t f h None j = refl
tid_on_tids R t f h (Some x) j = each_put (λ i y. R y ≡ R (at no_tid x.tids i)) no_tid x.tids t
    (f (at no_tid x.tids t)) (λ i. refl) (h (at no_tid x.tids t)) j

tids_of : {X : Type 0} (R : Tid → X) (w : World) (s t : ℕ) (f : Tid → Tid) → ((y : Tid) → R (f y) ≡ R y) →
    (i j : ℕ) → R (tid_of (on_tid w s t f) i j) ≡ R (tid_of w i j)
unfolding on_tid on_station with_station
tids_of R w s t f h = each_put (λ i o. (j : ℕ) →
    R (at no_tid (unwrap_or o no_station).tids j) ≡ R (tid_of w i j)) None w.stations s _ (λ i j. refl)
    (tid_on_tids R t f h (at None w.stations s))

on_tid_transmit : (w : World) (s t : ℕ) (f : Tid → Tid) → ((y : Tid) → (f y).session ≡ y.session) →
    ((y : Tid) → (f y).mode ≡ y.mode) → ((y : Tid) → (f y).queues ≡ y.queues) →
    HasSameTransmit w (on_tid w s t f)
unfolding on_tid on_station with_station
on_tid_transmit w s t f h m k = record {
  config = refl;
  clock = refl;
  exchanges = refl;
  stations = each_put (λ i o. option_map without_tids o ≡ option_map without_tids (at None w.stations i)) None
      w.stations s _ (λ i. refl) (bare_on_tids t f (at None w.stations s));
  sessions = tids_of (λ (y : Tid). y.session) w s t f h;
  modes = tids_of (λ (y : Tid). y.mode) w s t f m;
  lists = tids_of (λ (y : Tid). y.queues) w s t f k;
  queues = refl;
  rotations = refl;
  opened = refl;
  frames = refl;
  finished = refl;
  bounds = refl;
}

with_exchange_transmit : (w : World) (e : ℕ) (x z : Exchange) → OpenRises 0 w.exchanges w.opened →
    exchange w e ≡ Some x → z.number ≡ e → unmarked z ≡ unmarked x → HasSameTransmit w (with_exchange w z)
unfolding with_exchange
with_exchange_transmit w e x z r found n same = record {
  config = refl;
  clock = refl;
  exchanges = refl;
  stations = λ s. refl;
  sessions = λ s t. refl;
  modes = λ s t. refl;
  lists = λ s t. refl;
  queues = refl;
  rotations = refl;
  opened = replaced_same 0 w.exchanges e w.opened x z r found n same;
  frames = refl;
  finished = refl;
  bounds = refl;
}

arrived_transmit : (w : World) (e : ℕ) (x : Exchange) (k : ℕ) → OpenRises 0 w.exchanges w.opened →
    exchange w e ≡ Some x → HasSameTransmit w (arrive_outcome w x k).world
unfolding arrive_outcome on_receiver on_tid on_station with_station
arrived_transmit w e x k r found =
    let f : Tid → Tid = λ (y : Tid). record y { receiver = after_arrival x.content k y.receiver } in
    let u : World = on_tid w x.station x.tid f in
    then_transmit w u _ (on_tid_transmit w x.station x.tid f (λ y. refl) (λ y. refl) (λ y. refl))
    (with_exchange_transmit u e x (with_arrival k x) r found (found_number w e x found) refl)

answered_transmit : (w : World) (e : ℕ) (x : Exchange) → OpenRises 0 w.exchanges w.opened →
    exchange w e ≡ Some x → HasSameTransmit w (answer_outcome w x).world
unfolding answer_outcome
answered_transmit w e x r found = with_exchange_transmit w e x (with_answer (answer_now w x) x) r found
    (found_number w e x found) refl

-- ---- the same stations are ready

any_unmarked : (s t : ℕ) (xs : List Exchange) →
    list_any (λ x. (x.station == s) && ((x.tid == t) && is_request x.content)) xs
    ≡ list_any (λ x. (x.station == s) && ((x.tid == t) && is_request x.content)) (map unmarked xs)
any_unmarked s t [] = refl
any_unmarked s t (x ∷ xs) = ap (λ (b : Bool). ((x.station == s) && ((x.tid == t) && is_request x.content))
    || b) (any_unmarked s t xs)

request_open_same : (w u : World) (s t : ℕ) → HasSameTransmit w u → request_open u s t ≡ request_open w s t
request_open_same w u s t h = any_unmarked s t u.opened
    ∙ (ap (list_any (λ (x : Exchange). (x.station == s) && ((x.tid == t) && is_request x.content))) h.opened
    ∙ sym (any_unmarked s t w.opened))

-- whether a TID can send, given its session, its mode, whether a request of it is open, the queues, and those
-- that it lists
abbrev sends_by : Session → Mode → Bool → List Queue → Rotation → Bool
sends_by y mode asked qs r = if request_due y then not asked
    else (nat_lt 0 (length (waiting_numbers y))
    || (nat_lt 0 (sum_by (λ q. length (at new_queue qs q).items) (in_order r))
    && (has_room y && not (holds_back mode))))

can_send_same : (w u : World) (s t : ℕ) → HasSameTransmit w u → can_send u s t ≡ can_send w s t
can_send_same w u s t h =
    let y : Session = session w s t in
    let mode : Mode = (tid_of w s t).mode in
    ap (λ (z : Session). sends_by z (tid_of u s t).mode (request_open u s t) u.queues (tid_of u s t).queues)
    (h.sessions s t)
    ∙ (ap (λ (m : Mode). sends_by y m (request_open u s t) u.queues (tid_of u s t).queues) (h.modes s t)
    ∙ (ap (λ (b : Bool). sends_by y mode b u.queues (tid_of u s t).queues) (request_open_same w u s t h)
    ∙ (ap (λ (qs : List Queue). sends_by y mode (request_open w s t) qs (tid_of u s t).queues) h.queues
    ∙ ap (λ (r : Rotation). sends_by y mode (request_open w s t) w.queues r) (h.lists s t))))

read_bare : {X : Type 0} (R : Station → X) → ((x : Station) → R (without_tids x) ≡ R x) →
    (o : Option Station) → R (unwrap_or (option_map without_tids o) no_station) ≡ R (unwrap_or o no_station)
read_bare R h None = refl
read_bare R h (Some x) = h x

reads_same : {X : Type 0} (R : Station → X) → ((x : Station) → R (without_tids x) ≡ R x) →
    (w u : World) (s : ℕ) → HasSameTransmit w u → R (station u s) ≡ R (station w s)
reads_same R h w u s k = sym (read_bare R h (at None u.stations s))
    ∙ (ap (λ (o : Option Station). R (unwrap_or o no_station)) (k.stations s)
    ∙ read_bare R h (at None w.stations s))

some_bare : (o : Option Station) → is_some (option_map without_tids o) ≡ is_some o
some_bare None = refl
some_bare (Some x) = refl

live_same : (w u : World) (s : ℕ) → HasSameTransmit w u → is_live u s ≡ is_live w s
live_same w u s k = sym (some_bare (at None u.stations s))
    ∙ (ap is_some (k.stations s) ∙ some_bare (at None w.stations s))

owed_unmarked : (s : ℕ) (c : Class) (xs : List Exchange) → owed s c xs ≡ owed s c (map unmarked xs)
owed_unmarked s c [] = refl
owed_unmarked s c (x ∷ xs) =
    ap (λ (n : ℕ). (if (x.station == s) && same_class x.class c then x.charge else 0) + n)
    (owed_unmarked s c xs)

below_aql_same : (w u : World) (s : ℕ) (c : Class) → HasSameTransmit w u →
    is_below_aql u s c ≡ is_below_aql w s c
below_aql_same w u s c h =
    ap₂ (λ (config : Config) (n : ℕ). (config.aql == 0) || nat_lt n config.aql) h.config
    (owed_unmarked s c u.opened ∙ (ap (owed s c) h.opened ∙ sym (owed_unmarked s c w.opened)))

may_receive_same : (w u : World) (s : ℕ) (c : Class) → HasSameTransmit w u →
    may_receive u s c ≡ may_receive w s c
may_receive_same w u s c h = ap₂ (λ (a b : Bool). a && b)
    (reads_same (λ (x : Station). not x.stopped) (λ x. refl) w u s h)
    (ap₂ (λ (a b : Bool). a && b)
    (reads_same (λ (x : Station). is_reachable x c) (λ x. refl) w u s h)
    (below_aql_same w u s c h))

ready_same : (w u : World) (c : Class) (s : ℕ) → HasSameTransmit w u → is_ready u c s ≡ is_ready w c s
ready_same w u c s h =
    let live : is_live u s ≡ is_live w s = live_same w u s h in
    let lower : can_send u s (lower_tid c) ≡ can_send w s (lower_tid c) =
    can_send_same w u s (lower_tid c) h in
    let upper : can_send u s (upper_tid c) ≡ can_send w s (upper_tid c) =
    can_send_same w u s (upper_tid c) h in
    let may : may_receive u s c ≡ may_receive w s c = may_receive_same w u s c h in
    ap (λ (b : Bool). b && ((can_send u s (lower_tid c) || can_send u s (upper_tid c)) && may_receive u s c))
    live
    ∙ (ap (λ (b : Bool). is_live w s && ((b || can_send u s (upper_tid c)) && may_receive u s c)) lower
    ∙ (ap (λ (b : Bool). is_live w s && ((can_send w s (lower_tid c) || b) && may_receive u s c)) upper
    ∙ ap (λ (b : Bool). is_live w s && (can_send_in w s c && b)) may))

owed_same : (w u : World) (s : ℕ) (c : Class) → HasSameTransmit w u → owed s c u.opened ≡ owed s c w.opened
owed_same w u s c h = owed_unmarked s c u.opened ∙ (ap (owed s c) h.opened ∙ sym (owed_unmarked s c w.opened))

standing_same : (w u : World) (s : ℕ) (c : Class) → HasSameTransmit w u → standing u s c ≡ standing w s c
standing_same w u s c h = ap₂ (λ (d : ℤ) (n : ℕ). d -ℤ pos n)
    (reads_same (λ (x : Station). (at no_share x.shares (class_number c)).deficit) (λ x. refl) w u s h)
    (ap₂ (λ (config : Config) (n : ℕ). if config.pending == 1 then n else 0) h.config (owed_same w u s c h))

to_list_same : (w u : World) (c : Class) (s : ℕ) → HasSameTransmit w u → is_to_list u c s ≡ is_to_list w c s
to_list_same w u c s h = ap₂ (λ (a b : Bool). a || b) (ready_same w u c s h)
    (ap₂ (λ (config : Config) (b : Bool). (config.pending == 1) && b) h.config
    (ap₂ (λ (b : Bool) (d : ℤ). b && int_le d (pos 0)) (live_same w u s h) (standing_same w u s c h)))

-- ---- so no station is listed

-- each station that belongs on a list is on one already
abbrev ListsReady : World → Type 0
ListsReady w = (s : ℕ) (c : Class) → is_to_list w c s ≡ true → has_key (rotation w c) s ≡ true

unlisted : (a b : Bool) → (a ≡ true → b ≡ true) → (a && not b) ≡ false
unlisted false b h = refl
unlisted true b h = ap not (h refl)

listed_in : (w : World) (s : ℕ) (c : Class) → ListsReady w → with_listing_in w s c ≡ w
unfolding with_listing_in
listed_in w s c h = ap (λ (b : Bool). if b
    then with_rotation w c (with_key_listed (is_ready w c s) (rotation w c) s) else w)
    (unlisted (is_to_list w c s) (has_key (rotation w c) s) (h s c))

listed_in_all : (cs : List Class) (w : World) (s : ℕ) → ListsReady w → with_listings_in w s cs ≡ w
unfolding with_listings_in
listed_in_all [] w s h = refl
listed_in_all (c ∷ cs) w s h = ap (λ (v : World). with_listings_in v s cs) (listed_in w s c h)
    ∙ listed_in_all cs w s h

listed_same : (o : Option ℕ) (w : World) → ListsReady w → with_listings_of w o ≡ w
unfolding with_listings_of
listed_same None w h = refl
listed_same (Some s) w h = listed_in_all all_classes w s h

lists_same : (w u : World) → HasSameTransmit w u → ListsReady w → ListsReady u
lists_same w u k h s c is =
    let same : rotation u c ≡ rotation w c = ap (λ (rs : List Rotation). at no_keys rs (class_number c))
    k.rotations in
    ap (λ (r : Rotation). has_key r s) same ∙ h s c (sym (to_list_same w u c s k) ∙ is)

then_listed : (o : Option ℕ) (w u : World) → ListsReady w → HasSameTransmit w u →
    HasSameTransmit w (with_listings_of u o)
then_listed o w u h k = subst (HasSameTransmit w) (sym (listed_same o u (lists_same w u k h))) k

-- ---- the step

open_transmit : (o : Option Exchange) (w : World) (f : Exchange → Outcome) → ListsReady w →
    ((x : Exchange) → o ≡ Some x → HasSameTransmit w (f x).world) →
    HasSameTransmit w (with_listings_of (outcome_where_open w o f).world (station_of o))
unfolding outcome_where_open
open_transmit None w f h k = then_listed None w w h (same_transmit w)
open_transmit (Some x) w f h k = then_listed (Some x.station) w (f x).world h (k x refl)

arrive_judged : (r : Option Refusal) (w : World) (e i : ℕ) → OpenRises 0 w.exchanges w.opened → ListsReady w →
    HasSameTransmit w (judged_outcome w (Asked (Arrive e i)) r).world
unfolding judged_outcome after_refusal outcome_of
arrive_judged (Some r) w e i rise h = same_transmit w
arrive_judged None w e i rise h = open_transmit (exchange w e) w (λ x. arrive_outcome w x i) h
    (λ x found. arrived_transmit w e x i rise found)

answer_judged : (r : Option Refusal) (w : World) (e : ℕ) → OpenRises 0 w.exchanges w.opened → ListsReady w →
    HasSameTransmit w (judged_outcome w (Asked (Answer e)) r).world
unfolding judged_outcome after_refusal outcome_of
answer_judged (Some r) w e rise h = same_transmit w
answer_judged None w e rise h = open_transmit (exchange w e) w (λ x. answer_outcome w x) h
    (λ x found. answered_transmit w e x rise found)

arrive_step : (w : World) (e i : ℕ) → OpenRises 0 w.exchanges w.opened → ListsReady w →
    HasSameTransmit w (step w (Asked (Arrive e i))).world
unfolding step
arrive_step w e i rise h = arrive_judged (refusal w (Asked (Arrive e i))) w e i rise h

answer_step : (w : World) (e : ℕ) → OpenRises 0 w.exchanges w.opened → ListsReady w →
    HasSameTransmit w (step w (Asked (Answer e))).world
unfolding step
answer_step w e rise h = answer_judged (refusal w (Asked (Answer e))) w e rise h

-- ---- the run

lists_ready : (config : Config) (h : List Entry) → IsInRange config →
    ListsReady (world_after (opening config) h)
lists_ready config h range = subst (λ (es : List Entry). ListsReady (world_after (opening config) es))
    (take-length h)
    (λ s c is. each (deficits config h range (length h) s c
    (to_list_live (world_at config h (length h)) c s is))
    (is_ready (world_at config h (length h)) c s) is refl)
  where
    each : {s : ℕ} {c : Class} → IsAccounted config (world_at config h (length h)) s c → (b : Bool) →
        is_to_list (world_at config h (length h)) c s ≡ true →
        is_ready (world_at config h (length h)) c s ≡ b →
        has_key (rotation (world_at config h (length h)) c) s ≡ true
    each a true is e = a.ready e
    each {s} {c} a false is e = a.debtor
        (rw e at is)

-- an Arrive or an Answer
abbrev Tells : Note → Type 0
Tells (Asked (Arrive e i)) = Unit {0}
Tells (Asked (Answer e)) = Unit {0}
Tells note = ⊥

abbrev AllTell : List Entry → Type 0
AllTell [] = Unit {0}
AllTell (e ∷ es) = Tells e.1 × AllTell es

tells_step : (note : Note) (config : Config) (h : List Entry) → IsInRange config → Tells note →
    HasSameTransmit (world_after (opening config) h) (step (world_after (opening config) h) note).world
tells_step (Asked (Arrive e i)) config h range k =
    arrive_step (world_after (opening config) h) e i (windows_after config h).rising
    (lists_ready config h range)
tells_step (Asked (Answer e)) config h range k =
    answer_step (world_after (opening config) h) e (windows_after config h).rising
    (lists_ready config h range)
tells_step _ config h range k = absurd k

tells_run : (es : List Entry) (config : Config) (h : List Entry) → IsInRange config → AllTell es →
    HasSameTransmit (world_after (opening config) h) (world_after (world_after (opening config) h) es)
unfolding world_after
tells_run [] config h range k = same_transmit (world_after (opening config) h)
tells_run (e ∷ es) config h range k =
    let w : World = world_after (opening config) h in
    let one_more : world_after (opening config) (h ++ e ∷ []) ≡ (step w e.1).world =
    world_after-append h (opening config) (e ∷ []) in
    then_transmit w (step w e.1).world _ (tells_step e.1 config h range k.0)
    (subst (λ (v : World). HasSameTransmit v (world_after v es)) one_more
    (tells_run es config (h ++ e ∷ []) range k.1))

inferred_tell : (batch : Bool) (is js : List ℕ) (caller e : ℕ) → AllTell
    (arrivals caller e is ++ answer_inferred batch caller e js)
inferred_tell true [] [] caller e = tt
inferred_tell true [] (j ∷ js) caller e = tt
inferred_tell false [] [] caller e = tt
inferred_tell false [] (j ∷ js) caller e = (tt, tt)
inferred_tell batch (i ∷ is) js caller e = (tt, inferred_tell batch is js caller e)

pub transmit_law : (config : Config) (h : List Entry) → IsInRange config → TransmitLaw config h
transmit_law config h range = record {
  arrive = λ e i. tells_step (Asked (Arrive e i)) config h range tt;
  answer = λ e. tells_step (Asked (Answer e)) config h range tt;
  inferred = λ caller e shown batch content. tells_run (inferred caller e shown batch content) config h range
      (inferred_tell batch (indices_inferred shown content) (indices_inferred shown content) caller e);
}
