-- Proves that each reader of the flow queues returns what the world's reader returns.
use Rattle.std.proofs.Common.{◌≡◌, refl, ap, ap₂, sym, ◌∙◌, arith, ℕ, zero, suc, ◌+◌, ◌*◌, ◌/◌, ◌%◌, ◌<◌, ◌≤◌, ◌==◌, Bool, true, false, not, ◌&&◌, ◌||◌, if◌then◌else◌, List, [], ◌∷◌, map, filter, length, get_or, Option, Some, None, is_some, unwrap_or, eq-eqb, inl, inr}
use Rattle.std.specs.Prelude.{nat_le, sum_by, All}
use Rattle.std.specs.List.{list_any}
use Rattle.std.proofs.Math.Path.{fun_ext}
use Rattle.std.proofs.lemmas.List.Elements.{All-head, All-tail}
use Rattle.std.proofs.lemmas.List.{length-map}
use Rattle.std.proofs.lemmas.List.Sums.{sum_by-cons}
use Rattle.std.proofs.lemmas.Bool.{cases_Bool, cases_eq, ne_eqb, not_from_false, not_from_true, and_from, and_parts, or_left, or_right}
use Rattle.wf_frame.specs.Frames.{FrameValue}
use Rattle.wf_def_lists.specs.Table.{at, has, upto, count_from}
use Rattle.wf_def_codel.specs.Codel.{Item, octets}
use Rattle.wf_def_rotation.specs.Rotation.{Rotation, has_key, in_order}
use Rattle.wf_def_world.specs.World.{World, Station, Queue, new_queue, no_tid, no_station, flow_of, frame, queue, tid_of, is_live, live_stations}
use Rattle.wf_def_world.specs.FlowQueues.{total_queued, head_id, frames_queued as world_queued, longest_queue as world_longest, is_listed_elsewhere as world_listed_elsewhere, stays_over as world_stays_over, goes_over as world_goes_over, queue_for as world_queue_for, dropped_for_limit as world_dropped, is_at_limit as world_at_limit}
use Rattle.wf_def_world.proofs.Longest.{octets_at, longest_same}
use Rattle.wf_queue_flows.specs.Backlog.{frames_at, in_queues, item_of, first_id}
use Rattle.wf_frame.specs.Classes.{tid_number}
use Rattle.wf_queue_flows.specs.Flows.{FlowsValue, SettingsValue, tids, tid_rotation, is_listed, frames_of_tid, as_queue, longest_queue, dropped_for_limit, is_listed_by_another, is_of_queue, is_in_overflow, goes_to_overflow, queue_for}
use Rattle.wf_law_rules.proofs.Lemmas.Numbers.{same_bool, either, eq_yes}
use Rattle.wf_law_rules.proofs.Lemmas.Members.{has_filter}
use Rattle.wf_queue_flows_refines.specs.Standing.{FlowsStandFor}

-- ---- counts

-- the number of queued frames of a TID
pub same_queued : (v : FlowsValue) (w : World) (s t : ℕ) → FlowsStandFor v w → s < v.stations → t < 8 →
    frames_of_tid v (tid_number s t) ≡ world_queued w s t
same_queued v w s t st low_s low_t =
    ap (λ (f : ℕ → ℕ). sum_by f (in_order (tid_rotation v (tid_number s t))))
    (fun_ext (λ q. sym (length-map (frames_at v.backlog q) item_of)
    ∙ ap (length {A = Item}) (sym (st.items q))))
    ∙ ap (λ (r : Rotation). sum_by (λ q. length (queue w q).items) (in_order r))
    (sym (st.lists s t low_s low_t))

same_sums : (all : List (List FrameValue)) (qs : List Queue) →
    ((k : ℕ) → length (at new_queue qs k).items ≡ length (get_or all k [])) →
    sum_by length all ≡ sum_by (λ (q : Queue). length q.items) qs
same_sums [] [] h = refl
same_sums [] (q ∷ qs) h = omega (
  arith,
  h 0,
  sum_by-cons (λ (y : Queue). length y.items) q qs,
  same_sums [] qs (λ k. h (suc k)),
)
same_sums (x ∷ xs) [] h = omega (
  arith,
  h 0,
  sum_by-cons (length {A = FrameValue}) x xs,
  same_sums xs [] (λ k. h (suc k)),
)
same_sums (x ∷ xs) (q ∷ qs) h =
    omega (
      arith,
      h 0,
      sum_by-cons (length {A = FrameValue}) x xs,
      sum_by-cons (λ (y : Queue). length y.items) q qs,
      same_sums xs qs (λ k. h (suc k)),
    )

-- the number of frames in all queues
pub same_total : (v : FlowsValue) (w : World) → FlowsStandFor v w → in_queues v.backlog ≡ total_queued w
same_total v w st = same_sums v.backlog.queues w.queues
    (λ k. ap (length {A = Item}) (st.items k) ∙ length-map (frames_at v.backlog k) item_of)

-- ---- the longest queue

as_queue_at : (all : List (List FrameValue)) (k : ℕ) →
    (at new_queue (map as_queue all) k).items ≡ map item_of (get_or all k [])
as_queue_at [] k = refl
as_queue_at (x ∷ xs) zero = refl
as_queue_at (x ∷ xs) (suc k) = as_queue_at xs k

pub same_longest : (v : FlowsValue) (w : World) → FlowsStandFor v w →
    longest_queue v.backlog ≡ world_longest w
unfolding longest_queue octets_at
same_longest v w st = longest_same (map as_queue v.backlog.queues) w.queues
    (λ k. ap octets (as_queue_at v.backlog.queues k ∙ sym (st.items k)))

head_is : (frames : List FrameValue) → first_id frames ≡ head_id (map item_of frames)
head_is [] = refl
head_is (f ∷ fs) = refl

-- the same limit and the same frame to drop
pub same_limit : (v : FlowsValue) (w : World) → FlowsStandFor v w → v.limit ≡ w.config.limit
same_limit v w st = ap (λ (x : SettingsValue). x.limit) st.settings

pub same_dropped : (v : FlowsValue) (w : World) → FlowsStandFor v w → dropped_for_limit v ≡ world_dropped w
unfolding dropped_for_limit
same_dropped v w st =
    ap₂ (λ (a b : ℕ). if nat_le b a then first_id (frames_at v.backlog (longest_queue v.backlog)) else None)
    (same_total v w st) (same_limit v w st)
    ∙ ap (λ (o : Option ℕ). if world_at_limit w then o else None)
    (head_is (frames_at v.backlog (longest_queue v.backlog))
    ∙ ap head_id (sym (st.items (longest_queue v.backlog))
    ∙ ap (λ (q : ℕ). (queue w q).items) (same_longest v w st)))

-- ---- who lists a queue

record Found (p : ℕ → Bool) (xs : List ℕ) : Type 0 where
  member : ℕ
  here : has xs member ≡ true
  passes : p member ≡ true

found_in : (p : ℕ → Bool) (xs : List ℕ) → list_any p xs ≡ true → Found p xs
found_in p [] e = absurd (cc e)
found_in p (x ∷ xs) e = elim (cases_Bool (p x)) [
  | inl is ↦ record { member = x; here = or_left (x == x) (has xs x) (eq-eqb x x refl); passes = is }
  | inr fails ↦
      let f : Found p xs = found_in p xs (ap (λ (b : Bool). b || list_any p xs) (sym fails) ∙ e) in
      record {
        member = f.member;
        here = or_right (x == f.member) (has xs f.member) f.here;
        passes =
            f.passes;
      }
]

any_of : (p : ℕ → Bool) (xs : List ℕ) (k : ℕ) → has xs k ≡ true → p k ≡ true → list_any p xs ≡ true
any_of p [] k h is = absurd (cc h)
any_of p (x ∷ xs) k h is = elim (either (x == k) (has xs k) h) [
  | inl here ↦ or_left (p x) (list_any p xs) (ap p (eq_yes x k here) ∙ is)
  | inr later ↦ or_right (p x) (list_any p xs) (any_of p xs k later is)
]

has_count : (n from k : ℕ) → from ≤ k → k < from + n → has (count_from from n) k ≡ true
has_count zero from k low high = absurd (omega arith)
has_count (suc n) from k low high = elim (cases_eq from k) [
  | inl e ↦ or_left (from == k) (has (count_from (suc from) n) k) (eq-eqb from k e)
  | inr other ↦ or_right (from == k) (has (count_from (suc from) n) k)
      (has_count n (suc from) k (omega arith) (omega arith))
]

pub count_below : (n from k : ℕ) → has (count_from from n) k ≡ true → k < from + n
count_below zero from k h = absurd (cc h)
count_below (suc n) from k h = elim (either (from == k) (has (count_from (suc from) n) k) h) [
  | inl here ↦ omega (arith, eq_yes from k here)
  | inr later ↦ omega (arith, count_below n (suc from) k later)
]

stays_in : (p : ℕ → Bool) (xs : List ℕ) (k : ℕ) → has xs k ≡ true → p k ≡ true → has (filter p xs) k ≡ true
stays_in p [] k h is = absurd (cc h)
stays_in p (x ∷ xs) k h is = elim (cases_Bool (p x)) [
  | inl holds ↦ elim (either (x == k) (has xs k) h) [
    | inl here ↦ rw holds (or_left (x == k) (has (filter p xs) k) here)
    | inr later ↦ rw holds (or_right (x == k) (has (filter p xs) k) (stays_in p xs k later is))
  ]
  | inr fails ↦ elim (either (x == k) (has xs k) h) [
    | inl here ↦ absurd (cc (ap p (eq_yes x k here) ∙ is, fails))
    | inr later ↦ rw fails (stays_in p xs k later is)
  ]
]

-- only a live station lists queues
live_of : (o : Option Station) (t q : ℕ) → has_key (at no_tid (unwrap_or o no_station).tids t).queues q
    ≡ true → is_some o ≡ true
live_of None t q h = absurd (cc h)
live_of (Some x) t q h = refl

apart_pairs : (a b s t : ℕ) → b < 8 → t < 8 → (tid_number a b ≡ tid_number s t → ⊥) →
    ((a == s) && (b == t)) ≡ false
apart_pairs a b s t low_b low_t other = elim (cases_Bool ((a == s) && (b == t))) [
  | inl e ↦
      let es : a ≡ s = eq_yes a s (and_parts (a == s) (b == t) e).0 in
      let et : b ≡ t = eq_yes b t (and_parts (a == s) (b == t) e).1 in
      absurd (other (omega arith))
  | inr differs ↦ differs
]

module _ (v : FlowsValue) (w : World) (st : FlowsStandFor v w) (s t q : ℕ) (low_t : t < 8) where
  in_code : ℕ → Bool
  in_code j = not (j == tid_number s t) && is_listed v j q

  in_world : ℕ → ℕ → Bool
  in_world a b = not ((a == s) && (b == t)) && has_key (tid_of w a b).queues q

  same_stations : v.stations ≡ w.config.stations
  same_stations = ap (λ (x : SettingsValue). x.stations) st.settings

  to_world : list_any in_code (upto (tids v)) ≡ true →
      list_any (λ a. list_any (in_world a) (upto 8)) (live_stations w) ≡ true
  unfolding in_code in_world
  to_world e =
      let f : Found in_code (upto (tids v)) = found_in in_code (upto (tids v)) e in
      let j : ℕ = f.member in
      let both = and_parts (not (j == tid_number s t)) (is_listed v j q) f.passes in
      let a : ℕ = j / 8 in
      let b : ℕ = j % 8 in
      let low : j < 0 + 8 * v.stations = count_below (tids v) 0 j f.here in
      let low_b : b < 8 = omega arith in
      let low_a : a < v.stations = omega arith in
      let same : tid_number a b ≡ j = omega arith in
      let other : tid_number a b ≡ tid_number s t →
      ⊥ = λ e. absurd (cc (
        not_from_true (j == tid_number s t) (eq-eqb j (tid_number s t) (sym same ∙ e)),
        both.0,
      )) in
      let listed : has_key (tid_of w a b).queues q ≡ true =
      ap (λ (r : Rotation). has_key r q) (st.lists a b low_a low_b) ∙ ap (λ (n : ℕ). is_listed v n q) same
      ∙ both.1 in
      any_of (λ a. list_any (in_world a) (upto 8)) (live_stations w) a
      (stays_in (is_live w) (upto w.config.stations) a
      (has_count w.config.stations 0 a (omega arith) (omega (arith, low_a, same_stations)))
      (live_of (at None w.stations a) b q listed))
      (any_of (in_world a) (upto 8) b (has_count 8 0 b (omega arith) (omega (arith, low_b)))
      (and_from (not ((a == s) && (b == t))) (has_key (tid_of w a b).queues q)
      (not_from_false _ (apart_pairs a b s t low_b low_t other)) listed))

  to_code : s < v.stations → list_any (λ a. list_any (in_world a) (upto 8)) (live_stations w) ≡ true →
      list_any in_code (upto (tids v)) ≡ true
  unfolding in_code in_world
  to_code low_s e =
      let f : Found (λ a. list_any (in_world a) (upto 8)) (live_stations w) =
      found_in (λ a. list_any (in_world a) (upto 8)) (live_stations w) e in
      let a : ℕ = f.member in
      let g : Found (in_world a) (upto 8) = found_in (in_world a) (upto 8) f.passes in
      let b : ℕ = g.member in
      let both = and_parts (not ((a == s) && (b == t))) (has_key (tid_of w a b).queues q) g.passes in
      let high_a : a < 0 + w.config.stations = count_below w.config.stations 0 a
      (has_filter (is_live w) (upto w.config.stations) a f.here) in
      let low_a : a < v.stations = omega (arith, high_a, same_stations) in
      let high_b : b < 0 + 8 = count_below 8 0 b g.here in
      let low_b : b < 8 = omega (arith, high_b) in
      let j : ℕ = tid_number a b in
      let other : j ≡ tid_number s t → ⊥ = λ e.
      let es : a ≡ s = omega arith in
      let et : b ≡ t = omega arith in
      absurd (cc (
        not_from_true ((a == s) && (b == t))
            (and_from (a == s) (b == t) (eq-eqb a s es) (eq-eqb b t et)),
        both.0,
      )) in
      let listed : is_listed v j q ≡ true = ap (λ (r : Rotation). has_key r q)
      (sym (st.lists a b low_a low_b)) ∙ both.1 in
      any_of in_code (upto (tids v)) j (has_count (tids v) 0 j (omega arith) (omega arith))
      (and_from (not (j == tid_number s t)) (is_listed v j q)
      (not_from_false (j == tid_number s t) (ne_eqb j (tid_number s t) other)) listed)

  -- whether another TID lists a queue
  pub same_elsewhere : s < v.stations → is_listed_by_another v (tid_number s t) q
      ≡ world_listed_elsewhere w s t q
  unfolding in_code in_world
  same_elsewhere low_s = same_bool (list_any in_code (upto (tids v)))
      (list_any (λ a. list_any (in_world a) (upto 8)) (live_stations w)) to_world (to_code low_s)

-- ---- the queue for a frame

-- one of the frames is of the flow queue, by the flow numbers of the calls that brought them
same_any : (frames : List FrameValue) (notes : ℕ → ℕ) (n q : ℕ) → All (λ f. notes f.id ≡ f.flow) frames →
    list_any (is_of_queue n q) frames ≡ list_any (λ (x : Item). (notes x.id % n) == q) (map item_of frames)
same_any [] notes n q h = refl
same_any (f ∷ fs) notes n q h = ap₂ (λ (k : ℕ) (b : Bool). ((k % n) == q) || b)
    (sym (All-head (λ g. notes g.id ≡ g.flow) f fs h))
    (same_any fs notes n q (All-tail (λ g. notes g.id ≡ g.flow) f fs h))

-- whether a TID's overflow queue holds a frame of a flow queue
same_stays : (v : FlowsValue) (w : World) (s t q : ℕ) → FlowsStandFor v w →
    is_in_overflow v (tid_number s t) q ≡ world_stays_over w s t q
same_stays v w s t q st =
    let flows : v.flows ≡ w.config.flows = ap (λ (x : SettingsValue). x.flows) st.settings in
    let over : v.flows + (8 * s + t) ≡ w.config.flows + 8 * s + t = omega (arith, flows) in
    same_any (frames_at v.backlog (v.flows + (8 * s + t))) (λ id. flow_of (frame w id).note) v.flows q
    (st.flows (v.flows + (8 * s + t)))
    ∙ ap (list_any (λ (x : Item). (flow_of (frame w x.id).note % v.flows) == q))
    (sym (st.items (v.flows + (8 * s + t))))
    ∙ ap₂ (λ (n m : ℕ). list_any (λ (x : Item). (flow_of (frame w x.id).note % n) == q) (queue w m).items)
    flows over

-- whether a frame of a flow queue goes into the TID's overflow queue
same_over : (v : FlowsValue) (w : World) (st : FlowsStandFor v w) (s t q : ℕ) → t < 8 → s < v.stations →
    goes_to_overflow v (tid_number s t) q ≡ world_goes_over w s t q
unfolding goes_to_overflow
same_over v w st s t q low_t low_s =
    ap (λ (b : Bool). b || ((v.keep_order == 1) && is_in_overflow v (tid_number s t) q))
    (same_elsewhere v w st s t q low_t low_s)
    ∙ ap₂ (λ (n : ℕ) (b : Bool). world_listed_elsewhere w s t q || ((n == 1) && b))
    (ap (λ (x : SettingsValue). x.keep_order) st.settings) (same_stays v w s t q st)

-- the queue for a frame
pub same_queue_for : (v : FlowsValue) (w : World) (s t flow : ℕ) → FlowsStandFor v w → s < v.stations →
    t < 8 → queue_for v (tid_number s t) flow ≡ world_queue_for w s t flow
unfolding queue_for
same_queue_for v w s t flow st low_s low_t =
    let flows : v.flows ≡ w.config.flows = ap (λ (x : SettingsValue). x.flows) st.settings in
    let overflow : v.flows + (8 * s + t) ≡ w.config.flows + 8 * s + t = omega (arith, flows) in
    ap (λ (b : Bool). if b then v.flows + (8 * s + t) else flow % v.flows)
    (same_over v w st s t (flow % v.flows) low_t low_s)
    ∙ ap₂ (λ (n m : ℕ). if world_goes_over w s t (flow % m) then n else flow % m) overflow flows
