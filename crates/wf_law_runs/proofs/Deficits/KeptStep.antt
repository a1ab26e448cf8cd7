-- Proves that each call keeps the invariant of the books, by cases of the call.
use Rattle.std.proofs.Common.{◌≡◌, ◌≢◌, refl, ap, sym, ◌∙◌, subst, arith, ℕ, ◌+◌, ◌-◌, ◌*◌, ◌<◌, ◌≤◌, ℤ, pos, ◌-ℤ◌, ◌≤ℤ◌, Bool, true, false, if◌then◌else◌, cond, List, [], ◌∷◌, Option, Some, None, is_some, IfSome, unwrap_or, option_map, not, ◌&&◌, ◌||◌, map, find, nat_lt, int_lt, zero-add, ◌==◌, count_by, nat_le}
use Rattle.std.proofs.lemmas.Int.{ints}
use Rattle.std.proofs.lemmas.Bool.{eqb-true, eqb-false, and_parts, not-true, not-false, leb-true}
use Rattle.std.proofs.lemmas.Bool.Decides.{nat_tests}
use Rattle.std.proofs.lemmas.List.Sums.{sum_by-cons}
use Rattle.std.proofs.Math.Nat.{le-max_left, le-max_right, min-le_right}
use Rattle.wf_frame.specs.declared.settings.Config.{Config}
use Rattle.wf_frame.specs.declared.classes.Class.{Class}
use Rattle.wf_frame.specs.declared.notes.Ask.TheVariants.{Join, Leave, Rate, Tick, Pull, Arrive, Answer, Done, Sleep, Wake, Poll, Rx, Reap, Ampdu, Stop, Start, Unsent, GiveUp, Flush, Offload, Weight, Plain, Hold, Begin, Free, Cease, Group, Service, Bss}
use Rattle.wf_frame.specs.declared.notes.Limits.{Limits}
use Rattle.wf_frame.specs.declared.notes.Note.{Note}
use Rattle.wf_frame.specs.declared.notes.Note.TheVariants.{Enqueue, Asked}
use Rattle.wf_frame.specs.declared.notes.Refusal.{Refusal}
use Rattle.wf_frame.specs.declared.notes.Refusal.TheVariants.{Idle}
use Rattle.wf_def_lists.specs.Table.{at, with_member}
use Rattle.wf_def_rotation.specs.Rotation.{with_key_listed, has_key, need_of}
use Rattle.wf_def_lists.specs.Bounds.{greatest_air, deepest_deficit}
use Rattle.wf_def_world.specs.Rates.{IsRateWith}
use Rattle.wf_def_world.specs.World.{World, Station, Exchange, no_share, no_station, station, share, rotation, is_live, exchange, owed, owed_by_all, with_exchange, with_rotation, on_receiver, on_tid, on_station, with_station, on_share, opening, standing}
use Rattle.wf_law_rules.proofs.Lemmas.Numbers.{le_no}
use Rattle.wf_frame.specs.Classes.{class_number, all_classes}
use Rattle.wf_def_world.specs.CanSend.{can_send_in, is_below_aql, is_reachable, may_receive, is_ready, is_to_list, with_listing_in, with_listings_in, with_listings_of}
use Rattle.wf_def_world.specs.Exchanges.{Prepared, cap_of, limited, station_need, picked_station, after_pick, after_tid_turn, prepared_exchange, exchange_of, after_arrival, sending_tid, charge_of, longest_computed}
use Rattle.wf_def_world.specs.Refusals.{first_refusal, refusals, refusal, open_of_class, is_at_aql_total, is_within}
use Rattle.wf_def_world.specs.Step.{Outcome, tick_outcome, send_outcome, pull_outcome_for, pull_outcome, arrive_outcome, answer_outcome, unsent_outcome, give_up_outcome, outcome_where_open, rx_outcome, outcome_of, after_refusal, judged_outcome, step}
use Rattle.wf_def_world.specs.Run.{Entry, world_after}
use Rattle.wf_frame.specs.Settings.{IsInRange, is_bad_air}
use Rattle.wf_law_runs.specs.Deficits.{longest_exchange, most_covered}
use Rattle.wf_def_lists.specs.Lists.{on}
use Rattle.wf_law_rules.proofs.Lemmas.Counts.{on-nil}
use Rattle.wf_law_rules.proofs.Lemmas.Rotations.{pick_on, pick_need, IsWinner, pick_winner}
use Rattle.wf_law_runs.proofs.Common.Marks.{marked_world}
use Rattle.wf_law_runs.proofs.Common.Refused.{if_idle}
use Rattle.wf_law_runs.proofs.Common.Limits.{with_limits}
use Rattle.wf_law_runs.proofs.Deficits.Books.{Account, account, core, Books, books, on_part, each_updc, books_with_rotation, books_on_receiver}
use Rattle.wf_law_runs.proofs.Deficits.BookSteps.{books_after_turn, books_prepared, books_sent, books_ended, books_gone, books_enqueued, receive_share, books_received, books_reaped, books_slept, books_woken, books_credited, rated, books_with_rate, books_joined, books_after_pick, books_stated, books_stopped, books_started, books_flushed, books_offloaded, books_weighed, books_joined_plain, books_held, books_begun, books_freed, books_ceased, books_served, books_moved}
use Rattle.wf_law_runs.proofs.Deficits.Openings.{Every, every_map, every_find, only_one, many, many-count, many-core, owed-core, owed_all-core, owed_most}
use Rattle.wf_law_runs.proofs.Deficits.Bounds.{counted, IsBounded, bounded_receive}
use Rattle.wf_law_runs.proofs.Deficits.Kept.{lowest_allowed, IsOpen, at_stake, counted_in, IsGood, IsKept, standing_of, need_in, some_map, if_same, kept_on, kept_add, at_stake_most, kept_fresh, kept_gone, within_opened, kept_opened, kept_ended, IsPick, kept_after, above_after, kept_weighed}
use Rattle.wf_law_runs.proofs.Deficits.LongestCharge.{charge_most, charge_some}

-- ---- a call that is not refused

abbrev pub NoRow : List (Bool × Refusal) → Type 0
NoRow [] = Unit {0}
NoRow (row ∷ rows) = (row.0 ≡ false) × NoRow rows

pub no_row : (rows : List (Bool × Refusal)) → first_refusal rows ≡ None → NoRow rows
unfolding first_refusal
no_row [] h = tt
no_row (row ∷ rows) h = go row.0 h (no_row rows)
  where
    go : (b : Bool) → (if b then Some row.1 else first_refusal rows) ≡ None →
        (first_refusal rows ≡ None → NoRow rows) → (b ≡ false) × NoRow rows
    go true k f = absurd (cc k)
    go false k f = (refl, f k)

pub is : (a b : Books) → a ≡ b → IsKept b → IsKept a
is a b e i = subst IsKept (sym e) i

pub live_account : (o : Option Station) → is_some (option_map account o) ≡ is_some o
live_account None = refl
live_account (Some x) = refl

-- ---- listing

live_either : (live sends pending owes : Bool) → (live && sends) || (pending && (live && owes)) ≡ true →
    live ≡ true
live_either true sends pending owes h = refl
live_either false sends true owes h = absurd (cc h)
live_either false sends false owes h = absurd (cc h)

-- Only a live station belongs on a list.
pub to_list_live : (w : World) (c : Class) (s : ℕ) → is_to_list w c s ≡ true → is_live w s ≡ true
to_list_live w c s h = live_either (is_live w s) _ (w.config.pending == 1) _ h

listed_if : (w : World) (s : ℕ) (c : Class) (b : Bool) →
    (is_to_list w c s && not (has_key (rotation w c) s)) ≡ b → IsKept (books w) →
    IsKept (books (if b then with_rotation w c (with_key_listed (is_ready w c s) (rotation w c) s) else w))
listed_if w s c true e i =
    let parts = and_parts _ _ e in
    let live : is_live w s ≡ true = to_list_live w c s parts.0 in
    is _ _ (books_with_rotation w c _) (kept_add (books w) c s (is_ready w c s) i (not-true _ parts.1)
    (live_account (at None w.stations s) ∙ live))
listed_if w s c false e i = i

kept_listed_in : (w : World) (s : ℕ) (c : Class) → IsKept (books w) → IsKept (books (with_listing_in w s c))
unfolding with_listing_in
kept_listed_in w s c i = listed_if w s c (is_to_list w c s && not (has_key (rotation w c) s)) refl i

kept_listed_in_all : (cs : List Class) (w : World) (s : ℕ) → IsKept (books w) →
    IsKept (books (with_listings_in w s cs))
unfolding with_listings_in
kept_listed_in_all [] w s i = i
kept_listed_in_all (c ∷ cs) w s i = kept_listed_in_all cs _ s (kept_listed_in w s c i)

kept_listed : (o : Option ℕ) (w : World) → IsKept (books w) → IsKept (books (with_listings_of w o))
unfolding with_listings_of
kept_listed None w i = i
kept_listed (Some s) w i = kept_listed_in_all all_classes w s i

-- ---- pulls

pub need_is : (w : World) (c : Class) (s : ℕ) →
    IfSome ((books w).accounts s) (λ a. station_need w c s ≡ need_in (books w) s c a)
need_is w c s = go (at None w.stations s) refl
  where
    go : (o : Option Station) → at None w.stations s ≡ o →
        IfSome (option_map account o) (λ a. station_need w c s ≡ need_in (books w) s c a)
    go None e = tt
    go (Some x) e = ap (λ (o : Option Station). need_of (w.config.quantum * (unwrap_or o no_station).weight)
        ((at no_share (unwrap_or o no_station).shares (class_number c)).deficit
        -ℤ pos (counted w.config (owed s c w.opened)))) e
        ∙ ap (λ (n : ℕ). need_of (w.config.quantum * x.weight)
        ((at no_share x.shares (class_number c)).deficit -ℤ pos (counted w.config n)))
        (sym (owed-core s c w.opened))

-- The standing of a station in the books.
pub standing_is : (w : World) (c : Class) (s : ℕ) →
    IfSome ((books w).accounts s) (λ a. standing w s c ≡ standing_of (books w) s c a)
standing_is w c s = go (at None w.stations s) refl
  where
    go : (o : Option Station) → at None w.stations s ≡ o →
        IfSome (option_map account o) (λ a. standing w s c ≡ standing_of (books w) s c a)
    go None e = tt
    go (Some x) e = ap (λ (o : Option Station). (at no_share (unwrap_or o no_station).shares
        (class_number c)).deficit -ℤ pos (counted w.config (owed s c w.opened))) e
        ∙ ap (λ (n : ℕ). (at no_share x.shares (class_number c)).deficit -ℤ pos (counted w.config n))
        (sym (owed-core s c w.opened))

pub is_pick : (w : World) (c : Class) → IsPick (books w) c (picked_station w c)
is_pick w c = record {
  lists = pick_on (station_need w c) (is_ready w c) (rotation w c);
  needed = λ s. if_same _ _ ((books w).accounts s) (need_is w c s)
      (λ a _ e. subst (λ (n : ℕ). (picked_station w c).quanta s ≤ n) e
      (pick_need (station_need w c) (is_ready w c) (rotation w c) s));
}

-- The airtime that is counted against each station in the class is at most the airtime that quanta may cover.
Covered : World → Class → Type 0
Covered w c = (y : ℕ) → counted_in w.config y c (map core w.opened) ≤ most_covered w.config c

kept_after_pick : (w : World) (c : Class) → Covered w c → IsKept (books w) → IsKept (books (after_pick w c))
unfolding Covered
kept_after_pick w c covered i = is _ _ (books_after_pick w c)
    (kept_after (books w) c (picked_station w c) i (is_pick w c) covered)

few_times : (m n l k : ℕ) → m < n → k ≤ m * l → k ≤ (n - 1) * l
few_times m n l k h e = times (n - 1) (omega arith)
  where
    times : (p : ℕ) → m ≤ p → k ≤ p * l
    times p less = grind arith

-- If the class may open an exchange, all its open exchanges but one are covered.
covered_room : (w : World) (c : Class) → IsKept (books w) → many c (map core w.opened) < w.config.inflight →
    Covered w c
unfolding Covered
covered_room w c i room y = go (w.config.pending == 1)
    (few_times (many c (map core w.opened)) w.config.inflight
    (longest_computed w.config c) (owed y c (map core w.opened)) room
    (owed_most (longest_computed w.config c) y c (map core w.opened)
    (every_map (IsOpen (books w)) (λ x. x.class ≡ c → x.charge ≤ longest_computed w.config c)
    (λ x o e. subst (λ (d : Class). x.charge ≤ longest_computed w.config d) e o.charge)
    (map core w.opened) i.opens)))
  where
    go : (t : Bool) → owed y c (map core w.opened) ≤ (w.config.inflight - 1) * longest_computed w.config c →
        (if t then owed y c (map core w.opened) else 0)
        ≤ (if t then (w.config.inflight - 1) * longest_computed w.config c else 0)
    go true h = h
    go false h = omega arith

-- Without the setting `pending` nothing is counted.
covered_off : (w : World) (c : Class) → (w.config.pending == 1) ≡ false → Covered w c
unfolding Covered
covered_off w c off y = rw off (omega arith)

-- The station may open an exchange of the class.
record MaySend (c : Class) (s : ℕ) (b : Books) : Type 0 where
  live : is_some (b.accounts s) ≡ true
  room : many c b.opened < b.config.inflight
  behind : 1 ≤ b.config.aql_total → owed_by_all b.opened < b.config.aql_total
  below : 1 ≤ b.config.aql → owed s c b.opened < b.config.aql
  above : IfSome (b.accounts s) (λ a. pos 1 ≤ℤ standing_of b s c a)

room_left : (w : World) (c : Class) → IsKept (books w) →
    (nat_le w.config.inflight (open_of_class w c)) ≡ false → many c (map core w.opened) < w.config.inflight
room_left w c i h =
    let same : open_of_class w c ≡ many c (map core w.opened) =
    many-count c w.opened ∙ sym (many-core c w.opened) in
    omega (arith, same, le_no w.config.inflight (open_of_class w c) h)

not_ahead : (limit n : ℕ) → nat_lt 0 limit && nat_le limit n ≡ false → 1 ≤ limit → n < limit
not_ahead limit n off some = grind (arith, nat_tests)

-- The airtime in flight is below its limit, if there is one.
behind_still : (w : World) → is_at_aql_total w ≡ false → 1 ≤ w.config.aql_total →
    owed_by_all (map core w.opened) < w.config.aql_total
behind_still w off limited = omega (
  arith,
  owed_all-core w.opened,
  not_ahead w.config.aql_total (owed_by_all w.opened) off limited,
)

below_limit : (limit n : ℕ) → (limit == 0) || nat_lt n limit ≡ true → 1 ≤ limit → n < limit
below_limit limit n h some = grind (arith, nat_tests)

-- The airtime in flight of a ready station is below its limit, if there is one.
below_still : (w : World) (c : Class) (s : ℕ) → is_ready w c s ≡ true → 1 ≤ w.config.aql →
    owed s c (map core w.opened) < w.config.aql
below_still w c s is limited =
    let sends : (can_send_in w s c && may_receive w s c) ≡ true = (and_parts (is_live w s) _ is).1 in
    let may : may_receive w s c ≡ true = (and_parts (can_send_in w s c) _ sends).1 in
    let below : is_below_aql w s c ≡ true =
    (and_parts (is_reachable (station w s) c) _
    (and_parts (not (station w s).stopped) _ may).1).1 in
    omega (arith, owed-core s c w.opened, below_limit w.config.aql (owed s c w.opened) below limited)

may_send : (w : World) (c : Class) (s : ℕ) → IsKept (books w) →
    (nat_le w.config.inflight (open_of_class w c)) ≡ false → is_at_aql_total w ≡ false → (picked_station w
    c).winner ≡ Some s →
    MaySend c s (books (after_pick w c))
may_send w c s i h off won =
    let winner : IsWinner (station_need w c) (is_ready w c) (rotation w c) (picked_station w c) s =
    pick_winner (station_need w c) (is_ready w c) (rotation w c) s won in
    subst (MaySend c s) (sym (books_after_pick w c)) (record {
      live = some_map _ ((books w).accounts s) ∙ i.live c s winner.listed;
      room = room_left w c i h;
      behind = behind_still w off;
      below = below_still w c s winner.is_ready;
      above = above_after (books w) c (picked_station w c) s i winner.listed
          (if_same _ _ ((books w).accounts s) (need_is w c s) (λ a _ e. winner.given ∙ e));
    })

-- The rate of a station is in the standard's tables, and the setting `legacy` allows it, also if the station
-- does not exist.
pub rate_kept : (v : World) (s : ℕ) → IsKept (books v) → IsRateWith v.config.legacy (station v s).rate
rate_kept v s i = go (at None v.stations s) (i.goods s)
  where
    go : (o : Option Station) → IfSome (option_map account o) (IsGood v.config (map core v.opened) s) →
        IsRateWith v.config.legacy (unwrap_or o no_station).rate
    go None g = lowest_allowed v.config.legacy
    go (Some x) g = g.rate

-- A pull may fill an aggregate for no more than the greatest time of its class.
Bounded : World → Class → Type 0
Bounded v c = v.bounds.air ≤ cap_of v.config c

kept_sent : (v : World) (c : Class) (s t : ℕ) → IsKept (books v) → Bounded v c → MaySend c s (books v) →
    IsKept (books (send_outcome s t c (prepared_exchange v s t)).world)
unfolding Bounded
kept_sent v c s t i short m =
    let p : Prepared = prepared_exchange v s t in
    let e : books p.world ≡ books v = books_prepared v s t in
    let k : IsKept (books p.world) = subst IsKept (sym e) i in
    let n : MaySend c s (books p.world) = subst (MaySend c s) (sym e) m in
    let cap : longest_computed p.world.config c ≡ longest_computed v.config c =
    ap (λ (b : Books). longest_computed b.config c) e in
    let fit : p.charge ≤ longest_computed p.world.config c =
    subst (λ (l : ℕ). p.charge ≤ l) (sym cap) (charge_most v s t c (rate_kept v s i) short) in
    is _ _ (books_sent s t c p) (kept_opened (books p.world) (exchange_of s t c p) k n.live refl fit
    (charge_some v s t) n.room (within_opened (books p.world) (exchange_of s t c p) k fit n.behind n.below)
    n.above)

bounded_turn : (v : World) (c : Class) (s t : ℕ) → Bounded v c → Bounded (after_tid_turn v s c t) c
unfolding Bounded after_tid_turn on_share on_station with_station
bounded_turn v c s t h = h

kept_pulled_by : (o : Option ℕ) (v : World) (c : Class) → IsKept (books v) → Bounded v c →
    ((s : ℕ) → o ≡ Some s → MaySend c s (books v)) → IsKept (books (pull_outcome_for v c o).world)
unfolding pull_outcome_for Bounded
kept_pulled_by None v c i short m = i
kept_pulled_by (Some s) v c i short m =
    let e : books (after_tid_turn v s c (sending_tid v s c)) ≡ books v =
    books_after_turn v s c (sending_tid v s c) in
    kept_sent (after_tid_turn v s c (sending_tid v s c)) c s (sending_tid v s c) (subst IsKept (sym e) i)
    (bounded_turn v c s (sending_tid v s c) short) (subst (MaySend c s) (sym e) (m s refl))

-- A limit of a pull allows no more than the setting.
limited_less : (o : Option ℕ) (n : ℕ) → limited o n ≤ n
limited_less None n = omega arith
limited_less (Some limit) n = min-le_right limit n

bounded_pick : (w : World) (c : Class) (l : Limits) → Bounded (with_limits w c l) c
unfolding Bounded
bounded_pick w c l =
    let same : (after_pick w c).config ≡ w.config = ap (λ (b : Books). b.config) (books_after_pick w c) in
    subst (λ (z : Config). limited l.air (cap_of w.config c) ≤ cap_of z c) (sym same)
    (limited_less l.air (cap_of w.config c))

kept_pulled : (w : World) (c : Class) (l : Limits) → (nat_le w.config.inflight (open_of_class w c)) ≡ false →
    is_at_aql_total w ≡ false → IsKept (books w) → IsKept (books (pull_outcome w c l).world)
unfolding pull_outcome
kept_pulled w c l h off i = kept_pulled_by (picked_station w c).winner
    (with_limits w c l) c
    (kept_after_pick w c (covered_room w c i (room_left w c i h)) i) (bounded_pick w c l)
    (λ s won. may_send w c s i h off won)

-- ---- exchanges

find_core : (e : ℕ) (xs : List Exchange) (x : Exchange) → find (λ z. z.number == e) xs ≡ Some x →
    find (λ z. z.number == e) (map core xs) ≡ Some (core x)
find_core e [] x k = absurd (cc k)
find_core e (y ∷ ys) x k = go (y.number == e) refl k (find_core e ys x)
  where
    same : (a b : Exchange) → Some a ≡ Some b → Some (core a) ≡ Some (core b)
    same a b k = ap (option_map core) k

    go : (b : Bool) → (y.number == e) ≡ b → cond b (Some y) (find (λ z. z.number == e) ys) ≡ Some x →
        (find (λ z. z.number == e) ys ≡ Some x → find (λ z. z.number == e) (map core ys) ≡ Some (core x)) →
        cond (y.number == e) (Some (core y)) (find (λ z. z.number == e) (map core ys)) ≡ Some (core x)
    go true t k below = rw t (same y x k)
    go false t k below = rw t (below k)

uncore : (P : Exchange → Type 0) (xs : List Exchange) → Every P (map core xs) → Every (λ y. P (core y)) xs
uncore P [] e = tt
uncore P (x ∷ xs) e = (e.0, uncore P xs e.1)

pub replaced : (x : Exchange) (xs : List Exchange) → Every (λ y. y.number ≡ x.number → core y ≡ core x) xs →
    map core (map (λ y. if y.number == x.number then x else y) xs) ≡ map core xs
replaced x [] e = refl
replaced x (y ∷ ys) e = go (y.number == x.number) refl (replaced x ys e.1)
  where
    go : (b : Bool) → (y.number == x.number) ≡ b →
        map core (map (λ y. if y.number == x.number then x else y) ys) ≡ map core ys →
        core (if y.number == x.number then x else y)
        ∷ map core (map (λ y. if y.number == x.number then x else y) ys) ≡ core y ∷ map core ys
    go true t k = rw (t, k) (ap (λ (z : Exchange). z ∷ map core ys) (sym (e.0 (eqb-true _ _ t))))
    go false t k = rw (t, k) refl

pub books_with_exchange : (w : World) (x : Exchange) →
    Every (λ y. y.number ≡ x.number → core y ≡ core x) w.opened → books (with_exchange w x) ≡ books w
unfolding with_exchange
books_with_exchange w x h = ap (λ (t : List Exchange). record (books w) { opened = t })
    (replaced x w.opened h)

-- Exchange x has the number e and is open.
abbrev pub IsFound : World → ℕ → Exchange → Type 0
IsFound w e x = exchange w e ≡ Some x

units : (xs : List Exchange) → Every (λ _. Unit {0}) xs
units [] = tt
units (x ∷ xs) = (tt, units xs)

pub found_number : (w : World) (e : ℕ) (x : Exchange) → IsFound w e x → x.number ≡ e
found_number w e x found = eqb-true _ _ (every_find (λ _. Unit {0}) (λ z. z.number == e) w.opened x
    (units w.opened) found).0

pub at_number : (w : World) (e : ℕ) (x : Exchange) → IsFound w e x →
    find (λ z. z.number == x.number) (map core w.opened) ≡ Some (core x)
at_number w e x found = subst (λ (n : ℕ). find (λ z. z.number == n) (map core w.opened) ≡ Some (core x))
    (sym (found_number w e x found)) (find_core e w.opened x found)

pub only_this : (w : World) (e : ℕ) (x : Exchange) → IsKept (books w) → IsFound w e x →
    Every (λ y. y.number ≡ x.number → core y ≡ core x) w.opened
only_this w e x i found =
    let at_e : x.number ≡ e = found_number w e x found in
    every_map (λ y. y.number ≡ e → core y ≡ core x) (λ y. y.number ≡ x.number → core y ≡ core x)
    (λ y h k. h (k ∙ at_e)) w.opened
    (uncore (λ z. z.number ≡ e → z ≡ core x) w.opened
    (only_one 0 (map core w.opened) (core x) e i.rising (find_core e w.opened x found)))

pub books_arrived : (w : World) (e j : ℕ) (x : Exchange) → IsKept (books w) → IsFound w e x →
    books (arrive_outcome w x j).world ≡ books w
unfolding arrive_outcome on_receiver on_tid on_station with_station
books_arrived w e j x i found = books_with_exchange _ _ (only_this w e x i found)
    ∙ books_on_receiver w x.station x.tid (after_arrival x.content j)

pub books_answered : (w : World) (e : ℕ) (x : Exchange) → IsKept (books w) → IsFound w e x →
    books (answer_outcome w x).world ≡ books w
unfolding answer_outcome
books_answered w e x i found = books_with_exchange w _ (only_this w e x i found)

pub books_marked : (w : World) (e : ℕ) (x : Exchange) (unsent given_up : List ℕ) → IsKept (books w) →
    IsFound w e x → books (marked_world w x unsent given_up) ≡ books w
books_marked w e x unsent given_up i found = books_with_exchange w _ (only_this w e x i found)

pub books_unsent : (w : World) (e j : ℕ) (x : Exchange) → IsKept (books w) → IsFound w e x →
    books (unsent_outcome w x j).world ≡ books w
unfolding unsent_outcome
books_unsent w e j x i found = books_marked w e x (with_member j x.unsent) x.given_up i found

pub books_given_up : (w : World) (e j : ℕ) (x : Exchange) → IsKept (books w) → IsFound w e x →
    books (give_up_outcome w x j).world ≡ books w
unfolding give_up_outcome
books_given_up w e j x i found = books_marked w e x x.unsent (with_member j x.given_up) i found

-- The charge of an ended exchange is at most the longest, computed or given by its Done.
pub charge_within : (w : World) (e : ℕ) (x : Exchange) (air : Option ℕ) → IsKept (books w) → IsFound w e x →
    is_bad_air w.config air ≡ false → charge_of air x ≤ longest_exchange w.config x.class
charge_within w e x None i found fine =
    let computed : x.charge ≤ longest_computed w.config x.class =
    (every_find (IsOpen (books w)) (λ z. z.number == x.number) (map core w.opened) (core x) i.opens
    (at_number w e x found)).1.charge in
    omega (arith, computed, le-max_left (longest_computed w.config x.class) w.config.charge)
charge_within w e x (Some n) i found fine = omega (
  arith,
  leb-true n w.config.charge (and_parts _ _ (not-false _ fine)).1,
  le-max_right (longest_computed w.config x.class) w.config.charge,
)

-- If no Done gives an airtime, the charge of an ended exchange is what its pull computed.
pub charge_exact : (config : Config) (x : Exchange) (air : Option ℕ) → is_bad_air config air ≡ false →
    config.charge ≡ 0 → charge_of air x ≡ x.charge
charge_exact config x None fine none = refl
charge_exact config x (Some n) fine none =
    let parts = and_parts (nat_le 1 n) (nat_le n config.charge) (not-false _ fine) in
    absurd (omega (arith, leb-true 1 n parts.0, leb-true n config.charge parts.1))

-- ---- the step

kept_open : (w : World) (e : ℕ) (o : Option Exchange) (f : Exchange → Outcome) → exchange w e ≡ o →
    IsKept (books w) → ((x : Exchange) → IsFound w e x → IsKept (books (f x).world)) →
    IsKept (books (outcome_where_open w o f).world)
unfolding outcome_where_open
kept_open w e None f k i h = i
kept_open w e (Some x) f k i h = h x k

debt_fits : (d : ℤ) (n debt : ℕ) → int_lt (d -ℤ pos n) (deepest_deficit debt) ≡ false →
    deepest_deficit debt ≤ℤ (d -ℤ pos n)
debt_fits d n debt h = omega (arith, ints)

kept_received : (w : World) (s : ℕ) (c : Class) (air : ℕ) → not (is_within 1 greatest_air air) ≡ false →
    int_lt ((share w s c).deficit -ℤ pos air) (deepest_deficit w.config.debt) ≡ false → IsKept (books w) →
    IsKept (books (rx_outcome w s c air).world)
kept_received w s c air h k i = is _ _ (books_received w s c air)
    (kept_on (books w) s (on_part c (receive_share air)) i (λ a e good. record {
      weight = good.weight;
      rate = good.rate;
      bounds = each_updc (λ d z. IsBounded w.config d (at_stake w.config s d (books w).opened)
          (counted_in w.config s d (books w).opened) a.weight z)
          a.shares c
          (receive_share air (a.shares c)) good.bounds
          (bounded_receive w.config c (at_stake w.config s c (books w).opened)
          (counted_in w.config s c (books w).opened) air a.weight (a.shares c)
          (at_stake_most (books w) i s c) (leb-true _ _ (and_parts _ _ (not-false _ h)).0) (known a e)
          (good.bounds c));
    }))
  where
    known : (a : Account) → (books w).accounts s ≡ Some a →
        deepest_deficit w.config.debt ≤ℤ ((a.shares c).deficit -ℤ pos air)
    known a e = go (at None w.stations s) refl e (debt_fits (share w s c).deficit air w.config.debt k)
      where
        go : (o : Option Station) → at None w.stations s ≡ o → option_map account o ≡ Some a →
            deepest_deficit w.config.debt ≤ℤ ((share w s c).deficit -ℤ pos air) →
            deepest_deficit w.config.debt ≤ℤ ((a.shares c).deficit -ℤ pos air)
        go None f e h = absurd (cc e)
        go (Some x) f e h =
            let same : account x ≡ a = cc e in
            subst (λ (z : Account). deepest_deficit w.config.debt ≤ℤ ((z.shares c).deficit -ℤ pos air)) same
            (subst (λ (o : Option Station). deepest_deficit w.config.debt ≤ℤ
            ((at no_share (unwrap_or o no_station).shares (class_number c)).deficit -ℤ pos air)) f h)

none_open_if : (b : Bool) (x : Exchange) (xs : List Exchange) (s n : ℕ) → (x.station == s) ≡ b →
    nat_lt 0 ((if b then 1 else 0) + n) ≡ false → (nat_lt 0 n ≡ false → Every (λ x. x.station ≢ s) xs) →
    Every (λ x. x.station ≢ s) (x ∷ xs)
none_open_if true x xs s n e k f = absurd (grind arith)
none_open_if false x xs s n e k f = (
  eqb-false _ _ e,
  f (subst (λ (m : ℕ). nat_lt 0 m ≡ false) (zero-add n) k),
)

none_open : (xs : List Exchange) (s : ℕ) → nat_lt 0 (count_by (λ x. x.station == s) xs) ≡ false →
    Every (λ x. x.station ≢ s) (map core xs)
none_open [] s h = tt
none_open (x ∷ xs) s h =
    none_open_if (x.station == s) (core x) (map core xs) s (count_by (λ x. x.station == s) xs) refl
    (subst (λ (n : ℕ). nat_lt 0 n ≡ false) (sum_by-cons
    (λ (y : Exchange). if y.station == s then 1 else 0) x xs) h) (none_open xs s)

pub kept_done : (note : Note) (w : World) → NoRow (refusals w note) → IsKept (books w) →
    IsKept (books (outcome_of w note).world)
unfolding outcome_of tick_outcome
kept_done (Enqueue s t flow len) w e i = is _ _ (books_enqueued w s t flow len) i
kept_done (Asked (Join s window start exponent weight)) w e i =
    is _ _ (books_joined w s window start exponent weight)
    (kept_fresh (books w) s weight i (leb-true _ _ (and_parts _ _ (not-false _ e.1.1.1.1.0)).0)
    (live_account (at None w.stations s) ∙ e.1.1.1.1.1.0))
kept_done (Asked (Offload s exponent weight)) w e i =
    is _ _ (books_offloaded w s exponent weight)
    (kept_fresh (books w) s weight i (leb-true _ _ (and_parts _ _ (not-false _ e.1.1.0)).0)
    (live_account (at None w.stations s) ∙ e.1.1.1.0))
kept_done (Asked (Plain s start exponent weight)) w e i =
    is _ _ (books_joined_plain w s start exponent weight)
    (kept_fresh (books w) s weight i (leb-true _ _ (and_parts _ _ (not-false _ e.1.1.1.0)).0)
    (live_account (at None w.stations s) ∙ e.1.1.1.1.0))
kept_done (Asked (Weight s weight)) w e i = is _ _ (books_weighed w s weight)
    (kept_weighed (books w) s weight i (leb-true _ _ (and_parts _ _ (not-false _ e.1.0)).0))
kept_done (Asked (Leave s)) w e i = is _ _ (books_gone w s)
    (kept_gone (books w) s i (none_open w.opened s e.1.1.0))
kept_done (Asked (Rate s rate)) w e i =
    is _ _ (books_with_rate w s rate)
    (kept_on (books w) s (rated rate) i
    (λ a _ good. record { weight = good.weight; rate = not-false _ e.1.0; bounds = good.bounds }))
kept_done (Asked (Tick by)) w e i = i
kept_done (Asked (Pull c l)) w e i = kept_pulled w c l e.0 e.1.0 i
kept_done (Asked (Arrive e j)) w _ i = kept_open w e (exchange w e) _ refl i
    (λ x f. is _ _ (books_arrived w e j x i f) i)
kept_done (Asked (Unsent e j)) w _ i = kept_open w e (exchange w e) _ refl i
    (λ x f. is _ _ (books_unsent w e j x i f) i)
kept_done (Asked (GiveUp e j)) w _ i = kept_open w e (exchange w e) _ refl i
    (λ x f. is _ _ (books_given_up w e j x i f) i)
kept_done (Asked (Answer e)) w _ i = kept_open w e (exchange w e) _ refl i
    (λ x f. is _ _ (books_answered w e x i f) i)
kept_done (Asked (Done e heard air)) w r i = kept_open w e (exchange w e) _ refl i
    (λ x f. is _ _ (books_ended air w x heard) (kept_ended (books w) (core x) x.number (charge_of air x) i
    (at_number w e x f) (charge_within w e x air i f r.1.1.0)
    (charge_exact w.config x air r.1.1.0)))
kept_done (Asked (Sleep s)) w e i = is _ _ (books_slept w s) i
kept_done (Asked (Ampdu s octets)) w e i = is _ _ (books_stated w s octets) i
kept_done (Asked (Stop s)) w e i = is _ _ (books_stopped w s) i
kept_done (Asked (Start s)) w e i = is _ _ (books_started w s) i
kept_done (Asked (Flush s t)) w e i = is _ _ (books_flushed w s t) i
kept_done (Asked (Hold s t)) w e i = is _ _ (books_held w s t) i
kept_done (Asked (Begin s t window)) w e i = is _ _ (books_begun w s t window) i
kept_done (Asked (Free s t)) w e i = is _ _ (books_freed w s t) i
kept_done (Asked (Cease s t)) w e i = is _ _ (books_ceased w s t) i
kept_done (Asked (Wake s)) w e i = is _ _ (books_woken w s) i
kept_done (Asked (Poll s)) w e i = is _ _ (books_credited w s) i
kept_done (Asked (Rx s c air)) w e i = kept_received w s c air e.1.0 e.1.1.1.0 i
kept_done (Asked Reap) w e i = is _ _ (books_reaped w.finished w) i
kept_done (Asked (Group ask)) w e i = i
kept_done (Asked (Service ask)) w e i = is _ _ (books_served w ask) i
kept_done (Asked (Bss s b)) w e i = is _ _ (books_moved w s b) i

kept_refused : (note : Note) (r : Refusal) (w : World) → IsKept (books w) →
    IsKept (books (after_refusal w note r))
unfolding after_refusal
kept_refused (Asked (Pull c l)) Idle w i = if_idle (λ v. IsKept (books v)) w c i
    (λ off. kept_after_pick w c (covered_off w c off) i)
kept_refused _ _ w i = i

kept_answer : (r : Option Refusal) (w : World) (note : Note) → refusal w note ≡ r → IsKept (books w) →
    IsKept (books (judged_outcome w note r).world)
unfolding judged_outcome
kept_answer (Some r) w note e i = kept_refused note r w i
kept_answer None w note e i = kept_listed _ _ (kept_done note w (no_row (refusals w note) e) i)

pub kept_step : (w : World) (note : Note) → IsKept (books w) → IsKept (books (step w note).world)
unfolding step
kept_step w note i = kept_answer (refusal w note) w note refl i

pub kept_run : (h : List Entry) (w : World) → IsKept (books w) → IsKept (books (world_after w h))
unfolding world_after
kept_run [] w i = i
kept_run (e ∷ es) w i = kept_run es _ (kept_step w e.1 i)

pub kept_opening : (config : Config) → IsInRange config → IsKept (books (opening config))
kept_opening config range = record {
  range = range;
  once = λ c y. omega (arith, on-nil y);
  live = λ c y stands. absurd (let none : on [] y ≡ 0 = on-nil y in omega arith);
  opens = tt;
  rising = tt;
  few = λ c. omega arith;
  within = record {
    total = λ limited. omega (arith, limited);
    station = λ limited s c. omega (arith, limited);
  };
  goods = λ s. tt;
}

pub kept : (config : Config) (h : List Entry) → IsInRange config →
    IsKept (books (world_after (opening config) h))
kept config h range = kept_run h (opening config) (kept_opening config range)
