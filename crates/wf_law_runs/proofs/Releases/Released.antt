-- Proves which ids one session releases, in every run. By cases of the call and induction on the run.
use Rattle.std.proofs.Common.{◌≡◌, ◌≢◌, refl, ap, sym, ◌∙◌, subst, arith, ℕ, suc, ◌<◌, ◌≤◌, nat_lt, Bool, true, false, if◌then◌else◌, ◌==◌, ◌||◌, inl, inr, List, [], ◌∷◌, ◌++◌, filter, nat_le, Option, Some, None, IfSome, is_some, unwrap_or, not, append-nil, ◌&&◌}
use Rattle.wf_frame.specs.declared.settings.Config.{Config}
use Rattle.wf_frame.specs.declared.classes.Class.{Class}
use Rattle.wf_def_lists.specs.Table.{at, has, with_member, upto}
use Rattle.wf_def_agreement.specs.Receiver.{Receiver, with_arrived, with_start, release_start, greatest, released_between}
use Rattle.wf_def_agreement.specs.Session.{Session, State, is_settled, slot, next_number, start_of}
use Rattle.wf_def_world.specs.World.{receiver, World, Station, Exchange, Content, Frames, Request, new_tid, session, is_live, is_offloaded, no_station, exchange, with_station, on_station, on_receiver, with_exchange, opening, Mode, Plain, OnHold, Agreed, is_agreed, is_plain, is_held_back, has_agreement, tid_of, on_tid, Tid}
use Rattle.wf_def_world.specs.Service.{station_served}
use Rattle.wf_frame.specs.Classes.{all_classes}
use Rattle.wf_def_world.specs.CanSend.{with_listings_of}
use Rattle.wf_def_world.specs.Exchanges.{transmissions, no_mpdu, after_arrival, mpdus_of, ids_of, caught_up, with_heard_start}
use Rattle.wf_frame.specs.declared.notes.GroupCall.{GroupCall}
use Rattle.wf_frame.specs.declared.notes.Ask.TheVariants.{Join, Leave, Rate, Tick, Pull, Arrive, Answer, Done, Sleep, Wake, Poll, Rx, Reap, Ampdu, Stop, Start, Unsent, GiveUp, Flush, Offload, Weight, Hold, Begin, Free, Cease, Group, Service, Bss}
use Rattle.wf_frame.specs.declared.notes.Ask.TheVariants as call
use Rattle.wf_frame.specs.declared.notes.AskedRate.{AskedRate}
use Rattle.wf_frame.specs.declared.notes.Note.{Note}
use Rattle.wf_frame.specs.declared.notes.Note.TheVariants.{Enqueue, Asked}
use Rattle.wf_frame.specs.declared.notes.ServiceAsk.{ServiceAsk}
use Rattle.wf_frame.specs.declared.notes.Refusal.{Refusal}
use Rattle.wf_frame.specs.declared.notes.Refusal.TheVariants.{Idle}
use Rattle.wf_def_world.specs.Refusals.{refusals, refusal}
use Rattle.wf_def_world.specs.Step.{Outcome, new_station, join_outcome, offload_outcome, weight_outcome, after_tids_left, without_listings, leave_outcome, rate_outcome, tick_outcome, enqueue_outcome, pull_outcome, arrive_outcome, answer_outcome, unsent_outcome, give_up_outcome, flush_outcome, done_outcome, outcome_where_open, sleep_outcome, wake_outcome, poll_outcome, rx_outcome, reap_outcome, outcome_of, after_refusal, judged_outcome, step, concerned_station, ampdu_outcome, stop_outcome, start_outcome, group_outcome, plain_outcome, plain_window, hold_outcome, begin_outcome, free_outcome, cease_outcome, after_numbers_ended, service_outcome, bss_outcome}
use Rattle.wf_def_world.specs.Run.{Entry, world_after}
use Rattle.wf_law_rules.proofs.Lemmas.Tables.{at_put_same, at_put_other}
use Rattle.wf_law_rules.proofs.Lemmas.Numbers.{Climbs, on_bool, on_if, lt_yes, lt_no, eq_yes, eq_no, yes_eq, either, both, and_true, or_left, or_right, has_old, climbs_with, greatest_least, greatest_has, greatest_within, missing_not}
use Rattle.wf_law_runs.proofs.Common.Refused.{after_idle}
use Rattle.wf_law_runs.proofs.Windows.Sides.{sided, on_offloaded, same_weighed, Side, side_of, side, sides_of, Same, each_side_on, side_on, on_live, same, then_same, same_on_station, same_on_share, same_listed, same_after_pick, same_held, same_freed, held_not_agreed, renewed, told_start, caught_up_is, begun_is, ceased_is, begun_elsewhere, ceased_elsewhere, live_begun, live_ceased, off_begun, off_ceased, ended_side}
use Rattle.wf_law_runs.proofs.Windows.Agreement.{unsettled_ge, IsAgreed, released_arrived, start_release}
use Rattle.wf_law_runs.proofs.Windows.Opened.{each_find, FlyIn, eight, NoRow, no_row}
use Rattle.wf_frame.specs.declared.notes.ReplyNote.{ReplyNote}
use Rattle.wf_frame.specs.declared.notes.ReplyNote.TheVariants.{Joined, Released, Ceased}
use Rattle.wf_def_lists.specs.Lists.{IsRising}
use Rattle.wf_law_runs.specs.Releases.{is_join_of, is_at, is_arrival_for, passed_by, passed_from, passed, numbers_passed, is_cease_of}
use Rattle.wf_law_runs.proofs.Releases.Passing.{filter_split, filter_with, member_known, release_rises, filter_none, no_le}
use Rattle.wf_law_runs.proofs.Releases.Kept.{KeptSession, Kept, kept_same, keep_pulled, keep_ended, keep_answered, keep_plain, keep_enqueued, keep_unsent, keep_given_up, keep_flushed, keep_reaped, kept_refl, keep_numbers_ended}
use Rattle.wf_law_runs.proofs.Windows.Agreed.{IsLawful, IsOpenIn, all_at, rises_at, if_on, same_left_tids, same_off_lists, lawful_step, lawful, lawful_at_first, not_no, not_device, lawful_done, lawful_refused}
use Rattle.wf_def_lists.specs.Bounds.{greatest_window}

-- ---- numbers and their ids

has_filter : (p : ℕ → Bool) (xs : List ℕ) (n : ℕ) → has (filter p xs) n ≡ true → has xs n ≡ true
has_filter p [] n h = h
has_filter p (x ∷ xs) n h = on_if (λ (ys : List ℕ). has ys n ≡ true → ((x == n) || has xs n) ≡ true) (p x)
    (x ∷ filter p xs) (filter p xs)
    (λ _ e. elim (either (x == n) (has (filter p xs) n) e) [
      | inl d ↦ or_left (x == n) (has xs n) d
      | inr d ↦
          or_right (x == n) (has xs n) (has_filter p xs n d)
    ])
    (λ _ e. or_right (x == n) (has xs n) (has_filter p xs n e)) h

ids_kept : (ns : List ℕ) (y z : Session) → KeptSession y z →
    ((n : ℕ) → has ns n ≡ true → (y.first ≤ n) × (n < next_number y)) → ids_of z ns ≡ ids_of y ns
ids_kept [] y z k h = refl
ids_kept (n ∷ ns) y z k h =
    let here = h n (or_left (n == n) (has ns n) (yes_eq n n refl)) in
    ap (λ (i : ℕ). i ∷ ids_of z ns) (k.ids n here.0 here.1)
    ∙ ap (λ (is : List ℕ). (slot y n).id ∷ is)
    (ids_kept ns y z k (λ m e. h m (or_right (n == m) (has ns m) e)))

ids_append : (y : Session) (ns ms : List ℕ) → ids_of y (ns ++ ms) ≡ ids_of y ns ++ ids_of y ms
ids_append y [] ms = refl
ids_append y (n ∷ ns) ms = ap (λ (is : List ℕ). (slot y n).id ∷ is) (ids_append y ns ms)

rising_filter : (p : ℕ → Bool) (xs : List ℕ) (lo : ℕ) → Climbs lo xs → IsRising lo (filter p xs)
rising_filter p [] lo c = tt
rising_filter p (x ∷ xs) lo c = on_if (λ (ys : List ℕ). IsRising lo ys) (p x) (x ∷ filter p xs) (filter p xs)
    (λ _. (c.0, rising_filter p xs (suc x) c.1))
    (λ _. lower (filter p xs) (suc x) lo (omega (arith, c.0)) (rising_filter p xs (suc x) c.1))
  where
    lower : (ys : List ℕ) (a b : ℕ) → b ≤ a → IsRising a ys → IsRising b ys
    lower [] a b h r = tt
    lower (y ∷ ys) a b h r = (omega (arith, r.0, h), r.1)

-- ---- arrivals

grown_arrived : (y : Session) (r : Receiver) (m e : ℕ) → IsAgreed y r → y.first ≤ m →
    (slot y m).state ≡ State.Flying e → numbers_passed (with_arrived m r) ≡ numbers_passed r
    ++ released_between r (with_arrived m r)
grown_arrived y r m e a from f =
    let q : Receiver = with_arrived m r in
    let climbs : Climbs 0 q.arrived = climbs_with r.arrived 0 m (omega arith) a.rising in
    filter_split q.arrived 0 (release_start r) (release_start q)
    (release_rises r q (omega arith) climbs (λ n h. has_old r.arrived m n h)) climbs
    ∙ ap (λ (ns : List ℕ). ns ++ released_between r q) (on_bool (nat_lt m (release_start r))
    (λ l. ap (filter (λ n. nat_lt n (release_start r)))
    (member_known r.arrived 0 m a.rising (released_arrived y r a m
    (unsettled_ge y m from (ap is_settled f)) (lt_yes m (release_start r) l))))
    (λ l. filter_with r.arrived m (release_start r) (lt_no m (release_start r) l)))

grown_start : (y : Session) (r : Receiver) (f : ℕ) → IsAgreed y r →
    numbers_passed (with_start f r) ≡ numbers_passed r ++ released_between r (with_start f r)
grown_start y r f a =
    let q : Receiver = with_start f r in
    let starts : greatest r.first r.starts ≤ greatest q.first q.starts =
    greatest_within r.starts r.first (greatest q.first q.starts) (greatest_least q.starts q.first)
    (λ k h. greatest_has q.starts q.first k (has_old r.starts f k h)) in
    filter_split q.arrived 0 (release_start r) (release_start q)
    (release_rises r q starts a.rising (λ n h. h)) a.rising

pub grown : (c : Content) (w : World) (i : IsLawful w) (x : Exchange) (n : ℕ) → x.content ≡ c → IsOpenIn w x →
    n < transmissions c → numbers_passed (after_arrival c n (receiver w x.station x.tid))
    ≡ numbers_passed (receiver w x.station x.tid)
    ++ released_between (receiver w x.station x.tid) (after_arrival c n (receiver w x.station x.tid))
grown (Frames ms) w i x n e o l =
    let y : Session = session w x.station x.tid in
    let flies : FlyIn x.number ms y = subst (λ (c : Content). FlyIn x.number (mpdus_of c) y) e o.opened.flies
    in
    grown_arrived y (receiver w x.station x.tid) (at no_mpdu ms n).number x.number (i.agreed x.station x.tid)
    (rises_at y.first (next_number y) ms n l flies.rising).0
    (all_at y (State.Flying x.number) ms n l flies.flying)
grown (Request f) w i x n e o l = grown_start (session w x.station x.tid) (receiver w x.station x.tid) f
    (i.agreed x.station x.tid)

-- ---- the released ids

-- If the station is live and not offloaded, l are the ids of its released numbers.
abbrev Passed : World → ℕ → ℕ → List ℕ → Type 0
Passed w s t l = is_live w s ≡ true → is_offloaded w s ≡ false →
    l ≡ ids_of (session w s t) (numbers_passed (receiver w s t))

passed_at : (w v : World) (s t : ℕ) (l : List ℕ) → is_live v s ≡ is_live w s →
    is_offloaded v s ≡ is_offloaded w s → side v s t ≡ side w s t → Passed w s t l → Passed v s t l
passed_at w v s t l e f d h live off = h (sym e ∙ live) (sym f ∙ off)
    ∙ sym (ap (λ (a : Side). ids_of a.session (numbers_passed a.receiver)) d)

filter_all : (p : ℕ → Bool) (xs : List ℕ) → ((n : ℕ) → has xs n ≡ true → p n ≡ true) → filter p xs ≡ xs
filter_all p [] h = refl
filter_all p (x ∷ xs) h = on_if (λ (ys : List ℕ). ys ≡ x ∷ xs) (p x) (x ∷ filter p xs) (filter p xs)
    (λ _. ap (λ (ys : List ℕ). x ∷ ys) (filter_all p xs (λ n e. h n (or_right (x == n) (has xs n) e))))
    (λ e. absurd (cc (e, h x (or_left (x == x) (has xs x) (yes_eq x x refl)))))

-- Without an agreement and a device the receiver stores nothing: what arrived is released.
pub stores_below : (w : World) (s t : ℕ) → IsLawful w → is_agreed w s t ≡ false → is_offloaded w s ≡ false →
    (n : ℕ) → has (receiver w s t).arrived n ≡ true → nat_lt n (release_start (receiver w s t)) ≡ true
stores_below w s t i none not_off n h =
    let y : Session = session w s t in
    let r : Receiver = receiver w s t in
    let a : IsAgreed y r = i.agreed s t in
    let plain : is_plain w s t ≡ true =
    ap (λ (b : Bool). not (b || is_agreed w s t)) not_off ∙ ap (λ (b : Bool). not b) none in
    let narrow : y.size ≤ 1 = (i.moded s t).narrow plain in
    let told : start_of y ≤ release_start r = start_release y r a (i.quiet s t refl none) in
    on_bool (nat_lt n (release_start r)) (λ l. l) (λ l.
    let here : n ≡ release_start r =
    omega (arith, (a.arrived n h).1, a.within.within, narrow, told, lt_no n (release_start r) l) in
    absurd (missing_not r.arrived 0 (greatest r.first r.starts) a.rising
    (ap (has r.arrived) (sym here) ∙ h)))

pub stores_none : (w : World) (s t : ℕ) → IsLawful w → is_agreed w s t ≡ false → is_offloaded w s ≡ false →
    numbers_passed (receiver w s t) ≡ (receiver w s t).arrived
stores_none w s t i none not_off = filter_all (λ n. nat_lt n (release_start (receiver w s t)))
    (receiver w s t).arrived (stores_below w s t i none not_off)

-- The same numbers are passed after a change that keeps the arrivals.
passes_kept : (w v : World) (s t : ℕ) → IsLawful w → IsLawful v → Kept w v → is_offloaded w s ≡ false →
    numbers_passed (receiver v s t) ≡ numbers_passed (receiver w s t)
passes_kept w v s t i j k not_off = on_bool (is_agreed w s t)
    (λ is. ap numbers_passed ((k.receivers s t).equal is))
    (λ none. stores_none v s t j (k.agreed s t ∙ none) (k.offloaded s ∙ not_off)
    ∙ (k.receivers s t).arrived ∙ sym (stores_none w s t i none not_off))

passed_kept : (w v : World) (s t : ℕ) (l : List ℕ) → IsLawful w → IsLawful v → Kept w v → Passed w s t l →
    Passed v s t l
passed_kept w v s t l i j k h live off =
    let not_off : is_offloaded w s ≡ false = sym (k.offloaded s) ∙ off in
    h (sym (k.live s) ∙ live) not_off
    ∙ sym (ids_kept (numbers_passed (receiver w s t)) (session w s t) (session v s t) (k.sessions s t)
    (λ n e. (i.agreed s t).arrived n (has_filter _ (receiver w s t).arrived n e)))
    ∙ sym (ap (ids_of (session v s t)) (passes_kept w v s t i j k not_off))

-- The session and the receiver after an arrival.
pub side_taken : (w : World) (x z : Exchange) (g : Receiver → Receiver) → is_live w x.station ≡ true →
    side (with_exchange (on_receiver w x.station x.tid g) z) x.station x.tid
    ≡ record {
      session = session w x.station x.tid;
      receiver = g (receiver w x.station x.tid);
      agreed = is_agreed w x.station x.tid;
    }
unfolding with_exchange on_receiver
side_taken w x z g live = side_on w x.station x.tid (λ y. record y { receiver = g y.receiver }) live

pub off_taken : (w : World) (x z : Exchange) (g : Receiver → Receiver) (s : ℕ) →
    is_offloaded (with_exchange (on_receiver w x.station x.tid g) z) s ≡ is_offloaded w s
unfolding with_exchange on_receiver
off_taken w x z g s = on_offloaded w x.station x.tid (λ y. record y { receiver = g y.receiver }) s

pub side_untaken : (w : World) (x z : Exchange) (g : Receiver → Receiver) (s t : ℕ) →
    (s ≡ x.station → t ≡ x.tid → ⊥) → side (with_exchange (on_receiver w x.station x.tid g) z) s t
    ≡ side w s t
unfolding with_exchange on_receiver
side_untaken w x z g = each_side_on (λ a b y. (a ≡ x.station → b ≡ x.tid → ⊥) → y ≡ side w a b) w x.station
    x.tid (λ y. record y { receiver = g y.receiver }) (λ a b _. refl) (λ apart. absurd (apart refl refl))

pub live_taken : (w : World) (x z : Exchange) (g : Receiver → Receiver) (s : ℕ) →
    is_live (with_exchange (on_receiver w x.station x.tid g) z) s ≡ is_live w s
unfolding with_exchange on_receiver
live_taken w x z g s = on_live w x.station x.tid (λ y. record y { receiver = g y.receiver }) s

passed_taken : (w : World) (x z : Exchange) (g : Receiver → Receiver) (s t : ℕ) (l : List ℕ) →
    is_live w x.station ≡ true
    → numbers_passed (g (receiver w x.station x.tid)) ≡ numbers_passed (receiver w x.station x.tid)
    ++ released_between (receiver w x.station x.tid) (g (receiver w x.station x.tid))
    → Passed w s t l → Passed (with_exchange (on_receiver w x.station x.tid g) z) s t
    (if is_at s t (Some x) then l ++ ids_of (session w x.station x.tid)
    (released_between (receiver w x.station x.tid) (g (receiver w x.station x.tid))) else l)
passed_taken w x z g s t l live grows h =
    let v : World = with_exchange (on_receiver w x.station x.tid g) z in
    let y : Session = session w x.station x.tid in
    let r : Receiver = receiver w x.station x.tid in
    on_if (Passed v s t) (is_at s t (Some x)) (l ++ ids_of y (released_between r (g r))) l
    (λ own.
    let p = both (x.station == s) (x.tid == t) own in
    let es : x.station ≡ s = eq_yes _ _ p.0 in
    let et : x.tid ≡ t = eq_yes _ _ p.1 in
    subst (λ (a : ℕ). Passed v a t (l ++ ids_of y (released_between r (g r)))) es
    (subst (λ (b : ℕ). Passed v x.station b (l ++ ids_of y (released_between r (g r)))) et (λ _ off.
    let here : l ≡ ids_of y (numbers_passed r) = subst (λ (a : ℕ). Passed w a x.tid l) (sym es)
    (subst (λ (b : ℕ). Passed w s b l) (sym et) h) live (sym (off_taken w x z g x.station) ∙ off) in
    ap (λ (k : List ℕ). k ++ ids_of y (released_between r (g r))) here
    ∙ sym (ids_append y (numbers_passed r) (released_between r (g r)))
    ∙ ap (ids_of y) (sym grows)
    ∙ sym (ap (λ (a : Side). ids_of a.session (numbers_passed a.receiver)) (side_taken w x z g live)))))
    (λ other. passed_at w v s t l (live_taken w x z g s) (off_taken w x z g s)
    (side_untaken w x z g s t (λ es et. cc (
      other,
      and_true (x.station == s) (x.tid == t) (yes_eq x.station s (sym es)) (yes_eq x.tid t (sym et)),
    ))) h)

passed_arrived : (w : World) (i : IsLawful w) (x : Exchange) (n s t : ℕ) (l : List ℕ) → IsOpenIn w x →
    nat_le (transmissions x.content) n ≡ false → Passed w s t l
    → Passed (arrive_outcome w x n).world s t (if is_at s t (Some x)
    then l ++ (if x.batch then [] else ids_of (session w x.station x.tid)
    (released_between (receiver w x.station x.tid)
    (after_arrival x.content n (receiver w x.station x.tid)))) else l)
unfolding arrive_outcome
passed_arrived w i x n s t l o few h =
    let z : Exchange = record x { arrived = with_member n x.arrived } in
    let g : Receiver → Receiver = after_arrival x.content n in
    let v : World = with_exchange (on_receiver w x.station x.tid g) z in
    on_if (λ (k : List ℕ). Passed v s t (if is_at s t (Some x) then l ++ k else l)) x.batch []
    (ids_of (session w x.station x.tid) (released_between (receiver w x.station x.tid)
    (g (receiver w x.station x.tid))))
    (λ batch. on_if (Passed v s t) (is_at s t (Some x)) (l ++ []) l
    (λ own _ off. absurd (cc (
      off,
      off_taken w x z g s,
      ap (is_offloaded w) (eq_yes x.station s (both (x.station == s) (x.tid == t) own).0),
      o.right.batch,
      batch,
    )))
    (λ other. passed_at w v s t l (live_taken w x z g s) (off_taken w x z g s)
    (side_untaken w x z g s t (λ es et. cc (
      other,
      and_true (x.station == s) (x.tid == t) (yes_eq x.station s (sym es)) (yes_eq x.tid t (sym et)),
    ))) h))
    (λ _. passed_taken w x z g s t l o.live (grown x.content w i x n refl o (not_le _ _ few)) h)
  where
    not_le : (a b : ℕ) → nat_le a b ≡ false → b < a
    not_le a b e = grind arith

passed_arrive : (o : Option Exchange) (w : World) (i : IsLawful w) (e n s t : ℕ) (l : List ℕ) →
    exchange w e ≡ o → IfSome o (IsOpenIn w) → IfSome o (λ x. nat_le (transmissions x.content) n ≡ false) →
    Passed w s t l
    → Passed (outcome_where_open w o (λ x. arrive_outcome w x n)).world s t
    (passed_by w s t (Asked (Arrive e n)) l (outcome_where_open w o (λ x. arrive_outcome w x n)).reply)
unfolding outcome_where_open arrive_outcome
passed_arrive None w i e n s t l d f few h = subst
    (λ (o : Option Exchange). Passed w s t (if is_at s t o then l ++ [] else l)) (sym d) h
passed_arrive (Some x) w i e n s t l d f few h =
    subst (λ (o : Option Exchange). Passed (arrive_outcome w x n).world s t
    (if is_at s t o then l ++ (if x.batch then [] else ids_of (session w x.station x.tid)
    (released_between (receiver w x.station x.tid)
    (after_arrival x.content n (receiver w x.station x.tid)))) else l)) (sym d)
    (passed_arrived w i x n s t l f few h)

-- ---- joining and leaving

pub side_with_station : (w : World) (i s t : ℕ) (o : Option Station) → i ≢ s →
    side (with_station w i o) s t ≡ side w s t
unfolding with_station
side_with_station w i s t o ne = ap (λ (p : Option Station). sides_of p t)
    (at_put_other None w.stations i s o ne)

pub side_own_station : (w : World) (i t : ℕ) (o : Option Station) →
    side (with_station w i o) i t ≡ sides_of o t
unfolding with_station
side_own_station w i t o = ap (λ (p : Option Station). sides_of p t) (at_put_same None w.stations i o)

pub live_with_station : (w : World) (i s : ℕ) (o : Option Station) → i ≢ s →
    is_live (with_station w i o) s ≡ is_live w s
unfolding with_station
live_with_station w i s o ne = ap is_some (at_put_other None w.stations i s o ne)

pub off_with_station : (w : World) (i s : ℕ) (o : Option Station) → i ≢ s →
    is_offloaded (with_station w i o) s ≡ is_offloaded w s
unfolding with_station
off_with_station w i s o ne = ap (λ (p : Option Station). (unwrap_or p no_station).offloaded)
    (at_put_other None w.stations i s o ne)

pub live_own_station : (w : World) (i : ℕ) (o : Option Station) → is_live (with_station w i o) i ≡ is_some o
unfolding with_station
live_own_station w i o = ap is_some (at_put_same None w.stations i o)

-- No id was released at this TID.
abbrev Untouched : Side → Type 0
Untouched a = ids_of a.session (numbers_passed a.receiver) ≡ []

passed_new : (w : World) (i : ℕ) (mode : Mode) (window start exponent weight : ℕ) (offloaded : Bool) (s t : ℕ)
    (l : List ℕ) → Passed w s t l → Passed (with_station w i
    (Some (new_station w.config mode window start exponent weight offloaded))) s t (if i == s then [] else l)
passed_new w i mode window start exponent weight offloaded s t l h =
    let o : Option Station = Some (new_station w.config mode window start exponent weight offloaded) in
    on_if (Passed (with_station w i o) s t) (i == s) [] l
    (λ own. subst (λ (a : ℕ). Passed (with_station w i o) a t []) (eq_yes i s own) (λ _ _.
    sym (ap (λ (a : Side). ids_of a.session (numbers_passed a.receiver)) (side_own_station w i t o)
    ∙ eight (λ y. Untouched (side_of y)) (new_tid mode start window) refl refl t)))
    (λ other. passed_at w (with_station w i o) s t l (live_with_station w i s o (eq_no i s other))
    (off_with_station w i s o (eq_no i s other)) (side_with_station w i s t o (eq_no i s other)) h)

passed_gone : (w : World) (i s t : ℕ) (l : List ℕ) → Passed w s t l → Passed (leave_outcome w i).world s t l
unfolding leave_outcome
passed_gone w i s t l h =
    let u : World = without_listings (after_tids_left w i (upto 8)) i all_classes in
    let k : Same w u = then_same _ _ _ (same_left_tids (upto 8) w i) (same_off_lists all_classes _ i) in
    on_bool (i == s)
    (λ own live _. absurd (cc (
      subst (λ (a : ℕ). is_live (with_station u i None) a ≡ false) (eq_yes i s own)
          (live_own_station u i None),
      live,
    )))
    (λ other. passed_at w (with_station u i None) s t l
    (live_with_station u i s None (eq_no i s other) ∙ k.live s)
    (off_with_station u i s None (eq_no i s other) ∙ k.offloaded s)
    (side_with_station u i s t None (eq_no i s other) ∙ k.sides s t) h)

-- ---- the step

quiet_reply : (r : ReplyNote) (w : World) (s t : ℕ) (note : Note) (l : List ℕ) → is_join_of s note ≡ false →
    is_arrival_for w s t note ≡ false → is_cease_of s t note ≡ false → passed_by w s t note l r ≡ l
quiet_reply Joined w s t note l h k c = ap (λ (b : Bool). if b then [] else l) h
quiet_reply (Released ids) w s t note l h k c = ap (λ (b : Bool). if b then l ++ ids else l) k
quiet_reply (Ceased dropped ids) w s t note l h k c = ap (λ (b : Bool). if b then l ++ ids else l) c
quiet_reply _ w s t note l h k c = refl

-- The call is neither a join nor an arrival, and ends no agreement.
passed_quiet : (w : World) (note : Note) (o : Outcome) (s t : ℕ) (l : List ℕ) → is_join_of s note ≡ false →
    is_arrival_for w s t note ≡ false → is_cease_of s t note ≡ false → Passed o.world s t l →
    Passed o.world s t (passed_by w s t note l o.reply)
passed_quiet w note o s t l h k c p =
    subst (Passed o.world s t) (sym (quiet_reply o.reply w s t note l h k c)) p

pub keep_open : (o : Option Exchange) (w : World) (f : Exchange → Outcome) →
    ((x : Exchange) → Kept w (f x).world) → Kept w (outcome_where_open w o f).world
unfolding outcome_where_open
keep_open None w f h = kept_same w w (same w)
keep_open (Some x) w f h = h x

keep_station : (w : World) (s : ℕ) (f : Station → Station) →
    ((x : Station) (t : ℕ) → sided (f x) t ≡ sided x t) →
    Kept w (on_station w s f)
keep_station w s f h = kept_same w _ (same_on_station w s f h)

pub keep_rate : (w : World) (a : ℕ) (rate : AskedRate) → Kept w (rate_outcome w a rate).world
unfolding rate_outcome
keep_rate w a rate = keep_station w a _ (λ x t. refl)

pub keep_tick : (w : World) (by : ℕ) → Kept w (tick_outcome w by).world
unfolding tick_outcome
keep_tick w by = keep_plain w _ refl

pub keep_group : (w : World) (ask : GroupCall) → Kept w (group_outcome w ask).world
keep_group w ask = keep_plain w _ refl

pub keep_served : (w : World) (ask : ServiceAsk) → Kept w (service_outcome w ask).world
keep_served w ask = keep_station w (station_served ask) _ (λ x t. refl)

pub keep_moved : (w : World) (a b : ℕ) → Kept w (bss_outcome w a b).world
keep_moved w a b = keep_station w a _ (λ x t. refl)

pub keep_slept : (w : World) (a : ℕ) → Kept w (sleep_outcome w a).world
unfolding sleep_outcome
keep_slept w a = keep_station w a _ (λ x t. refl)

pub keep_stated : (w : World) (a octets : ℕ) → Kept w (ampdu_outcome w a octets).world
keep_stated w a octets = keep_station w a _ (λ x t. refl)

pub keep_stopped : (w : World) (a : ℕ) → Kept w (stop_outcome w a).world
keep_stopped w a = keep_station w a _ (λ x t. refl)

pub keep_started : (w : World) (a : ℕ) → Kept w (start_outcome w a).world
keep_started w a = keep_station w a _ (λ x t. refl)

pub keep_woken : (w : World) (a : ℕ) → Kept w (wake_outcome w a).world
unfolding wake_outcome
keep_woken w a = keep_station w a _ (λ x t. refl)

pub keep_credited : (w : World) (a : ℕ) → Kept w (poll_outcome w a).world
unfolding poll_outcome
keep_credited w a = keep_station w a _ (λ x t. refl)

pub keep_received : (w : World) (a : ℕ) (c : Class) (air : ℕ) → Kept w (rx_outcome w a c air).world
unfolding rx_outcome
keep_received w a c air = kept_same w _ (same_on_share w a c _)

pub keep_weighed : (w : World) (a weight : ℕ) → Kept w (weight_outcome w a weight).world
keep_weighed w a weight = kept_same w _ (same_weighed w a weight)

pub opened_in : (w : World) (i : IsLawful w) (e : ℕ) → IfSome (exchange w e) (IsOpenIn w)
opened_in w i e = each_find (IsOpenIn w) (IsOpenIn w) (λ x. x.number == e) w.opened (λ x _ f. f) i.opened

joins_by : (w : World) (a window start exponent weight s t : ℕ) (l : List ℕ) → Passed w s t l →
    Passed (join_outcome w a window start exponent weight).world s t
    (passed_by w s t (Asked (Join a window start exponent weight)) l
    (join_outcome w a window start exponent weight).reply)
unfolding join_outcome
joins_by w a window start exponent weight s t l h =
    passed_new w a Agreed window start exponent weight false s t l h

offloads_by : (w : World) (a exponent weight s t : ℕ) (l : List ℕ) → Passed w s t l →
    Passed (offload_outcome w a exponent weight).world s t
    (passed_by w s t (Asked (Offload a exponent weight)) l (offload_outcome w a exponent weight).reply)
unfolding offload_outcome
offloads_by w a exponent weight s t l h = passed_new w a Plain greatest_window 0 exponent weight true s t l h

joins_plain : (w : World) (a start exponent weight s t : ℕ) (l : List ℕ) → Passed w s t l →
    Passed (plain_outcome w a start exponent weight).world s t
    (passed_by w s t (Asked (call.Plain a start exponent weight)) l
    (plain_outcome w a start exponent weight).reply)
unfolding plain_outcome
joins_plain w a start exponent weight s t l h =
    passed_new w a Plain plain_window start exponent weight false s t l h

-- ---- an agreement begins or ends

-- A TID is renewed: its receiver gets the start, and releases the numbers below it.
passed_renewed : (u w : World) (i : IsLawful u) (a b size : ℕ) (mode : Mode) (l : List ℕ) →
    is_live w a ≡ true → receiver w a b ≡ receiver u a b → KeptSession (session u a b) (session w a b) →
    Passed u a b l → is_live u a ≡ true → is_offloaded w a ≡ is_offloaded u a →
    Passed (on_tid w a b (renewed (start_of (session w a b)) size mode)) a b
    (l ++ ids_of (session u a b) (released_between (receiver u a b)
    (with_start (start_of (session w a b)) (receiver u a b))))
passed_renewed u w i a b size mode l live equal kept h live_u off_same _ off =
    let start : ℕ = start_of (session w a b) in
    let y : Session = session u a b in
    let r : Receiver = receiver u a b in
    let q : Receiver = with_start start r in
    let f : Tid → Tid = renewed start size mode in
    let now : side (on_tid w a b f) a b ≡ record {
      session = record (with_heard_start true start (session w a b)) { size = size };
      receiver = record q { size = size };
      agreed = has_agreement mode;
    } = side_on w a b f live ∙ ap (λ (z : Receiver). record {
      session = record (with_heard_start true start (session w a b)) { size = size };
      receiver = record (with_start start z) { size = size };
      agreed = has_agreement mode;
    }) equal in
    let z : Session = record (with_heard_start true start (session w a b)) { size = size } in
    let grows : numbers_passed q ≡ numbers_passed r ++ released_between r q =
    grown_start y r start (i.agreed a b) in
    ap (λ (k : List ℕ). k ++ ids_of y (released_between r q))
    (h live_u (sym off_same ∙ sym (on_offloaded w a b f a) ∙ off))
    ∙ sym (ids_append y (numbers_passed r) (released_between r q))
    ∙ ap (ids_of y) (sym grows)
    ∙ sym (ids_kept (numbers_passed q) y z (record { first = kept.first; next = kept.next; ids = kept.ids })
    (λ n e. (i.agreed a b).arrived n (has_filter _ q.arrived n e)))
    ∙ sym (ap (λ (c : Side). ids_of c.session (numbers_passed c.receiver)) now)

ended_receiver : (w : World) (a b : ℕ) → is_live w a ≡ true →
    receiver (after_numbers_ended w a b) a b ≡ receiver w a b
ended_receiver w a b live = ap (λ (z : Side). z.receiver) (ended_side w a b live)

-- The receiver after an agreement ended has the start.
pub ceased_receiver : (w : World) (a b : ℕ) → is_live w a ≡ true →
    receiver (caught_up (after_numbers_ended w a b) a b) a b
    ≡ with_start (start_of (session (after_numbers_ended w a b) a b)) (receiver w a b)
ceased_receiver w a b live =
    let e : World = after_numbers_ended w a b in
    let start : ℕ = start_of (session e a b) in
    ap (λ (v : World). receiver v a b) (caught_up_is e a b)
    ∙ ap (λ (z : Side). z.receiver) (side_on e a b (told_start start)
    ((keep_numbers_ended w a b).live a ∙ live))
    ∙ ap (with_start start) (ended_receiver w a b live)

-- Returns the ids that the end of an agreement releases.
abbrev pub ceased_ids : World → ℕ → ℕ → List ℕ
ceased_ids w a b = ids_of (session w a b) (released_between (receiver w a b)
    (receiver (caught_up (after_numbers_ended w a b) a b) a b))

ceased_own : (w : World) (i : IsLawful w) (a b : ℕ) (l : List ℕ) → is_live w a ≡ true → Passed w a b l →
    Passed (cease_outcome w a b).world a b (l ++ ceased_ids w a b)
ceased_own w i a b l live h =
    let e : World = after_numbers_ended w a b in
    let start : ℕ = start_of (session e a b) in
    let k = keep_numbers_ended w a b in
    let live_e : is_live e a ≡ true = k.live a ∙ live in
    let same_r : receiver e a b ≡ receiver w a b = ended_receiver w a b live in
    let q : receiver (caught_up e a b) a b ≡ with_start start (receiver w a b) =
    ceased_receiver w a b live in
    subst (λ (v : World). Passed v a b (l ++ ceased_ids w a b)) (sym (ceased_is w a b))
    (subst (λ (z : Receiver). Passed (on_tid e a b (renewed start plain_window OnHold)) a b
    (l ++ ids_of (session w a b) (released_between (receiver w a b) z))) (sym q)
    (passed_renewed w e i a b plain_window OnHold l live_e same_r (k.sessions a b) h live (k.offloaded a)))

begun_own : (w : World) (i : IsLawful w) (a b window : ℕ) (l : List ℕ) → is_live w a ≡ true →
    is_agreed w a b ≡ false → is_offloaded w a ≡ false → Passed w a b l →
    Passed (begin_outcome w a b window).world a b l
begun_own w i a b window l live none not_off h =
    let start : ℕ = start_of (session w a b) in
    let r : Receiver = receiver w a b in
    let nothing : released_between r (with_start start r) ≡ [] = filter_none _ r.arrived (λ n e.
    ap (λ (c : Bool). c && nat_lt n (release_start (with_start start r)))
    (no_le (release_start r) n (lt_yes n (release_start r) (stores_below w a b i none not_off n e)))) in
    subst (λ (v : World). Passed v a b l) (sym (begun_is w a b window))
    (subst (Passed (on_tid w a b (renewed start window Agreed)) a b) (append-nil l)
    (subst (λ (ns : List ℕ). Passed (on_tid w a b (renewed start window Agreed)) a b
    (l ++ ids_of (session w a b) ns)) nothing
    (passed_renewed w w i a b window Agreed l live refl (kept_refl (session w a b)) h live refl)))

passed_ceased : (w : World) (i : IsLawful w) (a b s t : ℕ) (l : List ℕ) → is_live w a ≡ true →
    Passed w s t l → Passed (cease_outcome w a b).world s t
    (if (a == s) && (b == t) then l ++ ceased_ids w a b else l)
passed_ceased w i a b s t l live h =
    let v : World = (cease_outcome w a b).world in
    on_if (Passed v s t) ((a == s) && (b == t)) (l ++ ceased_ids w a b) l
    (λ own.
    let p = both (a == s) (b == t) own in
    subst (λ (j : ℕ). Passed v j t (l ++ ceased_ids w a b)) (eq_yes a s p.0)
    (subst (λ (j : ℕ). Passed v a j (l ++ ceased_ids w a b)) (eq_yes b t p.1)
    (ceased_own w i a b l live
    (subst (λ (j : ℕ). Passed w j b l) (sym (eq_yes a s p.0))
    (subst (λ (j : ℕ). Passed w s j l) (sym (eq_yes b t p.1)) h)))))
    (λ other. passed_at w v s t l (live_ceased w a b s) (off_ceased w a b s)
    (ceased_elsewhere w a b s t (λ es et. cc (
      other,
      and_true (a == s) (b == t) (yes_eq a s es) (yes_eq b t et),
    ))) h)

passed_begun : (w : World) (i : IsLawful w) (a b window s t : ℕ) (l : List ℕ) → is_live w a ≡ true →
    is_agreed w a b ≡ false → is_offloaded w a ≡ false → Passed w s t l →
    Passed (begin_outcome w a b window).world s t l
passed_begun w i a b window s t l live none not_off h =
    let v : World = (begin_outcome w a b window).world in
    on_bool ((a == s) && (b == t))
    (λ own.
    let p = both (a == s) (b == t) own in
    subst (λ (j : ℕ). Passed v j t l) (eq_yes a s p.0) (subst (λ (j : ℕ). Passed v a j l) (eq_yes b t p.1)
    (begun_own w i a b window l live none not_off
    (subst (λ (j : ℕ). Passed w j b l) (sym (eq_yes a s p.0))
    (subst (λ (j : ℕ). Passed w s j l) (sym (eq_yes b t p.1)) h)))))
    (λ other. passed_at w v s t l (live_begun w a b window s) (off_begun w a b window s)
    (begun_elsewhere w a b window s t (λ es et. cc (
      other,
      and_true (a == s) (b == t) (yes_eq a s es) (yes_eq b t et),
    ))) h)

ceases_by : (w : World) (i : IsLawful w) (a b s t : ℕ) (l : List ℕ) → is_live w a ≡ true → Passed w s t l →
    Passed (cease_outcome w a b).world s t
    (passed_by w s t (Asked (Cease a b)) l (cease_outcome w a b).reply)
unfolding cease_outcome
ceases_by w i a b s t l live h = passed_ceased w i a b s t l live h

passed_done : (note : Note) (w : World) (i : IsLawful w) → IsLawful (outcome_of w note).world → (s t : ℕ)
    (l : List ℕ) → NoRow (refusals w note) → Passed w s t l → Passed (outcome_of w note).world s t
    (passed_by w s t note l (outcome_of w note).reply)
unfolding outcome_of
passed_done (Enqueue a b flow len) w i j s t l e h =
    passed_quiet w (Enqueue a b flow len) (enqueue_outcome w a b flow len) s t l refl refl refl
    (passed_kept w _ s t l i j (keep_enqueued w a b flow len) h)
passed_done (Asked (Join a window start exponent weight)) w i j s t l e h =
    joins_by w a window start exponent weight s t l h
passed_done (Asked (Leave a)) w i j s t l e h =
    passed_quiet w (Asked (Leave a)) (leave_outcome w a) s t l refl refl refl (passed_gone w a s t l h)
passed_done (Asked (Rate a rate)) w i j s t l e h =
    passed_quiet w (Asked (Rate a rate)) (rate_outcome w a rate) s t l refl refl refl
    (passed_kept w _ s t l i j (keep_rate w a rate) h)
passed_done (Asked (Tick by)) w i j s t l e h =
    passed_quiet w (Asked (Tick by)) (tick_outcome w by) s t l refl refl refl
    (passed_kept w _ s t l i j (keep_tick w by) h)
passed_done (Asked (Pull c limits)) w i j s t l e h = passed_quiet w (Asked (Pull c limits))
    (pull_outcome w c limits) s t l refl refl refl (passed_kept w _ s t l i j (keep_pulled w c limits) h)
passed_done (Asked (Arrive x n)) w i j s t l r h =
    passed_arrive (exchange w x) w i x n s t l refl (opened_in w i x)
    (if_on (exchange w x) (λ y. nat_le (transmissions y.content) n) r.1.0) h
passed_done (Asked (Answer x)) w i j s t l e h =
    passed_quiet w (Asked (Answer x)) (outcome_where_open w (exchange w x) (λ y. answer_outcome w y)) s t l
    refl refl refl (passed_kept w _ s t l i j (keep_open (exchange w x) w _ (keep_answered w)) h)
passed_done (Asked (Done x heard air)) w i j s t l e h =
    passed_quiet w (Asked (Done x heard air))
    (outcome_where_open w (exchange w x) (λ y. done_outcome w y heard air))
    s t l refl refl refl (passed_kept w _ s t l i j (keep_open (exchange w x) w _
    (λ y. keep_ended air w y heard)) h)
passed_done (Asked (Sleep a)) w i j s t l e h =
    passed_quiet w (Asked (Sleep a)) (sleep_outcome w a) s t l refl refl refl
    (passed_kept w _ s t l i j (keep_slept w a) h)
passed_done (Asked (Ampdu a octets)) w i j s t l e h =
    passed_quiet w (Asked (Ampdu a octets)) (ampdu_outcome w a octets) s t l refl refl refl
    (passed_kept w _ s t l i j (keep_stated w a octets) h)
passed_done (Asked (Stop a)) w i j s t l e h =
    passed_quiet w (Asked (Stop a)) (stop_outcome w a) s t l refl refl refl
    (passed_kept w _ s t l i j (keep_stopped w a) h)
passed_done (Asked (Start a)) w i j s t l e h =
    passed_quiet w (Asked (Start a)) (start_outcome w a) s t l refl refl refl
    (passed_kept w _ s t l i j (keep_started w a) h)
passed_done (Asked (Wake a)) w i j s t l e h = passed_quiet w (Asked (Wake a))
    (wake_outcome w a) s t l refl refl refl (passed_kept w _ s t l i j (keep_woken w a) h)
passed_done (Asked (Poll a)) w i j s t l e h = passed_quiet w (Asked (Poll a))
    (poll_outcome w a) s t l refl refl refl (passed_kept w _ s t l i j (keep_credited w a) h)
passed_done (Asked (Rx a c air)) w i j s t l e h =
    passed_quiet w (Asked (Rx a c air)) (rx_outcome w a c air) s t l refl refl refl
    (passed_kept w _ s t l i j (keep_received w a c air) h)
passed_done (Asked (Unsent x n)) w i j s t l e h =
    passed_quiet w (Asked (Unsent x n))
    (outcome_where_open w (exchange w x) (λ y. unsent_outcome w y n)) s t l
    refl refl refl (passed_kept w _ s t l i j (keep_open (exchange w x) w _ (λ y. keep_unsent w y n)) h)
passed_done (Asked (GiveUp x n)) w i j s t l e h =
    passed_quiet w (Asked (GiveUp x n))
    (outcome_where_open w (exchange w x) (λ y. give_up_outcome w y n)) s t l
    refl refl refl (passed_kept w _ s t l i j (keep_open (exchange w x) w _ (λ y. keep_given_up w y n)) h)
passed_done (Asked (Flush a b)) w i j s t l e h =
    passed_quiet w (Asked (Flush a b)) (flush_outcome w a b) s t l refl refl refl
    (passed_kept w _ s t l i j (keep_flushed w a b) h)
passed_done (Asked (Offload a exponent weight)) w i j s t l e h = offloads_by w a exponent weight s t l h
passed_done (Asked (Weight a weight)) w i j s t l e h =
    passed_quiet w (Asked (Weight a weight)) (weight_outcome w a weight) s t l refl refl refl
    (passed_kept w _ s t l i j (keep_weighed w a weight) h)
passed_done (Asked Reap) w i j s t l e h = passed_quiet w (Asked Reap)
    (reap_outcome w w.finished) s t l refl refl refl (passed_kept w _ s t l i j (keep_reaped w.finished w) h)
passed_done (Asked (call.Plain a start exponent weight)) w i j s t l e h =
    joins_plain w a start exponent weight s t l h
passed_done (Asked (Hold a b)) w i j s t l e h =
    passed_quiet w (Asked (Hold a b)) (hold_outcome w a b) s t l refl refl refl
    (passed_kept w _ s t l i j (kept_same w _ (same_held w a b e.1.1.1.0 e.1.1.1.1.0)) h)
passed_done (Asked (Begin a b window)) w i j s t l e h =
    let held : is_held_back w a b ≡ true = not_no (is_held_back w a b) e.1.1.1.1.0 in
    passed_quiet w (Asked (Begin a b window)) (begin_outcome w a b window) s t l refl refl refl
    (passed_begun w i a b window s t l (not_no (is_live w a) e.1.1.1.0)
    (held_not_agreed (tid_of w a b).mode held) (not_device w a b i held) h)
passed_done (Asked (Free a b)) w i j s t l e h =
    passed_quiet w (Asked (Free a b)) (free_outcome w a b) s t l refl refl refl
    (passed_kept w _ s t l i j (kept_same w _ (same_freed w a b (not_no (is_held_back w a b) e.1.1.1.0))) h)
passed_done (Asked (Cease a b)) w i j s t l e h =
    ceases_by w i a b s t l (not_no (is_live w a) e.1.1.0) h
passed_done (Asked (Group ask)) w i j s t l e h =
    passed_quiet w (Asked (Group ask)) (group_outcome w ask) s t l refl refl refl
    (passed_kept w _ s t l i j (keep_group w ask) h)
passed_done (Asked (Service ask)) w i j s t l e h =
    passed_quiet w (Asked (Service ask)) (service_outcome w ask) s t l refl refl refl
    (passed_kept w _ s t l i j (keep_served w ask) h)
passed_done (Asked (Bss a b)) w i j s t l e h =
    passed_quiet w (Asked (Bss a b)) (bss_outcome w a b) s t l refl refl refl
    (passed_kept w _ s t l i j (keep_moved w a b) h)

-- ---- the run

pub refused_kept : (note : Note) (r : Refusal) (w : World) → Kept w (after_refusal w note r)
unfolding after_refusal
refused_kept (Asked (Pull c l)) Idle w = after_idle (Kept w) w c (kept_same w w (same w))
    (kept_same w _ (same_after_pick w c))
refused_kept _ _ w = kept_same w w (same w)

passed_answer : (r : Option Refusal) (w : World) (i : IsLawful w) (note : Note) (s t : ℕ) (l : List ℕ) →
    refusal w note ≡ r → Passed w s t l → Passed (judged_outcome w note r).world s t
    (passed_by w s t note l (judged_outcome w note r).reply)
unfolding judged_outcome
passed_answer (Some r) w i note s t l e h = passed_kept w (after_refusal w note r) s t l i
    (lawful_refused note r w i) (refused_kept note r w) h
passed_answer None w i note s t l e h =
    let k : Same (outcome_of w note).world (with_listings_of (outcome_of w note).world
    (concerned_station w note)) = same_listed (concerned_station w note) (outcome_of w note).world in
    passed_at (outcome_of w note).world (with_listings_of (outcome_of w note).world
    (concerned_station w note)) s t _ (k.live s) (k.offloaded s) (k.sides s t)
    (passed_done note w i (lawful_done note w (no_row (refusals w note) e) i) s t l
    (no_row (refusals w note) e) h)

passed_step : (w : World) (i : IsLawful w) (note : Note) (s t : ℕ) (l : List ℕ) → Passed w s t l →
    Passed (step w note).world s t (passed_by w s t note l (step w note).reply)
unfolding step
passed_step w i note s t l h = passed_answer (refusal w note) w i note s t l refl h

passed_run : (h : List Entry) (w : World) (i : IsLawful w) (s t : ℕ) (l : List ℕ) → Passed w s t l →
    Passed (world_after w h) s t (passed_from w l h s t)
unfolding world_after passed_from
passed_run [] w i s t l p = p
passed_run (e ∷ es) w i s t l p = passed_run es (step w e.1).world (lawful_step w e.1 i) s t _
    (passed_step w i e.1 s t l p)

pub passed_all : (config : Config) (h : List Entry) (s t : ℕ) →
    is_live (world_after (opening config) h) s ≡ true →
    is_offloaded (world_after (opening config) h) s ≡ false →
    passed config h s t ≡ ids_of (session (world_after (opening config) h) s t)
    (numbers_passed (receiver (world_after (opening config) h) s t))
passed_all config h s t live off = passed_run h (opening config) (lawful_at_first config) s t []
    (λ dead _. absurd (cc dead)) live off

pub rising_passed : (config : Config) (h : List Entry) (s t : ℕ) →
    IsRising 0 (numbers_passed (receiver (world_after (opening config) h) s t))
rising_passed config h s t = rising_filter _ (receiver (world_after (opening config) h) s t).arrived 0
    ((lawful config h).agreed s t).rising
