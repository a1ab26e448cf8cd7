-- Proves that each query of a half returns the same as the query of its world, by the part that it reads.
use Rattle.std.proofs.Common.{◌≡◌, refl, ap, ap₂, sym, ◌∙◌, arith, ℕ, ◌+◌, ◌==◌, ◌<◌, nat_lt, nat_le, ℤ, pos, ◌+ℤ◌, ◌-ℤ◌, Bool, true, false, not, ◌&&◌, ◌||◌, if◌then◌else◌, cond, List, [], ◌∷◌, map, Option, Some, None, is_some, option_map, inl, inr, zero, suc, unwrap_or}
use Rattle.std.specs.Prelude.{count_by, find, int_le}
use Rattle.std.specs.List.{list_any}
use Rattle.std.proofs.lemmas.Bool.{cases_Bool}
use Rattle.std.proofs.lemmas.Int.{ints}
use Rattle.std.proofs.lemmas.List.Sums.{sum_by-cons}
use Rattle.wf_frame.specs.declared.classes.Class.{Class}
use Rattle.wf_frame.specs.declared.classes.Class.TheVariants.{Bk, Be, Vi, Vo}
use Rattle.wf_frame.specs.Classes.{lower_tid, upper_tid, class_of, same_class, tid_number}
use Rattle.wf_frame.specs.Frames.{FrameValue}
use Rattle.wf_def_agreement.specs.Session.{request_due, has_room}
use Rattle.wf_def_lists.specs.Table.{at, upto, count_from}
use Rattle.wf_def_world.specs.World.{World, Station, Exchange, Content, Frames, Request, no_station, has_agreement, holds_back, is_live, is_offloaded, is_agreed, is_plain, is_held_back, session, share, exchange, owed, owed_by_all, pending_air, standing}
use Rattle.wf_def_world.specs.FlowQueues.{frames_queued as world_queued}
use Rattle.wf_def_world.specs.CanSend.{is_request as world_request, request_open, has_waiting, can_give, can_send, can_send_in, is_below_aql, may_receive, is_ready, is_debtor, is_to_list}
use Rattle.wf_def_world.specs.Refusals.{is_live_credit, has_live_credit, is_at_aql_total, open_of_station, open_of_tid, open_of_class, numbers_waiting, can_send_any, queued_in_class}
use Rattle.wf_def_world.specs.Step.{first_to_send}
use Rattle.wf_queue_flows.specs.Flows.{frames_of_tid}
use Rattle.wf_queue_flows_refines.proofs.Readers.{same_queued}
use Rattle.wf_sched.specs.ClassRotas.{deficit}
use Rattle.wf_send_parts.specs.Window.{WindowValue, WindowStandsFor as WindowStandsFor, can_take, waits}
use Rattle.wf_send_parts.proofs.Calls.{due_is, can_take_is}
use Rattle.wf_send_parts.proofs.Counting.{all_waits, some_waits}
use Rattle.wf_send_parts.specs.Windows.{window_of}
use Rattle.wf_send_parts.specs.declared.exchanges.opened.Open.{Open}
use Rattle.wf_send_parts.specs.Exchanges.{sending_is_request, asks, airtime_of, airtime_to}
use Rattle.wf_send_parts.specs.declared.stations.members.Member.{Member}
use Rattle.wf_send_parts.specs.Members.{member, is_offloaded_in}
use Rattle.wf_send_parts.specs.declared.stations.sleepers.Sleeper.{Sleeper}
use Rattle.wf_send_parts.specs.Sleepers.{sleeper, is_reachable_in}
use Rattle.wf_send_half_model.specs.Half.{TransmitValue, some_wait, is_agreed_of, is_plain_of, is_held_back_of, can_give_of, can_send_of, is_below_aql_of, may_receive_of, is_ready_of, pending_air_of, is_live_credit_of, has_live_credit_of, is_debtor_of, is_to_list_of, is_ahead_of}
use Rattle.wf_send_half_model.specs.Standing.{sending_of, open_of, IsMember, AreBoth, Parts}

-- ---- open exchanges

request_same : (c : Content) → sending_is_request (sending_of c) ≡ world_request c
request_same (Frames mpdus) = refl
request_same (Request start) = refl

asks_among : (xs : List Exchange) (s t : ℕ) →
    asks (map open_of xs) s t ≡ list_any (λ x. (x.station == s) && ((x.tid == t) && world_request x.content))
    xs
asks_among [] s t = refl
asks_among (x ∷ xs) s t = ap₂ (λ (a b : Bool). ((x.station == s) && ((x.tid == t) && a)) || b)
    (request_same x.content) (asks_among xs s t)

pub asks_same : (v : TransmitValue) (w : World) (bodies : ℕ → FrameValue) (s t : ℕ) → Parts v w bodies →
    asks v.opened s t ≡ request_open w s t
asks_same v w bodies s t h = ap (λ (xs : List Open). asks xs s t) h.others.opened ∙ asks_among w.opened s t

-- a test that gives the same for an exchange on both sides
module _ (p : Open → Bool) (q : Exchange → Bool) (same : (x : Exchange) → p (open_of x) ≡ q x) where
  count_among : (xs : List Exchange) → count_by p (map open_of xs) ≡ count_by q xs
  count_among [] = refl
  count_among (x ∷ xs) =
      sum_by-cons (λ y. cond (p y) 1 0) (open_of x) (map open_of xs)
      ∙ ap₂ (λ (b : Bool) (n : ℕ). cond b 1 0 + n) (same x) (count_among xs)
      ∙ sym (sum_by-cons (λ y. cond (q y) 1 0) x xs)

  find_among : (xs : List Exchange) → find p (map open_of xs) ≡ option_map open_of (find q xs)
  find_among [] = refl
  find_among (x ∷ xs) = ap₂ (λ (b : Bool) (o : Option Open). if b then Some (open_of x) else o) (same x)
      (find_among xs) ∙ either (q x)
    where
      either : (b : Bool) → (if b then Some (open_of x) else option_map open_of (find q xs))
          ≡ option_map open_of (if b then Some x else find q xs)
      either true = refl
      either false = refl

pub station_count_same : (v : TransmitValue) (w : World) (bodies : ℕ → FrameValue) (s : ℕ) →
    Parts v w bodies → count_by (λ x. x.station == s) v.opened ≡ open_of_station w s
station_count_same v w bodies s h = ap (λ (xs : List Open). count_by (λ (x : Open). x.station == s) xs)
    h.others.opened ∙ count_among (λ (x : Open). x.station == s) (λ (x : Exchange). x.station == s)
    (λ x. refl) w.opened

pub tid_count_same : (v : TransmitValue) (w : World) (bodies : ℕ → FrameValue) (s t : ℕ) →
    Parts v w bodies → count_by (λ x. (x.station == s) && (x.tid == t)) v.opened ≡ open_of_tid w s t
tid_count_same v w bodies s t h =
    ap (λ (xs : List Open). count_by (λ (x : Open). (x.station == s) && (x.tid == t)) xs) h.others.opened
    ∙ count_among (λ (x : Open). (x.station == s) && (x.tid == t))
    (λ (x : Exchange). (x.station == s) && (x.tid == t)) (λ x. refl) w.opened

pub class_count_same : (v : TransmitValue) (w : World) (bodies : ℕ → FrameValue) (c : Class) →
    Parts v w bodies → count_by (λ x. same_class x.class c) v.opened ≡ open_of_class w c
class_count_same v w bodies c h = ap (λ (xs : List Open). count_by (λ (x : Open). same_class x.class c) xs)
    h.others.opened ∙ count_among (λ (x : Open). same_class x.class c)
    (λ (x : Exchange). same_class x.class c) (λ x. refl) w.opened

pub exchange_same : (v : TransmitValue) (w : World) (bodies : ℕ → FrameValue) (e : ℕ) → Parts v w bodies →
    find (λ x. x.number == e) v.opened ≡ option_map open_of (exchange w e)
exchange_same v w bodies e h = ap (λ (xs : List Open). find (λ (x : Open). x.number == e) xs) h.others.opened
    ∙ find_among (λ (x : Open). x.number == e) (λ (x : Exchange). x.number == e) (λ x. refl) w.opened

airtime_among : (xs : List Exchange) → airtime_of (map open_of xs) ≡ owed_by_all xs
airtime_among [] = refl
airtime_among (x ∷ xs) = ap (λ (n : ℕ). x.charge + n) (airtime_among xs)

pub airtime_same : (v : TransmitValue) (w : World) (bodies : ℕ → FrameValue) → Parts v w bodies →
    airtime_of v.opened ≡ owed_by_all w.opened
airtime_same v w bodies h = ap airtime_of h.others.opened ∙ airtime_among w.opened

pub ahead_same : (v : TransmitValue) (w : World) (bodies : ℕ → FrameValue) → Parts v w bodies →
    is_ahead_of v ≡ is_at_aql_total w
ahead_same v w bodies h = ap₂ (λ (limit n : ℕ). nat_lt 0 limit && nat_le limit n)
    (ap (λ x. x.aql_total) h.others.config) (airtime_same v w bodies h)

airtime_to_among : (xs : List Exchange) (s : ℕ) (c : Class) → airtime_to (map open_of xs) s c ≡ owed s c xs
airtime_to_among [] s c = refl
airtime_to_among (x ∷ xs) s c =
    ap (λ (n : ℕ). (if (x.station == s) && same_class x.class c then x.charge else 0) + n)
    (airtime_to_among xs s c)

pub airtime_to_same : (v : TransmitValue) (w : World) (bodies : ℕ → FrameValue) (s : ℕ) (c : Class) →
    Parts v w bodies → airtime_to v.opened s c ≡ owed s c w.opened
airtime_to_same v w bodies s c h = ap (λ (xs : List Open). airtime_to xs s c) h.others.opened
    ∙ airtime_to_among w.opened s c

pub below_aql_same : (v : TransmitValue) (w : World) (bodies : ℕ → FrameValue) (s : ℕ) (c : Class) →
    Parts v w bodies → is_below_aql_of v s c ≡ is_below_aql w s c
below_aql_same v w bodies s c h = ap₂ (λ (limit n : ℕ). (limit == 0) || nat_lt n limit)
    (ap (λ x. x.aql) h.others.config) (airtime_to_same v w bodies s c h)

-- ---- stations

both_some : (m : Option Member) (o : Option Station) → AreBoth IsMember m o → is_some m ≡ is_some o
both_some None None h = refl
both_some None (Some x) h = absurd h
both_some (Some m) None h = absurd h
both_some (Some m) (Some x) h = refl

pub live_same : (v : TransmitValue) (w : World) (bodies : ℕ → FrameValue) (s : ℕ) → Parts v w bodies →
    is_some (member v.members s) ≡ is_live w s
live_same v w bodies s h = both_some (member v.members s) (at None w.stations s) (h.others.stations.live s)

member_same : (m : Option Member) (o : Option Station) → AreBoth IsMember m o →
    unwrap_or (option_map (λ x. x.offloaded) m) false ≡ (unwrap_or o no_station).offloaded
member_same None None h = refl
member_same None (Some x) h = absurd h
member_same (Some m) None h = absurd h
member_same (Some m) (Some x) h = h.offloaded

pub offloaded_same : (v : TransmitValue) (w : World) (bodies : ℕ → FrameValue) (s : ℕ) → Parts v w bodies →
    is_offloaded_in v.members s ≡ is_offloaded w s
offloaded_same v w bodies s h =
    member_same (member v.members s) (at None w.stations s) (h.others.stations.live s)

-- ---- who can send

module _ (v : TransmitValue) (w : World) (bodies : ℕ → FrameValue) (s t : ℕ) (h : Parts v w bodies)
    (live : is_live w s ≡ true) (low : t < 8) where
  abbrev window : WindowValue
  window = window_of v.windows s t

  stands : WindowStandsFor window (session w s t) bodies
  stands = h.windows.all.stands s t live low

  below : s < v.flows.stations
  below = omega (arith, h.others.turns.live s live, ap (λ x. x.stations) h.others.flows.settings)

  pub queued_same : frames_of_tid v.flows (tid_number s t) ≡ world_queued w s t
  queued_same = same_queued v.flows w s t h.others.flows below low

  pub due_same : is_some window.due ≡ request_due (session w s t)
  due_same = due_is window (session w s t) bodies stands

  pub agreed_same : is_agreed_of v s t ≡ is_agreed w s t
  agreed_same = ap has_agreement (h.others.modes.each s t live low)

  pub held_back_same : is_held_back_of v s t ≡ is_held_back w s t
  held_back_same = ap holds_back (h.others.modes.each s t live low)

  pub plain_same : is_plain_of v s t ≡ is_plain w s t
  plain_same = ap₂ (λ (a b : Bool). not (a || b)) (offloaded_same v w bodies s h) agreed_same

  pub waiting_count_same : count_by waits window.places ≡ numbers_waiting w s t
  waiting_count_same = all_waits window (session w s t) bodies stands

  pub waiting_same : some_wait window ≡ has_waiting w s t
  waiting_same = some_waits window (session w s t) bodies stands

  -- if no request is due, the window has room exactly if the session has
  room_same : request_due (session w s t) ≡ false → can_take window ≡ has_room (session w s t)
  room_same off = can_take_is window (session w s t) bodies stands
      ∙ ap (λ (b : Bool). not b && has_room (session w s t)) off

  -- if no request is due, a queued frame may get a number exactly if it may in the world
  pub can_give_same : request_due (session w s t) ≡ false → can_give_of v s t ≡ can_give w s t
  can_give_same off = ap₂ (λ (n : ℕ) (b : Bool). nat_lt 0 n && b) queued_same
      (ap₂ (λ (a b : Bool). a && not b) (room_same off) held_back_same)

  pub can_send_same : can_send_of v s t ≡ can_send w s t
  can_send_same = elim (cases_Bool (request_due (session w s t))) [
    | inl on ↦
        ap (λ (b : Bool). if b then not (asks v.opened s t) else some_wait window || can_give_of v s t)
        (due_same ∙ on)
        ∙ ap not (asks_same v w bodies s t h)
        ∙ ap (λ (b : Bool). if b then not (request_open w s t) else has_waiting w s t || can_give w s t)
        (sym on)
    | inr off ↦
        ap (λ (b : Bool). if b then not (asks v.opened s t) else some_wait window || can_give_of v s t)
        (due_same ∙ off)
        ∙ ap₂ (λ (a b : Bool). a || b) waiting_same (can_give_same off)
        ∙ ap (λ (b : Bool). if b then not (request_open w s t) else has_waiting w s t || can_give w s t)
        (sym off)
  ]

pub lower_low : (c : Class) → lower_tid c < 8
lower_low Bk = omega arith
lower_low Be = omega arith
lower_low Vi = omega arith
lower_low Vo = omega arith

pub upper_low : (c : Class) → upper_tid c < 8
upper_low Bk = omega arith
upper_low Be = omega arith
upper_low Vi = omega arith
upper_low Vo = omega arith

pub can_send_in_same : (v : TransmitValue) (w : World) (bodies : ℕ → FrameValue) (s : ℕ) (c : Class) →
    Parts v w bodies → is_live w s ≡ true → (can_send_of v s (lower_tid c) || can_send_of v s (upper_tid c))
    ≡ can_send_in w s c
can_send_in_same v w bodies s c h live = ap₂ (λ (a b : Bool). a || b)
    (can_send_same v w bodies s (lower_tid c) h live (lower_low c))
    (can_send_same v w bodies s (upper_tid c) h live (upper_low c))

pub ready_same : (v : TransmitValue) (w : World) (bodies : ℕ → FrameValue) (c : Class) (s : ℕ) →
    Parts v w bodies → is_ready_of v c s ≡ is_ready w c s
ready_same v w bodies c s h = elim (cases_Bool (is_live w s)) [
  | inl live ↦
      ap₂ (λ (a b : Bool). a && b) (live_same v w bodies s h)
      (ap₂ (λ (a b : Bool). a && b) (can_send_in_same v w bodies s c h live)
      (ap₂ (λ (y : Sleeper) (b : Bool). not y.stopped && (is_reachable_in y c && b))
      (h.others.stations.rests s live) (below_aql_same v w bodies s c h)))
  | inr off ↦
      ap (λ (b : Bool). b && ((can_send_of v s (lower_tid c) || can_send_of v s (upper_tid c))
      && may_receive_of v s c))
      (live_same v w bodies s h ∙ off)
      ∙ ap (λ (b : Bool). b && (can_send_in w s c && may_receive w s c)) (sym off)
]

-- ---- who belongs on a list

pub pending_same : (v : TransmitValue) (w : World) (bodies : ℕ → FrameValue) (s : ℕ) (c : Class) →
    Parts v w bodies → pending_air_of v s c ≡ pending_air w s c
pending_same v w bodies s c h = ap₂ (λ (n m : ℕ). if n == 1 then m else 0)
    (ap (λ x. x.pending) h.others.config) (airtime_to_same v w bodies s c h)

-- the scheduler keeps the standing, so the deficit is its value and the pending airtime
pub deficit_same : (v : TransmitValue) (w : World) (bodies : ℕ → FrameValue) (s : ℕ) (c : Class) →
    Parts v w bodies → is_live w s ≡ true →
    deficit v.sched c s +ℤ pos (pending_air_of v s c) ≡ (share w s c).deficit
deficit_same v w bodies s c h live =
    ap₂ (λ (d : ℤ) (n : ℕ). d +ℤ pos n) (h.others.turns.deficits s c live) (pending_same v w bodies s c h)
    ∙ back (share w s c).deficit (pending_air w s c)
  where
    back : (d : ℤ) (n : ℕ) → (d -ℤ pos n) +ℤ pos n ≡ d
    back d n = omega (arith, ints)

pub debtor_same : (v : TransmitValue) (w : World) (bodies : ℕ → FrameValue) (c : Class) (s : ℕ) →
    Parts v w bodies → is_debtor_of v c s ≡ is_debtor w c s
debtor_same v w bodies c s h = elim (cases_Bool (is_live w s)) [
  | inl live ↦
      ap₂ (λ (n : ℕ) (b : Bool). (n == 1) && b) (ap (λ x. x.pending) h.others.config)
      (ap₂ (λ (a : Bool) (d : ℤ). a && int_le d (pos 0)) (live_same v w bodies s h)
      (h.others.turns.deficits s c live))
  | inr off ↦
      ap₂ (λ (n : ℕ) (b : Bool). (n == 1) && (b && int_le (deficit v.sched c s) (pos 0)))
      (ap (λ x. x.pending) h.others.config) (live_same v w bodies s h ∙ off)
      ∙ ap (λ (b : Bool). (w.config.pending == 1) && (b && int_le (standing w s c) (pos 0))) (sym off)
]

pub to_list_same : (v : TransmitValue) (w : World) (bodies : ℕ → FrameValue) (c : Class) (s : ℕ) →
    Parts v w bodies → is_to_list_of v c s ≡ is_to_list w c s
to_list_same v w bodies c s h = ap₂ (λ (a b : Bool). a || b) (ready_same v w bodies c s h)
    (debtor_same v w bodies c s h)

-- ---- the tests of refusals, and the class of a poll or a trigger

-- two tests that agree on every class find the same one
find_same : (p q : Class → Bool) → ((c : Class) → p c ≡ q c) → (cs : List Class) → find p cs ≡ find q cs
find_same p q same [] = refl
find_same p q same (c ∷ cs) = ap₂ (λ (b : Bool) (o : Option Class). if b then Some c else o) (same c)
    (find_same p q same cs)

pub class_same : (v : TransmitValue) (w : World) (bodies : ℕ → FrameValue) (s : ℕ) → Parts v w bodies →
    is_live w s ≡ true → (p : Class → Bool) →
    unwrap_or (find (λ c. p c && (can_send_of v s (lower_tid c) || can_send_of v s (upper_tid c)))
    (Vo ∷ Vi ∷ Be ∷ [])) Bk ≡ first_to_send w s p
class_same v w bodies s h live p = ap (λ (o : Option Class). unwrap_or o Bk)
    (find_same _ (λ c. p c && can_send_in w s c)
    (λ c. ap (λ (b : Bool). p c && b) (can_send_in_same v w bodies s c h live)) (Vo ∷ Vi ∷ Be ∷ []))

-- a credit blocks a poll on both sides, or on neither
pub live_credit_same : (v : TransmitValue) (w : World) (bodies : ℕ → FrameValue) (s : ℕ) → Parts v w bodies →
    is_live w s ≡ true → has_live_credit_of v s ≡ has_live_credit w s
live_credit_same v w bodies s h live =
    blocks (sleeper v.sleepers s).credit
    ∙ ap (λ (y : Sleeper). is_live_credit w s y.credit) (h.others.stations.rests s live)
  where
    blocks : (o : Option Class) → is_live_credit_of v s o ≡ is_live_credit w s o
    blocks None = refl
    blocks (Some c) = ap₂ (λ (n : ℕ) (b : Bool). (n == 0) || b) (ap (λ x. x.credits) h.others.config)
        (can_send_in_same v w bodies s c h live)

-- if two tests agree on each of these TIDs, both or neither find one that passes
any_same : (p q : ℕ → Bool) (n from : ℕ) → ((t : ℕ) → t < from + n → p t ≡ q t) →
    list_any p (count_from from n) ≡ list_any q (count_from from n)
any_same p q zero from same = refl
any_same p q (suc n) from same = ap₂ (λ (a b : Bool). a || b) (same from (omega arith))
    (any_same p q n (suc from) (λ t low. same t (omega (arith, low))))

pub any_tid_same : (v : TransmitValue) (w : World) (bodies : ℕ → FrameValue) (s : ℕ) → Parts v w bodies →
    is_live w s ≡ true → (p : Class → Bool) →
    list_any (λ t. p (class_of t) && can_send_of v s t) (upto 8) ≡ can_send_any w s p
any_tid_same v w bodies s h live p =
    any_same (λ t. p (class_of t) && can_send_of v s t) (λ t. p (class_of t) && can_send w s t) 8 0
    (λ t low. ap (λ (b : Bool). p (class_of t) && b)
    (can_send_same v w bodies s t h live (omega (arith, low))))

pub class_queued_same : (v : TransmitValue) (w : World) (bodies : ℕ → FrameValue) (s : ℕ) (c : Class) →
    Parts v w bodies → is_live w s ≡ true →
    frames_of_tid v.flows (tid_number s (lower_tid c)) + frames_of_tid v.flows (tid_number s (upper_tid c))
    ≡ queued_in_class w s c
class_queued_same v w bodies s c h live = ap₂ (λ (m n : ℕ). m + n)
    (queued_same v w bodies s (lower_tid c) h live (lower_low c))
    (queued_same v w bodies s (upper_tid c) h live (upper_low c))
