-- Proves that fresh frames get numbers, one after the other, while they fit, as in the world's loop. One
-- round takes a frame, gives it the next number, and either adds it to the aggregate or ends the aggregate.
use Rattle.std.proofs.Common.{◌≡◌, refl, ap, ap₂, sym, ◌∙◌, subst, arith, ℕ, zero, suc, ◌+◌, ◌-◌, ◌<◌, ◌≤◌, Bool, true, false, not, if◌then◌else◌, List, [], ◌∷◌, ◌++◌, map, length, length-append, Option, Some, None, option_map, unwrap_or}
use Rattle.std.specs.Prelude.{nat_lt, is_some, IfSome}
use Rattle.std.proofs.lemmas.List.{map-append, length-map}
use Rattle.wf_frame.specs.declared.classes.Class.{Class}
use Rattle.wf_frame.specs.Frames.{FrameValue}
use Rattle.wf_def_air.specs.Airtime.{Rate}
use Rattle.wf_def_lists.specs.Bounds.{narrow_window}
use Rattle.wf_def_codel.specs.Codel.{Item, Params}
use Rattle.wf_def_air.specs.Fit.{most_octets, fits}
use Rattle.wf_def_lists.specs.Lists.{IsRising}
use Rattle.wf_def_agreement.specs.Session.{Session, Slot, State, no_slot, slot, next_number, request_due, with_number_given}
use Rattle.wf_def_lists.specs.Table.{at}
use Rattle.wf_def_world.specs.World.{World, Bounds, Station, Mpdu, no_station, is_live, station, session, codel_params, with_station, on_station, on_tid, on_session}
use Rattle.wf_def_world.specs.FlowQueues.{taken_for_tid}
use Rattle.wf_def_world.specs.CanSend.{can_give}
use Rattle.wf_def_world.specs.Exchanges.{Aggregate, after_tid_turn, frames_allowed, most_frames, lens_of, fits_in, fresh_mpdus, with_number, with_fresh}
use Rattle.wf_law_runs.specs.Windows.{EachMpdu}
use Rattle.wf_law_runs.proofs.Frames.Fates.{Fresh, safe_calm, safe_numbered}
use Rattle.wf_law_runs.proofs.Frames.Fewer.{less_picked, less_after_turn}
use Rattle.wf_law_runs.proofs.Frames.Places.{standing}
use Rattle.wf_law_runs.proofs.Frames.Untouched.{untouched_picked, untouched_after_turn}
use Rattle.wf_law_runs.proofs.Releases.Placed.{Any, Placing}
use Rattle.wf_law_runs.proofs.Windows.Agreement.{slot_give, not_due_give}
use Rattle.wf_law_runs.proofs.Windows.Agreed.{session_same}
use Rattle.wf_law_runs.proofs.Windows.Sides.{same_picked, same_after_turn, same_take}
use Rattle.wf_air.specs.Sizes.{AggregateSizeValue, SizeStandsFor as SizeStandsFor, empty_size}
use Rattle.wf_frame.specs.declared.notes.Limits.{Limits}
use Rattle.wf_queue_flows_refines.specs.Rest.{Rest}
use Rattle.wf_queue_flows.specs.Backlog.{item_of}
use Rattle.wf_frame.specs.Classes.{tid_number}
use Rattle.wf_queue_flows.specs.Flows.{taken_for_tid as take_out}
use Rattle.wf_queue_flows_refines.proofs.Bodies.{frame_given}
use Rattle.wf_queue_flows_refines.proofs.Elsewhere.{rest_take}
use Rattle.wf_queue_flows_refines.proofs.Takes.{item_take}
use Rattle.wf_send_parts.specs.Window.{WindowValue, WindowStandsFor as WindowStandsFor, on_air}
use Rattle.wf_send_parts.specs.Windows.{WindowsHaveRoom, with_window}
use Rattle.wf_send_half_model.specs.Half.{TransmitValue, can_give_of}
use Rattle.wf_send_parts.specs.declared.stations.sleepers.Sleeper.{Sleeper}
use Rattle.wf_send_half_model.specs.Standing.{sleeper_of, Parts, IsReached}
use Rattle.wf_send_half_model.specs.Pulling.{frames_allowed_of}
use Rattle.wf_send_half_model.specs.Filling.{after_pick_within, IsWaitingWith, AreWaiting, after_take, with_one_fresh, with_so_many_fresh, IsUnderway, room_for, HasRoomFor, IsFilling, IsFilled, after_giving, fresh_mpdu}
use Rattle.wf_send_half_model.specs.Views.{StationView, view_of, Roster, roster}
use Rattle.wf_send_half_model.proofs.Views.{roster_rest, roster_session}
use Rattle.wf_send_half_model.proofs.Moves.{session_parts, session_is}
use Rattle.wf_send_half_model.proofs.Readers.{can_give_same}
use Rattle.wf_send_half_model.proofs.Takes.{take_parts}

-- ---- the places of the frames

pub record Placed (w : World) : Type 0 where
  pub named : List ℕ
  pub placing : Placing named w
  pub fresh : Fresh w

placed_reached : (w : World) → IsReached w → Placed w
placed_reached w r =
    let k = standing w.config r.history r.in_range in
    subst Placed (sym r.after) (record { named = _; placing = k.steady.placing; fresh = k.steady.fresh })

placed_turned : (w : World) (s t : ℕ) (c : Class) (l : Limits) → Placed w →
    Placed (after_tid_turn (after_pick_within w c l) s c t)
placed_turned w s t c l p =
    let u : World = after_pick_within w c l in
    let a = safe_calm p.named w u (less_picked Any w c l) (same_picked w c l)
    (untouched_picked w c l) p.placing p.fresh in
    let b = safe_calm p.named u (after_tid_turn u s c t)
    (less_after_turn Any u s c t) (same_after_turn u s c t)
    (untouched_after_turn u s c t) a.placing a.fresh in
    record { named = p.named; placing = b.placing; fresh = b.fresh }

placed_fresh : (n : ℕ) (w : World) (s t : ℕ) → Placed w → Placed (with_so_many_fresh n w s t)
placed_fresh zero w s t p = p
placed_fresh (suc n) w s t p =
    let before : Placed (with_so_many_fresh n w s t) = placed_fresh n w s t p in
    let a = safe_numbered before.named (with_so_many_fresh n w s t) s t before.placing before.fresh in
    record { named = before.named; placing = a.placing; fresh = a.fresh }

pub placed : (w : World) (s t : ℕ) → IsUnderway w s t → Placed w
placed w s t u = subst Placed u.is (placed_fresh u.given
    (after_tid_turn (after_pick_within u.before u.class u.limits) s u.class t) s t
    (placed_turned u.before s t u.class u.limits (placed_reached u.before u.reached)))

pub one_more_fresh : (w : World) (s t : ℕ) → IsUnderway w s t → IsUnderway (with_one_fresh w s t) s t
one_more_fresh w s t u = record {
  before = u.before;
  reached = u.reached;
  class = u.class;
  limits = u.limits;
  given =
      suc u.given;
  is = ap (λ (x : World). with_one_fresh x s t) u.is;
}

-- ---- waiting numbers, and a fresh one after them

pub given_below : (xs : List Slot) (k : ℕ) → (at no_slot xs k).state ≡ State.Waiting → k < length xs
given_below [] k h = absurd (cc h)
given_below (x ∷ xs) zero h = omega arith
given_below (x ∷ xs) (suc k) h = omega (arith, given_below xs k h)

still_waits : (y : Session) (bodies : ℕ → FrameValue) (id lo : ℕ) (ms : List Mpdu) → y.first ≤ lo →
    IsRising lo (map (λ m. m.number) ms) → EachMpdu (IsWaitingWith y bodies) ms →
    EachMpdu (IsWaitingWith (with_number_given y id) bodies) ms
still_waits y bodies id lo [] from rising h = tt
still_waits y bodies id lo (m ∷ ms) from rising h =
    let below : m.number - y.first < length y.slots = given_below y.slots (m.number - y.first) h.0.waits in
    let same : slot (with_number_given y id) m.number ≡ slot y m.number =
    slot_give y id m.number (omega (arith, from, rising.0)) (omega (arith, below, from, rising.0)) in (
      record {
        waits = ap (λ (x : Slot). x.state) same ∙ h.0.waits;
        carries =
            ap (λ (x : Slot). x.id) same ∙ h.0.carries;
        frame = h.0.frame;
      },
      still_waits y bodies id (suc m.number) ms (omega (arith, from, rising.0)) rising.1 h.1,
    )

rises_to : (y : Session) (bodies : ℕ → FrameValue) (lo n : ℕ) (ms : List Mpdu) → y.first ≤ lo → lo ≤ n →
    n ≡ next_number y → IsRising lo (map (λ m. m.number) ms) → EachMpdu (IsWaitingWith y bodies) ms →
    IsRising lo (map (λ m. m.number) ms ++ n ∷ [])
rises_to y bodies lo n [] from low e rising h = (low, tt)
rises_to y bodies lo n (m ∷ ms) from low e rising h =
    let below : m.number - y.first < length y.slots = given_below y.slots (m.number - y.first) h.0.waits in (
      rising.0,
      rises_to y bodies (suc m.number) n ms (omega (arith, from, rising.0))
          (omega (arith, below, e, from, rising.0)) e rising.1 h.1,
    )

each_then : (P : Mpdu → Type 0) (ms : List Mpdu) (m : Mpdu) → EachMpdu P ms → P m → EachMpdu P (ms ++ m ∷ [])
each_then P [] m h k = (k, tt)
each_then P (x ∷ ms) m h k = (h.0, each_then P ms m h.1 k)

at_end : (xs : List Slot) (x : Slot) → at no_slot (xs ++ x ∷ []) (length xs) ≡ x
at_end [] x = refl
at_end (y ∷ xs) x = at_end xs x

fresh_slot : (y : Session) (id : ℕ) → slot (with_number_given y id) (next_number y)
    ≡ record { id = id; attempts = 0; state = State.Waiting }
fresh_slot y id =
    let e : next_number y - y.first ≡ length y.slots = omega arith in
    ap (λ (k : ℕ). at no_slot (with_number_given y id).slots k) e ∙ at_end y.slots _

still_waiting : (y : Session) (bodies : ℕ → FrameValue) (id : ℕ) (ms : List Mpdu) → AreWaiting y bodies ms →
    AreWaiting (with_number_given y id) bodies ms
still_waiting y bodies id ms a = record {
  each =
      still_waits y bodies id y.first ms (omega arith) a.rising a.each;
  rising = a.rising;
}

fresh_waiting : (y : Session) (bodies : ℕ → FrameValue) (id : ℕ) (ms : List Mpdu) (m : Mpdu) →
    m.number ≡ next_number y → m.id ≡ id → (bodies m.id).id ≡ m.id → AreWaiting y bodies ms →
    AreWaiting (with_number_given y id) bodies (ms ++ m ∷ [])
fresh_waiting y bodies id ms m number same frame a =
    let at_next : slot (with_number_given y id) m.number
    ≡ record { id = id; attempts = 0; state = State.Waiting } =
    ap (slot (with_number_given y id)) number ∙ fresh_slot y id in
    record {
      each = each_then (IsWaitingWith (with_number_given y id) bodies) ms m
          (still_waiting y bodies id ms a).each
          (record {
            waits = ap (λ (x : Slot). x.state) at_next;
            carries =
                ap (λ (x : Slot). x.id) at_next ∙ sym same;
            frame = frame;
          });
      rising = subst (IsRising y.first) (sym (map-append (λ (k : Mpdu). k.number) ms (m ∷ [])))
          (rises_to y bodies y.first m.number ms (omega arith)
          (omega (arith, number)) number a.rising a.each);
    }

-- ---- the room is unchanged

bounds_session : (w : World) (s t : ℕ) (f : Session → Session) → (on_session w s t f).bounds ≡ w.bounds
unfolding on_session on_tid on_station with_station
bounds_session w s t f = refl

record IsSameStation (x y : Station) : Type 0 where
  rate : y.rate ≡ x.rate
  exponent : y.exponent ≡ x.exponent
  ampdu : y.ampdu ≡ x.ampdu
  sleeper : sleeper_of y ≡ sleeper_of x

same_station : (o p : Option Station) → option_map view_of p ≡ option_map view_of o →
    IsSameStation (unwrap_or o no_station) (unwrap_or p no_station)
same_station None None e = record { rate = refl; exponent = refl; ampdu = refl; sleeper = refl }
same_station None (Some y) e = absurd (cc e)
same_station (Some x) None e = absurd (cc e)
same_station (Some x) (Some y) e =
    let same : view_of y ≡ view_of x = cc in
    record {
      rate = ap (λ (z : StationView). z.rate) same;
      exponent =
          ap (λ (z : StationView). z.exponent) same;
      ampdu = ap (λ (z : StationView). z.ampdu) same;
      sleeper = ap (λ (z : StationView). z.sleeper) same;
    }

-- an empty aggregate with these limits, in a session of this size
abbrev sized : Rate → ℕ → Option ℕ → ℕ → ℕ → ℕ → ℕ → AggregateSizeValue
sized r exponent stated frames time answers size = empty_size r
    (record { octets = most_octets r exponent stated; frames = frames; time = time }) answers
    (nat_lt narrow_window size)

module _ (w u : World) (s t : ℕ) (same : roster u ≡ roster w) (bounds : u.bounds ≡ w.bounds)
    (size : (session u s t).size ≡ (session w s t).size) where
  station_is : IsSameStation (station w s) (station u s)
  station_is = same_station (at None w.stations s) (at None u.stations s)
      (ap (λ (r : Roster). r.stations s) same)

  pub most_same : most_frames u s ≡ most_frames w s
  most_same =
      ap₂ (λ (y : Sleeper) (r : Rate). frames_allowed_of y r u.bounds) station_is.sleeper station_is.rate
      ∙ ap (frames_allowed (station w s)) bounds

  pub room_same : room_for u s t ≡ room_for w s t
  room_same =
      let x : Station = station w s in
      let y : Station = station u s in
      let long : ℕ = (session u s t).size in
      ap₂ (λ (r : Rate) (n : ℕ). sized r n y.ampdu (most_frames u s) u.bounds.air u.config.answers long)
      station_is.rate station_is.exponent
      ∙ ap₂ (λ (o : Option ℕ) (n : ℕ). sized x.rate x.exponent o n u.bounds.air u.config.answers long)
      station_is.ampdu most_same
      ∙ ap₂ (λ (b : Bounds) (r : Roster). sized x.rate x.exponent x.ampdu (most_frames w s) b.air
      r.config.answers long) bounds same
      ∙ ap (sized x.rate x.exponent x.ampdu (most_frames w s) w.bounds.air w.config.answers) size

room_kept : (room more : AggregateSizeValue) (w u : World) (s t : ℕ) (mpdus longer : List Mpdu) →
    room_for u s t ≡ room_for w s t → u.config.overhead ≡ w.config.overhead →
    more ≡ record room { count = more.count; octets = more.octets } →
    SizeStandsFor more (lens_of w.config.overhead longer) → HasRoomFor room w s t mpdus →
    HasRoomFor more u s t longer
room_kept room more w u s t mpdus longer same overhead kept lens h = record {
  settings =
      kept
      ∙ ap (λ (r : AggregateSizeValue). record r { count = more.count; octets = more.octets }) h.settings
      ∙ ap (λ (r : AggregateSizeValue). record r { count = more.count; octets = more.octets }) (sym same);
  lens = subst (λ (n : ℕ). SizeStandsFor more (lens_of n longer)) (sym overhead) lens;
}

-- ---- the world's loop

pub if_first : (b : Bool) (x y : Aggregate) → b ≡ true → (if b then x else y) ≡ x
if_first true x y e = refl
if_first false x y e = absurd (cc e)

pub if_second : (b : Bool) (x y : Aggregate) → b ≡ false → (if b then x else y) ≡ y
if_second true x y e = absurd (cc e)
if_second false x y e = refl

fresh_none : (w : World) (s t : ℕ) (mpdus : List Mpdu) →
    with_fresh 0 w s t mpdus ≡ record { world = w; mpdus = mpdus }
unfolding with_fresh
fresh_none w s t mpdus = refl

fresh_idle : (n : ℕ) (w : World) (s t : ℕ) (mpdus : List Mpdu) → can_give w s t ≡ false →
    with_fresh n w s t mpdus ≡ record { world = w; mpdus = mpdus }
unfolding with_fresh
fresh_idle zero w s t mpdus e = refl
fresh_idle (suc n) w s t mpdus e = if_first (not (can_give w s t)) _ _ (ap not e)

abbrev longer_with : World → ℕ → ℕ → List Mpdu → List Mpdu
longer_with w s t mpdus = mpdus ++ fresh_mpdus w s t (taken_for_tid w s t).item

fresh_fits : (n : ℕ) (w : World) (s t : ℕ) (mpdus : List Mpdu) → can_give w s t ≡ true →
    fits_in w s (longer_with w s t mpdus) ≡ true →
    with_fresh (suc n) w s t mpdus ≡ with_fresh n (with_one_fresh w s t) s t (longer_with w s t mpdus)
unfolding with_fresh
fresh_fits n w s t mpdus gives fit = if_second (not (can_give w s t)) _ _ (ap not gives)
    ∙ if_first (fits_in w s (longer_with w s t mpdus)) _ _ fit

fresh_ends : (n : ℕ) (w : World) (s t : ℕ) (mpdus : List Mpdu) → can_give w s t ≡ true →
    fits_in w s (longer_with w s t mpdus) ≡ false →
    with_fresh (suc n) w s t mpdus ≡ record { world = with_one_fresh w s t; mpdus = mpdus }
unfolding with_fresh
fresh_ends n w s t mpdus gives fit = if_second (not (can_give w s t)) _ _ (ap not gives)
    ∙ if_second (fits_in w s (longer_with w s t mpdus)) _ _ fit

number_some : (w : World) (s t : ℕ) (x : Item) →
    with_number w s t (Some x) ≡ on_session w s t (λ y. with_number_given y x.id)
unfolding with_number
number_some w s t x = refl

-- ---- one round

module _ (v : TransmitValue) (w : World) (bodies : ℕ → FrameValue) (s t : ℕ) (room : AggregateSizeValue)
    (numbers : List ℕ) (mpdus : List Mpdu) (after : Aggregate)
    (left : IsFilling v w bodies s t room numbers mpdus after) where
  abbrev y : Session
  y = session w s t

  pub gives_same : can_give_of v s t ≡ can_give w s t
  gives_same = can_give_same v w bodies s t left.parts left.live left.tid left.quiet

  filled_here : with_fresh (most_frames w s - length mpdus) w s t mpdus
      ≡ record { world = w; mpdus = mpdus } → IsFilled v bodies s t room numbers after
  filled_here e = subst (IsFilled v bodies s t room numbers) (sym e ∙ left.leads) (record {
    parts = left.parts;
    live = left.live;
    tid = left.tid;
    underway = left.underway;
    waiting = left.waiting;
    on_air = left.on_air;
    room_is = left.room_is;
  })

  pub filled_full : most_frames w s ≤ length mpdus → IsFilled v bodies s t room numbers after
  filled_full full = filled_here (ap (λ (n : ℕ). with_fresh n w s t mpdus) (none full)
      ∙ fresh_none w s t mpdus)
    where
      none : most_frames w s ≤ length mpdus → most_frames w s - length mpdus ≡ 0
      none full = omega (arith, full)

  pub filled_idle : can_give_of v s t ≡ false → IsFilled v bodies s t room numbers after
  filled_idle idle = filled_here (fresh_idle (most_frames w s - length mpdus) w s t mpdus
      (sym gives_same ∙ idle))

  module _ (f : FrameValue) (out : (take_out v.flows (tid_number s t) v.clock (codel_params w s)).frame
      ≡ Some f) where
    abbrev taken : World
    taken = (taken_for_tid w s t).world

    abbrev next : World
    next = with_one_fresh w s t

    abbrev m : Mpdu
    m = fresh_mpdu w s t f

    item_is : (taken_for_tid w s t).item ≡ Some (item_of f)
    item_is =
        item_take v.flows w s t left.parts.others.flows left.live
        (left.parts.others.turns.live s left.live) left.tid
        ∙ ap (λ (n : ℕ). option_map item_of (take_out v.flows (tid_number s t) n (codel_params w s)).frame)
        (sym left.parts.others.clock)
        ∙ ap (option_map item_of) out

    pub given_own : f ≡ bodies f.id
    given_own = from (take_out v.flows (tid_number s t) v.clock (codel_params w s)).frame out
        (frame_given v.flows w bodies left.parts.others.flows left.parts.others.notes left.parts.others.frames
        (tid_number s t) v.clock (codel_params w s))
      where
        from : (o : Option FrameValue) → o ≡ Some f → IfSome o (λ g. g ≡ bodies g.id) → f ≡ bodies f.id
        from None e h = absurd (cc e)
        from (Some g) e h = let same : g ≡ f = cc in subst (λ (k : FrameValue). k ≡ bodies k.id) same h

    next_is : next ≡ on_session taken s t (λ z. with_number_given z f.id)
    next_is = ap (with_number taken s t) item_is ∙ number_some taken s t (item_of f)

    longer_is : longer_with w s t mpdus ≡ mpdus ++ m ∷ []
    longer_is = ap (λ (o : Option Item). mpdus ++ fresh_mpdus w s t o) item_is

    taken_live : is_live taken s ≡ true
    taken_live = (same_take w s t).live s ∙ left.live

    taken_session : session taken s t ≡ y
    taken_session = session_same w taken (same_take w s t) s t

    session_next : session next s t ≡ with_number_given y f.id
    session_next = ap (λ (u : World). session u s t) next_is
        ∙ session_is taken s t (λ z. with_number_given z f.id) taken_live
        ∙ ap (λ (z : Session). with_number_given z f.id) taken_session

    roster_next : roster next ≡ roster w
    roster_next = ap roster next_is ∙ roster_session taken s t (λ z. with_number_given z f.id)
        ∙ roster_rest w taken (rest_take w s t)

    bounds_next : next.bounds ≡ w.bounds
    bounds_next = ap (λ (u : World). u.bounds) next_is
        ∙ bounds_session taken s t (λ z. with_number_given z f.id)
        ∙ ap (λ (r : Rest). r.bounds) (rest_take w s t)

    live_next : is_live next s ≡ true
    live_next = live_by (at None next.stations s) (at None w.stations s)
        (ap (λ (r : Roster). r.stations s) roster_next) left.live
      where
        live_by : (o p : Option Station) → option_map view_of o ≡ option_map view_of p → is_some p ≡ true →
            is_some o ≡ true
        live_by None None e h = h
        live_by None (Some b) e h = absurd (cc e)
        live_by (Some a) None e h = refl
        live_by (Some a) (Some b) e h = refl

    room_next : room_for next s t ≡ room_for w s t
    room_next = room_same w next s t roster_next bounds_next (ap (λ (z : Session). z.size) session_next)

    overhead_next : next.config.overhead ≡ w.config.overhead
    overhead_next = ap (λ (r : Roster). r.config.overhead) roster_next

    module _ (x : WindowValue) (have : WindowsHaveRoom (with_window v.windows s t x))
        (stands : WindowStandsFor x (with_number_given y f.id) bodies) where
      abbrev half : TransmitValue
      half = after_giving v s t (codel_params w s) x

      given_parts : Parts half next bodies
      given_parts =
          let p : Placed w = placed w s t left.underway in
          subst (λ (u : World). Parts half u bodies) (sym next_is)
          (session_parts (after_take v (tid_number s t) (codel_params w s)) taken bodies s t
          (λ z. with_number_given z f.id) x taken_live left.tid have
          (subst (λ (z : Session). WindowStandsFor x (with_number_given z f.id) bodies)
          (sym taken_session) stands)
          (take_parts v w bodies s t p.named p.placing p.fresh left.live left.tid left.parts))

      -- it fits, and the aggregate goes on
      pub given_fits : (more : AggregateSizeValue) → length mpdus < most_frames w s → can_give w s t ≡ true →
          fits_in w s (mpdus ++ m ∷ []) ≡ true → more
          ≡ record room { count = more.count; octets = more.octets } →
          SizeStandsFor more (lens_of w.config.overhead mpdus ++ (length f.body + v.config.overhead) ∷ []) →
          IsFilling half next bodies s t more (numbers ++ on_air m.number ∷ []) (mpdus ++ m ∷ []) after
      given_fits more few gives fit kept lens = record {
        parts = given_parts;
        live = live_next;
        tid = left.tid;
        quiet = ap request_due session_next ∙ not_due_give y f.id left.quiet;
        underway = one_more_fresh w s t left.underway;
        waiting = subst (λ (z : Session). AreWaiting z bodies (mpdus ++ m ∷ [])) (sym session_next)
            (fresh_waiting y bodies f.id mpdus m refl refl
            (sym (ap (λ (g : FrameValue). g.id) given_own)) left.waiting);
        on_air = ap (λ (ns : List ℕ). ns ++ on_air m.number ∷ []) left.on_air
            ∙ sym (map-append (λ (k : Mpdu). on_air k.number) mpdus (m ∷ []));
        room_is = room_kept room more w next s t mpdus (mpdus ++ m ∷ []) room_next overhead_next kept
            (subst (SizeStandsFor more) (ap (λ c. lens_of w.config.overhead mpdus
            ++ (length f.body + c.overhead) ∷ []) left.parts.others.config
            ∙ sym (map-append (λ (k : Mpdu). k.len + w.config.overhead) mpdus (m ∷ []))) lens)
            left.room_is;
        leads =
            ap (λ (n : ℕ). with_fresh n next s t (mpdus ++ m ∷ [])) fewer
            ∙ ap (with_fresh (most_frames w s - suc (length mpdus)) next s t) (sym longer_is)
            ∙ sym (fresh_fits (most_frames w s - suc (length mpdus)) w s t mpdus gives
            (ap (fits_in w s) longer_is ∙ fit))
            ∙ ap (λ (n : ℕ). with_fresh n w s t mpdus) more_left
            ∙ left.leads;
      }
        where
          fewer : most_frames next s - length (mpdus ++ m ∷ []) ≡ most_frames w s - suc (length mpdus)
          fewer = omega (
            arith,
            most_same w next s t roster_next bounds_next (ap (λ (z : Session). z.size) session_next),
            length-append mpdus (m ∷ []),
          )

          more_left : suc (most_frames w s - suc (length mpdus)) ≡ most_frames w s - length mpdus
          more_left = omega (arith, few)

      -- it does not fit: it waits with its number, and the aggregate ends before it
      pub given_ends : length mpdus < most_frames w s → can_give w s t ≡ true →
          fits_in w s (mpdus ++ m ∷ []) ≡ false → IsFilled half bodies s t room numbers after
      given_ends few gives fit = subst (IsFilled half bodies s t room numbers) (is few) (record {
        parts = given_parts;
        live = live_next;
        tid = left.tid;
        underway = one_more_fresh w s t left.underway;
        waiting = subst (λ (z : Session). AreWaiting z bodies mpdus) (sym session_next)
            (still_waiting y bodies f.id mpdus left.waiting);
        on_air = left.on_air;
        room_is = room_kept room room w next s t mpdus mpdus room_next overhead_next refl left.room_is.lens
            left.room_is;
      })
        where
          is : length mpdus < most_frames w s → record { world = next; mpdus = mpdus } ≡ after
          is few =
              sym (fresh_ends (most_frames w s - suc (length mpdus)) w s t mpdus gives
              (ap (fits_in w s) longer_is ∙ fit))
              ∙ ap (λ (n : ℕ). with_fresh n w s t mpdus) (omega (arith, few))
              ∙ left.leads

-- ---- the same, read from the half

module _ (v : TransmitValue) (w : World) (bodies : ℕ → FrameValue) (s t : ℕ) (room : AggregateSizeValue)
    (numbers : List ℕ) (mpdus : List Mpdu) (after : Aggregate)
    (left : IsFilling v w bodies s t room numbers mpdus after) where
  frames_are : room.limits.frames ≡ most_frames w s
  frames_are = ap (λ (r : AggregateSizeValue). r.limits.frames) left.room_is.settings

  count_is : length numbers ≡ length mpdus
  count_is = ap (length {A = ℕ}) left.on_air ∙ length-map mpdus (λ (m : Mpdu). on_air m.number)

  -- the lengths with one more, by the half's setting
  abbrev longer : ℕ → List ℕ
  longer len = lens_of w.config.overhead mpdus ++ (len + v.config.overhead) ∷ []

  adds_same : (m : Mpdu) → fits room.rate room.limits.octets room.limits.frames room.limits.time
      (longer m.len)
      ≡ fits_in w s (mpdus ++ m ∷ [])
  adds_same m =
      ap (λ (r : AggregateSizeValue). fits r.rate r.limits.octets r.limits.frames r.limits.time
      (longer m.len))
      left.room_is.settings
      ∙ ap (fits (station w s).rate
      (most_octets (station w s).rate (station w s).exponent (station w s).ampdu) (most_frames w s)
      w.bounds.air)
      (ap (λ c. lens_of w.config.overhead mpdus ++ (m.len + c.overhead) ∷ []) left.parts.others.config
      ∙ sym (map-append (λ (k : Mpdu). k.len + w.config.overhead) mpdus (m ∷ [])))

  pub full_fills : room.limits.frames ≤ length numbers → IsFilled v bodies s t room numbers after
  full_fills full = filled_full v w bodies s t room numbers mpdus after left
      (omega (arith, full, frames_are, count_is))

  module _ (params : Params) (right : params ≡ codel_params w s) (f : FrameValue)
      (out : (take_out v.flows (tid_number s t) v.clock params).frame ≡ Some f) where
    out_is : (take_out v.flows (tid_number s t) v.clock (codel_params w s)).frame ≡ Some f
    out_is = ap (λ (p : Params). (take_out v.flows (tid_number s t) v.clock p).frame) (sym right) ∙ out

    pub fresh_own : f ≡ bodies f.id
    fresh_own = given_own v w bodies s t room numbers mpdus after left f out_is

    module _ (x : WindowValue) (have : WindowsHaveRoom (with_window v.windows s t x))
        (stands : WindowStandsFor x (with_number_given (session w s t) f.id) bodies)
        (few : length numbers < room.limits.frames)
        (gives : can_give_of v s t ≡ true) where
      half_is : after_giving v s t (codel_params w s) x ≡ after_giving v s t params x
      half_is = ap (λ (p : Params). after_giving v s t p x) (sym right)

      can : can_give w s t ≡ true
      can = sym (gives_same v w bodies s t room numbers mpdus after left) ∙ gives

      fewer_than : length mpdus < most_frames w s
      fewer_than = omega (arith, few, frames_are, count_is)

      pub fresh_goes_on : (more : AggregateSizeValue) →
          fits room.rate room.limits.octets room.limits.frames room.limits.time (longer
          (length f.body)) ≡ true →
          more ≡ record room { count = more.count; octets = more.octets } →
          SizeStandsFor more (longer (length f.body)) →
          IsFilling (after_giving v s t params x) (with_one_fresh w s t) bodies s t more
          (numbers ++ on_air (next_number (session w s t)) ∷ []) (mpdus ++ fresh_mpdu w s t f ∷ []) after
      fresh_goes_on more fit kept lens =
          subst (λ (z : TransmitValue). IsFilling z (with_one_fresh w s t) bodies s t more
          (numbers ++ on_air (next_number (session w s t)) ∷ []) (mpdus ++ fresh_mpdu w s t f ∷ []) after)
          half_is
          (given_fits v w bodies s t room numbers mpdus after left f out_is x have stands more fewer_than can
          (sym (adds_same (fresh_mpdu w s t f)) ∙ fit) kept lens)

      pub fresh_stops : fits room.rate room.limits.octets room.limits.frames room.limits.time
          (longer (length f.body)) ≡ false →
          IsFilled (after_giving v s t params x) bodies s t room numbers after
      fresh_stops fit =
          subst (λ (z : TransmitValue). IsFilled z bodies s t room numbers after) half_is
          (given_ends v w bodies s t room numbers mpdus after left f out_is x have stands fewer_than can
          (sym (adds_same (fresh_mpdu w s t f)) ∙ fit))
