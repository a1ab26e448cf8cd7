-- Proves a pull except for its aggregate: the station that is picked, the turn, the exchange that opens, and
-- what it spends of a credit and of a service period.
use Rattle.std.proofs.Common.{◌≡◌, refl, ap, ap₂, sym, ◌∙◌, subst, arith, ℕ, zero, suc, ◌+◌, ◌*◌, ◌<◌, ◌≤◌, ◌==◌, pos, ◌+ℤ◌, Bool, true, false, not, ◌&&◌, ◌||◌, if◌then◌else◌, List, [], ◌∷◌, ◌++◌, length, Option, Some, None, is_some, option_map, unwrap_or}
use Rattle.std.specs.Prelude.{nat_lt}
use Rattle.std.proofs.lemmas.List.{map-append, length-map}
use Rattle.std.specs.List.{list_any}
use Rattle.wf_frame.specs.declared.classes.Class.{Class}
use Rattle.wf_frame.specs.declared.settings.Config.{Config}
use Rattle.wf_frame.specs.declared.notes.Note.TheVariants.{Asked}
use Rattle.wf_frame.specs.declared.notes.Ask.TheVariants.{Pull}
use Rattle.wf_frame.specs.declared.notes.Limits.{Limits}
use Rattle.wf_frame.specs.declared.notes.Refusal.TheVariants.{Idle}
use Rattle.wf_frame.specs.declared.notes.ReplyNote.TheVariants.{Send, Refused}
use Rattle.wf_frame.specs.Classes.{lower_tid, upper_tid, class_of}
use Rattle.wf_frame.specs.Frames.{FrameValue}
use Rattle.wf_def_lists.specs.Table.{at, count_from}
use Rattle.wf_def_rotation.specs.Rotation.{in_order}
use Rattle.wf_def_lists.specs.Bounds.{narrow_window}
use Rattle.wf_def_world.specs.World.{World, Bounds, Station, Share, Content, Frames, Request, Exchange, no_station, quantum, is_live, is_offloaded, station, share, is_wide, rotation, on_share, with_bounds}
use Rattle.wf_def_world.specs.FlowQueues.{frames_queued as world_queued}
use Rattle.wf_def_world.specs.CanSend.{can_send, has_waiting, is_request as sends_request}
use Rattle.wf_def_world.specs.Exchanges.{picked_station, with_station_paid, with_stations_paid, after_pick, bounds_of, first_tid, other_tid, sending_tid, after_tid_turn, Prepared, has_more_in, has_more, mpdus_of, exchange_of, with_exchange_opened, spent, with_spent, part_of}
use Rattle.wf_def_world.specs.Refusals.{refusal}
use Rattle.wf_def_world.specs.Step.{Outcome, after_refusal, send_outcome, step}
use Rattle.wf_law_runs.proofs.Deficits.Books.{updc, updc_idle}
use Rattle.wf_sched.specs.ClassRotas.{SchedValue}
use Rattle.wf_sched_refines.specs.Standing.{SchedulerStandsFor as TurnsStandFor, with_pending_charged, share_in}
use Rattle.wf_sched_refines.specs.Calls.{HasPickedInClass}
use Rattle.wf_sched_refines.proofs.Exchanges.{opened_stands}
use Rattle.wf_sched_refines.proofs.Picks.{pick_stands}
use Rattle.wf_sched_refines.proofs.Unchanged.{bounded_leaves, turn_leaves, spent_leaves}
use Rattle.wf_queue_flows_refines.proofs.Leaves.{share_alone, opened_alone, stands_same}
use Rattle.wf_send_parts.specs.declared.exchanges.opened.Open.{Open}
use Rattle.wf_send_parts.specs.Exchanges.{sending_is_request, frames_carried}
use Rattle.wf_send_parts.specs.declared.stations.members.Member.{Member}
use Rattle.wf_send_parts.specs.Members.{member, is_offloaded_in, on_member, upper_in, with_upper}
use Rattle.wf_send_parts.specs.declared.stations.sleepers.Sleeper.{Sleeper}
use Rattle.wf_send_parts.specs.Sleepers.{sleeper, is_delivered_in, is_polled_in, is_served_in, is_told_in, is_used_up, sleeper_spent}
use Rattle.wf_send_parts.specs.Window.{on_air}
use Rattle.wf_send_half_model.specs.Half.{TransmitValue, is_plain_of, can_send_of}
use Rattle.wf_send_half_model.specs.Standing.{IsMember, AreBoth, sending_of, open_of, sleeper_of, Parts, StandsFor, Meets}
use Rattle.wf_send_half_model.specs.Pulling.{has_upper_turn, sending_tid_of, after_turn, is_wide_of, has_some_of, has_more_in_of, has_more_of, ends_period_of, open_next, after_opening, after_pending_charge, after_spending, after_sending}
use Rattle.wf_send_half_model.specs.Views.{view_of, roster, HasSameViews}
use Rattle.wf_send_half_model.proofs.Views.{agreements_share, roster_share, ledger_share, reshared, view_reshared}
use Rattle.wf_send_half_model.specs.Filling.{after_pick_within}
use Rattle.wf_send_half_model.proofs.Stands.{Pieces, to_pieces, of_pieces, same_views}
use Rattle.wf_send_half_model.proofs.Stations.{member_changed, turned, station_parts, sleeper_parts}
use Rattle.wf_send_half_model.proofs.Listings.{views_here, views_then, views_rotation}
use Rattle.wf_send_half_model.proofs.Reached.{reached_step, step_refused}
use Rattle.wf_send_half_model.proofs.Readers.{can_send_same, offloaded_same, plain_same, queued_same, waiting_same, lower_low, upper_low}

-- ---- who is picked

views_paid_one : (w : World) (s : ℕ) (c : Class) (quanta : ℕ) →
    HasSameViews w (with_station_paid w c quanta s)
unfolding with_station_paid
views_paid_one w s c quanta =
    let f : Share → Share = λ x. record x {
      deficit = x.deficit +ℤ pos (quanta * quantum w s);
      quanta =
          x.quanta + quanta;
    } in
    record {
      part = share_alone w s c f;
      agreements = agreements_share w s c f;
      roster = roster_share w s c f (record { upper = λ y. refl; charged = λ y. refl; received = λ y. refl });
      ledger = ledger_share w s c f;
    }

views_paid : (ss : List ℕ) (w : World) (c : Class) (quanta : ℕ → ℕ) →
    HasSameViews w (with_stations_paid w c quanta ss)
unfolding with_stations_paid
views_paid [] w c quanta = views_here w
views_paid (s ∷ ss) w c quanta = views_then w (with_station_paid w c (quanta s) s) _
    (views_paid_one w s c (quanta s)) (views_paid ss (with_station_paid w c (quanta s) s) c quanta)

views_pick : (w : World) (c : Class) → HasSameViews w (after_pick w c)
unfolding after_pick
views_pick w c =
    let quanta : ℕ → ℕ = (picked_station w c).quanta in
    let paid : World = with_stations_paid w c quanta (in_order (rotation w c)) in
    views_then w paid _ (views_paid (in_order (rotation w c)) w c quanta)
    (views_rotation paid c (picked_station w c).lists)

pub pick_parts : (v : TransmitValue) (w : World) (bodies : ℕ → FrameValue) (c : Class) (turns : SchedValue) →
    HasPickedInClass w c v.sched turns → Parts v w bodies →
    Parts (record v { sched = turns }) (after_pick w c) bodies
pick_parts v w bodies c turns p h = same_views v w (after_pick w c) bodies turns (views_pick w c)
    (pick_stands v.sched turns w c p.ready h.others.turns p.tells p.turned p.others) h

-- the half does not depend on the bounds of a pull
pub bounded_parts : (v : TransmitValue) (w : World) (bodies : ℕ → FrameValue) (b : Bounds) →
    Parts v w bodies → Parts v (with_bounds w b) bodies
bounded_parts v w bodies b h =
    let p : Pieces v w bodies = to_pieces v w bodies h in
    of_pieces v (with_bounds w b) bodies (record {
      config = p.config;
      clock = p.clock;
      exchanges = p.exchanges;
      opened = p.opened;
      groups = p.groups;
      stations = p.stations;
      windows = p.windows;
      modes = record { sized = p.modes.sized; each = p.modes.each };
      flows = stands_same v.flows w (with_bounds w b) refl p.flows;
      turns = bounded_leaves w b v.sched p.turns;
      ledger = p.ledger;
      frames = p.frames;
    })

pub pick_within_parts : (v : TransmitValue) (w : World) (bodies : ℕ → FrameValue) (c : Class)
    (turns : SchedValue) → HasPickedInClass w c v.sched turns → Parts v w bodies → (l : Limits) →
    Parts (record v { sched = turns }) (after_pick_within w c l) bodies
pick_within_parts v w bodies c turns p h l = bounded_parts (record v { sched = turns })
    (after_pick w c) bodies
    (bounds_of w.config c l) (pick_parts v w bodies c turns p h)

idle_picks : (w : World) (c : Class) (l : Limits) → (w.config.pending == 1) ≡ false →
    after_refusal w (Asked (Pull c l)) Idle ≡ after_pick w c
unfolding after_refusal
idle_picks w c l off = ap (λ (b : Bool). if b then w else after_pick w c) off

idle_stays : (w : World) (c : Class) (l : Limits) → (w.config.pending == 1) ≡ true →
    after_refusal w (Asked (Pull c l)) Idle ≡ w
unfolding after_refusal
idle_stays w c l on = ap (λ (b : Bool). if b then w else after_pick w c) on

same_setting : (v : TransmitValue) (w : World) (bodies : ℕ → FrameValue) → Parts v w bodies → (b : Bool) →
    (v.config.pending == 1) ≡ b → (w.config.pending == 1) ≡ b
same_setting v w bodies h b e = sym (ap (λ (x : Config). x.pending == 1) h.others.config) ∙ e

-- no station is ready: without the setting `pending`, only the pick changes something
pub idle_pull : (v : TransmitValue) (w : World) (bodies : ℕ → FrameValue) → StandsFor v w bodies →
    (c : Class) (l : Limits) (turns : SchedValue) → (v.config.pending == 1) ≡ false →
    refusal w (Asked (Pull c l)) ≡ Some Idle → HasPickedInClass w c v.sched turns →
    Meets w bodies (Asked (Pull c l)) (record v { sched = turns }) (Refused Idle)
idle_pull v w bodies h c l turns off e p =
    let is : step w (Asked (Pull c l)) ≡ record {
      world = after_refusal w (Asked (Pull c l)) Idle;
      reply =
          Refused Idle;
    } = step_refused w (Asked (Pull c l)) Idle e in
    let world : (step w (Asked (Pull c l))).world ≡ after_pick w c =
    ap (λ (o : Outcome). o.world) is ∙ idle_picks w c l (same_setting v w bodies h.parts false off) in
    record {
      stands = record {
        parts = subst (λ (u : World). Parts (record v { sched = turns }) u bodies) (sym world)
            (pick_parts v w bodies c turns p h.parts);
        reached = reached_step w (Asked (Pull c l)) h.reached tt tt;
      };
      reply = sym (ap (λ (o : Outcome). o.reply) is);
    }

-- with the setting, nothing changes
pub idle_pull_stays : (v : TransmitValue) (w : World) (bodies : ℕ → FrameValue) → StandsFor v w bodies →
    (c : Class) (l : Limits) → (v.config.pending == 1) ≡ true → refusal w (Asked (Pull c l)) ≡ Some Idle →
    Meets w bodies (Asked (Pull c l)) v (Refused Idle)
idle_pull_stays v w bodies h c l on e =
    let is : step w (Asked (Pull c l)) ≡ record {
      world = after_refusal w (Asked (Pull c l)) Idle;
      reply =
          Refused Idle;
    } = step_refused w (Asked (Pull c l)) Idle e in
    let world : (step w (Asked (Pull c l))).world ≡ w =
    ap (λ (o : Outcome). o.world) is ∙ idle_stays w c l (same_setting v w bodies h.parts true on) in
    record {
      stands = subst (λ (u : World). StandsFor v u bodies) (sym world) h;
      reply = sym (ap (λ (o : Outcome). o.reply) is);
    }

-- ---- whose turn it is

upper_same : (m : Option Member) (o : Option Station) (c : Class) → AreBoth IsMember m o → is_some o ≡ true →
    unwrap_or (option_map (λ x. upper_in x c) m) false ≡ (share_in (unwrap_or o no_station) c).upper
upper_same None None c h live = absurd (cc live)
upper_same None (Some x) c h live = absurd h
upper_same (Some m) None c h live = absurd h
upper_same (Some m) (Some x) c h live = h.upper c

module _ (v : TransmitValue) (w : World) (bodies : ℕ → FrameValue) (s : ℕ) (c : Class) (h : Parts v w bodies)
    (live : is_live w s ≡ true) where
  pub turn_same : has_upper_turn v s c ≡ (share w s c).upper
  turn_same = upper_same (member v.members s) (at None w.stations s) c (h.others.stations.live s) live

  low_if : (b : Bool) (i j : ℕ) → i < 8 → j < 8 → (if b then i else j) < 8
  low_if true i j low_i low_j = low_i
  low_if false i j low_i low_j = low_j

  pub first_low : first_tid w s c < 8
  first_low = low_if (share w s c).upper (upper_tid c) (lower_tid c) (upper_low c) (lower_low c)

  other_low : other_tid w s c < 8
  other_low = low_if (share w s c).upper (lower_tid c) (upper_tid c) (lower_low c) (upper_low c)

  pub sending_low : sending_tid w s c < 8
  sending_low = low_if (can_send w s (first_tid w s c)) (first_tid w s c)
      (other_tid w s c) first_low other_low

  pub sending_same : sending_tid_of v s c ≡ sending_tid w s c
  sending_same =
      ap (λ (b : Bool). if can_send_of v s (if b then upper_tid c else lower_tid c)
      then (if b then upper_tid c else lower_tid c) else (if b then lower_tid c else upper_tid c))
      turn_same
      ∙ ap (λ (b : Bool). if b then first_tid w s c else other_tid w s c)
      (can_send_same v w bodies s (first_tid w s c) h live first_low)

pub turn_parts : (v : TransmitValue) (w : World) (bodies : ℕ → FrameValue) (s : ℕ) (c : Class) (t : ℕ) →
    s < w.config.stations → Parts v w bodies → Parts (after_turn v s c t) (after_tid_turn w s c t) bodies
unfolding after_tid_turn on_share
turn_parts v w bodies s c t low h =
    let upper : Bool = t == lower_tid c in
    let f : Share → Share = λ y. record y { upper = upper } in
    station_parts v w bodies s (λ x. reshared x c f) (λ x. record x { upper = updc x.upper c upper })
    (on_member v.members s (with_upper c upper)) v.sleepers v.sched
    (λ x. refl)
    (λ x. view_reshared x c f
    ∙ ap (λ (g : Class → ℕ). record (view_of x) {
      upper = updc (view_of x).upper c upper;
      charged = g;
      received = updc (view_of x).received c (share_in x c).received;
    })
    (updc_idle (view_of x).charged c (share_in x c).charged refl)
    ∙ ap (λ (g : Class → ℕ). record (view_of x) { upper = updc (view_of x).upper c upper; received = g })
    (updc_idle (view_of x).received c (share_in x c).received refl))
    (turn_leaves w s c t v.sched h.others.turns)
    (λ k. member_changed v.members v.sleepers w.config.stations (roster w).stations s (with_upper c upper)
    (λ x. record x { upper = updc x.upper c upper }) k low (turned c upper) (λ x. refl)) h

-- ---- the exchange opens

pub open_parts : (v : TransmitValue) (w : World) (bodies : ℕ → FrameValue) (x : Exchange) → Parts v w bodies →
    Parts (after_pending_charge (after_opening v (open_of x)) (open_of x)) (with_exchange_opened w x) bodies
unfolding with_exchange_opened
open_parts v w bodies x h =
    let p : Pieces v w bodies = to_pieces v w bodies h in
    of_pieces (after_pending_charge (after_opening v (open_of x)) (open_of x)) (with_exchange_opened w x)
    bodies (record {
      config = p.config;
      clock = p.clock;
      exchanges = ap (λ (n : ℕ). n + 1) p.exchanges;
      groups = p.groups;
      opened = ap (λ (xs : List Open). xs ++ open_of x ∷ []) p.opened
          ∙ sym (map-append open_of w.opened (x ∷ []));
      stations = p.stations;
      windows = p.windows;
      modes = record { sized = p.modes.sized; each = p.modes.each };
      flows = stands_same v.flows w (with_exchange_opened w x)
          (opened_alone w (w.exchanges + 1) (w.opened ++ x ∷ [])) p.flows;
      turns = subst (λ (k : Config). TurnsStandFor
          (with_pending_charged k v.sched x.station x.class x.charge) (with_exchange_opened w x))
          (sym p.config) (opened_stands v.sched w x p.turns);
      ledger = p.ledger;
      frames = p.frames;
    })

sent_count : (x : Content) → frames_carried (sending_of x) ≡ length (mpdus_of x)
sent_count (Frames mpdus) = length-map mpdus (λ m. on_air m.number)
sent_count (Request start) = refl

-- what an exchange spends of a station's credit and service period, in the view of the station
spent_view : (x : Exchange) (y : Station) →
    view_of (spent x y) ≡ record (view_of y) {
      sleeper = sleeper_spent x.class (frames_carried (sending_of x.content)) x.eosp (sleeper_of y);
    }
spent_view x y =
    ap (λ (n : ℕ). record (view_of y) { sleeper = sleeper_spent x.class n x.eosp (sleeper_of y) })
    (sym (sent_count x.content))

pub spend_parts : (v : TransmitValue) (w : World) (bodies : ℕ → FrameValue) (x : Exchange) →
    x.station < w.config.stations → Parts v w bodies →
    Parts (after_spending v (open_of x)) (with_spent w x) bodies
unfolding with_spent
spend_parts v w bodies x low h =
    sleeper_parts v w bodies x.station (spent x)
    (sleeper_spent x.class (frames_carried (sending_of x.content)) x.eosp) low (λ y. refl) (spent_view x)
    (spent_leaves w x) h

-- ---- the exchange's contents

request_same : (x : Content) → sending_is_request (sending_of x) ≡ sends_request x
request_same (Frames mpdus) = refl
request_same (Request start) = refl

any_below : (f g : ℕ → Bool) (m from : ℕ) → from + m ≤ 8 → ((t : ℕ) → t < 8 → f t ≡ g t) →
    list_any f (count_from from m) ≡ list_any g (count_from from m)
any_below f g zero from within same = refl
any_below f g (suc m) from within same = ap₂ (λ (a b : Bool). a || b) (same from (omega (arith, within)))
    (any_below f g m (suc from) (omega (arith, within)) same)

module _ (v : TransmitValue) (w : World) (bodies : ℕ → FrameValue) (s : ℕ) (h : Parts v w bodies)
    (live : is_live w s ≡ true) where
  -- for each set of classes something waits in the half if, and only if, it waits in the world
  pub more_in_same : (p : Class → Bool) → has_more_in_of v s p ≡ has_more_in w s p
  more_in_same p = any_below (λ t. p (class_of t) && has_some_of v s t)
      (λ t. p (class_of t) && (has_waiting w s t || nat_lt 0 (world_queued w s t))) 8 0 (omega arith)
      (λ t low. ap₂ (λ (a : Bool) (n : ℕ). p (class_of t) && (a || nat_lt 0 n))
      (waiting_same v w bodies s t h live low) (queued_same v w bodies s t h live low))

  pub more_same : has_more_of v s ≡ has_more w s
  more_same = ap (λ (y : Sleeper). has_more_in_of v s (is_polled_in y)) (h.others.stations.rests s live)
      ∙ more_in_same (is_polled_in (sleeper_of (station w s)))

pub wide_same : (v : TransmitValue) (w : World) (bodies : ℕ → FrameValue) (s t : ℕ) → Parts v w bodies →
    is_live w s ≡ true → t < 8 → is_wide_of v s t ≡ is_wide w s t
wide_same v w bodies s t h live low = ap (λ (n : ℕ). nat_lt narrow_window n)
    (h.windows.all.stands s t live low).size

-- ---- the prepared exchange is sent

module _ (v : TransmitValue) (bodies : ℕ → FrameValue) (s t : ℕ) (c : Class) (p : Prepared)
    (h : Parts v p.world bodies) (live : is_live p.world s ≡ true) (low : t < 8) where
  -- the power save of the station
  abbrev here : Sleeper
  here = sleeper_of (station p.world s)

  rests_here : sleeper v.sleepers s ≡ here
  rests_here = h.others.stations.rests s live

  more_is : (open_next v s t c p.charge (sending_of p.content)).more ≡ (exchange_of s t c p).more
  more_is =
      ap (λ (y : Sleeper). y.asleep && (not (sending_is_request (sending_of p.content))
      && has_more_in_of v s (is_told_in y c))) rests_here
      ∙ ap₂ (λ (a b : Bool). here.asleep && (not a && b)) (request_same p.content)
      (more_in_same v p.world bodies s h live (is_told_in here c))

  eosp_is : ends_period_of v s c (sending_of p.content) ≡ (exchange_of s t c p).eosp
  eosp_is =
      ap (λ (y : Sleeper). is_served_in y c && (not (sending_is_request (sending_of p.content))
      && (is_used_up y (frames_carried (sending_of p.content))
      || not (has_more_in_of v s (is_delivered_in y))))) rests_here
      ∙ ap₂ (λ (a : Bool) (n : ℕ). is_served_in here c && (not a
      && (is_used_up here n || not (has_more_in_of v s (is_delivered_in here)))))
      (request_same p.content) (sent_count p.content)
      ∙ ap (λ (b : Bool). is_served_in here c && (not (sends_request p.content)
      && (is_used_up here (length (mpdus_of p.content)) || not b)))
      (more_in_same v p.world bodies s h live (is_delivered_in here))

  pub open_same : open_next v s t c p.charge (sending_of p.content) ≡ open_of (exchange_of s t c p)
  open_same =
      ap (λ (n : ℕ). record (open_next v s t c p.charge (sending_of p.content)) { number = n })
      h.others.exchanges
      ∙ ap (λ (b : Bool). record (open_next v s t c p.charge (sending_of p.content)) {
        number = p.world.exchanges;
        batch = b;
      }) (offloaded_same v p.world bodies s h)
      ∙ ap (λ (b : Bool). record (open_next v s t c p.charge (sending_of p.content)) {
        number = p.world.exchanges;
        batch = is_offloaded p.world s;
        plain = b;
      }) (plain_same v p.world bodies s t h live low)
      ∙ ap₂ (λ (a b : Bool). record (open_of (exchange_of s t c p)) { more = a; eosp = b }) more_is eosp_is

  opened_low : (x : Exchange) → s < (with_exchange_opened p.world x).config.stations
  unfolding with_exchange_opened
  opened_low x = h.others.turns.live s live

  pub send_parts : Parts (after_sending v s t c p.charge (sending_of p.content))
      (send_outcome s t c p).world bodies
  unfolding send_outcome
  send_parts =
      let x : Exchange = exchange_of s t c p in
      subst (λ (o : Open). Parts (after_spending (after_pending_charge (after_opening v o) o) o)
      (with_spent (with_exchange_opened p.world x) x) bodies) (sym open_same)
      (spend_parts (after_pending_charge (after_opening v (open_of x)) (open_of x))
      (with_exchange_opened p.world x) bodies x (opened_low x)
      (open_parts v p.world bodies x h))

  pub send_reply : Send v.exchanges s t p.charge
      (part_of (is_offloaded_in v.members s) (is_plain_of v s t) p.content)
      (open_next v s t c p.charge (sending_of p.content)).more
      (open_next v s t c p.charge (sending_of p.content)).eosp
      ≡ (send_outcome s t c p).reply
  unfolding send_outcome
  send_reply = ap (λ (o : Open). Send o.number s t p.charge (part_of o.batch o.plain p.content) o.more o.eosp)
      open_same
