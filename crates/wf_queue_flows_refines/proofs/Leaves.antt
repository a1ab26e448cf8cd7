-- Proves that changes of other parts of the world do not affect the flow queues.
use Rattle.std.proofs.Common.{◌≡◌, refl, ap, sym, ◌∙◌, subst, ℕ, zero, suc, ◌<◌, Bool, true, false, List, [], ◌∷◌, Option, Some, None, is_some, inl, inr, if◌then◌else◌}
use Rattle.std.proofs.Math.Path.{fun_ext}
use Rattle.std.proofs.lemmas.Bool.{cases_eq, cond_both}
use Rattle.wf_frame.specs.Classes.{all_classes, tid_number}
use Rattle.wf_frame.specs.declared.classes.Class.{Class}
use Rattle.wf_def_lists.specs.Bounds.{greatest_window}
use Rattle.wf_def_lists.specs.Table.{at}
use Rattle.wf_def_rotation.specs.Rotation.{Rotation, no_keys}
use Rattle.wf_def_agreement.specs.Session.{Session}
use Rattle.wf_def_agreement.specs.Receiver.{Receiver}
use Rattle.wf_def_world.specs.World.{World, Bounds, Mode, Agreed, Station, Share, Tid, Exchange, no_tid, new_tid, is_live, is_agreed, with_station, on_station, on_session, on_receiver, with_mode, on_share, with_rotation, with_exchange, without_exchange, with_bounds}
use Rattle.wf_def_world.specs.CanSend.{with_listing_in, with_listings_in, with_listings_of}
use Rattle.wf_def_world.specs.Exchanges.{with_station_paid, with_stations_paid, after_pick, after_tid_turn, caught_up, caught_up_if_plain}
use Rattle.wf_def_world.specs.Step.{plain_window, join_outcome, offload_outcome, plain_outcome, with_window, without_listings}
use Rattle.wf_queue_flows.specs.Flows.{FlowsValue, tid_rotation}
use Rattle.wf_law_runs.proofs.Deficits.Books.{upd, upd_same, upd_other}
use Rattle.wf_queue_flows_refines.specs.Standing.{Part, flows_part, Stands, FlowsStandFor}
use Rattle.wf_queue_flows_refines.proofs.Parts.{lists_in, part_with_station, part_same_lists, part_on_station, part_on_tid}

-- only the part of the world matters
pub stands_same : (v : FlowsValue) (w x : World) → flows_part x ≡ flows_part w → FlowsStandFor v w →
    FlowsStandFor v x
stands_same v w x same st = subst (Stands v) (sym same) st

-- a change of a station that does not change its TIDs
pub station_alone : (w : World) (s : ℕ) (f : Station → Station) → ((x : Station) → (f x).tids ≡ x.tids) →
    flows_part (on_station w s f) ≡ flows_part w
station_alone w s f h = part_on_station w s f (λ x. fun_ext (λ t. ap (λ ts. (at no_tid ts t).queues) (h x)))

pub session_alone : (w : World) (s t : ℕ) (f : Session → Session) →
    flows_part (on_session w s t f) ≡ flows_part w
unfolding on_session
session_alone w s t f = part_on_tid w s t _ (λ y. refl)

pub receiver_alone : (w : World) (s t : ℕ) (f : Receiver → Receiver) →
    flows_part (on_receiver w s t f) ≡ flows_part w
unfolding on_receiver
receiver_alone w s t f = part_on_tid w s t _ (λ y. refl)

pub mode_alone : (w : World) (s t : ℕ) (mode : Mode) → flows_part (with_mode w s t mode) ≡ flows_part w
unfolding with_mode
mode_alone w s t mode = part_on_tid w s t _ (λ y. refl)

-- the window of both sides gets a size
pub window_alone : (w : World) (s t size : ℕ) → flows_part (with_window w s t size) ≡ flows_part w
unfolding with_window
window_alone w s t size = receiver_alone _ s t _ ∙ session_alone w s t _

-- a TID without an agreement catches up
pub caught_alone : (w : World) (s t : ℕ) → flows_part (caught_up w s t) ≡ flows_part w
unfolding caught_up
caught_alone w s t = receiver_alone _ s t _ ∙ session_alone w s t _

pub caught_if_alone : (w : World) (s t : ℕ) → flows_part (caught_up_if_plain w s t) ≡ flows_part w
unfolding caught_up_if_plain
caught_if_alone w s t = cond_both (is_agreed w s t) w (caught_up w s t)
    (λ (u : World). flows_part u ≡ flows_part w) (λ e. refl) (λ e. caught_alone w s t)

pub share_alone : (w : World) (s : ℕ) (c : Class) (f : Share → Share) →
    flows_part (on_share w s c f) ≡ flows_part w
unfolding on_share
share_alone w s c f = station_alone w s _ (λ x. refl)

pub rotation_alone : (w : World) (c : Class) (r : Rotation) → flows_part (with_rotation w c r) ≡ flows_part w
unfolding with_rotation
rotation_alone w c r = refl

pub exchange_alone : (w : World) (x : Exchange) → flows_part (with_exchange w x) ≡ flows_part w
unfolding with_exchange
exchange_alone w x = refl

pub closing_alone : (w : World) (e : ℕ) → flows_part (without_exchange w e) ≡ flows_part w
unfolding without_exchange
closing_alone w e = refl

pub clock_alone : (w : World) (now : ℕ) → flows_part (record w { clock = now }) ≡ flows_part w
clock_alone w now = refl

pub opened_alone : (w : World) (count : ℕ) (opened : List Exchange) →
    flows_part (record w { exchanges = count; opened = opened }) ≡ flows_part w
opened_alone w count opened = refl

-- ---- stations that join and leave

no_lists : (o : Option Station) (t : ℕ) → is_some o ≡ false → lists_in o t ≡ no_keys
no_lists None t e = refl
no_lists (Some x) t e = absurd (cc e)

-- no TID in the list lists a queue
record ListNothing (ts : List Tid) : Type 0 where
  each : (t : ℕ) → (at no_tid ts t).queues ≡ no_keys

one_more : (x : Tid) (ts : List Tid) → x.queues ≡ no_keys → ListNothing ts → ListNothing (x ∷ ts)
one_more x ts e h = record { each = λ t. go t }
  where
    go : (t : ℕ) → (at no_tid (x ∷ ts) t).queues ≡ no_keys
    go zero = e
    go (suc t) = h.each t

eight_new : (mode : Mode) (first size : ℕ) → let x : Tid = new_tid mode first size in
    ListNothing (x ∷ x ∷ x ∷ x ∷ x ∷ x ∷ x ∷ x ∷ [])
eight_new mode first size =
    let more = λ (ts : List Tid) (h : ListNothing ts). one_more (new_tid mode first size) ts refl h in
    more _ (more _ (more _ (more _ (more _ (more _ (more _ (more [] (record { each = λ t. refl }))))))))

-- a station that was not live joins: its TIDs list no queue
pub join_alone : (w : World) (s window start exponent weight : ℕ) → is_live w s ≡ false →
    flows_part (join_outcome w s window start exponent weight).world ≡ flows_part w
unfolding join_outcome
join_alone w s window start exponent weight off =
    part_same_lists w s _ (fun_ext (λ t. (eight_new Agreed start window).each t
    ∙ sym (no_lists (at None w.stations s) t off)))

pub stands_joined : (v : FlowsValue) (w : World) (s window start exponent weight : ℕ) → is_live w s ≡ false →
    FlowsStandFor v w → FlowsStandFor v (join_outcome w s window start exponent weight).world
stands_joined v w s window start exponent weight off st =
    subst (Stands v) (sym (join_alone w s window start exponent weight off)) st

pub offload_alone : (w : World) (s exponent weight : ℕ) → is_live w s ≡ false →
    flows_part (offload_outcome w s exponent weight).world ≡ flows_part w
unfolding offload_outcome
offload_alone w s exponent weight off =
    part_same_lists w s _ (fun_ext (λ t. (eight_new Mode.Plain 0 greatest_window).each t
    ∙ sym (no_lists (at None w.stations s) t off)))

pub stands_offloaded : (v : FlowsValue) (w : World) (s exponent weight : ℕ) → is_live w s ≡ false →
    FlowsStandFor v w → FlowsStandFor v (offload_outcome w s exponent weight).world
stands_offloaded v w s exponent weight off st =
    subst (Stands v) (sym (offload_alone w s exponent weight off)) st

pub plain_alone : (w : World) (s start exponent weight : ℕ) → is_live w s ≡ false →
    flows_part (plain_outcome w s start exponent weight).world ≡ flows_part w
unfolding plain_outcome
plain_alone w s start exponent weight off =
    part_same_lists w s _ (fun_ext (λ t. (eight_new Mode.Plain start plain_window).each t
    ∙ sym (no_lists (at None w.stations s) t off)))

pub stands_plain : (v : FlowsValue) (w : World) (s start exponent weight : ℕ) → is_live w s ≡ false →
    FlowsStandFor v w → FlowsStandFor v (plain_outcome w s start exponent weight).world
stands_plain v w s start exponent weight off st =
    subst (Stands v) (sym (plain_alone w s start exponent weight off)) st

pub off_lists_alone : (cs : List Class) (w : World) (s : ℕ) →
    flows_part (without_listings w s cs) ≡ flows_part w
unfolding without_listings
off_lists_alone [] w s = refl
off_lists_alone (c ∷ cs) w s = off_lists_alone cs _ s ∙ rotation_alone w c _

-- a station leaves whose TIDs list no queue
pub stands_gone : (v : FlowsValue) (w : World) (s : ℕ) → FlowsStandFor v w →
    ((t : ℕ) → t < 8 → tid_rotation v (tid_number s t) ≡ no_keys) →
    FlowsStandFor v (with_station (without_listings w s all_classes) s None)
stands_gone v w s st empty =
    subst (Stands v) (sym (part_with_station (without_listings w s all_classes) s None
    ∙ ap (λ (p : Part). record p { lists = upd p.lists s (lists_in None) })
    (off_lists_alone all_classes w s)))
    (record {
      sized = st.sized;
      settings = st.settings;
      items = st.items;
      codels = st.codels;
      lists = λ a b low_a low_b. elim (cases_eq a s) [
        | inl e ↦ ap (λ (n : ℕ). upd (flows_part w).lists s (lists_in None) n b) e
            ∙ ap (λ (f : ℕ → Rotation). f b) (upd_same (flows_part w).lists s (lists_in None))
            ∙ sym (empty b low_b) ∙ ap (λ (n : ℕ). tid_rotation v (tid_number n b)) (sym e)
        | inr other ↦ ap (λ (f : ℕ → Rotation). f b) (upd_other (flows_part w).lists s a
            (lists_in None) other) ∙ st.lists a b low_a low_b
      ];
      once = st.once;
      below = st.below;
      deficits = st.deficits;
      finished = st.finished;
      fates = st.fates;
      accepted = st.accepted;
      held_once = st.held_once;
      flows = st.flows;
    })

-- ---- the scheduler's parts of a call

pay_stations_alone : (ss : List ℕ) (w : World) (c : Class) (quanta : ℕ → ℕ) →
    flows_part (with_stations_paid w c quanta ss) ≡ flows_part w
unfolding with_stations_paid with_station_paid
pay_stations_alone [] w c quanta = refl
pay_stations_alone (s ∷ ss) w c quanta = pay_stations_alone ss _ c quanta ∙ share_alone w s c _

pub pick_alone : (w : World) (c : Class) → flows_part (after_pick w c) ≡ flows_part w
unfolding after_pick with_rotation
pick_alone w c = pay_stations_alone _ w c _

pub bounds_alone : (w : World) (b : Bounds) → flows_part (with_bounds w b) ≡ flows_part w
bounds_alone w b = refl

pub turn_alone : (w : World) (s : ℕ) (c : Class) (t : ℕ) → flows_part (after_tid_turn w s c t) ≡ flows_part w
unfolding after_tid_turn
turn_alone w s c t = share_alone w s c _

on_both : (b : Bool) (p : Part) (w x : World) → flows_part w ≡ p → flows_part x ≡ p →
    flows_part (if b then w else x) ≡ p
on_both true p w x h k = h
on_both false p w x h k = k

listed_in_all_alone : (cs : List Class) (w : World) (s : ℕ) →
    flows_part (with_listings_in w s cs) ≡ flows_part w
unfolding with_listings_in with_listing_in with_rotation
listed_in_all_alone [] w s = refl
listed_in_all_alone (c ∷ cs) w s = listed_in_all_alone cs _ s ∙ on_both _ (flows_part w) _ w refl refl

pub listed_alone : (w : World) (o : Option ℕ) → flows_part (with_listings_of w o) ≡ flows_part w
unfolding with_listings_of
listed_alone w None = refl
listed_alone w (Some s) = listed_in_all_alone all_classes w s
