-- Proves that flow queues and world still agree after the frames of a TID are flushed.
use Rattle.std.proofs.Common.{◌≡◌, refl, ap, sym, ◌∙◌, subst, arith, ℕ, ◌<◌, List, Option, None, unwrap_or}
use Rattle.wf_frame.specs.Classes.{tid_number}
use Rattle.wf_frame.specs.declared.classes.Cause.TheVariants.{Flushed}
use Rattle.wf_frame.specs.declared.classes.Fate.TheVariants.{Dropped}
use Rattle.wf_def_lists.specs.Table.{at}
use Rattle.wf_def_rotation.specs.Rotation.{Rotation, in_order}
use Rattle.wf_def_agreement.specs.Session.{Session, after_flush as session_flushed}
use Rattle.wf_def_world.specs.World.{World, Station, no_station, no_tid, tid_of, session, accepted_count, with_station, on_station, on_tid, on_session}
use Rattle.wf_def_world.specs.FlowQueues.{after_queues_flushed}
use Rattle.wf_def_world.specs.Step.{waiting_ids, in_rising_order}
use Rattle.wf_queue_flows.specs.Backlog.{unchanged}
use Rattle.wf_queue_flows.specs.Flows.{FlowsValue, SettingsValue, tid_rotation, queues_of, all_emptied, after_tid_flush}
use Rattle.wf_queue_flows_refines.specs.Standing.{Part, waiting_flushed, FlowsStandFor, tid_emptied}
use Rattle.wf_queue_flows_refines.proofs.Emptied.{queues_flushed}
use Rattle.wf_queue_flows_refines.proofs.Leaves.{session_alone}
use Rattle.wf_queue_flows_refines.proofs.Purges.{stands_emptied_all, accepted_emptied, listed_low, listed_same, stations_finish_all, stations_config}

pub stands_flushed : (v : FlowsValue) (w : World) (s t : ℕ) → FlowsStandFor v w → s < w.config.stations →
    t < 8 →
    FlowsStandFor (after_tid_flush v (tid_number s t))
    (after_queues_flushed w (in_rising_order (in_order (tid_of w s t).queues)))
unfolding after_tid_flush
stands_flushed v w s t st high low_t =
    let low_s : s < v.stations = omega (arith, high, ap (λ (x : SettingsValue). x.stations) st.settings) in
    let i : ℕ = tid_number s t in
    let u : FlowsValue = record v { backlog = all_emptied Flushed unchanged v.backlog (queues_of v i) } in
    subst (λ (qs : List ℕ). FlowsStandFor u (after_queues_flushed w qs)) (sym (listed_same v w s t st low_s low_t))
    (subst (FlowsStandFor u) (queues_flushed (queues_of v i) w)
    (stands_emptied_all Flushed unchanged (queues_of v i) v w st (listed_low v i)))

-- ---- after the numbers that wait have failed

config_session : (w : World) (s t : ℕ) (f : Session → Session) →
    (on_session w s t f).config.stations ≡ w.config.stations
unfolding on_session on_tid on_station with_station
config_session w s t f = refl

config_waiting : (w : World) (s t : ℕ) → (waiting_flushed w s t).config.stations ≡ w.config.stations
config_waiting w s t = stations_config (waiting_ids (session w s t).slots)
    (on_session w s t (session_flushed w.config.attempts)) (Dropped Flushed)
    ∙ config_session w s t (session_flushed w.config.attempts)

-- the TID lists the same queues
pub lists_waiting : (w : World) (s t : ℕ) → (tid_of (waiting_flushed w s t) s t).queues ≡ (tid_of w s t).queues
lists_waiting w s t =
    ap (λ (xs : List (Option Station)). (at no_tid (unwrap_or (at None xs s) no_station).tids t).queues)
    (stations_finish_all (waiting_ids (session w s t).slots)
    (on_session w s t (session_flushed w.config.attempts)) (Dropped Flushed))
    ∙ ap (λ (p : Part). p.lists s t) (session_alone w s t (session_flushed w.config.attempts))

-- if v agrees with the world after the waiting numbers of the session have failed, then the flushed v
-- agrees with the world after the flush
pub stands_tid_flushed : (v : FlowsValue) (w : World) (s t : ℕ) → FlowsStandFor v (waiting_flushed w s t) →
    s < w.config.stations → t < 8 → FlowsStandFor (after_tid_flush v (tid_number s t)) (tid_emptied w s t)
stands_tid_flushed v w s t st high low_t =
    subst (λ (r : Rotation). FlowsStandFor (after_tid_flush v (tid_number s t))
    (after_queues_flushed (waiting_flushed w s t) (in_rising_order (in_order r)))) (lists_waiting w s t)
    (stands_flushed v (waiting_flushed w s t) s t st (omega (arith, high, config_waiting w s t)) low_t)

-- the queues of the TID, in rising order
pub queues_waiting : (v : FlowsValue) (w : World) (s t : ℕ) → FlowsStandFor v (waiting_flushed w s t) →
    s < v.stations → t < 8 →
    in_rising_order (in_order (tid_of w s t).queues) ≡ queues_of v (tid_number s t)
queues_waiting v w s t st low_s low_t =
    ap (λ (r : Rotation). in_rising_order (in_order r)) (sym (lists_waiting w s t))
    ∙ listed_same v (waiting_flushed w s t) s t st low_s low_t

pub accepted_flushed : (v : FlowsValue) (w : World) (s t : ℕ) → FlowsStandFor v (waiting_flushed w s t) →
    s < v.stations → t < 8 → accepted_count (tid_emptied w s t) ≡ accepted_count (waiting_flushed w s t)
accepted_flushed v w s t st low_s low_t =
    let i : ℕ = tid_number s t in
    let x : World = waiting_flushed w s t in
    ap (λ (l : List ℕ). accepted_count (after_queues_flushed x l)) (queues_waiting v w s t st low_s low_t)
    ∙ ap accepted_count (sym (queues_flushed (queues_of v i) x))
    ∙ accepted_emptied Flushed unchanged (queues_of v i) v x st (listed_low v i)

-- a flush does not change which queues the TIDs list
pub flushed_lists : (v : FlowsValue) (i j : ℕ) → tid_rotation (after_tid_flush v i) j ≡ tid_rotation v j
unfolding after_tid_flush
flushed_lists v i j = refl
