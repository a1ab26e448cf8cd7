-- Proves that the calls of the flow queues change no other part of a world.
use Rattle.std.proofs.Common.{◌≡◌, refl, ap, sym, ◌∙◌, ℕ, if◌then◌else◌, List, [], ◌∷◌, Option, Some, None}
use Rattle.std.specs.Prelude.{option_map, unwrap_or, is_some}
use Rattle.wf_frame.specs.declared.classes.Fate.{Fate}
use Rattle.wf_frame.specs.declared.notes.Note.{Note}
use Rattle.wf_def_lists.specs.Table.{at, change}
use Rattle.wf_def_air.specs.Airtime.{Rate}
use Rattle.wf_def_codel.specs.Parameters.{is_slow}
use Rattle.wf_def_codel.specs.Codel.{Params}
use Rattle.wf_def_rotation.specs.Rotation.{Rotation}
use Rattle.wf_def_agreement.specs.Session.{Session, after_flush}
use Rattle.wf_def_agreement.specs.Receiver.{Receiver}
use Rattle.wf_def_world.specs.World.{World, Mode, Station, Tid, Queue, no_station, no_tid, is_live, codel_params, with_station, on_station, on_tid, with_queues, on_queue, on_session, with_fate, with_frame_finished, with_frames_finished}
use Rattle.wf_def_world.specs.FlowQueues.{after_limit, taken_for_tid}
use Rattle.wf_def_world.specs.Step.{with_frame, enqueue_outcome, reap_outcome, after_tid_left}
use Rattle.wf_law_runs.proofs.Deficits.Books.{upd_idle, put_upd}
use Rattle.wf_queue_flows_refines.specs.Standing.{tid_emptied}
use Rattle.wf_queue_flows_refines.specs.Rest.{Rest, rest_of_world, bare, session_in, receiver_in, mode_in}
use Rattle.wf_queue_flows_refines.proofs.Through.{stays_finish_all, stays_limit, stays_put_in, stays_take, stays_left, stays_flushed}

-- ---- the parts

rest_on_queue : (w : World) (q : ℕ) (f : Queue → Queue) → rest_of_world (on_queue w q f) ≡ rest_of_world w
unfolding on_queue
rest_on_queue w q f = refl

pub rest_finish : (w : World) (fate : Fate) (id : ℕ) →
    rest_of_world (with_frame_finished w fate id) ≡ rest_of_world w
unfolding with_frame_finished with_fate
rest_finish w fate id = refl

rest_with_station : (w : World) (s : ℕ) (o : Option Station) →
    option_map bare o ≡ option_map bare (at None w.stations s) →
    session_in o ≡ session_in (at None w.stations s) → receiver_in o ≡ receiver_in (at None w.stations s) →
    mode_in o ≡ mode_in (at None w.stations s) →
    rest_of_world (with_station w s o) ≡ rest_of_world w
unfolding with_station
rest_with_station w s o same sessions receivers modes =
    ap (λ (f : ℕ → Option Station). record (rest_of_world (with_station w s o)) { stations = f })
    (put_upd (option_map bare) None w.stations s o
    ∙ upd_idle (rest_of_world w).stations s (option_map bare o) same)
    ∙ ap (λ (f : ℕ → ℕ → Session). record (rest_of_world (with_station w s o)) {
      stations =
          (rest_of_world w).stations;
      sessions = f;
    })
    (put_upd {Y = ℕ → Session} session_in None w.stations s o
    ∙ upd_idle (rest_of_world w).sessions s (session_in o) sessions)
    ∙ ap (λ (f : ℕ → ℕ → Receiver). record (rest_of_world w) {
      receivers = f;
      modes = (rest_of_world (with_station w s o)).modes;
    })
    (put_upd {Y = ℕ → Receiver} receiver_in None w.stations s o
    ∙ upd_idle (rest_of_world w).receivers s (receiver_in o) receivers)
    ∙ ap (λ (f : ℕ → ℕ → Mode). record (rest_of_world w) { modes = f })
    (put_upd {Y = ℕ → Mode} mode_in None w.stations s o
    ∙ upd_idle (rest_of_world w).modes s (mode_in o) modes)

-- a station with another rotation for one TID
abbrev with_listed : ℕ → Rotation → Station → Station
with_listed t r x = record x { tids = change no_tid x.tids t (λ y. record y { queues = r }) }

pub rest_with_queues : (w : World) (s t : ℕ) (r : Rotation) →
    rest_of_world (with_queues w s t r) ≡ rest_of_world w
unfolding with_queues on_tid on_station
rest_with_queues w s t r = rest_with_station w s _ (same (at None w.stations s))
    (sessions (at None w.stations s)) (receivers (at None w.stations s)) (modes (at None w.stations s))
  where
    same : (o : Option Station) → option_map bare (option_map (with_listed t r) o) ≡ option_map bare o
    same None = refl
    same (Some x) = refl

    sessions : (o : Option Station) → session_in (option_map (with_listed t r) o) ≡ session_in o
    sessions None = refl
    sessions (Some x) = put_upd (λ (z : Tid). z.session) no_tid x.tids t _
        ∙ upd_idle (session_in (Some x)) t _ refl

    receivers : (o : Option Station) → receiver_in (option_map (with_listed t r) o) ≡ receiver_in o
    receivers None = refl
    receivers (Some x) = put_upd (λ (z : Tid). z.receiver) no_tid x.tids t _
        ∙ upd_idle (receiver_in (Some x)) t _ refl

    modes : (o : Option Station) → mode_in (option_map (with_listed t r) o) ≡ mode_in o
    modes None = refl
    modes (Some x) = put_upd (λ (z : Tid). z.mode) no_tid x.tids t _ ∙ upd_idle (mode_in (Some x)) t _ refl

pub rest_finish_all : (ids : List ℕ) (w : World) (fate : Fate) →
    rest_of_world (with_frames_finished w fate ids) ≡ rest_of_world w
rest_finish_all = stays_finish_all rest_of_world rest_on_queue rest_with_queues rest_finish

-- ---- put, take, purge and flush

rest_with_frame : (w : World) (note : Note) → rest_of_world (with_frame w note) ≡ rest_of_world w
unfolding with_frame
rest_with_frame w note = refl

pub rest_enqueued : (w : World) (s t flow len : ℕ) →
    rest_of_world (enqueue_outcome w s t flow len).world ≡ rest_of_world w
unfolding enqueue_outcome
rest_enqueued w s t flow len = rest_with_frame _ _
    ∙ stays_put_in rest_of_world rest_on_queue rest_with_queues (after_limit w) s t _ _
    ∙ stays_limit rest_of_world rest_on_queue rest_with_queues rest_finish w

pub rest_take : (w : World) (s t : ℕ) → rest_of_world (taken_for_tid w s t).world ≡ rest_of_world w
rest_take = stays_take rest_of_world rest_on_queue rest_with_queues rest_finish

pub rest_left : (w : World) (s t : ℕ) → rest_of_world (after_tid_left w s t) ≡ rest_of_world w
rest_left = stays_left rest_of_world rest_on_queue rest_with_queues rest_finish

pub rest_flushed : (w : World) (s t : ℕ) → rest_of_world (tid_emptied w s t)
    ≡ rest_of_world (on_session w s t (after_flush w.config.attempts))
rest_flushed = stays_flushed rest_of_world rest_on_queue rest_with_queues rest_finish

-- ---- reap

pub rest_reaped : (w : World) (ids : List ℕ) → rest_of_world (reap_outcome w ids).world ≡ rest_of_world w
unfolding reap_outcome
rest_reaped w [] = refl
rest_reaped w (id ∷ ids) = refl

-- ---- what follows from an equal rest

bare_live : (o : Option Station) → is_some o ≡ is_some (option_map bare o)
bare_live None = refl
bare_live (Some x) = refl

bare_rate : (o : Option Station) → (unwrap_or o no_station).rate
    ≡ (unwrap_or (option_map bare o) no_station).rate
bare_rate None = refl
bare_rate (Some x) = refl

pub rest_live : (w x : World) (s : ℕ) → rest_of_world x ≡ rest_of_world w → is_live x s ≡ is_live w s
rest_live w x s e = bare_live (at None x.stations s) ∙ ap (λ (r : Rest). is_some (r.stations s)) e
    ∙ sym (bare_live (at None w.stations s))

params_of : Rate → Params
params_of rate = if is_slow rate then record { target = 50000; interval = 300000 }
    else record { target = 20000; interval = 100000 }

pub rest_params : (w x : World) (s : ℕ) → rest_of_world x ≡ rest_of_world w →
    codel_params x s ≡ codel_params w s
unfolding params_of
rest_params w x s e = ap params_of (bare_rate (at None x.stations s)
    ∙ ap (λ (r : Rest). (unwrap_or (r.stations s) no_station).rate) e
    ∙ sym (bare_rate (at None w.stations s)))
