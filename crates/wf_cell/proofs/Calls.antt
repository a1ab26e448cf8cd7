-- Proves the effect of each call on an engine, from the effect on its path, its receive halves and its marks.
use Rattle.std.proofs.Common.{◌≡◌, refl, ap, sym, ◌∙◌, subst, arith, ℕ, ◌<◌, ◌≤◌, ◌++◌, Bool, true, false, List, [], ◌∷◌, Option, Some, None, length}
use Rattle.std.specs.Prelude.{is_none, ◌||◌, All}
use Rattle.wf_frame.specs.Answers.{reply_with}
use Rattle.wf_frame.specs.Frames.{FrameValue}
use Rattle.wf_frame.specs.declared.answers.Brief.{Brief}
use Rattle.wf_frame.specs.declared.answers.Brief.TheVariants as brief
use Rattle.wf_frame.specs.declared.answers.Kind.{Kind}
use Rattle.wf_frame.specs.declared.classes.Class.{Class}
use Rattle.wf_frame.specs.declared.notes.Ask.{Ask}
use Rattle.wf_frame.specs.declared.notes.Ask.TheVariants as ask
use Rattle.wf_frame.specs.declared.notes.Limits.{Limits}
use Rattle.wf_frame.specs.declared.notes.Note.{Note}
use Rattle.wf_frame.specs.declared.notes.Note.TheVariants.{Asked}
use Rattle.wf_frame.specs.declared.notes.Part.{Part}
use Rattle.wf_frame.specs.declared.notes.Refusal.{Refusal}
use Rattle.wf_frame.specs.declared.notes.ReplyNote.{ReplyNote}
use Rattle.wf_frame.specs.declared.notes.ReplyNote.TheVariants as reply
use Rattle.wf_def_lists.specs.Bounds.{greatest_window}
use Rattle.wf_def_world.specs.World.{World, Exchange, exchange}
use Rattle.wf_def_world.specs.Exchanges.{picked_station, after_tid_turn, sending_tid, prepared_exchange, exchange_of, Prepared, part_of as world_part_of}
use Rattle.wf_def_world.specs.Refusals.{refusal, refusals}
use Rattle.wf_def_world.specs.Step.{Outcome, outcome_of, outcome_where_open, plain_window, join_outcome, offload_outcome, plain_outcome, flush_outcome, done_outcome, pull_outcome, pull_outcome_for, send_outcome, step}
use Rattle.wf_law_runs.proofs.Common.Picked.{picked_world}
use Rattle.wf_law_runs.proofs.Deficits.KeptStep.{no_row}
use Rattle.wf_recv_marks.specs.declared.marks.Mark.{Mark}
use Rattle.wf_recv_marks.specs.Marks.{new_mark}
use Rattle.wf_octets.specs.Addresses.{base}
use Rattle.wf_recv_peer.specs.Agreements.{PeerValue, new_peer}
use Rattle.wf_send_half_model.specs.Half.{TransmitValue}
use Rattle.wf_send_half_model.specs.Standing.{StandsFor, IsReached, Meets as PathMeets}
use Rattle.wf_send_half_model.proofs.Reached.{step_done, step_refused}
use Rattle.wf_path.specs.declared.job.Job.{Job}
use Rattle.wf_path.specs.declared.job.Job.TheVariants.{Call}
use Rattle.wf_path.specs.declared.asks.PathAsk.{PathAsk}
use Rattle.wf_path.specs.declared.asks.PathAsk.TheVariants as path_ask
use Rattle.wf_path.specs.declared.asks.PathJob.{PathJob}
use Rattle.wf_path.specs.declared.asks.PathJob.TheVariants as path_job
use Rattle.wf_path.specs.Jobs.{as_ask, job_of, note_of, MayCall, bodies_after, changes_nothing, frame_given_back, with_released}
use Rattle.wf_cell_model.specs.Arriving.{IsUntold}
use Rattle.wf_cell_model.specs.Catching.{peers_caught_up}
use Rattle.wf_cell_model.specs.Hearing.{Hears, HasAddresses, new_receive_half, with_peer, peer_of}
use Rattle.wf_cell.specs.declared.engine.Newcomer.{Newcomer}
use Rattle.wf_cell.specs.Engines.{newcomer_of, EngineValue, EngineIsIn, IsJobDone, EngineMeets}
use Rattle.wf_cell.specs.Cells.{is_received}
use Rattle.wf_cell_model.proofs.Keeping.{untold_hears, refused_hears}
use Rattle.wf_cell_model.proofs.Catching.{flushed_hears}
use Rattle.wf_cell_model.proofs.Joining.{joined_hears, offloaded_hears, plain_hears, offloaded_in_range, plain_in_range, plain_start_in_range, station_in_range, window_in_range, start_in_range}
use Rattle.wf_cell_model.proofs.Opening.{opened_hears, opened_number, marks_within, marks_below}

-- ---- the path's effect of a job, and the returned frame

pub record PathTakes (before : TransmitValue) (job : Job) (after : TransmitValue) (answered : ReplyNote)
    (back : Option FrameValue) : Type 0 where
  pub meets : (w : World) (bodies : ℕ → FrameValue) → StandsFor before w bodies → MayCall w job →
      PathMeets w (bodies_after before w job answered bodies) (note_of job) after
      (with_released w job answered)
  pub parcel : (w : World) (bodies : ℕ → FrameValue) → StandsFor before w bodies →
      back ≡ frame_given_back bodies job answered

-- a call that changes no receive half releases nothing
pub untold_same : (job : Job) (w : World) (answered : ReplyNote) → IsUntold (note_of job) →
    with_released w job answered ≡ answered
untold_same (Call (ask.Cease s t)) w answered untold = absurd untold
untold_same job w answered untold = refl

-- a call that changes no receive half and no mark, in its effect on the path
pub untold_meets : (v : EngineValue) (after : TransmitValue) (note : Note) (answered : ReplyNote) (w : World)
    (bodies others : ℕ → FrameValue) → EngineIsIn v w bodies → PathMeets w others note after answered →
    IsUntold note → EngineMeets w others note (record v { half = after }) answered
untold_meets v after note answered w bodies others i m untold = record {
  is_in = record {
    half = m.stands;
    hears = untold_hears v.peers v.marks w note i.half.reached i.hears untold;
  };
  reply = m.reply;
}

-- A job that changes no receive half and no mark. u is the engine before it, and v has the fields of u.
pub untold_done : (v u : EngineValue) → v ≡ u → (job : Job) (after : TransmitValue) (answered : ReplyNote)
    (back : Option FrameValue) → PathTakes v.half job after answered back → IsUntold (note_of job) →
    ((w : World) → MayCall w job) → (w : World) (bodies : ℕ → FrameValue) → EngineIsIn u w bodies →
    IsJobDone w bodies job u.half (record v { half = after }) answered back
untold_done v u same job after answered back path untold may w bodies i =
    subst (λ (x : EngineValue). IsJobDone w bodies job x.half (record v { half = after }) answered back) same
    (of (subst (λ (x : EngineValue). EngineIsIn x w bodies) (sym same) i))
  where
    of : EngineIsIn v w bodies → IsJobDone w bodies job v.half (record v { half = after }) answered back
    of j =
        let m = untold_meets v after (note_of job) answered w bodies
        (bodies_after v.half w job answered bodies) j
        (subst (PathMeets w (bodies_after v.half w job answered bodies) (note_of job) after)
        (untold_same job w answered untold) (path.meets w bodies j.half (may w))) untold in
        record { is_in = m.is_in; reply = m.reply; back = path.parcel w bodies j.half }

-- a job without a frame that returns no frame, from the effect of its call
pub ask_done : (v u : EngineValue) (a : Ask) (answered : ReplyNote) →
    ((bodies : ℕ → FrameValue) → frame_given_back bodies (Call a) answered ≡ None) →
    ((w : World) (bodies : ℕ → FrameValue) → EngineIsIn v w bodies →
    EngineMeets w (bodies_after v.half w (Call a) answered bodies) (Asked a) u answered) →
    (w : World) (bodies : ℕ → FrameValue) → EngineIsIn v w bodies →
    IsJobDone w bodies (Call a) v.half u answered None
ask_done v u a answered none meets w bodies i =
    let m = meets w bodies i in record { is_in = m.is_in; reply = m.reply; back = sym (none bodies) }

-- ---- refusals and replies

-- a call whose reply is not a refusal is not refused
pub not_refused : (w : World) (note : Note) → ((r : Refusal) → (step w note).reply ≡ reply.Refused r → ⊥) →
    refusal w note ≡ None
not_refused w note other = of (refusal w note) refl
  where
    of : (o : Option Refusal) → refusal w note ≡ o → refusal w note ≡ None
    of None e = e
    of (Some r) e = absurd (other r (ap (λ (o : Outcome). o.reply) (step_refused w note r e)))

-- why a call is refused
pub record IsRefused (w : World) (note : Note) : Type 0 where
  pub reason : Refusal
  pub refused : refusal w note ≡ Some reason

-- a call that is not accepted is refused
pub refused_else : (w : World) (note : Note) → (refusal w note ≡ None → ⊥) → IsRefused w note
refused_else w note other = of (refusal w note) refl
  where
    of : (o : Option Refusal) → refusal w note ≡ o → IsRefused w note
    of None e = absurd (other e)
    of (Some r) e = record { reason = r; refused = e }

-- the reply of a Flush
pub record IsFlushed (answered : ReplyNote) : Type 0 where
  pub dropped : ℕ
  pub is : answered ≡ reply.Flushed dropped

pub done_reply : (w : World) (note : Note) → refusal w note ≡ None →
    (step w note).reply ≡ (outcome_of w note).reply
done_reply w note e = ap (λ (o : Outcome). o.reply) (step_done w note e)

-- a Done that is not refused has a reply that is not a refusal
open_ends : (w : World) (heard : Bool) (air : Option ℕ) (o : Option Exchange) →
    changes_nothing (outcome_where_open w o (λ x. done_outcome w x heard air)).reply ≡ false
unfolding outcome_where_open done_outcome
open_ends w heard air None = refl
open_ends w heard air (Some x) = refl

pub ended_reply : (w : World) (e : ℕ) (heard : Bool) (air : Option ℕ) →
    refusal w (Asked (ask.Done e heard air)) ≡ None →
    changes_nothing (step w (Asked (ask.Done e heard air))).reply ≡ false
unfolding outcome_of
ended_reply w e heard air done =
    ap changes_nothing (done_reply w (Asked (ask.Done e heard air)) done)
    ∙ open_ends w heard air (exchange w e)

-- a refused call leaves the receive halves and the marks unchanged
pub refused_meets : (v : EngineValue) (after : TransmitValue) (note : Note) (answered : ReplyNote) (w : World)
    (bodies others : ℕ → FrameValue) → EngineIsIn v w bodies → PathMeets w others note after answered →
    IsRefused w note → EngineMeets w others note (record v { half = after }) answered
refused_meets v after note answered w bodies others i m r = record {
  is_in = record {
    half = m.stands;
    hears = refused_hears v.peers v.marks w note r.reason i.half.reached
        i.hears r.refused;
  };
  reply = m.reply;
}

-- ---- a station joins

-- a call after which a station has joined: a Join, an Offload or a Plain
pub is_joined : (w : World) (note : Note) → (step w note).reply ≡ reply.Joined → refusal w note ≡ None
is_joined w note e = not_refused w note
    (λ r other. let two : reply.Joined ≡ reply.Refused r = sym e ∙ other in cc)

pub not_joined : (w : World) (note : Note) → (refusal w note ≡ None → (step w note).reply ≡ reply.Joined) →
    ((step w note).reply ≡ reply.Joined → ⊥) → IsRefused w note
not_joined w note joins other = refused_else w note (λ e. other (joins e))

-- such a call is one of these three
record IsNewcomer (P : PathAsk → Newcomer → Type 0) : Type 0 where
  join : (s window start exponent weight : ℕ) → P (path_ask.Join s window start exponent weight)
      (record { station = s; start = start; window = window })
  offload : (s exponent weight : ℕ) → P (path_ask.Offload s exponent weight)
      (record { station = s; start = 0; window = greatest_window })
  plain : (s start exponent weight : ℕ) → P (path_ask.Plain s start exponent weight)
      (record { station = s; start = start; window = plain_window })

for_newcomer : (P : PathAsk → Newcomer → Type 0) → IsNewcomer P → (ask : PathAsk) (new : Newcomer) →
    newcomer_of ask ≡ Some new → P ask new
for_newcomer P each (path_ask.Join s window start exponent weight) new is =
    let same : record { station = s; start = start; window = window } ≡ new = cc is in
    subst (P (path_ask.Join s window start exponent weight)) same (each.join s window start exponent weight)
for_newcomer P each (path_ask.Offload s exponent weight) new is =
    let same : record { station = s; start = 0; window = greatest_window } ≡ new = cc is in
    subst (P (path_ask.Offload s exponent weight)) same (each.offload s exponent weight)
for_newcomer P each (path_ask.Plain s start exponent weight) new is =
    let same : record { station = s; start = start; window = plain_window } ≡ new = cc is in
    subst (P (path_ask.Plain s start exponent weight)) same (each.plain s start exponent weight)
for_newcomer P each ask new is = absurd (cc is)

pub newcomer_may : (ask : PathAsk) (new : Newcomer) → newcomer_of ask ≡ Some new → (w : World) →
    MayCall w (Call (as_ask ask))
newcomer_may = for_newcomer (λ ask new. (w : World) → MayCall w (Call (as_ask ask)))
    (record { join = λ _ _ _ _ _ _. tt; offload = λ _ _ _ _. tt; plain = λ _ _ _ _ _. tt })

pub newcomer_reply : (ask : PathAsk) (new : Newcomer) → newcomer_of ask ≡ Some new → (w : World) →
    refusal w (Asked (as_ask ask)) ≡ None → (step w (Asked (as_ask ask))).reply ≡ reply.Joined
unfolding outcome_of join_outcome offload_outcome plain_outcome
newcomer_reply = for_newcomer (λ ask new. (w : World) → refusal w (Asked (as_ask ask)) ≡ None →
    (step w (Asked (as_ask ask))).reply ≡ reply.Joined)
    (record {
      join = λ s window start exponent weight w.
          done_reply w (Asked (ask.Join s window start exponent weight));
      offload = λ s exponent weight w. done_reply w (Asked (ask.Offload s exponent weight));
      plain = λ s start exponent weight w. done_reply w (Asked (ask.Plain s start exponent weight));
    })

-- the station's number, the window and the first number are in their ranges
pub record IsInBounds (w : World) (new : Newcomer) : Type 0 where
  pub station : new.station < w.config.stations
  pub window : (1 ≤ new.window) × (new.window ≤ 256)
  pub start : new.start < 4096

pub newcomer_fits : (ask : PathAsk) (new : Newcomer) → newcomer_of ask ≡ Some new → (w : World) →
    refusal w (Asked (as_ask ask)) ≡ None → IsInBounds w new
newcomer_fits = for_newcomer (λ ask new. (w : World) → refusal w (Asked (as_ask ask)) ≡ None →
    IsInBounds w new)
    (record {
      join = λ s window start exponent weight w fine. record {
        station = station_in_range w s window start exponent weight fine;
        window = window_in_range w s window start exponent weight fine;
        start = start_in_range w s window start exponent weight fine;
      };
      offload = λ s exponent weight w fine. record {
        station = offloaded_in_range w s exponent weight fine;
        window = (omega arith, omega arith);
        start = omega arith;
      };
      plain = λ s start exponent weight w fine. record {
        station = plain_in_range w s start exponent weight fine;
        window = (omega arith, omega arith);
        start = plain_start_in_range w s start exponent weight fine;
      };
    })

newcomer_hears : (ask : PathAsk) (new : Newcomer) → newcomer_of ask ≡ Some new → (peers : List PeerValue)
    (marks : List Mark) (w : World) → IsReached w → Hears peers marks w →
    refusal w (Asked (as_ask ask)) ≡ None →
    Hears (with_peer new.station (new_receive_half new.station new.start new.window) peers) marks
    (step w (Asked (as_ask ask))).world
newcomer_hears = for_newcomer (λ ask new. (peers : List PeerValue) (marks : List Mark) (w : World) →
    IsReached w → Hears peers marks w → refusal w (Asked (as_ask ask)) ≡ None →
    Hears (with_peer new.station (new_receive_half new.station new.start new.window) peers) marks
    (step w (Asked (as_ask ask))).world)
    (record {
      join = λ s window start exponent weight peers marks w.
          joined_hears peers marks w s window start exponent weight;
      offload = λ s exponent weight peers marks w. offloaded_hears peers marks w s exponent weight;
      plain = λ s start exponent weight peers marks w. plain_hears peers marks w s start exponent weight;
    })

-- a call by which a station joins changes no frame, and releases nothing
newcomer_takes : (v : TransmitValue) (after : TransmitValue) (answered : ReplyNote) (bodies : ℕ → FrameValue)
    (ask : PathAsk) (new : Newcomer) → newcomer_of ask ≡ Some new → (w : World) →
    PathMeets w (bodies_after v w (Call (as_ask ask)) answered bodies) (Asked (as_ask ask)) after
    (with_released w (Call (as_ask ask)) answered) → PathMeets w bodies (Asked (as_ask ask)) after answered
newcomer_takes v after answered bodies = for_newcomer (λ ask new. (w : World) →
    PathMeets w (bodies_after v w (Call (as_ask ask)) answered bodies) (Asked (as_ask ask)) after
    (with_released w (Call (as_ask ask)) answered) → PathMeets w bodies (Asked (as_ask ask)) after answered)
    (record { join = λ _ _ _ _ _ _ m. m; offload = λ _ _ _ _ m. m; plain = λ _ _ _ _ _ m. m })

-- a job by which a station joins, from the effect of its call: it returns no frame
pub newcomer_job : (v u : EngineValue) (answered : ReplyNote) (ask : PathAsk) (new : Newcomer) →
    newcomer_of ask ≡ Some new → ((w : World) (bodies : ℕ → FrameValue) → EngineIsIn v w bodies →
    EngineMeets w bodies (Asked (as_ask ask)) u answered) → (w : World) (bodies : ℕ → FrameValue) →
    EngineIsIn v w bodies → IsJobDone w bodies (Call (as_ask ask)) v.half u answered None
newcomer_job v u answered = for_newcomer (λ ask new. ((w : World) (bodies : ℕ → FrameValue) →
    EngineIsIn v w bodies → EngineMeets w bodies (Asked (as_ask ask)) u answered) →
    (w : World) (bodies : ℕ → FrameValue) → EngineIsIn v w bodies →
    IsJobDone w bodies (Call (as_ask ask)) v.half u answered None)
    (record {
      join = λ s window start exponent weight.
          ask_done v u (ask.Join s window start exponent weight) answered (λ b. refl);
      offload = λ s exponent weight. ask_done v u (ask.Offload s exponent weight) answered (λ b. refl);
      plain = λ s start exponent weight.
          ask_done v u (ask.Plain s start exponent weight) answered (λ b. refl);
    })

-- a station that joins has a new receive half, if that is what the machine's receivers are then
new_half_meets : (v : EngineValue) (after : TransmitValue) (answered : ReplyNote) (w : World)
    (bodies : ℕ → FrameValue) (note : Note) (s start window : ℕ) → EngineIsIn v w bodies →
    PathMeets w bodies note after answered → s < w.config.stations →
    Hears (with_peer s (new_receive_half s start window) v.peers) v.marks (step w note).world →
    EngineMeets w bodies note
    (record v {
      half = after;
      peers = with_peer s
          (new_peer (peer_of v.peers s).own (peer_of v.peers s).base start window) v.peers;
    }) answered
new_half_meets v after answered w bodies note s start window i m low hears =
    let p : PeerValue = peer_of v.peers s in
    let its : HasAddresses s p = i.hears.sized.addresses s low in
    record {
      is_in = record {
        half = m.stands;
        hears =
            subst (λ (q : PeerValue). Hears (with_peer s q v.peers) v.marks (step w note).world)
            (ap (λ a. new_peer a base start window) (sym its.own)
            ∙ ap (λ a. new_peer p.own a start window) (sym its.base)) hears;
      };
      reply = m.reply;
    }

module _ (v : EngineValue) (after : TransmitValue) (answered : ReplyNote) (w : World)
    (bodies : ℕ → FrameValue) (i : EngineIsIn v w bodies) (ask : PathAsk) (new : Newcomer)
    (is : newcomer_of ask ≡ Some new)
    (m : PathMeets w (bodies_after v.half w (Call (as_ask ask)) answered bodies) (Asked (as_ask ask)) after
    (with_released w (Call (as_ask ask)) answered)) where
  pub newcomer_met : PathMeets w bodies (Asked (as_ask ask)) after answered
  newcomer_met = newcomer_takes v.half after answered bodies ask new is w m

  pub newcomer_done : answered ≡ reply.Joined → refusal w (Asked (as_ask ask)) ≡ None
  newcomer_done joined = is_joined w (Asked (as_ask ask)) (sym newcomer_met.reply ∙ joined)

  pub newcomer_meets : answered ≡ reply.Joined → EngineMeets w bodies (Asked (as_ask ask)) (record v {
    half = after;
    peers = with_peer new.station
        (new_peer (peer_of v.peers new.station).own (peer_of v.peers new.station).base new.start new.window)
        v.peers;
  }) answered
  newcomer_meets joined =
      let done = newcomer_done joined in
      new_half_meets v after answered w bodies (Asked (as_ask ask)) new.station new.start new.window i
      newcomer_met (newcomer_fits ask new is w done).station
      (newcomer_hears ask new is v.peers v.marks w i.half.reached i.hears done)

  pub newcomer_refused : (answered ≡ reply.Joined → ⊥) →
      EngineMeets w bodies (Asked (as_ask ask)) (record v { half = after }) answered
  newcomer_refused other = refused_meets v after (Asked (as_ask ask)) answered w bodies bodies i newcomer_met
      (not_joined w (Asked (as_ask ask)) (newcomer_reply ask new is w)
      (λ joined. other (newcomer_met.reply ∙ joined)))

-- ---- a flush

pub flushed_reply : (w : World) (s t : ℕ) → refusal w (Asked (ask.Flush s t)) ≡ None →
    IsFlushed (step w (Asked (ask.Flush s t))).reply
unfolding outcome_of flush_outcome
flushed_reply w s t e =
    subst IsFlushed (sym (done_reply w (Asked (ask.Flush s t)) e)) (record { dropped = _; is = refl })

module _ (w : World) (s t : ℕ) where
  pub is_flushed : IsFlushed (step w (Asked (ask.Flush s t))).reply → refusal w (Asked (ask.Flush s t)) ≡ None
  is_flushed f = not_refused w (Asked (ask.Flush s t))
      (λ r other. let two : reply.Flushed f.dropped ≡ reply.Refused r = sym f.is ∙ other in cc)

  pub not_flushed : (IsFlushed (step w (Asked (ask.Flush s t))).reply → ⊥) →
      IsRefused w (Asked (ask.Flush s t))
  not_flushed other = refused_else w (Asked (ask.Flush s t)) (λ e. other (flushed_reply w s t e))

-- the receive half of a TID without an agreement catches up
pub flushed_meets : (v : EngineValue) (after : TransmitValue) (answered : ReplyNote) (w : World)
    (bodies : ℕ → FrameValue) (s t : ℕ) → EngineIsIn v w bodies →
    PathMeets w bodies (Asked (ask.Flush s t)) after answered → refusal w (Asked (ask.Flush s t)) ≡ None →
    (peers : List PeerValue) → peers ≡ peers_caught_up (step w (Asked (ask.Flush s t))).world s t v.peers →
    EngineMeets w bodies (Asked (ask.Flush s t)) (record v { half = after; peers = peers }) answered
flushed_meets v after answered w bodies s t i m done peers are = record {
  is_in = record {
    half = m.stands;
    hears = subst (λ (ps : List PeerValue). Hears ps v.marks (step w (Asked (ask.Flush s t))).world) (sym are)
        (flushed_hears v.peers v.marks w s t i.half.reached i.hears done);
  };
  reply = m.reply;
}

-- ---- a pull

-- the reply says that an exchange opens, and has these numbers
pub record IsSend (answered : ReplyNote) : Type 0 where
  pub number : ℕ
  pub station : ℕ
  pub tid : ℕ
  pub charge : ℕ
  pub part : Part
  pub more : Bool
  pub eosp : Bool
  pub is : answered ≡ reply.Send number station tid charge part more eosp

send_is : (s t : ℕ) (c : Class) (p : Prepared) → IsSend (send_outcome s t c p).reply
unfolding send_outcome
send_is s t c p =
    let x : Exchange = exchange_of s t c p in
    record {
      number = x.number;
      station = s;
      tid = t;
      charge = x.charge;
      part = world_part_of x.batch x.plain x.content;
      more = x.more;
      eosp = x.eosp;
      is = refl;
    }

picked_is : (w : World) (c : Class) (s : ℕ) → IsSend (pull_outcome_for w c (Some s)).reply
unfolding pull_outcome_for
picked_is w c s = send_is s (sending_tid w s c) c
    (prepared_exchange (after_tid_turn w s c (sending_tid w s c)) s (sending_tid w s c))

pulled_is : (w : World) (c : Class) (winner : Option ℕ) → is_none winner ≡ false →
    IsSend (pull_outcome_for w c winner).reply
pulled_is w c None some = absurd (cc)
pulled_is w c (Some s) some = picked_is w c s

pub pulled_reply : (w : World) (c : Class) (l : Limits) → refusal w (Asked (ask.Pull c l)) ≡ None →
    IsSend (step w (Asked (ask.Pull c l))).reply
unfolding outcome_of pull_outcome
pulled_reply w c l e =
    subst IsSend (sym (done_reply w (Asked (ask.Pull c l)) e))
    (pulled_is (picked_world w c l) c (picked_station w c).winner
    (no_row (refusals w (Asked (ask.Pull c l))) e).1.1.0)

pub not_pulled : (w : World) (c : Class) (l : Limits) → (IsSend (step w (Asked (ask.Pull c l))).reply → ⊥) →
    IsRefused w (Asked (ask.Pull c l))
not_pulled w c l other = refused_else w (Asked (ask.Pull c l)) (λ e. other (pulled_reply w c l e))

module _ (w : World) (c : Class) (l : Limits) (r : IsReached w) (answered : ReplyNote)
    (same : answered ≡ (step w (Asked (ask.Pull c l))).reply) (sent : IsSend answered) where
  pub is_pulled : refusal w (Asked (ask.Pull c l)) ≡ None
  is_pulled = not_refused w (Asked (ask.Pull c l))
      (λ r other. let two : reply.Send sent.number sent.station sent.tid sent.charge sent.part sent.more
      sent.eosp ≡ reply.Refused r = sym sent.is ∙ same ∙ other in cc)

  pub number_is : sent.number ≡ w.exchanges
  number_is = opened_number w c l sent.number sent.station sent.tid sent.charge sent.part sent.more
      sent.eosp r
      (sym same ∙ sent.is)

-- an exchange that opens has a mark
pub pulled_meets : (v : EngineValue) (after : TransmitValue) (answered : ReplyNote) (w : World)
    (bodies others : ℕ → FrameValue) (c : Class) (l : Limits) → EngineIsIn v w bodies →
    PathMeets w others (Asked (ask.Pull c l)) after answered → (sent : IsSend answered) →
    EngineMeets w others (Asked (ask.Pull c l)) (record
    v { half = after; marks = v.marks ++ new_mark sent.number ∷ [] }) answered
pulled_meets v after answered w bodies others c l i m sent = record {
  is_in = record {
    half = m.stands;
    hears =
        subst (λ n. Hears v.peers (v.marks ++ new_mark n ∷ []) (step w (Asked (ask.Pull c l))).world)
        (sym (number_is w c l i.half.reached answered m.reply sent))
        (opened_hears v.peers v.marks w c l i.half.reached i.hears
        (is_pulled w c l i.half.reached answered m.reply sent));
  };
  reply = m.reply;
}

-- there is room for the mark, and its number is above all others
pub record HasPlaceFor (marks : List Mark) (number : ℕ) : Type 0 where
  pub room : length marks < 32
  pub above : All (λ k. k.number < number) marks

pub mark_fits : (v : EngineValue) (after : TransmitValue) (answered : ReplyNote) (w : World)
    (bodies others : ℕ → FrameValue) (c : Class) (l : Limits) → EngineIsIn v w bodies →
    PathMeets w others (Asked (ask.Pull c l)) after answered → (sent : IsSend answered) →
    HasPlaceFor v.marks sent.number
mark_fits v after answered w bodies others c l i m sent = record {
  room = marks_within v.peers v.marks w c l i.half.reached i.hears
      (is_pulled w c l i.half.reached answered m.reply sent);
  above = subst (λ n. All (λ k. k.number < n) v.marks)
      (sym (number_is w c l i.half.reached answered m.reply sent))
      (marks_below v.peers v.marks w i.half.reached i.hears);
}

-- ---- briefs

-- a reply without lists is the same for all lists
pub same_flushed : (b : Brief) (dropped : ℕ) (pairs : List (ℕ × ℕ)) (ids up : List ℕ) →
    b ≡ brief.Flushed dropped → reply_with b pairs up ≡ reply_with b pairs ids
same_flushed b dropped pairs ids up is = ap (λ (k : Brief). reply_with k pairs up) is
    ∙ sym (ap (λ (k : Brief). reply_with k pairs ids) is)

pub flushed_brief : (b : Brief) (pairs : List (ℕ × ℕ)) (ids : List ℕ) → IsFlushed (reply_with b pairs ids) →
    ((dropped : ℕ) → b ≡ brief.Flushed dropped → ⊥) → ⊥
flushed_brief (brief.Flushed dropped) pairs ids f other = other dropped refl
flushed_brief _ pairs ids f other = cc (f.is)

pub joined_brief : (b : Brief) (pairs : List (ℕ × ℕ)) (ids : List ℕ) → reply_with b pairs ids ≡ reply.Joined →
    b ≡ brief.Joined
joined_brief brief.Joined pairs ids e = refl
joined_brief _ pairs ids e = cc

pub send_brief : (b : Brief) (pairs : List (ℕ × ℕ)) (ids : List ℕ) → IsSend (reply_with b pairs ids) →
    ((e s t a : ℕ) (r : Option ℕ) (k : Kind) (m p : Bool) → b ≡ brief.Send e s t a r k m p → ⊥) → ⊥
send_brief (brief.Send e s t a r k m p) pairs ids sent other = other e s t a r k m p refl
send_brief _ pairs ids sent other = cc (sent.is)

-- ---- calls of the path that change neither a receive half nor a mark

pub ask_untold : (ask : PathAsk) → None ≡ newcomer_of ask → ((s t : ℕ) → ask ≡ path_ask.Flush s t → ⊥) →
    ((s t window : ℕ) → ask ≡ path_ask.Begin s t window → ⊥) →
    ((s t : ℕ) → ask ≡ path_ask.Cease s t → ⊥) → IsUntold (Asked (as_ask ask))
ask_untold (path_ask.Join s window start exponent weight) no_newcomer no_flush no_begin no_cease =
    absurd (cc no_newcomer)
ask_untold (path_ask.Offload s exponent weight) no_newcomer no_flush no_begin no_cease =
    absurd (cc no_newcomer)
ask_untold (path_ask.Plain s start exponent weight) no_newcomer no_flush no_begin no_cease =
    absurd (cc no_newcomer)
ask_untold (path_ask.Flush s t) no_newcomer no_flush no_begin no_cease = no_flush s t refl
ask_untold (path_ask.Begin s t window) no_newcomer no_flush no_begin no_cease = no_begin s t window refl
ask_untold (path_ask.Cease s t) no_newcomer no_flush no_begin no_cease = no_cease s t refl
ask_untold (path_ask.Leave s) no_newcomer no_flush no_begin no_cease = tt
ask_untold (path_ask.Rate s rate) no_newcomer no_flush no_begin no_cease = tt
ask_untold (path_ask.Tick by) no_newcomer no_flush no_begin no_cease = tt
ask_untold (path_ask.Sleep s) no_newcomer no_flush no_begin no_cease = tt
ask_untold (path_ask.Wake s) no_newcomer no_flush no_begin no_cease = tt
ask_untold (path_ask.Poll s) no_newcomer no_flush no_begin no_cease = tt
ask_untold (path_ask.Rx s c air) no_newcomer no_flush no_begin no_cease = tt
ask_untold (path_ask.Ampdu s octets) no_newcomer no_flush no_begin no_cease = tt
ask_untold (path_ask.Stop s) no_newcomer no_flush no_begin no_cease = tt
ask_untold (path_ask.Start s) no_newcomer no_flush no_begin no_cease = tt
ask_untold (path_ask.Unsent e i) no_newcomer no_flush no_begin no_cease = tt
ask_untold (path_ask.GiveUp e i) no_newcomer no_flush no_begin no_cease = tt
ask_untold (path_ask.Weight s weight) no_newcomer no_flush no_begin no_cease = tt
ask_untold (path_ask.Hold s t) no_newcomer no_flush no_begin no_cease = tt
ask_untold (path_ask.Free s t) no_newcomer no_flush no_begin no_cease = tt
ask_untold (path_ask.Group ask) no_newcomer no_flush no_begin no_cease = tt
ask_untold (path_ask.Service ask) no_newcomer no_flush no_begin no_cease = tt
ask_untold (path_ask.Bss s b) no_newcomer no_flush no_begin no_cease = tt

-- such a call may be made in any world, except an Unsent
pub ask_may : (ask : PathAsk) → ((e i : ℕ) → ask ≡ path_ask.Unsent e i → ⊥) → (w : World) →
    MayCall w (Call (as_ask ask))
ask_may (path_ask.Unsent e i) other w = absurd (other e i refl)
ask_may (path_ask.Join s window start exponent weight) other w = tt
ask_may (path_ask.Leave s) other w = tt
ask_may (path_ask.Rate s rate) other w = tt
ask_may (path_ask.Tick by) other w = tt
ask_may (path_ask.Sleep s) other w = tt
ask_may (path_ask.Wake s) other w = tt
ask_may (path_ask.Poll s) other w = tt
ask_may (path_ask.Rx s c air) other w = tt
ask_may (path_ask.Ampdu s octets) other w = tt
ask_may (path_ask.Stop s) other w = tt
ask_may (path_ask.Start s) other w = tt
ask_may (path_ask.GiveUp e i) other w = tt
ask_may (path_ask.Flush s t) other w = tt
ask_may (path_ask.Offload s exponent weight) other w = tt
ask_may (path_ask.Weight s weight) other w = tt
ask_may (path_ask.Plain s start exponent weight) other w = tt
ask_may (path_ask.Hold s t) other w = tt
ask_may (path_ask.Begin s t window) other w = tt
ask_may (path_ask.Free s t) other w = tt
ask_may (path_ask.Cease s t) other w = tt
ask_may (path_ask.Group ask) other w = tt
ask_may (path_ask.Service ask) other w = tt
ask_may (path_ask.Bss s b) other w = tt

pub job_may : (job : PathJob) → ((ask : PathAsk) → job ≡ path_job.Call ask → ⊥) → (w : World) →
    MayCall w (job_of job)
job_may (path_job.Give f) no_call w = tt
job_may path_job.Reap no_call w = tt
job_may (path_job.Call ask) no_call w = absurd (no_call ask refl)
job_may (path_job.Pull c l) no_call w = tt

pub job_untold : (job : PathJob) → ((ask : PathAsk) → job ≡ path_job.Call ask → ⊥) →
    ((c : Class) (l : Limits) → job ≡ path_job.Pull c l → ⊥) → IsUntold (note_of (job_of job))
job_untold (path_job.Give f) no_call no_pull = tt
job_untold path_job.Reap no_call no_pull = tt
job_untold (path_job.Call ask) no_call no_pull = absurd (no_call ask refl)
job_untold (path_job.Pull c l) no_call no_pull = no_pull c l refl

not_received : (job : PathJob) → is_received (job_of job) ≡ false
not_received (path_job.Give f) = refl
not_received path_job.Reap = refl
not_received (path_job.Call (path_ask.Join s window start exponent weight)) = refl
not_received (path_job.Pull c l) = refl
not_received (path_job.Call (path_ask.Leave s)) = refl
not_received (path_job.Call (path_ask.Rate s rate)) = refl
not_received (path_job.Call (path_ask.Tick by)) = refl
not_received (path_job.Call (path_ask.Sleep s)) = refl
not_received (path_job.Call (path_ask.Wake s)) = refl
not_received (path_job.Call (path_ask.Poll s)) = refl
not_received (path_job.Call (path_ask.Rx s c air)) = refl
not_received (path_job.Call (path_ask.Ampdu s octets)) = refl
not_received (path_job.Call (path_ask.Stop s)) = refl
not_received (path_job.Call (path_ask.Start s)) = refl
not_received (path_job.Call (path_ask.Unsent e i)) = refl
not_received (path_job.Call (path_ask.GiveUp e i)) = refl
not_received (path_job.Call (path_ask.Flush s t)) = refl
not_received (path_job.Call (path_ask.Offload s exponent weight)) = refl
not_received (path_job.Call (path_ask.Weight s weight)) = refl
not_received (path_job.Call (path_ask.Plain s start exponent weight)) = refl
not_received (path_job.Call (path_ask.Hold s t)) = refl
not_received (path_job.Call (path_ask.Begin s t window)) = refl
not_received (path_job.Call (path_ask.Free s t)) = refl
not_received (path_job.Call (path_ask.Cease s t)) = refl
not_received (path_job.Call (path_ask.Group ask)) = refl
not_received (path_job.Call (path_ask.Service ask)) = refl
not_received (path_job.Call (path_ask.Bss s b)) = refl

-- for a call of the path alone, the reply says whether the path is unchanged
pub path_kept_by : (job : PathJob) (answered : ReplyNote) →
    (is_received (job_of job) || changes_nothing answered) ≡ true → changes_nothing answered ≡ true
path_kept_by job answered is = ap (λ (b : Bool). b || changes_nothing answered) (sym (not_received job)) ∙ is
