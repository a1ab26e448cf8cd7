-- Proves the steps of a flush of a TID, and of the drop of its waiting numbers for any cause, from what each
-- does to the parts of the half.
use Rattle.std.proofs.Common.{◌≡◌, ◌≢◌, refl, ap, sym, ◌∙◌, subst, arith, ℕ, ◌+◌, ◌%◌, ◌<◌, ◌≤◌, ◌^◌, true, is_some, List, [], ◌∷◌, ◌++◌, length, length-append, Option, None}
use Rattle.wf_frame.specs.declared.classes.Cause.{Cause}
use Rattle.wf_frame.specs.declared.classes.Cause.TheVariants.{Flushed}
use Rattle.wf_frame.specs.declared.classes.Fate.TheVariants.{Held, Dropped}
use Rattle.wf_frame.specs.declared.notes.Ask.TheVariants.{Flush}
use Rattle.wf_frame.specs.declared.notes.Note.TheVariants.{Asked}
use Rattle.wf_frame.specs.declared.notes.ReplyNote.TheVariants as reply
use Rattle.wf_frame.specs.declared.settings.Config.{Config}
use Rattle.wf_frame.specs.Classes.{tid_number}
use Rattle.wf_frame.specs.Frames.{FrameValue}
use Rattle.wf_def_agreement.specs.Session.{Session, start_of, next_number}
use Rattle.wf_def_world.specs.World.{World, is_live, session}
use Rattle.wf_def_world.specs.Exchanges.{caught_up_if_plain}
use Rattle.wf_def_world.specs.Refusals.{refusal}
use Rattle.wf_octets.specs.Distance.{distance}
use Rattle.wf_queue_flows.specs.Backlog.{held_in_backlog}
use Rattle.wf_queue_flows.specs.Flows.{SettingsValue, frames_of_tid}
use Rattle.wf_queue_flows_refines.specs.Standing.{tid_emptied}
use Rattle.wf_send_parts.specs.declared.stations.members.Member.{Member}
use Rattle.wf_send_parts.specs.Members.{member}
use Rattle.wf_send_parts.specs.Flushing.{IsFlushed, HasFlushed}
use Rattle.wf_send_parts.specs.Tally.{held_in}
use Rattle.wf_send_parts.specs.Window.{WindowValue, WindowStandsFor, waiting_from}
use Rattle.wf_send_parts.specs.Windows.{WindowsHaveRoom, window_of, with_window}
use Rattle.wf_send_parts.proofs.Flushing.{flushing_near, flushing_next, flushing_ends}
use Rattle.wf_send_half_model.specs.Half.{TransmitValue}
use Rattle.wf_send_half_model.specs.Ending.{after_finish}
use Rattle.wf_send_half_model.specs.Changes.{after_listing}
use Rattle.wf_send_half_model.specs.Flushing.{IsFlushing, HasNumbersFlushed, with_queues_flushed}
use Rattle.wf_send_half_model.specs.Standing.{Parts, StandsFor, Meets}
use Rattle.wf_send_half_model.proofs.Flushed.{flush_held, flush_few, flushed_parts, flush_meets}
use Rattle.wf_send_half_model.proofs.Flushing.{flush_begins, flush_within, flush_room, flush_next, flush_ends, flushing_few}
use Rattle.wf_send_half_model.proofs.Readers.{live_same}
use Rattle.wf_send_half.specs.Bits.{CanFinish}
use Rattle.wf_send_half.specs.Flushing.{GivesFlushed, SomeFlushes}
use Rattle.wf_send_half.proofs.Worlds.{met_by}

-- from `from` on, no number of the window waits
abbrev pub FlushesNone : ℕ → WindowValue → WindowValue → Type 0
FlushesNone from before after = (s : Session) (bodies : ℕ → FrameValue) (n : ℕ) →
    WindowStandsFor before s bodies → from ≡ n % 4096 → start_of s ≤ n → n ≤ next_number s →
    (waiting_from s n ≡ None) × WindowStandsFor after s bodies

-- the first waiting number from `from` on failed, with frame p
abbrev pub FlushesOne : Cause → ℕ → WindowValue → WindowValue → FrameValue → ℕ → Type 0
FlushesOne cause from before after p next = (limit : ℕ) (s : Session) (bodies : ℕ → FrameValue) (n : ℕ) →
    WindowStandsFor before s bodies → from ≡ n % 4096 → start_of s ≤ n → n ≤ next_number s →
    IsFlushed cause limit s bodies n after p next

-- x is the value of the fields of the half v
module _ (cause : Cause) (v x : TransmitValue) (same : x ≡ v) (s t from : ℕ) where
  flushing_at : (before : TransmitValue) (w : World) (bodies : ℕ → FrameValue) (dropped : ℕ)
      (g : GivesFlushed cause before w bodies s t v dropped from) → IsFlushing cause before w bodies s t x
      g.frames from
  flushing_at before w bodies dropped g = subst
      (λ (z : TransmitValue). IsFlushing cause before w bodies s t z g.frames from) (sym same) g.flushing

  pub number_there : SomeFlushes cause v s t from → tid_number s t < length x.windows
  number_there some = flush_within cause some.before x some.world some.bodies s t some.gives.frames from
      (flushing_at some.before some.world some.bodies some.dropped some.gives)

  pub search_near : SomeFlushes cause v s t from →
      distance from (window_of x.windows s t).start ≤ length (window_of x.windows s t).places
  search_near some = flushing_near cause some.world.config.attempts (window_of x.windows s t)
      (session some.world s t) some.bodies some.gives.frames from
      (flushing_at some.before some.world some.bodies some.dropped some.gives).flushed

  -- the window gave p, and the search goes on at `next`
  module _ (p : FrameValue) (next : ℕ) (windows : List WindowValue)
      (gives : FlushesOne cause from (window_of x.windows s t) (window_of windows s t) p next) where
    module _ (before : TransmitValue) (w : World) (bodies : ℕ → FrameValue) (dropped : ℕ)
        (g : GivesFlushed cause before w bodies s t v dropped from) where
      now : IsFlushing cause before w bodies s t x g.frames from
      now = flushing_at before w bodies dropped g

      one : IsFlushed cause w.config.attempts now.flushed.now bodies now.flushed.search.number
          (window_of windows s t)
          p next
      one = gives w.config.attempts now.flushed.now bodies now.flushed.search.number now.flushed.stands
          now.flushed.search.on_air now.flushed.search.from_start now.flushed.search.to_next

      goes_on : HasFlushed cause w.config.attempts (window_of windows s t) (session w s t) bodies
          (g.frames ++ p ∷ []) next
      goes_on = flushing_next cause w.config.attempts (window_of x.windows s t) (session w s t) bodies
          g.frames from
          now.flushed (window_of windows s t) p next one

      fate_is : p.fate ≡ Dropped cause
      fate_is = ap (λ (f : FrameValue). f.fate) one.dropped

      room_now : (held_in_backlog x.flows.backlog < x.flows.backlog.room) × (1 ≤ held_in x.tally)
      room_now = flush_room cause before x w bodies s t g.frames from now (window_of windows s t) p next
          goes_on

      pub flushed_further : WindowsHaveRoom windows →
          windows ≡ with_window x.windows s t (window_of windows s t) →
          GivesFlushed cause before w bodies s t (after_finish (record x { windows = windows }) p)
          (dropped + 1) next
      flushed_further room others = record {
        frames = g.frames ++ p ∷ [];
        counted = omega (arith, length-append g.frames (p ∷ []), g.counted);
        flushing = subst (λ (l : List WindowValue). IsFlushing cause before w bodies s t
            (after_finish (record x { windows = l }) p) (g.frames ++ p ∷ []) next) (sym others)
            (flush_next cause before x w bodies s t g.frames from now (window_of windows s t) p next goes_on
            (subst WindowsHaveRoom others room) fate_is);
      }

    module _ (some : SomeFlushes cause v s t from) where
      pub has_fate : p.fate ≢ Held
      has_fate e = absurd (cc (e, fate_is some.before some.world some.bodies some.dropped some.gives))

      pub can_finish : CanFinish (record x { windows = windows }) 1
      can_finish =
          let room = room_now some.before some.world some.bodies some.dropped some.gives in
          record { room = omega (arith, room.0); held = room.1 }

  pub flushed_all : (windows : List WindowValue) →
      FlushesNone from (window_of x.windows s t) (window_of windows s t) → WindowsHaveRoom windows →
      windows ≡ with_window x.windows s t (window_of windows s t) →
      (before : TransmitValue) (w : World) (bodies : ℕ → FrameValue) (dropped : ℕ) →
      GivesFlushed cause before w bodies s t v dropped from →
      HasNumbersFlushed cause before w bodies s t (record x { windows = windows }) dropped
  flushed_all windows gives room others before w bodies dropped g =
      let now : IsFlushing cause before w bodies s t x g.frames from = flushing_at before w bodies dropped g
      in
      let k = gives now.flushed.now bodies now.flushed.search.number now.flushed.stands
      now.flushed.search.on_air now.flushed.search.from_start now.flushed.search.to_next in
      let ends = flushing_ends cause w.config.attempts (window_of x.windows s t) (session w s t) bodies
      g.frames from
      now.flushed (window_of windows s t) k.0 k.1 in
      subst (λ (n : ℕ). HasNumbersFlushed cause before w bodies s t (record x { windows = windows }) n)
      g.counted
      (subst (λ (l : List WindowValue). HasNumbersFlushed cause before w bodies s t (record x { windows = l })
      (length g.frames)) (sym others)
      (flush_ends cause before x w bodies s t g.frames from now (window_of windows s t)
      (subst WindowsHaveRoom others room) ends.0 ends.1))

pub first_flushes : (cause : Cause) (v : TransmitValue) (w : World) (bodies : ℕ → FrameValue) (s t from : ℕ) →
    StandsFor v w bodies → is_live w s ≡ true → t < 8 → from ≡ (window_of v.windows s t).start →
    GivesFlushed cause v w bodies s t v 0 from
first_flushes cause v w bodies s t from h live low at = record {
  frames = [];
  counted = refl;
  flushing = subst (λ (n : ℕ). IsFlushing cause v w bodies s t v [] n) (sym at)
      (flush_begins cause v w bodies s t h live low);
}

-- the number of dropped frames is bounded
pub flushed_few : (cause : Cause) (before v : TransmitValue) (w : World) (bodies : ℕ → FrameValue)
    (s t dropped from : ℕ) → GivesFlushed cause before w bodies s t v dropped from → dropped < 2 ^ 32
flushed_few cause before v w bodies s t dropped from g = omega (
  arith,
  flushing_few cause before v w bodies s t g.frames from g.flushing,
  g.counted,
  g.flushing.may.stood.reached.in_range.room.1,
)

-- ---- the queues and the end

-- no number of v waits any longer, and x is the value of its fields
module _ (before v x : TransmitValue) (same : x ≡ v) (w : World) (bodies : ℕ → FrameValue) (s t dropped : ℕ)
    (left : HasNumbersFlushed Flushed before w bodies s t v dropped)
    (fine : refusal w (Asked (Flush s t)) ≡ None) where
  left_at : HasNumbersFlushed Flushed before w bodies s t x dropped
  left_at = subst (λ (z : TransmitValue). HasNumbersFlushed Flushed before w bodies s t z dropped) (sym same)
      left

  pub queues_held : frames_of_tid x.flows (tid_number s t) ≤ held_in x.tally
  queues_held = flush_held before x w bodies s t dropped left_at

  pub flush_fits : dropped + frames_of_tid x.flows (tid_number s t) < 2 ^ 32
  flush_fits = omega (
    arith,
    flush_few before x w bodies s t dropped left_at,
    left.may.stood.reached.in_range.room.1,
  )

  pub station_flows : s < x.flows.stations
  station_flows = omega (
    arith,
    left.may.stood.parts.others.turns.live s left.may.live,
    ap (λ (c : SettingsValue). c.stations) left_at.parts.others.flows.settings,
    ap (λ (c : Config). c.stations) (sym left_at.parts.others.config
        ∙ ap (λ (z : TransmitValue). z.config) left_at.rest ∙ left.may.stood.parts.others.config),
  )

  -- its station is live as long as it has a member
  live_then : (y : TransmitValue) → y.members ≡ x.members → Parts y (tid_emptied w s t) bodies →
      is_live (tid_emptied w s t) s ≡ true
  live_then y same parts =
      sym (live_same y (tid_emptied w s t) bodies s parts)
      ∙ ap (λ (l : List (Option Member)). is_some (member l s))
      (same ∙ ap (λ (z : TransmitValue). z.members) left_at.rest)
      ∙ live_same before w bodies s left.may.stood.parts ∙ left.may.live

  -- u is the half after the queues are emptied and the window caught up
  pub flush_done : (queued : ℕ) → queued ≡ frames_of_tid x.flows (tid_number s t) → {y : TransmitValue} →
      y ≡ with_queues_flushed x s t queued → (u after : TransmitValue) →
      ((z : World) → Parts y z bodies → is_live z s ≡ true → Parts u (caught_up_if_plain z s t) bodies) →
      after ≡ after_listing u s → Meets w bodies (Asked (Flush s t)) after (reply.Flushed (dropped + queued))
  flush_done queued count {y} y_is u after caught is =
      let parts : Parts y (tid_emptied w s t) bodies =
      subst (λ (z : TransmitValue). Parts z (tid_emptied w s t) bodies)
      (sym (y_is ∙ ap (with_queues_flushed x s t) count))
      (flushed_parts before x w bodies s t dropped left_at)
      in
      subst (λ (n : ℕ). Meets w bodies (Asked (Flush s t)) after (reply.Flushed (dropped + n))) (sym count)
      (met_by (after_listing u s) after w bodies (Asked (Flush s t))
      (reply.Flushed (dropped + frames_of_tid x.flows (tid_number s t))) is
      (flush_meets before x w bodies s t dropped left_at u fine
      (caught (tid_emptied w s t) parts
      (live_then y (ap (λ (z : TransmitValue). z.members) y_is) parts))))
