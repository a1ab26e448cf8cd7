-- Proves the steps of a leave from what each does to the parts of the half.
use Rattle.std.proofs.Common.{◌≡◌, ap, sym, ◌∙◌, subst, arith, ℕ, suc, ◌+◌, ◌<◌, ◌≤◌, ◌^◌, false, List, [], ◌∷◌, ◌++◌, length, Option, None, set}
use Rattle.wf_frame.specs.declared.classes.Cause.TheVariants.{Left}
use Rattle.wf_frame.specs.declared.classes.Fate.TheVariants.{Dropped}
use Rattle.wf_frame.specs.declared.notes.Ask.TheVariants.{Leave}
use Rattle.wf_frame.specs.declared.notes.Note.TheVariants.{Asked}
use Rattle.wf_frame.specs.declared.notes.ReplyNote.TheVariants as reply
use Rattle.wf_frame.specs.Frames.{FrameValue}
use Rattle.wf_def_agreement.specs.Session.{Session, State, slot, start_of, next_number, with_state}
use Rattle.wf_def_world.specs.World.{World}
use Rattle.wf_send_parts.specs.Tally.{Counts, held_in, many_settled_as}
use Rattle.wf_queue_flows.specs.Backlog.{held_in_backlog}
use Rattle.wf_frame.specs.Classes.{tid_number}
use Rattle.wf_queue_flows.specs.Flows.{FlowsValue, frames_of_tid, after_purge}
use Rattle.wf_queue_flows_refines.specs.Standing.{with_finished}
use Rattle.wf_sched.specs.ClassRotas.{SchedValue, after_station_left as without_turns}
use Rattle.wf_sched_refines.specs.Standing.{everywhere}
use Rattle.wf_send_parts.specs.Expelling.{frame_left}
use Rattle.wf_send_parts.specs.Window.{WindowValue, WindowStandsFor as WindowStandsFor, some_fly}
use Rattle.wf_send_parts.specs.Windows.{WindowsHaveRoom, window_of, with_window}
use Rattle.wf_send_parts.specs.declared.stations.members.Member.{Member}
use Rattle.wf_send_half_model.specs.Half.{TransmitValue}
use Rattle.wf_send_half_model.specs.Leaving.{after_expelled, after_tid_purged, after_leave, IsLeaving, IsExpelling, IsExpelled}
use Rattle.wf_send_half_model.specs.Standing.{Meets}
use Rattle.wf_send_half_model.proofs.Leavings.{tid_begins, none_flies_now, within, room_for_one, frame_next, window_ends, tid_ends, expelled_few, left_few}
use Rattle.wf_send_half_model.proofs.Gone.{dropped_are_held, leave_meets}
use Rattle.wf_send_half.specs.Leaving.{GivesFrames, SomeGives}
use Rattle.wf_send_half.proofs.Worlds.{met_by}

-- ---- a frame of a window

-- p is the first frame of a window with frames, and x is the window without it
abbrev pub GivesFirst : WindowValue → FrameValue → WindowValue → Type 0
GivesFirst before p after = (z : Session) (bodies : ℕ → FrameValue) → WindowStandsFor before z bodies →
    (start_of z < next_number z)
    × (p ≡ frame_left bodies (slot z (start_of z))) ×
    WindowStandsFor after (with_state State.Acked (start_of z) z) bodies

-- a window without frames
abbrev pub GivesNone : WindowValue → WindowValue → Type 0
GivesNone before after = (z : Session) (bodies : ℕ → FrameValue) → WindowStandsFor before z bodies →
    (next_number z ≡ start_of z) × WindowStandsFor after z bodies

-- x is the value of the fields of the half v
module _ (v x : TransmitValue) (same : x ≡ v) (s t : ℕ) where
  expelling_at : (before : TransmitValue) (w : World) (bodies : ℕ → FrameValue) (dropped : ℕ)
      (g : GivesFrames before w bodies s t v dropped) → IsExpelling before w bodies s t x g.frames dropped
  expelling_at before w bodies dropped g = subst
      (λ (z : TransmitValue). IsExpelling before w bodies s t z g.frames dropped) (sym same) g.expelling

  module _ (some : SomeGives v s t) where
    left : IsExpelling some.before some.world some.bodies s t x some.gives.frames some.dropped
    left = expelling_at some.before some.world some.bodies some.dropped some.gives

    pub window_there : tid_number s t < length x.windows
    window_there = (within some.before x some.world some.bodies s t some.dropped some.gives.frames left).0

    pub window_still : some_fly (window_of x.windows s t) ≡ false
    window_still = none_flies_now some.before x some.world some.bodies s t some.dropped some.gives.frames left

    pub finish_room : (p : FrameValue) (after : WindowValue) → GivesFirst (window_of x.windows s t) p after →
        held_in_backlog x.flows.backlog < x.flows.backlog.room
    finish_room p after gives =
        let k = gives left.expelled.now some.bodies left.expelled.stands in
        room_for_one some.before x some.world some.bodies s t some.dropped some.gives.frames left p k.0 k.1

  pub frame_given : (p : FrameValue) (windows : List WindowValue) (flows : FlowsValue) →
      GivesFirst (window_of x.windows s t) p (window_of windows s t) →
      windows ≡ with_window x.windows s t (window_of windows s t) →
      flows ≡ with_finished x.flows (x.flows.backlog.finished ++ p ∷ []) →
      (before : TransmitValue) (w : World) (bodies : ℕ → FrameValue) (dropped : ℕ) →
      GivesFrames before w bodies s t v dropped →
      GivesFrames before w bodies s t (record x { windows = windows; flows = flows }) (dropped + 1)
  frame_given p windows flows gives others finished before w bodies dropped g =
      let now : IsExpelling before w bodies s t x g.frames dropped = expelling_at before w bodies dropped g in
      let k = gives now.expelled.now bodies now.expelled.stands in
      let left_window : WindowValue = window_of windows s t in
      let changed : record x { windows = windows; flows = flows } ≡ after_expelled x s t left_window p =
      ap (λ (l : List WindowValue). record x { windows = l; flows = flows }) others
      ∙ ap (λ (f : FlowsValue). record x { windows = with_window x.windows s t left_window; flows = f })
      finished in
      record {
        frames = g.frames ++ p ∷ [];
        expelling = subst (λ (z : TransmitValue). IsExpelling before w bodies s t z (g.frames ++ p ∷ [])
            (dropped + 1)) (sym changed)
            (frame_next before x w bodies s t dropped g.frames now p k.0 k.1 left_window k.2);
      }

  pub none_given : (windows : List WindowValue) →
      GivesNone (window_of x.windows s t) (window_of windows s t) →
      windows ≡ with_window x.windows s t (window_of windows s t) →
      (before : TransmitValue) (w : World) (bodies : ℕ → FrameValue) (dropped : ℕ) →
      GivesFrames before w bodies s t v dropped →
      IsExpelled before w bodies s t (record x { windows = windows }) dropped
  none_given windows gives others before w bodies dropped g =
      let now : IsExpelling before w bodies s t x g.frames dropped = expelling_at before w bodies dropped g in
      let k = gives now.expelled.now bodies now.expelled.stands in
      subst (λ (l : List WindowValue). IsExpelled before w bodies s t (record x { windows = l }) dropped)
      (sym others)
      (window_ends before x w bodies s t dropped g.frames now (window_of windows s t) k.0 k.1)

-- ---- the window of a TID

pub first_gives : (before v : TransmitValue) (w : World) (bodies : ℕ → FrameValue) (s t dropped : ℕ) → t < 8 →
    IsLeaving before w bodies s t v dropped → GivesFrames before w bodies s t v (dropped + 0)
first_gives before v w bodies s t dropped low left =
    let none : dropped ≡ dropped + 0 = omega arith in
    record {
      frames = [];
      expelling = subst (λ (k : ℕ). IsExpelling before w bodies s t v [] k) none
          (tid_begins before v w bodies s t dropped left low);
    }

pub one_more : (before v : TransmitValue) (w : World) (bodies : ℕ → FrameValue) (s t dropped count : ℕ) →
    GivesFrames before w bodies s t v ((dropped + count) + 1) →
    GivesFrames before w bodies s t v (dropped + (count + 1))
one_more before v w bodies s t dropped count g =
    let e : (dropped + count) + 1 ≡ dropped + (count + 1) = omega arith in
    subst (λ (k : ℕ). GivesFrames before w bodies s t v k) e g

-- the number of dropped frames is bounded
pub gives_few : (before v : TransmitValue) (w : World) (bodies : ℕ → FrameValue) (s t dropped : ℕ) →
    GivesFrames before w bodies s t v dropped → dropped < 2 ^ 32
gives_few before v w bodies s t dropped g =
    let few : dropped ≤ w.config.room = expelled_few before v w bodies s t dropped g.frames g.expelling in
    omega (arith, few, g.expelling.so_far.stood.reached.in_range.room.1)

pub leaves_few : (before v : TransmitValue) (w : World) (bodies : ℕ → FrameValue) (s t dropped : ℕ) →
    IsLeaving before w bodies s t v dropped → dropped < 2 ^ 32
leaves_few before v w bodies s t dropped left =
    let few : dropped ≤ w.config.room = left_few before v w bodies s t dropped left in
    omega (arith, few, left.so_far.stood.reached.in_range.room.1)

-- ---- the queues of a TID

-- x is the value of the fields of the half v, whose window of TID t is empty
module _ (v x : TransmitValue) (same : x ≡ v) (s t : ℕ) where
  pub queues_purged : (flows : FlowsValue) (purged : ℕ) → flows ≡ after_purge x.flows (tid_number s t) →
      purged ≡ frames_of_tid x.flows (tid_number s t) →
      (before : TransmitValue) (w : World) (bodies : ℕ → FrameValue) (dropped expelled : ℕ) →
      IsExpelled before w bodies s t v (dropped + expelled) →
      IsLeaving before w bodies s (t + 1) (record x { flows = flows }) (dropped + (expelled + purged))
  queues_purged flows purged e count before w bodies dropped expelled left =
      let here : IsExpelled before w bodies s t x (dropped + expelled) =
      subst (λ (z : TransmitValue). IsExpelled before w bodies s t z (dropped + expelled))
      (sym same) left in
      let sum : (dropped + expelled) + frames_of_tid x.flows (tid_number s t)
      ≡ dropped + (expelled + purged) = omega (arith, count) in
      let next : suc t ≡ t + 1 = omega arith in
      subst (λ (f : FlowsValue). IsLeaving before w bodies s (t + 1) (record x { flows = f })
      (dropped + (expelled + purged))) (sym e)
      (subst (λ (k : ℕ). IsLeaving before w bodies s (t + 1) (after_tid_purged x s t) k) sum
      (subst (λ (k : ℕ). IsLeaving before w bodies s k (after_tid_purged x s t)
      ((dropped + expelled) + frames_of_tid x.flows (tid_number s t))) next
      (tid_ends before x w bodies s t (dropped + expelled) here)))

  pub station_there : (before : TransmitValue) (w : World) (bodies : ℕ → FrameValue) (dropped : ℕ) →
      IsExpelled before w bodies s t v dropped → s < x.flows.stations
  station_there before w bodies dropped left =
      subst (λ (z : TransmitValue). s < z.flows.stations) (sym same)
      (within before v w bodies s t dropped _ left.expelling).1

-- ---- the end

-- all eight TIDs have left v, and x is the value of its fields
module _ (before v x : TransmitValue) (same : x ≡ v) (w : World) (bodies : ℕ → FrameValue) (s dropped : ℕ)
    (left : IsLeaving before w bodies s 8 v dropped) where
  left_at : IsLeaving before w bodies s 8 x dropped
  left_at = subst (λ (z : TransmitValue). IsLeaving before w bodies s 8 z dropped) (sym same) left

  pub counted : dropped ≤ held_in x.tally
  counted = dropped_are_held before x w bodies s 8 dropped left_at

  pub leave_done : (turns : SchedValue) (members : List (Option Member)) (tally : Counts) →
      WindowsHaveRoom x.windows →
      turns ≡ everywhere (without_turns s) x.sched → members ≡ set x.members s None →
      tally ≡ many_settled_as (Dropped Left) dropped x.tally →
      Meets w bodies (Asked (Leave s)) (record x { sched = turns; members = members; tally = tally })
      (reply.Left dropped)
  leave_done turns members tally room e f g =
      met_by (after_leave x s dropped) (record x { sched = turns; members = members; tally = tally }) w bodies
      (Asked (Leave s)) (reply.Left dropped)
      (ap (λ (z : SchedValue). record x { sched = z; members = members; tally = tally }) e
      ∙ ap (λ (m : List (Option Member)). record x {
        sched = everywhere (without_turns s) x.sched;
        members =
            m;
        tally = tally;
      }) f
      ∙ ap (λ (k : Counts). record x {
        sched = everywhere (without_turns s) x.sched;
        members =
            set x.members s None;
        tally = k;
      }) g)
      (leave_meets before x w bodies s dropped left_at room)
