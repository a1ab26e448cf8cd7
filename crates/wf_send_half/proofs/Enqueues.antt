-- Proves the clauses of an enqueue: the bounds of the numbers of frames, the refusals, and the half after it.
use Rattle.std.proofs.Common.{◌≡◌, refl, ap, ap₂, sym, ◌∙◌, subst, arith, ℕ, ◌+◌, ◌<◌, ◌≤◌, Bool, true, ◌&&◌, List, [], ◌∷◌, length, Option, Some, None, if◌then◌else◌}
use Rattle.std.specs.Prelude.{nat_le}
use Rattle.wf_frame.specs.Classes.{class_of, tid_number}
use Rattle.wf_frame.specs.Frames.{FrameValue, source_octets}
use Rattle.wf_frame.specs.declared.classes.Class.{Class}
use Rattle.wf_frame.specs.declared.settings.Config.{Config}
use Rattle.wf_frame.specs.declared.notes.Note.TheVariants.{Enqueue}
use Rattle.wf_frame.specs.declared.notes.Refusal.{Refusal}
use Rattle.wf_frame.specs.declared.notes.Refusal.TheVariants.{Room, Sleeping}
use Rattle.wf_frame.specs.declared.notes.ReplyNote.{ReplyNote}
use Rattle.wf_frame.specs.declared.notes.ReplyNote.TheVariants.{Accepted, Refused}
use Rattle.wf_def_lists.specs.Lengths.{greatest_body}
use Rattle.wf_def_rotation.specs.Rotation.{in_order}
use Rattle.wf_def_world.specs.World.{World, is_live, inside}
use Rattle.wf_def_world.specs.Refusals.{first_refusal, refusal, queued_in_class, sleeps_full}
use Rattle.wf_queue_flows.specs.Backlog.{in_queues, held_in_backlog}
use Rattle.wf_send_parts.specs.Tally.{Counts, one_accepted}
use Rattle.wf_queue_flows.specs.Flows.{FlowsValue, SettingsValue, tid_rotation, frames_of_tid, dropped_for_limit, after_put}
use Rattle.wf_queue_flows.proofs.Waiting.{waiting_few}
use Rattle.wf_queue_flows_refines.specs.Frames.{with_body}
use Rattle.wf_queue_flows_refines.proofs.Readers.{same_total}
use Rattle.wf_send_parts.specs.Sleepers.{sleeper}
use Rattle.wf_send_half_model.specs.Half.{TransmitValue}
use Rattle.wf_send_half_model.specs.Standing.{StandsFor, Meets}
use Rattle.wf_send_half_model.specs.Changes.{after_listing_in, after_enqueue}
use Rattle.wf_send_half_model.specs.Counting.{with_overlimit}
use Rattle.wf_send_half_model.proofs.Dropping.{finished_known}
use Rattle.wf_send_half_model.proofs.Enqueues.{enqueue_meets}
use Rattle.wf_send_half_model.proofs.Leavings.{HasPlace, has_place}
use Rattle.wf_send_half_model.proofs.Readers.{class_queued_same}
use Rattle.wf_send_half.specs.Enqueues.{enqueue_of, as_accepted, queued_in_class_of}
use Rattle.wf_send_half.specs.Half.{HasWorld}
use Rattle.wf_send_half.proofs.Rows.{last_row, asleep_same, refused_call}
use Rattle.wf_send_half.proofs.Worlds.{met_by}

-- ---- bounds of the numbers of frames

module _ (v : TransmitValue) (h : HasWorld v) where
  abbrev placed : HasPlace h.world.config.room h.world
  placed = has_place h.world h.stands.reached

  room_same : v.flows.backlog.room ≡ h.world.config.room
  room_same = ap (λ (x : SettingsValue). x.room) h.stands.parts.others.flows.settings

  all_few : in_queues v.flows.backlog ≤ 131072
  all_few = omega (
    arith,
    placed.placed,
    placed.within,
    same_total v.flows h.world h.stands.parts.others.flows,
    h.stands.reached.in_range.room.1,
  )

  -- the frames of a TID
  pub tid_few : (n i : ℕ) → n ≡ frames_of_tid v.flows i → n ≤ 131072
  tid_few n i is = omega (
    arith,
    is,
    all_few,
    waiting_few v.flows.backlog.queues
        (in_order (tid_rotation v.flows i)) (h.stands.parts.others.flows.once i),
  )

  -- if fewer frames are inside than the setting `room`, fewer are queued and finished
  pub held_few : v.inside < v.config.room → held_in_backlog v.flows.backlog < v.flows.backlog.room
  held_few low =
      omega (
        arith,
        low,
        placed.placed,
        h.stands.parts.others.inside,
        ap (λ (x : Config). x.room) h.stands.parts.others.config,
        room_same,
        same_total v.flows h.world h.stands.parts.others.flows,
        finished_known v.flows h.world h.stands.parts.others.flows,
      )

-- ---- refusals

module _ (v : TransmitValue) (w : World) (bodies : ℕ → FrameValue) (h : StandsFor v w bodies) where
  -- the rows of the room, and of the frames that wait for a sleeper
  pub room_row : (rows : List (Bool × Refusal)) →
      first_refusal ((nat_le w.config.room (inside w), Room (inside w)) ∷ rows)
      ≡ first_refusal ((nat_le v.config.room v.inside, Room v.inside) ∷ rows)
  room_row rows =
      ap₂ (λ (c : Config) (n : ℕ). first_refusal ((nat_le c.room n, Room n) ∷ rows))
      (sym h.parts.others.config) (sym h.parts.others.inside)

  pub sleeping_row : (s : ℕ) (c : Class) → is_live w s ≡ true →
      first_refusal ((sleeps_full w s c, Sleeping (queued_in_class w s c)) ∷ [])
      ≡ first_refusal ((
        (sleeper v.sleepers s).asleep
            && nat_le v.config.sleeping (queued_in_class_of v s c),
        Sleeping (queued_in_class_of v s c),
      ) ∷ [])
  sleeping_row s c live =
      ap (λ (b : Bool). first_refusal ((
        b && nat_le w.config.sleeping (queued_in_class w s c),
        Sleeping (queued_in_class w s c),
      ) ∷ [])) (asleep_same v w bodies h s live)
      ∙ ap₂ (λ (k : Config) (n : ℕ). first_refusal ((
        (sleeper v.sleepers s).asleep && nat_le k.sleeping n,
        Sleeping n,
      ) ∷ [])) (sym h.parts.others.config) (sym (class_queued_same v w bodies s c h.parts live))

  -- the last row, of frames that are counted in a class of a TID
  pub sleeping_last : (o : Option Refusal) (b : Bool) (n s t : ℕ) (c : Class) →
      o ≡ (if b then Some (Sleeping n) else None) →
      b ≡ ((sleeper v.sleepers s).asleep && nat_le v.config.sleeping n) → n ≡ queued_in_class_of v s c →
      c ≡ class_of t → is_live w s ≡ true →
      o ≡ first_refusal ((sleeps_full w s (class_of t), Sleeping (queued_in_class w s (class_of t))) ∷ [])
  sleeping_last o b n s t c is full count same live =
      is
      ∙ ap (λ (a : Bool). if a then Some (Sleeping n) else None) full
      ∙ ap (λ (k : ℕ). if (sleeper v.sleepers s).asleep && nat_le v.config.sleeping k then Some (Sleeping k)
      else None) (count ∙ ap (queued_in_class_of v s) same)
      ∙ last_row _ _ _ refl
      ∙ sym (sleeping_row s (class_of t) live)

-- the same for a frame, by its station and its TID
pub of_frame : (w : World) (f : FrameValue) (s t : ℕ) (o : Option Refusal) → s ≡ f.station → t ≡ f.tid →
    o ≡ refusal w (Enqueue s t f.flow (length f.body)) → o ≡ refusal w (enqueue_of f)
of_frame w f s t o to tid is = is ∙ ap₂ (λ (i k : ℕ). refusal w (Enqueue i k f.flow (length f.body))) to tid

pub enqueue_refused : (v : TransmitValue) (w : World) (bodies : ℕ → FrameValue) → StandsFor v w bodies →
    (f : FrameValue) (r : Refusal) → Some r ≡ refusal w (enqueue_of f) →
    Meets w bodies (enqueue_of f) v (Refused r)
enqueue_refused v w bodies h f r is = refused_call v w bodies (enqueue_of f) r
    (λ e. cc e, (λ e. cc e, (λ e. cc e, (λ e. cc e, (λ e. cc e, tt))))) h is

-- ---- the half after it

-- x is the value of the fields of the half v
pub accepted_is : (v x : TransmitValue) → x ≡ v →
    (f p : FrameValue) (s : ℕ) (c : Class) (flows : FlowsValue) (dropped : Option ℕ) (counts : Counts)
    (y : TransmitValue) →
    p ≡ as_accepted x f → s ≡ f.station → c ≡ class_of f.tid →
    flows ≡ after_put x.flows (tid_number p.station p.tid) p →
    dropped ≡ dropped_for_limit x.flows → counts ≡ with_overlimit dropped (one_accepted x.tally) →
    y ≡ after_listing_in (record x { inside = x.inside + 1; flows = flows; tally = counts }) s c →
    y ≡ after_listing_in (after_enqueue v (as_accepted v f)) f.station (class_of f.tid)
accepted_is v x same f p s c flows dropped counts y marked to of put loses counted listed =
    listed
    ∙ ap (λ (z : TransmitValue). after_listing_in z s c)
    (ap₂ (λ (z : FlowsValue) (c : Counts). record x { inside = x.inside + 1; flows = z; tally = c }) put
    (counted ∙ ap (λ (o : Option ℕ). with_overlimit o (one_accepted x.tally)) loses))
    ∙ ap₂ (λ (g : FrameValue) (k : ℕ). after_listing_in (after_enqueue x g) k c) marked to
    ∙ ap (after_listing_in (after_enqueue x (as_accepted x f)) f.station) of
    ∙ ap (λ (z : TransmitValue). after_listing_in (after_enqueue z (as_accepted z f)) f.station
    (class_of f.tid)) same

pub enqueue_done : (v : TransmitValue) (w : World) (bodies : ℕ → FrameValue) → StandsFor v w bodies →
    (f : FrameValue) (y : TransmitValue) (id : ℕ) (dropped : Option ℕ) →
    y ≡ after_listing_in (after_enqueue v (as_accepted v f)) f.station (class_of f.tid) →
    id ≡ v.tally.accepted →
    dropped ≡ dropped_for_limit v.flows → length f.source ≡ source_octets →
    (1 ≤ length f.body) × (length f.body ≤ greatest_body) →
    None ≡ refusal w (enqueue_of f) →
    Meets w (with_body bodies (as_accepted v f)) (enqueue_of f) y (Accepted id dropped)
enqueue_done v w bodies h f y id dropped is next loses source len done =
    met_by (after_listing_in (after_enqueue v (as_accepted v f)) f.station (class_of f.tid)) y w
    (with_body bodies (as_accepted v f)) (enqueue_of f) (Accepted id dropped) is
    (subst (λ (x : ReplyNote). Meets w (with_body bodies (as_accepted v f)) (enqueue_of f)
    (after_listing_in (after_enqueue v (as_accepted v f)) f.station (class_of f.tid)) x)
    (sym (ap₂ (λ (k : ℕ) (o : Option ℕ). Accepted k o) next loses))
    (enqueue_meets v w bodies h (as_accepted v f) (sym done) refl refl source refl len.0 len.1))
