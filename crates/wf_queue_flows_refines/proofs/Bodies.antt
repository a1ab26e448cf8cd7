-- Proves that the frames of the flow queues stay the accepted ones through all calls, by the laws of
-- Each.
use Rattle.std.proofs.Common.{◌≡◌, refl, ap, sym, ◌∙◌, subst, arith, ℕ, ◌<◌, ◌==◌, List, [], ◌∷◌, length, eq-eqb, inl, inr}
use Rattle.std.specs.Prelude.{All, IfSome, Option, Some, None}
use Rattle.std.proofs.lemmas.List.{get_or_past}
use Rattle.std.proofs.lemmas.List.Elements.{All-cons, All-head, All-nil, All-tail, All-weaker}
use Rattle.std.proofs.lemmas.Bool.{cases_lt, ne_eqb, cond-true, cond-false}
use Rattle.wf_frame.specs.Frames.{FrameValue}
use Rattle.wf_frame.specs.declared.classes.Fate.{Fate}
use Rattle.wf_frame.specs.declared.classes.Fate.TheVariants.{Held}
use Rattle.wf_frame.specs.declared.settings.Config.{Config}
use Rattle.wf_def_codel.specs.Codel.{Params}
use Rattle.wf_def_lists.specs.Lists.{on}
use Rattle.wf_law_rules.proofs.Lemmas.Counts.{on-first, on-cons_same}
use Rattle.wf_def_world.specs.World.{World, accepted_count}
use Rattle.wf_queue_flows.specs.Backlog.{BacklogValue, frames_at}
use Rattle.wf_queue_flows.specs.Flows.{FlowsValue, after_put, taken_for_tid, after_purge, after_tid_flush, empty_flows}
use Rattle.wf_queue_flows_refines.specs.Standing.{Part, flows_part, ids, Stands, FlowsStandFor}
use Rattle.wf_queue_flows_refines.specs.Frames.{HasEach, DropsTo, AreAccepted, with_body, IsBody, IsBodySettled, HasFrames}
use Rattle.wf_queue_flows_refines.proofs.Changes.{times_at}
use Rattle.wf_queue_flows_refines.proofs.Opening.{no_frames}
use Rattle.wf_queue_flows_refines.proofs.Each.{each_put, each_take, each_purge, each_flush}

-- a property that follows for ids below n, frame by frame
each_known : (P Q : FrameValue → Type 0) (n : ℕ) (frames : List FrameValue) →
    ((f : FrameValue) → f.id < n → P f → Q f) → ((id : ℕ) → 0 < on (ids frames) id → id < n) → All P frames →
    All Q frames
each_known P Q n [] more known h = All-nil Q
each_known P Q n (f ∷ fs) more known h =
    All-cons Q f fs (more f (known f.id (omega (arith, on-cons_same f.id (ids fs)))) (All-head P f fs h))
    (each_known P Q n fs more (λ id some. known id (omega (arith, some, on-first f.id id (ids fs))))
    (All-tail P f fs h))

-- the same for all frames of the flow queues, since all of them were accepted
all_known : (P Q R S : FrameValue → Type 0) (v : FlowsValue) (p : Part) → Stands v p →
    ((f : FrameValue) → f.id < p.accepted → P f → Q f) → ((f : FrameValue) → f.id < p.accepted → R f → S f) →
    HasEach P R v.backlog → HasEach Q S v.backlog
all_known P Q R S v p st queued finished h = record {
  queued = λ q. elim (cases_lt q (length v.backlog.queues)) [
    | inl low ↦ each_known P Q p.accepted (frames_at v.backlog q) queued
        (λ id some. st.accepted id (omega (arith, some, times_at v.backlog q id low))) (h.queued q)
    | inr past ↦ subst (All Q) (sym (get_or_past v.backlog.queues q [] past)) (All-nil Q)
  ];
  finished = each_known R S p.accepted v.backlog.finished finished
      (λ id some. st.accepted id (omega (arith, some))) h.finished;
}

-- f is the accepted frame of its id, and held
abbrev IsHeldBody : (ℕ → FrameValue) → FrameValue → Type 0
IsHeldBody bodies f = IsBody bodies f × (f.fate ≡ Held)

drops_body : (bodies : ℕ → FrameValue) → DropsTo (IsHeldBody bodies) (IsBodySettled bodies)
drops_body bodies f cause h = (
  ap (λ (x : Fate). let g : FrameValue = record f { fate = x } in g) (sym h.1)
      ∙ h.0,
  refl,
)

held_bodies : (v : FlowsValue) (w : World) (bodies : ℕ → FrameValue) → FlowsStandFor v w →
    ((id : ℕ) → id < accepted_count w → (bodies id).fate ≡ Held) → HasFrames v.backlog bodies →
    HasEach (IsHeldBody bodies) (IsBodySettled bodies) v.backlog
held_bodies v w bodies st held h =
    all_known (IsBody bodies) (IsHeldBody bodies) (IsBodySettled bodies) (IsBodySettled bodies) v
    (flows_part w) st (λ f low is. (is, ap (λ (g : FrameValue). g.fate) is ∙ held f.id low))
    (λ f low is. is) h

bodies_held : (b : BacklogValue) (bodies : ℕ → FrameValue) →
    HasEach (IsHeldBody bodies) (IsBodySettled bodies) b → HasFrames b bodies
bodies_held b bodies h = record {
  queued = λ q.
      All-weaker (IsHeldBody bodies) (IsBody bodies) (λ f is. is.0) (frames_at b q) (h.queued q);
  finished =
      h.finished;
}

-- ---- one more frame

pub body_other : (bodies : ℕ → FrameValue) (f : FrameValue) (id : ℕ) → (id ≡ f.id → ⊥) →
    with_body bodies f id ≡ bodies id
body_other bodies f id other = cond-false (id == f.id) f (bodies id) (ne_eqb id f.id other)

pub body_own : (bodies : ℕ → FrameValue) (f : FrameValue) → with_body bodies f f.id ≡ f
body_own bodies f = cond-true (f.id == f.id) f (bodies f.id) (eq-eqb f.id f.id refl)

-- other frames that are the same for each accepted id
pub frames_same : (v : FlowsValue) (w : World) (bodies others : ℕ → FrameValue) → FlowsStandFor v w →
    ((id : ℕ) → id < accepted_count w → others id ≡ bodies id) → HasFrames v.backlog bodies →
    HasFrames v.backlog others
frames_same v w bodies others st same h =
    all_known (IsBody bodies) (IsBody others) (IsBodySettled bodies) (IsBodySettled others) v
    (flows_part w) st (λ g low is. is ∙ sym (same g.id low))
    (λ g low is. (is.0 ∙ sym (same g.id low), is.1)) h

pub frames_put : (v : FlowsValue) (w : World) (bodies : ℕ → FrameValue) (i : ℕ) (f : FrameValue) →
    FlowsStandFor v w → AreAccepted w bodies → HasFrames v.backlog bodies → f.id ≡ accepted_count w →
    f.fate ≡ Held → HasFrames (after_put v i f).backlog (with_body bodies f)
frames_put v w bodies i f st ok h next fate =
    let more : ℕ → FrameValue = with_body bodies f in
    let same : (id : ℕ) → id < accepted_count w →
    more id ≡ bodies id = λ id low. body_other bodies f id (λ e. omega (arith, e, next, low)) in
    let held : (id : ℕ) → id < accepted_count w →
    (more id).fate ≡ Held = λ id low. ap (λ (g : FrameValue). g.fate) (same id low) ∙ (ok id low).fate in
    bodies_held (after_put v i f).backlog more
    (each_put (IsHeldBody more) (IsBodySettled more) (drops_body more) v i f
    (held_bodies v w more st held (frames_same v w bodies more st same h))
    (sym (body_own bodies f), fate))

-- ---- the other calls

module _ (v : FlowsValue) (w : World) (bodies : ℕ → FrameValue) (st : FlowsStandFor v w)
    (ok : AreAccepted w bodies) (h : HasFrames v.backlog bodies) where
  held_all : HasEach (IsHeldBody bodies) (IsBodySettled bodies) v.backlog
  held_all = held_bodies v w bodies st (λ id low. (ok id low).fate) h

  pub frames_take : (i now : ℕ) (params : Params) →
      HasFrames (taken_for_tid v i now params).flows.backlog bodies
  frames_take i now params = bodies_held (taken_for_tid v i now params).flows.backlog bodies
      (each_take (IsHeldBody bodies) (IsBodySettled bodies) (drops_body bodies) v i now params held_all).0

  pub frame_given : (i now : ℕ) (params : Params) →
      IfSome (taken_for_tid v i now params).frame (IsBody bodies)
  frame_given i now params = go (taken_for_tid v i now params).frame
      (each_take (IsHeldBody bodies) (IsBodySettled bodies) (drops_body bodies) v i now params held_all).1
    where
      go : (o : Option FrameValue) → IfSome o (IsHeldBody bodies) → IfSome o (IsBody bodies)
      go None is = tt
      go (Some f) is = is.0

  pub frames_purged : (i : ℕ) → HasFrames (after_purge v i).backlog bodies
  frames_purged i = bodies_held (after_purge v i).backlog bodies
      (each_purge (IsHeldBody bodies) (IsBodySettled bodies) (drops_body bodies) v i held_all)

  pub frames_flushed : (i : ℕ) → HasFrames (after_tid_flush v i).backlog bodies
  frames_flushed i = bodies_held (after_tid_flush v i).backlog bodies
      (each_flush (IsHeldBody bodies) (IsBodySettled bodies) (drops_body bodies) v i held_all)

pub frames_opening : (c : Config) (bodies : ℕ → FrameValue) → HasFrames (empty_flows c).backlog bodies
frames_opening c bodies = record {
  queued = λ q.
      subst (All (IsBody bodies)) (sym (no_frames c q)) (All-nil (IsBody bodies));
  finished =
      All-nil (IsBodySettled bodies);
}
