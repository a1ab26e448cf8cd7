-- Proves the law of delivery: each acknowledged frame reached its own receiver. By induction on the run.
use Rattle.std.proofs.Common.{refl, ap, sym, ◌∙◌, ℕ, ◌⊎◌, inl, inr, List, [], ◌∷◌, ◌++◌}
use Rattle.wf_frame.specs.declared.settings.Config.{Config}
use Rattle.wf_frame.specs.Settings.{IsInRange}
use Rattle.wf_def_world.specs.World.{World, opening}
use Rattle.wf_def_world.specs.Step.{step}
use Rattle.wf_def_world.specs.Run.{Entry, world_after}
use Rattle.wf_law_runs.specs.Delivery.{EndsHeard, HasReached, ReachedWithin, DeliveryLaw}
use Rattle.wf_law_runs.specs.Queues.{AreAtMost}
use Rattle.wf_law_runs.specs.Releases.{named_by}
use Rattle.wf_law_runs.proofs.Queues.Law.{longest_in, within}
use Rattle.wf_law_runs.proofs.Frames.Fewer.{IsAcked}
use Rattle.wf_law_runs.proofs.Frames.Fates.{IsHeld, remains_step}
use Rattle.wf_law_runs.proofs.Frames.Delivered.{HasArrived, delivered_step}
use Rattle.wf_law_runs.proofs.Frames.Places.{Standing, standing_step, standing_first}

-- The number belongs to the TID of the frame's Enqueue.
own_number : (l : List ℕ) (most : ℕ) (w : World) (id : ℕ) → Standing l most w → HasArrived w id →
    HasReached w id
own_number l most w id k a = record {
  station = a.station;
  tid = a.tid;
  number = a.number;
  own = (k.stood.owned.mine a.station a.tid id a.number
      (record { from = a.from; below = a.below; id = a.carries })).0;
  live = a.live;
  from = a.from;
  below = a.below;
  carries = a.carries;
  acked = a.acked;
  arrived = a.arrived;
}

-- One more entry at the head of the history.
further : (w : World) (e : Entry) (es : List Entry) (id : ℕ) → ReachedWithin (step w e.1).world es id →
    ReachedWithin w (e ∷ es) id
unfolding world_after
further w e es id r = record {
  before = e ∷ r.before;
  end = r.end;
  after = r.after;
  split =
      ap (λ (l : List Entry). e ∷ l) r.split;
  held = r.held;
  heard = r.heard;
  fate = r.fate;
  reached =
      r.reached;
}

at_once : (w : World) (e : Entry) (es : List Entry) (id : ℕ) → IsHeld w id → EndsHeard w e.1 id →
    IsAcked (step w e.1).world id → HasReached (step w e.1).world id → ReachedWithin w (e ∷ es) id
unfolding world_after
at_once w e es id held h f r = record {
  before = [];
  end = e;
  after = es;
  split = refl;
  held = held;
  heard =
      h;
  fate = f;
  reached = r;
}

reached_run : (h : List Entry) (l : List ℕ) (most : ℕ) (w : World) → AreAtMost most h → Standing l most w →
    (id : ℕ) → IsAcked (world_after w h) id → IsAcked w id ⊎ ReachedWithin w h id
unfolding world_after
reached_run [] l most w short k id e = inl e
reached_run (x ∷ xs) l most w short k id e =
    let next : Standing (l ++ named_by (step w x.1).reply) most (step w x.1).world =
    standing_step l most w x.1 short.0 k in
    elim (reached_run xs _ most (step w x.1).world short.1 next id e) [
      | inl was ↦ elim ((delivered_step w x.1 k.steady.lawful k.steady.labelled).acks id was) [
        | inl before ↦ inl before
        | inr now ↦ elim ((remains_step l w x.1 k.steady).remains id) [
          | inl held ↦ inr (at_once w x xs id held now.0 was (own_number _ most _ id next now.1))
          | inr same ↦ inl (sym same ∙ was)
        ]
      ]
      | inr later ↦ inr (further w x xs id later)
    ]

pub delivery_law : (config : Config) (h : List Entry) → IsInRange config → DeliveryLaw config h
delivery_law config h range id e =
    elim (reached_run h [] (longest_in h) (opening config) (within h)
    (standing_first config (longest_in h) range) id e) [ inl none ↦ absurd (cc none) | inr r ↦ r ]
