-- Proves that flow queues and world still agree after the limit has dropped the head of the longest queue.
use Rattle.std.proofs.Common.{◌≡◌, refl, ap, ap₂, sym, ◌∙◌, subst, arith, ℕ, ◌<◌, Bool, true, false, if◌then◌else◌, List, [], ◌∷◌, ◌++◌, map, length, set, take, drop, inl, inr}
use Rattle.std.specs.Prelude.{nat_le, ℤ, pos}
use Rattle.std.proofs.lemmas.List.Elements.{All-rest}
use Rattle.std.proofs.lemmas.List.{set-get_or, get_or_past}
use Rattle.std.proofs.lemmas.Bool.{cases_lt}
use Rattle.wf_frame.specs.declared.classes.Cause.TheVariants.{Overlimit}
use Rattle.wf_frame.specs.declared.classes.Fate.{Fate}
use Rattle.wf_frame.specs.declared.classes.Fate.TheVariants.{Dropped}
use Rattle.wf_frame.specs.Frames.{FrameValue}
use Rattle.wf_def_codel.specs.Codel.{Item, Codel, new_codel}
use Rattle.wf_def_lists.specs.Lists.{on}
use Rattle.wf_rotation.specs.Rotas.{deficit_at}
use Rattle.wf_def_world.specs.World.{World, Queue, is_live, queue, accepted_count, on_queue, with_frame_finished, with_frames_finished, with_fate}
use Rattle.wf_def_world.specs.FlowQueues.{without_head, longest_queue as world_longest, after_limit as world_within_limit, is_at_limit as world_at_limit}
use Rattle.wf_queue_flows.specs.Backlog.{BacklogValue, frames_at, codel_at, item_of, frame_with_fate, after_head_drop}
use Rattle.wf_queue_flows.specs.Flows.{flows_at_limit, FlowsValue, queues as queue_count, longest_queue, after_limit}
use Rattle.wf_queue_flows.proofs.Flags.{nothing_dropped}
use Rattle.wf_queue_flows_refines.specs.Standing.{Part, flows_part, with_finished, Stands, FlowsStandFor}
use Rattle.wf_queue_flows_refines.proofs.Parts.{all_finished}
use Rattle.wf_queue_flows_refines.proofs.Changes.{with_queue, part_with, out_known, stands_moved, part_moved}
use Rattle.wf_queue_flows_refines.proofs.Readers.{same_total, same_limit, same_longest}

-- a queue with frames has a number below the number of queues
pub some_frames : (v : FlowsValue) (p : Part) (q : ℕ) → Stands v p → 0 < length (frames_at v.backlog q) →
    q < queue_count v
some_frames v p q st some = elim (cases_lt q (length v.backlog.queues)) [
  | inl low ↦ omega (arith, low, st.sized.queues)
  | inr past ↦ absurd (omega (
    arith,
    some,
    ap (length {A = FrameValue})
        (get_or_past v.backlog.queues q [] past),
  ))
]

-- writing the CoDel state and the deficit that are already there changes nothing
pub same_queue : (v : FlowsValue) (q : ℕ) (frames : List FrameValue) →
    with_queue v q frames (codel_at v.backlog q) (deficit_at v.rotas.deficits q)
    ≡ record v { backlog = record v.backlog { queues = set v.backlog.queues q frames } }
same_queue v q frames =
    ap₂ (λ (cs : List Codel) (ds : List ℤ). let w : FlowsValue =
    record v {
      backlog = record v.backlog { queues = set v.backlog.queues q frames; codels = cs };
      rotas =
          record v.rotas { deficits = ds };
    } in w)
    (set-get_or v.backlog.codels q new_codel) (set-get_or v.rotas.deficits q (pos 0))

-- v agrees with the world `after`, which has the same number of stations and of accepted frames as
-- `before`, and the same live stations
pub record IsBeside (v : FlowsValue) (before after : World) : Type 0 where
  pub stands : FlowsStandFor v after
  pub accepted : accepted_count after ≡ accepted_count before
  pub live : (s : ℕ) → is_live after s ≡ is_live before s
  pub stations : after.config.stations ≡ before.config.stations

live_after : (w : World) (q : ℕ) (f : Queue → Queue) (fate : Fate) (id s : ℕ) →
    is_live (with_frame_finished (on_queue w q f) fate id) s ≡ is_live w s
unfolding with_frame_finished with_fate on_queue
live_after w q f fate id s = refl

head_gone : (v : FlowsValue) (w : World) (q : ℕ) (frames : List FrameValue) → FlowsStandFor v w →
    frames_at v.backlog q ≡ frames → IsBeside (record v { backlog = after_head_drop v.backlog q }) w
    (without_head w q (map item_of frames))
unfolding without_head with_frames_finished all_finished
head_gone v w q [] st e = record {
  stands = subst (λ (b : BacklogValue). FlowsStandFor (record v { backlog = b }) w)
      (sym (nothing_dropped v.backlog q e)) st;
  accepted = refl;
  live = λ s. refl;
  stations = refl;
}
head_gone v w q (f ∷ rest) st e =
    let low : q < queue_count v = some_frames v (flows_part w) q st
    (omega (arith, ap (length {A = FrameValue}) e)) in
    let change : Queue → Queue = λ y. record y { items = map item_of rest } in
    let c : Codel = codel_at v.backlog q in
    let d : ℤ = deficit_at v.rotas.deficits q in
    let finished : List FrameValue = v.backlog.finished ++ frame_with_fate (Dropped Overlimit) f ∷ [] in
    let known : (id : ℕ) → 0 < on (f.id ∷ []) id →
    id < accepted_count w = out_known v (flows_part w) st q low (f ∷ []) rest rest e
    (λ id. omega arith) in
    let moved : Stands (with_finished (with_queue v q rest c d) finished)
    (all_finished (part_with (flows_part w) q (change (queue w q))) (Dropped Overlimit) (f.id ∷ [])) =
    stands_moved v (flows_part w) st q low (f ∷ []) rest rest e (λ id. omega arith)
    (All-rest (λ (g : FrameValue). (flows_part w).flows g.id ≡ g.flow) f rest (frames_at v.backlog q) e
    (st.flows q)) c d
    (change (queue w q))
    (Dropped Overlimit) refl (st.codels q) (λ i. st.deficits i q) in
    let worlds : flows_part (with_frame_finished (on_queue w q change) (Dropped Overlimit) f.id)
    ≡ all_finished (part_with (flows_part w) q (change (queue w q))) (Dropped Overlimit) (f.id ∷ []) =
    part_moved w q change (Dropped Overlimit) (f.id ∷ []) known in
    let values : with_finished (with_queue v q rest c d) finished
    ≡ record v { backlog = after_head_drop v.backlog q } =
    ap (λ (z : FlowsValue). with_finished z finished) (same_queue v q rest)
    ∙ ap (λ (l : List FrameValue). let z : FlowsValue =
    record v {
      backlog = record v.backlog {
        queues = set v.backlog.queues q (drop 1 l);
        finished =
            v.backlog.finished ++ map (frame_with_fate (Dropped Overlimit)) (take 1 l);
      };
    } in z) (sym e) in
    record {
      stands = subst (λ (z : FlowsValue). Stands z (flows_part
          (with_frame_finished (on_queue w q change) (Dropped Overlimit) f.id))) values
          (subst (λ (z : Part). Stands (with_finished (with_queue v q rest c d) finished) z)
          (sym worlds) moved);
      accepted = ap (λ (x : Part). x.accepted) worlds;
      live = live_after w q change (Dropped Overlimit) f.id;
      stations = ap (λ (x : Part). x.config.stations) worlds;
    }

-- both sides drop the head of the longest queue if the limit is reached
pub beside_limit : (v : FlowsValue) (w : World) → FlowsStandFor v w →
    IsBeside (after_limit v) w (world_within_limit w)
unfolding after_limit world_within_limit
beside_limit v w st =
    let q : ℕ = longest_queue v.backlog in
    let values : (if flows_at_limit v then record v { backlog = after_head_drop v.backlog q } else v)
    ≡ (if world_at_limit w then record v { backlog = after_head_drop v.backlog q } else v) =
    ap₂ (λ (a b : ℕ). if nat_le b a then record v { backlog = after_head_drop v.backlog q } else v)
    (same_total v w st) (same_limit v w st) in
    let gone : IsBeside (record v { backlog = after_head_drop v.backlog q }) w
    (without_head w (world_longest w) (queue w (world_longest w)).items) =
    subst (λ (n : ℕ). IsBeside (record v { backlog = after_head_drop v.backlog q }) w
    (without_head w n (queue w n).items)) (same_longest v w st)
    (subst (λ (l : List Item). IsBeside (record v { backlog = after_head_drop v.backlog q }) w
    (without_head w q l)) (sym (st.items q)) (head_gone v w q (frames_at v.backlog q) st refl)) in
    subst (λ (z : FlowsValue). IsBeside z w (if world_at_limit w
    then without_head w (world_longest w) (queue w (world_longest w)).items else w)) (sym values)
    (go (world_at_limit w) gone)
  where
    go : (b : Bool) → IsBeside (record v { backlog = after_head_drop v.backlog (longest_queue v.backlog) }) w
        (without_head w (world_longest w) (queue w (world_longest w)).items)
        → IsBeside (if b then record v { backlog = after_head_drop v.backlog (longest_queue v.backlog) }
        else v) w (if b then without_head w (world_longest w) (queue w (world_longest w)).items else w)
    go true gone = gone
    go false gone = record { stands = st; accepted = refl; live = λ s. refl; stations = refl }
