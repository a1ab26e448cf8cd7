-- Proves that a call about group frames changes what is kept of them as it changes what the machine knows,
-- and that each BSS keeps its room.
use Rattle.std.proofs.Common.{◌≡◌, refl, ap, ap₂, sym, ◌∙◌, subst, arith, ℕ, ◌+◌, ◌<◌, ◌==◌, nat_lt, Bool, ◌&&◌, List, [], ◌∷◌, Option, Some, option_map, length, map, drop, inl, inr, get_or, set, length-set}
use Rattle.std.specs.Prelude.{slice_get}
use Rattle.std.proofs.lemmas.Bool.{cases_eq}
use Rattle.std.proofs.lemmas.List.{map-append, length-map, get_or_read, get_or-set_same, get_or-set_other}
use Rattle.wf_frame.specs.declared.settings.Config.{Config}
use Rattle.wf_frame.specs.declared.notes.GroupAsk.{GroupAsk}
use Rattle.wf_frame.specs.declared.notes.GroupAsk.TheVariants as group
use Rattle.wf_def_world.specs.Group.{GroupFrame as WorldFrame, next_count, after_first, first_queued, after_accept, after_beacon, after_group_pull, group_after}
use Rattle.wf_send_parts.specs.declared.group.GroupFrame.{GroupFrame}
use Rattle.wf_send_parts.specs.declared.group.GroupFlight.{GroupFlight}
use Rattle.wf_send_parts.specs.Group.{GroupValue, GroupsHaveRoom, no_group_frames, group_at, with_group, world_frame, world_flight, group_state, flight_in, with_group_frame, with_beacon, with_flight, group_value_after}

accepted_state : (len tag : ℕ) (to : List ℕ) (v : GroupValue) →
    group_state (with_group_frame len tag to v) ≡ after_accept len (group_state v)
accepted_state len tag to v = ap (λ (xs : List WorldFrame). record (group_state v) {
  queued = xs;
  accepted = v.accepted + 1;
}) (map-append world_frame v.queued (record { id = v.accepted; len = len; tag = tag; to = to } ∷ []))

beacon_state : (period : ℕ) (v : GroupValue) →
    group_state (with_beacon period v) ≡ after_beacon period (group_state v)
beacon_state period v = ap (λ (n : ℕ). record (group_state (with_beacon period v)) {
  announced = (next_count period v.count == 0) && nat_lt 0 n;
}) (sym (length-map v.queued world_frame))

rest_state : (xs : List GroupFrame) → map world_frame (drop 1 xs) ≡ after_first (map world_frame xs)
rest_state [] = refl
rest_state (x ∷ xs) = refl

first_state : (f : GroupFrame → GroupFlight) → ((x : GroupFrame) → (f x).frame ≡ x) → (xs : List GroupFrame) →
    option_map world_flight (option_map f (slice_get xs 0)) ≡ first_queued (map world_frame xs)
first_state f same [] = refl
first_state f same (x ∷ xs) = ap (λ (y : GroupFrame). Some (world_frame y)) (same x)

flight_state : (sleeps : Bool) (v : GroupValue) →
    group_state (with_flight sleeps v) ≡ after_group_pull (group_state v)
flight_state sleeps v = ap₂ (λ (xs : List WorldFrame) (o : Option WorldFrame). record (group_state v) {
  queued = xs;
  flying = o;
  number = v.number + 1;
}) (rest_state v.queued)
    (first_state (flight_in sleeps (record v { queued = drop 1 v.queued })) (λ x. refl) v.queued)

-- the calls change both alike
pub group_follows : (config : Config) (sleeps : Bool) (ask : GroupAsk) (tag : ℕ) (to : List ℕ)
    (v : GroupValue) →
    group_state (group_value_after config sleeps ask tag to v) ≡ group_after config ask (group_state v)
group_follows config sleeps (group.Accept len) tag to v = accepted_state len tag to v
group_follows config sleeps group.Beacon tag to v = beacon_state _ v
group_follows config sleeps group.Pull tag to v = flight_state sleeps v
group_follows config sleeps group.Done tag to v = refl

-- one queue of as much room in place of another
pub room_kept : (groups : List GroupValue) (b : ℕ) (v : GroupValue) (n : ℕ) → b < length groups →
    v.capacity ≡ (group_at groups b).capacity → GroupsHaveRoom n groups →
    GroupsHaveRoom n (with_group groups b v)
room_kept groups b v n low same h = record {
  each = λ k within. elim (cases_eq k b) [
    | inl here ↦ subst (λ (j : ℕ). (group_at (with_group groups b v) j).capacity ≡ n) (sym here)
        (ap (λ (g : GroupValue). g.capacity) (get_or-set_same groups b v (no_group_frames 0) low)
        ∙ same ∙ h.each b low)
    | inr other ↦ ap (λ (g : GroupValue). g.capacity)
        (get_or-set_other groups b k v (no_group_frames 0) other) ∙ h.each k (omega (arith, within, length-set groups b v))
  ];
}

-- the same for a list seen as `now`, whose queue at i is seen as `before`
pub room_changed : (groups now : List GroupValue) → groups ≡ now → (b i : ℕ) → i ≡ b → b < length now →
    (before after : GroupValue) → before ≡ get_or groups i before → after.capacity ≡ before.capacity →
    (n : ℕ) → GroupsHaveRoom n now → GroupsHaveRoom n (set groups i after)
room_changed groups now is b i place within before after found same n h =
    let low : i < length groups = omega (arith, ap length is, place, within) in
    room_kept groups i after n low (same ∙ ap (λ (g : GroupValue). g.capacity)
    (get_or_read groups i before low found (no_group_frames 0))) (subst (GroupsHaveRoom n) (sym is) h)
