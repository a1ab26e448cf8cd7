-- Proves the calls about group frames: the half refuses and answers them as the machine, and what it keeps of
-- the group frames of a BSS then represents the machine's state of them. Nothing else changes.
use Rattle.std.proofs.Common.{◌≡◌, refl, ap, ap₂, sym, ◌∙◌, subst, ℕ, ◌<◌, ◌==◌, Bool, false, not, ◌&&◌, ◌||◌, if◌then◌else◌, List, [], ◌∷◌, length, Option, Some, None, is_some, option_map, inl, inr, length-set}
use Rattle.std.specs.Prelude.{nat_le, is_none, filter}
use Rattle.std.specs.List.{list_any}
use Rattle.std.proofs.lemmas.Bool.{cases_Bool, cases_eq, leb-false, lt-leb}
use Rattle.std.proofs.lemmas.List.{length-map, get_or-set_same, get_or-set_other}
use Rattle.wf_frame.specs.declared.settings.Config.{Config}
use Rattle.wf_frame.specs.declared.notes.Ask.TheVariants.{Group}
use Rattle.wf_frame.specs.declared.notes.GroupAsk.{GroupAsk}
use Rattle.wf_frame.specs.declared.notes.GroupAsk.TheVariants as group
use Rattle.wf_frame.specs.declared.notes.GroupCall.{GroupCall}
use Rattle.wf_frame.specs.declared.notes.Note.TheVariants.{Asked}
use Rattle.wf_frame.specs.declared.notes.Refusal.{Refusal}
use Rattle.wf_frame.specs.declared.notes.Refusal.TheVariants.{BadBss, Buffered, Flying, Idle, Nothing}
use Rattle.wf_frame.specs.declared.notes.ReplyNote.{ReplyNote}
use Rattle.wf_frame.specs.declared.notes.ReplyNote.TheVariants as reply
use Rattle.wf_frame.specs.declared.notes.ReplyNote.TheVariants.{Refused}
use Rattle.wf_frame.specs.Frames.{FrameValue}
use Rattle.wf_def_lists.specs.Table.{at, put, upto}
use Rattle.wf_def_world.specs.Group.{GroupFrame as WorldFrame, GroupState, bss_count, no_group, may_go, group_after, group_answer}
use Rattle.wf_def_world.specs.World.{World, station, is_live, group_of, is_any_asleep}
use Rattle.wf_def_world.specs.Refusals.{refusal, refusals, first_refusal, group_refusals, is_bad_bss}
use Rattle.wf_def_world.specs.Step.{Outcome, outcome_of, step, after_refusal, group_outcome}
use Rattle.wf_law_rules.proofs.Lemmas.Tables.{at_put_same, at_put_other}
use Rattle.wf_law_runs.proofs.Deficits.KeptStep.{no_row}
use Rattle.wf_queue_flows_refines.proofs.Leaves.{stands_same}
use Rattle.wf_sched_refines.proofs.Unchanged.{grouped_leaves}
use Rattle.wf_send_parts.specs.declared.stations.sleepers.Sleeper.{Sleeper}
use Rattle.wf_send_parts.specs.Group.{GroupValue, no_group_frames, group_at, with_group, world_frame, world_flight, group_state, group_refusal, group_value_after}
use Rattle.wf_send_parts.specs.declared.group.GroupFlight.{GroupFlight}
use Rattle.wf_send_parts.proofs.GroupFrames.{group_follows}
use Rattle.wf_send_half_model.specs.Changes.{after_group_call}
use Rattle.wf_send_half_model.specs.Half.{TransmitValue, group_in, is_asleep_of, is_any_asleep_of}
use Rattle.wf_send_half_model.specs.Standing.{Parts, StandsFor, Meets}
use Rattle.wf_send_half_model.proofs.Meets.{unlisted_meets}
use Rattle.wf_send_half_model.proofs.Reached.{step_refused}
use Rattle.wf_send_half_model.proofs.Readers.{live_same}
use Rattle.wf_send_half_model.proofs.Stands.{GroupsStand, Pieces, to_pieces, of_pieces}

-- ---- who sleeps

-- some element that one test keeps passes another if some element passes both
any_kept : (p q both : ℕ → Bool) → ((k : ℕ) → both k ≡ (q k && p k)) → (ks : List ℕ) →
    list_any both ks ≡ list_any p (filter q ks)
any_kept p q both is [] = refl
any_kept p q both is (k ∷ ks) = elim (cases_Bool (q k)) [
  | inl on ↦ rw (is k, on) (ap (λ (b : Bool). p k || b) (any_kept p q both is ks))
  | inr off ↦ rw (is k, off) (any_kept p q both is ks)
]

module _ (v : TransmitValue) (w : World) (bodies : ℕ → FrameValue) (h : Parts v w bodies) (b : ℕ) where
  asleep_same : (s : ℕ) →
      is_asleep_of v b s ≡ (is_live w s && ((station w s).asleep && ((station w s).bss == b)))
  asleep_same s = elim (cases_Bool (is_live w s)) [
    | inl on ↦ ap₂ (λ (x y : Bool). x && y) (live_same v w bodies s h)
        (ap (λ (y : Sleeper). y.asleep && (y.bss == b)) (h.others.stations.rests s on))
    | inr off ↦ rw (live_same v w bodies s h, off) refl
  ]

  pub any_asleep_same : is_any_asleep_of v b ≡ is_any_asleep w b
  any_asleep_same = ap (λ (c : Config). list_any (is_asleep_of v b) (upto c.stations)) h.others.config
      ∙ any_kept (λ s. (station w s).asleep && ((station w s).bss == b)) (is_live w) (is_asleep_of v b)
      asleep_same (upto w.config.stations)

-- ---- the group frames of all BSSs

-- those of one BSS change
grouped : (groups : List GroupValue) (config : Config) (states : List GroupState) (b : ℕ) (g : GroupValue)
    (x : GroupState) → b < bss_count config.bsses → group_state g ≡ x → GroupsStand groups config states →
    GroupsStand (with_group groups b g) config (put no_group states b x)
grouped groups config states b g x low is h = record {
  sized = length-set groups b g ∙ h.sized;
  each = λ k. elim (cases_eq k b) [
    | inl here ↦ subst (λ (j : ℕ). group_state (group_at (with_group groups b g) j)
        ≡ at no_group (put no_group states b x) j) (sym here)
        (ap group_state (get_or-set_same groups b g (no_group_frames 0)
        (subst (λ (n : ℕ). b < n) (sym h.sized) low))
        ∙ is ∙ sym (at_put_same no_group states b x))
    | inr other ↦ ap group_state (get_or-set_other groups b k g (no_group_frames 0) other)
        ∙ h.each k ∙ sym (at_put_other no_group states b k x (λ e. other (sym e)))
  ];
}

-- ---- refusals and answers

is_some_flying : (o : Option GroupFlight) → is_some o ≡ is_some (option_map world_flight o)
is_some_flying None = refl
is_some_flying (Some x) = refl

is_none_flying : (o : Option GroupFlight) → is_none o ≡ is_none (option_map world_flight o)
is_none_flying None = refl
is_none_flying (Some x) = refl

-- a BSS whose number is below the number of BSSs
pub good_bss : (w : World) (b : ℕ) → b < bss_count w.config.bsses → is_bad_bss w b ≡ false
good_bss w b low = lt-leb (bss_count w.config.bsses) b low

-- the first row of a call about group frames that is not refused
pub bss_below : (w : World) (g : GroupCall) → refusal w (Asked (Group g)) ≡ None →
    g.bss < bss_count w.config.bsses
bss_below w g done = leb-false _ _ (no_row (refusals w (Asked (Group g))) done).0

module _ (v : TransmitValue) (w : World) (bodies : ℕ → FrameValue) (h : Parts v w bodies) (b : ℕ) where
  state_same : group_state (group_in v b) ≡ group_of w b
  state_same = h.others.groups.each b

  queued_count : length (group_in v b).queued ≡ length (group_of w b).queued
  queued_count = sym (length-map (group_in v b).queued world_frame)
      ∙ ap (λ (g : GroupState). length g.queued) state_same

  flying_same : option_map world_flight (group_in v b).flying ≡ (group_of w b).flying
  flying_same = ap (λ (g : GroupState). g.flying) state_same

  rows_same : (group_in v b).capacity ≡ v.config.buffered → (ask : GroupAsk) →
      group_refusal (is_any_asleep_of v b) ask (group_in v b) ≡ first_refusal (group_refusals w b ask)
  unfolding first_refusal
  rows_same room (group.Accept len) =
      ap₂ (λ (n k : ℕ). if nat_le n k then Some (Buffered k) else None)
      (room ∙ ap (λ (c : Config). c.buffered) h.others.config) queued_count
  rows_same room group.Beacon = refl
  rows_same room group.Pull =
      ap₂ (λ (x y : Bool). if x then Some Flying else (if not y then Some Idle else None))
      (is_some_flying (group_in v b).flying ∙ ap (λ (o : Option WorldFrame). is_some o) flying_same)
      (ap₂ (λ (x : Bool) (g : GroupState). may_go x g) (any_asleep_same v w bodies h b) state_same)
  rows_same room group.Done = ap (λ (x : Bool). if x then Some Nothing else None)
      (is_none_flying (group_in v b).flying ∙ ap (λ (o : Option WorldFrame). is_none o) flying_same)

  group_answer_same : (ask : GroupAsk) →
      group_answer v.config (is_any_asleep_of v b) ask (group_state (group_in v b))
      ≡ group_answer w.config (is_any_asleep w b) ask (group_of w b)
  group_answer_same ask =
      ap₂ (λ (c : Config) (x : Bool). group_answer c x ask (group_state (group_in v b))) h.others.config
      (any_asleep_same v w bodies h b)
      ∙ ap (group_answer w.config (is_any_asleep w b) ask) state_same

  state_after : (ask : GroupAsk) (tag : ℕ) (to : List ℕ) →
      group_state (group_value_after v.config (is_any_asleep_of v b) ask tag to (group_in v b))
      ≡ group_after w.config ask (group_of w b)
  state_after ask tag to = group_follows v.config (is_any_asleep_of v b) ask tag to (group_in v b)
      ∙ ap₂ (λ (c : Config) (g : GroupState). group_after c ask g) h.others.config state_same

module _
    (v : TransmitValue) (w : World) (bodies : ℕ → FrameValue) (h : Parts v w bodies) (g : GroupCall) where
  pub group_fault_same : g.bss < bss_count v.config.bsses → (group_in v g.bss).capacity ≡ v.config.buffered →
      group_refusal (is_any_asleep_of v g.bss) g.ask (group_in v g.bss) ≡ refusal w (Asked (Group g))
  unfolding first_refusal
  group_fault_same low room = rows_same v w bodies h g.bss room g.ask
      ∙ ap (λ (x : Bool). if x then Some BadBss else first_refusal (group_refusals w g.bss g.ask))
      (sym (good_bss w g.bss (subst (λ (c : Config). g.bss < bss_count c.bsses) h.others.config low)))

  -- ---- the calls

  group_parts : g.bss < bss_count w.config.bsses → (tag : ℕ) (to : List ℕ) →
      Parts (after_group_call v g tag to) (group_outcome w g).world bodies
  group_parts low tag to =
      let p : Pieces v w bodies = to_pieces v w bodies h in
      of_pieces (after_group_call v g tag to) (group_outcome w g).world bodies (record {
        config = p.config;
        clock = p.clock;
        exchanges = p.exchanges;
        opened = p.opened;
        stations = p.stations;
        windows = p.windows;
        modes = record { sized = p.modes.sized; each = p.modes.each };
        flows = stands_same v.flows w (group_outcome w g).world refl p.flows;
        turns = grouped_leaves w g v.sched p.turns;
        ledger = p.ledger;
        groups = grouped v.groups w.config w.groups g.bss _ (group_after w.config g.ask (group_of w g.bss))
            low (state_after v w bodies h g.bss g.ask tag to) p.groups;
        frames = p.frames;
      })

-- a refusal changes nothing: only that of a pull of stations may
nothing_changed : (w : World) (g : GroupCall) (r : Refusal) → after_refusal w (Asked (Group g)) r ≡ w
unfolding after_refusal
nothing_changed w g r = refl

module _
    (v : TransmitValue) (w : World) (bodies : ℕ → FrameValue) (h : StandsFor v w bodies) (g : GroupCall) where
  pub group_refused : (r : Refusal) → refusal w (Asked (Group g)) ≡ Some r →
      Meets w bodies (Asked (Group g)) v (Refused r)
  group_refused r e =
      let refused : step w (Asked (Group g))
      ≡ record { world = after_refusal w (Asked (Group g)) r; reply = Refused r } =
      step_refused w (Asked (Group g)) r e in
      let world : (step w (Asked (Group g))).world ≡ w =
      ap (λ (o : Outcome). o.world) refused ∙ nothing_changed w g r in
      record {
        stands = subst (λ (u : World). StandsFor v u bodies) (sym world) h;
        reply = sym (ap (λ (o : Outcome). o.reply) refused);
      }

  pub group_meets : (tag : ℕ) (to : List ℕ) → refusal w (Asked (Group g)) ≡ None →
      Meets w bodies (Asked (Group g)) (after_group_call v g tag to)
      (reply.Group (group_answer v.config (is_any_asleep_of v g.bss) g.ask (group_state (group_in v g.bss))))
  unfolding outcome_of
  group_meets tag to done =
      subst (λ (r : ReplyNote). Meets w bodies (Asked (Group g)) (after_group_call v g tag to) r)
      (sym (ap (λ a. reply.Group a) (group_answer_same v w bodies h.parts g.bss g.ask)))
      (unlisted_meets (after_group_call v g tag to) w bodies (Asked (Group g)) h.reached tt tt done
      (group_parts v w bodies h.parts g (bss_below w g done) tag to) refl)
