-- No call changes the settings.
use Rattle.std.proofs.Common.{◌≡◌, ℕ, ◌==◌, List, [], ◌∷◌, refl, ap, ◌∙◌}
use Rattle.std.proofs.lemmas.Bool.{cond_both}
use Rattle.wf_frame.specs.Frames.{FrameValue}
use Rattle.wf_frame.specs.declared.classes.Cause.{Cause}
use Rattle.wf_frame.specs.declared.classes.Cause.TheVariants.{Left, Flushed}
use Rattle.wf_def_codel.specs.Codel.{Codel, renewed}
use Rattle.wf_queue_flows.specs.Backlog.{BacklogValue, with_calmed, backlog_when_listed, after_emptying, unchanged}
use Rattle.wf_queue_flows.specs.Flows.{flows_at_limit, FlowsValue, SettingsValue, settings, is_listed, after_limit, queue_for, with_listed_queue, after_put, queues_of, all_emptied, after_purge, after_tid_flush}

settings_within : (v : FlowsValue) → settings (after_limit v) ≡ settings v
unfolding after_limit
settings_within v = cond_both (flows_at_limit v) _ v (λ w. settings w ≡ settings v) (λ e. refl) (λ e. refl)

room_listed : (n : ℕ) (b : BacklogValue) (q : ℕ) → (backlog_when_listed n b q).room ≡ b.room
room_listed n b q = cond_both (n == 1) (with_calmed b q) b (λ x. x.room ≡ b.room) (λ e. refl) (λ e. refl)

settings_listed : (v : FlowsValue) (i q : ℕ) → settings (with_listed_queue v i q) ≡ settings v
unfolding with_listed_queue
settings_listed v i q = cond_both (is_listed v i q) v _ (λ w. settings w ≡ settings v) (λ e. refl)
    (λ e. ap (λ (n : ℕ). let s : SettingsValue = record (settings v) { room = n } in s)
    (room_listed v.codel_reset v.backlog q))

pub settings_put : (v : FlowsValue) (i : ℕ) (f : FrameValue) → settings (after_put v i f) ≡ settings v
unfolding after_put
settings_put v i f = settings_listed _ i (queue_for (after_limit v) i f.flow) ∙ settings_within v

room_emptied : (cause : Cause) (codel : Codel → Codel) (b : BacklogValue) (qs : List ℕ) →
    (all_emptied cause codel b qs).room ≡ b.room
unfolding all_emptied
room_emptied cause codel b [] = refl
room_emptied cause codel b (q ∷ qs) = room_emptied cause codel (after_emptying cause codel b q) qs

abbrev with_room : FlowsValue → ℕ → SettingsValue
with_room v n = record (settings v) { room = n }

pub settings_purged : (v : FlowsValue) (i : ℕ) → settings (after_purge v i) ≡ settings v
unfolding after_purge
settings_purged v i = ap (with_room v) (room_emptied Left renewed v.backlog (queues_of v i))

pub settings_flushed : (v : FlowsValue) (i : ℕ) → settings (after_tid_flush v i) ≡ settings v
unfolding after_tid_flush
settings_flushed v i = ap (with_room v) (room_emptied Flushed unchanged v.backlog (queues_of v i))
