-- Proves the laws of how service periods begin and end: by cases of what a call does to a station.
use Rattle.std.proofs.Common.{◌≡◌, refl, sym, ◌∙◌, ap, ap₂, subst, ℕ, Bool, true, false, ◌==◌, ◌&&◌, List, take, Option, Some, None, is_some, if◌then◌else◌, length, inl, inr}
use Rattle.wf_frame.specs.declared.settings.Config.{Config}
use Rattle.wf_frame.specs.declared.notes.Note.{Note}
use Rattle.wf_frame.specs.declared.notes.ReplyNote.{ReplyNote}
use Rattle.wf_frame.specs.declared.notes.ServiceAsk.TheVariants as service
use Rattle.wf_def_world.specs.World.{World, Station, Exchange, opening}
use Rattle.wf_def_world.specs.Service.{is_delivered, is_served, service_after_sent}
use Rattle.wf_def_world.specs.Exchanges.{mpdus_of}
use Rattle.wf_def_world.specs.Step.{step}
use Rattle.wf_def_world.specs.Run.{Entry}
use Rattle.wf_def_world.specs.Stretches.{world_at}
use Rattle.wf_law_rules.proofs.Lemmas.Numbers.{on_if, both, and_true, yes_eq}
use Rattle.wf_law_runs.specs.Services.{is_in_service, IsTrigger, TriggerLaw, is_end_of, ServiceEndLaw}
use Rattle.wf_law_runs.proofs.Common.Moments.{IsEntry, entry}
use Rattle.wf_law_runs.proofs.Windows.Agreed.{lawful}
use Rattle.wf_law_runs.proofs.Services.Naps.{nap_at}
use Rattle.wf_law_runs.proofs.Services.Sends.{after_sent}
use Rattle.wf_law_runs.proofs.Services.Steps.{Effect, Nothing, Sleeps, Wakes, Leaves, Serves, Sends, IsServing, IsEffect, HasEffect, after_effect, effect_step}

-- Whether a service period is open.
abbrev is_open : Station → Bool
is_open z = is_some z.service

-- ---- the beginning

-- An exchange opens no service period.
still_closed : (x : Exchange) (z : Station) → is_open z ≡ false → is_open (after_sent x z) ≡ false
still_closed x z closed = on_if (λ (o : Option ℕ). is_some o ≡ false) (is_served z x.class)
    (service_after_sent x.eosp (length (mpdus_of x.content)) z.service) z.service
    (λ served. absurd (cc (closed, (both (is_open z) (is_delivered z x.class && z.asleep) served).0)))
    (λ _. closed)

-- Only a trigger opens a service period.
opened_by : (f : Effect) (w : World) (note : Note) (r : ReplyNote) (s : ℕ) (z : Station) →
    IsEffect w note r s f → is_open z ≡ false → is_open (after_effect f z) ≡ true →
    IsServing w note r s (service.Trigger s)
opened_by Nothing w note r s z i closed opened = absurd (cc (closed, opened))
opened_by Sleeps w note r s z i closed opened = absurd (cc (closed, opened))
opened_by Wakes w note r s z i closed opened = absurd (cc opened)
opened_by Leaves w note r s z i closed opened = absurd (cc opened)
opened_by (Serves (service.Set a classes most)) w note r s z i closed opened = absurd (cc (closed, opened))
opened_by (Serves (service.Trigger a)) w note r s z i closed opened =
    subst (λ (k : ℕ). IsServing w note r s (service.Trigger k)) i.own i
opened_by (Serves (service.End a)) w note r s z i closed opened = absurd (cc opened)
opened_by (Sends x) w note r s z i closed opened = absurd (cc (still_closed x z closed, opened))

trigger_by : (config : Config) (h : List Entry) (m s : ℕ) (note : Note) → IsEntry (opening config) h m note →
    IsServing (world_at config h m) note (step (world_at config h m) note).reply s (service.Trigger s) →
    IsTrigger config h m s
trigger_by config h m s note i b = record {
  class = _;
  call = i.call ∙ ap (λ (n : Note). Some n) b.call;
  answered = i.reply ∙ ap (λ (q : ReplyNote). Some q) b.reply;
}

pub trigger_law : (config : Config) (h : List Entry) → TriggerLaw config h
trigger_law config h m s closed opened = elim (entry h (opening config) m) [
  | inl past ↦ absurd (cc (ap (λ (w : World). is_in_service w s) past.world, closed, opened))
  | inr found ↦
      let w : World = world_at config h m in
      let f : HasEffect w found.0 s (step w found.0) = effect_step found.0 w s (lawful config (take m h)) in
      let opens : is_open (after_effect f.effect (nap_at w s)) ≡ true =
      sym (ap is_open f.after) ∙ (sym (ap (λ (v : World). is_in_service v s) found.1.world) ∙ opened) in
      trigger_by config h m s found.0 found.1
      (opened_by f.effect w found.0 (step w found.0).reply s (nap_at w s) f.is closed opens)
]

-- ---- the end

-- An exchange ends a service period only if it is the last one.
last_ends : (x : Exchange) (z : Station) → is_open z ≡ true → is_open (after_sent x z) ≡ false → x.eosp ≡ true
last_ends x z opened closed = go (is_served z x.class) x.eosp z.service opened closed
  where
    go : (served last : Bool) (o : Option ℕ) → is_some o ≡ true →
        is_some (if served then service_after_sent last (length (mpdus_of x.content)) o else o) ≡ false →
        last ≡ true
    go true true o opened closed = refl
    go true false None opened closed = absurd (cc opened)
    go true false (Some left) opened closed = absurd (cc closed)
    go false last o opened closed = absurd (cc (opened, closed))

closed_by : (f : Effect) (w : World) (note : Note) (r : ReplyNote) (s : ℕ) (z : Station) →
    IsEffect w note r s f → is_open z ≡ true → is_open (after_effect f z) ≡ false →
    is_end_of s (Some note) (Some r) ≡ true
closed_by Nothing w note r s z i opened closed = absurd (cc (opened, closed))
closed_by Sleeps w note r s z i opened closed = absurd (cc (opened, closed))
closed_by Wakes w note r s z i opened closed =
    ap₂ (λ (n : Note) (q : ReplyNote). is_end_of s (Some n) (Some q)) i.0 i.1 ∙ yes_eq s s refl
closed_by Leaves w note r s z i opened closed =
    ap₂ (λ (n : Note) (q : ReplyNote). is_end_of s (Some n) (Some q)) i.0 i.1.1 ∙ yes_eq s s refl
closed_by (Serves (service.Set a classes most)) w note r s z i opened closed = absurd (cc (opened, closed))
closed_by (Serves (service.Trigger a)) w note r s z i opened closed = absurd (cc closed)
closed_by (Serves (service.End a)) w note r s z i opened closed =
    ap₂ (λ (n : Note) (q : ReplyNote). is_end_of s (Some n) (Some q)) i.call i.reply ∙ yes_eq a s i.own
closed_by (Sends x) w note r s z i opened closed =
    ap (λ (q : ReplyNote). is_end_of s (Some note) (Some q)) i.reply
    ∙ and_true (s == s) x.eosp (yes_eq s s refl) (last_ends x z opened closed)

pub end_law : (config : Config) (h : List Entry) → ServiceEndLaw config h
end_law config h m s opened closed = elim (entry h (opening config) m) [
  | inl past ↦ absurd (cc (ap (λ (w : World). is_in_service w s) past.world, closed, opened))
  | inr found ↦
      let w : World = world_at config h m in
      let f : HasEffect w found.0 s (step w found.0) = effect_step found.0 w s (lawful config (take m h)) in
      ap₂ (is_end_of s) found.1.call found.1.reply
      ∙ closed_by f.effect w found.0 (step w found.0).reply s (nap_at w s) f.is opened
      (sym (ap is_open f.after) ∙ (sym (ap (λ (v : World). is_in_service v s) found.1.world) ∙ closed))
]
