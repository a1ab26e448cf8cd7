-- Proves the law of the limit of a service period: as long as it is open, the frames that went to the station
-- and those that are left are no more than its limit. By induction on the entries.
use Rattle.std.proofs.Common.{◌≡◌, refl, sym, ◌∙◌, ap, ap₂, subst, arith, ℕ, zero, suc, ◌+◌, ◌-◌, ◌<◌, ◌≤◌, Bool, true, false, ◌&&◌, List, [], ◌∷◌, take, drop, ◌⊎◌, Option, Some, None, is_some, option_map, unwrap_or, IfSome, if◌then◌else◌, length, inl, inr}
use Rattle.std.proofs.lemmas.Bool.{not-false}
use Rattle.wf_frame.specs.declared.settings.Config.{Config}
use Rattle.wf_frame.specs.declared.classes.Class.{Class}
use Rattle.wf_frame.specs.declared.notes.Ask.TheVariants.{Service}
use Rattle.wf_frame.specs.declared.notes.Note.{Note}
use Rattle.wf_frame.specs.declared.notes.Note.TheVariants.{Asked}
use Rattle.wf_frame.specs.declared.notes.Part.{Part}
use Rattle.wf_frame.specs.declared.notes.ReplyNote.{ReplyNote}
use Rattle.wf_frame.specs.declared.notes.ReplyNote.TheVariants.{Send}
use Rattle.wf_frame.specs.declared.notes.ReplyNote.TheVariants as reply
use Rattle.wf_frame.specs.declared.notes.ServiceAsk.TheVariants as service
use Rattle.wf_frame.specs.declared.notes.ServiceReply.TheVariants as answer
use Rattle.wf_frame.specs.Classes.{class_of, has_class}
use Rattle.wf_def_lists.specs.Table.{at}
use Rattle.wf_def_world.specs.World.{World, Station, Exchange, no_station, opening}
use Rattle.wf_def_world.specs.Service.{is_served, service_after_sent}
use Rattle.wf_def_world.specs.Exchanges.{mpdus_of, part_of}
use Rattle.wf_def_world.specs.Step.{Outcome, step}
use Rattle.wf_def_world.specs.Run.{Entry, world_after}
use Rattle.wf_def_world.specs.Stretches.{world_at}
use Rattle.wf_law_rules.proofs.Lemmas.Numbers.{on_bool, yes_eq}
use Rattle.wf_law_runs.specs.Ranges.{IsOpenService}
use Rattle.wf_law_runs.specs.Services.{is_in_service, frames_sent_to, frames_to, IsTrigger, ServiceLimitLaw}
use Rattle.wf_law_runs.specs.Tries.{frames_in_part}
use Rattle.wf_law_runs.specs.Waiting.{is_sent_to}
use Rattle.wf_law_runs.proofs.Common.Moments.{entry}
use Rattle.wf_law_runs.proofs.Common.Traits.{trait}
use Rattle.wf_law_runs.proofs.Ranges.Traits.{IsTrait, Traits, traits, traits_step}
use Rattle.wf_law_runs.proofs.Shares.Moments.{after_moment}
use Rattle.wf_law_runs.proofs.Tries.Law.{part_length}
use Rattle.wf_law_runs.proofs.Windows.Agreed.{IsLawful, lawful, lawful_step}
use Rattle.wf_law_runs.proofs.Services.Naps.{nap_at}
use Rattle.wf_law_runs.proofs.Services.Sends.{IsSent, after_sent}
use Rattle.wf_law_runs.proofs.Services.Steps.{Effect, Nothing, Sleeps, Wakes, Leaves, Serves, Sends, IsEffect, HasEffect, after_effect, effect_step, IsServed, served_step}

-- ---- an open service period

-- The part of a sleeping station with these classes, this limit and an open service period, of which this
-- number of frames is left.
abbrev open_with : ℕ → ℕ → ℕ → Station
open_with classes most left =
    record no_station { asleep = true; delivery = classes; most = most; service = Some left }

-- Some frames are left of an open service period with a limit.
some_left : (w : World) (s classes most left : ℕ) → Traits w → nap_at w s ≡ open_with classes most left →
    0 < most → 1 ≤ left
some_left w s classes most left h is some = go _ (at None w.stations s) (h s)
    (ap (λ (z : Station). z.most) is) (ap (λ (z : Station). z.service) is)
  where
    here : (a : ℕ) (o : Option ℕ) (sleeps : Bool) → IfSome o (IsOpenService sleeps a) → a ≡ most →
        o ≡ Some left → 1 ≤ left
    here a None sleeps k same is = absurd (cc is)
    here a (Some b) sleeps k same is =
        let e : b ≡ left = cc is in omega (arith, k.some (omega (arith, some, same)), e)

    go : (count : ℕ) (o : Option Station) → IfSome (option_map trait o) (IsTrait count) →
        (unwrap_or o no_station).most ≡ most → (unwrap_or o no_station).service ≡ Some left → 1 ≤ left
    go count None k same is = absurd (cc is)
    go count (Some x) k same is = here x.most x.service x.asleep k.service same is

-- ---- one call

-- A call sends n frames of those that are left to the station, and its service period is closed then.
record Closes (n left : ℕ) (z : Station) : Type 0 where
  closed : z.service ≡ None
  few : n ≤ left

-- A call sends n frames to the station, and others are left of its service period then.
record GoesOn (n left classes most : ℕ) (z : Station) : Type 0 where
  next : ℕ
  is : z ≡ open_with classes most next
  few : n + next ≤ left

abbrev Goes : ℕ → ℕ → ℕ → ℕ → Station → Type 0
Goes n left classes most z = Closes n left z ⊎ GoesOn n left classes most z

stays_open : (n left classes most : ℕ) (z : Station) → n ≡ 0 → z ≡ open_with classes most left →
    Goes n left classes most z
stays_open n left classes most z none is = inr (record { next = left; is = is; few = omega (arith, none) })

is_closed : (n left classes most : ℕ) (z : Station) → n ≡ 0 → z.service ≡ None → Goes n left classes most z
is_closed n left classes most z none closed = inl (record { closed = closed; few = omega (arith, none) })

-- A reply that sends nothing to the station sends no frames to it.
no_frames : (r : ReplyNote) (s classes : ℕ) → is_sent_to s r ≡ false → frames_sent_to s classes r ≡ 0
no_frames (Send e t tid air part more eosp) s classes none =
    ap (λ (b : Bool). if b && has_class classes (class_of tid) then frames_in_part part else 0) none
no_frames _ s classes none = refl

-- The part of the station after an exchange, which is one of the service period or not.
abbrev sent_if : Exchange → ℕ → ℕ → ℕ → Bool → Station
sent_if x classes most left served = record (open_with classes most left) {
  service = if served && true then service_after_sent x.eosp (length (mpdus_of x.content)) (Some left)
      else Some left;
}

-- The part of the station after an exchange of its service period, which is the last one or not.
abbrev served_with : ℕ → ℕ → ℕ → ℕ → Bool → Station
served_with classes most left n last =
    record (open_with classes most left) { service = service_after_sent last n (Some left) }

-- An exchange of a service period leaves what it does not send, unless it is the last.
spends : (x : Exchange) (n classes most left : ℕ) (z : Station) → has_class classes x.class ≡ true →
    n ≡ length (mpdus_of x.content) → length (mpdus_of x.content) ≤ left →
    z ≡ after_sent x (open_with classes most left) → Goes n left classes most z
spends x n classes most left z on count few is =
    let k : ℕ = length (mpdus_of x.content) in
    let after : z ≡ served_with classes most left k x.eosp = is ∙ ap (sent_if x classes most left) on in
    on_bool x.eosp
    (λ last. inl (record {
      closed = ap (λ (y : Station). y.service) (after ∙ ap (served_with classes most left k) last);
      few = omega (arith, count, few);
    }))
    (λ more. inr (record {
      next = left - k;
      is = after ∙ ap (served_with classes most left k) more;
      few = omega (arith, count, few);
    }))

goes_by_sent : (x : Exchange) (w : World) (note : Note) (r : ReplyNote) (s classes most left : ℕ)
    (z : Station) → IsSent w note r s x → nap_at w s ≡ open_with classes most left → 1 ≤ left →
    z ≡ after_sent x (nap_at w s) → Goes (frames_sent_to s classes r) left classes most z
goes_by_sent x w note r s classes most left z i is some e =
    let part : Part = part_of x.batch x.plain x.content in
    let count : frames_sent_to s classes r
    ≡ (if has_class classes x.class then frames_in_part part else 0) =
    ap (frames_sent_to s classes) i.reply
    ∙ ap₂ (λ (b : Bool) (c : Class). if b && has_class classes c then frames_in_part part else 0)
    (yes_eq s s refl) i.its_class in
    let after : z ≡ after_sent x (open_with classes most left) = e ∙ ap (after_sent x) is in
    on_bool (has_class classes x.class)
    (λ on. spends x _ classes most left z on
    (count ∙ (ap (λ (b : Bool). if b then frames_in_part part else 0) on
    ∙ part_length x.batch x.plain x.content))
    (i.few left (ap (λ (y : Station). is_served y x.class) is ∙ ap (λ (b : Bool). b && true) on)
    (ap (λ (y : Station). y.service) is) some) after)
    (λ off. stays_open _ left classes most z
    (count ∙ ap (λ (b : Bool). if b then frames_in_part part else 0) off)
    (after ∙ ap (sent_if x classes most left) off))

goes : (f : Effect) (w : World) (note : Note) (r : ReplyNote) (s classes most left : ℕ) (z : Station) →
    IsEffect w note r s f → nap_at w s ≡ open_with classes most left → 1 ≤ left →
    z ≡ after_effect f (nap_at w s) → Goes (frames_sent_to s classes r) left classes most z
goes Nothing w note r s classes most left z i is some e =
    stays_open _ left classes most z (no_frames r s classes i) (e ∙ is)
goes Sleeps w note r s classes most left z i is some e =
    stays_open _ left classes most z (ap (frames_sent_to s classes) i.1) (e ∙ ap (after_effect Sleeps) is)
goes Wakes w note r s classes most left z i is some e =
    is_closed _ left classes most z (ap (frames_sent_to s classes) i.1) (ap (λ (y : Station). y.service) e)
goes Leaves w note r s classes most left z i is some e =
    is_closed _ left classes most z (ap (frames_sent_to s classes) i.1.1) (ap (λ (y : Station). y.service) e)
goes (Serves (service.Set a b c)) w note r s classes most left z i is some e =
    let sleeps : (nap_at w a).asleep ≡ true =
    ap (λ (k : ℕ). (nap_at w k).asleep) i.own ∙ ap (λ (y : Station). y.asleep) is in
    absurd (cc (sleeps, i.allowed.1.1.1.0))
goes (Serves (service.Trigger a)) w note r s classes most left z i is some e =
    let opened : is_some (nap_at w a).service ≡ true =
    ap (λ (k : ℕ). is_some (nap_at w k).service) i.own ∙ ap (λ (y : Station). is_some y.service) is in
    absurd (cc (opened, i.allowed.1.1.1.0))
goes (Serves (service.End a)) w note r s classes most left z i is some e =
    is_closed _ left classes most z (ap (frames_sent_to s classes) i.reply)
    (ap (λ (y : Station). y.service) e)
goes (Sends x) w note r s classes most left z i is some e =
    goes_by_sent x w note r s classes most left z i is some e

-- ---- the entries

-- From the world in which the service period is open, as long as it is open.
frames_run : (d : ℕ) (es : List Entry) (w : World) (s classes most left : ℕ) → IsLawful w → Traits w →
    nap_at w s ≡ open_with classes most left → 0 < most →
    ((k : ℕ) → 0 < k → k < d → is_in_service (world_after w (take k es)) s ≡ true) →
    frames_to w s classes (take d es) ≤ left
unfolding world_after
frames_run zero es w s classes most left i h is some stays = omega arith
frames_run (suc d) [] w s classes most left i h is some stays = omega arith
frames_run (suc d) (e ∷ es) w s classes most left i h is some stays =
    let o : Outcome = step w e.1 in
    let f : HasEffect w e.1 s o = effect_step e.1 w s i in
    elim (goes f.effect w e.1 o.reply s classes most left (nap_at o.world s) f.is is
    (some_left w s classes most left h is some) f.after) [
      | inl closes ↦
          let none : frames_to o.world s classes (take d es) ≡ 0 = nothing_more d es o.world
          (λ more. stays 1 (omega arith) (omega (arith, more))) closes.closed in
          omega (arith, closes.few, none)
      | inr on ↦
          let rest : frames_to o.world s classes (take d es) ≤ on.next =
          frames_run d es o.world s classes most on.next (lawful_step w e.1 i) (traits_step w e.1 h) on.is
          some (λ k low high. stays (suc k) (omega arith) (omega (arith, high))) in
          omega (arith, on.few, rest)
    ]
  where
    nothing_more : (d : ℕ) (es : List Entry) (v : World) → (0 < d → is_in_service v s ≡ true) →
        (nap_at v s).service ≡ None → frames_to v s classes (take d es) ≡ 0
    nothing_more zero es v stays closed = refl
    nothing_more (suc d) es v stays closed =
        absurd (cc (sym (stays (omega arith)) ∙ ap (λ (o : Option ℕ). is_some o) closed))

-- The part of the station after its trigger.
opened_by : (w : World) (s : ℕ) (o : Outcome) → IsServed w (service.Trigger s) o →
    nap_at o.world s ≡ open_with (nap_at w s).delivery (nap_at w s).most (nap_at w s).most
opened_by w s o i =
    let z : Station = nap_at w s in
    i.after ∙ ap (λ (b : Bool). record no_station {
      asleep = b;
      delivery = z.delivery;
      most = z.most;
      service = Some z.most;
    }) (not-false _ i.allowed.1.1.0)

trigger_opens : (config : Config) (h : List Entry) (a s : ℕ) → IsTrigger config h a s →
    let z : Station = nap_at (world_at config h a) s in
    nap_at (world_at config h (suc a)) s ≡ open_with z.delivery z.most z.most
trigger_opens config h a s t = elim (entry h (opening config) a) [
  | inl past ↦ absurd (cc (past.reply, t.answered))
  | inr found ↦
      let w : World = world_at config h a in
      let same : found.0 ≡ Asked (Service (service.Trigger s)) = cc (found.1.call, t.call) in
      let answered : (step w found.0).reply ≡ reply.Service (answer.Triggered t.class) =
      cc (found.1.reply, t.answered) in
      ap (λ (v : World). nap_at v s) (found.1.world ∙ ap (λ (n : Note). (step w n).world) same)
      ∙ opened_by w s (step w (Asked (Service (service.Trigger s)))) (served_step w (service.Trigger s)
      (answer.Triggered t.class) (sym (ap (λ (n : Note). (step w n).reply) same) ∙ answered))
]

pub limit_law : (config : Config) (h : List Entry) → ServiceLimitLaw config h
limit_law config h a b s trigger stays some =
    let z : Station = nap_at (world_at config h a) s in
    let v : World = world_at config h (suc a) in
    let opened : nap_at v s ≡ open_with z.delivery z.most z.most = trigger_opens config h a s trigger in
    let d : ℕ = b - suc a in
    subst (λ (classes : ℕ). frames_to v s classes (take d (drop (suc a) h)) ≤ z.most)
    (sym (ap (λ (y : Station). y.delivery) opened))
    (frames_run d (drop (suc a) h) v s z.delivery z.most z.most (lawful config (take (suc a) h))
    (traits config (take (suc a) h)) opened some
    (λ k low high. subst (λ (u : World). is_in_service u s ≡ true) (after_moment config h (suc a) k)
    (stays (suc a + k) (omega arith) (omega (arith, high)))))
