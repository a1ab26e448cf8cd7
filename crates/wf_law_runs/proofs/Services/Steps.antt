-- Proves what each call does to the service period of a station. By cases of the call.
use Rattle.std.proofs.Common.{◌≡◌, refl, ◌∙◌, ℕ, true, false, not, subst, Option, Some, None, inl, inr}
use Rattle.std.proofs.lemmas.Bool.{cases_eq}
use Rattle.wf_frame.specs.declared.classes.Class.{Class}
use Rattle.wf_frame.specs.declared.notes.Ask.TheVariants.{Leave, Pull, Sleep, Wake, Service}
use Rattle.wf_frame.specs.declared.notes.Limits.{Limits}
use Rattle.wf_frame.specs.declared.notes.Note.{Note}
use Rattle.wf_frame.specs.declared.notes.Note.TheVariants.{Asked}
use Rattle.wf_frame.specs.declared.notes.Refusal.{Refusal}
use Rattle.wf_frame.specs.declared.notes.ReplyNote.{ReplyNote}
use Rattle.wf_frame.specs.declared.notes.ReplyNote.TheVariants.{Slept, Woken}
use Rattle.wf_frame.specs.declared.notes.ReplyNote.TheVariants as reply
use Rattle.wf_frame.specs.declared.notes.ServiceAsk.{ServiceAsk}
use Rattle.wf_frame.specs.declared.notes.ServiceAsk.TheVariants as service
use Rattle.wf_frame.specs.declared.notes.ServiceReply.{ServiceReply}
use Rattle.wf_def_world.specs.World.{World, Station, Exchange, no_station, is_live}
use Rattle.wf_def_world.specs.Service.{station_served, after_service}
use Rattle.wf_def_world.specs.CanSend.{with_listings_of}
use Rattle.wf_def_world.specs.Exchanges.{picked_station}
use Rattle.wf_def_world.specs.Refusals.{refusals, refusal, service_refusals}
use Rattle.wf_def_world.specs.Step.{Outcome, pull_outcome_for, pull_outcome, leave_outcome, sleep_outcome, wake_outcome, service_answer, service_outcome, outcome_of, concerned_station, judged_outcome, step}
use Rattle.wf_law_runs.specs.Waiting.{is_sent_to}
use Rattle.wf_law_runs.proofs.Common.Picked.{picked_world}
use Rattle.wf_law_runs.proofs.Tries.Opens.{none_step}
use Rattle.wf_law_runs.proofs.Windows.Agreed.{IsLawful}
use Rattle.wf_law_runs.proofs.Windows.Opened.{NoRow, no_row}
use Rattle.wf_law_runs.proofs.Services.Naps.{nap, nap_at, IsApartFrom, nap_listed, nap_refused, nap_apart, nap_on, nap_gone}
use Rattle.wf_law_runs.proofs.Services.Sends.{IsSent, after_sent, sent, outcome, nap_picked, own_sent, other_sent, silent_sent, is_sent}

-- A call changes nothing that the service periods of a station depend on, or does one of these.
pub data Effect : Type 0 where
  Nothing : Effect
  Sleeps : Effect
  Wakes : Effect
  Leaves : Effect
  Serves : (ask : ServiceAsk) → Effect
  Sends : (x : Exchange) → Effect

-- The part of the station after it.
abbrev pub after_effect : Effect → Station → Station
after_effect Nothing z = z
after_effect Sleeps z = record z { asleep = true }
after_effect Wakes z = record z { asleep = false; service = None }
after_effect Leaves z = no_station
after_effect (Serves ask) z = after_service ask z
after_effect (Sends x) z = after_sent x z

-- A call about service periods is not refused.
pub record IsServing (w : World) (note : Note) (r : ReplyNote) (s : ℕ) (ask : ServiceAsk) : Type 0 where
  pub call : note ≡ Asked (Service ask)
  pub own : station_served ask ≡ s
  pub allowed : NoRow (service_refusals w ask)
  pub reply : r ≡ reply.Service (service_answer w ask)

-- The call and its reply do this to station s.
abbrev pub IsEffect : World → Note → ReplyNote → ℕ → Effect → Type 0
IsEffect w note r s Nothing = is_sent_to s r ≡ false
IsEffect w note r s Sleeps = (note ≡ Asked (Sleep s)) × (r ≡ Slept)
IsEffect w note r s Wakes = (note ≡ Asked (Wake s)) × (r ≡ Woken)
IsEffect w note r s Leaves = (note ≡ Asked (Leave s)) × ((dropped : ℕ) × (r ≡ reply.Left dropped))
IsEffect w note r s (Serves ask) = IsServing w note r s ask
IsEffect w note r s (Sends x) = IsSent w note r s x

pub record HasEffect (w : World) (note : Note) (s : ℕ) (o : Outcome) : Type 0 where
  pub effect : Effect
  pub is : IsEffect w note o.reply s effect
  pub after : nap_at o.world s ≡ after_effect effect (nap_at w s)

effect_listed : (w : World) (note : Note) (s : ℕ) (o : Outcome) (c : Option ℕ) → HasEffect w note s o →
    HasEffect w note s (record o { world = with_listings_of o.world c })
effect_listed w note s o c h =
    record { effect = h.effect; is = h.is; after = nap_listed c o.world s ∙ h.after }

-- ---- one call

-- The call does nothing to the station.
calm : (note : Note) (w : World) (s : ℕ) → IsApartFrom s note →
    ((c : Class) (l : Limits) → note ≡ Asked (Pull c l) → ⊥) → HasEffect w note s (step w note)
calm note w s apart sends_none = record {
  effect = Nothing;
  is = elim (none_step w note) [ inl p ↦ absurd (sends_none p.0 p.1 p.2) | inr none ↦ none.receiver s ];
  after = nap_apart note w s apart;
}

judged : (r : Option Refusal) (note : Note) (w : World) (s : ℕ) → refusal w note ≡ r →
    (NoRow (refusals w note) → HasEffect w note s (outcome_of w note)) →
    HasEffect w note s (judged_outcome w note r)
unfolding judged_outcome
judged (Some r) note w s e h = record { effect = Nothing; is = refl; after = nap_refused note r w s }
judged None note w s e h = effect_listed w note s (outcome_of w note) (concerned_station w note)
    (h (no_row (refusals w note) e))

-- A call about station i: what it does to this station, and that it does nothing to others.
about : (note : Note) (w : World) (i s : ℕ) →
    (NoRow (refusals w note) → HasEffect w note i (outcome_of w note)) →
    ((i ≡ s → ⊥) → HasEffect w note s (step w note)) → HasEffect w note s (step w note)
unfolding step
about note w i s own others = elim (cases_eq i s) [
  | inl is ↦ subst (λ (k : ℕ). HasEffect w note k (step w note)) is
      (judged (refusal w note) note w i refl own)
  | inr other ↦ others other
]

-- There is such a station.
some_live : (w : World) (s : ℕ) (z : Station) → not (is_live w s) ≡ false → is_live w s ≡ false →
    z ≡ no_station
some_live w s z live none = absurd (cc (live, none))

slept : (w : World) (s : ℕ) → NoRow (refusals w (Asked (Sleep s))) →
    HasEffect w (Asked (Sleep s)) s (outcome_of w (Asked (Sleep s)))
unfolding outcome_of sleep_outcome
slept w s rows = record {
  effect = Sleeps;
  is = (refl, refl);
  after = nap_on w s _ (after_effect Sleeps) (λ x. refl) (some_live w s _ rows.1.0);
}

woken : (w : World) (s : ℕ) → HasEffect w (Asked (Wake s)) s (outcome_of w (Asked (Wake s)))
unfolding outcome_of wake_outcome
woken w s = record {
  effect = Wakes;
  is = (refl, refl);
  after = nap_on w s _ (after_effect Wakes) (λ x. refl) (λ _. refl);
}

gone : (w : World) (s : ℕ) → HasEffect w (Asked (Leave s)) s (outcome_of w (Asked (Leave s)))
unfolding outcome_of leave_outcome
gone w s = record { effect = Leaves; is = (refl, (_, refl)); after = nap_gone _ s }

-- A call about the service periods of a station that is not refused.
live_served : (ask : ServiceAsk) (w : World) → NoRow (service_refusals w ask) →
    not (is_live w (station_served ask)) ≡ false
live_served (service.Set s classes most) w rows = rows.1.1.0
live_served (service.Trigger s) w rows = rows.1.0
live_served (service.End s) w rows = rows.1.0

nap_served : (ask : ServiceAsk) (x : Station) → nap (after_service ask x) ≡ after_service ask (nap x)
nap_served (service.Set s classes most) x = refl
nap_served (service.Trigger s) x = refl
nap_served (service.End s) x = refl

own_served : (ask : ServiceAsk) (w : World) → NoRow (service_refusals w ask) →
    nap_at (service_outcome w ask).world (station_served ask)
    ≡ after_service ask (nap_at w (station_served ask))
own_served ask w rows = nap_on w (station_served ask) (after_service ask) (after_service ask) (nap_served ask)
    (some_live w (station_served ask) _ (live_served ask w rows))

served : (w : World) (ask : ServiceAsk) → NoRow (refusals w (Asked (Service ask))) →
    HasEffect w (Asked (Service ask)) (station_served ask) (outcome_of w (Asked (Service ask)))
unfolding outcome_of
served w ask rows = record {
  effect = Serves ask;
  is = record { call = refl; own = refl; allowed = rows; reply = refl };
  after = own_served ask w rows;
}

pulled_by : (o : Option ℕ) (w : World) (c : Class) (l : Limits) (s : ℕ) → (picked_station w c).winner ≡ o →
    IsLawful w → HasEffect w (Asked (Pull c l)) s (pull_outcome_for (picked_world w c l) c o)
unfolding pull_outcome_for
pulled_by None w c l s won lawful =
    record { effect = Nothing; is = refl; after = nap_picked w c l s }
pulled_by (Some i) w c l s won lawful = elim (cases_eq i s) [
  | inl is ↦ subst (λ (k : ℕ). HasEffect w (Asked (Pull c l)) k (outcome w c l i)) is (record {
    effect = Sends (sent w c l i);
    is = is_sent w c l i lawful won;
    after = own_sent w c l i;
  })
  | inr other ↦ record {
    effect = Nothing;
    is = silent_sent w c l i s other;
    after = other_sent w c l i s other;
  }
]

pulled : (w : World) (c : Class) (l : Limits) (s : ℕ) → IsLawful w →
    HasEffect w (Asked (Pull c l)) s (outcome_of w (Asked (Pull c l)))
unfolding outcome_of pull_outcome
pulled w c l s lawful = pulled_by (picked_station w c).winner w c l s refl lawful

pub effect_step : (note : Note) (w : World) (s : ℕ) → IsLawful w → HasEffect w note s (step w note)
unfolding step
effect_step (Asked (Leave i)) w s lawful =
    about (Asked (Leave i)) w i s (λ _. gone w i) (λ other. calm _ w s other (λ c l e. cc e))
effect_step (Asked (Sleep i)) w s lawful =
    about (Asked (Sleep i)) w i s (slept w i) (λ other. calm _ w s other (λ c l e. cc e))
effect_step (Asked (Wake i)) w s lawful =
    about (Asked (Wake i)) w i s (λ _. woken w i) (λ other. calm _ w s other (λ c l e. cc e))
effect_step (Asked (Service ask)) w s lawful = about (Asked (Service ask)) w (station_served ask) s
    (served w ask) (λ other. calm _ w s other (λ c l e. cc e))
effect_step (Asked (Pull c l)) w s lawful =
    judged (refusal w (Asked (Pull c l))) (Asked (Pull c l)) w s refl (λ _. pulled w c l s lawful)
effect_step note w s lawful = calm note w s tt (λ c l e. cc e)

-- ---- a call about service periods that is answered

-- The call is not refused, and changes its station.
pub record IsServed (w : World) (ask : ServiceAsk) (o : Outcome) : Type 0 where
  pub allowed : NoRow (service_refusals w ask)
  pub after : nap_at o.world (station_served ask) ≡ after_service ask (nap_at w (station_served ask))

served_answer : (r : Option Refusal) (w : World) (ask : ServiceAsk) (x : ServiceReply) →
    refusal w (Asked (Service ask)) ≡ r → (judged_outcome w (Asked (Service ask)) r).reply ≡ reply.Service x →
    IsServed w ask (judged_outcome w (Asked (Service ask)) r)
unfolding judged_outcome outcome_of
served_answer (Some r) w ask x e is = absurd (cc is)
served_answer None w ask x e is =
    let rows : NoRow (service_refusals w ask) = no_row (refusals w (Asked (Service ask))) e in
    record {
      allowed = rows;
      after = nap_listed (Some (station_served ask)) (service_outcome w ask).world (station_served ask)
          ∙ own_served ask w rows;
    }

pub served_step : (w : World) (ask : ServiceAsk) (x : ServiceReply) →
    (step w (Asked (Service ask))).reply ≡ reply.Service x → IsServed w ask (step w (Asked (Service ask)))
unfolding step
served_step w ask x is = served_answer (refusal w (Asked (Service ask))) w ask x refl is
