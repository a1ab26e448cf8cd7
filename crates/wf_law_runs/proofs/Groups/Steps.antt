-- Proves what each call does with the group frames of a BSS. Most calls do nothing with them, and have no
-- answer about them. By cases of the call.
use Rattle.std.proofs.Common.{◌≡◌, refl, ap, subst, ℕ, ◌<◌, ◌==◌, Bool, true, false, not, if◌then◌else◌, ◌⊎◌, inl, inr, length, Option, Some, None, is_some, is_none}
use Rattle.wf_frame.specs.declared.settings.Config.{Config}
use Rattle.wf_frame.specs.declared.notes.Ask.TheVariants.{Group}
use Rattle.wf_frame.specs.declared.notes.GroupCall.{GroupCall}
use Rattle.wf_frame.specs.declared.notes.GroupAsk.{GroupAsk}
use Rattle.wf_frame.specs.declared.notes.GroupAsk.TheVariants as group
use Rattle.wf_frame.specs.declared.notes.GroupReply.{GroupReply}
use Rattle.wf_frame.specs.declared.notes.Note.{Note}
use Rattle.wf_frame.specs.declared.notes.Note.TheVariants.{Asked}
use Rattle.wf_frame.specs.declared.notes.Refusal.{Refusal}
use Rattle.wf_frame.specs.declared.notes.ReplyNote.{ReplyNote}
use Rattle.wf_def_world.specs.Group.{GroupState, no_group, may_go, group_after, group_answer}
use Rattle.wf_def_world.specs.World.{World, group_of, is_any_asleep}
use Rattle.wf_def_world.specs.CanSend.{with_listings_of}
use Rattle.wf_def_world.specs.Refusals.{refusal, refusals, group_refusals}
use Rattle.wf_def_world.specs.Step.{Outcome, outcome_of, judged_outcome, step}
use Rattle.wf_law_rules.proofs.Lemmas.Numbers.{le_no, on_bool, eq_yes, yes_eq}
use Rattle.wf_law_rules.proofs.Lemmas.Tables.{at_put_same}
use Rattle.wf_law_runs.specs.Groups.{is_about_group, is_about_bss, answer_about}
use Rattle.wf_law_runs.proofs.Windows.Opened.{NoRow, no_row}
use Rattle.wf_law_runs.proofs.Groups.Apart.{bss_kept, other_refused}

-- ---- a call about something else

-- A call about something else has no answer about a BSS.
silent_note : (note : Note) (b : ℕ) (r : ReplyNote) → is_about_group note ≡ false →
    answer_about b note r ≡ None
silent_note (Asked (Group ask)) b r h = absurd (cc h)
silent_note note b r h = refl

-- ---- a call about group frames

-- The condition under which a call about group frames is not refused.
abbrev pub IsAllowed : Config → Bool → GroupAsk → GroupState → Type 0
IsAllowed config sleeps (group.Accept len) g = length g.queued < config.buffered
IsAllowed config sleeps group.Beacon g = Unit {0}
IsAllowed config sleeps group.Pull g = (is_some g.flying ≡ false) × (may_go sleeps g ≡ true)
IsAllowed config sleeps group.Done g = is_some g.flying ≡ true

not_no : (b : Bool) → not b ≡ false → b ≡ true
not_no true h = refl
not_no false h = absurd (cc h)

not_none : {X : Type 0} (o : Option X) → is_none o ≡ false → is_some o ≡ true
not_none None h = absurd (cc h)
not_none (Some x) h = refl

allowed : (ask : GroupAsk) (w : World) (b : ℕ) → NoRow (group_refusals w b ask) →
    IsAllowed w.config (is_any_asleep w b) ask (group_of w b)
allowed (group.Accept len) w b rows = le_no _ _ rows.0
allowed group.Beacon w b rows = tt
allowed group.Pull w b rows = (rows.0, not_no _ rows.1.0)
allowed group.Done w b rows = not_none (group_of w b).flying rows.0

-- The call does nothing with the group frames of BSS b, and has no answer about them.
pub record IsQuiet (w : World) (note : Note) (o : Outcome) (b : ℕ) : Type 0 where
  pub same : group_of o.world b ≡ group_of w b
  pub silent : answer_about b note o.reply ≡ None

-- The call is this one about the group frames of BSS b, and is not refused.
pub record IsCalled (w : World) (note : Note) (o : Outcome) (b : ℕ) (ask : GroupAsk) : Type 0 where
  pub allowed : IsAllowed w.config (is_any_asleep w b) ask (group_of w b)
  pub after : group_of o.world b ≡ group_after w.config ask (group_of w b)
  pub reply : answer_about b note o.reply
      ≡ Some (group_answer w.config (is_any_asleep w b) ask (group_of w b))

called_answer : (r : Option Refusal) (w : World) (ask : GroupCall) → refusal w (Asked (Group ask)) ≡ r →
    IsQuiet w (Asked (Group ask)) (judged_outcome w (Asked (Group ask)) r) ask.bss
    ⊎ IsCalled w (Asked (Group ask)) (judged_outcome w (Asked (Group ask)) r) ask.bss ask.ask
unfolding judged_outcome outcome_of with_listings_of
called_answer (Some r) w ask e =
    inl (record { same = other_refused (Asked (Group ask)) r w ask.bss; silent = refl })
called_answer None w ask e =
    let answer : GroupReply = group_answer w.config (is_any_asleep w ask.bss) ask.ask (group_of w ask.bss) in
    inr (record {
      allowed = allowed ask.ask w ask.bss (no_row (refusals w (Asked (Group ask))) e).1;
      after = at_put_same no_group w.groups ask.bss _;
      reply = ap (λ (t : Bool). if t then Some answer else None) (yes_eq ask.bss ask.bss refl);
    })

-- A call about another BSS.
other_silent : (r : Option Refusal) (w : World) (ask : GroupCall) (b : ℕ) → (ask.bss == b) ≡ false →
    answer_about b (Asked (Group ask)) (judged_outcome w (Asked (Group ask)) r).reply ≡ None
unfolding judged_outcome outcome_of
other_silent (Some r) w ask b e = refl
other_silent None w ask b e =
    let answer : GroupReply = group_answer w.config (is_any_asleep w ask.bss) ask.ask (group_of w ask.bss) in
    ap (λ (t : Bool). if t then Some answer else None) e

-- ---- the step

quiet_step : (note : Note) (w : World) (b : ℕ) → is_about_group note ≡ false → is_about_bss b note ≡ false →
    IsQuiet w note (step w note) b
quiet_step note w b h k = record {
  same = bss_kept note w b k;
  silent = silent_note note b (step w note).reply h;
}

other_step : (ask : GroupCall) (w : World) (b : ℕ) → (ask.bss == b) ≡ false →
    IsQuiet w (Asked (Group ask)) (step w (Asked (Group ask))) b
unfolding step
other_step ask w b e = record {
  same = bss_kept (Asked (Group ask)) w b e;
  silent = other_silent (refusal w (Asked (Group ask))) w ask b e;
}

own_step : (ask : GroupCall) (w : World) →
    IsQuiet w (Asked (Group ask)) (step w (Asked (Group ask))) ask.bss
    ⊎ IsCalled w (Asked (Group ask)) (step w (Asked (Group ask))) ask.bss ask.ask
unfolding step
own_step ask w = called_answer (refusal w (Asked (Group ask))) w ask refl

-- What entry this is for BSS b.
abbrev IsStep : World → Note → ℕ → Type 0
IsStep w note b =
    IsQuiet w note (step w note) b ⊎ ((ask : GroupAsk) × IsCalled w note (step w note) b ask)

called_step : (ask : GroupCall) (w : World) (b : ℕ) → IsStep w (Asked (Group ask)) b
called_step ask w b = on_bool (ask.bss == b)
    (λ e.
    let own : IsStep w (Asked (Group ask)) ask.bss = elim (own_step ask w) [
      | inl quiet ↦ inl quiet
      | inr called ↦ inr (ask.ask, called)
    ] in
    subst (IsStep w (Asked (Group ask))) (eq_yes ask.bss b e) own)
    (λ e. inl (other_step ask w b e))

pub group_step : (note : Note) (w : World) (b : ℕ) →
    IsQuiet w note (step w note) b ⊎ ((ask : GroupAsk) × IsCalled w note (step w note) b ask)
group_step (Asked (Group ask)) w b = called_step ask w b
group_step note w b = inl (quiet_step note w b refl refl)
