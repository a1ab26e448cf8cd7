-- Proves that calls about group frames are apart from all other calls. By cases of the call.
use Rattle.std.proofs.Common.{◌≡◌, refl, ap, ◌∙◌, ℕ, ◌==◌, true, false, List, Option, Some, None}
use Rattle.wf_frame.specs.declared.classes.Class.{Class}
use Rattle.wf_frame.specs.declared.notes.Ask.TheVariants.{Tick, Pull, Group}
use Rattle.wf_frame.specs.declared.notes.GroupCall.{GroupCall}
use Rattle.wf_frame.specs.declared.notes.Limits.{Limits}
use Rattle.wf_frame.specs.declared.notes.Note.{Note}
use Rattle.wf_frame.specs.declared.notes.Note.TheVariants.{Asked}
use Rattle.wf_frame.specs.declared.notes.Refusal.{Refusal}
use Rattle.wf_frame.specs.declared.notes.Refusal.TheVariants.{Idle}
use Rattle.wf_def_lists.specs.Table.{at}
use Rattle.wf_def_world.specs.Group.{GroupState, no_group}
use Rattle.wf_def_world.specs.World.{World, group_of, on_station, with_station}
use Rattle.wf_def_world.specs.CanSend.{with_listings_of}
use Rattle.wf_def_world.specs.Exchanges.{Prepared, picked_station, after_tid_turn, with_exchange_opened, with_spent}
use Rattle.wf_def_world.specs.Refusals.{refusal}
use Rattle.wf_def_world.specs.Step.{tick_outcome, send_outcome, pull_outcome_for, pull_outcome, outcome_of, concerned_station, after_refusal, judged_outcome, step}
use Rattle.wf_law_rules.proofs.Lemmas.Numbers.{eq_no}
use Rattle.wf_law_rules.proofs.Lemmas.Tables.{at_put_other}
use Rattle.wf_law_runs.specs.Groups.{is_about_group, is_about_bss, GroupApartLaw}
use Rattle.wf_law_runs.proofs.Common.Fixed.{Fixed, Changes, kept_share, kept_after_pick, kept_prepared, kept_done, kept_listed}
use Rattle.wf_law_runs.proofs.Common.Refused.{after_idle}
use Rattle.wf_law_runs.proofs.Common.Limits.{with_limits}

-- ---- the other calls change no group frame

-- The states of group frames are these.
abbrev Has : List GroupState → Fixed → Type 0
Has gs x = x.groups ≡ gs

group_sent : (s t : ℕ) (c : Class) (p : Prepared) → (send_outcome s t c p).world.groups ≡ p.world.groups
unfolding send_outcome with_spent with_exchange_opened on_station with_station
group_sent s t c p = refl

group_pulled_by : (o : Option ℕ) (w : World) (c : Class) → (pull_outcome_for w c o).world.groups ≡ w.groups
unfolding pull_outcome_for after_tid_turn
group_pulled_by None w c = refl
group_pulled_by (Some s) w c =
    group_sent s _ c _ ∙ kept_prepared (Has w.groups) _ s _ (kept_share (Has w.groups) w s c _ refl)

group_pulled : (w : World) (c : Class) (l : Limits) → (pull_outcome w c l).world.groups ≡ w.groups
unfolding pull_outcome
group_pulled w c l = group_pulled_by (picked_station w c).winner (with_limits w c l) c
    ∙ kept_after_pick (Has w.groups) w c refl

group_changes : (note : Note) (w : World) → is_about_group note ≡ false → Changes (Has w.groups) note w
unfolding tick_outcome
group_changes (Asked (Tick by)) w h = refl
group_changes (Asked (Pull c l)) w h = group_pulled w c l
group_changes (Asked (Group ask)) w h = absurd (cc h)
group_changes _ w h = tt

pub group_refused : (note : Note) (r : Refusal) (w : World) → (after_refusal w note r).groups ≡ w.groups
unfolding after_refusal
group_refused (Asked (Pull c l)) Idle w = after_idle (λ v. v.groups ≡ w.groups) w c refl
    (kept_after_pick (Has w.groups) w c refl)
group_refused _ _ w = refl

group_answer_of : (r : Option Refusal) (w : World) (note : Note) → is_about_group note ≡ false →
    (judged_outcome w note r).world.groups ≡ w.groups
unfolding judged_outcome
group_answer_of (Some r) w note h = group_refused note r w
group_answer_of None w note h =
    kept_listed (Has w.groups) (concerned_station w note) (outcome_of w note).world
    (kept_done (Has w.groups) note w (group_changes note w h) refl)

pub group_kept : (w : World) (note : Note) → is_about_group note ≡ false →
    (step w note).world.groups ≡ w.groups
unfolding step
group_kept w note h = group_answer_of (refusal w note) w note h

-- ---- the calls about group frames change only them

rest_answer : (r : Option Refusal) (w : World) (ask : GroupCall) →
    (judged_outcome w (Asked (Group ask)) r).world
    ≡ record w { groups = (judged_outcome w (Asked (Group ask)) r).world.groups }
unfolding judged_outcome after_refusal outcome_of with_listings_of
rest_answer (Some r) w ask = refl
rest_answer None w ask = refl

rest_kept : (note : Note) (w : World) → is_about_group note ≡ true →
    (step w note).world ≡ record w { groups = (step w note).world.groups }
unfolding step
rest_kept (Asked (Group ask)) w h = rest_answer (refusal w (Asked (Group ask))) w ask
rest_kept _ w h = absurd (cc h)

-- ---- each BSS has its own

pub other_refused : (note : Note) (r : Refusal) (w : World) (b : ℕ) →
    group_of (after_refusal w note r) b ≡ group_of w b
other_refused note r w b = ap (λ (gs : List GroupState). at no_group gs b) (group_refused note r w)

pub other_answer : (r : Option Refusal) (w : World) (ask : GroupCall) (b : ℕ) → (ask.bss == b) ≡ false →
    group_of (judged_outcome w (Asked (Group ask)) r).world b ≡ group_of w b
unfolding judged_outcome outcome_of with_listings_of
other_answer (Some r) w ask b e = other_refused (Asked (Group ask)) r w b
other_answer None w ask b e = at_put_other no_group w.groups ask.bss b _ (eq_no ask.bss b e)

pub bss_kept : (note : Note) (w : World) (b : ℕ) → is_about_bss b note ≡ false →
    group_of (step w note).world b ≡ group_of w b
unfolding step
bss_kept (Asked (Group ask)) w b e = other_answer (refusal w (Asked (Group ask))) w ask b e
bss_kept note w b e = ap (λ (gs : List GroupState). at no_group gs b) (group_kept w note refl)

pub apart_law : GroupApartLaw
apart_law w note = record { rest = rest_kept note w; group = bss_kept note w }
