-- Proves that the half represents the world after a station gets another weight: no view changes, except the
-- deficits.
use Rattle.std.proofs.Common.{◌≡◌, refl, ap₂, sym, subst, ℕ, ◌-◌, ◌*◌, List, [], ◌∷◌, None}
use Rattle.std.proofs.Math.Path.{fun_ext}
use Rattle.wf_frame.specs.declared.classes.Class.{Class}
use Rattle.wf_frame.specs.declared.settings.Config.{Config}
use Rattle.wf_frame.specs.declared.notes.Note.TheVariants.{Asked}
use Rattle.wf_frame.specs.declared.notes.Ask.TheVariants.{Weight}
use Rattle.wf_frame.specs.declared.notes.ReplyNote.TheVariants.{Set}
use Rattle.wf_frame.specs.Classes.{all_classes}
use Rattle.wf_frame.specs.Frames.{FrameValue}
use Rattle.wf_def_world.specs.World.{World, Share, on_share}
use Rattle.wf_def_world.specs.Exchanges.{longest_computed}
use Rattle.wf_def_world.specs.Refusals.{refusal}
use Rattle.wf_def_world.specs.Step.{outcome_of, with_deficits_lowered, weight_outcome}
use Rattle.wf_queue_flows_refines.proofs.Leaves.{station_alone, share_alone}
use Rattle.wf_sched_refines.specs.Standing.{SchedulerStandsFor as TurnsStandFor, with_weight, uncovered_air}
use Rattle.wf_sched_refines.proofs.Weights.{weight_stands}
use Rattle.wf_send_half_model.specs.Half.{TransmitValue, uncovered_air_of}
use Rattle.wf_send_half_model.specs.Standing.{Parts, StandsFor, Meets}
use Rattle.wf_send_half_model.specs.Changes.{after_weight}
use Rattle.wf_send_half_model.specs.Views.{HasSameViews, KeepsSums}
use Rattle.wf_send_half_model.proofs.Views.{agreements_station, roster_same_station, ledger_station, agreements_share, roster_share, ledger_share}
use Rattle.wf_send_half_model.proofs.Stands.{same_views}
use Rattle.wf_send_half_model.proofs.Listings.{views_here, views_then}
use Rattle.wf_send_half_model.proofs.Meets.{listed_meets}
use Rattle.wf_send_half_model.proofs.Readers.{pending_same}

-- ---- the views

views_reshared : (w : World) (s : ℕ) (c : Class) (f : Share → Share) → KeepsSums f →
    HasSameViews w (on_share w s c f)
views_reshared w s c f keeps = record {
  part = share_alone w s c f;
  agreements = agreements_share w s c f;
  roster = roster_share w s c f keeps;
  ledger = ledger_share w s c f;
}

views_lowered : (cs : List Class) (w : World) (s : ℕ) → HasSameViews w (with_deficits_lowered w s cs)
unfolding with_deficits_lowered
views_lowered [] w s = views_here w
views_lowered (c ∷ cs) w s = views_then w _ _
    (views_reshared w s c _ (record { upper = λ y. refl; charged = λ y. refl; received = λ y. refl }))
    (views_lowered cs _ s)

views_weighed : (w : World) (s weight : ℕ) → HasSameViews w (weight_outcome w s weight).world
unfolding weight_outcome
views_weighed w s weight = views_then w _ _ (record {
  part = station_alone w s _ (λ x. refl);
  agreements = agreements_station w s _ (λ x. refl);
  roster = roster_same_station w s _ (λ x. refl);
  ledger = ledger_station w s _;
}) (views_lowered all_classes _ s)

-- ---- the call

uncovered_same : (v : TransmitValue) (w : World) (bodies : ℕ → FrameValue) (s : ℕ) → Parts v w bodies →
    uncovered_air_of v s ≡ uncovered_air w s
uncovered_same v w bodies s h = fun_ext (λ c.
    ap₂ (λ (n : ℕ) (k : Config). n - (k.inflight - 1) * longest_computed k c)
    (pending_same v w bodies s c h) h.others.config)

weight_parts : (v : TransmitValue) (w : World) (bodies : ℕ → FrameValue) (s weight : ℕ) → Parts v w bodies →
    Parts (record v { sched = with_weight (uncovered_air_of v s) s weight v.sched })
    (weight_outcome w s weight).world bodies
weight_parts v w bodies s weight h =
    same_views v w (weight_outcome w s weight).world bodies
    (with_weight (uncovered_air_of v s) s weight v.sched) (views_weighed w s weight)
    (subst (λ (f : Class → ℕ). TurnsStandFor (with_weight f s weight v.sched)
    (weight_outcome w s weight).world) (sym (uncovered_same v w bodies s h))
    (weight_stands v.sched w s weight h.others.turns)) h

pub weight_meets : (v : TransmitValue) (w : World) (bodies : ℕ → FrameValue) → StandsFor v w bodies →
    (s weight : ℕ) → refusal w (Asked (Weight s weight)) ≡ None →
    Meets w bodies (Asked (Weight s weight)) (after_weight v s weight) Set
unfolding outcome_of weight_outcome
weight_meets v w bodies h s weight done =
    listed_meets (record v { sched = with_weight (uncovered_air_of v s) s weight v.sched }) w bodies
    (Asked (Weight s weight)) h.reached tt tt done (weight_parts v w bodies s weight h.parts) s refl
