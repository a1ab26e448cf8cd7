-- Defines how each call of the machine changes the station scheduler.
use Rattle.std.specs.Prelude.{◌≡◌, ℕ, ◌*◌, ◌==◌, Bool, true, false, List, Option, Some, None}
use Rattle.wf_frame.specs.declared.settings.Config.{Config}
use Rattle.wf_frame.specs.declared.classes.Class.{Class}
use Rattle.wf_frame.specs.declared.notes.Ask.TheVariants.{Join, Offload, Plain, Weight, Leave, Pull, Done, Rx}
use Rattle.wf_frame.specs.declared.notes.Limits.{Limits}
use Rattle.wf_frame.specs.declared.notes.Note.{Note}
use Rattle.wf_frame.specs.declared.notes.Note.TheVariants.{Asked}
use Rattle.wf_frame.specs.declared.notes.Refusal.{Refusal}
use Rattle.wf_frame.specs.declared.notes.Refusal.TheVariants.{Idle}
use Rattle.wf_frame.specs.Classes.{all_classes}
use Rattle.wf_def_world.specs.World.{World, Exchange, exchange, with_bounds}
use Rattle.wf_def_world.specs.CanSend.{is_ready, is_to_list}
use Rattle.wf_def_world.specs.Exchanges.{charge_of, picked_station, after_pick, bounds_of, sending_tid, after_tid_turn, prepared_exchange}
use Rattle.wf_sched.specs.ClassRotas.{SchedValue, class_rota, with_class_rota, after_join, after_station_left, pick_of_class, IsAfterPick}
use Rattle.wf_sched_refines.specs.Standing.{everywhere, with_deficit_charged, with_pending_charged, with_pending_paid_back, with_listed_where, with_weight, uncovered_air, TellsReady}

-- u is v after a pick in the class, by a list that says which listed stations are ready
pub record HasPickedInClass (w : World) (c : Class) (v u : SchedValue) : Type 0 where
  pub ready : List Bool
  pub tells : TellsReady w c ready
  pub turned : IsAfterPick (class_rota v c) (pick_of_class v c ready) (class_rota u c)
  pub others : u ≡ with_class_rota v c (class_rota u c)

-- the computed airtime of the exchange that a station sends in a class
abbrev pub charge_sent : World → Class → ℕ → ℕ
charge_sent w c s = (prepared_exchange (after_tid_turn w s c (sending_tid w s c)) s
    (sending_tid w s c)).charge

-- v after the winner of a pick, if there is one, opens the exchange that it sends in the class
abbrev pub with_winner_sent : World → Class → Option ℕ → SchedValue → SchedValue
with_winner_sent w c None v = v
with_winner_sent w c (Some s) v = with_pending_charged w.config v s c (charge_sent w c s)

-- u is v after a pull with these limits: a pick in the class, after which the winner sends
pub record HasPulled (w : World) (c : Class) (l : Limits) (v u : SchedValue) : Type 0 where
  pub picked : SchedValue
  pub turned : HasPickedInClass w c v picked
  pub sent : u ≡ with_winner_sent (with_bounds (after_pick w c) (bounds_of w.config c l)) c
      (picked_station w c).winner picked

-- v after an open exchange, if any, ends by a Done that gives this airtime or none: the airtime that was
-- taken off for it is paid back, and it is charged
abbrev pub with_charge_of : Config → SchedValue → Option ℕ → Option Exchange → SchedValue
with_charge_of config v air None = v
with_charge_of config v air (Some x) = with_deficit_charged
    (with_pending_paid_back config v x.station x.class x.charge) x.station x.class (charge_of air x)

-- u is v after a call that is not refused, before the station that it concerns is listed
abbrev pub IsCallDone : World → Note → SchedValue → SchedValue → Type 0
IsCallDone w (Asked (Join s window start exponent weight)) v u =
    u ≡ everywhere (after_join s (v.quantum * weight)) v
IsCallDone w (Asked (Offload s exponent weight)) v u = u ≡ everywhere (after_join s (v.quantum * weight)) v
IsCallDone w (Asked (Plain s start exponent weight)) v u =
    u ≡ everywhere (after_join s (v.quantum * weight)) v
IsCallDone w (Asked (Weight s weight)) v u = u ≡ with_weight (uncovered_air w s) s weight v
IsCallDone w (Asked (Leave s)) v u = u ≡ everywhere (after_station_left s) v
IsCallDone w (Asked (Pull c l)) v u = HasPulled w c l v u
IsCallDone w (Asked (Done e heard air)) v u = u ≡ with_charge_of w.config v air (exchange w e)
IsCallDone w (Asked (Rx s c air)) v u = u ≡ with_deficit_charged v s c air
IsCallDone w _ v u = u ≡ v

-- u is v after a pull that is refused as Idle: with the setting `pending` it is v,
-- otherwise it is v after a pick
abbrev pub IsIdlePull : (has_pending : Bool) → World → Class → SchedValue → SchedValue → Type 0
IsIdlePull true w c v u = u ≡ v
IsIdlePull false w c v u = HasPickedInClass w c v u

-- u is v after a call that is refused: only a pull that is refused as Idle may change it
abbrev pub IsRefused : World → Note → Refusal → SchedValue → SchedValue → Type 0
IsRefused w (Asked (Pull c l)) Idle v u = IsIdlePull (w.config.pending == 1) w c v u
IsRefused w note _ v u = u ≡ v

-- the station that a call concerns is listed in the classes in which it belongs on a list
abbrev pub with_concerned : World → Option ℕ → SchedValue → SchedValue
with_concerned w None v = v
with_concerned w (Some s) v = with_listed_where (λ c. is_to_list w c s) (λ c. is_ready w c s) s all_classes v
