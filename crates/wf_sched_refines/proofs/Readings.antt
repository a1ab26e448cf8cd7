-- Proves that a new scheduler agrees with the opening world, and what agreement says of a station.
use Rattle.std.proofs.Common.{◌≡◌, refl, ap, sym, ◌∙◌, arith, ℕ, ◌<◌, pos, true, false, length, inl, inr}
use Rattle.std.proofs.lemmas.Bool.{cases_Bool}
use Rattle.std.proofs.lemmas.List.{length-replicate}
use Rattle.wf_frame.specs.declared.settings.Config.{Config}
use Rattle.wf_frame.specs.declared.classes.Class.{Class}
use Rattle.wf_frame.specs.declared.classes.Class.TheVariants.{Bk, Be, Vi, Vo}
use Rattle.wf_def_rotation.specs.Rotation.{Rotation, has_key}
use Rattle.wf_def_world.specs.World.{World, opening as opening_world, standing, rotation, is_live}
use Rattle.wf_sched.specs.ClassRotas.{ClassRota, SchedValue, class_rota, new_scheduler, opening_rota, deficit, IsNowhere}
use Rattle.wf_sched.specs.ClassRotas.{class_rotation as rotation_of}
use Rattle.wf_sched_refines.specs.Standing.{SchedulerStandsFor}

opened : (stations quantum : ℕ) (c : Class) →
    class_rota (new_scheduler stations quantum) c ≡ opening_rota stations quantum
opened stations quantum Bk = refl
opened stations quantum Be = refl
opened stations quantum Vi = refl
opened stations quantum Vo = refl

pub opening_stands : (config : Config) → SchedulerStandsFor (new_scheduler config.stations config.quantum)
    (opening_world config)
opening_stands config = record {
  sized = record {
    four = refl;
    deficits = λ c. ap (λ (t : ClassRota). length t.deficits) (opened config.stations config.quantum c)
        ∙ length-replicate config.stations (pos config.quantum);
    quanta = λ c. ap (λ (t : ClassRota). length t.quanta) (opened config.stations config.quantum c)
        ∙ length-replicate config.stations config.quantum;
  };
  stations = refl;
  quantum = refl;
  rotations = λ c. ap (λ (t : ClassRota). t.rotation) (opened config.stations config.quantum c);
  deficits = λ s c is. absurd (cc is);
  quanta = λ s c is. absurd (cc is);
  once = λ c. tt;
  listed = λ s c here. absurd (cc here);
  live = λ s is. absurd (cc is);
}

-- ---- a station

pub deficit_same : (v : SchedValue) (w : World) (s : ℕ) (c : Class) → SchedulerStandsFor v w →
    is_live w s ≡ true → deficit v c s ≡ standing w s c
deficit_same v w s c h is = h.deficits s c is

pub lists_same : (v : SchedValue) (w : World) (s : ℕ) (c : Class) → SchedulerStandsFor v w →
    has_key (rotation_of v c) s ≡ has_key (rotation w c) s
lists_same v w s c h = ap (λ (r : Rotation). has_key r s) (h.rotations c)

pub live_below : (v : SchedValue) (w : World) (s : ℕ) → SchedulerStandsFor v w → is_live w s ≡ true →
    s < v.stations
live_below v w s h is = omega (arith, h.live s is, h.stations)

pub nowhere : (v : SchedValue) (w : World) (s : ℕ) → SchedulerStandsFor v w → is_live w s ≡ false →
    IsNowhere v s
nowhere v w s h off = λ c. elim (cases_Bool (has_key (rotation_of v c) s)) [
  | inl here ↦ absurd (cc (off, h.listed s c (sym (lists_same v w s c h) ∙ here)))
  | inr unlisted ↦ unlisted
]
