-- Proves what `Half::listed` promises: the scheduler's lists are the world's, and no list has a station that
-- is not live.
use Rattle.std.proofs.Common.{◌≡◌, ap, sym, ◌∙◌, subst, None, false, true}
use Rattle.std.specs.Prelude.{IfNone, IfSome}
use Rattle.wf_def_lists.specs.Table.{has}
use Rattle.wf_def_rotation.specs.Rotation.{Rotation, has_key}
use Rattle.wf_def_world.specs.World.{rotation, is_live}
use Rattle.wf_rotation.specs.Lists.{side_of}
use Rattle.wf_sched.specs.ClassRotas.{class_rotation}
use Rattle.wf_send_half_model.specs.Half.{TransmitValue}
use Rattle.wf_send_half.proofs.Listed.{list_is, unlisted}
use Rattle.wf_send_half.proofs.half.Half.listed.Goals as goal

pub returns-then-is_live : goal.returns-then-is_live
returns-then-is_live c w bodies h =
    let turns = h.parts.others.turns in
    let same : class_rotation c.self.inside.sched c.args.class ≡ rotation w c.args.class =
    ap (λ (v : TransmitValue). class_rotation v.sched c.args.class) c.self.view_is
    ∙ turns.rotations c.args.class in
    list_is (rotation w c.args.class) c.args.station c.listed.result (turns.once c.args.class)
    (subst (λ (r : Rotation). IfNone c.listed.result (has_key r c.args.station ≡ false)) same
    c.listed.ensures.none)
    (subst (λ (r : Rotation). IfSome c.listed.result (λ side. has (side_of r side) c.args.station
    ≡ true)) same
    c.listed.ensures.some)

pub returns-else-is_live : goal.returns-else-is_live
returns-else-is_live c w bodies h =
    let turns = h.parts.others.turns in
    list_is (rotation w c.args.class) c.args.station None (turns.once c.args.class)
    (unlisted (has_key (rotation w c.args.class) c.args.station) (is_live w c.args.station)
    (turns.listed c.args.station c.args.class)
    (sym (c.is_live.ensures.world w bodies h) ∙ c.if-is_live.false)) tt
