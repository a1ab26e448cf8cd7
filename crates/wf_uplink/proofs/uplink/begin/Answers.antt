-- Each iteration resets one more reordering.
use Rattle.std.proofs.Common.{List, ◌∙◌, set, ap, ap₂, sym, add-one}
use Rattle.wf_uplink.specs.Reordering.{Reordering, new_reordering}
use Rattle.wf_uplink.specs.World.{begun, place_of}
use Rattle.wf_uplink.proofs.uplink.begin.Goals as goal

pub loop-tid-preserved : goal.loop-tid-preserved
loop-tid-preserved c =
    ap₂ (λ n (r : Reordering). set c.loop-tid.sequencers n r) c.place_of.ensures c.reset.ensures
    ∙ ap (λ (rs : List Reordering). set rs (place_of c.args.station c.loop-tid.tid)
    (new_reordering c.args.start c.args.window)) c.loop-tid.invariant
    ∙ ap (λ n. begun n c.args.station c.args.window c.args.start c.args.sequencers.now)
    (sym (add-one c.loop-tid.tid))
