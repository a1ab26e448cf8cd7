-- Proves that a new cell has no past, represents the opening world and keeps the invariant.
use Rattle.std.proofs.Common.{◌≡◌, ap, ap₂, sym, subst, List}
use Rattle.wf_frame.specs.declared.settings.Config.{Config}
use Rattle.wf_def_world.specs.World.{opening}
use Rattle.wf_def_world.specs.Run.{Entry, Past}
use Rattle.wf_cell.specs.Engines.{EngineValue, EngineIsIn}
use Rattle.wf_cell.proofs.News.{no_frames}
use Rattle.wf_cell.proofs.Steps.{new_cell}
use Rattle.wf_cell.proofs.cell.Cell.of.Goals as goal

pub invariant_of-result : goal.invariant_of-result
invariant_of-result c =
    let engine : EngineValue = c.in_ok-engine.engine in
    let same : engine.half.config ≡ c.args.config =
    (c.in_ok-engine.ensures no_frames).half.parts.others.config in
    let is_in : EngineIsIn engine (opening engine.half.config) no_frames =
    subst (λ (k : Config). EngineIsIn engine (opening k) no_frames) (sym same)
    (c.in_ok-engine.ensures no_frames) in
    new_cell (record { config = engine.half.config; history = c.new-past.result }) engine no_frames
    c.args.config.calls c.new-past.ensures is_in (ap (λ (k : Config). k.calls) (sym same))

pub returns-clause-past : goal.returns-clause-past
returns-clause-past c =
    ap₂ (λ (k : Config) (h : List Entry). let p : Past = record { config = k; history = h } in p)
    ((c.in_ok-engine.ensures no_frames).half.parts.others.config) c.new-past.ensures

pub returns-clause-stands : goal.returns-clause-stands
returns-clause-stands c = λ bodies. (c.in_ok-engine.ensures bodies).half
