-- Proves that the loop of `read_named` keeps its invariant: one more argument is read.
use Rattle.std.proofs.Common.{List, ◌+◌, ◌∙◌, ap, drop, arith}
use Rattle.std.specs.Prelude.{map}
use Rattle.std.proofs.lemmas.List.{drop_more}
use Rattle.wf_frame.specs.declared.calls.Argument.{Argument}
use Rattle.wf_frame.specs.declared.calls.Argument.TheVariants.{Station}
use Rattle.wf_frame.specs.Calls.{argument_kind}
use Rattle.wf_trace.specs.Words.{words}
use Rattle.wf_trace.specs.Grammar.{behind, read_args}
use Rattle.wf_trace.proofs.args.read_named.Goals as goal

pub loop-argument-preserved : goal.loop-argument-preserved
loop-argument-preserved c =
    let items : List Argument = c.args.arguments.now in
    let others = map argument_kind (drop (c.loop-argument.argument-index + 1) items) in (
      c.loop-argument.invariant.0
          ∙ ap (λ (a : List Argument). behind c.loop-argument.fault c.loop-argument.values.items
          (read_args (map argument_kind a) (words c.loop-argument.rest.now)))
          (drop_more items c.loop-argument.argument-index Station c.loop-argument-test.true)
          ∙ (rw c.kind.ensures at (c.take-rest.ensures.reads others)),
      omega (arith, c.take-rest.ensures.len, c.loop-argument.invariant.1),
    )
