-- Proves that the loop of `read_all` keeps its invariant: one more argument is read.
use Rattle.std.proofs.Common.{List, ◌+◌, ◌∙◌, ap, drop, arith}
use Rattle.std.proofs.lemmas.List.{drop_more}
use Rattle.wf_frame.specs.declared.calls.Arg.{Arg}
use Rattle.wf_frame.specs.declared.calls.Arg.TheVariants.{Short}
use Rattle.wf_trace.specs.Words.{words}
use Rattle.wf_trace.specs.Grammar.{behind, read_args}
use Rattle.wf_trace.proofs.args.read_all.Goals as goal

pub loop-arg-preserved : goal.loop-arg-preserved
loop-arg-preserved c = (
  c.loop-arg.invariant.0
      ∙ ap (λ (a : List Arg). behind c.loop-arg.fault c.loop-arg.values.items (read_args a (words
      c.loop-arg.rest.now)))
      (drop_more c.args.args.now c.loop-arg.arg-index Short c.loop-arg-test.true)
      ∙ c.take-rest.ensures.reads (drop (c.loop-arg.arg-index + 1) c.args.args.now),
  omega (arith, c.take-rest.ensures.len, c.loop-arg.invariant.1),
)
