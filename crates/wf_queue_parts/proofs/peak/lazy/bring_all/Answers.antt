-- Each pending leaf climbs at most the levels of the tree, and at the end none is pending.
use Rattle.std.proofs.Common.{◌∙◌, ◌*◌, sym, arith, length}
use Rattle.wf_queue_parts.proofs.CostLemmas.{below_most, one_climbed}
use Rattle.wf_queue_parts.proofs.LazyLemmas.{brought, none_pending}
use Rattle.wf_queue_parts.proofs.peak.lazy.bring_all.Goals as goal

pub overflow_add-levels : goal.overflow_add-levels
overflow_add-levels c = record {
  fits = omega (
    arith,
    c.loop-leaf.invariant.cost 18 (omega (arith, c.loop-leaf.invariant.lazy.small)),
    below_most c.bring-levels.result (2 * length c.args.values.now) 18 c.bring-levels.ensures.cost
        (omega (arith, c.loop-leaf.invariant.lazy.small)),
  );
}

pub loop-leaf-preserved : goal.loop-leaf-preserved
loop-leaf-preserved c = record {
  lazy = rw (c.bring-levels.ensures.tree, c.bring-levels.ensures.flag) (brought _ _ _ _ _ c.in-Some.leaf
      c.loop-leaf.invariant.lazy c.in-Some.ensures.items);
  capacity = c.in-Some.ensures.capacity ∙ c.loop-leaf.invariant.capacity;
  cost = λ most few. one_climbed _ _ _ _ most (sym c.in-Some.ensures.cases)
      (below_most _ _ most c.bring-levels.ensures.cost few) (c.loop-leaf.invariant.cost most few);
}

pub returns-clause-tree : goal.returns-clause-tree
returns-clause-tree c =
    none_pending _ _ _ _ c.loop-leaf.invariant.lazy (omega (arith, c.in_default.ensures.cases.0))
