-- The root holds the best leaf, unless its value is 0.
use Rattle.std.proofs.Common.{◌≡◌, ◌∙◌, ap, sym, arith}
use Rattle.std.proofs.lemmas.List.{get_or_default}
use Rattle.wf_queue_parts.specs.declared.peak.Candidate.{Candidate}
use Rattle.wf_queue_parts.specs.Tree.{no_candidate, node_at}
use Rattle.wf_queue_parts.proofs.TreeLemmas.{none_best, root_best}
use Rattle.wf_queue_parts.proofs.peak.Peak.best.Goals as goal

pub returns-then-top-gt0-clause-some : goal.returns-then-top-gt0-clause-some
returns-then-top-gt0-clause-some c =
    let top : node_at c.self.inside.nodes.items 1 ≡ c.index-top.result.now =
    get_or_default c.self.inside.nodes.items 1 no_candidate c.index-top.result.now
    (omega (arith, c.self.invariant.size, c.self.invariant.some)) ∙ sym c.index-top.ensures in
    rw (← c.self.view_is, ← top) (root_best c.self.inside.nodes.items c.self.inside.count c.self.invariant
    (omega (arith, ap (λ (x : Candidate). x.value) top)))

pub returns-else-top-gt0-clause-none : goal.returns-else-top-gt0-clause-none
returns-else-top-gt0-clause-none c =
    let top : node_at c.self.inside.nodes.items 1 ≡ c.index-top.result.now =
    get_or_default c.self.inside.nodes.items 1 no_candidate c.index-top.result.now
    (omega (arith, c.self.invariant.size, c.self.invariant.some)) ∙ sym c.index-top.ensures in
    rw (← c.self.view_is) (none_best c.self.inside.nodes.items c.self.inside.count c.self.invariant
    (omega (arith, ap (λ (x : Candidate). x.value) top)))
