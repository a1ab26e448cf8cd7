-- The candidate at a leaf's node holds the value of the leaf.
use Rattle.std.proofs.Common.{◌≡◌, ◌∙◌, ◌+◌, ap, sym, arith, length, List, ℕ}
use Rattle.std.specs.Prelude.{slice_index}
use Rattle.std.proofs.lemmas.List.{get_or_default}
use Rattle.wf_queue_parts.specs.declared.peak.Candidate.{Candidate}
use Rattle.wf_queue_parts.specs.Tree.{no_candidate, node_at}
use Rattle.wf_queue_parts.proofs.TreeLemmas.{length_of, value_at}
use Rattle.wf_queue_parts.proofs.peak.Peak.value.Goals as goal

pub index-requires : goal.index-requires
index-requires c =
    let size : length c.args.self.now ≡ c.self.inside.count =
    ap length (sym c.self.view_is) ∙ length_of c.self.inside.nodes.items c.self.inside.count
    c.self.invariant.size in
    omega (arith, size, c.self.invariant.size)

pub returns : goal.returns
returns c =
    let size : length c.args.self.now ≡ c.self.inside.count =
    ap length (sym c.self.view_is) ∙ length_of c.self.inside.nodes.items c.self.inside.count
    c.self.invariant.size in
    let node : node_at c.self.inside.nodes.items (c.self.inside.count + c.args.leaf) ≡ c.index.result.now =
    get_or_default c.self.inside.nodes.items (c.self.inside.count + c.args.leaf) no_candidate
    c.index.result.now (omega (arith, size, c.self.invariant.size)) ∙ sym c.index.ensures in
    ap (λ (x : Candidate). x.value) (sym node)
    ∙ sym (value_at c.self.inside.nodes.items c.self.inside.count c.args.leaf)
    ∙ ap (λ (values : List ℕ). slice_index values c.args.leaf) c.self.view_is
