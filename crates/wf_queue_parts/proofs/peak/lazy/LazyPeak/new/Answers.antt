-- No leaf is pending.
use Rattle.std.proofs.Common.{◌≡◌, Bool, false, replicate, arith}
use Rattle.wf_queue_parts.proofs.LazyLemmas.{lazy_made}
use Rattle.wf_queue_parts.proofs.peak.lazy.LazyPeak.new.Goals as goal

pub invariant_of-result : goal.invariant_of-result
invariant_of-result c =
    let downs : c.in_ok-is_pending.is_pending.items ≡ replicate {A = Bool} c.args.leaves false =
    c.in_ok-is_pending.ensures.items_if_clones_equal (λ y e. e) in (
      lazy_made c.args.leaves _ _ _ _ c.requires.small c.in_ok-tree.ensures
          (c.in_ok-values.ensures.items_if_clones_equal (λ y e. e)) downs c.in_ok-pending.ensures.items,
      c.in_ok-pending.ensures.capacity,
      omega arith,
    )
