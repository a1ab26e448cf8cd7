-- Proves that the sum of `Half::queued_in` fits in 32 bits, since each TID has at most 131,072 queued frames.
use Rattle.std.proofs.Common.{sym, subst, arith}
use Rattle.wf_send_half.specs.Half.{HasWorld}
use Rattle.wf_send_half.proofs.CallSteps.{view_of}
use Rattle.wf_send_half.proofs.Enqueues.{tid_few}
use Rattle.wf_send_half.proofs.half.Half.queued_in.Goals as goal

pub overflow_add-result : goal.overflow_add-result
overflow_add-result c =
    let some : HasWorld (view_of c.self.inside) = subst HasWorld (sym c.self.view_is) c.requires.some in
    omega (
      arith,
      tid_few (view_of c.self.inside) some _ _ c.queued.ensures,
      tid_few (view_of c.self.inside) some _ _ c.queued-2.ensures,
    )
