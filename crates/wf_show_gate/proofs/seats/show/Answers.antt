-- Proves that the seats of a new gate with two quotas are a pair.
use Rattle.std.proofs.Common.{ap, refl, [], ◌∷◌}
use Rattle.wf_gate.proofs.Clients.{pair_new}
use Rattle.wf_show_gate.proofs.seats.show.Goals as goal

pub meet-requires : goal.meet-requires
meet-requires g c =
    let new = c.in_ok-gate.ensures in
    pair_new c.in_ok-gate.gate (2 ∷ 1 ∷ []) _ _ _ _ _
    (ap (λ o. o.quotas) new.opening) refl new.count new.seats c.in-Some-Some.ensures.items
    c.in-Some-Some.ensures'.items
