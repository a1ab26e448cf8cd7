-- If the exchange found the ticket that is served, the seat has its turn, as in `call`.
use Rattle.std.proofs.Common.{rules, [], ◌∷◌, ◌≡◌, ◌<◌, ◌∙◌, ap, sym, subst, length, Some}
use Rattle.std.specs.Prelude.{All}
use mathlib.Core.List.{IsPrefix}
use Rattle.wf_gate.specs.Turns.{opening_of}
use Rattle.wf_gate.proofs.Steps.{takes_turn}
use Rattle.wf_gate.proofs.Calls.{sees_more, sees_seats, mine_inside}
use Rattle.wf_gate.proofs.gate.Gate.try_call.Goals as goal

pub returns-clause-seen : goal.returns-clause-seen
returns-clause-seen g c =
    let hit : c.attempt-serving.result.1 ≡ c.attempt-serving.result.0 = search rules in
    subst (λ z. IsPrefix z c.serve-reply.new.pass.me.0.face.seen) (ap (λ s. s.seen) c.seat.view_is)
    (sees_more _ _ _ _ _ _ c.seat.inside.pass.me.0 c.attempt-serving.new.pass.me _ c.seat.inside.number
    (g.M.Machine.note c.args.call ∷ [])
    (c.attempt-serving.ensures.turn hit) c.serve-reply.ensures.seat.2)

pub returns-clause-callers : goal.returns-clause-callers
returns-clause-callers g c =
    let hit : c.attempt-serving.result.1 ≡ c.attempt-serving.result.0 = search rules in
    let opening = ap (λ s. s.opening) c.seat.view_is
    ∙ (c.requires.own.1 ∙ ap (λ z. Some z.opening) (sym c.self.view_is)) in
    let less : c.seat.inside.used < c.seat.inside.quota = search rules in
    let o = opening_of c.self.inside.table.shared.key in
    let mine = mine_inside o.quotas c.seat.inside.number c.seat.inside.quota c.seat.inside.used
    (c.seat.invariant.allotted o opening) less in
    subst (λ z. All (λ x. x.0 < length z.opening.quotas) c.serve-reply.new.pass.me.0.face.seen) c.self.view_is
    (sees_seats _ _ _ _ _ _ c.seat.inside.pass.me.0 c.attempt-serving.new.pass.me _ c.seat.inside.number
    (g.M.Machine.note c.args.call ∷ [])
    (c.attempt-serving.ensures.turn hit) c.serve-reply.ensures.seat.2 mine)

pub serve-reply-requires-clause-turn : goal.serve-reply-requires-clause-turn
serve-reply-requires-clause-turn g c =
    let hit : c.attempt-serving.result.1 ≡ c.attempt-serving.result.0 = search rules in
    takes_turn _ _ _ _ _ _ c.seat.inside.pass.me.0 _ (c.attempt-serving.ensures.turn hit)
