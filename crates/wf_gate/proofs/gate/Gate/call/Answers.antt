-- The seat draws, waits and serves; each step says how its view changes.
use Rattle.std.proofs.Common.{rules, [], ◌∷◌, ◌≡◌, ◌<◌, ◌∙◌, ap, sym, subst, length, Some}
use Rattle.std.specs.Prelude.{All}
use mathlib.Core.List.{IsPrefix}
use Rattle.wf_gate.specs.Turns.{opening_of}
use Rattle.wf_gate.specs.Passes.{AtTurn}
use Rattle.wf_gate.proofs.Steps.{takes_turn}
use Rattle.wf_gate.proofs.Calls.{sees_more, sees_seats, mine_inside}
use Rattle.wf_gate.proofs.gate.Gate.call.Goals as goal

pub returns-clause-seen : goal.returns-clause-seen
returns-clause-seen g c =
    let before = ap (λ m. m.0.face.seen) c.draw-ticket.ensures.pass.2 ∙ ap (λ s. s.seen) c.seat.view_is in
    subst (λ z. IsPrefix z c.serve-reply.new.pass.me.0.face.seen) before
    (sees_more _ _ _ _ _ _ c.draw-ticket.new.pass.me.0 c.wait.new.pass.me _ c.seat.inside.number
    (g.M.Machine.note c.args.call ∷ []) c.wait.ensures.2
    c.serve-reply.ensures.seat.2)

pub returns-clause-callers : goal.returns-clause-callers
returns-clause-callers g c =
    let opening = ap (λ s. s.opening) c.seat.view_is
    ∙ (c.requires.own.1 ∙ ap (λ z. Some z.opening) (sym c.self.view_is)) in
    let less : c.seat.inside.used < c.seat.inside.quota = search rules in
    let o = opening_of c.self.inside.table.shared.key in
    let mine = mine_inside o.quotas c.seat.inside.number c.seat.inside.quota c.seat.inside.used
    (c.seat.invariant.allotted o opening) less in
    subst (λ z. All (λ x. x.0 < length z.opening.quotas) c.serve-reply.new.pass.me.0.face.seen) c.self.view_is
    (sees_seats _ _ _ _ _ _ c.draw-ticket.new.pass.me.0 c.wait.new.pass.me _ c.seat.inside.number
    (g.M.Machine.note c.args.call ∷ []) c.wait.ensures.2
    c.serve-reply.ensures.seat.2 mine)

pub serve-reply-requires-clause-turn : goal.serve-reply-requires-clause-turn
serve-reply-requires-clause-turn g c =
    let one : c.draw-ticket.result.count ≡ 1 = c.draw-ticket.ensures.count in
    subst (λ n. AtTurn g.M.Machine.past g.M.Machine.settings g.M.Machine.calls_left
    (opening_of c.self.inside.table.shared.key) n c.wait.new.pass.me) one
    (takes_turn _ _ _ _ _ _ c.draw-ticket.new.pass.me.0 _ c.wait.ensures.2)
