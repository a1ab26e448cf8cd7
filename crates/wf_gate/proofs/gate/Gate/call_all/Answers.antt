-- The seat draws a ticket for each call, waits for the first and serves all; each step says how its view
-- changes.
use Rattle.std.proofs.Common.{rules, arith, ◌≡◌, ◌<◌, ◌≤◌, ◌+◌, ◌∙◌, ap, sym, subst, refl, length, map, Some}
use Rattle.std.specs.Prelude.{All}
use Rattle.std.proofs.lemmas.List.{length-map}
use Rattle.wf_gate.specs.Turns.{opening_of}
use Rattle.wf_gate.specs.Passes.{AtTurn}
use Rattle.wf_gate.specs.Seats.{HasMadeAll, gate_of, view_of}
use Rattle.wf_gate.proofs.Steps.{takes_turn}
use Rattle.wf_gate.proofs.Calls.{sees_seats, mine_inside, rests, made_by}
use Rattle.wf_gate.proofs.gate.Gate.call_all.Goals as goal

pub serve_all-requires-clause-turn : goal.serve_all-requires-clause-turn
serve_all-requires-clause-turn g c =
    let count : c.draw-tickets.result.count ≡ length c.args.calls.now.items = search rules in
    subst (λ n. AtTurn g.M.Machine.past g.M.Machine.settings g.M.Machine.calls_left
    (opening_of c.self.inside.table.shared.key) n c.wait.new.pass.me) count
    (takes_turn _ _ _ _ _ _ c.draw-tickets.new.pass.me.0 _ c.wait.ensures.2)

pub invariant_of-seat : goal.invariant_of-seat
invariant_of-seat g c =
    let count : c.len-count.result ≡ length c.args.calls.now.items = search rules in
    let notes = map g.M.Machine.note c.args.calls.now.items in
    let many = length-map c.args.calls.now.items g.M.Machine.note in
    rests g.M.Machine.past g.M.Machine.settings g.M.Machine.calls_left
    (opening_of c.self.inside.table.shared.key) c.seat.inside.number c.seat.inside.quota c.seat.inside.used
    c.len-count.result _ _ c.seat.inside.pass c.wait.new.pass c.serve_all.new.pass
    c.draw-tickets.new.pass.me.0 notes (ap (λ m. m.0) c.draw-tickets.ensures.pass.2) c.wait.ensures.2
    c.serve_all.ensures.seat.2 c.seat.invariant (many ∙ sym count) (search rules)

pub returns-clause-made : goal.returns-clause-made
returns-clause-made g c =
    let past = g.M.Machine.past in let settings = g.M.Machine.settings in
    let note = g.M.Machine.note in let right = g.M.Machine.right in
    let gate = gate_of c.self.inside.table.shared.table_id c.self.inside.table.shared.key in
    let calls = c.args.calls.now.items in let replies = c.serve_all.new.replies.items in
    let seat = c.seat.inside in
    let new = view_of seat.number seat.quota (seat.used + c.len-count.result) c.serve_all.new.pass in
    subst (λ s. HasMadeAll past settings note right c.args.self.now s new calls replies) c.seat.view_is
    (subst (λ z. HasMadeAll past settings note right z
    (view_of seat.number seat.quota seat.used seat.pass) new calls replies) c.self.view_is
    (made_by past settings g.M.Machine.calls_left gate.opening seat.number seat.quota seat.used
    c.len-count.result _ _ seat.pass c.wait.new.pass c.serve_all.new.pass c.draw-tickets.new.pass.me.0
    (map note calls) (ap (λ m. m.0) c.draw-tickets.ensures.pass.2) c.wait.ensures.2
    c.serve_all.ensures.seat.2 note right gate.table calls replies refl c.serve_all.ensures.replies))

pub returns-clause-callers : goal.returns-clause-callers
returns-clause-callers g c =
    let opening = ap (λ s. s.opening) c.seat.view_is
    ∙ (c.requires.own.1 ∙ ap (λ z. Some z.opening) (sym c.self.view_is)) in
    let some : 0 < length c.args.calls.now.items = c.requires.some in
    let enough : c.seat.inside.used + length c.args.calls.now.items ≤ c.seat.inside.quota = search rules in
    let less : c.seat.inside.used < c.seat.inside.quota = omega (arith, some, enough) in
    let o = opening_of c.self.inside.table.shared.key in
    let mine = mine_inside o.quotas c.seat.inside.number c.seat.inside.quota c.seat.inside.used
    (c.seat.invariant.allotted o opening) less in
    subst (λ z. All (λ x. x.0 < length z.opening.quotas) c.serve_all.new.pass.me.0.face.seen) c.self.view_is
    (sees_seats _ _ _ _ _ _ c.draw-tickets.new.pass.me.0 c.wait.new.pass.me _ _ _ c.wait.ensures.2
    c.serve_all.ensures.seat.2 mine)
