-- A number after the window is not stored, so the move stops at the number or before it.
use Rattle.std.proofs.Common.{◌+◌, ◌-◌, ◌∙◌, ◌++◌, length, map, ap, sym, arith}
use Rattle.std.proofs.lemmas.List.{length-map}
use Rattle.wf_uplink.specs.Reordering.{Reordering, is_stored, stored_from, first_hole, moved_to}
use Rattle.wf_uplink.specs.Shown.{item_of}
use Rattle.wf_uplink.proofs.Moves.{moved_few, hole_from, hole_to, none_from}
use Rattle.wf_uplink.proofs.Standing.{stored_few, none_past}
use Rattle.wf_uplink.proofs.sequencer.Sequencer.make_room.Goals as goal

pub move_to-requires-clause-room : goal.move_to-requires-clause-room
move_to-requires-clause-room c =
    let few = moved_few (c.args.number + 1 - c.from-window.result) c.args.self.now in
    let stored = stored_few c.self.inside.start c.self.inside.window c.self.inside.since c.self.inside.buffer
    c.args.self.now c.self.view_is c.self.invariant in
    omega (arith, few, stored, ap length c.requires.empty)

pub returns-then-number-self-clause-from : goal.returns-then-number-self-clause-from
returns-then-number-self-clause-from c =
    let r = c.args.self.now in
    let t = c.args.number + 1 - c.from-window.result in
    let at = ap (λ (q : Reordering). q.start) c.self.view_is in
    let wide = ap (λ (q : Reordering). q.window) c.self.view_is in
    let none = none_past c.self.inside.start c.self.inside.window c.self.inside.since c.args.number
    c.self.inside.buffer r c.self.view_is c.self.invariant
    (omega (arith, at, wide, c.from-window.ensures, c.if-number-self.true)) in
    let size = c.self.invariant.size in
    let least = c.self.invariant.settled.least in
    let there = ap (λ (q : Reordering). q.start) c.move_to.ensures.after in
    let most = hole_to t c.args.number (stored_from t r.stored)
    (omega (arith, size, least, c.from-window.ensures)) (none_from c.args.number t r.stored none) in
    omega (arith, there, most)

pub returns-then-number-self-clause-within : goal.returns-then-number-self-clause-within
returns-then-number-self-clause-within c =
    let r = c.args.self.now in
    let t = c.args.number + 1 - c.from-window.result in
    let wide = ap (λ (q : Reordering). q.window) c.self.view_is in
    let there = ap (λ (q : Reordering). q.start) c.move_to.ensures.after in
    let same = ap (λ (q : Reordering). q.window) c.move_to.ensures.after in
    let past = hole_from t (stored_from t r.stored) in
    let size = c.self.invariant.size in
    let least = c.self.invariant.settled.least in
    omega (arith, there, same, wide, past, size, least, c.from-window.ensures)

pub returns-then-number-self-clause-room : goal.returns-then-number-self-clause-room
returns-then-number-self-clause-room c =
    let r = c.args.self.now in
    let t = c.args.number + 1 - c.from-window.result in
    let few = moved_few t r in
    let stored = stored_few c.self.inside.start c.self.inside.window c.self.inside.since c.self.inside.buffer
    c.args.self.now c.self.view_is c.self.invariant in
    let items = ap length (c.move_to.ensures.items
    ∙ ap (λ us. us ++ map item_of (moved_to t r).passed) c.requires.empty)
    ∙ length-map (moved_to t r).passed item_of in
    let left = ap (λ (q : Reordering). length q.stored) c.move_to.ensures.after in
    omega (arith, few, stored, items, left)

pub returns-then-number-self-clause-same : goal.returns-then-number-self-clause-same
returns-then-number-self-clause-same c =
    let r = c.args.self.now in
    let t = c.args.number + 1 - c.from-window.result in
    let at = ap (λ (q : Reordering). q.start) c.self.view_is in
    let wide = ap (λ (q : Reordering). q.window) c.self.view_is in
    let none = none_past c.self.inside.start c.self.inside.window c.self.inside.since c.args.number
    c.self.inside.buffer r c.self.view_is c.self.invariant
    (omega (arith, at, wide, c.from-window.ensures, c.if-number-self.true)) in
    ap (λ (q : Reordering). is_stored c.args.number q.stored) c.move_to.ensures.after
    ∙ none_from c.args.number (first_hole t (stored_from t r.stored)) r.stored none ∙ sym none

pub returns-then-number-self-clause-unchanged : goal.returns-then-number-self-clause-unchanged
returns-then-number-self-clause-unchanged c =
    let at = ap (λ (q : Reordering). q.start) c.self.view_is in
    let wide = ap (λ (q : Reordering). q.window) c.self.view_is in
    let none = none_past c.self.inside.start c.self.inside.window c.self.inside.since c.args.number
    c.self.inside.buffer c.args.self.now c.self.view_is c.self.invariant
    (omega (arith, at, wide, c.from-window.ensures, c.if-number-self.true)) in
    λ some. absurd (grind (arith, none, some))

pub returns-else-number-self-clause-room : goal.returns-else-number-self-clause-room
returns-else-number-self-clause-room c =
    let stored = stored_few c.self.inside.start c.self.inside.window c.self.inside.since c.self.inside.buffer
    c.args.self.now c.self.view_is c.self.invariant in
    omega (arith, stored, ap length c.requires.empty)
