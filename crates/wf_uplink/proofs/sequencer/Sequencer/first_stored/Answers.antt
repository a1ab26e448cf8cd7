-- The buffer's first number, as a distance from its start, gives the least number stored.
use Rattle.std.proofs.Common.{◌≡◌, ◌+◌, ◌∙◌, Some, ap, sym, arith}
use Rattle.wf_octets.specs.Distance.{distance}
use Rattle.wf_uplink.specs.Reordering.{first_number}
use Rattle.wf_uplink.proofs.Standing.{first_of_buffer, none_of_buffer, kept_from, first_past, first_near}
use Rattle.wf_uplink.proofs.sequencer.Sequencer.first_stored.Goals as goal

number_is : (c : goal.After-from) → Some (c.self.inside.start + c.from.result)
    ≡ first_number c.args.self.now.stored
number_is c =
    ap (λ n. Some (c.self.inside.start + n)) (c.from.ensures ∙ c.ahead-ahead.ensures.number
    ∙ ap (distance c.in-Some.first) c.start.ensures)
    ∙ first_of_buffer c.self.inside.start c.self.inside.window c.self.inside.since c.self.inside.buffer
    c.args.self.now c.self.view_is c.self.invariant c.in-Some.first c.in-Some.ensures

pub returns-in-Some-clause-number : goal.returns-in-Some-clause-number
returns-in-Some-clause-number c = number_is c

pub returns-in-Some-clause-past : goal.returns-in-Some-clause-past
returns-in-Some-clause-past c =
    let from = kept_from c.self.inside.start c.self.inside.window c.self.inside.since c.self.inside.buffer
    c.args.self.now c.self.view_is c.self.invariant in
    let past = first_past (c.args.self.now.start + 1)
    (c.self.inside.start + c.from.result) c.args.self.now.stored from (sym (number_is c)) in
    omega (arith, past)

pub returns-in-None-clause-number : goal.returns-in-None-clause-number
returns-in-None-clause-number c =
    none_of_buffer c.self.inside.start c.self.inside.window c.self.inside.since c.self.inside.buffer
    c.args.self.now c.self.view_is c.in-None.ensures

pub returns-in-Some-clause-near : goal.returns-in-Some-clause-near
returns-in-Some-clause-near c =
    first_near c.self.inside.start c.self.inside.window c.self.inside.since
    (c.self.inside.start + c.from.result) c.self.inside.buffer c.args.self.now c.self.view_is
    c.self.invariant (sym (number_is c))
