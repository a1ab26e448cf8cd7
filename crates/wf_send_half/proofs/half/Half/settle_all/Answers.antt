-- Proves what `Half::settle_all` promises: each step settles the next number and counts it, by the
-- lemmas of Settling.
use Rattle.std.proofs.Common.{arith}
use Rattle.wf_send_half.proofs.Settling.{settling_at, limit_at, next_settles, next_within, fate_given, settling_next, all_stand, all_counted, all_shown}
use Rattle.wf_send_half.proofs.half.Half.settle_all.Goals as goal

pub settle-answer-requires-clause-within : goal.settle-answer-requires-clause-within
settle-answer-requires-clause-within c =
    next_within (settling_at c.self-in-loop-i.view_is c.loop-i.invariant) c.at-number.ensures c.requires.some

pub settle-answer-requires-clause-flies : goal.settle-answer-requires-clause-flies
settle-answer-requires-clause-flies c =
    (next_settles (settling_at c.self-in-loop-i.view_is c.loop-i.invariant) c.at-number.ensures
    c.requires.some).flies

pub settle-answer-requires-clause-limit : goal.settle-answer-requires-clause-limit
settle-answer-requires-clause-limit c =
    let at = settling_at c.self-in-loop-i.view_is c.loop-i.invariant in
    omega (
      arith,
      limit_at c.self.view_is at,
      (next_settles at c.at-number.ensures c.requires.some).below,
    )

pub account_for-requires-clause-fate : goal.account_for-requires-clause-fate
account_for-requires-clause-fate c =
    let at = settling_at c.self-in-loop-i.view_is c.loop-i.invariant in
    fate_given at c.at-number.ensures c.requires.some c.end_at-end.ensures (limit_at c.self.view_is at)
    c.settle-answer.ensures.room c.settle-answer.ensures.stands
    c.settle-answer.ensures.answer c.settle-answer.ensures.others

pub loop-i-preserved : goal.loop-i-preserved
loop-i-preserved c =
    let at = settling_at c.self-in-loop-i.view_is c.loop-i.invariant in
    let next = settling_next at c.at-number.ensures c.requires.some c.end_at-end.ensures
    (limit_at c.self.view_is at) c.settle-answer.ensures.room
    c.settle-answer.ensures.stands c.settle-answer.ensures.answer c.settle-answer.ensures.others
    (omega (arith, c.loop-i-test.true, c.len-i-end.ensures.count)) in
    rw (c.account_for.ensures.half, c.account_for.ensures.ended) next

pub returns-clause-settled : goal.returns-clause-settled
returns-clause-settled c w after bodies e ends mpdus ending alike is = all_stand c.loop-i.invariant
    (omega (arith, c.loop-i-test.false, c.len-i-end.ensures.count)) ending alike is

pub returns-clause-counted : goal.returns-clause-counted
returns-clause-counted c w after bodies e ends mpdus ending alike is = all_counted c.loop-i.invariant
    (omega (arith, c.loop-i-test.false, c.len-i-end.ensures.count)) ending alike is

pub returns-clause-acked : goal.returns-clause-acked
returns-clause-acked c = all_shown c.loop-i.invariant
    (omega (arith, c.loop-i-test.false, c.len-i-end.ensures.count))

pub returns-clause-config : goal.returns-clause-config
returns-clause-config c = c.loop-i.invariant.config
