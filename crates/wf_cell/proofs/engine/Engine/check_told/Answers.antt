-- Proves that what arrived of an exchange decides whether a transmission of it may arrive, or may turn out
-- not to have been on the air. By cases of the mark and the exchange.
use Rattle.std.proofs.Common.{sym}
use Rattle.wf_cell.proofs.Exchanges.{told_not_open, none_open, none_sent, told_if_open, told_low, told_few}
use Rattle.wf_cell.proofs.Inside.{inside}
use Rattle.wf_cell.proofs.engine.Engine.check_told.Goals as goal

pub returns-in-None-clause-told : goal.returns-in-None-clause-told
returns-in-None-clause-told c = λ w bodies i.
    let j = inside c.self.view_is w bodies i in
    told_not_open _ w bodies c.args.exchange c.args.index j
    (none_open _ w bodies c.args.exchange j (sym c.in-None.ensures))

pub returns-in-None-sent-clause-told : goal.returns-in-None-sent-clause-told
returns-in-None-sent-clause-told c = λ w bodies i.
    let j = inside c.self.view_is w bodies i in
    told_not_open _ w bodies c.args.exchange c.args.index j
    (none_sent w c.args.exchange (c.in-None-sent.ensures w bodies j.half))

pub told_refusal-requires : goal.told_refusal-requires
told_refusal-requires c =
    let w = c.requires.world in let bodies = c.requires.bodies in let i = c.requires.is_in in
    let j = inside c.self.view_is w bodies i in
    told_few w c.args.exchange c.in-Some-sent.sent j.half.reached
    (sym (c.in-Some-sent.ensures w bodies j.half))

pub returns-in-Some-told_refusal-clause-told : goal.returns-in-Some-told_refusal-clause-told
returns-in-Some-told_refusal-clause-told c = λ w bodies i.
    let j = inside c.self.view_is w bodies i in
    told_if_open _ w bodies c.args.exchange c.args.index j c.in-Some-sent.sent c.in-Some.mark.now _
    (c.in-Some-sent.ensures w bodies j.half) (sym c.in-Some.ensures) c.in-Some-told_refusal.ensures

pub returns-in-None-told_refusal-clause-told : goal.returns-in-None-told_refusal-clause-told
returns-in-None-told_refusal-clause-told c = λ w bodies i.
    let j = inside c.self.view_is w bodies i in
    told_if_open _ w bodies c.args.exchange c.args.index j c.in-Some-sent.sent c.in-Some.mark.now _
    (c.in-Some-sent.ensures w bodies j.half) (sym c.in-Some.ensures) c.in-None-told_refusal.ensures

pub returns-in-None-told_refusal-clause-index : goal.returns-in-None-told_refusal-clause-index
returns-in-None-told_refusal-clause-index c =
    let w = c.requires.world in let bodies = c.requires.bodies in let i = c.requires.is_in in
    let j = inside c.self.view_is w bodies i in
    told_low _ w bodies c.args.exchange c.args.index j c.in-Some-sent.sent c.in-Some.mark.now
    (c.in-Some-sent.ensures w bodies j.half) c.in-None-told_refusal.ensures
