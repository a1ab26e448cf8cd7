-- Proves that an Answer is refused exactly if the machine refuses it. By cases of the mark.
use Rattle.std.proofs.Common.{sym, ◌∙◌}
use Rattle.wf_cell.proofs.Exchanges.{answer_not_open, none_open, none_sent, answer_open}
use Rattle.wf_cell.proofs.Inside.{inside}
use Rattle.wf_cell.proofs.engine.Engine.check_answer.Goals as goal

pub returns-in-None-clause-refused : goal.returns-in-None-clause-refused
returns-in-None-clause-refused c = λ w bodies i.
    let j = inside c.self.view_is w bodies i in
    answer_not_open _ w bodies c.args.exchange j (none_open _ w bodies c.args.exchange j
    (sym c.in-None.ensures))

pub returns-in-None-sent-clause-refused : goal.returns-in-None-sent-clause-refused
returns-in-None-sent-clause-refused c = λ w bodies i.
    let j = inside c.self.view_is w bodies i in
    answer_not_open _ w bodies c.args.exchange j (none_sent w c.args.exchange
    (c.in-None-sent.ensures w bodies j.half))

pub returns-in-Some-answering_refusal-clause-refused : goal.returns-in-Some-answering_refusal-clause-refused
returns-in-Some-answering_refusal-clause-refused c = λ w bodies i.
    let j = inside c.self.view_is w bodies i in
    c.in-Some-answering_refusal.ensures ∙ answer_open _ w bodies c.args.exchange j c.in-Some.mark.now
    c.is_batch.result (sym c.in-Some.ensures) (c.is_batch.ensures w bodies j.half)

pub returns-in-None-answering_refusal-clause-refused : goal.returns-in-None-answering_refusal-clause-refused
returns-in-None-answering_refusal-clause-refused c = λ w bodies i.
    let j = inside c.self.view_is w bodies i in
    c.in-None-answering_refusal.ensures ∙ answer_open _ w bodies c.args.exchange j c.in-Some.mark.now
    c.is_batch.result (sym c.in-Some.ensures) (c.is_batch.ensures w bodies j.half)
