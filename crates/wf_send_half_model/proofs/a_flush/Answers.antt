-- Proves the law `a_flush` by the lemmas of Flushed.
use Rattle.wf_send_half_model.proofs.Flushed.{flush_held, flush_few, flushed_parts, flush_meets}
use Rattle.wf_send_half_model.proofs.a_flush.Goals as goal

pub returns-clause-held : goal.returns-clause-held
returns-clause-held c = flush_held

pub returns-clause-few : goal.returns-clause-few
returns-clause-few c = flush_few

pub returns-clause-emptied : goal.returns-clause-emptied
returns-clause-emptied c = flushed_parts

pub returns-clause-whole : goal.returns-clause-whole
returns-clause-whole c before v u w bodies s t dropped allowed so_far parts =
    flush_meets before v w bodies s t dropped so_far u allowed parts
