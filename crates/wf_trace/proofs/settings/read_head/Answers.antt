-- Proves that the loop of `read_head` keeps its invariant when a word has a fault.
use Rattle.wf_trace.proofs.HeadLaws.{more_settings}
use Rattle.wf_trace.proofs.settings.read_head.Goals as goal

pub loop-word-preserved-in-Some-apply : goal.loop-word-preserved-in-Some-apply
loop-word-preserved-in-Some-apply c =
    let next = more_settings _ c.loop-word.fault c.in-Some-apply.other _ _ _ c.loop-word.seen c.apply.new.seen
    c.loop-word.config c.apply.new.config c.loop-word.invariant c.in-Some.ensures.0
    c.in-Some-apply.ensures in
    rw (c.first_of.ensures) next
