-- Proves the digits of a BlockAck, by cases of its width.
use Rattle.wf_report.proofs.reply.push_bits.Goals as goal

pub returns-then-wide-clause-text : goal.returns-then-wide-clause-text
returns-then-wide-clause-text c = rw (c.if-wide.true) c.push_wide.ensures.text

pub returns-else-wide-clause-text : goal.returns-else-wide-clause-text
returns-else-wide-clause-text c = rw (c.if-wide.false) c.push_hex.ensures.digits
