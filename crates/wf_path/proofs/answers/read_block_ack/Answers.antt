-- Proves what `read_block_ack` promises: the half's exchange is the world's, so the check that fails first is
-- the same. By cases: the exchange is not open, or the BlockAck is read for its session.
use Rattle.std.proofs.Common.{ap, ◌∙◌, nat_lt}
use Rattle.wf_send_parts.specs.Window.{WindowValue}
use Rattle.wf_send_half.proofs.Dones.{open_low}
use Rattle.wf_path.proofs.Opened.{open_within, none_answered, some_answered}
use Rattle.wf_path.proofs.answers.read_block_ack.Goals as goal

pub returns-in_default-clause-fault : goal.returns-in_default-clause-fault
returns-in_default-clause-fault c w bodies h =
    none_answered c.args.half.now w bodies h c.args.number c.args.octets.now c.args.addresses.now
    c.in_default.ensures

pub window-requires-clause-within : goal.window-requires-clause-within
window-requires-clause-within c = open_within c.args.half.now c.requires c.args.number c.in-Some.open.now
    c.in-Some.ensures

pub window-requires-clause-tid : goal.window-requires-clause-tid
window-requires-clause-tid c = open_low c.args.half.now c.requires c.args.number c.in-Some.open.now
    c.in-Some.ensures

pub returns-clause-fault : goal.returns-clause-fault
returns-clause-fault c w bodies h =
    c.read_answer.ensures.fault
    ∙ some_answered c.args.half.now w bodies h c.args.number c.args.octets.now c.args.addresses.now
    c.in-Some.open.now
    (nat_lt 64 c.size-wide.result) c.bss-bss.result c.in-Some.ensures
    (ap (nat_lt 64) (c.size-wide.ensures.shown ∙ ap (λ (z : WindowValue). z.size) c.window.ensures))
    (c.bss-bss.ensures.world w bodies h)
