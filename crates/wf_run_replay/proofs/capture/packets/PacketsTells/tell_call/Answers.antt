-- Proves that the packets of the call are written and that no octet waits.
use Rattle.std.proofs.Common.{◌∙◌}
use Rattle.std.proofs.lemmas.Result.{on_ok_weaker}
use Rattle.wf_trace_laws.proofs.Octets.{leaves_none}
use Rattle.wf_run_replay.proofs.capture.packets.PacketsTells.tell_call.Goals as goal

pub returns-clause-leaves : goal.returns-clause-leaves
returns-clause-leaves g c =
    on_ok_weaker c.write_packets.result
    (λ wrote past caller note is answered.
    leaves_none _ _ _ (wrote past caller note (c.cell.ensures.past ∙ is) answered))
    c.write_packets.ensures.written

pub returns-clause-front : goal.returns-clause-front
returns-clause-front g c = λ past caller note is answered.
    c.write_packets.ensures.front past caller note (c.cell.ensures.past ∙ is) answered
