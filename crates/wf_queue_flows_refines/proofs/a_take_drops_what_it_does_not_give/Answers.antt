-- Both counts follow from the cut of the queue that is picked.
use Rattle.std.proofs.Common.{arith}
use Rattle.wf_frame.specs.Classes.{tid_number}
use Rattle.wf_queue_flows_refines.specs.Standing.{flows_part}
use Rattle.wf_queue_flows_refines.proofs.Heads.{drops_counted, drops_counted_in}
use Rattle.wf_queue_flows_refines.proofs.a_take_drops_what_it_does_not_give.Goals as goal

pub returns-clause-code : goal.returns-clause-code
returns-clause-code c = λ v w s t now params st low_s low_t.
    drops_counted v (flows_part w) st (tid_number s t)
    (omega (arith, low_s, low_t, st.sized.lists)) now params

pub returns-clause-world : goal.returns-clause-world
returns-clause-world c = drops_counted_in
