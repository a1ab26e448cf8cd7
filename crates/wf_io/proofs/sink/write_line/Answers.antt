-- After a fault, a prefix of the line has been written.
use Rattle.wf_io.proofs.FrontLaws.{front_partly}
use Rattle.wf_io.proofs.sink.write_line.Goals as goal

pub returns-in-Err-clause-front : goal.returns-in-Err-clause-front
returns-in-Err-clause-front g c = rw (← c.octets.ensures)
    (front_partly c.octets.result.now _ _ c.in-Err.ensures.prefix)
