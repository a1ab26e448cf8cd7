-- Proves that after a failed write a prefix of the text was written.
use Rattle.wf_io.proofs.FrontLaws.{front_partly}
use Rattle.wf_run.proofs.help.telling.told.Goals as goal

pub returns-in-Err-clause-text : goal.returns-in-Err-clause-text
returns-in-Err-clause-text g c =
    let front = front_partly c.args.text.now _ _ c.in-Err.ensures.prefix in
    (front.written, front.holds, (front.rest, front.is))
