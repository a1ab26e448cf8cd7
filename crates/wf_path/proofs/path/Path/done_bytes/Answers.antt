-- Proves that `Path::done_bytes` raises no count if it returns a fault, since the path is then unchanged.
use Rattle.wf_path.proofs.Rises.{no_rise}
use Rattle.wf_path.proofs.path.Path.done_bytes.Goals as goal

pub returns-in_err-read_block_ack-in-Some-clause-rises :
    goal.returns-in_err-read_block_ack-in-Some-clause-rises
returns-in_err-read_block_ack-in-Some-clause-rises c = no_rise c.args.self.now.half

pub returns-in-None-2-clause-rises : goal.returns-in-None-2-clause-rises
returns-in-None-2-clause-rises c = no_rise c.args.self.now.half
