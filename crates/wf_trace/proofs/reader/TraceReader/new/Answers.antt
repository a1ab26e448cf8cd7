-- Proves that a new reader has the whole reading of its input to come, by PlaceLaws.
use Rattle.std.proofs.Common.{◌∙◌, ap, None}
use Rattle.wf_trace.specs.Reader.{rest_of}
use Rattle.wf_trace.proofs.PlaceLaws.{reading_placed}
use Rattle.wf_trace.proofs.reader.TraceReader.new.Goals as goal

pub returns-clause-reading : goal.returns-clause-reading
returns-clause-reading c = λ closed octets. ap (rest_of None None) (c.in_ok-cut.ensures.pieces closed octets)
    ∙ reading_placed closed octets
