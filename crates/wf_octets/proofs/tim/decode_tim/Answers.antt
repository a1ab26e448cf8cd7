-- The layout determines each entry of the 2008.
use Rattle.std.proofs.Common.{◌∙◌, sym, false, arith, ext_get_or}
use Rattle.wf_octets.proofs.tim.decode_tim.Goals as goal

pub returns-clause-complete : goal.returns-clause-complete
returns-clause-complete c t aids long is =
    ext_get_or false c.read_stations.new.present aids (c.read_stations.array_long ∙ sym long)
    (λ n below. c.read_stations.ensures n (omega arith) ∙ is.stations n (omega arith))
