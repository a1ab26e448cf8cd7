-- Defines CoDel's parameters, target and interval (RFC 8289, section 4), from the fields of the code.
use Rattle.wf_def_codel.specs.Codel.{Params}
use Rattle.wf_queue_flows.specs.declared.codel.Params.{Params as Settings}

-- the value of the code as a value of the definitions
abbrev pub params_of : Settings → Params
params_of s = record { target = s.target; interval = s.interval }
