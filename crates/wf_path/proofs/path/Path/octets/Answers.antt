-- Proves what `Path::octets` promises: the number of a live station is within the settings.
use Rattle.std.proofs.Common.{sym, subst}
use Rattle.wf_send_half.specs.Half.{IsLive}
use Rattle.wf_send_half_model.specs.Half.{TransmitValue}
use Rattle.wf_path.proofs.ToSend.{live_within}
use Rattle.wf_path.proofs.Values.{half_is}
use Rattle.wf_path.proofs.path.Path.octets.Goals as goal

pub octets-requires-clause-within : goal.octets-requires-clause-within
octets-requires-clause-within c = live_within c.self.inside.half c.args.station
    (subst (λ (v : TransmitValue). IsLive v c.args.station) (sym (half_is c.self.view_is)) c.requires.live)
    c.self.invariant
