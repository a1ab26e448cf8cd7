-- Proves that no receive half moves if the path announces no start.
use Rattle.std.proofs.Common.{sym, ◌∙◌, subst}
use Rattle.wf_send_half_model.specs.Standing.{StandsFor}
use Rattle.wf_cell.specs.Engines.{EngineValue}
use Rattle.wf_cell.proofs.Exchanges.{unannounced_peers}
use Rattle.wf_cell.proofs.engine.Engine.catch_up.Goals as goal

pub returns-in_default-clause-peers : goal.returns-in_default-clause-peers
returns-in_default-clause-peers c = λ w bodies i live.
    let stands = subst (λ (u : EngineValue). StandsFor u.half w bodies) (sym c.self.view_is) i in
    unannounced_peers w c.args.station c.args.tid c.args.self.now.peers
    (sym c.in_default.is ∙ c.start_announced.ensures w bodies stands) live
