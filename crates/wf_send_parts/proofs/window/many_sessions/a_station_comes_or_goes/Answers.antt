-- Proves the law `a_station_comes_or_goes` by the lemmas of Changes.
use Rattle.wf_send_parts.proofs.Changes.{station_joins, station_goes}
use Rattle.wf_send_parts.proofs.window.many_sessions.a_station_comes_or_goes.Goals as goal

pub returns-clause-joins : goal.returns-clause-joins
returns-clause-joins c ws vs was_live is_live before after bodies s all others live stands =
    station_joins ws vs was_live is_live before after bodies s all others live stands

pub returns-clause-goes : goal.returns-clause-goes
returns-clause-goes c ws vs was_live is_live before after bodies s all others dead empty =
    station_goes ws vs was_live is_live before after bodies s all others dead empty
