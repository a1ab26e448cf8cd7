-- A seat with calls left may draw as many tickets.
use Rattle.std.proofs.Common.{rules}
use Rattle.wf_gate.proofs.Steps.{draws}
use Rattle.wf_gate.proofs.turn.draw.Goals as goal

pub fetch_add-first-requires : goal.fetch_add-first-requires
fetch_add-first-requires g c = (
  c.requires.own.0,
  search rules,
  draws _ _ _ _ _ _ c.args.count _ c.requires.own.1 c.requires.idle.0 c.requires.some c.requires.left,
)
