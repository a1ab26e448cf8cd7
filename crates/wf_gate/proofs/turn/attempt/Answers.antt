-- The exchange either finds the number loaded, which gives the seat its turn, or a greater one.
use Rattle.std.proofs.Common.{rules, ◌∙◌, refl}
use Rattle.wf_gate.proofs.Steps.{peeks, tries_at, tried_of}
use Rattle.wf_gate.proofs.turn.attempt.Goals as goal

pub load-serving-requires : goal.load-serving-requires
load-serving-requires g c = (
  c.requires.own.0,
  search rules,
  peeks _ _ _ _ _ _ _ c.requires.own.1 c.requires.idle.0 c.requires.left,
)

pub compare_exchange-ticket-requires : goal.compare_exchange-ticket-requires
compare_exchange-ticket-requires g c = let l = c.load-serving.ensures in (
  l.0 ∙ c.requires.own.0,
  search rules,
  tries_at _ _ _ _ _ _ _ c.args.pass.now.me.0 c.args.pass.now.me.1
      c.load-serving.result _ l.2.0 c.requires.own.1 c.requires.idle.0 c.requires.left refl,
)

pub returns-clause-turn : goal.returns-clause-turn
returns-clause-turn g c = let l = c.load-serving.ensures in
    tried_of _ _ _ _ c.args.pass.now.me c.load-serving.new.seat.me c.compare_exchange-ticket.new.seat.me
    c.load-serving.result c.compare_exchange-ticket.result c.requires.idle.1 l.2.0 c.requires.own.1
    c.compare_exchange-ticket.ensures.2.0
