-- The seat has the machine, whose step appends one entry to the history; the next ticket is then served.
use Rattle.std.proofs.Common.{rules, refl, sym, ap, ◌∙◌, Some, [], ◌∷◌}
use Rattle.atomic_table.specs.Table.{rest}
use Rattle.wf_gate.proofs.Steps.{lent, serves_at, gave, right_there}
use Rattle.wf_gate.proofs.turn.serve.Goals as goal

pub slot_mut-requires : goal.slot_mut-requires
slot_mut-requires g c = let has = c.requires.turn.2.1 in (
  c.requires.own.0,
  (
    Some c.requires.turn.2.0,
    has ∙ ap (λ l. (0, Some c.requires.turn.2.0) ∷ rest l) (sym has),
  ),
)

pub fetch_add-requires : goal.fetch_add-requires
fetch_add-requires g c =
    let t = c.step-reply.ensures in
    let note = g.M.Machine.note c.args.call in
    let k = lent _ _ _ _ 1 c.args.pass.now.me c.slot_mut.result.now c.in-Some.machine c.step-reply.new.self
    c.slot_mut.ensures.value c.requires.turn c.in-Some.is in (
      c.requires.own.0,
      search rules,
      serves_at _ _ _ _ _ _ _ c.args.pass.now.me.0 c.requires.turn.0 1 c.in-Some.machine
          c.step-reply.new.self c.args.number (note ∷ []) k.0 c.requires.own.1 c.requires.turn.1 refl
          c.requires.number k.1 (t.past k.2) t.settings (t.calls_left k.2),
    )

pub returns-clause-seat : goal.returns-clause-seat
returns-clause-seat g c =
    let d = c.fetch_add.ensures in
    let note = g.M.Machine.note c.args.call in
    let k = lent _ _ _ _ 1 c.args.pass.now.me c.slot_mut.result.now c.in-Some.machine c.step-reply.new.self
    c.slot_mut.ensures.value c.requires.turn c.in-Some.is in (
      d.0,
      d.1,
      gave _ _ _ _ _ c.fetch_add.new.seat.me c.args.pass.now.me.0 c.in-Some.machine c.step-reply.new.self
          c.args.number (note ∷ []) k.0 c.requires.own.1 c.requires.number k.1
          (c.step-reply.ensures.past k.2) d.2.1,
    )

pub returns-clause-reply : goal.returns-clause-reply
returns-clause-reply g c =
    let k = lent _ _ _ _ 1 c.args.pass.now.me c.slot_mut.result.now c.in-Some.machine c.step-reply.new.self
    c.slot_mut.ensures.value c.requires.turn c.in-Some.is in
    right_there _ _ _ _ g.M.Machine.right _ c.in-Some.machine _ c.args.call _ k.1
    (c.step-reply.ensures.reply k.2)
