-- The seat has the machine, whose steps append an entry for each call; the ticket after the seat's is then
-- served.
use Rattle.std.proofs.Common.{rules, arith, ◌≡◌, sym, ap, ◌∙◌, length, map, Some, ◌∷◌}
use Rattle.std.proofs.lemmas.List.{length-map}
use Rattle.atomic_table.specs.Table.{rest}
use Rattle.wf_gate.specs.declared.view.Stage.TheVariants.{Served}
use Rattle.wf_gate.proofs.Steps.{lent, serves_at, gave}
use Rattle.wf_gate.proofs.turn.serve_all.Goals as goal

pub slot_mut-requires : goal.slot_mut-requires
slot_mut-requires g c = let has = c.requires.turn.2.1 in (
  c.requires.own.0,
  (
    Some c.requires.turn.2.0,
    has ∙ ap (λ l. (0, Some c.requires.turn.2.0) ∷ rest l) (sym has),
  ),
)

pub fetch_add-requires : goal.fetch_add-requires
fetch_add-requires g c =
    let s = c.step_all.ensures in
    let calls = c.args.calls.now.items in
    let count : c.len-count.result ≡ length calls = search rules in
    let k = lent _ _ _ _ (length calls) c.args.pass.now.me c.slot_mut.result.now c.in-Some.machine
    c.step_all.new.machine c.slot_mut.ensures.value c.requires.turn c.in-Some.is in (
      c.requires.own.0,
      search rules,
      serves_at _ _ _ _ _ _ _ c.args.pass.now.me.0 c.requires.turn.0 c.len-count.result c.in-Some.machine
          c.step_all.new.machine c.args.number (map g.M.Machine.note calls) k.0 c.requires.own.1
          (c.requires.turn.1 ∙ ap (λ n. Served c.requires.turn.0 n) (sym count))
          (length-map calls g.M.Machine.note ∙ sym count) c.requires.number k.1 s.past s.settings
          (omega (arith, s.left, count)),
    )

pub returns-clause-seat : goal.returns-clause-seat
returns-clause-seat g c =
    let d = c.fetch_add.ensures in
    let calls = c.args.calls.now.items in
    let k = lent _ _ _ _ (length calls) c.args.pass.now.me c.slot_mut.result.now c.in-Some.machine
    c.step_all.new.machine c.slot_mut.ensures.value c.requires.turn c.in-Some.is in (
      d.0,
      d.1,
      gave _ _ _ _ _ c.fetch_add.new.seat.me c.args.pass.now.me.0 c.in-Some.machine c.step_all.new.machine
          c.args.number (map g.M.Machine.note calls) k.0 c.requires.own.1 c.requires.number k.1
          c.step_all.ensures.past d.2.1,
    )
