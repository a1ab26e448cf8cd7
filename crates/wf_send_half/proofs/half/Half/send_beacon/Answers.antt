-- Proves what `Half::send_beacon` promises from the contract of the queues: no beacon of a BSS that there is
-- is refused.
use Rattle.std.proofs.Common.{◌≡◌, refl, ap, ◌∙◌, sym, ℕ}
use Rattle.std.proofs.lemmas.Result.{err_from_is_err_and}
use Rattle.wf_frame.specs.Calls.{in_bss}
use Rattle.wf_frame.specs.declared.notes.GroupAsk.TheVariants.{Beacon}
use Rattle.wf_def_world.specs.Group.{dtim_period}
use Rattle.wf_send_parts.specs.Group.{group_at, with_group, with_beacon}
use Rattle.wf_send_half_model.specs.Half.{TransmitValue, is_any_asleep_of}
use Rattle.wf_send_half.specs.Group.{everyone}
use Rattle.wf_send_half.proofs.CallSteps.{view_of}
use Rattle.wf_send_half.proofs.GroupCalls.{sizes_kept, no_such_bss, answered, beacon_answer}
use Rattle.wf_send_half.proofs.half.Half.send_beacon.Goals as goal

pub returns-in_err-check_bss-clause-meets : goal.returns-in_err-check_bss-clause-meets
returns-in_err-check_bss-clause-meets c w bodies h =
    let p = err_from_is_err_and c.from_residual.result c.from_residual.ensures.1 in rw (p.1, p.2)
    (no_such_bss c.args.self.now w bodies h (in_bss c.args.bss Beacon) _ c.in_err-check_bss.ensures.refused)

pub returns-clause-meets : goal.returns-clause-meets
returns-clause-meets c w bodies h =
    let period : c.dtim_period-period.result ≡ dtim_period c.self.inside.config.period =
    c.dtim_period-period.ensures.exact
    ∙ ap (λ (v : TransmitValue). dtim_period v.config.period) (sym c.self.view_is) in
    answered c.args.self.now (view_of c.self.inside) c.self.view_is c.self.invariant w bodies h c.args.bss
    c.in_ok-check_bss.ensures.within Beacon c.beacon.new.self 0 everyone c.beacon.result refl
    (beacon_answer c.self.inside.config (is_any_asleep_of (view_of c.self.inside) c.args.bss)
    (group_at c.self.inside.groups c.args.bss) c.dtim_period-period.result c.beacon.result period
    c.beacon.ensures.answer)
    (c.beacon.ensures.counted ∙ ap (λ (n : ℕ). with_group c.self.inside.groups c.args.bss
    (with_beacon n (group_at c.self.inside.groups c.args.bss))) period)

pub invariant_of-self : goal.invariant_of-self
invariant_of-self c = sizes_kept (view_of c.self.inside) c.beacon.new.self c.self.invariant
    c.beacon.ensures.count c.beacon.ensures.room
