-- Proves the contract of `Windows::reset_all`: each round of the loop makes one more window fresh.
use Rattle.std.proofs.Common.{◌+◌, List, ap, sym, ◌∙◌, subst, arith}
use Rattle.wf_def_lists.specs.Bounds.{greatest_window}
use Rattle.wf_def_agreement.specs.Session.{new_session}
use Rattle.wf_send_parts.specs.Window.{WindowValue, WindowStandsFor}
use Rattle.wf_send_parts.proofs.Calls.{new_law}
use Rattle.wf_send_parts.proofs.Resetting.{IsResetting, none_yet, one_more}
use Rattle.wf_send_parts.proofs.window.windows.Windows.reset_all.Goals as goal

pub loop-tid-init : goal.loop-tid-init
loop-tid-init c = none_yet c.args.self.now c.args.station c.args.size c.args.start

pub reset-requires-clause-within : goal.reset-requires-clause-within
reset-requires-clause-within c = omega (arith, c.loop-tid.invariant.count, c.requires.within)

pub reset-requires-clause-empty : goal.reset-requires-clause-empty
reset-requires-clause-empty c =
    ap (λ (w : WindowValue). w.places) (c.loop-tid.invariant.later c.loop-tid.tid (omega arith) (omega arith))
    ∙ c.requires.empty c.loop-tid.tid (omega arith)

pub loop-tid-preserved : goal.loop-tid-preserved
loop-tid-preserved c =
    let P : List WindowValue → Type 0 = λ ws. IsResetting c.args.self.now ws c.args.station c.args.size
    c.args.start (c.loop-tid.tid + 1) in
    subst P (sym c.reset.ensures.fresh) (one_more c.args.self.now c.loop-tid.self c.args.station c.args.size
    c.args.start c.loop-tid.tid (omega arith)
    (omega (arith, c.loop-tid.invariant.count, c.requires.within)) c.loop-tid.invariant)

pub returns-clause-fresh : goal.returns-clause-fresh
returns-clause-fresh c t low = c.loop-tid.invariant.fresh t (omega (arith, low))

pub returns-clause-stands : goal.returns-clause-stands
returns-clause-stands c t bodies n low on_air =
    let P : WindowValue → Type 0 = λ w. WindowStandsFor w (new_session n c.args.size) bodies in
    subst P (sym (c.loop-tid.invariant.fresh t (omega (arith, low))))
    (new_law greatest_window c.args.size c.args.start n bodies on_air c.requires.in_range.1)
