-- Proves what `Half::weight` promises. By cases of the checks: the call is refused, or the half with the
-- other quantum and the lowered deficits represents the world after the Weight.
use Rattle.std.proofs.Common.{sym}
use Rattle.std.proofs.lemmas.Result.{err_from_is_err_and}
use Rattle.wf_frame.specs.declared.notes.Ask.TheVariants.{Weight}
use Rattle.wf_frame.specs.declared.notes.Note.TheVariants.{Asked}
use Rattle.wf_frame.specs.declared.notes.ReplyNote.TheVariants.{Set}
use Rattle.wf_send_half_model.specs.Changes.{after_weight}
use Rattle.wf_send_half_model.proofs.Weights.{weight_meets}
use Rattle.wf_send_half.proofs.CallSteps.{view_of}
use Rattle.wf_send_half.proofs.Rows.{refused_call}
use Rattle.wf_send_half.proofs.Weighing.{weighed_is}
use Rattle.wf_send_half.proofs.Worlds.{met_by}
use Rattle.wf_send_half.proofs.half.Half.weight.Goals as goal

pub returns-in_err-check_weight-clause-meets : goal.returns-in_err-check_weight-clause-meets
returns-in_err-check_weight-clause-meets c w bodies h =
    let p = err_from_is_err_and c.from_residual.result c.from_residual.ensures.1 in rw (p.1, p.2)
    (refused_call c.args.self.now w bodies _ _ (λ e. cc e, (λ e. cc e, (λ e. cc e, tt))) h
    (c.in_err-check_weight.ensures.refused w bodies h))

pub returns-clause-meets : goal.returns-clause-meets
returns-clause-meets c w bodies h =
    met_by (after_weight c.args.self.now c.args.station c.args.weight) c.list.new.self w bodies
    (Asked (Weight c.args.station c.args.weight)) Set
    (weighed_is c.args.self.now (view_of c.self.inside) c.self.view_is c.args.station c.args.weight
    c.set_weight-quantum.result c.set_weight-quantum.new.self c.lower.new.self c.lower-2.new.self
    c.lower-3.new.self c.lower-4.new.self c.list.new.self c.set_weight-quantum.ensures.quantum
    c.set_weight-quantum.ensures.changed c.lower.ensures c.lower-2.ensures c.lower-3.ensures c.lower-4.ensures
    c.list.ensures)
    (weight_meets c.args.self.now w bodies h c.args.station c.args.weight
    (sym (c.in_ok-check_weight.ensures.refused w bodies h)))
