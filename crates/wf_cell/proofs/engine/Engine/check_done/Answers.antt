-- Proves that a Done is refused exactly if the machine refuses it, and by which BlockAck it ends. By cases of
-- the mark.
use Rattle.std.proofs.Common.{◌≡◌, ap, sym, ◌∙◌, subst, ℕ, Bool, Option, Some}
use Rattle.std.specs.Prelude.{IfSome}
use Rattle.wf_frame.specs.Frames.{FrameValue}
use Rattle.wf_def_world.specs.World.{World, exchange}
use Rattle.wf_law_runs.specs.Delivery.{is_batch}
use Rattle.wf_recv_marks.specs.declared.marks.Mark.{Mark}
use Rattle.wf_send_half_model.specs.Standing.{StandsFor}
use Rattle.wf_cell_model.specs.Refusing.{mark_in}
use Rattle.wf_cell.specs.Engines.{EngineValue, heard_by}
use Rattle.wf_cell.proofs.Exchanges.{none_open, none_sent, done_not_open, done_marked}
use Rattle.wf_cell.proofs.Inside.{inside}
use Rattle.wf_cell.proofs.engine.Engine.check_done.Goals as goal

pub returns-in_default-clause-refused : goal.returns-in_default-clause-refused
returns-in_default-clause-refused c = λ w bodies i.
    let j = inside c.self.view_is w bodies i in
    done_not_open _ w bodies c.args.exchange c.args.heard c.args.air j
    (none_open _ w bodies c.args.exchange j (sym c.in_default.ensures.mark))

pub returns-in_default-sent-clause-refused : goal.returns-in_default-sent-clause-refused
returns-in_default-sent-clause-refused c = λ w bodies i.
    let j = inside c.self.view_is w bodies i in
    done_not_open _ w bodies c.args.exchange c.args.heard c.args.air j
    (none_sent w c.args.exchange (c.in_default-sent.ensures w bodies j.half))

pub returns-in-Some-ending_refusal-clause-refused : goal.returns-in-Some-ending_refusal-clause-refused
returns-in-Some-ending_refusal-clause-refused c = λ w bodies i.
    let j = inside c.self.view_is w bodies i in
    c.in-Some-ending_refusal.ensures ∙ done_marked _ w bodies c.args.exchange c.args.heard c.args.air j
    c.config-settings.result c.config-settings.ensures.value (Some c.in-Some.mark.now)
    c.is_batch-batch.result (sym c.in-Some.ensures.mark) (c.is_batch-batch.ensures w bodies j.half)

pub returns-in-None-clause-refused : goal.returns-in-None-clause-refused
returns-in-None-clause-refused c = λ w bodies i.
    let j = inside c.self.view_is w bodies i in
    c.in-None.ensures ∙ done_marked _ w bodies c.args.exchange c.args.heard c.args.air j
    c.config-settings.result c.config-settings.ensures.value (Some c.in-Some.mark.now)
    c.is_batch-batch.result (sym c.in-Some.ensures.mark) (c.is_batch-batch.ensures w bodies j.half)

pub returns-in-None-clause-heard : goal.returns-in-None-clause-heard
returns-in-None-clause-heard c =
    let e : ℕ = c.args.exchange in
    let u : EngineValue = c.args.self.now in
    subst (λ (k : Option Mark). IfSome k (λ m. (w : World) (bodies : ℕ → FrameValue) →
    StandsFor u.half w bodies → c.heard_of.result ≡ heard_by u.half m (is_batch (exchange w e)) c.args.heard))
    (c.in-Some.ensures.mark ∙ ap (λ (v : EngineValue). mark_in v.marks e) c.self.view_is)
    (λ w bodies stands. c.heard_of.ensures
    ∙ ap (λ (b : Bool). heard_by u.half c.in-Some.mark.now b c.args.heard)
    (c.is_batch-batch.ensures w bodies (subst (λ (v : EngineValue). StandsFor v.half w bodies)
    (sym c.self.view_is) stands)))
