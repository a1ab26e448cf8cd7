-- Proves the effect of a Done on an engine. By cases of its refusal.
use Rattle.std.proofs.Common.{◌≡◌, ap, sym, ◌∙◌, subst, ℕ, ◌==◌, Some, true, false, List}
use Rattle.std.specs.Prelude.{position, IfSome}
use Rattle.wf_cell.specs.Engines.{EngineValue, EngineMeets, heard_by}
use Rattle.wf_frame.specs.Answers.{reply_with}
use Rattle.wf_frame.specs.Frames.{FrameValue}
use Rattle.wf_frame.specs.declared.notes.Ask.TheVariants.{Done}
use Rattle.wf_frame.specs.declared.notes.Note.{Note}
use Rattle.wf_frame.specs.declared.notes.Note.TheVariants.{Asked}
use Rattle.wf_def_world.specs.World.{World, exchange}
use Rattle.wf_def_world.specs.Step.{step}
use Rattle.wf_law_runs.specs.Delivery.{is_batch}
use Rattle.wf_send_half_model.specs.Standing.{StandsFor}
use Rattle.wf_path.specs.Jobs.{changes_nothing}
use Rattle.wf_cell_model.specs.Refusing.{mark_in}
use Rattle.wf_cell.proofs.Calls.{ended_reply}
use Rattle.wf_cell.proofs.Exchanges.{told_tid, told_station, told_live, done_refused, done_met, ended_meets}
use Rattle.wf_cell.proofs.Inside.{inside, of_parts}
use Rattle.wf_cell.proofs.engine.Engine.done.Goals as goal

pub returns-in-Err-clause-meets : goal.returns-in-Err-clause-meets
returns-in-Err-clause-meets c = λ w bodies i.
    done_refused c.args.self.now w bodies c.args.exchange c.args.heard c.args.air i
    c.in-Err.reason (c.in-Err.ensures.refused w bodies i)

pub catch_up-requires-clause-tid : goal.catch_up-requires-clause-tid
catch_up-requires-clause-tid c =
    let k = c.requires.some in
    told_tid k.world c.args.exchange c.in-Ok.found.sent k.is_in.half.reached
    (c.in-Ok.ensures.sent k.world k.bodies k.is_in)

pub catch_up-requires-clause-within : goal.catch_up-requires-clause-within
catch_up-requires-clause-within c =
    let k = c.requires.some in
    told_station _ k.world k.bodies c.args.exchange c.in-Ok.found.sent
    (inside c.self.view_is k.world k.bodies k.is_in) (c.in-Ok.ensures.sent k.world k.bodies k.is_in)

pub returns-in-Ok-clause-meets : goal.returns-in-Ok-clause-meets
returns-in-Ok-clause-meets c = λ w bodies i.
    let j = inside c.self.view_is w bodies i in
    let x = c.args in
    let note : Note = Asked (Done x.exchange x.heard x.air) in
    let d = c.done_bits-answer in
    let pairs : List (ℕ × ℕ) = c.args.answer.now.pairs in
    let up : List ℕ = c.catch_up.new.up in
    let done = sym (c.in-Ok.ensures.refused w bodies i) in
    let told = c.in-Ok.ensures.sent w bodies i in
    let heard = subst (λ (u : EngineValue). IfSome (mark_in u.marks x.exchange) (λ m. (k : World)
    (frames : ℕ → FrameValue) → StandsFor u.half k frames →
    c.in-Ok.found.heard ≡ heard_by u.half m (is_batch (exchange k x.exchange)) x.heard)) (sym c.self.view_is)
    c.in-Ok.ensures.heard in
    let place = subst (λ (u : EngineValue). position (λ m. m.number == x.exchange) u.marks
    ≡ Some c.in-Ok.found.place) (sym c.self.view_is) c.in-Ok.ensures.place in
    let met = done_met _ w bodies x.exchange x.heard x.air j c.in-Ok.found.sent told c.in-Ok.found.heard heard
    done d.new.self.half d.result
    (record { lost = d.ensures.lost; shown = d.ensures.shown; arrived = d.ensures.arrived }) pairs up in
    of_parts (λ (u : EngineValue). EngineMeets w bodies note u (reply_with d.result pairs up))
    c.catch_up.new.self d.new.self.half c.close_at.new.self c.catch_up.ensures.path_kept
    c.catch_up.ensures.marks_kept
    (ended_meets _ w bodies x.exchange x.heard x.air j d.new.self.half (reply_with d.result pairs up)
    c.in-Ok.found.sent told done met c.catch_up.new.self.peers c.close_at.new.self
    (c.catch_up.ensures.peers (step w note).world bodies met.stands
    (told_live w x.exchange x.heard x.air j.half.reached c.in-Ok.found.sent told done))
    (c.close_at.ensures.closed x.exchange place))

pub returns-in-Ok-clause-path_kept : goal.returns-in-Ok-clause-path_kept
returns-in-Ok-clause-path_kept c = λ is.
    let k = c.requires.some in
    let met = returns-in-Ok-clause-meets c k.world k.bodies k.is_in in
    let answered = sym (c.in-Ok.ensures.refused k.world k.bodies k.is_in) in
    let both : true ≡ false = sym is ∙ ap changes_nothing met.reply
    ∙ ended_reply k.world c.args.exchange c.args.heard c.args.air answered in
    cc
