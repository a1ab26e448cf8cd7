-- Proves the effect of an Unsent on an engine. By cases: what arrived of the exchange is against it, or the
-- path takes or refuses it.
use Rattle.std.proofs.Common.{◌≡◌, refl, ℕ, ap, sym, ◌∙◌, subst, Option, Some, None}
use Rattle.wf_frame.specs.Answers.{reply_of}
use Rattle.wf_frame.specs.Frames.{FrameValue}
use Rattle.wf_frame.specs.declared.answers.Answer.{Answer}
use Rattle.wf_frame.specs.declared.notes.Ask.TheVariants.{Unsent}
use Rattle.wf_frame.specs.declared.notes.Note.TheVariants.{Asked}
use Rattle.wf_frame.specs.declared.notes.Refusal.{Refusal}
use Rattle.wf_frame.specs.declared.notes.ReplyNote.TheVariants.{Refused}
use Rattle.wf_def_world.specs.World.{Exchange, exchange}
use Rattle.wf_send_half.specs.Marks.{bodies_unsent}
use Rattle.wf_path.specs.Paths.{PathValue}
use Rattle.wf_cell.specs.Engines.{EngineValue, EngineMeets}
use Rattle.wf_cell.proofs.Calls.{untold_meets}
use Rattle.wf_cell.proofs.Exchanges.{unsent_refused}
use Rattle.wf_cell.proofs.Inside.{inside}
use Rattle.wf_cell.proofs.engine.Engine.unsent.Goals as goal
use Rattle.wf_cell.proofs.engine.Engine.unsent.Goals.{in-Some-1, in-None-1}

-- a refused Unsent changes no frame
bodies_stay : (o : Option Exchange) (i : ℕ) (r : Refusal) (bodies : ℕ → FrameValue) →
    bodies_unsent o i (Refused r) bodies ≡ bodies
bodies_stay None i r bodies = refl
bodies_stay (Some x) i r bodies = refl

pub returns-in-Err-clause-meets : goal.returns-in-Err-clause-meets
returns-in-Err-clause-meets c = λ w bodies i.
    let x = c.args in
    subst (λ (f : ℕ → FrameValue). EngineMeets w f (Asked (Unsent x.exchange x.index)) c.args.self.now
    (Refused c.in-Err.reason)) (sym (bodies_stay (exchange w x.exchange) x.index c.in-Err.reason bodies))
    (unsent_refused c.args.self.now w bodies x.exchange x.index i c.in-Err.reason
    (c.in-Err.ensures.told w bodies i).1)

pub returns-in-Ok-clause-meets : goal.returns-in-Ok-clause-meets
returns-in-Ok-clause-meets c = λ w bodies i.
    let j = inside c.self.view_is w bodies i in
    let a : Answer = c.call.new.answer in
    let x = c.args in
    let u : EngineValue = record {
      half = c.call.new.self.half;
      peers = c.self.inside.peers;
      marks = c.self.inside.marks;
    } in
    let meets : EngineMeets w (bodies_unsent (exchange w x.exchange) x.index (reply_of a) bodies)
    (Asked (Unsent x.exchange x.index)) u (reply_of a) =
    untold_meets _ c.call.new.self.half (Asked (Unsent x.exchange x.index)) (reply_of a) w bodies
    (bodies_unsent (exchange w x.exchange) x.index (reply_of a) bodies) j
    (c.call.ensures.meets w bodies j.half (c.in-Ok.ensures.told w bodies i).1) tt in
    elim c.match-call.branch [
      | in-Some-1 y ↦ subst (λ (u : EngineValue). EngineMeets w (bodies_unsent (exchange w x.exchange) x.index
          (reply_of a) bodies) (Asked (Unsent x.exchange x.index)) u (reply_of a)) (sym y.self-is) meets
      | in-None-1 y ↦ subst (λ (u : EngineValue). EngineMeets w (bodies_unsent (exchange w x.exchange) x.index
          (reply_of a) bodies) (Asked (Unsent x.exchange x.index)) u (reply_of a)) (sym y.self-is) meets
    ]

pub returns-in-Ok-clause-path_kept : goal.returns-in-Ok-clause-path_kept
returns-in-Ok-clause-path_kept c = λ is.
    let kept = ap (λ (p : PathValue). p.half) (c.call.ensures.refused is) ∙ ap (λ (u : EngineValue). u.half)
    c.self.view_is in
    elim c.match-call.branch [
      | in-Some-1 y ↦ ap (λ (u : EngineValue). u.half) y.self-is ∙ kept
      | in-None-1 y ↦ ap (λ (u : EngineValue). u.half) y.self-is ∙ kept
    ]
