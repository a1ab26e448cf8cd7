-- Proves the clauses of a cell's call and that the invariant is kept, from the engine's call.
use Rattle.std.proofs.Common.{IfSome, Some, ◌≡◌, ap, sym, ◌∙◌, subst, ◌<◌, List, [], ◌∷◌, ◌++◌, refl, arith}
use Rattle.std.specs.Prelude.{◌-◌}
use Rattle.wf_frame.specs.Answers.{reply_of}
use Rattle.wf_frame.specs.declared.notes.Note.{Note}
use Rattle.wf_frame.specs.declared.notes.ReplyNote.{ReplyNote}
use Rattle.wf_def_lists.specs.Lengths.{greatest_body}
use Rattle.wf_def_world.specs.Run.{Entry, Past, by, world_of}
use Rattle.wf_law_runs.specs.Laws.{Laws}
use Rattle.wf_law_runs.specs.Lengths.{HasLengths}
use Rattle.wf_law_runs.specs.Queues.{HasLength, IsAtMost}
use Rattle.wf_send_half_model.specs.Half.{body_of}
use Rattle.wf_send_half_model.specs.Standing.{StandsFor}
use Rattle.wf_path.specs.Jobs.{note_of, bodies_after}
use Rattle.wf_cell.specs.Engines.{EngineValue}
use Rattle.wf_cell.specs.Cells.{CellValue, calls_left_in, with_entry}
use Rattle.wf_cell.specs.Rights.{IsRight}
use Rattle.wf_cell.specs.Bodies.{body_after}
use Rattle.wf_cell.proofs.Bodies.{bodies_then, reaped_body}
use Rattle.wf_cell.proofs.Rights.{is_right}
use Rattle.wf_cell.proofs.Steps.{all_laws, is_small, stepped, replied, came_back, past_grown, still_stands, next_cell}
use Rattle.wf_cell.proofs.cell.Cell.step.Goals as goal

pub returns-then-self-eq0-clause-laws : goal.returns-then-self-eq0-clause-laws
returns-then-self-eq0-clause-laws c =
    let engine : EngineValue = c.self.inside.engine in
    let p : Past = record { config = engine.half.config; history = c.self.inside.past } in
    subst (λ (u : CellValue). Laws u.past.config u.past.history) c.self.view_is
    (all_laws p engine c.self.inside.left c.self.inside.last c.self.invariant)

pub returns-then-self-eq0-clause-lengths : goal.returns-then-self-eq0-clause-lengths
returns-then-self-eq0-clause-lengths c =
    subst (λ (u : CellValue). HasLengths u.past.history) c.self.view_is c.self.invariant.lengths

pub step-requires-clause-small : goal.step-requires-clause-small
step-requires-clause-small c =
    let engine : EngineValue = c.self.inside.engine in
    let p : Past = record { config = engine.half.config; history = c.self.inside.past } in
    is_small p engine c.self.inside.left c.self.inside.last c.self.invariant

pub invariant_of-self : goal.invariant_of-self
invariant_of-self c =
    let engine : EngineValue = c.self.inside.engine in
    let p : Past = record { config = engine.half.config; history = c.self.inside.past } in
    let e : Entry = by c.args.caller (note_of c.args.job) in
    let answered : ReplyNote = reply_of c.step.new.answer in
    let room : 0 < calls_left_in p = omega (arith, c.self.invariant.counted, c.if-self-eq0.false) in
    let history : List Entry = c.push.new.self in
    let grown : history ≡ p.history ++ e ∷ [] = c.push.ensures
    ∙ ap (λ (n : Note). p.history ++ by c.args.caller n ∷ []) c.note-note.ensures.value in
    next_cell p engine c.self.inside.left c.self.inside.last c.self.invariant refl room c.args.caller
    c.args.job
    c.step.new.self answered c.step.result c.step.ensures.done history (c.self.inside.left - 1)
    (Some (by c.args.caller c.note-note.result)) grown (omega (arith, c.self.invariant.counted, room))
    (ap (λ (n : Note). Some (by c.args.caller n)) c.note-note.ensures.value)
    (subst HasLength c.note-note.ensures.value c.note-note.ensures.some)
    (subst (IsAtMost greatest_body) c.note-note.ensures.value c.note-note.ensures.most)

pub returns-clause-past : goal.returns-clause-past
returns-clause-past c = λ some.
    let engine : EngineValue = c.self.inside.engine in
    let p : Past = record { config = engine.half.config; history = c.self.inside.past } in
    let e : Entry = by c.args.caller (note_of c.args.job) in
    let answered : ReplyNote = reply_of c.step.new.answer in
    let room : 0 < calls_left_in p = omega (arith, c.self.invariant.counted, c.if-self-eq0.false) in
    let history : List Entry = c.push.new.self in
    let grown : history ≡ p.history ++ e ∷ [] = c.push.ensures
    ∙ ap (λ (n : Note). p.history ++ by c.args.caller n ∷ []) c.note-note.ensures.value in
    past_grown p engine c.self.inside.left c.self.inside.last c.self.invariant refl room c.args.caller
    c.args.job
    c.step.new.self answered c.step.result c.step.ensures.done history grown
    ∙ ap (λ (u : CellValue). with_entry e u.past) c.self.view_is

pub returns-clause-bodies : goal.returns-clause-bodies
returns-clause-bodies c = λ some id.
    let engine : EngineValue = c.self.inside.engine in
    let p : Past = record { config = engine.half.config; history = c.self.inside.past } in
    let is = c.self.invariant in
    let answered : ReplyNote = reply_of c.step.new.answer in
    let room : 0 < calls_left_in p = omega (arith, c.self.invariant.counted, c.if-self-eq0.false) in
    let after = stepped p engine c.self.inside.left c.self.inside.last is refl room c.args.caller c.args.job
    c.step.new.self answered c.step.result c.step.ensures.done in
    subst (λ (u : CellValue). body_of c.step.new.self.half id ≡ body_after u.half answered c.args.job id)
    c.self.view_is
    (bodies_then engine.half c.step.new.self.half
    (world_of p) is.bodies c.args.job answered is.is_in.half after.reply after.is_in.half id)

pub returns-clause-reaped : goal.returns-clause-reaped
returns-clause-reaped c = λ some id fate told.
    let engine : EngineValue = c.self.inside.engine in
    let p : Past = record { config = engine.half.config; history = c.self.inside.past } in
    let is = c.self.invariant in
    let answered : ReplyNote = reply_of c.step.new.answer in
    let room : 0 < calls_left_in p = omega (arith, c.self.invariant.counted, c.if-self-eq0.false) in
    let after = stepped p engine c.self.inside.left c.self.inside.last is refl room c.args.caller c.args.job
    c.step.new.self answered c.step.result c.step.ensures.done in
    subst (λ (u : CellValue). IfSome c.step.result (λ f. body_of u.half id ≡ Some f.body)) c.self.view_is
    (reaped_body engine.half (world_of p) is.bodies c.args.job answered c.step.result is.is_in.half
    after.reply after.back id fate told)

pub returns-clause-right : goal.returns-clause-right
returns-clause-right c = λ some.
    let engine : EngineValue = c.self.inside.engine in
    let p : Past = record { config = engine.half.config; history = c.self.inside.past } in
    let is = c.self.invariant in
    let answered : ReplyNote = reply_of c.step.new.answer in
    let room : 0 < calls_left_in p = omega (arith, c.self.invariant.counted, c.if-self-eq0.false) in
    subst (λ (u : CellValue). IsRight u.past.config u.past.history c.args.job answered c.step.result)
    c.self.view_is
    (is_right engine.half p is.bodies c.args.job answered c.step.result is.is_in.half
    (replied p engine c.self.inside.left c.self.inside.last is refl room c.args.caller c.args.job
    c.step.new.self
    answered c.step.result c.step.ensures.done)
    (came_back p engine c.self.inside.left c.self.inside.last is refl room c.args.caller c.args.job
    c.step.new.self answered c.step.result c.step.ensures.done is.bodies is.is_in.half))

pub returns-clause-stands : goal.returns-clause-stands
returns-clause-stands c = λ some bodies stands.
    let engine : EngineValue = c.self.inside.engine in
    let p : Past = record { config = engine.half.config; history = c.self.inside.past } in
    let e : Entry = by c.args.caller (note_of c.args.job) in
    let answered : ReplyNote = reply_of c.step.new.answer in
    let room : 0 < calls_left_in p = omega (arith, c.self.invariant.counted, c.if-self-eq0.false) in
    let history : List Entry = c.push.new.self in
    let grown : history ≡ p.history ++ e ∷ [] = c.push.ensures
    ∙ ap (λ (n : Note). p.history ++ by c.args.caller n ∷ []) c.note-note.ensures.value in
    let after = c.step.new.self in
    let before : StandsFor engine.half (world_of p) bodies =
    subst (λ (u : CellValue). StandsFor u.half (world_of u.past) bodies) (sym c.self.view_is) stands in
    subst (λ (u : CellValue). StandsFor after.half
    (world_of (record { config = after.half.config; history = history }))
    (bodies_after u.half (world_of u.past) c.args.job answered bodies)) c.self.view_is
    (subst (λ (q : Past). StandsFor after.half (world_of q)
    (bodies_after engine.half (world_of p) c.args.job answered bodies))
    (sym (past_grown p engine c.self.inside.left c.self.inside.last c.self.invariant refl room c.args.caller
    c.args.job after answered c.step.result c.step.ensures.done history grown))
    (still_stands p engine c.self.inside.left c.self.inside.last c.self.invariant refl room c.args.caller
    c.args.job after answered c.step.result c.step.ensures.done bodies before))

pub returns-clause-laws : goal.returns-clause-laws
returns-clause-laws c =
    all_laws (record { config = c.step.new.self.half.config; history = c.push.new.self })
    c.step.new.self (c.self.inside.left - 1) (Some (by c.args.caller c.note-note.result))
    (invariant_of-self c)

pub returns-clause-lengths : goal.returns-clause-lengths
returns-clause-lengths c = (invariant_of-self c).lengths

pub returns-clause-path_kept : goal.returns-clause-path_kept
returns-clause-path_kept c = λ is.
    c.step.ensures.path_kept is ∙ ap (λ (u : CellValue). u.half) c.self.view_is
