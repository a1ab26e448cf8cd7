-- Proves that an Arrive is refused exactly if the machine refuses it: by what arrived of the exchange, or
-- since the transmission never went on the air.
use Rattle.std.proofs.Common.{sym, ◌∙◌, ap, Bool, if◌then◌else◌, Some, None}
use Rattle.wf_frame.specs.declared.notes.Refusal.TheVariants.{Marked}
use Rattle.wf_cell.proofs.Inside.{inside}
use Rattle.wf_cell.proofs.engine.Engine.check_arrival.Goals as goal

pub returns-in-Err-clause-refused : goal.returns-in-Err-clause-refused
returns-in-Err-clause-refused c = λ w bodies i. sym (c.in-Err.ensures.told w bodies i).0

pub returns-in-Ok-clause-refused : goal.returns-in-Ok-clause-refused
returns-in-Ok-clause-refused c = λ w bodies i.
    let j = inside c.self.view_is w bodies i in
    sym ((c.in-Ok.ensures.told w bodies i).0 ∙ ap (λ (b : Bool). if b then Some Marked else None)
    (sym (c.is_unsent.ensures w bodies j.half) ∙ c.if-is_unsent.true))

pub returns-in-Ok-2-clause-refused : goal.returns-in-Ok-2-clause-refused
returns-in-Ok-2-clause-refused c = λ w bodies i.
    let j = inside c.self.view_is w bodies i in
    sym ((c.in-Ok.ensures.told w bodies i).0 ∙ ap (λ (b : Bool). if b then Some Marked else None)
    (sym (c.is_unsent.ensures w bodies j.half) ∙ c.if-is_unsent.false))
