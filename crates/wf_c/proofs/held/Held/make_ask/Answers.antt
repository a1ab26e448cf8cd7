-- Proves what a Done in a burst does: it ends the exchange, as the path's call says.
use Rattle.std.proofs.Common.{refl, subst, sym, ap, ◌∙◌, arith}
use Rattle.wf_frame.specs.declared.notes.Ask.{Ask}
use Rattle.wf_frame.specs.declared.notes.Note.TheVariants.{Asked}
use Rattle.wf_path.specs.Jobs.{ask_about}
use Rattle.wf_c.specs.Bursts.{IsMade}
use Rattle.wf_c.specs.Numbers.{numbers_of}
use Rattle.wf_c.proofs.held.Held.make_ask.Goals as goal

pub returns-in-Err-Done-default-false-default-clause-made :
    goal.returns-in-Err-Done-default-false-default-clause-made
returns-in-Err-Done-default-false-default-clause-made c =
    let before = c.args.self.now in
    let after = record before { path = c.end_unheard.new.path; answer = c.end_unheard.new.answer } in
    subst (λ (a : Ask). IsMade (Asked a) before after (numbers_of after.answer.brief))
    (sym (c.in-Err-Done-default-false-default.ensures.exchange
    ∙ ap ask_about c.in-Err-Done-default-false-default.field-0-is))
    (record { ended = c.end_unheard.ensures.ended; reserve = omega arith; shows = refl })
