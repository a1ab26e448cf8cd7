-- Proves what `Path::mark` promises from the clauses of the half's calls. By cases of the outcome.
use Rattle.std.proofs.Common.{[], ◌∷◌, refl, sym, subst}
use Rattle.wf_path.specs.Heard.{IsMarked}
use Rattle.wf_path.specs.declared.each.Outcome.{Outcome}
use Rattle.wf_path.proofs.Inside.{stands_inside}
use Rattle.wf_path.proofs.Marks.{marked_unsent, marked_given_up, marked_not}
use Rattle.wf_path.proofs.path.Path.mark.Goals as goal

pub returns-in-Unsent-clause-marked : goal.returns-in-Unsent-clause-marked
returns-in-Unsent-clause-marked c = subst (λ (outcome : Outcome).
    IsMarked c.args.self.now.half c.unsent.new.self c.args.exchange c.args.index (outcome ∷ []))
    (sym c.in-Unsent.is)
    (marked_unsent c.args.self.now.half c.unsent.new.self c.args.exchange c.args.index _
    (λ w bodies h told. c.unsent.ensures.meets w bodies (stands_inside c.self.view_is w bodies h) told))

pub returns-in-GaveUp-clause-marked : goal.returns-in-GaveUp-clause-marked
returns-in-GaveUp-clause-marked c = subst (λ (outcome : Outcome).
    IsMarked c.args.self.now.half c.give_up.new.self c.args.exchange c.args.index (outcome ∷ []))
    (sym c.in-GaveUp.is)
    (marked_given_up c.args.self.now.half c.give_up.new.self c.args.exchange c.args.index _
    (λ w bodies h. c.give_up.ensures.meets w bodies (stands_inside c.self.view_is w bodies h)))

pub returns-in_default-clause-marked : goal.returns-in_default-clause-marked
returns-in_default-clause-marked c = marked_not c.args.self.now.half c.args.self.now.half c.args.exchange
    c.args.index c.args.outcome c.in_default.not-Unsent c.in_default.not-GaveUp refl
