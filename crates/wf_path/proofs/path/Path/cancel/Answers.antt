-- Proves what `Path::cancel` promises: it is the end in which no transmission went on the air.
use Rattle.std.proofs.Common.{◌∙◌, ap, subst, ℕ, List, Option, take, replicate}
use Rattle.std.proofs.lemmas.List.{take-replicate}
use Rattle.wf_path.specs.Each.{IsEndedEach, air_of_none}
use Rattle.wf_path.specs.declared.each.Outcome.{Outcome}
use Rattle.wf_path.specs.declared.each.Outcome.TheVariants.{Unsent}
use Rattle.wf_path.proofs.path.Path.cancel.Goals as goal

pub returns : goal.returns
returns c =
    subst (λ (outcomes : List Outcome). IsEndedEach c.args.self.now c.args.exchange outcomes
    (air_of_none c.args.self.now.half.config) c.done_each.new.self c.done_each.result)
    (take-replicate c.count_of-count.result 256 Unsent c.count_of-count.ensures.few
    ∙ ap (λ (n : ℕ). replicate n Unsent) c.count_of-count.ensures.count)
    (subst (λ (air : Option ℕ). IsEndedEach c.args.self.now c.args.exchange
    (take c.count_of-count.result (replicate 256 Unsent)) air c.done_each.new.self c.done_each.result)
    (c.air_of_none-air.ensures ∙ ap air_of_none c.config.ensures.value) c.done_each.ensures)
