-- Proves that the loop plays the transmissions of the definition, one per step.
use Rattle.std.proofs.Common.{rules, ◌∙◌, ℕ, ◌+◌, ◌-◌, ◌||◌, Bool, ap, sym}
use Rattle.wf_run_histories.specs.Soak.{Soak, all_sent, some_arrive, lets_arrive}
use Rattle.wf_run_histories.proofs.SoakLemmas.{sent_on, sent_over, arrive_on, arrive_over, or_either, or_false}
use Rattle.wf_run_histories.proofs.soak.soaks.SoakRun.all_sent.Goals as goal

pub loop-index-preserved : goal.loop-index-preserved
loop-index-preserved c =
    let e : ℕ = c.args.exchange in
    let i : ℕ = c.loop-index.index in
    let rest : ℕ = c.args.count - (i + 1) in
    let others : Bool → Soak → Bool = λ arrived k. arrived || some_arrive e (i + 1) rest k in (
      search rules,
      (search rules, search rules),
      ap (λ (k : Soak). all_sent e (i + 1) rest k) c.transmission_sent-arrived.ensures.made
          ∙ sent_on e i c.args.count c.loop-index.self (search rules) ∙ c.loop-index.invariant.2,
      or_either c.loop-index.some c.transmission_sent-arrived.result
          (some_arrive e (i + 1) rest c.transmission_sent-arrived.new.self)
          ∙ ap (λ (b : Bool). c.loop-index.some || b)
          (ap (λ (b : Bool). others b c.transmission_sent-arrived.new.self)
          c.transmission_sent-arrived.ensures.arrived
          ∙ ap (λ (k : Soak). others (lets_arrive c.loop-index.self) k)
          c.transmission_sent-arrived.ensures.made
          ∙ arrive_on e i c.args.count c.loop-index.self (search rules))
          ∙ c.loop-index.invariant.3,
    )

pub returns-clause-made : goal.returns-clause-made
returns-clause-made c =
    sym (sent_over c.args.exchange c.loop-index.index c.args.count c.loop-index.self (search rules))
    ∙ c.loop-index.invariant.2

pub returns-clause-arrived : goal.returns-clause-arrived
returns-clause-arrived c =
    sym (or_false c.loop-index.some) ∙ sym (ap (λ (b : Bool). c.loop-index.some || b)
    (arrive_over c.args.exchange c.loop-index.index c.args.count c.loop-index.self (search rules)))
    ∙ c.loop-index.invariant.3
