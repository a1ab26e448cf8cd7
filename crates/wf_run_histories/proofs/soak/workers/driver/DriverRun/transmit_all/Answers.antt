-- Proves that the loop makes the Arrive calls of the definition, one transmission per step.
use Rattle.std.proofs.Common.{◌≡◌, ◌-◌, false, refl, sym, ap, arith, rules}
use Rattle.wf_run_histories.specs.Drivers.{owing}
use Rattle.wf_run_histories.specs.Workloads.{words_behind, calls_left, arrivals}
use Rattle.wf_run_histories.proofs.Walks.{on_err, walks_none, walks_to, stops_then}
use Rattle.wf_run_histories.proofs.Sendings.{run_more, words_more, words_over, one_sent, all_sent}
use Rattle.wf_run_histories.proofs.soak.workers.driver.DriverRun.transmit_all.Goals as goal

pub loop-index-init : goal.loop-index-init
loop-index-init g c =
    let all : c.args.count ≡ c.args.count - 0 = omega arith in record {
      inside = omega arith;
      run = refl;
      words = ap (λ n. words_behind n c.args.self.now.words) (sym all);
      walks = λ words. walks_to (walks_none _ _) (ap
          (λ n. owing c.args.self.now words (calls_left c.args.exchange false
          (arrivals 0 n c.args.self.now.words))) all);
    }

pub loop-index-preserved : goal.loop-index-preserved
loop-index-preserved g c =
    let i = c.loop-index.invariant in
    let next = c.transmit.ensures.words in record {
      inside = search rules;
      run = run_more c.args.self.now c.loop-index.self c.transmit.new.self _ i.run next;
      words = words_more c.args.self.now c.loop-index.self c.transmit.new.self c.loop-index.index c.args.count
          (search rules) next i.words;
      walks = λ words. one_sent c.args.self.now c.loop-index.self c.transmit.new.self c.args.exchange
          c.loop-index.index c.args.count c.loop-index.some c.in_ok-arrived.arrived words _
          (search rules) i.run next c.in_ok-arrived.ensures.arrived
          (i.walks words) c.in_ok-arrived.ensures.walks;
    }

pub returns-in_err-arrived-clause-spent : goal.returns-in_err-arrived-clause-spent
returns-in_err-arrived-clause-spent g c = on_err c.from_residual.result
    (λ words. stops_then (c.loop-index.invariant.walks words) (c.in_err-arrived.ensures.spent _))

pub returns-clause-words : goal.returns-clause-words
returns-clause-words g c = let i = c.loop-index.invariant in
    words_over c.args.self.now c.loop-index.self c.loop-index.index c.args.count (search rules) i.run i.words

pub returns-clause-walks : goal.returns-clause-walks
returns-clause-walks g c = λ words. all_sent c.args.self.now c.loop-index.self c.args.exchange
    c.loop-index.index c.args.count c.loop-index.some words _ (search rules)
    (c.loop-index.invariant.walks words)
