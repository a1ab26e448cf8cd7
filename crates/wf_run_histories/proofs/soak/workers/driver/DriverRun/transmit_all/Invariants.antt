-- The calls so far are a walk to the calls that remain, and the words that remain are those after the
-- transmissions so far.
use Rattle.std.proofs.Common.{◌≡◌, ◌-◌, ◌≤◌, false}
use Rattle.rand_pcg.specs.Lcg.{Lcg}
use Rattle.wf_run_histories.specs.Desks.{Walks}
use Rattle.wf_run_histories.specs.Drivers.{with_words, owing}
use Rattle.wf_run_histories.specs.Workloads.{words_behind, calls_left, arrivals}
use Rattle.wf_run_histories.proofs.soak.workers.driver.DriverRun.transmit_all.Given as goal

abbrev pub invariant-loop-index : goal.invariant-loop-index
invariant-loop-index g l = record {
  inside : l.index ≤ l.count;
  run : l.self ≡ with_words l.fn.self l.self.words;
  words : words_behind (l.count - l.index) l.self.words ≡ words_behind l.count l.fn.self.words;
  walks : (words : Lcg) → Walks g.D.Desk.has g.D.Desk.left l.fn.desk l.desk
      (owing l.fn.self words (calls_left l.exchange false (arrivals 0 l.count l.fn.self.words)))
      (owing l.fn.self words (calls_left l.exchange l.some
      (arrivals l.index (l.count - l.index) l.self.words)));
}
