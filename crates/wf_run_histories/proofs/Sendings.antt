-- Proves the loop over the transmissions of an exchange: each draws one word, and its Arrive is the driver's
-- next call if it arrives.
use Rattle.std.proofs.Common.{◌≡◌, ℕ, ◌+◌, ◌-◌, ◌<◌, ◌≤◌, ◌||◌, not, Bool, List, sym, ◌∙◌, ap, arith}
use Rattle.std.specs.Prelude.{◌==◌, ◌%◌}
use Rattle.rand_pcg.specs.Lcg.{Lcg}
use Rattle.wf_frame.specs.declared.notes.Note.{Note}
use Rattle.wf_run_histories.specs.declared.soak.workers.driver.DriverRun.{DriverRun}
use Rattle.wf_run_histories.specs.Desks.{Walks}
use Rattle.wf_run_histories.specs.Drivers.{with_words, owing, arrive_if}
use Rattle.wf_run_histories.specs.Workloads.{Made, Driver, word_in, words_after, words_behind, calls_left, last_calls, arrivals}
use Rattle.wf_run_histories.proofs.Walks.{walks_then, walks_to}
use Rattle.wf_run_histories.proofs.Words.{behind_next, behind_none, left_next, left_none}

pub run_more : (run old new : DriverRun) (words : Lcg) → old ≡ with_words run old.words →
    new ≡ with_words old words → new ≡ with_words run new.words
run_more run old new words is next =
    (next ∙ ap (λ (r : DriverRun). with_words r words) is)
    ∙ ap (with_words run) (sym (ap (λ (r : DriverRun). r.words) next))

pub words_more : (run old new : DriverRun) (i n : ℕ) → i < n → new ≡ with_words old (words_after old.words) →
    words_behind (n - i) old.words ≡ words_behind n run.words →
    words_behind (n - (i + 1)) new.words ≡ words_behind n run.words
words_more run old new i n below next is = ap (λ (r : DriverRun). words_behind (n - (i + 1)) r.words) next
    ∙ behind_next i n old.words below ∙ is

pub words_over : (run now : DriverRun) (i n : ℕ) → n ≤ i → now ≡ with_words run now.words →
    words_behind (n - i) now.words ≡ words_behind n run.words →
    now ≡ with_words run (words_behind n run.words)
words_over run now i n over is behind =
    let none : n - i ≡ 0 = omega arith in
    is ∙ ap (with_words run) (sym (behind_none now.words) ∙ ap (λ m. words_behind m now.words) (sym none)
    ∙ behind)

module _ {D P : Type 0} {has : D → P → List Made → Type 0} {left : D → ℕ} where
  pub one_sent : {a b c : D} (run old new : DriverRun) (e i n : ℕ) (some arrived : Bool) (words : Lcg)
      (from : Driver) → i < n → old ≡ with_words run old.words →
      new ≡ with_words old (words_after old.words) → arrived ≡ not (word_in old.words % 10 == 0) →
      Walks has left a b from (owing run words (calls_left e some (arrivals i (n - i) old.words))) →
      ((w : Lcg) (calls : List Note) → Walks has left b c (owing old w (arrive_if arrived e i calls))
      (owing old w calls)) →
      Walks has left a c from (owing run words (calls_left e (some || arrived)
      (arrivals (i + 1) (n - (i + 1)) new.words)))
  one_sent {a} {b} {c} run old new e i n some arrived words from below is next arrives before sent =
      let others : List ℕ = arrivals (i + 1) (n - (i + 1)) (words_after old.words) in
      let calls : List Note = calls_left e (some || arrived) others in
      let same : (l : List Note) → owing old words l ≡ owing run words l =
      λ l. ap (λ (r : DriverRun). owing r words l) is in
      let first : calls_left e some (arrivals i (n - i) old.words) ≡ arrive_if arrived e i calls =
      left_next e i n some old.words below ∙ ap (λ b. arrive_if b e i (calls_left e (some || b) others))
      (sym arrives) in
      let begun : Walks has left a b from (owing old words (arrive_if arrived e i calls)) =
      walks_to before (ap (owing run words) first ∙ sym (same (arrive_if arrived e i calls))) in
      walks_to (walks_then begun (sent words calls))
      (same calls ∙ ap (λ (r : DriverRun). owing run words
      (calls_left e (some || arrived) (arrivals (i + 1) (n - (i + 1)) r.words))) (sym next)
      )

  pub all_sent : {a b : D} (run now : DriverRun) (e i n : ℕ) (some : Bool) (words : Lcg) (from : Driver) →
      n ≤ i →
      Walks has left a b from (owing run words (calls_left e some (arrivals i (n - i) now.words))) →
      Walks has left a b from (owing run words (last_calls e some))
  all_sent run now e i n some words from over walks =
      let none : n - i ≡ 0 = omega arith in
      walks_to walks (ap (owing run words) (ap (λ m. calls_left e some (arrivals i m now.words)) none
      ∙ left_none e i some now.words))
