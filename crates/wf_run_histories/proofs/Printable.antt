-- Proves that each entry of a history of `live` can be printed as a line of a trace: each caller is a sender
-- or a driver, and the calls of both can be printed.
use Rattle.std.proofs.Common.{◌≡◌, ℕ, zero, suc, ◌+◌, ◌-◌, ◌<◌, ◌≤◌, ◌^◌, Bool, true, false, cond, List, [], ◌∷◌, ◌++◌, length, map, refl, sym, ◌∙◌, ap, subst, length-append, arith, nat_lt}
use Rattle.std.specs.Prelude.{All, ◌==◌}
use Rattle.std.proofs.lemmas.List.Elements.{All-nil, All-cons, All-head, All-tail}
use Rattle.wf_frame.specs.Settings.{standard}
use Rattle.wf_trace.specs.Traces.{ArePrintable}
use Rattle.wf_run_histories.specs.Opening.{station_calls, opening_calls}
use Rattle.wf_trace.specs.Meanings.{greatest_caller}
use Rattle.wf_trace.specs.Printing.{IsPrintable}
use Rattle.wf_run_histories.proofs.Prints.{sender_law, walk_law}
use Rattle.wf_run_histories.specs.Makings.{made_by}
use Rattle.wf_run_histories.specs.Walks.{CanBePrinted}
use Rattle.wf_run_histories.specs.Workloads.{Made, driver_of}
use Rattle.wf_def_world.specs.World.{World}
use Rattle.wf_def_world.specs.Step.{Outcome, step}
use Rattle.wf_def_world.specs.Run.{Entry}
use Rattle.wf_run_histories.specs.Crew.{class_of_driver, driver_count}
use Rattle.wf_run_histories.specs.Lives.{opened_world, IsLiveHistory}

both : (xs ys : List Entry) → ArePrintable xs → ArePrintable ys → ArePrintable (xs ++ ys)
both [] ys one two = two
both (x ∷ xs) ys one two = (one.0, both xs ys one.1 two)

openings : (n : ℕ) → ArePrintable (opening_calls n)
unfolding opening_calls
openings zero = tt
openings (suc n) = both (opening_calls n) (station_calls n) (openings n)
    ((omega arith, (tt, (tt, (tt, (tt, (tt, tt)))))), ((omega arith, (tt, (tt, (tt, (tt, tt))))), tt))

-- If the notes can be printed, the calls can.
of_notes : (made : List Made) → All IsPrintable (map (λ (m : Made). m.0) made) → CanBePrinted made
of_notes [] all = All-nil (λ (m : Made). IsPrintable m.0)
of_notes (m ∷ ms) all =
    All-cons (λ (x : Made). IsPrintable x.0) m ms (All-head IsPrintable m.0 (map (λ (x : Made). x.0) ms) all)
    (of_notes ms (All-tail IsPrintable m.0 (map (λ (x : Made). x.0) ms) all))

same_number : (n : ℕ) → (n == n) ≡ true
same_number n = grind arith

rest_of : (b : Bool) (m : Made) (ms : List Made) → CanBePrinted (cond b (m ∷ ms) ms) → CanBePrinted ms
rest_of true m ms all = All-tail (λ (x : Made). IsPrintable x.0) m ms all
rest_of false m ms all = all

first_of : (b : Bool) (m : Made) (ms : List Made) → b ≡ true → CanBePrinted (cond b (m ∷ ms) ms) →
    IsPrintable m.0
first_of true m ms is all = All-head (λ (x : Made). IsPrintable x.0) m ms all
first_of false m ms is all = absurd (cc)

-- Entries can be printed if all calls of each caller can.
by_callers : (most : ℕ) (es : List Entry) (w : World) → most ≤ greatest_caller + 1 →
    All (λ (e : Entry). e.0 < most) es → ((n : ℕ) → n < most → CanBePrinted (made_by n w es)) →
    ArePrintable es
unfolding made_by
by_callers most [] w few below each = tt
by_callers most (e ∷ es) w few below each =
    let o : Outcome = step w e.1 in
    let caller : e.0 < most = All-head (λ (x : Entry). x.0 < most) e es below in
    let first : IsPrintable e.1 = first_of (e.0 == e.0) (e.1, o.reply) (made_by e.0 o.world es)
    (same_number e.0) (each e.0 caller) in
    let named : e.0 ≤ greatest_caller = omega (arith, caller, few) in (
      (named, first),
      by_callers most es o.world few (All-tail (λ (x : Entry). x.0 < most) e es below)
          (λ n less. rest_of (e.0 == n) (e.1, o.reply) (made_by n o.world es) (each n less)),
    )

-- The calls of a sender or a driver can be printed.
each_prints : (seed senders frames : ℕ) (history : List Entry)
    (live : IsLiveHistory seed senders frames history) → length history ≤ 2 ^ 32 → (n : ℕ) →
    n < senders + driver_count →
    (b : Bool) → nat_lt n senders ≡ b → CanBePrinted (made_by n (opened_world senders) live.calls)
each_prints seed senders frames history live few n below true is =
    of_notes (made_by n (opened_world senders) live.calls)
    (subst (All IsPrintable) (sym (live.sent n (grind (arith, is)))) (sender_law seed n frames))
each_prints seed senders frames history live few n below false is =
    let driver : ℕ = n - senders in
    let behind : senders ≤ n = grind (arith, is) in
    let number : senders + driver ≡ n = omega (arith, behind) in
    let all : length history ≡ length (opening_calls senders) + length live.calls =
    ap length live.is ∙ length-append (opening_calls senders) live.calls in
    let driven = live.driven driver (omega (arith, behind, below)) in
    subst (λ k. CanBePrinted (made_by k (opened_world senders) live.calls)) number
    (walk_law standard (opening_calls senders) live.calls (senders + driver)
    (driver_of seed driver (class_of_driver driver) senders) (omega (arith, all, few)) refl driven.walk)

pub are_printable : (seed senders frames : ℕ) (history : List Entry) → senders ≤ 8 →
    IsLiveHistory seed senders frames history → ArePrintable history
are_printable seed senders frames history few live =
    let short : length history ≤ 2 ^ 32 = let most = live.few in omega (arith, most) in
    subst ArePrintable (sym live.is)
    (both (opening_calls senders) live.calls (openings senders)
    (by_callers (senders + driver_count) live.calls (opened_world senders) (omega (arith, few)) live.callers
    (λ n less. each_prints seed senders frames history live short n less (nat_lt n senders) refl)))
