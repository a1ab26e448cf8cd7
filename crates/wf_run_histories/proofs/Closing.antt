-- Proves that the history is a history of `live` when all seats are returned. The entries since the gate
-- opened come from the seats, and each seat has the calls of its worker.
use Rattle.std.proofs.Common.{◌≡◌, ℕ, ◌+◌, ◌-◌, ◌<◌, ◌≤◌, List, ◌++◌, length, map, replicate, sym, ◌∙◌, ap, subst, arith, inl, inr}
use Rattle.std.specs.Prelude.{◌⊎◌, All, slice_index_or}
use Rattle.std.proofs.lemmas.List.{length-replicate, get_or-append-add, get_or-replicate}
use mathlib.Core.List.{IsPrefix}
use Rattle.wf_frame.specs.Settings.{standard}
use Rattle.wf_def_world.specs.World.{World}
use Rattle.wf_def_world.specs.Run.{Entry, Past, world_of}
use Rattle.wf_gate.specs.Seats.{AreAll, AreOfSeats, StandsWithCalls, places_of}
use Rattle.wf_run_histories.specs.Opening.{opening_calls}
use Rattle.wf_run_histories.specs.Workloads.{Made, walked, driver_of, sender_calls}
use Rattle.wf_run_histories.specs.Workloads.Phase.{Ends}
use Rattle.wf_run_histories.specs.Makings.{made_by}
use Rattle.wf_run_histories.specs.Crew.{CellGate, CellSeat, StandAt, HasDriven, IsWorked, class_of_driver, driver_count, driver_quota, quotas_of}
use Rattle.wf_run_histories.specs.Lives.{opened_world, IsDriven, IsLiveHistory}
use Rattle.wf_run_histories.proofs.Quotas.{count_of}
use Rattle.wf_run_histories.proofs.Places.{world_at_gate, stand_longer, all_made, all_called}

quota_behind : (n i a b d : ℕ) (m : ℕ) → i < m → slice_index_or (replicate n a ++ replicate m b) (n + i) d ≡ b
quota_behind n i a b d m below =
    let first = length-replicate n a in
    let there : n + i ≡ length (replicate n a) + i = omega (arith, first) in
    ap (λ k. slice_index_or (replicate n a ++ replicate m b) k d) there
    ∙ get_or-append-add (replicate n a) (replicate m b) i d ∙ get_or-replicate m i b d below

ended_by : {q : ℕ} (P : Type 0) (made : List Made) → q ≡ driver_quota → P ⊎ (length made ≡ q) → P ⊎
    (length made ≡ driver_quota)
ended_by P made is (inl over) = inl over
ended_by P made is (inr spent) = inr (spent ∙ is)

module _ (g : CellGate) (seed senders frames : ℕ) (calls : List Entry) (seats : List CellSeat)
    (opened : g.opening.machine.past ≡ record { config = standard; history = opening_calls senders })
    (quotas : g.opening.quotas ≡ quotas_of senders frames)
    (all : AreAll g seats)
    (seen : All (λ (s : CellSeat). IsPrefix s.seen calls) seats)
    (own : All (λ (s : CellSeat). s.own ≡ places_of s.number calls) seats)
    (worked : All (IsWorked g seed senders frames) seats)
  where
    at_gate : world_at_gate g ≡ opened_world senders
    at_gate = ap world_of opened

    count : length g.opening.quotas ≡ senders + driver_count
    count = ap length quotas ∙ count_of senders frames

    -- The seat with a number.
    record HasSeat (n : ℕ) : Type 0 where
      s : CellSeat
      numbered : s.number ≡ n
      sees : IsPrefix s.seen calls
      owns : s.own ≡ places_of s.number calls
      works : IsWorked g seed senders frames s

    seat_of : (n : ℕ) → n < senders + driver_count → HasSeat n
    seat_of n below =
        let a = all n (omega (arith, count, below)) in
        record {
          s = a.1;
          numbered = a.4;
          sees = subst (λ (s : CellSeat). IsPrefix s.seen calls) a.3 (seen a.0 a.1 a.2);
          owns = subst (λ (s : CellSeat). s.own ≡ places_of s.number calls) a.3 (own a.0 a.1 a.2);
          works = subst (IsWorked g seed senders frames) a.3 (worked a.0 a.1 a.2);
        }

    -- All calls of a seat.
    made_is : (n : ℕ) (h : HasSeat n) (made : List Made) → StandAt g h.s.number h.s.seen h.s.own made →
        made ≡ made_by n (opened_world senders) calls
    made_is n h made stand =
        all_made calls g h.s.number made (subst (λ (own : List ℕ). StandAt g h.s.number calls own made) h.owns
        (stand_longer g h.s.number h.s.seen calls h.s.own made h.sees stand))
        ∙ ap (λ k. made_by k (world_at_gate g) calls) h.numbered
        ∙ ap (λ (w : World). made_by n w calls) at_gate

    has_sent : (n : ℕ) → n < senders → map (λ (m : Made). m.0) (made_by n (opened_world senders) calls)
        ≡ sender_calls seed n frames
    has_sent n below =
        let h = seat_of n (omega (arith, below)) in
        let sent : StandsWithCalls h.s.number h.s.seen (places_of h.s.number calls)
        (sender_calls seed h.s.number frames) =
        subst (λ (own : List ℕ). StandsWithCalls h.s.number h.s.seen own
        (sender_calls seed h.s.number frames)) h.owns
        (h.works.sender (omega (arith, h.numbered, below))) in
        subst (λ k. map (λ (m : Made). m.0) (made_by k (opened_world senders) calls)
        ≡ sender_calls seed k frames) h.numbered
        (sym (all_called h.s.seen calls (opened_world senders) h.s.number
        (sender_calls seed h.s.number frames) h.sees sent))

    quota_is : (driver : ℕ) → driver < driver_count → (h : HasSeat (senders + driver)) →
        slice_index_or g.opening.quotas h.s.number 0 ≡ driver_quota
    quota_is driver below h =
        ap (λ (l : List ℕ). slice_index_or l h.s.number 0) quotas
        ∙ ap (λ k. slice_index_or (quotas_of senders frames) k 0) h.numbered
        ∙ quota_behind senders driver (frames + 1) driver_quota 0 driver_count below

    has_driven : (driver : ℕ) → driver < driver_count →
        IsDriven (driver_of seed driver (class_of_driver driver) senders)
        (made_by (senders + driver) (opened_world senders) calls)
    has_driven driver below =
        let n = senders + driver in
        let h = seat_of n (omega (arith, below)) in
        let behind : h.s.number - senders ≡ driver = omega (arith, h.numbered) in
        let driven : HasDriven g seed senders driver h.s =
        subst (λ d. HasDriven g seed senders d h.s) behind (h.works.driver (omega (arith, h.numbered))) in
        subst (IsDriven (driver_of seed driver (class_of_driver driver) senders))
        (made_is n h driven.made driven.stand)
        (record {
          walk = driven.walk;
          ended = ended_by
              ((walked (driver_of seed driver (class_of_driver driver) senders) driven.made).phase ≡ Ends)
              driven.made (driven.allotted ∙ quota_is driver below h) driven.ended;
        })

    pub is_live : (history : List Entry) → history ≡ g.opening.machine.past.history ++ calls →
        length history ≤ standard.calls → AreOfSeats g calls → IsLiveHistory seed senders frames history
    is_live history is few callers = record {
      calls = calls;
      is = is ∙ ap (λ (p : Past). p.history ++ calls) opened;
      few = few;
      callers = subst (λ k. All (λ (e : Entry). e.0 < k) calls) count callers;
      sent = has_sent;
      driven = has_driven;
    }
