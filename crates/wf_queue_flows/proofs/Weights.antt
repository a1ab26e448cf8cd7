-- The octets of the queues of a TID are summed up in the order of the queue numbers.
use Rattle.std.proofs.Common.{◌≡◌, ◌∙◌, ℕ, suc, ◌+◌, true, false, List, ◌++◌, sym, ap, arith}
use Rattle.std.specs.Prelude.{sum_by}
use Rattle.std.specs.List.{filter}
use Rattle.std.proofs.lemmas.List.{append-nil}
use Rattle.std.proofs.lemmas.List.Sums.{sum_by_push}
use Rattle.wf_def_lists.specs.Table.{upto}
use Rattle.wf_queue_flows.specs.Backlog.{frames_at, queue_octets}
use Rattle.wf_queue_flows.specs.Flows.{FlowsValue, is_listed}
use Rattle.wf_queue_flows.proofs.Purges.{upto-more, one_passes, one_fails}

abbrev pub octets_at : FlowsValue → ℕ → ℕ
octets_at v q = queue_octets (frames_at v.backlog q)

-- the octets of the queues of TID i below k
abbrev pub octets_below : FlowsValue → ℕ → ℕ → ℕ
octets_below v i k = sum_by (octets_at v) (filter (is_listed v i) (upto k))

module _ (v : FlowsValue) (i k : ℕ) where
  before : List ℕ
  before = filter (is_listed v i) (upto k)

  next : k + 1 ≡ suc k
  next = omega arith

  pub weighed-next : is_listed v i k ≡ true → octets_below v i k + octets_at v k ≡ octets_below v i (k + 1)
  unfolding before
  weighed-next holds = sym (ap (octets_below v i) next
      ∙ ap (sum_by (octets_at v)) (upto-more (is_listed v i) k
      ∙ ap (λ (ks : List ℕ). before ++ ks) (one_passes (is_listed v i) k holds))
      ∙ sum_by_push (octets_at v) before k)

  pub weighed-same : is_listed v i k ≡ false → octets_below v i k ≡ octets_below v i (k + 1)
  unfolding before
  weighed-same fails = sym (ap (octets_below v i) next
      ∙ ap (sum_by (octets_at v)) (upto-more (is_listed v i) k
      ∙ ap (λ (ks : List ℕ). before ++ ks) (one_fails (is_listed v i) k fails) ∙ append-nil before))
