-- The queues of one TID are flushed, the least first.
use Rattle.std.proofs.Common.{◌≡◌, ℕ, suc, ◌*◌, ◌<◌, Bool, true, false, List, [], ◌∷◌, get_or, refl, sym, ap, ◌∙◌, subst, inl, inr, arith}
use Rattle.std.specs.List.{filter}
use Rattle.std.proofs.lemmas.List.{nil_from_length, get_or_read}
use Rattle.std.proofs.lemmas.Bool.{cases_Bool}
use Rattle.wf_frame.specs.declared.classes.Cause.{Cause}
use Rattle.wf_frame.specs.declared.classes.Cause.TheVariants.{Flushed}
use Rattle.wf_def_lists.specs.Table.{upto}
use Rattle.wf_queue_flows.specs.Backlog.{BacklogValue, frames_at, after_emptying, unchanged}
use Rattle.wf_queue_flows.specs.Flows.{FlowsValue, tids, is_listed, queues, all_emptied, after_tid_flush}
use Rattle.wf_queue_flows.specs.Kept.{AreFlowsKept, flushed_below}
use Rattle.wf_queue_flows.proofs.Holding.{empty_done}
use Rattle.wf_queue_flows.proofs.Keeps.{depth_counted}
use Rattle.wf_queue_flows.proofs.Owners.{on-listed}
use Rattle.wf_queue_flows.proofs.Purges.{emptied-next, emptied-same}

abbrev with_backlog : FlowsValue → BacklogValue → FlowsValue
with_backlog v b = record v { backlog = b }

pub flushed-first : (v : FlowsValue) (i : ℕ) → v ≡ flushed_below v i 0
unfolding flushed_below all_emptied
flushed-first v i = refl

-- a queue that the TID lists is flushed
pub flushed-next : (v w after : FlowsValue) (i k : ℕ) → w ≡ flushed_below v i k → is_listed v i k ≡ true →
    after ≡ record w { backlog = after_emptying Flushed unchanged w.backlog k } →
    after ≡ flushed_below v i (suc k)
unfolding flushed_below
flushed-next v w after i k is holds emptied = emptied
    ∙ ap (λ (u : FlowsValue). with_backlog u (after_emptying Flushed unchanged u.backlog k)) is
    ∙ ap (with_backlog v) (emptied-next Flushed unchanged v.backlog (is_listed v i) k holds)

-- another queue stays
pub flushed-same : (v w : FlowsValue) (i k : ℕ) → w ≡ flushed_below v i k → is_listed v i k ≡ false →
    w ≡ flushed_below v i (suc k)
unfolding flushed_below
flushed-same v w i k is fails = is
    ∙ ap (with_backlog v) (emptied-same Flushed unchanged v.backlog (is_listed v i) k fails)

pub flushed-last : (v w : FlowsValue) (i : ℕ) → w ≡ flushed_below v i (queues v) → w ≡ after_tid_flush v i
unfolding flushed_below after_tid_flush
flushed-last v w i is = is

-- the queues that the TIDs list stay
pub listed_below : (v w : FlowsValue) (i k j q : ℕ) → w ≡ flushed_below v i k →
    is_listed w j q ≡ is_listed v j q
unfolding flushed_below
listed_below v w i k j q is = ap (λ (u : FlowsValue). is_listed u j q) is

pub tids_flushed : (v w : FlowsValue) (i k : ℕ) → w ≡ flushed_below v i k → tids w ≡ tids v
unfolding flushed_below
tids_flushed v w i k is = ap (λ (u : FlowsValue). tids u) is

pub queues_flushed : (v w : FlowsValue) (i k : ℕ) → w ≡ flushed_below v i k → queues w ≡ queues v
unfolding flushed_below
queues_flushed v w i k is = ap (λ (u : FlowsValue). queues u) is

-- queues without frames are emptied
emptied-none : (cause : Cause) (b : BacklogValue) (p : ℕ → Bool) (xs : List ℕ) →
    ((q : ℕ) → p q ≡ true → frames_at b q ≡ []) →
    all_emptied cause unchanged b (filter p xs) ≡ b
unfolding all_emptied
emptied-none cause b p [] none = refl
emptied-none cause b p (x ∷ xs) none = elim (cases_Bool (p x)) [
  | inl holds ↦ rw holds (ap (λ (a : BacklogValue). all_emptied cause unchanged a (filter p xs))
      (sym (empty_done cause b x (none x holds))) ∙ emptied-none cause b p xs none)
  | inr fails ↦ rw fails (emptied-none cause b p xs none)
]

-- a TID without frames is flushed
pub flushed-none : (v now : FlowsValue) (counts : List ℕ) → v ≡ now → AreFlowsKept v counts → (i x : ℕ) →
    i < tids now → x ≡ get_or counts i x → x ≡ 0 → now ≡ after_tid_flush now i
unfolding after_tid_flush
flushed-none v now counts same ok i x low read_x none = subst (λ (w : FlowsValue). w ≡ after_tid_flush w i) same
    (sym (ap (with_backlog v) (emptied-none Flushed v.backlog (is_listed v i) (upto (queues v)) empty)))
  where
    low_i : i < 8 * v.stations
    low_i = subst (λ (w : FlowsValue). i < tids w) (sym same) low

    empty : (q : ℕ) → is_listed v i q ≡ true → frames_at v.backlog q ≡ []
    empty q is = nil_from_length (frames_at v.backlog q) (omega (
      arith,
      none,
      get_or_read counts i x (omega (arith, ok.sized.tids, low_i)) read_x 0,
      depth_counted v counts ok i q low_i (ok.listed.apart.below i q (on-listed v i q is)) (on-listed v i q is),
    ))
