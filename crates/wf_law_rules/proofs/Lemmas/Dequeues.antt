-- Proves statements about every dequeue by induction on the dropped frames.
use Rattle.std.proofs.Common.{arith, ℕ, zero, suc, List, [], ◌∷◌, ◌≤◌, length}
use Rattle.wf_def_codel.specs.Codel.{Item, Codel, Params, Dequeued, drops, state_after, dequeued_after, dequeue}
use Rattle.wf_def_codel.specs.CodelLoop.{giving, dropping_first}

-- A statement holds for every dequeue if it holds for an empty queue, for a dequeue that returns the head,
-- and for one more dropped frame.
pub each_dequeued_after : (P : List Item → Dequeued → Type 0) → ((c : Codel) → P [] (giving c [])) →
    ((x : Item) (xs : List Item) (c : Codel) → P (x ∷ xs) (giving c (x ∷ xs))) →
    ((x : Item) (xs : List Item) (d : Dequeued) → P xs d → P (x ∷ xs) (dropping_first x d)) →
    (xs : List Item) (n : ℕ) (c : Codel) → P xs (dequeued_after xs n c)
each_dequeued_after P none head more [] zero c = none c
each_dequeued_after P none head more [] (suc n) c = none c
each_dequeued_after P none head more (x ∷ xs) zero c = head x xs c
each_dequeued_after P none head more (x ∷ xs) (suc n) c =
    more x xs (dequeued_after xs n c) (each_dequeued_after P none head more xs n c)

pub each_dequeue : (P : List Item → Dequeued → Type 0) → ((c : Codel) → P [] (giving c [])) →
    ((x : Item) (xs : List Item) (c : Codel) → P (x ∷ xs) (giving c (x ∷ xs))) →
    ((x : Item) (xs : List Item) (d : Dequeued) → P xs d → P (x ∷ xs) (dropping_first x d)) →
    (xs : List Item) (p : Params) (now : ℕ) (c : Codel) → P xs (dequeue p now c xs)
unfolding dequeue
each_dequeue P none head more xs p now c = each_dequeued_after P none head more xs (drops p now c xs)
    (state_after p now c xs)

-- A dequeue does not lengthen the queue.
pub dequeue_less : (p : Params) (now : ℕ) (c : Codel) (items : List Item) →
    length (dequeue p now c items).rest ≤ length items
dequeue_less p now c items =
    each_dequeue (λ xs d. length d.rest ≤ length xs) (λ c. omega arith) (λ x xs c. omega arith)
    (λ x xs d h. omega (arith, h)) items p now c
