-- The number of frames that CoDel drops, and the queue that it leaves, as in the definition.
use Rattle.std.proofs.Common.{◌≡◌, ℕ, zero, suc, ◌+◌, ◌-◌, ◌<◌, ◌≤◌, min, Bool, true, false, List, [], ◌∷◌, ◌++◌, Option, Some, None, length, map, set, take, drop, sum_by, if◌then◌else◌, refl, ap, sym, ◌∙◌, arith, length-append}
use Rattle.std.specs.Prelude.{slice_get, ◌↔◌, IsNone, MatchOption}
use Rattle.std.proofs.lemmas.List.{length-take-le, set-set, set-get_or, length-map, length-take, length-drop}
use Rattle.std.proofs.lemmas.Option.{slice_get_within}
use Rattle.std.proofs.lemmas.List.Sums.{sum_by-set}
use Rattle.wf_frame.specs.Frames.{FrameValue}
use Rattle.wf_frame.specs.declared.classes.Fate.TheVariants.{Dropped}
use Rattle.wf_frame.specs.declared.classes.Cause.TheVariants.{Codel as By_codel}
use Rattle.wf_def_codel.specs.Codel.{Item, Params, Codel, least, look_at, drops, drops_dropping, drops_plain, state_after, dequeue, ends_drops}
use Rattle.wf_queue_flows.specs.Backlog.{BacklogValue, frames_at, codel_at, in_queues, held_in_backlog, item_of, frame_with_fate, with_frames, dequeue_at, drops_at, given_at, backlog_after_take}
use Rattle.wf_queue_flows.specs.OneQueue.{elsewhere}

least-le : (test : ℕ → Bool) (n : ℕ) → least test n ≤ n
least-le test zero = omega arith
least-le test (suc n) = elim (test 0) as (λ b. (if b then 0 else suc (least (λ i. test (suc i)) n))
    ≤ suc n) [ true ↦ omega arith | false ↦ omega (arith, least-le (λ i. test (suc i)) n) ]

dropping-le : (p : Params) (now : ℕ) (c : Codel) (due : ℕ) (items : List Item) →
    drops_dropping p now c due items ≤ length items
unfolding drops_dropping
dropping-le p now c due items = least-le (ends_drops p now c due items) (length items)

plain-le : (p : Params) (now : ℕ) (c : Codel) (items : List Item) → drops_plain p now c items ≤ length items
unfolding drops_plain
plain-le p now c [] = omega arith
plain-le p now c (x ∷ rest) = elim (look_at p now c.first_above (x ∷ rest)).ok as
    (λ b. (if b then 1 else 0) ≤ length (x ∷ rest)) [ true ↦ omega arith | false ↦ omega arith ]

drops-le : (p : Params) (now : ℕ) (c : Codel) (items : List Item) → drops p now c items ≤ length items
unfolding drops
drops-le p now c items = elim c.dropping as (λ b.
    (if b then drops_dropping p now c c.drop_next items else drops_plain p now c items)
    ≤ length items) [ true ↦ dropping-le p now c c.drop_next items | false ↦ plain-le p now c items ]

length-dropped : (p : Params) (now : ℕ) (c : Codel) (items : List Item) →
    length (dequeue p now c items).dropped ≡ drops p now c items
unfolding dequeue
length-dropped p now c items = length-take-le (drops p now c items) items (drops-le p now c items)

state-dequeued : (p : Params) (now : ℕ) (c : Codel) (items : List Item) →
    (dequeue p now c items).state ≡ state_after p now c items
unfolding dequeue
state-dequeued p now c items = refl

-- the backlog after a change of one queue
pub same_elsewhere : (v v2 : BacklogValue) (q : ℕ) (frames : List FrameValue) → v2 ≡ with_frames v q frames →
    elsewhere v2 q ≡ elsewhere v q
same_elsewhere v v2 q frames changed =
    let without : List (List FrameValue) → BacklogValue =
    λ ls. record v { queues = ls; finished = [] } in
    ap (λ b. elsewhere b q) changed ∙ ap without (set-set v.queues q frames [])

-- by the closed form's number of drops and state, where c is the queue's state
module _ (p : Params) (now : ℕ) (v : BacklogValue) (q : ℕ) (c : Codel) (same : c ≡ codel_at v q) where
  drops-is : drops p now c (map item_of (frames_at v q)) ≡ drops_at p now v q
  drops-is =
      ap (λ (s : Codel). drops p now s (map item_of (frames_at v q))) same
      ∙ sym (length-dropped p now (codel_at v q) (map item_of (frames_at v q)))

  state-is : state_after p now c (map item_of (frames_at v q)) ≡ (dequeue_at p now v q).state
  state-is =
      ap (λ (s : Codel). state_after p now s (map item_of (frames_at v q))) same
      ∙ sym (state-dequeued p now (codel_at v q) (map item_of (frames_at v q)))

  pub given-is : slice_get (frames_at v q) (drops p now c (map item_of (frames_at v q))) ≡ given_at p now v q
  given-is = ap (λ (n : ℕ). slice_get (frames_at v q) n) drops-is

  -- the queue after the dequeue, and its new state
  pub taken-is : (v2 : BacklogValue) (q2 : ℕ) (c2 : Codel) → q2 ≡ q → elsewhere v2 q2 ≡ elsewhere v q →
      frames_at v2 q2 ≡ drop (suc (drops p now c (map item_of (frames_at v q)))) (frames_at v q)
      → v2.finished ≡ v.finished ++ map (frame_with_fate (Dropped By_codel))
      (take (drops p now c (map item_of (frames_at v q))) (frames_at v q)) →
      c2 ≡ state_after p now c (map item_of (frames_at v q))
      → record v2 { codels = set v2.codels q c2 } ≡ backlog_after_take p now v q
  taken-is v2 q2 c2 here others rest thrown state =
      λ i. record {
        room = room i;
        queues = (queues ∙ ap (λ (n : ℕ). set v.queues q (drop (suc n) (frames_at v q))) drops-is) i;
        codels = set (codels i) q ((state ∙ state-is) i);
        finished = (thrown ∙ ap (λ (n : ℕ). v.finished ++ map (frame_with_fate (Dropped By_codel))
            (take n (frames_at v q))) drops-is) i;
      }
    where
      left : List FrameValue
      left = drop (suc (drops p now c (map item_of (frames_at v q)))) (frames_at v q)

      room : v2.room ≡ v.room
      room = ap (λ b. b.room) others

      codels : v2.codels ≡ v.codels
      codels = ap (λ b. b.codels) others

      emptied : set v2.queues q2 [] ≡ set v.queues q []
      emptied = ap (λ b. b.queues) others

      changed : v2.queues ≡ set (set v2.queues q2 []) q2 (frames_at v2 q2)
      changed = sym (set-get_or v2.queues q2 []) ∙ sym (set-set v2.queues q2 [] (frames_at v2 q2))

      queues : v2.queues ≡ set v.queues q left
      queues = changed ∙ (λ i. set (emptied i) (here i) (rest i)) ∙ set-set v.queues q [] left

-- the number of frames without the one that leaves
held_after : (p : Params) (now : ℕ) (v : BacklogValue) (q : ℕ) → q < length v.queues →
    held_in_backlog (backlog_after_take p now v q) + (length (frames_at v q) - drops_at p now v q)
    ≡ held_in_backlog v + (length (frames_at v q) - suc (drops_at p now v q))
held_after p now v q here =
    let n : ℕ = drops_at p now v q in
    let frames : List FrameValue = frames_at v q in
    let dropped : FrameValue → FrameValue = frame_with_fate (Dropped By_codel) in
    let queues : sum_by length (set v.queues q (drop (suc n) frames)) + length frames
    ≡ sum_by length v.queues + length (drop (suc n) frames) =
    sum_by-set length v.queues q (drop (suc n) frames) [] here
    in
    let finished : length (v.finished ++ map dropped (take n frames))
    ≡ length v.finished + min n (length frames) =
    length-append v.finished (map dropped (take n frames))
    ∙ ap (λ (k : ℕ). length v.finished + k) (length-map (take n frames) dropped ∙ length-take n frames)
    in omega (arith, queues, finished, length-drop (suc n) frames)

pub held_taken : (p : Params) (now : ℕ) (v v2 : BacklogValue) (q : ℕ) (o : Option FrameValue) →
    q < length v.queues → v2 ≡ backlog_after_take p now v q → o ≡ given_at p now v q →
    (IsNone o ↔ (frames_at v q ≡ []))
    → MatchOption o (held_in_backlog v2 ≡ held_in_backlog v) (λ _. held_in_backlog v2 + 1 ≡ held_in_backlog v)
held_taken p now v v2 q None here taken given none =
    omega (arith, ap held_in_backlog taken, held_after p now v q here, ap length (none.0 refl))
held_taken p now v v2 q (Some f) here taken given none =
    omega (
      arith,
      ap held_in_backlog taken,
      held_after p now v q here,
      slice_get_within (frames_at v q) (drops_at p now v q) f (sym given),
    )

-- how many frames are left in the queues
pub fewer_queued : (p : Params) (now : ℕ) (v : BacklogValue) (q : ℕ) (f : FrameValue) →
    q < length v.queues → Some f ≡ given_at p now v q →
    in_queues (backlog_after_take p now v q) + drops_at p now v q + 1 ≡ in_queues v
fewer_queued p now v q f here given =
    let n : ℕ = drops_at p now v q in
    let frames : List FrameValue = frames_at v q in
    omega (
      arith,
      sum_by-set length v.queues q (drop (suc n) frames) [] here,
      length-drop (suc n) frames,
      slice_get_within frames n f (sym given),
    )
