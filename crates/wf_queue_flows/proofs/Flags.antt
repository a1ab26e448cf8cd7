-- The flags say which queues have frames after a queue has changed; the longest queue is the one of the
-- definition.
use Rattle.std.proofs.Common.{◌≡◌, ℕ, ◌+◌, ◌<◌, true, false, not, eq-eqb, Option, Some, None, drop, take, List, [], ◌∷◌, ◌++◌, length, map, get_or, set, refl, sym, ap, ◌∙◌, inl, inr, arith, length-append, length-set}
use Rattle.std.specs.Prelude.{◌==◌, IfSome}
use Rattle.std.proofs.Math.Path.{fun_ext}
use Rattle.std.proofs.lemmas.List.{get_or-map, get_or_past, length-map, map-set, set-get_or, get_or-set_same, get_or_read, append-nil}
use Rattle.std.proofs.lemmas.List.Sums.{sum_by-cons}
use Rattle.std.proofs.lemmas.Bool.{cases_lt, lt-ltb, ne_eqb}
use Rattle.wf_frame.specs.Frames.{FrameValue}
use Rattle.wf_frame.specs.declared.classes.Cause.TheVariants.{Overlimit}
use Rattle.wf_frame.specs.declared.classes.Fate.TheVariants.{Dropped}
use Rattle.wf_def_codel.specs.Codel.{octets}
use Rattle.wf_rotation.specs.Rotas.{is_ready}
use Rattle.wf_queue_flows.specs.Backlog.{BacklogValue, frames_at, queue_octets, is_some_frame, flags, item_of, frame_with_fate, after_head_drop, IsLongest}
use Rattle.wf_queue_flows.proofs.LongestLemmas.{longest_found}
use Rattle.wf_queue_flows.specs.Flows.{backlog_has_frames, as_queue, longest_queue}

-- an empty queue has no head to drop
pub nothing_dropped : (b : BacklogValue) (q : ℕ) → frames_at b q ≡ [] → after_head_drop b q ≡ b
nothing_dropped b q empty =
    ap (λ (xs : List FrameValue). let w : BacklogValue =
    record b {
      queues = set b.queues q (drop 1 xs);
      finished =
          b.finished ++ map (frame_with_fate (Dropped Overlimit)) (take 1 xs);
    } in w) empty
    ∙ ap (λ (all : List (List FrameValue)). let w : BacklogValue =
    record b { queues = all; finished = b.finished ++ [] } in w)
    (ap (set b.queues q) (sym empty) ∙ set-get_or b.queues q [])
    ∙ ap (λ (fs : List FrameValue). let w : BacklogValue = record b { finished = fs } in w)
    (append-nil b.finished)

pub flags_set : (all : List (List FrameValue)) (q : ℕ) (xs : List FrameValue) →
    map is_some_frame (set all q xs) ≡ set (map is_some_frame all) q (is_some_frame xs)
flags_set all q xs = map-set is_some_frame all q xs

pub flag_pushed : (xs : List FrameValue) (f : FrameValue) → is_some_frame (xs ++ f ∷ []) ≡ true
flag_pushed xs f = lt-ltb 0 (length (xs ++ f ∷ [])) (omega (arith, length-append xs (f ∷ [])))

pub flag_counted : (n : ℕ) (xs : List FrameValue) → n ≡ length xs → not (n == 0) ≡ is_some_frame xs
flag_counted n [] e = rw (eq-eqb n 0 e) refl
flag_counted n (f ∷ fs) e = rw (ne_eqb n 0 (λ z. omega arith), lt-ltb 0 (length (f ∷ fs)) (omega arith)) refl

-- queue q keeps the frames `now`, and n of them are counted
pub flag_left : (all : List (List FrameValue)) (q n : ℕ) (now seen : List FrameValue) → q < length all →
    seen ≡ get_or (set all q now) q seen → n ≡ length seen → not (n == 0) ≡ is_some_frame now
flag_left all q n now seen here read count = flag_counted n now (count ∙ ap length
    (get_or_read (set all q now) q seen (omega (arith, here, length-set all q now)) read []
    ∙ get_or-set_same all q now [] here))

-- the frames of the queue that was changed
pub changed_at : (b after : BacklogValue) (q : ℕ) (xs : List FrameValue) → q < length b.queues →
    after.queues ≡ set b.queues q xs → frames_at after q ≡ xs
changed_at b after q xs low changed = ap (λ (all : List (List FrameValue)). get_or all q []) changed
    ∙ get_or-set_same b.queues q xs [] low

flag_at : (b : BacklogValue) (q : ℕ) → is_ready (flags b) q ≡ backlog_has_frames b q
flag_at b q = elim (cases_lt q (length b.queues)) [
  | inl low ↦ get_or-map is_some_frame b.queues q [] false low
  | inr past ↦ get_or_past (flags b) q false (omega (arith, length-map b.queues is_some_frame))
      ∙ sym (ap is_some_frame (get_or_past b.queues q [] past))
]

-- the flags say which queues have frames
pub flags_tell : (b : BacklogValue) → is_ready (flags b) ≡ backlog_has_frames b
flags_tell b = fun_ext (flag_at b)

octets_same : (frames : List FrameValue) → octets (map item_of frames) ≡ queue_octets frames
octets_same [] = refl
octets_same (f ∷ fs) = sum_by-cons (λ x. x.len) (item_of f) (map item_of fs)
    ∙ ap (λ (n : ℕ). length f.body + n) (octets_same fs) ∙ sym (sum_by-cons (λ g. length g.body) f fs)

octets_each : (all : List (List FrameValue)) →
    map queue_octets all ≡ map (λ x. octets x.items) (map as_queue all)
octets_each [] = refl
octets_each (xs ∷ all) = ap (λ (n : ℕ). n ∷ map queue_octets all) (sym (octets_same xs))
    ∙ ap (λ (ns : List ℕ). octets (map item_of xs) ∷ ns) (octets_each all)

-- the longest queue of a backlog is the one that the pass over the queues finds
pub longest_is : (b : BacklogValue) (q : ℕ) → IsLongest b q → q ≡ longest_queue b
unfolding longest_queue
longest_is b q l = sym (longest_found b (map as_queue b.queues) q (octets_each b.queues) l)

pub longest_some : (b : BacklogValue) (o : Option ℕ) → IfSome o (IsLongest b) →
    IfSome o (λ q. q ≡ longest_queue b)
longest_some b None l = l
longest_some b (Some q) l = longest_is b q l
