-- A backlog keeps its invariant when one queue changes, and its tree of octets finds the longest queue.
use Rattle.std.proofs.Common.{◌≡◌, ℕ, zero, suc, ◌+◌, ◌*◌, ◌-◌, ◌<◌, ◌≤◌, ◌^◌, Bool, true, false, Option, Some, None, List, [], ◌∷◌, ◌++◌, length, map, replicate, set, get_or, sum_by, refl, ap, sym, ◌∙◌, subst, arith, append_assoc, append-nil, length-set, length-append}
use Rattle.std.specs.Prelude.{All, slice_index, ◌↔◌, IfNone, IfSome, IsNone}
use Rattle.std.proofs.lemmas.List.{get_or-map, get_or_read, map-set, set-set, set-get_or, length-replicate, length-map}
use Rattle.std.proofs.lemmas.List.Sums.{sum_by-cons, sum_by-le, sum_by-set, get_or-le-sum_by}
use Rattle.std.proofs.lemmas.List.Folds.{sum_by-replicate}
use Rattle.std.proofs.lemmas.List.Elements.{All-set, All-replicate, All-nil, All-push, All-tail}
use Rattle.wf_queue_parts.specs.Best.{IsBest}
use Rattle.wf_frame.specs.Frames.{FrameValue}
use Rattle.wf_frame.specs.declared.classes.Fate.TheVariants.{Dropped}
use Rattle.wf_frame.specs.declared.classes.Cause.{Cause}
use Rattle.wf_def_lists.specs.Lengths.{greatest_body}
use Rattle.wf_def_codel.specs.Codel.{Codel, new_codel, renewed}
use Rattle.wf_queue_flows.specs.Backlog.{BacklogValue, frames_at, in_queues, held_in_backlog, queue_octets, octets_per_queue, is_some_frame, frame_with_fate, codel_at, with_frames, after_emptying, unchanged, IsLongest, IsBodySized, IsBacklogKept}
use Rattle.wf_queue_flows.proofs.Flags.{flag_pushed}
use Rattle.wf_queue_flows.proofs.Fresh.{no_flags}

-- ---- the octets of one queue

octets-cons : (f : FrameValue) (fs : List FrameValue) →
    queue_octets (f ∷ fs) ≡ length f.body + queue_octets fs
octets-cons f fs = sum_by-cons (λ g. length g.body) f fs

octets-append : (fs : List FrameValue) (f : FrameValue) →
    queue_octets (fs ++ f ∷ []) ≡ queue_octets fs + length f.body
octets-append [] f = omega (arith, octets-cons f [])
octets-append (g ∷ fs) f = omega (arith, octets-cons g fs, octets-cons g (fs ++ f ∷ []), octets-append fs f)

octets_bound : (frames : List FrameValue) → All IsBodySized frames →
    queue_octets frames ≤ length frames * greatest_body
octets_bound frames sized = sum_by-le (λ f. length f.body) greatest_body frames (λ k d h. (sized k d h).1)

octets_none : (frames : List FrameValue) → length frames ≡ 0 → queue_octets frames ≡ 0
octets_none [] none = refl
octets_none (f ∷ fs) none = absurd (omega arith)

-- a queue without octets has no frame
empty_if_light : (frames : List FrameValue) → All IsBodySized frames → queue_octets frames ≡ 0 → frames ≡ []
empty_if_light [] sized light = refl
empty_if_light (f ∷ fs) sized light = absurd (omega
    (arith, (sized 0 f (omega arith)).0, octets-cons f fs, light))

total_none : (all : List (List FrameValue)) → ((q : ℕ) → q < length all → get_or all q [] ≡ []) →
    sum_by length all ≡ 0
total_none [] empty = refl
total_none (l ∷ ls) empty =
    omega (
      arith,
      sum_by-cons length l ls,
      ap length (empty 0 (omega arith)),
      total_none ls (λ q h. empty (suc q) (omega (arith, h))),
    )

-- ---- the invariant of a backlog

light_new : (n : ℕ) → replicate {A = ℕ} n 0 ≡ map queue_octets (replicate n [])
light_new zero = refl
light_new (suc n) = ap (λ (os : List ℕ). 0 ∷ os) (light_new n)

pub kept_new : (v : BacklogValue) (leaves : List ℕ) (ready : List Bool) (n : ℕ) → v.room < 2 ^ 32 →
    v.queues ≡ replicate n [] → length v.codels ≡ n → v.finished ≡ [] →
    leaves ≡ replicate {A = ℕ} n 0 → ready ≡ replicate {A = Bool} n false →
    IsBacklogKept v leaves ready 0
kept_new v leaves ready n small empty states none_finished leaves_are ready_are = record {
  states = omega (arith, states, ap length empty, length-replicate {A = List FrameValue} n []);
  leaves_are = leaves_are ∙ light_new n ∙ sym (ap (map queue_octets) empty);
  ready_are = ready_are ∙ no_flags n ∙ sym (ap (map is_some_frame) empty);
  queued_is = sym none;
  fits = omega (arith, none, ap length none_finished);
  small = small;
  sized = subst (All (All IsBodySized)) (sym empty)
      (All-replicate (All IsBodySized) n [] (All-nil IsBodySized));
}
  where
    none : sum_by length v.queues ≡ 0
    none = omega (
      arith,
      ap (λ (all : List (List FrameValue)). sum_by length all) empty,
      sum_by-replicate {X = List FrameValue} length n [],
    )

-- the frames of one queue change
pub kept_set : (v : BacklogValue) (leaves leaves2 : List ℕ) (ready : List Bool)
    (queued n m q : ℕ) (flag : Bool) (xs : List FrameValue) → q < length v.queues →
    IsBacklogKept v leaves ready queued → leaves2 ≡ set leaves q m → m ≡ queue_octets xs →
    flag ≡ is_some_frame xs → n + length (frames_at v q) ≡ queued + length xs →
    n + length v.finished ≤ v.room → All IsBodySized xs →
    IsBacklogKept (with_frames v q xs) leaves2 (set ready q flag) n
kept_set v leaves leaves2 ready queued n m q flag xs here kept leaf weight some count fits sized =
    record {
      states = kept.states ∙ sym (length-set v.queues q xs);
      leaves_are = leaf ∙ ap (λ (os : List ℕ). set os q m) kept.leaves_are ∙ each;
      ready_are = ap (λ (bs : List Bool). set bs q flag) kept.ready_are
          ∙ ap (set (map is_some_frame v.queues) q) some ∙ sym (map-set is_some_frame v.queues q xs);
      queued_is = omega (arith, total, count, kept.queued_is);
      fits = omega (arith, total, count, kept.queued_is, fits);
      small = kept.small;
      sized = All-set (All IsBodySized) v.queues q xs sized kept.sized;
    }
  where
    each : set (octets_per_queue v) q m ≡ map queue_octets (set v.queues q xs)
    each = ap (set (octets_per_queue v) q) weight ∙ sym (map-set queue_octets v.queues q xs)

    total : sum_by length (set v.queues q xs) + length (frames_at v q) ≡ sum_by length v.queues + length xs
    total = sum_by-set length v.queues q xs [] here

-- ---- the queue that is longest

module _ (v : BacklogValue) (leaves : List ℕ) (ready : List Bool) (queued : ℕ)
    (kept : IsBacklogKept v leaves ready queued) where
  pub frames_sized : (q : ℕ) → q < length v.queues → All IsBodySized (frames_at v q)
  frames_sized q here = kept.sized q [] here

  pub octets_at : (q : ℕ) → q < length v.queues → slice_index leaves q ≡ queue_octets (frames_at v q)
  octets_at q here = ap (λ (os : List ℕ). slice_index os q) kept.leaves_are
      ∙ get_or-map queue_octets v.queues q [] 0 here

  -- a queue's frames are some of all, and its octets are few
  pub frames_within : (q : ℕ) → q < length v.queues → length (frames_at v q) ≤ queued
  frames_within q here = omega (arith, kept.queued_is, get_or-le-sum_by length v.queues q [] here)

  octets_few : (q : ℕ) → q < length v.queues → queue_octets (frames_at v q) + 2304 < 2 ^ 44
  octets_few q here = omega (
    arith,
    octets_bound (frames_at v q) (frames_sized q here),
    frames_within q here,
    kept.queued_is,
    kept.fits,
    kept.small,
  )

  octets_read : (q x : ℕ) → q < length v.queues → x ≡ slice_index leaves q → x ≡ queue_octets (frames_at v q)
  octets_read q x here is = is ∙ octets_at q here

  pub few_read : (q x : ℕ) → q < length v.queues → x ≡ slice_index leaves q → x < 2 ^ 44
  few_read q x here is = omega (arith, octets_read q x here is, octets_few q here)

  -- one queue more octets fit
  pub push_fits : (q x len : ℕ) → q < length v.queues → x ≡ slice_index leaves q → len ≤ greatest_body →
      x + len < 2 ^ 64
  push_fits q x len here is few = omega (arith, octets_read q x here is, octets_few q here, few)

  pub kept_pushed : (q x len : ℕ) (frames now : List FrameValue) (f : FrameValue) (leaves2 : List ℕ)
      (flag : Bool) →
      q < length v.queues → x ≡ slice_index leaves q → frames ≡ get_or v.queues q frames →
      now ≡ frames ++ f ∷ [] → flag ≡ true → len ≡ length f.body → 0 < len → len ≤ greatest_body →
      leaves2 ≡ set leaves q (x + len) → held_in_backlog v < v.room →
      IsBacklogKept (with_frames v q now) leaves2 (set ready q flag) (queued + 1)
  kept_pushed q x len frames now f leaves2 flag here is read longer flag_is len_is some few leaf room =
      kept_set v leaves leaves2 ready queued (queued + 1) (x + len) q flag now here kept leaf
      (omega (
        arith,
        octets_read q x here is,
        len_is,
        ap queue_octets more,
        octets-append (frames_at v q) f,
      ))
      (flag_is ∙ sym (ap is_some_frame more ∙ flag_pushed (frames_at v q) f))
      (omega (arith, ap length more, length-append (frames_at v q) (f ∷ [])))
      (omega (arith, room, kept.queued_is))
      (subst (All IsBodySized) (sym more) (All-push IsBodySized (frames_at v q) f (frames_sized q here)
      (omega (arith, some, len_is), omega (arith, few, len_is))))
    where
      more : now ≡ frames_at v q ++ f ∷ []
      more = longer ∙ ap (λ (xs : List FrameValue). xs ++ f ∷ []) (get_or_read v.queues q frames here read [])

  pub kept_popped : (q x len : ℕ) (frames now : List FrameValue) (f : FrameValue) (leaves2 : List ℕ)
      (flag : Bool) →
      q < length v.queues → x ≡ slice_index leaves q → frames ≡ get_or v.queues q frames → frames ≡ f ∷ now →
      flag ≡ is_some_frame now → len ≡ length f.body → leaves2 ≡ set leaves q (x - len) →
      IsBacklogKept (with_frames v q now) leaves2 (set ready q flag) (queued - 1)
  kept_popped q x len frames now f leaves2 flag here is read first flag_is len_is leaf =
      kept_set v leaves leaves2 ready queued (queued - 1) (x - len) q flag now here kept leaf
      (omega (
        arith,
        octets_read q x here is,
        len_is,
        ap queue_octets all,
        octets-cons f now,
      ))
      flag_is
      (omega (arith, ap length all, frames_within q here))
      (omega (arith, kept.fits, kept.queued_is))
      (All-tail IsBodySized f now (subst (All IsBodySized) all (frames_sized q here)))
    where
      all : frames_at v q ≡ f ∷ now
      all = sym (get_or_read v.queues q frames here read []) ∙ first

  long : length leaves ≡ length v.queues
  long = ap length kept.leaves_are ∙ length-map v.queues queue_octets

  pub within_leaves : (q : ℕ) → q < length v.queues → q < length leaves
  within_leaves q here = omega (arith, here, long)

  greatest : (q : ℕ) → IsBest leaves q → IsLongest v q
  greatest q best =
      let below : q < length v.queues = omega (arith, best.within, long) in
      record {
        within = below;
        some = omega (arith, best.some, octets_at q below);
        most = λ other h. omega (arith, best.greatest other, octets_at other h, octets_at q below);
        least = λ other h. omega (
          arith,
          best.least other h,
          octets_at other (omega (arith, h, below)),
          octets_at q below,
        );
      }

  pub best_greatest : (o : Option ℕ) → IfSome o (IsBest leaves) → IfSome o (IsLongest v)
  best_greatest None best = best
  best_greatest (Some q) best = greatest q best

  all_empty : ((k : ℕ) → slice_index leaves k ≡ 0) → (q : ℕ) → q < length v.queues → frames_at v q ≡ []
  all_empty light q here =
      empty_if_light (frames_at v q) (frames_sized q here) (sym (octets_at q here) ∙ light q)

  pub best_none : (o : Option ℕ) → IfNone o ((k : ℕ) → slice_index leaves k ≡ 0) →
      IfSome o (IsBest leaves) → IsNone o ↔ (in_queues v ≡ 0)
  best_none None light best = (λ h. total_none v.queues (all_empty light), λ zero. refl)
  best_none (Some q) light best =
      let longest : IsLongest v q = greatest q best in (
        λ h. cc,
        λ zero. absurd (omega (
          arith,
          longest.some,
          octets_none (frames_at v q)
              (omega (arith, zero, get_or-le-sum_by length v.queues q [] longest.within)),
        )),
      )

-- ---- all frames of a queue leave, one by one

pub held_popped : (v v1 : BacklogValue) (q : ℕ) (f : FrameValue) → q < length v.queues →
    frames_at v q ≡ f ∷ frames_at v1 q → v1 ≡ with_frames v q (frames_at v1 q) →
    held_in_backlog v1 + 1 ≡ held_in_backlog v
held_popped v v1 q f here first others = omega (
  arith,
  ap held_in_backlog others,
  sum_by-set length v.queues q (frames_at v1 q) [] here,
  ap length first,
)

pub empty_step : (cause : Cause) (v v1 v2 : BacklogValue) (q : ℕ) (f : FrameValue) →
    frames_at v q ≡ f ∷ frames_at v1 q → v1 ≡ with_frames v q (frames_at v1 q)
    → v2 ≡ record v1 { finished = v1.finished ++ frame_with_fate (Dropped cause) f ∷ [] } →
    after_emptying cause unchanged v2 q ≡ after_emptying cause unchanged v q
empty_step cause v v1 v2 q f first others last =
    let settled : FrameValue → FrameValue = frame_with_fate (Dropped cause) in
    let room : v1.room ≡ v.room = ap (λ b. b.room) others in
    let codels : set v1.codels q (codel_at v1 q) ≡ set v.codels q (codel_at v q) =
    ap (λ b. set b.codels q (codel_at b q)) others in
    let queues : set v1.queues q [] ≡ set v.queues q [] =
    ap (λ b. set b.queues q []) others ∙ set-set v.queues q (frames_at v1 q) []
    in
    let finished : (v1.finished ++ settled f ∷ []) ++ map settled (frames_at v1 q) ≡ v.finished
    ++ map settled (frames_at v q) =
    append_assoc v1.finished (settled f ∷ []) (map settled (frames_at v1 q))
    ∙ ap (λ b. b.finished ++ map settled (f ∷ frames_at v1 q)) others
    ∙ ap (λ (frames : List FrameValue). v.finished ++ map settled frames) (sym first)
    in ap (λ b. after_emptying cause unchanged b q) last ∙ (λ i. record {
      room = room i;
      queues = queues i;
      codels = codels i;
      finished = finished i;
    })

-- if no frame is left, nothing changes
pub empty_done : (cause : Cause) (v : BacklogValue) (q : ℕ) → frames_at v q ≡ [] →
    v ≡ after_emptying cause unchanged v q
empty_done cause v q empty =
    let settled : FrameValue → FrameValue = frame_with_fate (Dropped cause) in
    let queues : set v.queues q [] ≡ v.queues =
    ap (λ (frames : List FrameValue). set v.queues q frames) (sym empty) ∙ set-get_or v.queues q []
    in
    let codels : set v.codels q (codel_at v q) ≡ v.codels = set-get_or v.codels q new_codel in
    let finished : v.finished ++ map settled (frames_at v q) ≡ v.finished =
    ap (λ (frames : List FrameValue). v.finished ++ map settled frames) empty ∙ append-nil v.finished
    in sym (λ i. record {
      room = v.room;
      queues = queues i;
      codels = codels i;
      finished = finished i;
    })

-- the CoDel state of a queue that was emptied becomes new, but keeps its number of drops
pub empty_renewed : (cause : Cause) (v v1 : BacklogValue) (q : ℕ) → v1 ≡ after_emptying cause unchanged v q →
    record v1 { codels = set v1.codels q (renewed (codel_at v1 q)) } ≡ after_emptying cause renewed v q
empty_renewed cause v v1 q is =
    let renew : BacklogValue → BacklogValue = λ b.
    record b { codels = set b.codels q (renewed (codel_at b q)) } in
    let emptied : BacklogValue = after_emptying cause unchanged v q in
    let with_states : List Codel → BacklogValue = λ states. record emptied { codels = states } in
    ap renew is
    ∙ ap (λ (states : List Codel). with_states (set states q (renewed (get_or states q new_codel))))
    (set-get_or v.codels q new_codel)
