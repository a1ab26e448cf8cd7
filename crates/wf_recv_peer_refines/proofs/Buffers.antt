-- Proves that the reordering buffer represents its receiver after a number or the start of a request arrives,
-- and passes up the same numbers. By cases: in the window, past it, or before it.
use Rattle.std.proofs.Common.{◌≡◌, ℕ, ◌+◌, ◌-◌, ◌%◌, ◌<◌, ◌≤◌, nat_lt, nat_le, Bool, true, false, cond, ◌&&◌, List, [], ◌∷◌, ◌++◌, map, filter, get_or, set, Option, None, Some, is_some, refl, sym, ◌∙◌, ap, ap₂, ◌⊎◌, inl, inr, arith}
use Rattle.std.proofs.lemmas.Bool.{cases_Bool, cases_eq, cases_lt, le-leb, lt-leb, lt-ltb, le-ltb, both_ways}
use Rattle.wf_def_lists.specs.Table.{has, with_member, count_from}
use Rattle.wf_def_agreement.specs.Receiver.{Receiver, with_arrived, with_start, release_start, score_start, released_between}
use Rattle.wf_octets.specs.Distance.{distance}
use Rattle.wf_recv_peer.specs.Buffer.{Buffer, BufferOutcome, items_of, run_of, with_stored_item, items_below, with_start_moved, release_outcome, give_back_outcome, store_outcome, number_outcome_at, number_outcome, request_outcome_at, request_outcome}
use Rattle.wf_recv_peer.proofs.Places.{items_append}
use Rattle.wf_recv_peer_refines.specs.Half.{stored_of, buffer_of, IsOrderly, IsInReach, IsRequestInReach}
use Rattle.wf_recv_peer_refines.proofs.Comparisons.{distance_ahead, distance_back, moved_start}
use Rattle.wf_recv_peer_refines.proofs.Rising.{has_new, has_old, has_other, with_known}
use Rattle.wf_recv_peer_refines.proofs.Starts.{told, told_score, told_release, told_start, none_past, passed_up, not_passed_up, release_score, missing_is, orderly_arrived, orderly_requested}
use Rattle.wf_recv_peer_refines.proofs.Windows.{window_joined, take-window, get-window, set-window, window_turned, stored_there, stored_not, stored_same, items_between, run_window}

-- ---- the cases of a call

arrived_inside : (d item : ℕ) (b : Buffer) → d < b.size → number_outcome_at d item b ≡ store_outcome d item b
arrived_inside d item b h = rw (lt-ltb d b.size h)

arrived_behind : (d item : ℕ) (b : Buffer) → b.size ≤ d → 2047 < d →
    number_outcome_at d item b ≡ give_back_outcome item b
arrived_behind d item b h k = rw (le-ltb d b.size h, lt-leb d 2047 k)

stored_again : (d item : ℕ) (b : Buffer) → is_some (get_or b.places d None) ≡ true →
    store_outcome d item b ≡ give_back_outcome item b
stored_again d item b h = rw h

stored_new : (d item : ℕ) (b : Buffer) → is_some (get_or b.places d None) ≡ false →
    store_outcome d item b ≡ release_outcome [] (with_stored_item d item b)
stored_new d item b h = rw h

asked_ahead : (d : ℕ) (b : Buffer) → 1 ≤ d → d ≤ 2047 →
    request_outcome_at d b ≡ release_outcome (items_below d b) (with_start_moved d b)
asked_ahead d b h k = rw (le-leb 1 d h, le-leb d 2047 k)

abbrev unchanged : Buffer → BufferOutcome
unchanged b = record { up = []; back = None; after = b }

asked_here : (b : Buffer) → request_outcome_at 0 b ≡ unchanged b
asked_here b = refl

asked_behind : (d : ℕ) (b : Buffer) → 1 ≤ d → 2047 < d → request_outcome_at d b ≡ unchanged b
asked_behind d b h k = rw (le-leb 1 d h, lt-leb d 2047 k)

-- ---- the buffer of a window from b on, with these numbers arrived

abbrev pub buffer_at : ℕ → (ℕ → ℕ) → ℕ → ℕ → List ℕ → Buffer
buffer_at capacity ids w b xs = record {
  capacity = capacity;
  start = b % 4096;
  size = w;
  places =
      map (stored_of ids xs) (count_from b w);
}

-- no number past the window has arrived
abbrev IsClear : ℕ → ℕ → List ℕ → Type 0
IsClear w b xs = (k : ℕ) → b + w ≤ k → has xs k ≡ false

moved : (capacity : ℕ) (ids : ℕ → ℕ) (w b m d : ℕ) (xs : List ℕ) → d ≤ w → b + d ≡ m → IsClear w b xs →
    with_start_moved d (buffer_at capacity ids w b xs) ≡ buffer_at capacity ids w m xs
moved capacity ids w b m d xs h e clear =
    ap₂ (λ (s : ℕ) (ps : List (Option ℕ)). record { capacity = capacity; start = s; size = w; places = ps })
    (moved_start b d ∙ ap (λ (k : ℕ). k % 4096) e)
    (window_turned (stored_of ids xs) b d w h (λ k l. stored_not ids xs k (clear k l))
    ∙ ap (λ (k : ℕ). map (stored_of ids xs) (count_from k w)) e)

-- a release passes up `up`, and then all from b on to the next missing number
release : (capacity : ℕ) (ids : ℕ → ℕ) (w b m : ℕ) (xs up : List ℕ) → b ≤ m → m ≤ b + w → IsClear w b xs →
    ((k : ℕ) → b ≤ k → k < m → has xs k ≡ true) → has xs m ≡ false →
    release_outcome up (buffer_at capacity ids w b xs)
    ≡ record {
      up = up ++ items_of (map (stored_of ids xs) (count_from b (m - b)));
      back = None;
      after =
          buffer_at capacity ids w m xs;
    }
release capacity ids w b m xs up low high clear below out =
    ap (λ (c : ℕ). record {
      up = up ++ items_below c (buffer_at capacity ids w b xs);
      back = None;
      after =
          with_start_moved c (buffer_at capacity ids w b xs);
    }) run
    ∙ ap₂ (λ (is : List ℕ) (a : Buffer). record { up = up ++ is; back = None; after = a })
    (ap items_of (take-window (stored_of ids xs) b (m - b) w (omega arith)))
    (moved capacity ids w b m (m - b) xs (omega arith) (omega arith) clear)
  where
    run : run_of (map (stored_of ids xs) (count_from b w)) ≡ m - b
    run = run_window ids xs b w (m - b) (omega arith) (λ k p q. below k p (omega arith))
        (ap (has xs) (omega arith) ∙ out)

-- no number is in an empty range
none_between : (b : ℕ) (xs : List ℕ) → filter (λ k. nat_le b k && nat_lt k b) xs ≡ []
none_between b [] = refl
none_between b (x ∷ xs) = step (nat_le b x && nat_lt x b) (outside (cases_lt x b)) (none_between b xs)
  where
    outside : (x < b) ⊎ (b ≤ x) → (nat_le b x && nat_lt x b) ≡ false
    outside (inl below) = ap (λ (t : Bool). t && nat_lt x b) (lt-leb b x below)
    outside (inr at) = ap₂ (λ (s t : Bool). s && t) (le-leb b x at) (le-ltb x b at)

    step : (t : Bool) → t ≡ false → filter (λ k. nat_le b k && nat_lt k b) xs ≡ [] →
        cond t (x ∷ filter (λ k. nat_le b k && nat_lt k b) xs) (filter (λ k. nat_le b k && nat_lt k b) xs)
        ≡ []
    step true e h = absurd (both_ways true e refl)
    step false e h = h

-- ---- a number arrives

-- the returned item: the id, if the number had arrived before
abbrev pub back_of : (ℕ → ℕ) → Receiver → ℕ → Option ℕ
back_of ids r n = stored_of ids r.arrived n

abbrev pub outcome_of : ℕ → (ℕ → ℕ) → Receiver → Option ℕ → Receiver → BufferOutcome
outcome_of capacity ids r back after = record {
  up = map ids (released_between r after);
  back = back;
  after =
      buffer_of capacity ids after;
}

-- if it had arrived before, nothing changes
again : (capacity : ℕ) (ids : ℕ → ℕ) (r : Receiver) (n : ℕ) → IsOrderly r → has r.arrived n ≡ true →
    give_back_outcome (ids n) (buffer_of capacity ids r)
    ≡ outcome_of capacity ids r (back_of ids r n) (with_arrived n r)
again capacity ids r n o h =
    let same : with_member n r.arrived ≡ r.arrived =
    with_known (score_start r + r.size) n r.arrived o.rising h in
    ap₂ (λ (up : List ℕ) (back : Option ℕ). record { up = up; back = back; after = buffer_of capacity ids r })
    (sym (ap (map ids) (none_between (release_start r) r.arrived))) (sym (stored_there ids r.arrived n h))
    ∙ ap (λ (xs : List ℕ). outcome_of capacity ids r (back_of ids r n) (record r { arrived = xs })) (sym same)

new_number : (capacity : ℕ) (ids : ℕ → ℕ) (r : Receiver) (n d : ℕ) → IsOrderly r → IsInReach r n →
    has r.arrived n ≡ false → release_start r + d ≡ n →
    d < r.size →
    release_outcome [] (with_stored_item d (ids n) (buffer_of capacity ids r))
    ≡ outcome_of capacity ids r None (with_arrived n r)
new_number capacity ids r n d o reach h e inside =
    ap (λ (ps : List (Option ℕ)). release_outcome [] (record (buffer_of capacity ids r) { places = ps }))
    places
    ∙ release capacity ids r.size b m xs [] grows high clear below out
    ∙ ap (λ (is : List ℕ). record { up = is; back = None; after = buffer_of capacity ids (with_arrived n r) })
    (items_between ids (score_start (with_arrived n r) + r.size) b (m - b) m xs more.rising
    (omega (arith, grows)))
  where
    b : ℕ
    b = release_start r

    xs : List ℕ
    xs = with_member n r.arrived

    m : ℕ
    m = release_start (with_arrived n r)

    more : IsOrderly (with_arrived n r)
    more = orderly_arrived r n o reach

    places : set (map (stored_of ids r.arrived) (count_from b r.size)) d (Some (ids n))
        ≡ map (stored_of ids xs) (count_from b r.size)
    places = set-window (stored_of ids r.arrived) (stored_of ids xs) b r.size d n (Some (ids n)) inside e
        (stored_there ids xs n (has_new n r.arrived))
        (λ j other. stored_same ids xs r.arrived j (has_other n r.arrived j other))

    clear : IsClear r.size b xs
    clear k l = has_other n r.arrived k (λ s. omega arith) ∙ none_past r o k l

    out : has xs m ≡ false
    out = not_passed_up (with_arrived n r) more

    grows : b ≤ m
    grows = elim (cases_lt m b) [
      | inl less ↦ absurd (both_ways (has xs m) out
          (has_old n r.arrived m (passed_up r m (told_release (with_arrived n r)) less)))
      | inr at ↦ at
    ]

    high : m ≤ b + r.size
    high = elim (cases_lt (b + r.size) m) [
      | inl past ↦ absurd (both_ways (has xs (b + r.size)) (clear (b + r.size) (omega arith))
          (passed_up (with_arrived n r) (b + r.size) (omega (arith, told_release r)) past))
      | inr within ↦ within
    ]

    below : (k : ℕ) → b ≤ k → k < m → has xs k ≡ true
    below k p q = passed_up (with_arrived n r) k (omega (arith, told_release r)) q

pub buffer_takes : (capacity : ℕ) (ids : ℕ → ℕ) (r : Receiver) (n : ℕ) → IsOrderly r → IsInReach r n →
    number_outcome (n % 4096) (ids n) (buffer_of capacity ids r)
    ≡ outcome_of capacity ids r (back_of ids r n) (with_arrived n r)
buffer_takes capacity ids r n o reach = elim (cases_lt n b) [
  | inl behind ↦
      let far : 2047 < d = distance_back n b behind (omega (arith, release_score r o, reach.score, o.most)) in
      arrived_behind d (ids n) (buffer_of capacity ids r) (omega (arith, far, o.most)) far
      ∙ again capacity ids r n o (passed_up r n (omega (arith, told_score r, reach.score)) behind)
  | inr at ↦
      let ahead : d ≡ n - b = distance_ahead n b at (omega (arith, reach.release, o.most)) in
      let inside : d < r.size = omega (arith, ahead, reach.release, o.least) in
      let place : b + d ≡ n = omega (arith, ahead, at) in
      let here : get_or (map (stored_of ids r.arrived) (count_from b r.size)) d None
      ≡ stored_of ids r.arrived n = get-window (stored_of ids r.arrived) b r.size d n inside place in
      arrived_inside d (ids n) (buffer_of capacity ids r) inside
      ∙ elim (cases_Bool (has r.arrived n)) [
        | inl known ↦
            stored_again d (ids n) (buffer_of capacity ids r)
            (ap is_some (here ∙ stored_there ids r.arrived n known))
            ∙ again capacity ids r n o known
        | inr new ↦
            stored_new d (ids n) (buffer_of capacity ids r)
            (ap is_some (here ∙ stored_not ids r.arrived n new))
            ∙ new_number capacity ids r n d o reach new place inside
            ∙ ap (λ (back : Option ℕ). outcome_of capacity ids r back (with_arrived n r))
            (sym (stored_not ids r.arrived n new))
      ]
]
  where
    b : ℕ
    b = release_start r

    d : ℕ
    d = distance (n % 4096) (b % 4096)

-- ---- a request start arrives

-- a start at or below the next number to be passed up changes nothing
asked_low : (capacity : ℕ) (ids : ℕ → ℕ) (r : Receiver) (f : ℕ) → IsOrderly r → f ≤ release_start r →
    unchanged (buffer_of capacity ids r) ≡ outcome_of capacity ids r None (with_start f r)
asked_low capacity ids r f o low =
    ap (λ (up : List ℕ). record { up = up; back = None; after = buffer_of capacity ids r })
    (sym (ap (map ids) (none_between b r.arrived)))
    ∙ ap (λ (m : ℕ). record {
      up = map ids (filter (λ k. nat_le b k && nat_lt k m) r.arrived);
      back = None;
      after = buffer_at capacity ids r.size m r.arrived;
    }) (sym stays)
  where
    b : ℕ
    b = release_start r

    stays : release_start (with_start f r) ≡ b
    stays =
        missing_is 0 (score_start r + r.size) (told (with_start f r)) b r.arrived o.rising
        (omega (arith, told_start r f, told_release r, low))
        (λ k p q. passed_up r k (omega (arith, told_start r f)) q) (not_passed_up r o)

asked_high : (capacity : ℕ) (ids : ℕ → ℕ) (r : Receiver) (f d : ℕ) → IsOrderly r → release_start r + d ≡ f →
    d ≤ r.size →
    release_outcome (items_below d (buffer_of capacity ids r)) (with_start_moved d (buffer_of capacity ids r))
    ≡ outcome_of capacity ids r None (with_start f r)
asked_high capacity ids r f d o e within =
    ap₂ (λ (is : List ℕ) (a : Buffer). release_outcome is a) (ap items_of (take-window p b d r.size within))
    (moved capacity ids r.size b f d r.arrived within e (none_past r o))
    ∙ release capacity ids r.size f m r.arrived (items_of (map p (count_from b d))) low high clear below
    (not_passed_up (with_start f r) (orderly_requested r f o))
    ∙ ap (λ (is : List ℕ). record { up = is; back = None; after = buffer_of capacity ids (with_start f r) })
    items
  where
    b : ℕ
    b = release_start r

    m : ℕ
    m = release_start (with_start f r)

    p : ℕ → Option ℕ
    p = stored_of ids r.arrived

    told_is : told (with_start f r) ≡ f
    told_is = omega (arith, told_start r f, told_release r, e)

    low : f ≤ m
    low = omega (arith, told_is, told_release (with_start f r))

    clear : IsClear r.size f r.arrived
    clear k l = none_past r o k (omega (arith, l, e))

    high : m ≤ f + r.size
    high = elim (cases_lt (f + r.size) m) [
      | inl past ↦ absurd (both_ways (has r.arrived (f + r.size)) (clear (f + r.size) (omega arith))
          (passed_up (with_start f r) (f + r.size) (omega (arith, told_is)) past))
      | inr most ↦ most
    ]

    below : (k : ℕ) → f ≤ k → k < m → has r.arrived k ≡ true
    below k l h = passed_up (with_start f r) k (omega (arith, told_is)) h

    items : items_of (map p (count_from b d)) ++ items_of (map p (count_from f (m - f)))
        ≡ map ids (filter (λ k. nat_le b k && nat_lt k m) r.arrived)
    items =
        ap (λ (k : ℕ). items_of (map p (count_from b d)) ++ items_of (map p (count_from k (m - f)))) (sym e)
        ∙ sym (items_append (map p (count_from b d)) (map p (count_from (b + d) (m - f))))
        ∙ ap items_of (window_joined p b d (m - f) (m - b) (omega (arith, low, e)))
        ∙ items_between ids (score_start r + r.size) b (m - b) m r.arrived o.rising (omega (arith, low, e))

pub buffer_asked : (capacity : ℕ) (ids : ℕ → ℕ) (r : Receiver) (f : ℕ) → IsOrderly r → IsRequestInReach r f →
    request_outcome (f % 4096) (buffer_of capacity ids r) ≡ outcome_of capacity ids r None (with_start f r)
buffer_asked capacity ids r f o reach = elim (cases_lt f b) [
  | inl behind ↦
      let far : 2047 < d = distance_back f b behind (omega (arith, release_score r o, reach.score, o.most)) in
      asked_behind d (buffer_of capacity ids r) (omega (arith, far)) far
      ∙ asked_low capacity ids r f o (omega (arith, behind))
  | inr at ↦
      let ahead : d ≡ f - b = distance_ahead f b at (omega (arith, reach.release, o.most)) in
      elim (cases_eq f b) [
        | inl here ↦
            let none : d ≡ 0 = omega (arith, ahead, here) in
            ap (λ (k : ℕ). request_outcome_at k (buffer_of capacity ids r)) none
            ∙ asked_here (buffer_of capacity ids r)
            ∙ asked_low capacity ids r f o (omega (arith, here))
        | inr past ↦
            asked_ahead d (buffer_of capacity ids r) (omega (arith, ahead, at, past))
            (omega (arith, ahead, reach.release, o.most))
            ∙ asked_high capacity ids r f d o (omega (arith, ahead, at)) (omega (arith, ahead, reach.release))
      ]
]
  where
    b : ℕ
    b = release_start r

    d : ℕ
    d = distance (f % 4096) (b % 4096)
