-- The lists of the TIDs keep their invariant when frames are put in and taken out, and queues are listed and
-- removed.
use Rattle.std.proofs.Common.{◌≡◌, ℕ, ◌+◌, ◌*◌, ◌<◌, ◌≤◌, List, [], ◌∷◌, ◌++◌, length, get_or, set, sym, ap, ◌∙◌, subst, inl, inr, arith, length-set}
use Rattle.std.proofs.lemmas.List.{get_or-set_same, get_or-set_other}
use Rattle.std.proofs.lemmas.Bool.{cases_eq, cases_lt}
use Rattle.wf_frame.specs.Frames.{FrameValue}
use Rattle.wf_def_rotation.specs.Rotation.{Rotation, no_keys, in_order, with_new_key}
use Rattle.wf_def_lists.specs.Lists.{on}
use Rattle.wf_rotation.specs.Lists.{lists_at, on_at}
use Rattle.wf_law_rules.proofs.Lemmas.Counts.{on-nil, on-cons_same, on-cons_other, on-append}
use Rattle.wf_queue_flows.specs.Flows.{frames_waiting}
use Rattle.wf_queue_flows.specs.Kept.{depth, AreListed}
use Rattle.wf_queue_flows.proofs.Waiting.{depth-set_other, waiting-set, waiting_same}

module _ (flows keys : ℕ) (lists : List Rotation) (all : List (List FrameValue)) (counts : List ℕ)
    (ok : AreListed flows keys lists all counts) where
  -- keys without frames leave their lists
  pub still_listed : (after : List Rotation) → length after ≡ length lists →
      ((i q : ℕ) → on_at after i q ≤ on_at lists i q) →
      ((i q : ℕ) → 0 < depth all q → on_at after i q ≡ on_at lists i q) →
      AreListed flows keys after all counts
  still_listed after long less same = record {
    apart = record {
      once = λ i q. omega (arith, less i q, ok.apart.once i q);
      one_list = λ i j q at_i at_j. ok.apart.one_list i j q (omega (arith, less i q))
          (omega (arith, less j q));
      below = λ i q at. ok.apart.below i q (omega (arith, less i q));
    };
    overflow = λ i q at. ok.overflow i q (omega (arith, less i q));
    listed = λ q some.
        let l : (i : ℕ) × (i < length lists) × (0 < on_at lists i q) = ok.listed q some in
        (l.0, omega (arith, l.1), omega (arith, l.2, same l.0 q some));
    counted = λ i low. ok.counted i low ∙ waiting_same all (in_order (lists_at lists i))
        (in_order (lists_at after i)) (λ q some. sym (same i q some));
  }

  -- a listed queue has other frames
  pub frames_changed : (i q n : ℕ) (xs : List FrameValue) → length counts ≡ length lists → i < length counts →
      q < length all → 0 < on_at lists i q → n + depth all q ≡ get_or counts i 0 + length xs →
      AreListed flows keys lists (set all q xs) (set counts i n)
  frames_changed i q n xs sizes low_i low_q here sum = record {
    apart = ok.apart;
    overflow = ok.overflow;
    listed = λ k some. elim (cases_eq k q) [
      | inl e ↦ (i, omega arith, subst (λ (m : ℕ). 0 < on_at lists i m) (sym e) here)
      | inr other ↦ ok.listed k (omega (arith, depth-set_other all q k xs other))
    ];
    counted = λ j low. elim (cases_eq j i) [
      | inl e ↦
          let new : get_or (set counts i n) j 0 ≡ n = ap (λ (m : ℕ). get_or (set counts i n) m 0) e
          ∙ get_or-set_same counts i n 0 low_i in
          let one : on_at lists i q ≡ 1 = omega (arith, ok.apart.once i q) in
          let moved : frames_waiting (set all q xs) (in_order (lists_at lists i)) + 1 * depth all q
          ≡ frames_waiting all (in_order (lists_at lists i)) + 1 * length xs =
          rw one at (waiting-set all q xs (in_order (lists_at lists i)) low_q) in
          let was : get_or counts i 0 ≡ frames_waiting all (in_order (lists_at lists i)) =
          ok.counted i low_i in
          let there : frames_waiting (set all q xs) (in_order (lists_at lists j))
          ≡ frames_waiting (set all q xs) (in_order (lists_at lists i)) =
          ap (λ (m : ℕ). frames_waiting (set all q xs) (in_order (lists_at lists m))) e in
          omega arith
      | inr other ↦
          let none : on_at lists j q ≡ 0 = off j other in
          let moved : frames_waiting (set all q xs) (in_order (lists_at lists j)) + 0 * depth all q
          ≡ frames_waiting all (in_order (lists_at lists j)) + 0 * length xs =
          rw none at (waiting-set all q xs (in_order (lists_at lists j)) low_q) in
          let was : get_or counts j 0 ≡ frames_waiting all (in_order (lists_at lists j)) =
          ok.counted j (omega (arith, length-set counts i n)) in
          omega (arith, get_or-set_other counts i j n 0 other)
    ];
  }
    where
      off : (j : ℕ) → (j ≡ i → ⊥) → on_at lists j q ≡ 0
      off j other = elim (cases_lt 0 (on_at lists j q)) [
        | inl some ↦ absurd (other (ok.apart.one_list j i q some here))
        | inr few ↦ omega arith
      ]

-- a key that comes last on the new list
on-added : (r : Rotation) (q k : ℕ) → on (in_order (with_new_key r q)) k ≡ on (in_order r) k + on (q ∷ []) k
on-added r q k = omega (
  arith,
  on-append r.old (r.new ++ q ∷ []) k,
  on-append r.new (q ∷ []) k,
  on-append r.old r.new k,
)

one_on : (q : ℕ) → on (q ∷ []) q ≡ 1
one_on q = omega (arith, on-cons_same q [], on-nil q)

none_on : (q k : ℕ) → (k ≡ q → ⊥) → on (q ∷ []) k ≡ 0
none_on q k other = omega (arith, on-cons_other q k [] (λ e. other (sym e)), on-nil k)

module _ (flows keys : ℕ) (lists : List Rotation) (all : List (List FrameValue)) (counts : List ℕ)
    (ok : AreListed flows keys lists all counts) (i q : ℕ) (low : i < length lists)
    (unlisted : (j : ℕ) → on_at lists j q ≡ 0) where
  abbrev after : List Rotation
  after = set lists i (with_new_key (lists_at lists i) q)

  on-here : (k : ℕ) → on_at after i k ≡ on_at lists i k + on (q ∷ []) k
  on-here k = ap (λ (r : Rotation). on (in_order r) k)
      (get_or-set_same lists i (with_new_key (lists_at lists i) q) no_keys low)
      ∙ on-added (lists_at lists i) q k

  on-there : (j k : ℕ) → (j ≡ i → ⊥) → on_at after j k ≡ on_at lists j k
  on-there j k other = ap (λ (r : Rotation). on (in_order r) k)
      (get_or-set_other lists i j (with_new_key (lists_at lists i) q) no_keys other)

  on-other : (j k : ℕ) → (k ≡ q → ⊥) → on_at after j k ≡ on_at lists j k
  on-other j k other = elim (cases_eq j i) [
    | inl e ↦ subst (λ (m : ℕ). on_at after m k ≡ on_at lists m k) (sym e)
        (omega (arith, on-here k, none_on q k other))
    | inr elsewhere ↦ on-there j k elsewhere
  ]

  on-self : (j : ℕ) → on_at after j q ≤ 1
  on-self j = elim (cases_eq j i) [
    | inl e ↦ subst (λ (m : ℕ). on_at after m q ≤ 1) (sym e) (omega (arith, on-here q, one_on q, unlisted i))
    | inr elsewhere ↦ omega (arith, on-there j q elsewhere, unlisted j)
  ]

  alone : (j : ℕ) → 0 < on_at after j q → j ≡ i
  alone j at = elim (cases_eq j i) [
    | inl e ↦ e
    | inr elsewhere ↦ absurd (omega (arith, on-there j q elsewhere, unlisted j))
  ]

  split : (k : ℕ) (P : ℕ → Type 0) → P q → ((k ≡ q → ⊥) → P k) → P k
  split k P here there = elim (cases_eq k q) [ inl e ↦ subst P (sym e) here | inr other ↦ there other ]

  -- an unlisted queue without frames is listed
  pub newly_listed : q < keys → (flows ≤ q → q ≡ flows + i) → depth all q ≡ 0 →
      AreListed flows keys after all counts
  newly_listed below own empty = record {
    apart = record {
      once = λ j k. split k (λ (m : ℕ). on_at after j m ≤ 1) (on-self j)
          (λ other. omega (arith, on-other j k other, ok.apart.once j k));
      one_list = λ a b k. split k (λ (m : ℕ). 0 < on_at after a m → 0 < on_at after b m → a ≡ b)
          (λ at_a at_b. alone a at_a ∙ sym (alone b at_b))
          (λ other at_a at_b. ok.apart.one_list a b k (omega (arith, on-other a k other))
          (omega (arith, on-other b k other)));
      below = λ j k. split k (λ (m : ℕ). 0 < on_at after j m → m < keys) (λ at. below)
          (λ other at. ok.apart.below j k (omega (arith, on-other j k other)));
    };
    overflow = λ j k. split k (λ (m : ℕ). 0 < on_at after j m → flows ≤ m → m ≡ flows + j)
        (λ at past. omega (arith, own past, alone j at))
        (λ other at past. ok.overflow j k (omega (arith, on-other j k other)) past);
    listed = λ k some.
        let other : k ≡ q → ⊥ = λ e. omega (arith, ap (depth all) e) in
        let l : (j : ℕ) × (j < length lists) × (0 < on_at lists j k) = ok.listed k some in (
          l.0,
          omega (arith, l.1, length-set lists i (with_new_key (lists_at lists i) q)),
          omega (arith, l.2, on-other l.0 k other),
        );
    counted = λ j within. ok.counted j within ∙ waiting_same all (in_order (lists_at lists j))
        (in_order (lists_at after j)) (λ k some. sym (on-other j k (λ e. omega (arith, ap (depth all) e))));
  }
