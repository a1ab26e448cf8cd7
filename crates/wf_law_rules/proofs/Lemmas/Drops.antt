-- Proves how the closed form of CoDel changes with one frame at the head of the queue: its looks, its drops
-- and its state. Stepped uses these equations.
use Rattle.std.proofs.Common.{◌≡◌, ℕ, zero, suc, ◌≤◌, ◌<◌, ◌∙◌, refl, ap, arith, Bool, true, false, not, ◌||◌, List, [], ◌∷◌, length, drop, if◌then◌else◌}
use Rattle.std.specs.Prelude.{nat_lt}
use Rattle.std.proofs.lemmas.List.{drop_all}
use Rattle.wf_def_codel.specs.Codel.{Item, Params, Codel, Look, look_at, control_law, rise, look, raised_count, next_due, least, ends_drops, drops_dropping, last_due, state_dropping}

-- Look i + 1 of a queue is look i of the queue without its head.
pub look-suc : (p : Params) (now above : ℕ) (x : Item) (rest : List Item) (i : ℕ) →
    look p now above (x ∷ rest) (suc i) ≡ look p now (look_at p now above (x ∷ rest)).first_above rest i
look-suc p now above x rest zero = refl
look-suc p now above x rest (suc i) = ap (λ l. look_at p now l.first_above (drop (suc i) rest))
    (look-suc p now above x rest i)

pub raised-suc : (count i : ℕ) → raised_count count (suc i) ≡ raised_count (rise count) i
raised-suc count zero = refl
raised-suc count (suc i) = omega arith

pub next-suc : (p : Params) (count due i : ℕ) →
    next_due p count due (suc i) ≡ next_due p (rise count) (control_law p due (rise count)) i
next-suc p count due zero = refl
next-suc p count due (suc i) = ap (λ t. control_law p t (raised_count count (suc (suc i))))
    (next-suc p count due i) ∙ ap (λ n. control_law p
    (next_due p (rise count) (control_law p due (rise count)) i) n) (raised-suc count (suc i))

pub least-ext : (f g : ℕ → Bool) → ((i : ℕ) → f i ≡ g i) → (n : ℕ) → least f n ≡ least g n
least-ext f g same zero = refl
least-ext f g same (suc n) = rw (same 0, least-ext (λ i. f (suc i)) (λ i. g (suc i)) (λ i. same (suc i)) n)

-- The state after one drop, which was due at `due`.
abbrev pub dropped_once : Params → ℕ → Codel → ℕ → ℕ → Codel
dropped_once p now c due above = record c {
  first_above = above;
  drop_next = due;
  count = rise c.count;
  dropped = rise c.dropped;
}

-- `seen` is the first look. The equations here distinguish whether it is ok, and whether the drop is due.
module _ (p : Params) (now : ℕ) (c : Codel) (due : ℕ) (x : Item) (rest : List Item) where
  abbrev pub seen : Look
  seen = look_at p now c.first_above (x ∷ rest)

  pub drops-bad : seen.ok ≡ false → drops_dropping p now c due (x ∷ rest) ≡ 0
  unfolding drops_dropping
  drops-bad bad = rw bad refl

  pub drops-early : nat_lt now due ≡ true → drops_dropping p now c due (x ∷ rest) ≡ 0
  unfolding drops_dropping
  drops-early early = elim seen.ok as (λ b. (if not b || nat_lt now due then 0
      else suc (least (λ i. ends_drops p now c due (x ∷ rest) (suc i)) (length rest))) ≡ 0) [
        | true ↦
            rw early refl
        | false ↦ refl
      ]

  pub ends-suc : (i : ℕ) → ends_drops p now c due (x ∷ rest) (suc i)
      ≡ ends_drops p now (dropped_once p now c due seen.first_above) (control_law p due (rise c.count)) rest i
  ends-suc i = rw (look-suc p now c.first_above x rest i, next-suc p c.count due i) refl

  pub drops-more : seen.ok ≡ true → nat_lt now due ≡ false →
      drops_dropping p now c due (x ∷ rest) ≡ suc
      (drops_dropping p now (dropped_once p now c due seen.first_above)
      (control_law p due (rise c.count)) rest)
  unfolding drops_dropping
  drops-more good late = rw (good, late) (ap suc (least-ext _ _ ends-suc (length rest)))

  pub last-suc : (i : ℕ) → last_due p c due (suc i)
      ≡ last_due p (dropped_once p now c due seen.first_above) (control_law p due (rise c.count)) i
  last-suc zero = refl
  last-suc (suc i) = next-suc p c.count due i

  pub state-more : (i : ℕ) → state_dropping p now c due (x ∷ rest) (suc i)
      ≡ state_dropping p now (dropped_once p now c due seen.first_above)
      (control_law p due (rise c.count)) rest i
  unfolding state_dropping
  state-more i = rw (
    look-suc p now c.first_above x rest i,
    next-suc p c.count due i,
    last-suc i,
    raised-suc c.count i,
    raised-suc c.dropped i,
  ) refl

  pub state-bad : seen.ok ≡ false → state_dropping p now c due (x ∷ rest) 0
      ≡ record c { first_above = seen.first_above; dropping = false }
  unfolding state_dropping
  state-bad bad = rw bad refl

  pub state-early : c.dropping ≡ true → seen.ok ≡ true →
      state_dropping p now c due (x ∷ rest) 0 ≡ record c { first_above = seen.first_above; drop_next = due }
  unfolding state_dropping
  state-early on good = rw (good, on) refl

pub state-none : (p : Params) (now : ℕ) (c : Codel) (due : ℕ) →
    state_dropping p now c due [] 0 ≡ record c { first_above = 0; dropping = false }
unfolding state_dropping
state-none p now c due = refl

pub drops-none : (p : Params) (now : ℕ) (c : Codel) (due : ℕ) → drops_dropping p now c due [] ≡ 0
unfolding drops_dropping
drops-none p now c due = refl

pub least-below : (test : ℕ → Bool) (n i : ℕ) → i < least test n → test i ≡ false
least-below test zero i below = absurd (omega arith)
least-below test (suc n) zero below =
    elim (test 0) as (λ b. test 0 ≡ b → 0 < (if b then 0 else suc (least (λ k. test (suc k)) n)) →
    test 0 ≡ false) [
      | true ↦ λ first inside. absurd (omega arith)
      | false ↦ λ first inside. first
    ] refl below
least-below test (suc n) (suc i) below =
    elim (test 0) as (λ b. test 0 ≡ b → suc i < (if b then 0 else suc (least (λ k. test (suc k)) n)) →
    test (suc i) ≡ false) [
      | true ↦ λ first inside. absurd (omega arith)
      | false ↦ λ first inside. least-below (λ k. test (suc k)) n i (omega arith)
    ] refl below

pub least-at : (test : ℕ → Bool) (n : ℕ) → test n ≡ true → test (least test n) ≡ true
least-at test zero passes = passes
least-at test (suc n) passes =
    elim (test 0) as (λ b. test 0 ≡ b → test (if b then 0 else suc (least (λ k. test (suc k)) n)) ≡ true) [
      | true ↦ λ first. first
      | false ↦ λ first. least-at (λ k. test (suc k)) n passes
    ] refl

-- A look past the last frame is not ok.
pub look-past : (p : Params) (now above : ℕ) (items : List Item) (i : ℕ) → length items ≤ i →
    (look p now above items i).ok ≡ false
look-past p now above [] zero past = refl
look-past p now above (x ∷ rest) zero past = absurd (omega arith)
look-past p now above items (suc i) past = ap
    (λ xs. (look_at p now (look p now above items i).first_above xs).ok) (drop_all (suc i) items past)

pub ends-past : (p : Params) (now : ℕ) (c : Codel) (due : ℕ) (items : List Item) →
    ends_drops p now c due items (length items) ≡ true
ends-past p now c due items = ap (λ b. not b || nat_lt now (next_due p c.count due (length items)))
    (look-past p now c.first_above items (length items) (omega arith))

-- The number of drops is the least i such that look i is not ok or drop i is not due.
pub drops_end : (p : Params) (now : ℕ) (c : Codel) (due : ℕ) (items : List Item) →
    ends_drops p now c due items (drops_dropping p now c due items) ≡ true
unfolding drops_dropping
drops_end p now c due items = least-at (ends_drops p now c due items) (length items)
    (ends-past p now c due items)

pub drops_before : (p : Params) (now : ℕ) (c : Codel) (due : ℕ) (items : List Item) (i : ℕ) →
    i < drops_dropping p now c due items → ends_drops p now c due items i ≡ false
unfolding drops_dropping
drops_before p now c due items i = least-below (ends_drops p now c due items) (length items) i
