-- Proves that the RFC's loop over a queue equals the closed form, by induction on the queue.
use Rattle.std.proofs.Common.{◌≡◌, ℕ, ◌∙◌, refl, sym, ap, true, false, List, [], ◌∷◌, if◌then◌else◌}
use Rattle.std.specs.Prelude.{nat_lt}
use Rattle.wf_def_codel.specs.Codel.{Item, Params, Codel, look_at, control_law, rise, dequeue, drops_dropping, state_dropping, drops_plain, state_plain, drops, state_after, dequeued_after}
use Rattle.wf_def_codel.specs.CodelLoop.{dropping_first, giving, dequeue_dropping, dequeue_plain, stepped}
use Rattle.wf_law_rules.proofs.Lemmas.Drops.{dropped_once, seen, drops-bad, drops-early, drops-more, state-more, state-bad, state-early, state-none, drops-none}

module _ (p : Params) (now : ℕ) (c : Codel) (due : ℕ) (x : Item) (rest : List Item) where
  pub dropping-bad : (seen p now c due x rest).ok ≡ false →
      dequeue_dropping p now c due (x ∷ rest) ≡ giving
      (record c { first_above = (seen p now c due x rest).first_above; dropping = false }) (x ∷ rest)
  unfolding dequeue_dropping
  dropping-bad bad = rw bad refl

  pub dropping-early : (seen p now c due x rest).ok ≡ true → nat_lt now due ≡ true →
      dequeue_dropping p now c due (x ∷ rest) ≡ giving
      (record c { first_above = (seen p now c due x rest).first_above; drop_next = due }) (x ∷ rest)
  unfolding dequeue_dropping
  dropping-early good early = rw (good, early) refl

  pub dropping-more : (seen p now c due x rest).ok ≡ true → nat_lt now due ≡ false →
      dequeue_dropping p now c due (x ∷ rest) ≡ dropping_first x
      (dequeue_dropping p now (dropped_once p now c due (seen p now c due x rest).first_above)
      (control_law p due (rise c.count)) rest)
  unfolding dequeue_dropping
  dropping-more good late = rw (good, late) refl

pub dropping-none : (p : Params) (now : ℕ) (c : Codel) (due : ℕ) →
    dequeue_dropping p now c due [] ≡ giving (record c { first_above = 0; dropping = false }) []
unfolding dequeue_dropping
dropping-none p now c due = refl

-- No frame is dropped.
pub gives-head : (x : Item) (rest : List Item) (n : ℕ) (s t : Codel) → n ≡ 0 → s ≡ t →
    giving t (x ∷ rest) ≡ dequeued_after (x ∷ rest) n s
gives-head x rest n s t none same = rw (none, same) refl

pub same_dropping : (items : List Item) (p : Params) (now : ℕ) (c : Codel) (due : ℕ) → c.dropping ≡ true →
    dequeue_dropping p now c due items ≡ dequeued_after items (drops_dropping p now c due items)
    (state_dropping p now c due items (drops_dropping p now c due items))
same_dropping [] p now c due on = dropping-none p now c due
    ∙ sym (rw (drops-none p now c due, state-none p now c due) refl)
same_dropping (x ∷ rest) p now c due on =
    let c' : Codel = dropped_once p now c due (seen p now c due x rest).first_above in
    let due' : ℕ = control_law p due (rise c.count) in
    elim (seen p now c due x rest).ok as (λ b. (seen p now c due x rest).ok ≡ b →
    dequeue_dropping p now c due (x ∷ rest) ≡ dequeued_after (x ∷ rest)
    (drops_dropping p now c due (x ∷ rest)) (state_dropping p now c due (x ∷ rest)
    (drops_dropping p now c due (x ∷ rest)))) [
      | false ↦ λ bad. dropping-bad p now c due x rest bad
          ∙ sym (rw (drops-bad p now c due x rest bad, state-bad p now c due x rest bad) refl)
      | true ↦ λ good. elim (nat_lt now due) as (λ b. nat_lt now due ≡ b →
          dequeue_dropping p now c due (x ∷ rest) ≡ dequeued_after (x ∷ rest)
          (drops_dropping p now c due (x ∷ rest)) (state_dropping p now c due (x ∷ rest)
          (drops_dropping p now c due (x ∷ rest)))) [
            | true ↦ λ early. dropping-early p now c due x rest good early
                ∙ sym (rw (drops-early p now c due x rest early, state-early p now c due x rest on good) refl)
            | false ↦ λ late. dropping-more p now c due x rest good late
                ∙ ap (dropping_first x) (same_dropping rest p now c' due' on)
                ∙ sym (rw (
                  drops-more p now c due x rest good late,
                  state-more p now c due x rest (drops_dropping p now c' due' rest),
                ) refl)
          ] refl
    ] refl

pub same_plain : (items : List Item) (p : Params) (now : ℕ) (c : Codel) →
    dequeue_plain p now c items ≡ dequeued_after items (drops_plain p now c items) (state_plain p now c items)
unfolding dequeue_plain drops_plain state_plain
same_plain [] p now c = refl
same_plain (x ∷ []) p now c = elim (look_at p now c.first_above (x ∷ [])).ok as
    (λ b. (look_at p now c.first_above (x ∷ [])).ok ≡ b →
    dequeue_plain p now c (x ∷ []) ≡ dequeued_after (x ∷ []) (drops_plain p now c (x ∷ []))
    (state_plain p now c (x ∷ []))) [ false ↦ λ bad. rw bad refl | true ↦ λ good. rw good refl ] refl
same_plain (x ∷ y ∷ rest) p now c = elim (look_at p now c.first_above (x ∷ y ∷ rest)).ok as
    (λ b. (look_at p now c.first_above (x ∷ y ∷ rest)).ok ≡ b →
    dequeue_plain p now c (x ∷ y ∷ rest) ≡ dequeued_after (x ∷ y ∷ rest) (drops_plain p now c (x ∷ y ∷ rest))
    (state_plain p now c (x ∷ y ∷ rest))) [ false ↦ λ bad. rw bad refl | true ↦ λ good. rw good refl ] refl

module _ (p : Params) (now : ℕ) (c : Codel) (items : List Item) where
  pub stepped-on : c.dropping ≡ true → stepped p now c items ≡ dequeue_dropping p now c c.drop_next items
  unfolding stepped
  stepped-on on = ap (λ b. if b then dequeue_dropping p now c c.drop_next items
      else dequeue_plain p now c items) on

  pub stepped-off : c.dropping ≡ false → stepped p now c items ≡ dequeue_plain p now c items
  unfolding stepped
  stepped-off off = ap (λ b. if b then dequeue_dropping p now c c.drop_next items
      else dequeue_plain p now c items) off

  pub drops-on : c.dropping ≡ true → drops p now c items ≡ drops_dropping p now c c.drop_next items
  unfolding drops
  drops-on on = ap (λ b. if b then drops_dropping p now c c.drop_next items else drops_plain p now c items) on

  pub drops-off : c.dropping ≡ false → drops p now c items ≡ drops_plain p now c items
  unfolding drops
  drops-off off = ap (λ b. if b then drops_dropping p now c c.drop_next items else drops_plain p now c items)
      off

  pub state-on : c.dropping ≡ true → state_after p now c items
      ≡ state_dropping p now c c.drop_next items (drops_dropping p now c c.drop_next items)
  unfolding state_after
  state-on on =
      ap (λ b. if b then state_dropping p now c c.drop_next items (drops p now c items)
      else state_plain p now c items) on
      ∙ ap (λ n. state_dropping p now c c.drop_next items n) (drops-on on)

  pub state-off : c.dropping ≡ false → state_after p now c items ≡ state_plain p now c items
  unfolding state_after
  state-off off = ap (λ b. if b then state_dropping p now c c.drop_next items (drops p now c items)
      else state_plain p now c items) off

  pub same_stepped : stepped p now c items ≡ dequeued_after items (drops p now c items)
      (state_after p now c items)
  same_stepped =
      elim c.dropping as (λ b. c.dropping ≡ b → stepped p now c items
      ≡ dequeued_after items (drops p now c items) (state_after p now c items)) [
        | true ↦ λ on. stepped-on on ∙ same_dropping items p now c c.drop_next on
            ∙ sym (ap (λ n. dequeued_after items n (state_after p now c items)) (drops-on on)
            ∙ ap (λ t. dequeued_after items (drops_dropping p now c c.drop_next items) t) (state-on on))
        | false ↦ λ off. stepped-off off ∙ same_plain items p now c
            ∙ sym (ap (λ n. dequeued_after items n (state_after p now c items)) (drops-off off)
            ∙ ap (λ t. dequeued_after items (drops_plain p now c items) t) (state-off off))
      ] refl

  -- The RFC's dequeue of a queue equals the closed form.
  pub same_dequeue : stepped p now c items ≡ dequeue p now c items
  unfolding dequeue
  same_dequeue = same_stepped
