-- Proves which frames are inside after a call, by its reply: only an accepted frame comes in, and only a
-- reaped one goes out. By the law of the finished list, after one more entry of the history.
use Rattle.std.proofs.Common.{◌≡◌, ◌≢◌, refl, ap, sym, ◌∙◌, subst, arith, ℕ, suc, ◌+◌, ◌==◌, nat_lt, Bool, true, false, not, ◌&&◌, ◌||◌, if◌then◌else◌, inl, inr, List, [], ◌∷◌, ◌++◌, length, take, append-nil, append_assoc, Option, None, Some, is_none}
use Rattle.wf_frame.specs.declared.classes.Fate.{Fate}
use Rattle.wf_frame.specs.declared.classes.Fate.TheVariants.{Held, Acked, Dropped}
use Rattle.wf_frame.specs.declared.notes.Ask.{Ask}
use Rattle.wf_frame.specs.declared.notes.Note.{Note}
use Rattle.wf_frame.specs.declared.notes.Note.TheVariants.{Enqueue, Asked}
use Rattle.wf_frame.specs.declared.notes.Refusal.{Refusal}
use Rattle.wf_frame.specs.declared.notes.ReplyNote.{ReplyNote}
use Rattle.wf_frame.specs.declared.notes.ReplyNote.TheVariants as reply
use Rattle.wf_frame.specs.declared.settings.Config.{Config}
use Rattle.wf_law_rules.proofs.Lemmas.Joined.{has_first, has_second, has_either}
use Rattle.wf_law_rules.proofs.Lemmas.Members.{has_head}
use Rattle.wf_law_rules.proofs.Lemmas.Numbers.{on_bool, lt_yes, lt_no, yes_lt, eq_yes, eq_no, not_eq}
use Rattle.wf_def_lists.specs.Lists.{IsOnce}
use Rattle.wf_def_lists.specs.Table.{has}
use Rattle.wf_def_world.specs.World.{World, frame, accepted_count, is_held, opening}
use Rattle.wf_def_world.specs.FlowQueues.{dropped_for_limit}
use Rattle.wf_def_world.specs.Refusals.{refusal}
use Rattle.wf_def_world.specs.Run.{Entry, by, world_after}
use Rattle.wf_def_world.specs.Step.{outcome_of, enqueue_outcome, judged_outcome, step}
use Rattle.wf_law_runs.specs.Finished.{KeepsFinished, reaped_id, reaped_ids}
use Rattle.wf_law_runs.proofs.Frames.Fates.{brought, steady_first, steady_run, counted_step, world_after-append}
use Rattle.wf_law_runs.proofs.Frames.FinishedLaw.{finished_law}
use Rattle.wf_send_half_model.specs.Standing.{IsReached}
use Rattle.wf_send_half_model.specs.Inside.{is_inside, inside_after}

-- ---- a frame is inside if it was accepted and not reaped

-- a list without repetitions has no number in both of its parts
apart : (xs ys : List ℕ) (k : ℕ) → IsOnce (xs ++ ys) → has xs k ≡ true → has ys k ≡ true → ⊥
apart [] ys k once a b = absurd (cc a)
apart (x ∷ xs) ys k once a b = on_bool (x == k)
    (λ e. let same : x ≡ k = eq_yes x k e in absurd
    (cc (once.0, subst (λ j. has (xs ++ ys) j ≡ true) (sym same) (has_second xs ys k b))))
    (λ e. apart xs ys k once.1 (sym (ap (λ (c : Bool). c || has xs k) e) ∙ a) b)

pub fate_held : (fate : Fate) → is_held fate ≡ true → fate ≡ Held
fate_held Held e = refl
fate_held Acked e = absurd (cc e)
fate_held (Dropped cause) e = absurd (cc e)

-- a truth value that is not true is false
pub not_true : (b : Bool) → (b ≡ true → ⊥) → b ≡ false
not_true true h = absurd (h refl)
not_true false h = refl

module _ (reaped : List ℕ) (w : World) (keeps : KeepsFinished reaped w) (id : ℕ) where
  not_given : nat_lt id (accepted_count w) ≡ false → has w.finished id ≡ false
  not_given e = not_true (has w.finished id) (λ there. let low =
      ((keeps.exactly id).0 (has_second reaped w.finished id there)).0 in
      let high = lt_no id (accepted_count w) e in omega (arith, low, high))

  held_not : (frame w id).fate ≡ Held → has (reaped ++ w.finished) id ≡ true → ⊥
  held_not e there = ((keeps.exactly id).0 there).1 e

  settled_in : nat_lt id (accepted_count w) ≡ true → is_held (frame w id).fate ≡ false →
      has (reaped ++ w.finished) id ≡ true
  settled_in low e = (keeps.exactly id).1 (
    lt_yes id (accepted_count w) low,
    λ held. let two : true ≡ false =
        sym (ap is_held held) ∙ e in cc two,
  )

  pub inside_is : is_inside w id ≡ (nat_lt id (accepted_count w) && not (has reaped id))
  inside_is = on_bool (nat_lt id (accepted_count w))
      (λ low. on_bool (is_held (frame w id).fate)
      (λ held.
      let none : has reaped id ≡ false = not_true (has reaped id)
      (λ there. held_not (fate_held (frame w id).fate held) (has_first reaped w.finished id there)) in
      cc (low, held, none))
      (λ other. on_bool (has reaped id)
      (λ gone. let none : has w.finished id ≡ false =
      not_true (has w.finished id) (λ there. apart reaped w.finished id keeps.once gone there) in
      cc (low, other, gone, none))
      (λ stays. elim (has_either reaped w.finished id (settled_in low other)) [
        | inl there ↦ absurd (cc (there, stays))
        | inr there ↦ cc (low, other, stays, there)
      ])))
      (λ high. let none : has w.finished id ≡ false = not_given high in cc (high, none))

-- ---- one more entry

reaped_then : (h : List Entry) (w : World) (e : Entry) →
    reaped_ids w (h ++ e ∷ []) ≡ reaped_ids w h ++ reaped_id (step (world_after w h) e.1).reply
unfolding world_after
reaped_then [] w e = append-nil (reaped_id (step w e.1).reply)
reaped_then (x ∷ h) w e = ap (λ (l : List ℕ). reaped_id (step w x.1).reply ++ l)
    (reaped_then h (step w x.1).world e) ∙ sym
    (append_assoc (reaped_id (step w x.1).reply) (reaped_ids (step w x.1).world h)
    (reaped_id (step (world_after (step w x.1).world h) e.1).reply))

take_all : (h : List Entry) → take (length h) h ≡ h
take_all [] = refl
take_all (e ∷ h) = ap (λ (l : List Entry). e ∷ l) (take_all h)

-- the law of the finished list, after a whole history
finished_now : (c : Config) (h : List Entry) →
    KeepsFinished (reaped_ids (opening c) h) (world_after (opening c) h)
finished_now c h = subst (λ (l : List Entry).
    KeepsFinished (reaped_ids (opening c) l) (world_after (opening c) l)) (take_all h)
    (finished_law c h (length h))

-- how many frames a call accepts, by its reply
abbrev accepts : ReplyNote → Note → ℕ
accepts (reply.Accepted id dropped) (Enqueue s t flow len) = 1
accepts answered note = 0

done_reply : (w : World) (note : Note) → refusal w note ≡ None →
    (step w note).reply ≡ (outcome_of w note).reply
unfolding step judged_outcome
done_reply w note e = ap (λ (r : Option Refusal). (judged_outcome w note r).reply) e

refused_reply : (w : World) (note : Note) (r : Refusal) → refusal w note ≡ Some r →
    (step w note).reply ≡ reply.Refused r
unfolding step judged_outcome
refused_reply w note r e = ap (λ (o : Option Refusal). (judged_outcome w note o).reply) e

enqueued_reply : (w : World) (s t flow len : ℕ) → refusal w (Enqueue s t flow len) ≡ None →
    (step w (Enqueue s t flow len)).reply ≡ reply.Accepted (accepted_count w) (dropped_for_limit w)
unfolding outcome_of enqueue_outcome
enqueued_reply w s t flow len e = done_reply w (Enqueue s t flow len) e

asked_accepts : (answered : ReplyNote) (ask : Ask) → accepts answered (Asked ask) ≡ 0
asked_accepts reply.Joined ask = refl
asked_accepts (reply.Left dropped) ask = refl
asked_accepts reply.Set ask = refl
asked_accepts (reply.Now now) ask = refl
asked_accepts (reply.Accepted id dropped) ask = refl
asked_accepts (reply.Send exchange station tid air part more eosp) ask = refl
asked_accepts (reply.Released ids) ask = refl
asked_accepts (reply.Ba start b0 b1 b2 b3 wide) ask = refl
asked_accepts (reply.Done acked waiting failed) ask = refl
asked_accepts reply.Slept ask = refl
asked_accepts reply.Woken ask = refl
asked_accepts (reply.Polled class) ask = refl
asked_accepts (reply.Charged deficit) ask = refl
asked_accepts (reply.Reaped id fate) ask = refl
asked_accepts reply.Stopped ask = refl
asked_accepts reply.Started ask = refl
asked_accepts reply.Marked ask = refl
asked_accepts (reply.Flushed dropped) ask = refl
asked_accepts reply.Ack ask = refl
asked_accepts (reply.Held start) ask = refl
asked_accepts reply.Begun ask = refl
asked_accepts reply.Freed ask = refl
asked_accepts (reply.Ceased dropped ids) ask = refl
asked_accepts (reply.Group answer) ask = refl
asked_accepts (reply.Service answer) ask = refl
asked_accepts (reply.Refused reason) ask = refl

accepts_is : (w : World) (note : Note) → (if is_none (refusal w note) then brought note else 0)
    ≡ accepts (step w note).reply note
accepts_is w (Enqueue s t flow len) = of (refusal w (Enqueue s t flow len)) refl
  where
    of : (o : Option Refusal) → refusal w (Enqueue s t flow len) ≡ o →
        (if is_none (refusal w (Enqueue s t flow len)) then 1 else 0)
        ≡ accepts (step w (Enqueue s t flow len)).reply (Enqueue s t flow len)
    of None e = ap (λ (o : Option Refusal). if is_none o then 1 else 0) e
        ∙ sym (ap (λ (r : ReplyNote). accepts r (Enqueue s t flow len)) (enqueued_reply w s t flow len e))
    of (Some r) e = ap (λ (o : Option Refusal). if is_none o then 1 else 0) e
        ∙ sym (ap (λ (r : ReplyNote). accepts r (Enqueue s t flow len))
        (refused_reply w (Enqueue s t flow len) r e))
accepts_is w (Asked ask) = nothing (is_none (refusal w (Asked ask)))
    ∙ sym (asked_accepts (step w (Asked ask)).reply ask)
  where
    nothing : (b : Bool) → ◌≡◌ {A = ℕ} (if b then 0 else 0) 0
    nothing true = refl
    nothing false = refl

-- the id in an enqueue's reply is the next one
pub next_id : (w : World) (s t flow len : ℕ) (new : ℕ) (dropped : Option ℕ) →
    (step w (Enqueue s t flow len)).reply ≡ reply.Accepted new dropped → new ≡ accepted_count w
next_id w s t flow len new dropped is = of (refusal w (Enqueue s t flow len)) refl
  where
    of : (o : Option Refusal) → refusal w (Enqueue s t flow len) ≡ o → new ≡ accepted_count w
    of None e = let two : reply.Accepted new dropped
        ≡ reply.Accepted (accepted_count w) (dropped_for_limit w) =
        sym is ∙ enqueued_reply w s t flow len e in cc two
    of (Some r) e = let two : reply.Accepted new dropped ≡ reply.Refused r =
        sym is ∙ refused_reply w (Enqueue s t flow len) r e in absurd (cc two)

one_step : (w : World) (e : Entry) → world_after w (e ∷ []) ≡ (step w e.1).world
unfolding world_after
one_step w e = refl

has_more : (xs : List ℕ) (x k : ℕ) → has (xs ++ x ∷ []) k ≡ (has xs k || (x == k))
has_more [] x k = on_bool (x == k) (λ e. cc e) (λ e. cc e)
has_more (y ∷ xs) x k = on_bool (y == k) (λ e. cc e) (λ e. let rest = has_more xs x k in cc (e, rest))

-- w is the world before a call; `gone` are the ids that were reaped before it
module _ (gone : List ℕ) (w : World) (keeps : KeepsFinished gone w) (id : ℕ) where
  abbrev n : ℕ
  n = accepted_count w

  stays : (m : ℕ) → m ≡ n → (nat_lt id m && not (has (gone ++ []) id)) ≡ is_inside w id
  stays m same = ap (λ (k : ℕ). nat_lt id k && not (has (gone ++ []) id)) same
      ∙ ap (λ (l : List ℕ). nat_lt id n && not (has l id)) (append-nil gone) ∙ sym (inside_is gone w keeps id)

  comes : (new m : ℕ) → new ≡ n → m ≡ suc n → (nat_lt id m && not (has (gone ++ []) id))
      ≡ (if id == new then true else is_inside w id)
  comes new m same more = on_bool (id == new)
      (λ e.
      let here : id ≡ new = eq_yes id new e in
      let low : nat_lt id m ≡ true = yes_lt id m (omega (arith, here, same, more)) in
      let none : has gone id ≡ false = not_true (has gone id)
      (λ there. let given = ((keeps.exactly id).0 (has_first gone w.finished id there)).0 in
      omega (arith, given, here, same)) in
      let none_more : has (gone ++ []) id ≡ false = ap (λ (l : List ℕ). has l id) (append-nil gone) ∙ none in
      cc (e, low, none_more))
      (λ e.
      let other : id ≢ new = eq_no id new e in
      let same_test : nat_lt id m ≡ nat_lt id n = on_bool (nat_lt id n)
      (λ low. let l = lt_yes id n low in yes_lt id m (omega (arith, l, more)) ∙ sym low)
      (λ high. let l = lt_no id n high in not_true (nat_lt id m)
      (λ b. let k = lt_yes id m b in let is : id ≡ new = omega (arith, l, k, more, same) in other is)
      ∙ sym high) in
      let rest = stays n refl in
      cc (e, same_test, rest))

  goes : (out m : ℕ) → m ≡ n → (nat_lt id m && not (has (gone ++ out ∷ []) id))
      ≡ (if id == out then false else is_inside w id)
  goes out m same = on_bool (id == out)
      (λ e.
      let here : id ≡ out = eq_yes id out e in
      let there : has (gone ++ out ∷ []) id ≡ true =
      has_second gone (out ∷ []) id (subst (λ k. has (k ∷ []) id ≡ true) here (has_head id [])) in
      on_bool (nat_lt id m) (λ low. cc (e, there, low)) (λ high. cc (e, there, high)))
      (λ e.
      let other : (out == id) ≡ false = not_eq out id (λ is. eq_no id out e (sym is)) in
      let more = has_more gone out id in
      let is = inside_is gone w keeps id in
      let test : nat_lt id m ≡ nat_lt id n = ap (nat_lt id) same in
      on_bool (has gone id) (λ there. cc (e, other, more, is, test, there))
      (λ not_there. cc (e, other, more, is, test, not_there)))

  by_reply : (answered : ReplyNote) (note : Note) (m : ℕ) → m ≡ accepts answered note + n →
      ((s t flow len new : ℕ) (dropped : Option ℕ) → note ≡ Enqueue s t flow len →
      answered ≡ reply.Accepted new dropped → new ≡ n) →
      (nat_lt id m && not (has (gone ++ reaped_id answered) id)) ≡ inside_after w answered note id
  by_reply reply.Joined note m more next = stays m (omega (arith, more))
  by_reply (reply.Left dropped) note m more next = stays m (omega (arith, more))
  by_reply reply.Set note m more next = stays m (omega (arith, more))
  by_reply (reply.Now now) note m more next = stays m (omega (arith, more))
  by_reply (reply.Accepted new dropped) (Enqueue s t flow len) m more next =
      comes new m (next s t flow len new dropped refl refl) (omega (arith, more))
  by_reply (reply.Accepted new dropped) (Asked ask) m more next = stays m (omega (arith, more))
  by_reply (reply.Send exchange station tid air part again eosp) note m more next =
      stays m (omega (arith, more))
  by_reply (reply.Released ids) note m more next = stays m (omega (arith, more))
  by_reply (reply.Ba start b0 b1 b2 b3 wide) note m more next = stays m (omega (arith, more))
  by_reply (reply.Done acked waiting failed) note m more next = stays m (omega (arith, more))
  by_reply reply.Slept note m more next = stays m (omega (arith, more))
  by_reply reply.Woken note m more next = stays m (omega (arith, more))
  by_reply (reply.Polled class) note m more next = stays m (omega (arith, more))
  by_reply (reply.Charged deficit) note m more next = stays m (omega (arith, more))
  by_reply (reply.Reaped out fate) note m more next = goes out m (omega (arith, more))
  by_reply reply.Stopped note m more next = stays m (omega (arith, more))
  by_reply reply.Started note m more next = stays m (omega (arith, more))
  by_reply reply.Marked note m more next = stays m (omega (arith, more))
  by_reply (reply.Flushed dropped) note m more next = stays m (omega (arith, more))
  by_reply reply.Ack note m more next = stays m (omega (arith, more))
  by_reply (reply.Held start) note m more next = stays m (omega (arith, more))
  by_reply reply.Begun note m more next = stays m (omega (arith, more))
  by_reply reply.Freed note m more next = stays m (omega (arith, more))
  by_reply (reply.Ceased dropped ids) note m more next = stays m (omega (arith, more))
  by_reply (reply.Group answer) note m more next = stays m (omega (arith, more))
  by_reply (reply.Service answer) note m more next = stays m (omega (arith, more))
  by_reply (reply.Refused reason) note m more next = stays m (omega (arith, more))

module _ (c : Config) (h : List Entry) (note : Note) where
  abbrev before : World
  before = world_after (opening c) h

  abbrev gone_before : List ℕ
  gone_before = reaped_ids (opening c) h

  keeps_after : KeepsFinished (gone_before ++ reaped_id (step before note).reply) (step before note).world
  keeps_after =
      subst (λ (l : List ℕ). KeepsFinished l (step before note).world) (reaped_then h (opening c) (by 0 note))
      (subst (KeepsFinished (reaped_ids (opening c) (h ++ by 0 note ∷ [])))
      (world_after-append h (opening c) (by 0 note ∷ []) ∙ one_step before (by 0 note))
      (finished_now c (h ++ by 0 note ∷ [])))

  counted_after : accepted_count (step before note).world
      ≡ accepts (step before note).reply note + accepted_count before
  counted_after = (counted_step _ before note (steady_run h [] (opening c) (steady_first c))).0
      ∙ ap (λ (n : ℕ). n + accepted_count before) (accepts_is before note)

  pub inside_then : (id : ℕ) → is_inside (step before note).world id
      ≡ inside_after before (step before note).reply note id
  inside_then id =
      inside_is (gone_before ++ reaped_id (step before note).reply) (step before note).world keeps_after id
      ∙ by_reply gone_before before (finished_now c h) id (step before note).reply note
      (accepted_count (step before note).world) counted_after
      (λ s t flow len new dropped is told. next_id before s t flow len new dropped
      (ap (λ (k : Note). (step before k).reply) (sym is) ∙ told))

-- the same in the world of any run
pub inside_reached : (w : World) (r : IsReached w) (note : Note) (id : ℕ) →
    is_inside (step w note).world id ≡ inside_after w (step w note).reply note id
inside_reached w r note id = subst (λ (u : World). is_inside (step u note).world id
    ≡ inside_after u (step u note).reply note id) (sym r.after) (inside_then w.config r.history note id)
