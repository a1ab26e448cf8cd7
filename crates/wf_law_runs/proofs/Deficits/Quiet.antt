-- Proves that a station's received airtime is 0 if and only if it had no receive charge since its join. By
-- induction on the run.
use Rattle.std.proofs.Common.{◌≡◌, refl, ap, sym, ◌∙◌, subst, arith, ℕ, ◌+◌, ◌*◌, ◌<◌, true, if◌then◌else◌, List, [], ◌∷◌, Option, Some, None, is_some, is_none, IfSome, unwrap_or, option_map, ◌&&◌, ◌==◌, eq-eqb, inl, inr, take}
use Rattle.std.proofs.lemmas.Bool.{cases_eq, ne_eqb, and_parts, not-false, leb-true}
use Rattle.wf_frame.specs.declared.settings.Config.{Config}
use Rattle.wf_frame.specs.declared.classes.Class.{Class}
use Rattle.wf_frame.specs.declared.notes.Ask.TheVariants.{Join, Leave, Rate, Tick, Pull, Arrive, Answer, Done, Sleep, Wake, Poll, Rx, Reap, Ampdu, Stop, Start, Unsent, GiveUp, Flush, Offload, Weight, Plain, Hold, Begin, Free, Cease, Group, Service, Bss}
use Rattle.wf_frame.specs.declared.notes.Note.{Note}
use Rattle.wf_frame.specs.declared.notes.Note.TheVariants.{Enqueue, Asked}
use Rattle.wf_frame.specs.declared.notes.Refusal.{Refusal}
use Rattle.wf_frame.specs.declared.notes.Refusal.TheVariants.{Idle}
use Rattle.wf_def_lists.specs.Table.{at}
use Rattle.wf_def_rotation.specs.Rotation.{in_order}
use Rattle.wf_def_world.specs.World.{World, Station, Share, Exchange, no_share, no_station, share, rotation, is_live, exchange, opening}
use Rattle.wf_frame.specs.Classes.{class_number, same_class}
use Rattle.wf_def_world.specs.Exchanges.{picked_station, charge_of}
use Rattle.wf_def_world.specs.Refusals.{refusals, refusal}
use Rattle.wf_def_world.specs.Step.{Outcome, tick_outcome, outcome_where_open, outcome_of, after_refusal, judged_outcome, step, concerned_station, pull_outcome}
use Rattle.wf_def_world.specs.Run.{Entry, world_after}
use Rattle.wf_def_world.specs.Stretches.{world_at}
use Rattle.wf_frame.specs.Settings.{IsInRange}
use Rattle.wf_law_runs.specs.Deficits.{receive_charges_by, receive_charges_in, QuietLaw}
use Rattle.wf_def_lists.specs.Lists.{on}
use Rattle.wf_law_runs.proofs.Common.Refused.{after_idle}
use Rattle.wf_law_runs.proofs.Deficits.Books.{Account, account, Books, books, with_account, on_part, upd_same, upd_other, each_upd, updc_same, updc_other, each_updc, cases_class}
use Rattle.wf_law_runs.proofs.Deficits.BookSteps.{books_ended, books_gone, all_off, books_enqueued, receive_share, books_received, books_reaped, books_slept, books_woken, books_credited, rated, books_with_rate, fresh_account, books_joined, charge_share, pay_share, after, books_after_pick, books_stated, books_stopped, books_started, books_flushed, books_offloaded, books_weighed, reweighed, books_joined_plain, books_held, books_begun, books_freed, books_ceased, books_served, books_moved}
use Rattle.wf_law_runs.proofs.Deficits.Kept.{IsKept, if_map}
use Rattle.wf_law_runs.proofs.Deficits.KeptStep.{NoRow, no_row, IsFound, books_arrived, books_unsent, books_given_up, books_answered, kept_step, kept_opening}
use Rattle.wf_law_runs.proofs.Fairness.OldOrder.{calm_pulled}
use Rattle.wf_law_runs.proofs.Deficits.Listing.{longer_listed}
use Rattle.wf_def_world.specs.CanSend.{with_listings_of}

-- n is the number of receive charges since the join, and r the received airtime.
record IsSame (n r : ℕ) : Type 0 where
  to : n ≡ 0 → r ≡ 0
  back : r ≡ 0 → n ≡ 0

abbrev IsHeard : Class → ℕ → Option Account → Type 0
IsHeard c n o = IfSome o (λ a. IsSame n (a.shares c).received)

heard_map : (c : Class) (n : ℕ) (g : Account → Account) (o : Option Account) →
    ((a : Account) → ((g a).shares c).received ≡ (a.shares c).received) → IsHeard c n o →
    IsHeard c n (option_map g o)
heard_map c n g o h i = if_map (λ a. IsSame n (a.shares c).received)
    (λ a. IsSame n (a.shares c).received) g o i (λ a _ k. subst (IsSame n) (sym (h a)) k)

-- An account changes by a function that adds no received airtime.
heard_on : (c : Class) (n s i : ℕ) (b : Books) (g : Account → Account) →
    ((a : Account) → ((g a).shares c).received ≡ (a.shares c).received) → IsHeard c n (b.accounts s) →
    IsHeard c n ((with_account b i (option_map g (b.accounts i))).accounts s)
heard_on c n s i b g h = each_upd (λ y o. IsHeard c n (b.accounts y) → IsHeard c n o) b.accounts i
    (option_map g (b.accounts i)) (λ y k. k) (heard_map c n g (b.accounts i) h) s

-- The accounts do not change.
heard_calm : (c : Class) (n s : ℕ) (b a : Books) → a.accounts ≡ b.accounts → IsHeard c n (b.accounts s) →
    IsHeard c n (a.accounts s)
heard_calm c n s b a e k = subst (λ (f : ℕ → Option Account). IsHeard c n (f s)) (sym e) k

at_part : (c d : Class) (f : Share → Share) (a : Account) → ((x : Share) → (f x).received ≡ x.received) →
    ((on_part d f a).shares c).received ≡ (a.shares c).received
at_part c d f a h = each_updc (λ e x. x.received ≡ (a.shares e).received) a.shares d (f (a.shares d))
    (λ e. refl) (h (a.shares d)) c

heard_after : (c : Class) (n s : ℕ) (w : World) (d : Class) → IsHeard c n ((books w).accounts s) →
    IsHeard c n ((after (books w) d (picked_station w d)).accounts s)
heard_after c n s w d k = heard_map c n _ ((books w).accounts s)
    (λ a. at_part c d (pay_share (w.config.quantum * a.weight)
    (on (in_order (rotation w d)) s * (picked_station w d).quanta s)) a (λ x. refl)) k

heard_joined : (c : Class) (n s i q weight : ℕ) (b : Books) → IsHeard c n (b.accounts s) →
    IsHeard c (if i == s then 0 else n) ((with_account b i (Some (fresh_account q weight))).accounts s)
heard_joined c n s i q weight b k = elim (cases_eq s i) [
  | inl e ↦
      let here : (with_account b i (Some (fresh_account q weight))).accounts s
      ≡ Some (fresh_account q weight) = ap (with_account b i (Some (fresh_account q weight))).accounts e
      ∙ upd_same b.accounts i (Some (fresh_account q weight)) in
      rw (here, eq-eqb i s (sym e)) (record { to = λ _. refl; back = λ _. refl })
  | inr other ↦ rw (
    upd_other b.accounts i s (Some (fresh_account q weight)) other,
    ne_eqb i s (λ e. other (sym e)),
  ) k
]

heard_gone : (c : Class) (n s i : ℕ) (b : Books) → IsHeard c n (b.accounts s) →
    IsHeard c n ((with_account (all_off b i) i None).accounts s)
heard_gone c n s i b k = each_upd (λ y o. IsHeard c n (b.accounts y) → IsHeard c n o) b.accounts i None
    (λ y h. h) (λ _. tt) s k

heard_received : (c d : Class) (n s i air : ℕ) (b : Books) → 0 < air → IsHeard c n (b.accounts s) →
    IsHeard c (if (i == s) && same_class d c then n + 1 else n)
    ((with_account b i (option_map (on_part d (receive_share air)) (b.accounts i))).accounts s)
heard_received c d n s i air b some k = elim (cases_eq s i) [
  | inl e ↦
      let here : (with_account b i (option_map (on_part d (receive_share air)) (b.accounts i))).accounts s
      ≡ option_map (on_part d (receive_share air)) (b.accounts i) =
      ap (with_account b i (option_map (on_part d (receive_share air)) (b.accounts i))).accounts e
      ∙ upd_same b.accounts i _ in
      let k' : IsHeard c n (b.accounts i) = subst (λ (z : ℕ). IsHeard c n (b.accounts z)) e k in
      rw (here, eq-eqb i s (sym e)) (elim (cases_class d c) [
        | inl f ↦ rw (eq-eqb (class_number d) (class_number c) (ap class_number f))
            (if_map (λ a. IsSame n (a.shares c).received) (λ a. IsSame (n + 1) (a.shares c).received)
            (on_part d (receive_share air)) (b.accounts i) k' (λ a _ _.
            let more : ((on_part d (receive_share air) a).shares c).received ≡ (a.shares c).received + air =
            subst (λ (z : Class). ((on_part d (receive_share air) a).shares z).received
            ≡ (a.shares z).received + air) f (ap (λ (x : Share). x.received)
            (updc_same a.shares d (receive_share air (a.shares d)))) in
            record { to = λ z. absurd (omega arith); back = λ z. absurd (omega arith) }))
        | inr differs ↦ rw (ne_eqb (class_number d) (class_number c) differs)
            (heard_map c n (on_part d (receive_share air)) (b.accounts i)
            (λ a. ap (λ (x : Share). x.received) (updc_other a.shares d c (receive_share air (a.shares d))
            (λ e. differs (sym e)))) k')
      ])
  | inr other ↦ rw (
    upd_other b.accounts i s (option_map (on_part d (receive_share air)) (b.accounts i))
        other,
    ne_eqb i s (λ e. other (sym e)),
  ) k
]

-- ---- the step

-- The number of receive charges after a call that is not refused.
abbrev counted : ℕ → Class → Note → ℕ → ℕ
counted s c (Asked (Join i window start exponent weight)) n = if i == s then 0 else n
counted s c (Asked (Offload i exponent weight)) n = if i == s then 0 else n
counted s c (Asked (Plain i start exponent weight)) n = if i == s then 0 else n
counted s c (Asked (Rx i d air)) n = if (i == s) && same_class d c then n + 1 else n
counted s c _ n = n

counted_done : (note : Note) (w : World) (s : ℕ) (c : Class) (n : ℕ) → refusal w note ≡ None →
    receive_charges_by w s c note n ≡ counted s c note n
counted_done (Asked (Join i window start exponent weight)) w s c n h =
    ap (λ (o : Option Refusal). if is_none o && (i == s) then 0 else n) h
counted_done (Asked (Offload i exponent weight)) w s c n h =
    ap (λ (o : Option Refusal). if is_none o && (i == s) then 0 else n) h
counted_done (Asked (Plain i start exponent weight)) w s c n h =
    ap (λ (o : Option Refusal). if is_none o && (i == s) then 0 else n) h
counted_done (Asked (Rx i d air)) w s c n h =
    ap (λ (o : Option Refusal). if is_none o && ((i == s) && same_class d c) then n + 1 else n) h
counted_done _ w s c n h = refl

counted_refused : (note : Note) (r : Refusal) (w : World) (s : ℕ) (c : Class) (n : ℕ) →
    refusal w note ≡ Some r → receive_charges_by w s c note n ≡ n
counted_refused (Asked (Join i window start exponent weight)) r w s c n h =
    ap (λ (o : Option Refusal). if is_none o && (i == s) then 0 else n) h
counted_refused (Asked (Offload i exponent weight)) r w s c n h =
    ap (λ (o : Option Refusal). if is_none o && (i == s) then 0 else n) h
counted_refused (Asked (Plain i start exponent weight)) r w s c n h =
    ap (λ (o : Option Refusal). if is_none o && (i == s) then 0 else n) h
counted_refused (Asked (Rx i d air)) r w s c n h =
    ap (λ (o : Option Refusal). if is_none o && ((i == s) && same_class d c) then n + 1 else n) h
counted_refused _ r w s c n h = refl

heard_open : (w : World) (e : ℕ) (o : Option Exchange) (f : Exchange → Outcome) (c : Class) (n s : ℕ) →
    exchange w e ≡ o → IsHeard c n ((books w).accounts s) →
    ((x : Exchange) → IsFound w e x → IsHeard c n ((books (f x).world).accounts s)) →
    IsHeard c n ((books (outcome_where_open w o f).world).accounts s)
unfolding outcome_where_open
heard_open w e None f c n s k i h = i
heard_open w e (Some x) f c n s k i h = h x k

-- The books are equal.
heard_books : (c : Class) (n s : ℕ) (a b : Books) → a ≡ b → IsHeard c n (b.accounts s) →
    IsHeard c n (a.accounts s)
heard_books c n s a b e k = subst (λ (z : Books). IsHeard c n (z.accounts s)) (sym e) k

heard_done : (note : Note) (w : World) (c : Class) (n s : ℕ) → NoRow (refusals w note) → IsKept (books w) →
    IsHeard c n ((books w).accounts s) → IsHeard c (counted s c note n)
    ((books (outcome_of w note).world).accounts s)
unfolding outcome_of tick_outcome
heard_done (Enqueue i t flow len) w c n s r k h = heard_books c n s _ _ (books_enqueued w i t flow len) h
heard_done (Asked (Join i window start exponent weight)) w c n s r k h =
    heard_books c _ s _ _ (books_joined w i window start exponent weight)
    (heard_joined c n s i w.config.quantum weight (books w) h)
heard_done (Asked (Offload i exponent weight)) w c n s r k h =
    heard_books c _ s _ _ (books_offloaded w i exponent weight)
    (heard_joined c n s i w.config.quantum weight (books w) h)
heard_done (Asked (Plain i start exponent weight)) w c n s r k h =
    heard_books c _ s _ _ (books_joined_plain w i start exponent weight)
    (heard_joined c n s i w.config.quantum weight (books w) h)
heard_done (Asked (Weight i weight)) w c n s r k h =
    heard_books c n s _ _ (books_weighed w i weight)
    (heard_on c n s i (books w) (reweighed w.config (books w).opened i weight) (λ a. refl) h)
heard_done (Asked (Leave i)) w c n s r k h = heard_books c n s _ _ (books_gone w i)
    (heard_gone c n s i (books w) h)
heard_done (Asked (Rate i rate)) w c n s r k h =
    heard_books c n s _ _ (books_with_rate w i rate)
    (heard_on c n s i (books w) (rated rate) (λ a. refl) h)
heard_done (Asked (Tick by)) w c n s r k h = h
heard_done (Asked (Pull d l)) w c n s r k h = heard_calm c n s (after (books w) d (picked_station w d))
    (books (pull_outcome w d l).world) (calm_pulled w d l).accounts (heard_after c n s w d h)
heard_done (Asked (Arrive e j)) w c n s r k h =
    heard_open w e (exchange w e) _ c n s refl h (λ x f. heard_books c n s _ _ (books_arrived w e j x k f) h)
heard_done (Asked (Unsent e j)) w c n s r k h =
    heard_open w e (exchange w e) _ c n s refl h (λ x f. heard_books c n s _ _ (books_unsent w e j x k f) h)
heard_done (Asked (GiveUp e j)) w c n s r k h =
    heard_open w e (exchange w e) _ c n s refl h (λ x f. heard_books c n s _ _ (books_given_up w e j x k f) h)
heard_done (Asked (Answer e)) w c n s r k h =
    heard_open w e (exchange w e) _ c n s refl h (λ x f. heard_books c n s _ _ (books_answered w e x k f) h)
heard_done (Asked (Done e heard air)) w c n s r k h =
    heard_open w e (exchange w e) _ c n s refl h
    (λ x f. heard_books c n s _ _ (books_ended air w x heard)
    (heard_on c n s x.station (books w) (on_part x.class (charge_share (charge_of air x)))
    (λ a. at_part c x.class (charge_share (charge_of air x)) a (λ y. refl)) h))
heard_done (Asked (Sleep i)) w c n s r k h = heard_books c n s _ _ (books_slept w i) h
heard_done (Asked (Ampdu i octets)) w c n s r k h = heard_books c n s _ _ (books_stated w i octets) h
heard_done (Asked (Stop i)) w c n s r k h = heard_books c n s _ _ (books_stopped w i) h
heard_done (Asked (Start i)) w c n s r k h = heard_books c n s _ _ (books_started w i) h
heard_done (Asked (Flush i t)) w c n s r k h = heard_books c n s _ _ (books_flushed w i t) h
heard_done (Asked (Hold i t)) w c n s r k h = heard_books c n s _ _ (books_held w i t) h
heard_done (Asked (Begin i t window)) w c n s r k h = heard_books c n s _ _ (books_begun w i t window) h
heard_done (Asked (Free i t)) w c n s r k h = heard_books c n s _ _ (books_freed w i t) h
heard_done (Asked (Cease i t)) w c n s r k h = heard_books c n s _ _ (books_ceased w i t) h
heard_done (Asked (Wake i)) w c n s r k h = heard_books c n s _ _ (books_woken w i) h
heard_done (Asked (Poll i)) w c n s r k h = heard_books c n s _ _ (books_credited w i) h
heard_done (Asked (Rx i d air)) w c n s r k h =
    heard_books c _ s _ _ (books_received w i d air)
    (heard_received c d n s i air (books w) (leb-true _ _ (and_parts _ _ (not-false _ r.1.0)).0) h)
heard_done (Asked Reap) w c n s r k h = heard_books c n s _ _ (books_reaped w.finished w) h
heard_done (Asked (Group ask)) w c n s r k h = h
heard_done (Asked (Service ask)) w c n s r k h = heard_books c n s _ _ (books_served w ask) h
heard_done (Asked (Bss i b)) w c n s r k h = heard_books c n s _ _ (books_moved w i b) h

heard_refused : (note : Note) (r : Refusal) (w : World) (c : Class) (n s : ℕ) →
    IsHeard c n ((books w).accounts s) → IsHeard c n ((books (after_refusal w note r)).accounts s)
unfolding after_refusal
heard_refused (Asked (Pull d l)) Idle w c n s h = after_idle (λ v. IsHeard c n ((books v).accounts s)) w d h
    (heard_books c n s _ _ (books_after_pick w d) (heard_after c n s w d h))
heard_refused _ _ w c n s h = h

heard_count : (c : Class) (m n : ℕ) (o : Option Account) → m ≡ n → IsHeard c n o → IsHeard c m o
heard_count c m n o e h = subst (λ (k : ℕ). IsHeard c k o) (sym e) h

heard_answer : (r : Option Refusal) (w : World) (note : Note) (c : Class) (n s : ℕ) → refusal w note ≡ r →
    IsKept (books w) → IsHeard c n ((books w).accounts s) →
    IsHeard c (receive_charges_by w s c note n) ((books (judged_outcome w note r).world).accounts s)
unfolding judged_outcome
heard_answer (Some r) w note c n s e k h = heard_count c _ n _ (counted_refused note r w s c n e)
    (heard_refused note r w c n s h)
heard_answer None w note c n s e k h = heard_count c _ (counted s c note n) _ (counted_done note w s c n e)
    (heard_calm c (counted s c note n) s (books (outcome_of w note).world)
    (books (with_listings_of (outcome_of w note).world (concerned_station w note)))
    (longer_listed (concerned_station w note) (outcome_of w note).world).accounts
    (heard_done note w c n s (no_row (refusals w note) e) k h))

heard_step : (w : World) (note : Note) (c : Class) (n s : ℕ) → IsKept (books w) →
    IsHeard c n ((books w).accounts s) → IsHeard c (receive_charges_by w s c note n)
    ((books (step w note).world).accounts s)
unfolding step
heard_step w note c n s k h = heard_answer (refusal w note) w note c n s refl k h

heard_run : (h : List Entry) (w : World) (c : Class) (n s : ℕ) → IsKept (books w) →
    IsHeard c n ((books w).accounts s) → IsHeard c (receive_charges_in w s c h n)
    ((books (world_after w h)).accounts s)
unfolding world_after
heard_run [] w c n s k i = i
heard_run (e ∷ es) w c n s k i = heard_run es _ c _ s (kept_step w e.1 k) (heard_step w e.1 c n s k i)

received_here : (w : World) (s : ℕ) (c : Class) (n : ℕ) → is_live w s ≡ true →
    IsHeard c n ((books w).accounts s) → IsSame n (share w s c).received
received_here w s c n live h = go (at None w.stations s) refl live h
  where
    go : (o : Option Station) → at None w.stations s ≡ o → is_some o ≡ true →
        IsHeard c n (option_map account o) → IsSame n (share w s c).received
    go None e is k = absurd (cc is)
    go (Some x) e is k = subst (λ (o : Option Station).
        IsSame n (at no_share (unwrap_or o no_station).shares (class_number c)).received) (sym e) k

pub quiet : (config : Config) (h : List Entry) → IsInRange config → QuietLaw config h
quiet config h range m s c live =
    let i : IsSame (receive_charges_in (opening config) s c (take m h) 0)
    (share (world_at config h m) s c).received =
    received_here (world_at config h m) s c _ live
    (heard_run (take m h) (opening config) c 0 s (kept_opening config range) tt) in
    (i.to, i.back)
