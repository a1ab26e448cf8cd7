-- Proves that a live station's charged and received airtime in a class are the sums over its calls since
-- its join. By cases of the call and induction on the run.
use Rattle.std.proofs.Common.{◌≡◌, refl, ap, sym, ◌∙◌, subst, arith, ℕ, ◌+◌, Bool, true, false, if◌then◌else◌, List, [], ◌∷◌, Option, Some, None, is_some, is_none, IfSome, unwrap_or, option_map, ◌&&◌, ◌==◌, eq-eqb, inl, inr}
use Rattle.std.proofs.lemmas.Bool.{cases_eq, ne_eqb}
use Rattle.wf_frame.specs.declared.settings.Config.{Config}
use Rattle.wf_frame.specs.declared.classes.Class.{Class}
use Rattle.wf_frame.specs.declared.notes.Ask.TheVariants.{Join, Leave, Rate, Tick, Pull, Arrive, Answer, Done, Sleep, Wake, Poll, Rx, Reap, Ampdu, Stop, Start, Unsent, GiveUp, Flush, Offload, Weight, Plain, Hold, Begin, Free, Cease, Group, Service, Bss}
use Rattle.wf_frame.specs.declared.notes.Note.{Note}
use Rattle.wf_frame.specs.declared.notes.Note.TheVariants.{Enqueue, Asked}
use Rattle.wf_frame.specs.declared.notes.Refusal.{Refusal}
use Rattle.wf_frame.specs.declared.notes.Refusal.TheVariants.{Idle}
use Rattle.wf_def_lists.specs.Table.{at}
use Rattle.wf_def_world.specs.World.{World, Station, Share, Exchange, no_share, no_station, share, is_live, exchange, opening}
use Rattle.wf_frame.specs.Classes.{class_number, same_class}
use Rattle.wf_def_world.specs.Exchanges.{picked_station, charge_of}
use Rattle.wf_def_world.specs.Refusals.{refusal}
use Rattle.wf_def_world.specs.Step.{Outcome, tick_outcome, done_outcome, rx_outcome, outcome_where_open, outcome_of, after_refusal, judged_outcome, step, concerned_station, pull_outcome}
use Rattle.wf_def_world.specs.Run.{Entry, world_after}
use Rattle.wf_def_world.specs.Stretches.{charge_to, charge_by}
use Rattle.wf_frame.specs.Settings.{IsInRange}
use Rattle.wf_law_runs.specs.Sums.{since_join, air_by, charged_over, received_over}
use Rattle.wf_law_runs.proofs.Common.Refused.{after_idle}
use Rattle.wf_law_runs.proofs.Deficits.Books.{Account, account, Books, books, with_account, on_part, upd_same, upd_other, each_upd, updc_same, updc_other, each_updc, cases_class}
use Rattle.wf_law_runs.proofs.Deficits.BookSteps.{books_ended, books_gone, all_off, books_enqueued, receive_share, books_received, books_reaped, books_slept, books_woken, books_credited, rated, books_with_rate, fresh_account, books_joined, charge_share, pay_share, after, books_after_pick, books_stated, books_stopped, books_started, books_flushed, books_offloaded, books_weighed, reweighed, books_joined_plain, books_held, books_begun, books_freed, books_ceased, books_served, books_moved}
use Rattle.wf_law_runs.proofs.Deficits.Kept.{IsKept, if_map}
use Rattle.wf_law_runs.proofs.Deficits.KeptStep.{IsFound, books_arrived, books_unsent, books_given_up, books_answered, kept_step, kept_opening}
use Rattle.wf_law_runs.proofs.Fairness.OldOrder.{calm_pulled, owing, owing_done, owing_refused}
use Rattle.wf_law_runs.proofs.Deficits.Listing.{longer_listed}
use Rattle.wf_def_world.specs.CanSend.{with_listings_of}

-- The share has the charged airtime p and the received airtime q.
pub record Adds (p q : ℕ) (x : Share) : Type 0 where
  pub charged : x.charged ≡ p
  pub received : x.received ≡ q

abbrev pub HasSum : Class → ℕ → ℕ → Option Account → Type 0
HasSum c p q o = IfSome o (λ a. Adds p q (a.shares c))

-- The sums of an account are these numbers too, if they are equal.
sum_is : (c : Class) (p q p' q' : ℕ) (o : Option Account) → p' ≡ p → q' ≡ q → HasSum c p q o →
    HasSum c p' q' o
sum_is c p q p' q' o e f k = subst (λ (n : ℕ). HasSum c n q' o) (sym e)
    (subst (λ (n : ℕ). HasSum c p n o) (sym f) k)

sum_books : (c : Class) (p q s : ℕ) (a b : Books) → a ≡ b → HasSum c p q (b.accounts s) →
    HasSum c p q (a.accounts s)
sum_books c p q s a b e k = subst (λ (z : Books). HasSum c p q (z.accounts s)) (sym e) k

sum_calm : (c : Class) (p q s : ℕ) (b a : Books) → a.accounts ≡ b.accounts → HasSum c p q (b.accounts s) →
    HasSum c p q (a.accounts s)
sum_calm c p q s b a e k = subst (λ (f : ℕ → Option Account). HasSum c p q (f s)) (sym e) k

-- An account changes by a function that adds to no sum.
sum_on : (c : Class) (p q s i : ℕ) (b : Books) (g : Account → Account) →
    ((a : Account) → Adds p q (a.shares c) → Adds p q ((g a).shares c)) → HasSum c p q (b.accounts s) →
    HasSum c p q ((with_account b i (option_map g (b.accounts i))).accounts s)
sum_on c p q s i b g h = each_upd (λ y o. HasSum c p q (b.accounts y) → HasSum c p q o) b.accounts i
    (option_map g (b.accounts i)) (λ y k. k) (λ k.
    if_map (λ a. Adds p q (a.shares c)) (λ a. Adds p q (a.shares c)) g (b.accounts i) k (λ a _ z. h a z)) s

-- Giving quanta to a share changes no sum.
sum_paid : (c d : Class) (p q n quantum : ℕ) (a : Account) → Adds p q (a.shares c) →
    Adds p q ((on_part d (pay_share quantum n) a).shares c)
sum_paid c d p q n quantum a = each_updc (λ e x. Adds p q (a.shares e) → Adds p q x) a.shares d
    (pay_share quantum n (a.shares d)) (λ e k. k)
    (λ k. record { charged = k.charged; received = k.received }) c

sum_after : (c : Class) (p q s : ℕ) (w : World) (d : Class) → HasSum c p q ((books w).accounts s) →
    HasSum c p q ((after (books w) d (picked_station w d)).accounts s)
sum_after c p q s w d k = if_map (λ a. Adds p q (a.shares c)) (λ a. Adds p q (a.shares c)) _
    ((books w).accounts s) k (λ a _ z. sum_paid c d p q _ _ a z)

sum_joined : (c : Class) (p q s i quantum weight : ℕ) (b : Books) → HasSum c p q (b.accounts s) →
    HasSum c (if i == s then 0 else p) (if i == s then 0 else q)
    ((with_account b i (Some (fresh_account quantum weight))).accounts s)
sum_joined c p q s i quantum weight b k = elim (cases_eq s i) [
  | inl e ↦
      let here : (with_account b i (Some (fresh_account quantum weight))).accounts s
      ≡ Some (fresh_account quantum weight) = ap
      (with_account b i (Some (fresh_account quantum weight))).accounts e
      ∙ upd_same b.accounts i (Some (fresh_account quantum weight)) in
      rw (here, eq-eqb i s (sym e)) (record { charged = refl; received = refl })
  | inr other ↦ rw (
    upd_other b.accounts i s (Some (fresh_account quantum weight)) other,
    ne_eqb i s (λ e. other (sym e)),
  ) k
]

sum_gone : (c : Class) (p q s i : ℕ) (b : Books) → HasSum c p q (b.accounts s) →
    HasSum c p q ((with_account (all_off b i) i None).accounts s)
sum_gone c p q s i b k = each_upd (λ y o. HasSum c p q (b.accounts y) → HasSum c p q o) b.accounts i None
    (λ y h. h) (λ _. tt) s k

-- One share of one account changes by f, which adds m to the charged and n to the received airtime.
sum_part : (c d : Class) (p q s i m n : ℕ) (b : Books) (f : Share → Share)
    → ((x : Share) → Adds p q x → Adds (p + m) (q + n) (f x))
    → HasSum c p q (b.accounts s)
    → HasSum c (p + (if (i == s) && same_class d c then m else 0))
    (q + (if (i == s) && same_class d c then n else 0))
    ((with_account b i (option_map (on_part d f) (b.accounts i))).accounts s)
sum_part c d p q s i m n b f h k = elim (cases_eq s i) [
  | inl e ↦
      let here : (with_account b i (option_map (on_part d f) (b.accounts i))).accounts s
      ≡ option_map (on_part d f) (b.accounts i) =
      ap (with_account b i (option_map (on_part d f) (b.accounts i))).accounts e ∙ upd_same b.accounts i _ in
      let k' : HasSum c p q (b.accounts i) = subst (λ (z : ℕ). HasSum c p q (b.accounts z)) e k in
      rw (here, eq-eqb i s (sym e)) (elim (cases_class d c) [
        | inl same ↦ rw (eq-eqb (class_number d) (class_number c) (ap class_number same))
            (if_map (λ a. Adds p q (a.shares c)) (λ a. Adds (p + m) (q + n) (a.shares c)) (on_part d f)
            (b.accounts i) k' (λ a _ z.
            subst (λ (y : Class). Adds p q (a.shares y) → Adds (p + m) (q + n) ((on_part d f a).shares y))
            same
            (λ y. subst (Adds (p + m) (q + n)) (sym (updc_same a.shares d (f (a.shares d))))
            (h (a.shares d) y)) z))
        | inr differs ↦ rw (ne_eqb (class_number d) (class_number c) differs)
            (sum_is c p q (p + 0) (q + 0) _ (omega arith) (omega arith)
            (if_map (λ a. Adds p q (a.shares c)) (λ a. Adds p q (a.shares c)) (on_part d f) (b.accounts i) k'
            (λ a _ z.
            subst (Adds p q) (sym (updc_other a.shares d c (f (a.shares d)) (λ e. differs (sym e)))) z)))
      ])
  | inr other ↦ rw (
    upd_other b.accounts i s (option_map (on_part d f) (b.accounts i)) other,
    ne_eqb i s (λ e. other (sym e)),
  )
      (sum_is c p q (p + 0) (q + 0) _ (omega arith) (omega arith) k)
]

nothing_if : (b : Bool) → ◌≡◌ {A = ℕ} (if b then 0 else 0) 0
nothing_if true = refl
nothing_if false = refl

-- ---- the step

-- Returns a sum after a call that is not refused, without the airtime that the call adds.
abbrev begun : ℕ → Note → ℕ → ℕ
begun s (Asked (Join i window start exponent weight)) n = if i == s then 0 else n
begun s (Asked (Offload i exponent weight)) n = if i == s then 0 else n
begun s (Asked (Plain i start exponent weight)) n = if i == s then 0 else n
begun s _ n = n

abbrev sending : ℕ → Class → Note → ℕ
sending s c (Asked (Rx i d air)) = if (i == s) && same_class d c then air else 0
sending s c _ = 0

begun_done : (note : Note) (w : World) (s n : ℕ) → refusal w note ≡ None →
    since_join w s note n ≡ begun s note n
begun_done (Asked (Join i window start exponent weight)) w s n h =
    ap (λ (o : Option Refusal). if is_none o && (i == s) then 0 else n) h
begun_done (Asked (Offload i exponent weight)) w s n h =
    ap (λ (o : Option Refusal). if is_none o && (i == s) then 0 else n) h
begun_done (Asked (Plain i start exponent weight)) w s n h =
    ap (λ (o : Option Refusal). if is_none o && (i == s) then 0 else n) h
begun_done _ w s n h = refl

begun_refused : (note : Note) (r : Refusal) (w : World) (s n : ℕ) → refusal w note ≡ Some r →
    since_join w s note n ≡ n
begun_refused (Asked (Join i window start exponent weight)) r w s n h =
    ap (λ (o : Option Refusal). if is_none o && (i == s) then 0 else n) h
begun_refused (Asked (Offload i exponent weight)) r w s n h =
    ap (λ (o : Option Refusal). if is_none o && (i == s) then 0 else n) h
begun_refused (Asked (Plain i start exponent weight)) r w s n h =
    ap (λ (o : Option Refusal). if is_none o && (i == s) then 0 else n) h
begun_refused _ r w s n h = refl

sending_done : (note : Note) (w : World) (s : ℕ) (c : Class) → refusal w note ≡ None →
    air_by w s c note ≡ sending s c note
sending_done (Asked (Rx i d air)) w s c h = ap
    (λ (o : Option Refusal). if is_none o && ((i == s) && same_class d c) then air else 0) h
sending_done _ w s c h = refl

sending_refused : (note : Note) (r : Refusal) (w : World) (s : ℕ) (c : Class) → refusal w note ≡ Some r →
    air_by w s c note ≡ 0
sending_refused (Asked (Rx i d air)) r w s c h =
    ap (λ (o : Option Refusal). if is_none o && ((i == s) && same_class d c) then air else 0) h
sending_refused _ r w s c h = refl

still : (c : Class) (p q : ℕ) (o : Option Account) → HasSum c p q o → HasSum c (p + 0) (q + 0) o
still c p q o k = sum_is c p q (p + 0) (q + 0) o (omega arith) (omega arith) k

sum_ended : (air : Option ℕ) (w : World) (x : Exchange) (heard : Bool) (c : Class) (p q s : ℕ) →
    HasSum c p q ((books w).accounts s) → HasSum c (p + charge_to s c air (Some x)) (q + 0)
    ((books (done_outcome w x heard air).world).accounts s)
sum_ended air w x heard c p q s k =
    let none : (if (x.station == s) && same_class x.class c then 0 else 0) ≡ 0 = nothing_if _ in
    let part = sum_part c x.class p q s x.station (charge_of air x) 0 (books w)
    (charge_share (charge_of air x))
    (λ y a. record { charged = omega (arith, a.charged); received = omega (arith, a.received) }) k in
    sum_books c _ _ s _ _ (books_ended air w x heard) (sum_is c _ _ _ _ _ refl (omega (arith, none)) part)

sum_received : (w : World) (i : ℕ) (d : Class) (air : ℕ) (c : Class) (p q s : ℕ) →
    HasSum c p q ((books w).accounts s) → HasSum c (p + 0)
    (q + (if (i == s) && same_class d c then air else 0)) ((books (rx_outcome w i d air).world).accounts s)
sum_received w i d air c p q s k =
    let none : (if (i == s) && same_class d c then 0 else 0) ≡ 0 = nothing_if _ in
    let part = sum_part c d p q s i 0 air (books w) (receive_share air)
    (λ y a. record { charged = omega (arith, a.charged); received = omega (arith, a.received) }) k in
    sum_books c _ _ s _ _ (books_received w i d air) (sum_is c _ _ _ _ _ (omega (arith, none)) refl part)

sum_open : (w : World) (e : ℕ) (o : Option Exchange) (f : Exchange → Outcome) (c : Class) (p q s : ℕ)
    (m : Option Exchange → ℕ) → m None ≡ 0 → exchange w e ≡ o
    → HasSum c p q ((books w).accounts s)
    → ((x : Exchange) → IsFound w e x → HasSum c (p + m (Some x)) (q + 0) ((books (f x).world).accounts s))
    → HasSum c (p + m o) (q + 0) ((books (outcome_where_open w o f).world).accounts s)
unfolding outcome_where_open
sum_open w e None f c p q s m none k i h = sum_is c p q _ _ _ (omega (arith, none)) (omega arith) i
sum_open w e (Some x) f c p q s m none k i h = h x k

sum_done : (note : Note) (w : World) (c : Class) (p q s : ℕ) → IsKept (books w) →
    HasSum c p q ((books w).accounts s) → HasSum c (begun s note p + owing w s c note)
    (begun s note q + sending s c note) ((books (outcome_of w note).world).accounts s)
unfolding outcome_of tick_outcome
sum_done (Enqueue i t flow len) w c p q s k h =
    still c p q _ (sum_books c p q s _ _ (books_enqueued w i t flow len) h)
sum_done (Asked (Join i window start exponent weight)) w c p q s k h =
    still c _ _ _ (sum_books c _ _ s _ _ (books_joined w i window start exponent weight)
    (sum_joined c p q s i w.config.quantum weight (books w) h))
sum_done (Asked (Offload i exponent weight)) w c p q s k h =
    still c _ _ _ (sum_books c _ _ s _ _ (books_offloaded w i exponent weight)
    (sum_joined c p q s i w.config.quantum weight (books w) h))
sum_done (Asked (Plain i start exponent weight)) w c p q s k h =
    still c _ _ _ (sum_books c _ _ s _ _ (books_joined_plain w i start exponent weight)
    (sum_joined c p q s i w.config.quantum weight (books w) h))
sum_done (Asked (Weight i weight)) w c p q s k h =
    still c p q _ (sum_books c p q s _ _ (books_weighed w i weight)
    (sum_on c p q s i (books w) (reweighed w.config (books w).opened i weight)
    (λ a z. record { charged = z.charged; received = z.received }) h))
sum_done (Asked (Leave i)) w c p q s k h = still c p q _
    (sum_books c p q s _ _ (books_gone w i) (sum_gone c p q s i (books w) h))
sum_done (Asked (Rate i rate)) w c p q s k h =
    still c p q _ (sum_books c p q s _ _ (books_with_rate w i rate)
    (sum_on c p q s i (books w) (rated rate) (λ a z. z) h))
sum_done (Asked (Tick by)) w c p q s k h = still c p q _ h
sum_done (Asked (Pull d l)) w c p q s k h = still c p q _
    (sum_calm c p q s (after (books w) d (picked_station w d)) (books (pull_outcome w d l).world)
    (calm_pulled w d l).accounts (sum_after c p q s w d h))
sum_done (Asked (Arrive e j)) w c p q s k h =
    sum_open w e (exchange w e) _ c p q s (λ _. 0) refl refl h
    (λ x f. still c p q _ (sum_books c p q s _ _ (books_arrived w e j x k f) h))
sum_done (Asked (Unsent e j)) w c p q s k h =
    sum_open w e (exchange w e) _ c p q s (λ _. 0) refl refl h
    (λ x f. still c p q _ (sum_books c p q s _ _ (books_unsent w e j x k f) h))
sum_done (Asked (GiveUp e j)) w c p q s k h =
    sum_open w e (exchange w e) _ c p q s (λ _. 0) refl refl h
    (λ x f. still c p q _ (sum_books c p q s _ _ (books_given_up w e j x k f) h))
sum_done (Asked (Answer e)) w c p q s k h = sum_open w e (exchange w e) _ c p q s (λ _. 0) refl refl h
    (λ x f. still c p q _ (sum_books c p q s _ _ (books_answered w e x k f) h))
sum_done (Asked (Done e heard air)) w c p q s k h =
    sum_open w e (exchange w e) _ c p q s (λ o. charge_to s c air o) refl refl h
    (λ x f. sum_ended air w x heard c p q s h)
sum_done (Asked (Sleep i)) w c p q s k h = still c p q _ (sum_books c p q s _ _ (books_slept w i) h)
sum_done (Asked (Ampdu i octets)) w c p q s k h =
    still c p q _ (sum_books c p q s _ _ (books_stated w i octets) h)
sum_done (Asked (Stop i)) w c p q s k h = still c p q _ (sum_books c p q s _ _ (books_stopped w i) h)
sum_done (Asked (Start i)) w c p q s k h = still c p q _ (sum_books c p q s _ _ (books_started w i) h)
sum_done (Asked (Flush i t)) w c p q s k h = still c p q _ (sum_books c p q s _ _ (books_flushed w i t) h)
sum_done (Asked (Hold i t)) w c p q s k h = still c p q _ (sum_books c p q s _ _ (books_held w i t) h)
sum_done (Asked (Begin i t window)) w c p q s k h =
    still c p q _ (sum_books c p q s _ _ (books_begun w i t window) h)
sum_done (Asked (Free i t)) w c p q s k h = still c p q _ (sum_books c p q s _ _ (books_freed w i t) h)
sum_done (Asked (Cease i t)) w c p q s k h = still c p q _ (sum_books c p q s _ _ (books_ceased w i t) h)
sum_done (Asked (Wake i)) w c p q s k h = still c p q _ (sum_books c p q s _ _ (books_woken w i) h)
sum_done (Asked (Poll i)) w c p q s k h = still c p q _ (sum_books c p q s _ _ (books_credited w i) h)
sum_done (Asked (Rx i d air)) w c p q s k h = sum_received w i d air c p q s h
sum_done (Asked Reap) w c p q s k h = still c p q _ (sum_books c p q s _ _ (books_reaped w.finished w) h)
sum_done (Asked (Group ask)) w c p q s k h = still c p q _ h
sum_done (Asked (Service ask)) w c p q s k h = still c p q _ (sum_books c p q s _ _ (books_served w ask) h)
sum_done (Asked (Bss i b)) w c p q s k h =
    still c p q _ (sum_books c p q s _ _ (books_moved w i b) h)

sum_refused : (note : Note) (r : Refusal) (w : World) (c : Class) (p q s : ℕ) →
    HasSum c p q ((books w).accounts s) → HasSum c p q ((books (after_refusal w note r)).accounts s)
unfolding after_refusal
sum_refused (Asked (Pull d l)) Idle w c p q s h =
    after_idle (λ v. HasSum c p q ((books v).accounts s)) w d h
    (sum_books c p q s _ _ (books_after_pick w d) (sum_after c p q s w d h))
sum_refused _ _ w c p q s h = h

sum_answer : (r : Option Refusal) (w : World) (note : Note) (c : Class) (p q s : ℕ) → refusal w note ≡ r →
    IsKept (books w) → HasSum c p q ((books w).accounts s)
    → HasSum c (since_join w s note p + charge_by w s c note) (since_join w s note q + air_by w s c note)
    ((books (judged_outcome w note r).world).accounts s)
unfolding judged_outcome
sum_answer (Some r) w note c p q s e k h =
    sum_is c p q _ _ _ (omega (arith, begun_refused note r w s p e, owing_refused note r w s c e))
    (omega (arith, begun_refused note r w s q e, sending_refused note r w s c e))
    (sum_refused note r w c p q s h)
sum_answer None w note c p q s e k h =
    sum_is c (begun s note p + owing w s c note) (begun s note q + sending s c note) _ _ _
    (omega (arith, begun_done note w s p e, owing_done note w s c e))
    (omega (arith, begun_done note w s q e, sending_done note w s c e))
    (sum_calm c _ _ s (books (outcome_of w note).world)
    (books (with_listings_of (outcome_of w note).world (concerned_station w note)))
    (longer_listed (concerned_station w note) (outcome_of w note).world).accounts
    (sum_done note w c p q s k h))

pub sum_step : (w : World) (note : Note) (c : Class) (p q s : ℕ) → IsKept (books w) →
    HasSum c p q ((books w).accounts s)
    → HasSum c (since_join w s note p + charge_by w s c note) (since_join w s note q + air_by w s c note)
    ((books (step w note).world).accounts s)
unfolding step
sum_step w note c p q s k h = sum_answer (refusal w note) w note c p q s refl k h

sum_run : (h : List Entry) (w : World) (c : Class) (p q s : ℕ) → IsKept (books w) →
    HasSum c p q ((books w).accounts s) → HasSum c (charged_over w s c h p) (received_over w s c h q)
    ((books (world_after w h)).accounts s)
unfolding world_after
sum_run [] w c p q s k i = i
sum_run (e ∷ es) w c p q s k i = sum_run es _ c _ _ s (kept_step w e.1 k) (sum_step w e.1 c p q s k i)

-- The share of a live station has the charged airtime p and the received airtime q.
pub record HasAdded (p q : ℕ) (x : Share) : Type 0 where
  pub charged : x.charged ≡ p
  pub received : x.received ≡ q

pub added_here : (w : World) (s : ℕ) (c : Class) (p q : ℕ) → is_live w s ≡ true →
    HasSum c p q ((books w).accounts s) → HasAdded p q (share w s c)
added_here w s c p q live h = go (at None w.stations s) refl live h
  where
    go : (o : Option Station) → at None w.stations s ≡ o → is_some o ≡ true →
        HasSum c p q (option_map account o) → HasAdded p q (share w s c)
    go None e is k = absurd (cc is)
    go (Some x) e is k = subst (λ (o : Option Station).
        HasAdded p q (at no_share (unwrap_or o no_station).shares (class_number c))) (sym e)
        (record { charged = k.charged; received = k.received })

-- This holds in every world of a run.
pub added : (config : Config) (h : List Entry) (s : ℕ) (c : Class) → IsInRange config →
    is_live (world_after (opening config) h) s ≡ true
    → HasAdded (charged_over (opening config) s c h 0) (received_over (opening config) s c h 0)
    (share (world_after (opening config) h) s c)
added config h s c range live = added_here (world_after (opening config) h) s c _ _ live
    (sum_run h (opening config) c 0 0 s (kept_opening config range) tt)
