-- Proves that the quanta of a station that waits are covered by its open exchanges and by what it is charged
-- for what it sends: a station gets a quantum only if its standing is not above 0. By cases of the call, and
-- by induction on the entries.
use Rattle.std.proofs.Common.{◌≡◌, refl, ap, sym, ◌∙◌, subst, arith, ℕ, zero, suc, ◌+◌, ◌-◌, ◌*◌, ◌≤◌, ℤ, pos, ◌+ℤ◌, ◌-ℤ◌, ◌≤ℤ◌, Bool, true, false, if◌then◌else◌, List, [], ◌∷◌, ◌++◌, take, map, Option, Some, None, is_some, IfSome, unwrap_or, option_map, ◌==◌, inl, inr, ◌⊎◌}
use Rattle.std.proofs.lemmas.Int.{ints}
use Rattle.wf_frame.specs.declared.settings.Config.{Config}
use Rattle.wf_frame.specs.declared.classes.Class.{Class}
use Rattle.wf_frame.specs.declared.notes.Ask.TheVariants.{Join, Leave, Rate, Tick, Pull, Arrive, Answer, Done, Sleep, Wake, Poll, Rx, Reap, Ampdu, Stop, Start, Unsent, GiveUp, Flush, Offload, Weight, Plain, Hold, Begin, Free, Cease, Group, Service, Bss}
use Rattle.wf_frame.specs.declared.notes.Limits.{Limits}
use Rattle.wf_frame.specs.declared.notes.Note.{Note}
use Rattle.wf_frame.specs.declared.notes.Note.TheVariants.{Enqueue, Asked}
use Rattle.wf_frame.specs.declared.notes.Refusal.{Refusal}
use Rattle.wf_frame.specs.declared.notes.Refusal.TheVariants.{Idle}
use Rattle.wf_def_lists.specs.Table.{at}
use Rattle.wf_def_lists.specs.Lists.{on}
use Rattle.wf_def_rotation.specs.Rotation.{in_order, need_of}
use Rattle.wf_def_world.specs.World.{World, Share, Exchange, no_station, owed, station, share, rotation, is_live, exchange}
use Rattle.wf_def_world.specs.CanSend.{with_listings_of}
use Rattle.wf_def_world.specs.Exchanges.{picked_station, after_pick, charge_of, longest_computed}
use Rattle.wf_def_world.specs.Refusals.{refusals, refusal}
use Rattle.wf_def_world.specs.Step.{Outcome, tick_outcome, pull_outcome, outcome_where_open, outcome_of, concerned_station, after_refusal, judged_outcome, step}
use Rattle.wf_def_world.specs.Run.{Entry, world_after}
use Rattle.wf_law_runs.specs.Deficits.{longest_exchange}
use Rattle.wf_law_runs.specs.Shares.{receipts}
use Rattle.wf_law_runs.specs.Waiting.{sends}
use Rattle.wf_law_runs.proofs.Common.Refused.{after_idle}
use Rattle.wf_law_runs.proofs.Common.Limits.{with_limits}
use Rattle.wf_law_runs.proofs.Deficits.Books.{Account, account, core, Books, books, with_account, on_part, upd_same, upd_other, each_upd, updc_same, updc_other, cases_class}
use Rattle.wf_law_runs.proofs.Deficits.BookSteps.{with_opened, charge_share, with_charge, receive_share, rated, pay_share, paid, after, books_ended, books_gone, all_off, books_enqueued, books_received, books_reaped, books_slept, books_woken, books_credited, books_with_rate, books_joined, books_after_pick, books_stated, books_stopped, books_started, books_flushed, books_offloaded, books_weighed, reweighed, books_joined_plain, books_held, books_begun, books_freed, books_ceased, books_served, books_moved}
use Rattle.wf_law_runs.proofs.Deficits.Bounds.{counted, paid_some}
use Rattle.wf_law_runs.proofs.Deficits.Kept.{IsKept, counted_in, need_in, at_stake, IsOpen}
use Rattle.wf_law_runs.proofs.Deficits.KeptStep.{NoRow, no_row, live_account, is_pick, IsFound, books_arrived, books_unsent, books_given_up, books_answered}
use Rattle.wf_law_runs.proofs.Deficits.Listing.{longer_listed}
use Rattle.wf_law_runs.proofs.Fairness.OldOrder.{acc, map_or, quanta_charge, quanta_receive}
use Rattle.wf_law_runs.proofs.Shares.Turns.{pulled_by}
use Rattle.wf_law_runs.proofs.Deficits.Openings.{every_map, owed-core, owed_reserved}
use Rattle.std.proofs.Math.Nat.{le-max_left}
use Rattle.wf_law_runs.proofs.Deficits.Shares.{IsMoney}
use Rattle.wf_law_runs.proofs.Fairness.Law.{acc_is, take_take}
use Rattle.wf_law_runs.proofs.Shares.Stretch.{Fits, marks_live, IsGround, ground_run, ground_money, Held, held_run, next_case, world_append, receipts_append}
use Rattle.wf_law_runs.proofs.Shares.Sends.{Less, less_run}
use Rattle.wf_def_world.specs.Stretches.{charges}

-- An account a becomes a' without a quantum in the class, or with a deficit that is at most m above one
-- quantum, and without a charge.
abbrev Gets : ℕ → ℕ → Class → Account → Account → Type 0
Gets q m c a a' = ((a'.shares c).quanta ≡ (a.shares c).quanta)
    ⊎ (((a'.shares c).deficit ≤ℤ pos (q * a.weight + m)) × ((a'.shares c).charged ≡ (a.shares c).charged))

-- A call gives s no quantum in the class, or it leaves its deficit at most one quantum above the computed
-- airtime that it had in flight before, and charges it nothing.
pub record Grants (c : Class) (s : ℕ) (b b' : Books) : Type 0 where
  pub gets : Gets b.config.quantum (owed s c b.opened) c (acc b s) (acc b' s)

grants_acc : (c : Class) (s : ℕ) (b b' : Books) → acc b' s ≡ acc b s → Grants c s b b'
grants_acc c s b b' e = record { gets = inl (ap (λ (a : Account). (a.shares c).quanta) e) }

grants_same : (c : Class) (s : ℕ) (b b' : Books) → b' ≡ b → Grants c s b b'
grants_same c s b b' e = grants_acc c s b b' (ap (λ (z : Books). acc z s) e)

grants_books : (c : Class) (s : ℕ) (b d b' : Books) → b' ≡ d → Grants c s b d → Grants c s b b'
grants_books c s b d b' e h = subst (Grants c s b) (sym e) h

-- Only accounts that stay matter.
grants_kept : (c : Class) (s : ℕ) (b d b' : Books) → b'.accounts ≡ d.accounts → Grants c s b d →
    Grants c s b b'
grants_kept c s b d b' e h =
    let same : acc b' s ≡ acc d s =
    ap (λ (f : ℕ → Option Account). unwrap_or (f s) (account no_station)) e in
    record { gets = subst (Gets b.config.quantum (owed s c b.opened) c (acc b s)) (sym same) h.gets }

grants_other : (c : Class) (s i : ℕ) (b : Books) (o : Option Account) → (s ≡ i → ⊥) →
    Grants c s b (with_account b i o)
grants_other c s i b o other = grants_acc c s b (with_account b i o)
    (ap (λ (p : Option Account). unwrap_or p (account no_station)) (upd_other b.accounts i s o other))

-- An account changes by a function that gives no quanta.
grants_on : (c : Class) (s i : ℕ) (b : Books) (g : Account → Account) →
    ((a : Account) → ((g a).shares c).quanta ≡ (a.shares c).quanta) →
    Grants c s b (with_account b i (option_map g (b.accounts i)))
grants_on c s i b g h = record {
  gets = inl (each_upd (λ y o. ((unwrap_or o (account no_station)).shares c).quanta
      ≡ ((acc b y).shares c).quanta) b.accounts i (option_map g (b.accounts i)) (λ y. refl)
      (map_or (λ a a'. (a'.shares c).quanta ≡ (a.shares c).quanta) g (b.accounts i) (λ a _. h a)
      (λ _. refl)) s);
}

-- ---- a pick

counted_under : (config : Config) (n : ℕ) → counted config n ≤ n
counted_under config n = go (config.pending == 1)
  where
    go : (t : Bool) → (if t then n else 0) ≤ n
    go true = omega arith
    go false = omega arith

once_most : (m n k : ℕ) → m ≤ 1 → n ≤ k → m * n ≤ k
once_most zero n k h e = omega arith
once_most (suc zero) n k h e = omega arith
once_most (suc (suc m)) n k h e = absurd (omega arith)

paid_class : (q k n m : ℕ) (c : Class) (a : Account) →
    k ≤ need_of (q * a.weight) ((a.shares c).deficit -ℤ pos n) →
    n ≤ m → Gets q m c a (paid q c k a)
paid_class q k n m c a need less =
    rw (updc_same a.shares c (pay_share (q * a.weight) k (a.shares c))) (go k need)
  where
    over : (d : ℤ) (g u : ℕ) → ((d -ℤ pos n) +ℤ pos g) ≤ℤ pos u → (d +ℤ pos g) ≤ℤ pos (u + m)
    over d g u h = omega (arith, ints)

    go : (k : ℕ) → k ≤ need_of (q * a.weight) ((a.shares c).deficit -ℤ pos n) →
        ((a.shares c).quanta + k ≡ (a.shares c).quanta)
        ⊎ ((((a.shares c).deficit +ℤ pos (k * (q * a.weight))) ≤ℤ pos (q * a.weight + m)) ×
        ((a.shares c).charged ≡ (a.shares c).charged))
    go zero h = inl (omega arith)
    go (suc k) h = inr (
      over (a.shares c).deficit (suc k * (q * a.weight)) (q * a.weight)
          (paid_some (q * a.weight) (suc k) ((a.shares c).deficit -ℤ pos n) (omega arith) h),
      refl,
    )

grants_class : (w : World) (c : Class) (s : ℕ) → IsKept (books w) →
    Grants c s (books w) (after (books w) c (picked_station w c))
grants_class w c s i = record { gets = go ((books w).accounts s) ((is_pick w c).needed s) }
  where
    k : ℕ
    k = on (in_order (rotation w c)) s * (picked_station w c).quanta s

    go : (o : Option Account) → IfSome o (λ a. (picked_station w c).quanta s ≤ need_in (books w) s c a) →
        Gets w.config.quantum (owed s c (books w).opened) c (unwrap_or o (account no_station))
        (unwrap_or (option_map (paid w.config.quantum c k) o) (account no_station))
    go None h = inl refl
    go (Some a) h = paid_class w.config.quantum k (counted_in w.config s c (books w).opened)
        (owed s c (books w).opened) c a (once_most _ _ _ (i.once c s) h)
        (counted_under w.config (owed s c (books w).opened))

grants_after : (w : World) (d c : Class) (s : ℕ) → IsKept (books w) →
    Grants c s (books w) (after (books w) d (picked_station w d))
grants_after w d c s i = elim (cases_class c d) [
  | inl e ↦ subst (λ (z : Class). Grants z s (books w) (after (books w) d (picked_station w d))) (sym e)
      (grants_class w d s i)
  | inr other ↦ record {
    gets = inl (map_or (λ a a'. (a'.shares c).quanta ≡ (a.shares c).quanta)
        (paid w.config.quantum d (on (in_order (rotation w d)) s * (picked_station w d).quanta s))
        ((books w).accounts s)
        (λ a _. ap (λ (x : Share). x.quanta) (updc_other a.shares d c _ other)) (λ _. refl));
  }
]

grants_pulled : (w : World) (d c : Class) (l : Limits) (s : ℕ) → IsKept (books w) →
    Grants c s (books w) (books (pull_outcome w d l).world)
unfolding pull_outcome
grants_pulled w d c l s i = pulled_by (Grants c s (books w)) (picked_station w d).winner (with_limits w d l) d
    (λ _. picks)
    (λ k x _ _ _. grants_kept c s (books w) (books (after_pick w d)) (with_opened (books (after_pick w d)) x)
    refl picks)
  where
    picks : Grants c s (books w) (books (after_pick w d))
    picks = grants_books c s (books w) _ _ (books_after_pick w d) (grants_after w d c s i)

-- ---- the calls

grants_open : (o : Option Exchange) (w : World) (e : ℕ) (c : Class) (s : ℕ) (f : Exchange → Outcome) →
    exchange w e ≡ o → ((x : Exchange) → IsFound w e x → Grants c s (books w) (books (f x).world)) →
    Grants c s (books w) (books (outcome_where_open w o f).world)
unfolding outcome_where_open
grants_open None w e c s f k h = grants_same c s _ _ refl
grants_open (Some x) w e c s f k h = h x k

pub differs : (w : World) (i s : ℕ) → is_live w i ≡ false → is_live w s ≡ true → s ≡ i → ⊥
differs w i s dead live e = cc (dead, subst (λ (z : ℕ). is_live w z ≡ true) e live)

pub gone_other : (b : Books) (i s : ℕ) → is_some ((with_account (all_off b i) i None).accounts s) ≡ true →
    s ≡ i → ⊥
gone_other b i s live e =
    let none : (with_account (all_off b i) i None).accounts s ≡ None =
    subst (λ (z : ℕ). (with_account (all_off b i) i None).accounts z ≡ None) (sym e)
    (upd_same b.accounts i None) in
    cc (ap is_some none, live)

grants_done : (note : Note) (w : World) (c : Class) (s : ℕ) → NoRow (refusals w note) → IsKept (books w) →
    is_live w s ≡ true → is_some ((books (outcome_of w note).world).accounts s) ≡ true →
    Grants c s (books w) (books (outcome_of w note).world)
unfolding outcome_of tick_outcome
grants_done (Enqueue i t flow len) w c s r k live still = grants_same c s _ _ (books_enqueued w i t flow len)
grants_done (Asked (Join i window start exponent weight)) w c s r k live still =
    grants_books c s (books w) _ _ (books_joined w i window start exponent weight)
    (grants_other c s i (books w) _ (differs w i s r.1.1.1.1.1.0 live))
grants_done (Asked (Offload i exponent weight)) w c s r k live still =
    grants_books c s (books w) _ _ (books_offloaded w i exponent weight)
    (grants_other c s i (books w) _ (differs w i s r.1.1.1.0 live))
grants_done (Asked (Plain i start exponent weight)) w c s r k live still =
    grants_books c s (books w) _ _ (books_joined_plain w i start exponent weight)
    (grants_other c s i (books w) _ (differs w i s r.1.1.1.1.0 live))
grants_done (Asked (Weight i weight)) w c s r k live still =
    grants_books c s (books w) _ _ (books_weighed w i weight)
    (grants_on c s i (books w) (reweighed w.config (books w).opened i weight) (λ a. refl))
grants_done (Asked (Leave i)) w c s r k live still = grants_books c s (books w) _ _ (books_gone w i)
    (grants_kept c s (books w) (with_account (books w) i None) _ refl
    (grants_other c s i (books w) None (gone_other (books w) i s
    (subst (λ (b : Books). is_some (b.accounts s) ≡ true) (books_gone w i) still))))
grants_done (Asked (Rate i rate)) w c s r k live still =
    grants_books c s (books w) _ _ (books_with_rate w i rate)
    (grants_on c s i (books w) (rated rate) (λ a. refl))
grants_done (Asked (Tick by)) w c s r k live still = grants_same c s _ _ refl
grants_done (Asked (Pull d l)) w c s r k live still = grants_pulled w d c l s k
grants_done (Asked (Arrive e j)) w c s r k live still = grants_open (exchange w e) w e c s _ refl
    (λ x f. grants_same c s _ _ (books_arrived w e j x k f))
grants_done (Asked (Unsent e j)) w c s r k live still = grants_open (exchange w e) w e c s _ refl
    (λ x f. grants_same c s _ _ (books_unsent w e j x k f))
grants_done (Asked (GiveUp e j)) w c s r k live still = grants_open (exchange w e) w e c s _ refl
    (λ x f. grants_same c s _ _ (books_given_up w e j x k f))
grants_done (Asked (Answer e)) w c s r k live still = grants_open (exchange w e) w e c s _ refl
    (λ x f. grants_same c s _ _ (books_answered w e x k f))
grants_done (Asked (Done e heard air)) w c s r k live still = grants_open (exchange w e) w e c s _ refl
    (λ x f. grants_books c s (books w) _ _ (books_ended air w x heard)
    (grants_kept c s (books w) (with_charge (books w) x.station x.class (charge_of air x)) _ refl
    (grants_on c s x.station (books w) (on_part x.class (charge_share (charge_of air x)))
    (quanta_charge c x.class (charge_of air x)))))
grants_done (Asked (Sleep i)) w c s r k live still = grants_same c s _ _ (books_slept w i)
grants_done (Asked (Ampdu i octets)) w c s r k live still = grants_same c s _ _ (books_stated w i octets)
grants_done (Asked (Stop i)) w c s r k live still = grants_same c s _ _ (books_stopped w i)
grants_done (Asked (Start i)) w c s r k live still = grants_same c s _ _ (books_started w i)
grants_done (Asked (Flush i t)) w c s r k live still = grants_same c s _ _ (books_flushed w i t)
grants_done (Asked (Hold i t)) w c s r k live still = grants_same c s _ _ (books_held w i t)
grants_done (Asked (Begin i t window)) w c s r k live still = grants_same c s _ _ (books_begun w i t window)
grants_done (Asked (Free i t)) w c s r k live still = grants_same c s _ _ (books_freed w i t)
grants_done (Asked (Cease i t)) w c s r k live still = grants_same c s _ _ (books_ceased w i t)
grants_done (Asked (Wake i)) w c s r k live still = grants_same c s _ _ (books_woken w i)
grants_done (Asked (Poll i)) w c s r k live still = grants_same c s _ _ (books_credited w i)
grants_done (Asked (Rx i d air)) w c s r k live still =
    grants_books c s (books w) _ _ (books_received w i d air)
    (grants_on c s i (books w) (on_part d (receive_share air)) (quanta_receive c d air))
grants_done (Asked Reap) w c s r k live still = grants_same c s _ _ (books_reaped w.finished w)
grants_done (Asked (Group ask)) w c s r k live still = grants_same c s _ _ refl
grants_done (Asked (Service ask)) w c s r k live still = grants_same c s _ _ (books_served w ask)
grants_done (Asked (Bss i b)) w c s r k live still = grants_same c s _ _ (books_moved w i b)

grants_refused : (note : Note) (r : Refusal) (w : World) (c : Class) (s : ℕ) → IsKept (books w) →
    Grants c s (books w) (books (after_refusal w note r))
unfolding after_refusal
grants_refused (Asked (Pull d l)) Idle w c s k = after_idle (λ v. Grants c s (books w) (books v)) w d
    (grants_same c s _ _ refl)
    (grants_books c s (books w) _ _ (books_after_pick w d) (grants_after w d c s k))
grants_refused _ _ w c s k = grants_same c s _ _ refl

grants_answer : (r : Option Refusal) (w : World) (note : Note) (c : Class) (s : ℕ) → refusal w note ≡ r →
    IsKept (books w) → is_live w s ≡ true →
    is_some ((books (judged_outcome w note r).world).accounts s) ≡ true →
    Grants c s (books w) (books (judged_outcome w note r).world)
unfolding judged_outcome
grants_answer (Some r) w note c s e k live still = grants_refused note r w c s k
grants_answer None w note c s e k live still =
    let same : (books (with_listings_of (outcome_of w note).world (concerned_station w note))).accounts
    ≡ (books (outcome_of w note).world).accounts =
    (longer_listed (concerned_station w note) (outcome_of w note).world).accounts in
    grants_kept c s (books w) (books (outcome_of w note).world) _ same
    (grants_done note w c s (no_row (refusals w note) e) k live
    (subst (λ (f : ℕ → Option Account). is_some (f s) ≡ true) same still))

pub grants_step : (w : World) (note : Note) (c : Class) (s : ℕ) → IsKept (books w) → is_live w s ≡ true →
    is_live (step w note).world s ≡ true → Grants c s (books w) (books (step w note).world)
unfolding step
grants_step w note c s k live still = grants_answer (refusal w note) w note c s refl k live
    (live_account (at None (step w note).world.stations s) ∙ still)

-- ---- over entries

-- The airtime in flight to a station is at most the airtime that it may be charged.
owed_at_stake : (config : Config) (w : World) (s : ℕ) (c : Class) → IsGround config w →
    owed s c w.opened ≤ at_stake config s c (map core w.opened)
owed_at_stake config w s c g = subst (λ (z : Config). owed s c w.opened ≤ at_stake z s c (map core w.opened))
    g.same (omega (arith, owed-core s c w.opened, within))
  where
    within : owed s c (map core w.opened) ≤ at_stake w.config s c (map core w.opened)
    within = owed_reserved (longest_exchange w.config c) s c (map core w.opened)
        (every_map (IsOpen (books w)) (λ x. x.class ≡ c → x.charge ≤ longest_exchange w.config c)
        (λ x o e. subst (λ (d : Class). x.charge ≤ longest_exchange w.config d) e
        (omega (arith, o.charge, le-max_left (longest_computed w.config x.class) w.config.charge)))
        (map core w.opened) g.kept.opens)

-- Over the entries es, s gets no quantum in the class, or its quanta and its deficit at first are at most one
-- quantum, what it is charged for what it sends, and m.
abbrev pub IsGranted : Config → ℕ → Class → ℕ → World → List Entry → Type 0
IsGranted config m c s w es = ((share (world_after w es) s c).quanta ≡ (share w s c).quanta)
    ⊎ ((pos (config.quantum * (station w s).weight * ((share (world_after w es) s c).quanta -
    (share w s c).quanta)) +ℤ (share w s c).deficit) ≤ℤ
    pos (config.quantum * (station w s).weight + receipts w s c es + m))

granted_number : (u q0 q n0 n r0 r p k l m : ℕ) (z0 z d0 d : ℤ) → z ≡ z0 →
    d0 ≡ z0 +ℤ pos (u * q0) -ℤ pos (n0 + r0) → d ≡ z +ℤ pos (u * q) -ℤ pos (n + r) → n ≡ n0 + p →
    r ≡ r0 + k → q0 ≤ q → d ≤ℤ pos (u + l) → p + l ≤ m → (pos (u * (q - q0)) +ℤ d0) ≤ℤ pos (u + k + m)
granted_number u q0 q n0 n r0 r p k l m z0 z d0 d same e f en er more most less =
    let whole : u * q ≡ u * q0 + u * (q - q0) = parts q (q - q0) (omega arith) in
    omega (arith, ints)
  where
    parts : (x y : ℕ) → x ≡ q0 + y → u * x ≡ u * q0 + u * y
    parts x y h = ap (λ (z : ℕ). u * z) h ∙ omega arith

module _ (config : Config) (t : Bool) (c : Class) (s i m : ℕ) (w : World) (apart : s ≡ i → ⊥)
    (ground : IsGround config w) where
  -- The airtime that s was charged over the entries es, with the computed airtime of its open exchanges, is
  -- at most m.
  abbrev pub Stakes : List Entry → Type 0
  Stakes es = charges w s c es + owed s c (world_after w es).opened ≤ m

  granted_more : (es : List Entry) (e : Entry) → Fits t c s i w w → Fits t c s i w (world_after w es) →
      Fits t c s i w (world_after w (es ++ e ∷ [])) → Held config c s i w es →
      Held config c s i w (es ++ e ∷ []) → Stakes es → IsGranted config m c s w es →
      IsGranted config m c s w (es ++ e ∷ [])
  granted_more es e first now next held held' stake before =
      elim (grants_step (world_after w es) e.1 c s at_now.kept live (subst (λ (v : World). is_live v s ≡ true)
      after_e live')).gets [
        | inl none ↦ elim before [
          | inl none' ↦ inl (same none ∙ none')
          | inr some ↦ inr (stays some (same none))
        ]
        | inr gets ↦ inr (granted_number (config.quantum * (station w s).weight) (share w s c).quanta
            (share (world_after w (es ++ e ∷ [])) s c).quanta (share w s c).charged
            (share (world_after w (es ++ e ∷ [])) s c).charged (share w s c).received
            (share (world_after w (es ++ e ∷ [])) s c).received (charges w s c es)
            (receipts w s c (es ++ e ∷ [])) (owed s c (world_after w es).opened)
            m (share w s c).base (share (world_after w (es ++ e ∷ [])) s c).base (share w s c).deficit
            (share (world_after w (es ++ e ∷ [])) s c).deficit held'.own_base was.exact is.exact
            (charge gets.1) held'.own_received held'.own_quanta (most gets.0) stake)
      ]
    where
      at_now : IsGround config (world_after w es)
      at_now = ground_run config es w ground

      after_e : world_after w (es ++ e ∷ []) ≡ (step (world_after w es) e.1).world
      after_e = world_append es w e

      live : is_live (world_after w es) s ≡ true
      live = marks_live t c s (world_after w es) at_now.kept now.marks

      live' : is_live (world_after w (es ++ e ∷ [])) s ≡ true
      live' = marks_live t c s (world_after w (es ++ e ∷ []))
          (ground_run config (es ++ e ∷ []) w ground).kept next.marks

      acc_now : acc (books (world_after w es)) s ≡ account (station (world_after w es) s)
      acc_now = acc_is (world_after w es) s

      acc_next : acc (books (step (world_after w es) e.1).world) s
          ≡ account (station (world_after w (es ++ e ∷ [])) s)
      acc_next = acc_is (step (world_after w es) e.1).world s
          ∙ ap (λ (v : World). account (station v s)) (sym after_e)

      same : ((acc (books (step (world_after w es) e.1).world) s).shares c).quanta
          ≡ ((acc (books (world_after w es)) s).shares c).quanta →
          (share (world_after w (es ++ e ∷ [])) s c).quanta ≡ (share (world_after w es) s c).quanta
      same h = rw (acc_now, acc_next) at h

      charge : ((acc (books (step (world_after w es) e.1).world) s).shares c).charged
          ≡ ((acc (books (world_after w es)) s).shares c).charged →
          (share (world_after w (es ++ e ∷ [])) s c).charged ≡ (share w s c).charged + charges w s c es
      charge h =
          let h' : (share (world_after w (es ++ e ∷ [])) s c).charged
          ≡ (share (world_after w es) s c).charged =
          rw (acc_now, acc_next) at h in
          h' ∙ held.own_charged

      most : ((acc (books (step (world_after w es) e.1).world) s).shares c).deficit ≤ℤ
          pos ((world_after w es).config.quantum * (acc (books (world_after w es)) s).weight +
          owed s c (map core (world_after w es).opened)) →
          (share (world_after w (es ++ e ∷ [])) s c).deficit ≤ℤ
          pos (config.quantum * (station w s).weight + owed s c (world_after w es).opened)
      most h =
          let h' : (share (world_after w (es ++ e ∷ [])) s c).deficit ≤ℤ
          pos ((world_after w es).config.quantum * (station (world_after w es) s).weight +
          owed s c (map core (world_after w es).opened)) = rw (acc_now, acc_next) at h in
          subst (λ (g : ℕ). (share (world_after w (es ++ e ∷ [])) s c).deficit ≤ℤ
          pos (config.quantum * g + owed s c (world_after w es).opened)) held.own_weight
          (subst (λ (n : ℕ). (share (world_after w (es ++ e ∷ [])) s c).deficit ≤ℤ
          pos (config.quantum * (station (world_after w es) s).weight + n))
          (owed-core s c (world_after w es).opened)
          (subst (λ (z : Config). (share (world_after w (es ++ e ∷ [])) s c).deficit ≤ℤ
          pos (z.quantum * (station (world_after w es) s).weight +
          owed s c (map core (world_after w es).opened))) at_now.same h'))

      was : IsMoney config c (owed s c w.opened) (station w s).weight (share w s c)
      was = ground_money config w s c ground (marks_live t c s w ground.kept first.marks)

      is : IsMoney config c (owed s c (world_after w (es ++ e ∷ [])).opened) (station w s).weight
          (share (world_after w (es ++ e ∷ [])) s c)
      is = subst (λ (g : ℕ). IsMoney config c (owed s c (world_after w (es ++ e ∷ [])).opened) g
          (share (world_after w (es ++ e ∷ [])) s c)) held'.own_weight
          (ground_money config (world_after w (es ++ e ∷ [])) s c
          (ground_run config (es ++ e ∷ []) w ground) live')

      stays : (pos (config.quantum * (station w s).weight * ((share (world_after w es) s c).quanta -
          (share w s c).quanta)) +ℤ (share w s c).deficit) ≤ℤ
          pos (config.quantum * (station w s).weight + receipts w s c es + m) →
          (share (world_after w (es ++ e ∷ [])) s c).quanta
          ≡ (share (world_after w es) s c).quanta →
          (pos (config.quantum * (station w s).weight * ((share (world_after w (es ++ e ∷ [])) s c).quanta -
          (share w s c).quanta)) +ℤ (share w s c).deficit) ≤ℤ
          pos (config.quantum * (station w s).weight + receipts w s c (es ++ e ∷ []) + m)
      stays some none = rw none (omega (arith, ints, receipts_append es w s c e, some))

  pub granted_run : (xs : List Entry) (n : ℕ) →
      ((d : ℕ) → d ≤ n → Fits t c s i w (world_after w (take d xs))) →
      ((d : ℕ) → d ≤ n → Stakes (take d xs)) → IsGranted config m c s w (take n xs)
  unfolding world_after
  granted_run xs zero fits stake = inl refl
  granted_run xs (suc n) fits stake =
      let before : IsGranted config m c s w (take n xs) =
      granted_run xs n (λ d l. fits d (omega arith)) (λ d l. stake d (omega arith)) in
      next_case xs n (λ (l : List Entry). Fits t c s i w (world_after w l) → Held config c s i w l →
      IsGranted config m c s w l)
      (λ _ _. before)
      (λ e next held. granted_more (take n xs) e (fits 0 (omega arith)) (fits n (omega arith)) next
      (held_run config t c s i w xs apart ground n (λ d l. fits d (omega arith))) held (stake n (omega arith))
      before)
      (fits (suc n) (omega arith)) (held_run config t c s i w xs apart ground (suc n) fits)

sends_front : (d : ℕ) (es : List Entry) (w : World) (s : ℕ) (c : Class) →
    sends w s c (take d es) ≤ sends w s c es
sends_front zero es w s c = omega arith
sends_front (suc d) [] w s c = omega arith
sends_front (suc d) (e ∷ es) w s c = omega (arith, sends_front d es (step w e.1).world s c)

-- No exchange is opened by the first entries, if none is opened by more of them.
pub unsent_front : (d n : ℕ) (xs : List Entry) (w : World) (s : ℕ) (c : Class) → d ≤ n →
    sends w s c (take n xs) ≡ 0 → sends w s c (take d xs) ≡ 0
unsent_front d n xs w s c l none =
    let less : sends w s c (take d xs) ≤ sends w s c (take n xs) =
    subst (λ (ys : List Entry). sends w s c ys ≤ sends w s c (take n xs)) (take_take d n xs l)
    (sends_front d (take n xs) w s c) in
    omega arith

-- While s opens no exchange, it is charged at most what its open exchanges may be charged at first.
pub stake_run : (config : Config) (w : World) (s : ℕ) (c : Class) (xs : List Entry) (n : ℕ) →
    IsGround config w →
    sends w s c (take n xs) ≡ 0 → (d : ℕ) → d ≤ n → charges w s c (take d xs) +
    owed s c (world_after w (take d xs)).opened ≤ at_stake config s c (map core w.opened)
stake_run config w s c xs n g none d l =
    let less : Less (longest_exchange config c) c s (charges w s c (take d xs)) (books w)
    (books (world_after w (take d xs))) = less_run (take d xs) (longest_exchange config c) w c s g.kept
    (ap (λ (z : Config). longest_exchange z c) g.same) (unsent_front d n xs w s c l none) in
    omega (
      arith,
      less.most,
      owed_at_stake config (world_after w (take d xs)) s c
          (ground_run config (take d xs) w g),
    )
