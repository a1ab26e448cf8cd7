-- Proves the law of weights: a call that does not set a station's weight keeps it, and the base of its
-- deficits. By cases of the call.
use Rattle.std.proofs.Common.{◌≡◌, refl, ap, sym, ◌∙◌, subst, ℕ, ◌*◌, true, false, List, Option, Some, None, is_some, unwrap_or, option_map, take}
use Rattle.std.proofs.lemmas.Bool.{eqb-false}
use Rattle.wf_frame.specs.declared.settings.Config.{Config}
use Rattle.wf_frame.specs.declared.classes.Class.{Class}
use Rattle.wf_frame.specs.declared.notes.Ask.TheVariants.{Join, Leave, Rate, Tick, Pull, Arrive, Answer, Done, Sleep, Wake, Poll, Rx, Reap, Ampdu, Stop, Start, Unsent, GiveUp, Flush, Offload, Weight, Plain, Hold, Begin, Free, Cease, Group, Service, Bss}
use Rattle.wf_frame.specs.declared.notes.Limits.{Limits}
use Rattle.wf_frame.specs.declared.notes.Note.{Note}
use Rattle.wf_frame.specs.declared.notes.Note.TheVariants.{Enqueue, Asked}
use Rattle.wf_frame.specs.declared.notes.Refusal.{Refusal}
use Rattle.wf_frame.specs.declared.notes.Refusal.TheVariants.{Idle}
use Rattle.wf_frame.specs.Settings.{IsInRange}
use Rattle.wf_def_lists.specs.Table.{at}
use Rattle.wf_def_lists.specs.Lists.{on}
use Rattle.wf_def_rotation.specs.Rotation.{in_order}
use Rattle.wf_def_world.specs.World.{World, Share, Exchange, no_station, station, rotation, is_live, exchange}
use Rattle.wf_def_world.specs.CanSend.{with_listings_of}
use Rattle.wf_def_world.specs.Exchanges.{picked_station, after_pick, charge_of}
use Rattle.wf_def_world.specs.Refusals.{refusals, refusal}
use Rattle.wf_def_world.specs.Step.{Outcome, tick_outcome, pull_outcome, outcome_where_open, outcome_of, concerned_station, after_refusal, judged_outcome, step}
use Rattle.wf_def_world.specs.Run.{Entry}
use Rattle.wf_def_world.specs.Stretches.{world_at}
use Rattle.wf_law_runs.specs.Deficits.{is_weight_of, WeightLaw}
use Rattle.wf_law_runs.proofs.Common.Refused.{after_idle}
use Rattle.wf_law_runs.proofs.Common.Limits.{with_limits}
use Rattle.wf_law_runs.proofs.Deficits.Books.{Account, account, Books, books, with_account, on_part, upd_other, each_upd, each_updc}
use Rattle.wf_law_runs.proofs.Deficits.BookSteps.{with_opened, charge_share, with_charge, receive_share, rated, pay_share, paid, after, books_ended, books_gone, books_enqueued, books_received, books_reaped, books_slept, books_woken, books_credited, books_with_rate, books_joined, books_after_pick, books_stated, books_stopped, books_started, books_flushed, books_offloaded, books_weighed, books_joined_plain, books_held, books_begun, books_freed, books_ceased, books_served, books_moved}
use Rattle.wf_law_runs.proofs.Deficits.Kept.{IsKept}
use Rattle.wf_law_runs.proofs.Deficits.KeptStep.{NoRow, no_row, kept, live_account, IsFound, books_arrived, books_unsent, books_given_up, books_answered}
use Rattle.wf_law_runs.proofs.Deficits.Listing.{longer_listed}
use Rattle.wf_law_runs.proofs.Fairness.OldOrder.{acc, map_or}
use Rattle.wf_law_runs.proofs.Fairness.Law.{acc_is}
use Rattle.wf_law_runs.proofs.Shares.Turns.{pulled_by}
use Rattle.wf_law_runs.proofs.Shares.Grants.{differs, gone_other}

-- An account keeps its weight and its bases.
pub record Same (a a' : Account) : Type 0 where
  pub weight : a'.weight ≡ a.weight
  pub base : (c : Class) → (a'.shares c).base ≡ (a.shares c).base

-- A call keeps the weight and the bases of s.
record Firm (s : ℕ) (b b' : Books) : Type 0 where
  same : Same (acc b s) (acc b' s)

same_here : (a : Account) → Same a a
same_here a = record { weight = refl; base = λ c. refl }

firm_acc : (s : ℕ) (b b' : Books) → acc b' s ≡ acc b s → Firm s b b'
firm_acc s b b' e = record { same = subst (Same (acc b s)) (sym e) (same_here (acc b s)) }

firm_same : (s : ℕ) (b b' : Books) → b' ≡ b → Firm s b b'
firm_same s b b' e = firm_acc s b b' (ap (λ (z : Books). acc z s) e)

firm_books : (s : ℕ) (b d b' : Books) → b' ≡ d → Firm s b d → Firm s b b'
firm_books s b d b' e h = subst (Firm s b) (sym e) h

-- Only accounts that stay matter.
firm_kept : (s : ℕ) (b d b' : Books) → b'.accounts ≡ d.accounts → Firm s b d → Firm s b b'
firm_kept s b d b' e h = record {
  same = subst (Same (acc b s))
      (sym (ap (λ (f : ℕ → Option Account). unwrap_or (f s) (account no_station)) e)) h.same;
}

firm_other : (s i : ℕ) (b : Books) (o : Option Account) → (s ≡ i → ⊥) → Firm s b (with_account b i o)
firm_other s i b o other = firm_acc s b (with_account b i o)
    (ap (λ (p : Option Account). unwrap_or p (account no_station)) (upd_other b.accounts i s o other))

firm_on : (s i : ℕ) (b : Books) (g : Account → Account) → ((a : Account) → Same a (g a)) →
    Firm s b (with_account b i (option_map g (b.accounts i)))
firm_on s i b g h = record {
  same = each_upd (λ y o. Same (acc b y) (unwrap_or o (account no_station))) b.accounts i
      (option_map g (b.accounts i)) (λ y. same_here (acc b y))
      (map_or Same g (b.accounts i) (λ a _. h a) (λ _. same_here (account no_station))) s;
}

-- One share of an account changes, and keeps its base.
same_part : (c : Class) (f : Share → Share) (a : Account) → ((x : Share) → (f x).base ≡ x.base) →
    Same a (on_part c f a)
same_part c f a h = record {
  weight = refl;
  base = each_updc (λ d x. x.base ≡ (a.shares d).base) a.shares c (f (a.shares c)) (λ d. refl)
      (h (a.shares c));
}

firm_after : (w : World) (d : Class) (s : ℕ) → Firm s (books w) (after (books w) d (picked_station w d))
firm_after w d s = record {
  same = map_or Same
      (paid w.config.quantum d (on (in_order (rotation w d)) s * (picked_station w d).quanta s))
      ((books w).accounts s)
      (λ a _. same_part d (pay_share (w.config.quantum * a.weight)
      (on (in_order (rotation w d)) s * (picked_station w d).quanta s)) a (λ x. refl))
      (λ _. same_here (account no_station));
}

firm_pulled : (w : World) (d : Class) (l : Limits) (s : ℕ) →
    Firm s (books w) (books (pull_outcome w d l).world)
unfolding pull_outcome
firm_pulled w d l s = pulled_by (Firm s (books w)) (picked_station w d).winner (with_limits w d l) d
    (λ _. picks)
    (λ k x _ _ _. firm_kept s (books w) (books (after_pick w d)) (with_opened (books (after_pick w d)) x)
    refl picks)
  where
    picks : Firm s (books w) (books (after_pick w d))
    picks = firm_books s (books w) _ _ (books_after_pick w d) (firm_after w d s)

firm_open : (o : Option Exchange) (w : World) (e s : ℕ) (f : Exchange → Outcome) → exchange w e ≡ o →
    ((x : Exchange) → IsFound w e x → Firm s (books w) (books (f x).world)) →
    Firm s (books w) (books (outcome_where_open w o f).world)
unfolding outcome_where_open
firm_open None w e s f k h = firm_same s _ _ refl
firm_open (Some x) w e s f k h = h x k

firm_done : (note : Note) (w : World) (s : ℕ) → NoRow (refusals w note) → IsKept (books w) →
    is_weight_of s note ≡ false → is_live w s ≡ true →
    is_some ((books (outcome_of w note).world).accounts s) ≡ true →
    Firm s (books w) (books (outcome_of w note).world)
unfolding outcome_of tick_outcome
firm_done (Enqueue i t flow len) w s r k other live still = firm_same s _ _ (books_enqueued w i t flow len)
firm_done (Asked (Join i window start exponent weight)) w s r k other live still =
    firm_books s (books w) _ _ (books_joined w i window start exponent weight)
    (firm_other s i (books w) _ (differs w i s r.1.1.1.1.1.0 live))
firm_done (Asked (Offload i exponent weight)) w s r k other live still =
    firm_books s (books w) _ _ (books_offloaded w i exponent weight)
    (firm_other s i (books w) _ (differs w i s r.1.1.1.0 live))
firm_done (Asked (Plain i start exponent weight)) w s r k other live still =
    firm_books s (books w) _ _ (books_joined_plain w i start exponent weight)
    (firm_other s i (books w) _ (differs w i s r.1.1.1.1.0 live))
firm_done (Asked (Weight i weight)) w s r k other live still =
    firm_books s (books w) _ _ (books_weighed w i weight)
    (firm_other s i (books w) _ (λ e. eqb-false i s other (sym e)))
firm_done (Asked (Leave i)) w s r k other live still = firm_books s (books w) _ _ (books_gone w i)
    (firm_kept s (books w) (with_account (books w) i None) _ refl
    (firm_other s i (books w) None (gone_other (books w) i s
    (subst (λ (b : Books). is_some (b.accounts s) ≡ true) (books_gone w i) still))))
firm_done (Asked (Rate i rate)) w s r k other live still =
    firm_books s (books w) _ _ (books_with_rate w i rate)
    (firm_on s i (books w) (rated rate) (λ a. record { weight = refl; base = λ c. refl }))
firm_done (Asked (Tick by)) w s r k other live still = firm_same s _ _ refl
firm_done (Asked (Pull d l)) w s r k other live still = firm_pulled w d l s
firm_done (Asked (Arrive e j)) w s r k other live still = firm_open (exchange w e) w e s _ refl
    (λ x f. firm_same s _ _ (books_arrived w e j x k f))
firm_done (Asked (Unsent e j)) w s r k other live still = firm_open (exchange w e) w e s _ refl
    (λ x f. firm_same s _ _ (books_unsent w e j x k f))
firm_done (Asked (GiveUp e j)) w s r k other live still = firm_open (exchange w e) w e s _ refl
    (λ x f. firm_same s _ _ (books_given_up w e j x k f))
firm_done (Asked (Answer e)) w s r k other live still = firm_open (exchange w e) w e s _ refl
    (λ x f. firm_same s _ _ (books_answered w e x k f))
firm_done (Asked (Done e heard air)) w s r k other live still = firm_open (exchange w e) w e s _ refl
    (λ x f. firm_books s (books w) _ _ (books_ended air w x heard)
    (firm_kept s (books w) (with_charge (books w) x.station x.class (charge_of air x)) _ refl
    (firm_on s x.station (books w) (on_part x.class (charge_share (charge_of air x)))
    (λ a. same_part x.class (charge_share (charge_of air x)) a (λ y. refl)))))
firm_done (Asked (Sleep i)) w s r k other live still = firm_same s _ _ (books_slept w i)
firm_done (Asked (Ampdu i octets)) w s r k other live still = firm_same s _ _ (books_stated w i octets)
firm_done (Asked (Stop i)) w s r k other live still = firm_same s _ _ (books_stopped w i)
firm_done (Asked (Start i)) w s r k other live still = firm_same s _ _ (books_started w i)
firm_done (Asked (Flush i t)) w s r k other live still = firm_same s _ _ (books_flushed w i t)
firm_done (Asked (Hold i t)) w s r k other live still = firm_same s _ _ (books_held w i t)
firm_done (Asked (Begin i t window)) w s r k other live still = firm_same s _ _ (books_begun w i t window)
firm_done (Asked (Free i t)) w s r k other live still = firm_same s _ _ (books_freed w i t)
firm_done (Asked (Cease i t)) w s r k other live still = firm_same s _ _ (books_ceased w i t)
firm_done (Asked (Wake i)) w s r k other live still = firm_same s _ _ (books_woken w i)
firm_done (Asked (Poll i)) w s r k other live still = firm_same s _ _ (books_credited w i)
firm_done (Asked (Rx i d air)) w s r k other live still =
    firm_books s (books w) _ _ (books_received w i d air)
    (firm_on s i (books w) (on_part d (receive_share air))
    (λ a. same_part d (receive_share air) a (λ y. refl)))
firm_done (Asked Reap) w s r k other live still = firm_same s _ _ (books_reaped w.finished w)
firm_done (Asked (Group ask)) w s r k other live still = firm_same s _ _ refl
firm_done (Asked (Service ask)) w s r k other live still = firm_same s _ _ (books_served w ask)
firm_done (Asked (Bss i b)) w s r k other live still = firm_same s _ _ (books_moved w i b)

firm_refused : (note : Note) (r : Refusal) (w : World) (s : ℕ) →
    Firm s (books w) (books (after_refusal w note r))
unfolding after_refusal
firm_refused (Asked (Pull d l)) Idle w s = after_idle (λ v. Firm s (books w) (books v)) w d
    (firm_same s _ _ refl)
    (firm_books s (books w) _ _ (books_after_pick w d) (firm_after w d s))
firm_refused _ _ w s = firm_same s _ _ refl

firm_answer : (r : Option Refusal) (w : World) (note : Note) (s : ℕ) → refusal w note ≡ r →
    IsKept (books w) → is_weight_of s note ≡ false → is_live w s ≡ true →
    is_some ((books (judged_outcome w note r).world).accounts s) ≡ true →
    Firm s (books w) (books (judged_outcome w note r).world)
unfolding judged_outcome
firm_answer (Some r) w note s e k other live still = firm_refused note r w s
firm_answer None w note s e k other live still =
    let same : (books (with_listings_of (outcome_of w note).world (concerned_station w note))).accounts
    ≡ (books (outcome_of w note).world).accounts =
    (longer_listed (concerned_station w note) (outcome_of w note).world).accounts in
    firm_kept s (books w) (books (outcome_of w note).world) _ same
    (firm_done note w s (no_row (refusals w note) e) k other live
    (subst (λ (f : ℕ → Option Account). is_some (f s) ≡ true) same still))

pub firm_step : (w : World) (note : Note) (s : ℕ) → IsKept (books w) → is_weight_of s note ≡ false →
    is_live w s ≡ true → is_live (step w note).world s ≡ true →
    Same (account (station w s)) (account (station (step w note).world s))
unfolding step
firm_step w note s k other live still =
    let h : Firm s (books w) (books (step w note).world) =
    firm_answer (refusal w note) w note s refl k other live
    (live_account (at None (step w note).world.stations s) ∙ still) in
    subst (λ (a : Account). Same a (account (station (step w note).world s))) (acc_is w s)
    (subst (Same (acc (books w) s)) (acc_is (step w note).world s) h.same)

pub weight_law : (config : Config) (h : List Entry) → IsInRange config → WeightLaw config h
weight_law config h range m note = record {
  weight = λ s other live still. (firm_step (world_at config h m) note s kept_m other live still).weight;
  base = λ s c other live still. (firm_step (world_at config h m) note s kept_m other live still).base c;
}
  where
    kept_m : IsKept (books (world_at config h m))
    kept_m = kept config (take m h) range
