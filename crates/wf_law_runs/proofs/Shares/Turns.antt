-- Proves how a call changes the quanta and charges of two stations of a class, one of which keeps its place
-- in the rotation. By cases of the call.
use Rattle.std.proofs.Common.{◌≡◌, refl, ap, sym, ◌∙◌, subst, arith, ℕ, zero, suc, ◌+◌, ◌*◌, ◌<◌, ◌≤◌, pos, ◌≤ℤ◌, Bool, true, false, if◌then◌else◌, List, [], ◌∷◌, Option, Some, None, is_some, IfSome, unwrap_or, not, ◌&&◌, ◌==◌, inl, inr, ◌⊎◌, ℤ, ◌-ℤ◌}
use Rattle.std.proofs.lemmas.Bool.{cases_eq, ne_eqb, eqb-true, and_parts, not-true, not_from_false}
use Rattle.wf_frame.specs.declared.settings.Config.{Config}
use Rattle.wf_frame.specs.declared.classes.Class.{Class}
use Rattle.wf_frame.specs.declared.classes.Class.TheVariants.{Bk, Be, Vi, Vo}
use Rattle.wf_frame.specs.declared.notes.Ask.TheVariants.{Join, Leave, Rate, Tick, Pull, Arrive, Answer, Done, Sleep, Wake, Poll, Rx, Reap, Ampdu, Stop, Start, Unsent, GiveUp, Flush, Offload, Weight, Plain, Hold, Begin, Free, Cease, Group, Service, Bss}
use Rattle.wf_frame.specs.declared.notes.Limits.{Limits}
use Rattle.wf_frame.specs.declared.notes.Note.{Note}
use Rattle.wf_frame.specs.declared.notes.Note.TheVariants.{Enqueue, Asked}
use Rattle.wf_frame.specs.declared.notes.Refusal.{Refusal}
use Rattle.wf_frame.specs.declared.notes.Refusal.TheVariants.{Idle}
use Rattle.wf_frame.specs.Classes.{class_number, same_class, all_classes}
use Rattle.wf_def_lists.specs.Table.{at}
use Rattle.wf_def_lists.specs.Lists.{on}
use Rattle.wf_def_rotation.specs.Rotation.{Rotation, has_key, in_order, without_key, Picked, with_key_listed}
use Rattle.wf_def_world.specs.World.{World, Exchange, no_station, rotation, is_live, exchange, with_rotation}
use Rattle.wf_def_world.specs.CanSend.{is_ready, with_listing_in, with_listings_in, with_listings_of, is_to_list}
use Rattle.wf_def_world.specs.Exchanges.{Prepared, station_need, picked_station, after_tid_turn, prepared_exchange, exchange_of, sending_tid, charge_of}
use Rattle.wf_def_world.specs.Refusals.{refusals, refusal}
use Rattle.wf_def_world.specs.Step.{Outcome, tick_outcome, pull_outcome_for, pull_outcome, done_outcome, outcome_where_open, join_outcome, outcome_of, after_refusal, judged_outcome, step, concerned_station, offload_outcome, plain_outcome}
use Rattle.wf_def_world.specs.Stretches.{charge_to}
use Rattle.wf_law_runs.specs.Deficits.{longest_exchange}
use Rattle.wf_law_rules.proofs.Lemmas.Counts.{ahead, on-append, on-filter, listed-some}
use Rattle.wf_law_rules.proofs.Lemmas.Rotations.{IsWinner, pick_keeps, pick_winner}
use Rattle.wf_law_runs.proofs.Common.Refused.{after_idle}
use Rattle.wf_law_runs.proofs.Common.Limits.{with_limits}
use Rattle.wf_law_runs.proofs.Deficits.Books.{Account, account, core, Books, books, with_account, with_lists, upd_same, updc, updc_same, updc_other, cases_class, same_number, books_with_rotation}
use Rattle.wf_law_runs.proofs.Deficits.BookSteps.{books_after_turn, books_prepared, books_sent, with_opened, books_ended, books_gone, all_off, books_enqueued, books_received, books_reaped, books_slept, books_woken, books_credited, books_with_rate, fresh_account, books_joined, after, books_after_pick, books_stated, books_stopped, books_started, books_flushed, books_offloaded, books_weighed, books_joined_plain, books_held, books_begun, books_freed, books_ceased, books_served, books_moved}
use Rattle.wf_law_runs.proofs.Deficits.Openings.{reserved, reserved-append, reserved-ended, part_of}
use Rattle.wf_law_runs.proofs.Deficits.Kept.{IsKept, if_same, above_after, listed-on, counted_in, standing_of}
use Rattle.wf_law_runs.proofs.Deficits.KeptStep.{NoRow, no_row, live_account, need_is, IsFound, at_number, books_arrived, books_unsent, books_given_up, books_answered, charge_within}
use Rattle.wf_law_runs.proofs.Fairness.OldOrder.{acc, IsGrown, IsTurn, IsCalm, calm_pulled, turn_here, turn_other, turn_received, turn_rated, turn_ended, turn_class_other, grown_option, paid_quanta, turn_weighed}
use Rattle.wf_law_runs.proofs.Shares.Picks.{lead, lead_off, Stands, pick_lead, win_lead, lead_listed}
use Rattle.std.proofs.lemmas.Int.{ints}
use Rattle.wf_law_runs.proofs.Deficits.Concerned.{old_before}
use Rattle.wf_law_runs.proofs.Deficits.Listing.{longer_listed}

-- ---- a move

-- an account loses no quantum
pub record Goes (c : Class) (a a' : Account) : Type 0 where
  pub quanta : (a.shares c).quanta ≤ (a'.shares c).quanta

-- the airtime that a station was charged, and that its open exchanges may be charged, at most l each
abbrev pub bound_to : ℕ → Class → ℕ → Books → ℕ
bound_to l c i b = ((acc b i).shares c).charged + reserved l i c b.opened

-- this sum is at most as before, or i has just opened an exchange and gets no quantum before s does
abbrev pub Spends : ℕ → Class → ℕ → ℕ → Books → Books → Type 0
Spends l c s i b b' = (bound_to l c i b' ≤ bound_to l c i b)
    ⊎ ((((acc b' i).shares c).quanta + ((acc b s).shares c).quanta + lead s i (b.rotations c)
    ≤ ((acc b' s).shares c).quanta + ((acc b i).shares c).quanta) × (pos 1 ≤ℤ ((acc b' i).shares c).deficit))

pub record IsMove (l : ℕ) (c : Class) (s i : ℕ) (b b' : Books) : Type 0 where
  pub listed : 0 < on (in_order (b'.rotations c)) s
  pub order : ((acc b' i).shares c).quanta + ((acc b s).shares c).quanta + lead s i (b.rotations c)
      ≤ ((acc b' s).shares c).quanta + ((acc b i).shares c).quanta + lead s i (b'.rotations c)
  pub own : Goes c (acc b s) (acc b' s)
  pub other : Goes c (acc b i) (acc b' i)
  pub spends : Spends l c s i b b'

-- the lists of the class are unchanged
move_turn : (l : ℕ) (c : Class) (s i m n : ℕ) (b b' : Books) → 0 < on (in_order (b.rotations c)) s →
    b'.rotations c ≡ b.rotations c → m + reserved l i c b'.opened ≤ reserved l i c b.opened →
    IsTurn c i s m n b b' → IsMove l c s i b b'
move_turn l c s i m n b b' listed same less t = record {
  listed = subst (λ (r : Rotation). 0 < on (in_order r) s) (sym same) listed;
  order = subst (λ (r : Rotation). ((acc b' i).shares c).quanta + ((acc b s).shares c).quanta +
      lead s i (b.rotations c) ≤ ((acc b' s).shares c).quanta + ((acc b i).shares c).quanta + lead s i r)
      (sym same) (omega (arith, order));
  own = record { quanta = t.second.quanta };
  other = record { quanta = t.first.quanta };
  spends = inl (omega (arith, t.first.charged));
}
  where
    order : ((acc b' i).shares c).quanta + ((acc b s).shares c).quanta
        ≡ ((acc b' s).shares c).quanta + ((acc b i).shares c).quanta
    order = omega (arith, t.order, ap (λ (r : Rotation). ahead s i r.old) same)

-- only the lists change
move_lists : (l : ℕ) (c : Class) (s i : ℕ) (b b' b'' : Books) → b''.accounts ≡ b'.accounts →
    b''.opened ≡ b'.opened → lead s i (b'.rotations c) ≤ lead s i (b''.rotations c) →
    0 < on (in_order (b''.rotations c)) s → IsMove l c s i b b' → IsMove l c s i b b''
move_lists l c s i b b' b'' e f g listed k =
    let at_s : acc b'' s ≡ acc b' s =
    ap (λ (h : ℕ → Option Account). unwrap_or (h s) (account no_station)) e in
    let at_i : acc b'' i ≡ acc b' i =
    ap (λ (h : ℕ → Option Account). unwrap_or (h i) (account no_station)) e in
    record {
      listed = listed;
      order = rw (at_s, at_i) (omega (arith, k.order, g));
      own = subst (Goes c (acc b s)) (sym at_s) k.own;
      other = subst (Goes c (acc b i)) (sym at_i) k.other;
      spends = elim k.spends [
        | inl h ↦ inl (rw (at_i, f) h)
        | inr h ↦ inr (rw (at_s, at_i) h.0, rw at_i h.1)
      ];
    }

-- ---- listing

move_listed_if : (l : ℕ) (c : Class) (s i : ℕ) (b : Books) (w : World) (k : ℕ) (d : Class) (t : Bool) →
    (is_to_list w d k && not (has_key (rotation w d) k)) ≡ t → IsMove l c s i b (books w) →
    IsMove l c s i b (books (if t then with_rotation w d (with_key_listed (is_ready w d k) (rotation w d) k)
    else w))
move_listed_if l c s i b w k d false e h = h
move_listed_if l c s i b w k d true e h = subst (IsMove l c s i b)
    (sym (books_with_rotation w d (with_key_listed (is_ready w d k) (rotation w d) k)))
    (elim (cases_class c d) [
      | inl same ↦ here same
      | inr other ↦ move_lists l c s i b (books w) _ refl refl
          (omega (
            arith,
            ap (lead s i) (updc_other (books w).rotations d c
                (with_key_listed (is_ready w d k) (rotation w d) k) other),
          ))
          (subst (λ (r : Rotation). 0 < on (in_order r) s)
          (sym (updc_other (books w).rotations d c (with_key_listed (is_ready w d k) (rotation w d) k) other))
          h.listed) h
    ])
  where
    unlisted : has_key (rotation w d) k ≡ false
    unlisted = not-true (has_key (rotation w d) k)
        (and_parts (is_to_list w d k) (not (has_key (rotation w d) k)) e).1

    here : c ≡ d →
        IsMove l c s i b (with_lists (books w) d (with_key_listed (is_ready w d k) (rotation w d) k))
    here same =
        let away : (k ≡ s → ⊥) = λ z. cc (
          unlisted,
          subst (λ (d : Class). has_key (rotation w d) k ≡ true) same
              (subst (λ (y : ℕ). has_key (rotation w c) y ≡ true) (sym z)
              (listed-some (rotation w c) s h.listed)),
        ) in
        let now : (with_lists (books w) d (with_key_listed (is_ready w d k) (rotation w d) k)).rotations c
        ≡ with_key_listed (is_ready w c k) (rotation w c) k =
        subst (λ (d : Class). updc (books w).rotations d (with_key_listed (is_ready w d k) (rotation w d) k) c
        ≡ with_key_listed (is_ready w c k) (rotation w c) k) same
        (updc_same (books w).rotations c (with_key_listed (is_ready w c k) (rotation w c) k)) in
        move_lists l c s i b (books w) _ refl refl
        (omega (arith, ap (lead s i) now, lead_listed (is_ready w c k) s i k (rotation w c) away))
        (subst (λ (r : Rotation). 0 < on (in_order r) s) (sym now)
        (omega (arith, h.listed, listed-on (is_ready w c k) (rotation w c) k s)))
        h

move_listed_in : (l : ℕ) (c : Class) (s i : ℕ) (b : Books) (w : World) (k : ℕ) (d : Class) →
    IsMove l c s i b (books w) → IsMove l c s i b (books (with_listing_in w k d))
unfolding with_listing_in
move_listed_in l c s i b w k d h = move_listed_if l c s i b w k d _ refl h

move_listed_all : (ds : List Class) (l : ℕ) (c : Class) (s i : ℕ) (b : Books) (w : World) (k : ℕ) →
    IsMove l c s i b (books w) → IsMove l c s i b (books (with_listings_in w k ds))
unfolding with_listings_in
move_listed_all [] l c s i b w k h = h
move_listed_all (d ∷ ds) l c s i b w k h =
    move_listed_all ds l c s i b _ k (move_listed_in l c s i b w k d h)

move_listed : (o : Option ℕ) (l : ℕ) (c : Class) (s i : ℕ) (b : Books) (w : World) →
    IsMove l c s i b (books w) → IsMove l c s i b (books (with_listings_of w o))
unfolding with_listings_of
move_listed None l c s i b w h = h
move_listed (Some k) l c s i b w h = move_listed_all all_classes l c s i b w k h

-- ---- who keeps its place

-- s keeps its place over a call, and both are live
pub record Stays (c : Class) (s i : ℕ) (w : World) (b : Books) : Type 0 where
  pub place : ((0 < on (rotation w c).old s) × (0 < on (b.rotations c).old s))
      ⊎ ((0 < on (in_order (rotation w c)) s) × (is_ready w c s ≡ true))
  pub own : is_some (b.accounts s) ≡ true
  pub before : is_some ((books w).accounts i) ≡ true
  pub other : is_some (b.accounts i) ≡ true

stays_listed : (c : Class) (s i : ℕ) (w : World) (b : Books) → Stays c s i w b →
    0 < on (in_order (rotation w c)) s
stays_listed c s i w b h = elim h.place [
  | inl z ↦ omega (arith, z.0, on-append (rotation w c).old (rotation w c).new s)
  | inr z ↦ z.0
]

stays_calm : (c : Class) (s i : ℕ) (w : World) (b b' : Books) → IsCalm b b' → Stays c s i w b' →
    Stays c s i w b
stays_calm c s i w b b' k h = record {
  place = elim h.place [
    | inl z ↦ inl (z.0, subst (λ (t : List ℕ). 0 < on t s) (k.old c) z.1)
    | inr z ↦ inr z
  ];
  own = subst (λ (f : ℕ → Option Account). is_some (f s) ≡ true) k.accounts h.own;
  before = h.before;
  other = subst (λ (f : ℕ → Option Account). is_some (f i) ≡ true) k.accounts h.other;
}

-- the same before the call lists the station that it concerns
stays_before : (note : Note) (w : World) (c : Class) (s i : ℕ) → IsKept (books w) →
    Stays c s i w (books (with_listings_of (outcome_of w note).world (concerned_station w note))) →
    Stays c s i w (books (outcome_of w note).world)
stays_before note w c s i kept h = record {
  place = elim h.place [
    | inl z ↦ inl (
      z.0,
      old_before note w c s kept
          (omega (arith, z.0, on-append (rotation w c).old (rotation w c).new s)) z.1,
    )
    | inr z ↦ inr z
  ];
  own = subst (λ (f : ℕ → Option Account). is_some (f s) ≡ true) same h.own;
  before = h.before;
  other = subst (λ (f : ℕ → Option Account). is_some (f i) ≡ true) same h.other;
}
  where
    same : (books (with_listings_of (outcome_of w note).world (concerned_station w note))).accounts
        ≡ (books (outcome_of w note).world).accounts
    same = (longer_listed (concerned_station w note) (outcome_of w note).world).accounts

-- ---- a pick

times_most : (m n : ℕ) → m ≤ 1 → m * n ≤ n
times_most zero n h = omega arith
times_most (suc zero) n h = omega arith
times_most (suc (suc m)) n h = absurd (omega arith)

module _ (l : ℕ) (w : World) (c : Class) (s i : ℕ) (k : IsKept (books w)) (differs : s ≡ i → ⊥) where
  abbrev picked : Picked
  picked = picked_station w c

  abbrev ends : Books
  ends = after (books w) c picked

  lists_now : ends.rotations c ≡ picked.lists
  lists_now = updc_same (books w).rotations c picked.lists

  got : (y : ℕ) → is_some ((books w).accounts y) ≡ true → ((acc ends y).shares c).quanta
      ≡ ((acc (books w) y).shares c).quanta + on (in_order (rotation w c)) y * picked.quanta y
  got y live = paid_quanta w.config.quantum (on (in_order (rotation w c)) y * picked.quanta y) c
      ((books w).accounts y) live

  -- the picked class itself
  move_class : Stays c s i w ends → IsMove l c s i (books w) ends
  move_class h = record {
    listed = subst (λ (r : Rotation). 0 < on (in_order r) s) (sym lists_now) still;
    order = rw lists_now (omega (
      arith,
      got s (k.live c s listed),
      got i h.before,
      all,
      times_most (on (in_order (rotation w c)) i) (picked.quanta i) (k.once c i),
      pick_lead (station_need w c) (is_ready w c) (rotation w c) s i (k.once c) differs stands,
    ));
    own = record { quanta = grown_s.quanta };
    other = record { quanta = grown_i.quanta };
    spends = inl (omega (arith, grown_i.charged));
  }
    where
      listed : 0 < on (in_order (rotation w c)) s
      listed = stays_listed c s i w ends h

      stands : Stands (is_ready w c) (rotation w c) picked s
      stands = elim h.place [
        | inl z ↦ inl (z.0, subst (λ (r : Rotation). 0 < on r.old s) lists_now z.1)
        | inr z ↦ inr z
      ]

      still : 0 < on (in_order picked.lists) s
      still = elim stands [
        | inl z ↦ omega (arith, z.1, on-append picked.lists.old picked.lists.new s)
        | inr z ↦ omega (arith, z.0, pick_keeps (station_need w c) (is_ready w c) (rotation w c) s z.1)
      ]

      all : on (in_order (rotation w c)) s * picked.quanta s ≡ picked.quanta s
      all =
          let one : on (in_order (rotation w c)) s ≡ 1 = omega (arith, listed, k.once c s) in
          ap (λ (n : ℕ). n * picked.quanta s) one ∙ omega arith

      grown_s : IsGrown c 0 (acc (books w) s) (acc ends s)
      grown_s = grown_option w.config.quantum _ c c ((books w).accounts s)

      grown_i : IsGrown c 0 (acc (books w) i) (acc ends i)
      grown_i = grown_option w.config.quantum _ c c ((books w).accounts i)

move_class_other : (l : ℕ) (w : World) (d c : Class) (s i : ℕ) → 0 < on (in_order (rotation w c)) s →
    (class_number c ≡ class_number d → ⊥) → IsMove l c s i (books w) (after (books w) d (picked_station w d))
move_class_other l w d c s i listed other = move_turn l c s i 0 0 (books w) _ listed
    (updc_other (books w).rotations d c (picked_station w d).lists other) (omega arith)
    (turn_class_other (books w) (picked_station w d) d c i s other)

move_after : (l : ℕ) (w : World) (d c : Class) (s i : ℕ) → IsKept (books w) → (s ≡ i → ⊥) →
    Stays c s i w (after (books w) d (picked_station w d)) →
    IsMove l c s i (books w) (after (books w) d (picked_station w d))
move_after l w d c s i k differs h = elim (cases_class d c) [
  | inl e ↦ subst (λ (z : Class). Stays c s i w (after (books w) z (picked_station w z)) →
      IsMove l c s i (books w) (after (books w) z (picked_station w z))) (sym e)
      (move_class l w c s i k differs) h
  | inr other ↦ move_class_other l w d c s i (stays_listed c s i w _ h) (λ e. other (sym e))
]

-- an exchange opens, of another station or of another class
move_opened_other : (l : ℕ) (c : Class) (s i : ℕ) (b b' : Books) (x : Exchange) → part_of l i c (core x) ≡ 0 →
    IsMove l c s i b b' → IsMove l c s i b (with_opened b' x)
move_opened_other l c s i b b' x none h = record {
  listed = h.listed;
  order = h.order;
  own = h.own;
  other = h.other;
  spends = elim h.spends [
    | inl z ↦ inl (omega (arith, z, none, reserved-append l i c b'.opened (core x)))
    | inr z ↦ inr z
  ];
}

-- i opens an exchange
move_opened : (l : ℕ) (c : Class) (s i : ℕ) (b b' : Books) (x : Exchange) → lead s i (b'.rotations c) ≡ 0 →
    pos 1 ≤ℤ ((acc b' i).shares c).deficit → IsMove l c s i b b' → IsMove l c s i b (with_opened b' x)
move_opened l c s i b b' x first above h = record {
  listed = h.listed;
  order = h.order;
  own = h.own;
  other = h.other;
  spends = inr (omega (arith, h.order, first), above);
}

if_acc : (P : Account → Type 0) (o : Option Account) → is_some o ≡ true → IfSome o P →
    P (unwrap_or o (account no_station))
if_acc P None is h = absurd (cc is)
if_acc P (Some a) is h = h

-- the books after a pull: those after the pick, with the winner's exchange
pub pulled_by : (P : Books → Type 0) (o : Option ℕ) (v : World) (d : Class) → (o ≡ None → P (books v))
    → ((k : ℕ) (x : Exchange) → o ≡ Some k → x.station ≡ k → x.class ≡ d → P (with_opened (books v) x))
    → P (books (pull_outcome_for v d o).world)
unfolding pull_outcome_for
pulled_by P None v d none some = none refl
pulled_by P (Some k) v d none some =
    let t : ℕ = sending_tid v k d in
    let p : Prepared = prepared_exchange (after_tid_turn v k d t) k t in
    let e : books p.world ≡ books v = books_prepared (after_tid_turn v k d t) k t
    ∙ books_after_turn v k d t in
    subst P (sym (books_sent k t d p))
    (subst (λ (b : Books). P (with_opened b (exchange_of k t d p))) (sym e)
    (some k (exchange_of k t d p) refl refl refl))

move_pulled : (l : ℕ) (w : World) (d c : Class) (limits : Limits) (s i : ℕ) → IsKept (books w) → (s ≡ i → ⊥) →
    Stays c s i w (books (pull_outcome w d limits).world) →
    IsMove l c s i (books w) (books (pull_outcome w d limits).world)
unfolding pull_outcome
move_pulled l w d c limits s i k differs h = pulled_by (IsMove l c s i (books w)) (picked_station w d).winner
    (with_limits w d limits) d
    (λ _. subst (IsMove l c s i (books w)) (sym (books_after_pick w d)) picks)
    (λ v x won own of. subst (λ (b : Books). IsMove l c s i (books w) (with_opened b x))
    (sym (books_after_pick w d)) (opens v x won own of))
  where
    ends : Books
    ends = after (books w) d (picked_station w d)

    picks : IsMove l c s i (books w) (after (books w) d (picked_station w d))
    picks = move_after l w d c s i k differs (stays_calm c s i w _ _ (calm_pulled w d limits) h)

    more : (v : ℤ) (n : ℕ) → pos 1 ≤ℤ (v -ℤ pos n) → pos 1 ≤ℤ v
    more v n h = omega (arith, ints)

    -- i wins in the class
    wins : (x : Exchange) → (picked_station w c).winner ≡ Some i → d ≡ c →
        IsMove l c s i (books w) (with_opened (after (books w) d (picked_station w d)) x)
    wins x won e =
        let winner : IsWinner (station_need w c) (is_ready w c) (rotation w c) (picked_station w c) i =
        pick_winner (station_need w c) (is_ready w c) (rotation w c) i won in
        let stays : Stays c s i w (after (books w) c (picked_station w c)) =
        subst (λ (z : Class). Stays c s i w (after (books w) z (picked_station w z))) e
        (stays_calm c s i w _ _ (calm_pulled w d limits) h) in
        let first : lead s i (picked_station w c).lists ≡ 0 =
        win_lead (station_need w c) (is_ready w c) (rotation w c) s i (k.once c) differs won in
        let above : pos 1 ≤ℤ ((acc (after (books w) c (picked_station w c)) i).shares c).deficit =
        if_acc (λ a. pos 1 ≤ℤ (a.shares c).deficit)
        ((after (books w) c (picked_station w c)).accounts i) stays.other
        (if_same (λ a. pos 1 ≤ℤ standing_of (books w) i c a) (λ a. pos 1 ≤ℤ (a.shares c).deficit)
        ((after (books w) c (picked_station w c)).accounts i)
        (above_after (books w) c (picked_station w c) i k winner.listed
        (if_same _ _ ((books w).accounts i) (need_is w c i) (λ a _ e. winner.given ∙ e)))
        (λ a _ h. more (a.shares c).deficit (counted_in w.config i c (books w).opened) h)) in
        subst (λ (z : Class). IsMove l c s i (books w)
        (with_opened (after (books w) z (picked_station w z)) x)) (sym e)
        (move_opened l c s i (books w) (after (books w) c (picked_station w c)) x
        (ap (lead s i) (updc_same (books w).rotations c (picked_station w c).lists) ∙ first) above
        (move_class l w c s i k differs stays))

    opens : (v : ℕ) (x : Exchange) → (picked_station w d).winner ≡ Some v → x.station ≡ v → x.class ≡ d →
        IsMove l c s i (books w) (with_opened (after (books w) d (picked_station w d)) x)
    opens v x won own of = elim (cases_eq v i) [
      | inl e ↦ elim (cases_class d c) [
        | inl same ↦ wins x (subst (λ (z : Class). (picked_station w z).winner ≡ Some i) same
            (won ∙ ap (λ (n : ℕ). Some n) e)) same
        | inr other ↦ move_opened_other l c s i (books w) _ x (not_class other) picks
      ]
      | inr away ↦ move_opened_other l c s i (books w) _ x
          (rw (ne_eqb x.station i (λ z. away (sym own ∙ z))) refl) picks
    ]
      where
        not_class : (class_number d ≡ class_number c → ⊥) → part_of l i c (core x) ≡ 0
        not_class other =
            let no : same_class x.class c ≡ false =
            ne_eqb (class_number x.class) (class_number c) (λ z. other (sym (ap class_number of) ∙ z)) in
            nothing (x.station == i) (same_class x.class c) no
          where
            nothing : (a b : Bool) → b ≡ false → (if a && b then l else 0) ≡ 0
            nothing true true e = absurd (cc e)
            nothing false true e = absurd (cc e)
            nothing true false e = refl
            nothing false false e = refl

-- ---- a join and a leave

-- a station joins that was not live
move_fresh : (l : ℕ) (w : World) (k weight : ℕ) (c : Class) (s i : ℕ) → is_live w k ≡ false →
    IsKept (books w) → 0 < on (in_order (rotation w c)) s → is_some ((books w).accounts i) ≡ true →
    IsMove l c s i (books w) (with_account (books w) k (Some (fresh_account w.config.quantum weight)))
move_fresh l w k weight c s i dead kept listed before =
    move_turn l c s i 0 0 (books w) _ listed refl (omega arith)
    (turn_other c i s k (books w) (Some (fresh_account w.config.quantum weight)) (away i before)
    (away s (kept.live c s listed)))
  where
    away : (y : ℕ) → is_some ((books w).accounts y) ≡ true → y ≡ k → ⊥
    away y live e =
        let live' : is_some ((books w).accounts k) ≡ true =
        subst (λ (z : ℕ). is_some ((books w).accounts z) ≡ true) e live in
        cc (live_account (at None w.stations k), live', dead)

move_joined : (l : ℕ) (w : World) (k window start exponent weight : ℕ) (c : Class) (s i : ℕ) →
    is_live w k ≡ false → IsKept (books w) →
    Stays c s i w (books (join_outcome w k window start exponent weight).world) →
    IsMove l c s i (books w) (books (join_outcome w k window start exponent weight).world)
move_joined l w k window start exponent weight c s i dead kept h =
    subst (IsMove l c s i (books w)) (sym (books_joined w k window start exponent weight))
    (move_fresh l w k weight c s i dead kept (stays_listed c s i w _ h) h.before)

move_offloaded : (l : ℕ) (w : World) (k exponent weight : ℕ) (c : Class) (s i : ℕ) →
    is_live w k ≡ false → IsKept (books w) →
    Stays c s i w (books (offload_outcome w k exponent weight).world) →
    IsMove l c s i (books w) (books (offload_outcome w k exponent weight).world)
move_offloaded l w k exponent weight c s i dead kept h =
    subst (IsMove l c s i (books w)) (sym (books_offloaded w k exponent weight))
    (move_fresh l w k weight c s i dead kept (stays_listed c s i w _ h) h.before)

move_joined_plain : (l : ℕ) (w : World) (k start exponent weight : ℕ) (c : Class) (s i : ℕ) →
    is_live w k ≡ false → IsKept (books w) →
    Stays c s i w (books (plain_outcome w k start exponent weight).world) →
    IsMove l c s i (books w) (books (plain_outcome w k start exponent weight).world)
move_joined_plain l w k start exponent weight c s i dead kept h =
    subst (IsMove l c s i (books w)) (sym (books_joined_plain w k start exponent weight))
    (move_fresh l w k weight c s i dead kept (stays_listed c s i w _ h) h.before)

all_off_is : (b : Books) (k : ℕ) (c : Class) → (all_off b k).rotations c ≡ without_key (b.rotations c) k
all_off_is b k Bk = refl
all_off_is b k Be = refl
all_off_is b k Vi = refl
all_off_is b k Vo = refl

stays_on : (r : Rotation) (k s : ℕ) → (s ≡ k → ⊥) → on (in_order (without_key r k)) s ≡ on (in_order r) s
stays_on r k s away =
    let keep : not (s == k) ≡ true = not_from_false _ (ne_eqb s k away) in
    omega (
      arith,
      on-append (without_key r k).old (without_key r k).new s,
      on-append r.old r.new s,
      on-filter (λ z. not (z == k)) r.old s keep,
      on-filter (λ z. not (z == k)) r.new s keep,
    )

move_gone : (l : ℕ) (w : World) (k : ℕ) (c : Class) (s i : ℕ) →
    Stays c s i w (with_account (all_off (books w) k) k None) →
    IsMove l c s i (books w) (with_account (all_off (books w) k) k None)
move_gone l w k c s i h = move_lists l c s i (books w) (with_account (books w) k None) _ refl refl
    (omega (
      arith,
      ap (lead s i) (all_off_is (books w) k c),
      lead_off s i k (rotation w c) (away s h.own) (away i h.other),
    ))
    (subst (λ (r : Rotation). 0 < on (in_order r) s) (sym (all_off_is (books w) k c))
    (omega (arith, listed, stays_on (rotation w c) k s (away s h.own))))
    (move_turn l c s i 0 0 (books w) _ listed refl (omega arith)
    (turn_other c i s k (books w) None (away i h.other) (away s h.own)))
  where
    listed : 0 < on (in_order (rotation w c)) s
    listed = stays_listed c s i w _ h

    away : (y : ℕ) → is_some ((with_account (all_off (books w) k) k None).accounts y) ≡ true → y ≡ k → ⊥
    away y live e =
        let none : (with_account (all_off (books w) k) k None).accounts y ≡ None =
        subst (λ (z : ℕ). (with_account (all_off (books w) k) k None).accounts z ≡ None) (sym e)
        (upd_same (books w).accounts k None) in
        cc (ap is_some none, live)

-- ---- an exchange ends

-- what an exchange of a class is charged is at most the longest charge of the class
pub charge_most : (config : Config) (air : Option ℕ) (x : Exchange) (i : ℕ) (c : Class) →
    charge_of air x ≤ longest_exchange config x.class →
    charge_to i c air (Some x) ≤ part_of (longest_exchange config c) i c x
charge_most config air x i c h = go (x.station == i) (same_class x.class c) refl
  where
    go : (a b : Bool) → same_class x.class c ≡ b →
        (if a && b then charge_of air x else 0) ≤ (if a && b then longest_exchange config c else 0)
    go true true e = subst (λ (d : Class). charge_of air x ≤ longest_exchange config d)
        (same_number x.class c (eqb-true _ _ e)) h
    go true false e = omega arith
    go false b e = omega arith

move_ended : (air : Option ℕ) (w : World) (e : ℕ) (x : Exchange) (heard : Bool) (c : Class) (s i : ℕ) →
    IsKept (books w) → IsFound w e x → charge_of air x ≤ longest_exchange w.config x.class →
    0 < on (in_order (rotation w c)) s →
    IsMove (longest_exchange w.config c) c s i (books w) (books (done_outcome w x heard air).world)
move_ended air w e x heard c s i k found most listed =
    move_turn (longest_exchange w.config c) c s i _ _ (books w) _ listed
    (ap (λ (b : Books). b.rotations c) (books_ended air w x heard))
    (subst (λ (b : Books). charge_to i c air (Some x) + reserved (longest_exchange w.config c) i c b.opened
    ≤ reserved (longest_exchange w.config c) i c (books w).opened) (sym (books_ended air w x heard))
    (omega (
      arith,
      charge_most w.config air x i c most,
      reserved-ended (longest_exchange w.config c) i c (books w).opened (core x) x.number
          (at_number w e x found),
    )))
    (turn_ended air w e x heard c i s k found)

-- ---- the step

move_open : (l : ℕ) (w : World) (e : ℕ) (o : Option Exchange) (f : Exchange → Outcome) (c : Class) (s i : ℕ) →
    0 < on (in_order (rotation w c)) s → exchange w e ≡ o →
    ((x : Exchange) → IsFound w e x → IsMove l c s i (books w) (books (f x).world)) →
    IsMove l c s i (books w) (books (outcome_where_open w o f).world)
unfolding outcome_where_open
move_open l w e None f c s i listed k h = move_turn l c s i 0 0 (books w) (books w) listed refl (omega arith)
    (turn_here c i s (books w))
move_open l w e (Some x) f c s i listed k h = h x k

move_same : (l : ℕ) (c : Class) (s i : ℕ) (b b' : Books) → 0 < on (in_order (b.rotations c)) s → b' ≡ b →
    IsMove l c s i b b'
move_same l c s i b b' listed e = subst (IsMove l c s i b) (sym e)
    (move_turn l c s i 0 0 b b listed refl (omega arith) (turn_here c i s b))

move_done : (note : Note) (w : World) (c : Class) (s i : ℕ) → NoRow (refusals w note) → IsKept (books w) →
    (s ≡ i → ⊥) → Stays c s i w (books (outcome_of w note).world) →
    IsMove (longest_exchange w.config c) c s i (books w) (books (outcome_of w note).world)
unfolding outcome_of tick_outcome
move_done (Enqueue k t flow len) w c s i r kept differs h =
    move_same _ c s i _ _ (stays_listed c s i w _ h) (books_enqueued w k t flow len)
move_done (Asked (Join k window start exponent weight)) w c s i r kept differs h =
    move_joined _ w k window start exponent weight c s i r.1.1.1.1.1.0 kept h
move_done (Asked (Offload k exponent weight)) w c s i r kept differs h =
    move_offloaded _ w k exponent weight c s i r.1.1.1.0 kept h
move_done (Asked (Plain k start exponent weight)) w c s i r kept differs h =
    move_joined_plain _ w k start exponent weight c s i r.1.1.1.1.0 kept h
move_done (Asked (Weight k weight)) w c s i r kept differs h =
    move_turn _ c s i 0 0 (books w) _ (stays_listed c s i w _ h)
    (ap (λ (b : Books). b.rotations c) (books_weighed w k weight))
    (subst (λ (b : Books). 0 + reserved (longest_exchange w.config c) i c b.opened
    ≤ reserved (longest_exchange w.config c) i c (books w).opened) (sym (books_weighed w k weight))
    (omega arith))
    (turn_weighed w k weight c i s)
move_done (Asked (Leave k)) w c s i r kept differs h =
    subst (λ (b : Books). Stays c s i w b → IsMove (longest_exchange w.config c) c s i (books w) b)
    (sym (books_gone w k)) (move_gone _ w k c s i) h
move_done (Asked (Rate k rate)) w c s i r kept differs h =
    move_turn _ c s i 0 0 (books w) _ (stays_listed c s i w _ h)
    (ap (λ (b : Books). b.rotations c) (books_with_rate w k rate))
    (subst (λ (b : Books). 0 + reserved (longest_exchange w.config c) i c b.opened
    ≤ reserved (longest_exchange w.config c) i c (books w).opened) (sym (books_with_rate w k rate))
    (omega arith))
    (turn_rated w k rate c i s)
move_done (Asked (Tick by)) w c s i r kept differs h =
    move_same _ c s i _ _ (stays_listed c s i w _ h) refl
move_done (Asked (Pull d l)) w c s i r kept differs h = move_pulled _ w d c l s i kept differs h
move_done (Asked (Arrive e n)) w c s i r kept differs h =
    move_open _ w e (exchange w e) _ c s i (stays_listed c s i w _ h) refl
    (λ x f. move_same _ c s i _ _ (stays_listed c s i w _ h) (books_arrived w e n x kept f))
move_done (Asked (Unsent e n)) w c s i r kept differs h =
    move_open _ w e (exchange w e) _ c s i (stays_listed c s i w _ h) refl
    (λ x f. move_same _ c s i _ _ (stays_listed c s i w _ h) (books_unsent w e n x kept f))
move_done (Asked (GiveUp e n)) w c s i r kept differs h =
    move_open _ w e (exchange w e) _ c s i (stays_listed c s i w _ h) refl
    (λ x f. move_same _ c s i _ _ (stays_listed c s i w _ h) (books_given_up w e n x kept f))
move_done (Asked (Answer e)) w c s i r kept differs h =
    move_open _ w e (exchange w e) _ c s i (stays_listed c s i w _ h) refl
    (λ x f. move_same _ c s i _ _ (stays_listed c s i w _ h) (books_answered w e x kept f))
move_done (Asked (Done e heard air)) w c s i r kept differs h =
    move_open _ w e (exchange w e) _ c s i (stays_listed c s i w _ h) refl
    (λ x f. move_ended air w e x heard c s i kept f (charge_within w e x air kept f r.1.1.0)
    (stays_listed c s i w _ h))
move_done (Asked (Sleep k)) w c s i r kept differs h =
    move_same _ c s i _ _ (stays_listed c s i w _ h) (books_slept w k)
move_done (Asked (Ampdu k octets)) w c s i r kept differs h =
    move_same _ c s i _ _ (stays_listed c s i w _ h) (books_stated w k octets)
move_done (Asked (Stop k)) w c s i r kept differs h =
    move_same _ c s i _ _ (stays_listed c s i w _ h) (books_stopped w k)
move_done (Asked (Start k)) w c s i r kept differs h =
    move_same _ c s i _ _ (stays_listed c s i w _ h) (books_started w k)
move_done (Asked (Flush k t)) w c s i r kept differs h =
    move_same _ c s i _ _ (stays_listed c s i w _ h) (books_flushed w k t)
move_done (Asked (Hold k t)) w c s i r kept differs h =
    move_same _ c s i _ _ (stays_listed c s i w _ h) (books_held w k t)
move_done (Asked (Begin k t window)) w c s i r kept differs h =
    move_same _ c s i _ _ (stays_listed c s i w _ h) (books_begun w k t window)
move_done (Asked (Free k t)) w c s i r kept differs h =
    move_same _ c s i _ _ (stays_listed c s i w _ h) (books_freed w k t)
move_done (Asked (Cease k t)) w c s i r kept differs h =
    move_same _ c s i _ _ (stays_listed c s i w _ h) (books_ceased w k t)
move_done (Asked (Wake k)) w c s i r kept differs h =
    move_same _ c s i _ _ (stays_listed c s i w _ h) (books_woken w k)
move_done (Asked (Poll k)) w c s i r kept differs h =
    move_same _ c s i _ _ (stays_listed c s i w _ h) (books_credited w k)
move_done (Asked (Rx k d air)) w c s i r kept differs h =
    move_turn _ c s i 0 0 (books w) _ (stays_listed c s i w _ h)
    (ap (λ (b : Books). b.rotations c) (books_received w k d air))
    (subst (λ (b : Books). 0 + reserved (longest_exchange w.config c) i c b.opened
    ≤ reserved (longest_exchange w.config c) i c (books w).opened) (sym (books_received w k d air))
    (omega arith))
    (turn_received w k d air c i s)
move_done (Asked Reap) w c s i r kept differs h =
    move_same _ c s i _ _ (stays_listed c s i w _ h) (books_reaped w.finished w)
move_done (Asked (Group ask)) w c s i r kept differs h =
    move_same _ c s i _ _ (stays_listed c s i w _ h) refl
move_done (Asked (Service ask)) w c s i r kept differs h =
    move_same _ c s i _ _ (stays_listed c s i w _ h) (books_served w ask)
move_done (Asked (Bss k b)) w c s i r kept differs h =
    move_same _ c s i _ _ (stays_listed c s i w _ h) (books_moved w k b)

move_refused : (note : Note) (r : Refusal) (w : World) (c : Class) (s i : ℕ) → IsKept (books w) →
    (s ≡ i → ⊥) → Stays c s i w (books (after_refusal w note r)) →
    IsMove (longest_exchange w.config c) c s i (books w) (books (after_refusal w note r))
unfolding after_refusal
move_refused (Asked (Pull d l)) Idle w c s i kept differs h =
    after_idle (λ v. Stays c s i w (books v) →
    IsMove (longest_exchange w.config c) c s i (books w) (books v)) w d
    (λ stays. move_same _ c s i _ _ (stays_listed c s i w _ stays) refl)
    (subst (λ (b : Books). Stays c s i w b → IsMove (longest_exchange w.config c) c s i (books w) b)
    (sym (books_after_pick w d)) (move_after _ w d c s i kept differs)) h
move_refused _ _ w c s i kept differs h = move_same _ c s i _ _ (stays_listed c s i w _ h) refl

move_answer : (r : Option Refusal) (w : World) (note : Note) (c : Class) (s i : ℕ) → refusal w note ≡ r →
    IsKept (books w) → (s ≡ i → ⊥) → Stays c s i w (books (judged_outcome w note r).world) →
    IsMove (longest_exchange w.config c) c s i (books w) (books (judged_outcome w note r).world)
unfolding judged_outcome
move_answer (Some r) w note c s i e kept differs h = move_refused note r w c s i kept differs h
move_answer None w note c s i e kept differs h =
    move_listed _ _ c s i (books w) (outcome_of w note).world
    (move_done note w c s i (no_row (refusals w note) e) kept differs (stays_before note w c s i kept h))

pub move_step : (w : World) (note : Note) (c : Class) (s i : ℕ) → IsKept (books w) → (s ≡ i → ⊥) →
    Stays c s i w (books (step w note).world) →
    IsMove (longest_exchange w.config c) c s i (books w) (books (step w note).world)
unfolding step
move_step w note c s i kept differs h = move_answer (refusal w note) w note c s i refl kept differs h
