-- Proves what the marks of an exchange do to the world of a run, and that a path meets them: no receiver did
-- anything yet, so the half takes a mark exactly if the machine does. By induction over the outcomes.
use Rattle.std.proofs.Common.{◌≡◌, refl, ap, ap₂, sym, ◌∙◌, subst, arith, ℕ, zero, suc, ◌+◌, ◌<◌, ◌≤◌, ◌==◌, nat_le, Bool, true, false, ◌||◌, if◌then◌else◌, List, [], ◌∷◌, ◌++◌, length, take, get_or, Option, Some, None, is_some, is_none}
use Rattle.std.specs.Prelude.{find, IfSome}
use Rattle.std.proofs.lemmas.List.{take_more, length-take}
use Rattle.wf_frame.specs.Answers.{reply_with}
use Rattle.wf_frame.specs.Classes.{all_classes}
use Rattle.wf_frame.specs.Frames.{FrameValue}
use Rattle.wf_frame.specs.declared.answers.Brief.{Brief}
use Rattle.wf_frame.specs.declared.classes.Class.{Class}
use Rattle.wf_frame.specs.declared.notes.Ask.TheVariants as machine
use Rattle.wf_frame.specs.declared.notes.Note.{Note}
use Rattle.wf_frame.specs.declared.notes.Note.TheVariants.{Asked}
use Rattle.wf_frame.specs.declared.notes.ReplyNote.{ReplyNote}
use Rattle.wf_frame.specs.declared.notes.ReplyNote.TheVariants.{Marked}
use Rattle.wf_def_lists.specs.Table.{has, with_member}
use Rattle.wf_def_rotation.specs.Rotation.{Rotation}
use Rattle.wf_def_world.specs.CanSend.{with_listing_in, with_listings_in, with_listings_of}
use Rattle.wf_def_world.specs.Exchanges.{transmissions, is_marked}
use Rattle.wf_def_world.specs.Refusals.{refusal, exchange_has}
use Rattle.wf_def_world.specs.Run.{Entry, by, world_after}
use Rattle.wf_def_world.specs.Step.{Outcome as MachineOutcome, unsent_outcome, give_up_outcome, outcome_of, outcome_where_open, station_of, step}
use Rattle.wf_def_world.specs.World.{World, Exchange, Content, exchange, with_exchange, with_rotation}
use Rattle.wf_law_rules.proofs.Lemmas.Numbers.{has_other}
use Rattle.wf_law_runs.proofs.Frames.Fates.{world_after-append}
use Rattle.wf_law_runs.proofs.Windows.Sides.{same_listed}
use Rattle.wf_law_driver.specs.Inferred.{AreAnswered}
use Rattle.wf_law_driver.specs.Unheard.{IsUnmarked, IsUnheard}
use Rattle.wf_law_driver.proofs.Opened.{found_replaced, found_number, found_each, none_refuses, step_done}
use Rattle.wf_send_half.specs.Marks.{HasNotArrived, bodies_unsent}
use Rattle.wf_send_half.proofs.Kept.{silent_at}
use Rattle.wf_send_half_model.specs.Half.{TransmitValue, group_in}
use Rattle.wf_send_half_model.specs.Marking.{with_transmission_unsent}
use Rattle.wf_send_half_model.specs.Standing.{IsReached, StandsFor, Meets}
use Rattle.wf_send_half_model.proofs.Reached.{reached_step, step_done as whole_step}
use Rattle.wf_path.specs.Addresses.{Addresses}
use Rattle.wf_path.specs.Each.{marks, bodies_each}
use Rattle.wf_path.specs.Group.{FliesAsSaid}
use Rattle.wf_path.specs.Heard.{IsMarked}
use Rattle.wf_path.specs.Jobs.{is_refused}
use Rattle.wf_path.specs.Paths.{PathValue, IsPath, RiseLittle, IsAnsweredBriefly}
use Rattle.wf_path.specs.declared.each.Outcome.{Outcome}
use Rattle.wf_path.specs.declared.each.Outcome.TheVariants.{Acked, Retry, Unsent, GaveUp}
use Rattle.wf_path.proofs.CallAnswers.{refused_so}
use Rattle.wf_path.proofs.Rises.{rises_by, KeepsCounts}
use Rattle.wf_path.proofs.Values.{half_is, addresses_are, with_half}

-- ---- no receiver did anything

pub untold : (w : World) → IsUnheard w → (e i : ℕ) → HasNotArrived w e i
untold w un e i = by_case (exchange w e) refl
  where
    by_case : (o : Option Exchange) → exchange w e ≡ o →
        IfSome o (λ x. (x.answer ≡ None) × (has x.arrived i ≡ false))
    by_case None is = tt
    by_case (Some x) is =
        let none : IsUnmarked x = found_each IsUnmarked w e x is un.marks in
        (none.answer, ap (λ (l : List ℕ). has l i) none.arrived)

-- ---- the call Unsent of a path

-- x is the half of the path p, a are its addresses, and u is the half after the call
module _ (x : TransmitValue) (h : IsPath x) (e i : ℕ) (reply : ReplyNote) (u : TransmitValue)
    (meets : (w : World) (bodies : ℕ → FrameValue) → StandsFor x w bodies → HasNotArrived w e i →
    Meets w (bodies_unsent (exchange w e) i reply bodies) (Asked (machine.Unsent e i)) u reply)
    (unheard : IsPath u) where
  pub unsent_briefly : (a : Addresses) (p : PathValue) →
      ◌≡◌ {A = PathValue} (record { half = x; addresses = a }) p → (brief : Brief) →
      ((pairs : List (ℕ × ℕ)) (ids : List ℕ) → reply_with brief pairs ids ≡ reply) →
      (is_refused reply ≡ true → u ≡ x) → FliesAsSaid (group_in u 0) reply →
      IsAnsweredBriefly p (machine.Unsent e i) (record { half = u; addresses = a }) brief
  unsent_briefly a p same brief says stays flight pairs = record {
    meets = λ w bodies ids st told.
        subst (λ (z : ReplyNote). Meets w (bodies_unsent (exchange w e) i z bodies)
        (Asked (machine.Unsent e i)) u z) (sym (says pairs ids))
        (meets w bodies (subst (λ (z : TransmitValue). StandsFor z w bodies) (sym (half_is same)) st) told);
    refused = λ ids is. ap (λ (z : TransmitValue). with_half a z)
        (stays (ap is_refused (sym (says pairs ids)) ∙ refused_so (reply_with brief pairs ids) is)) ∙ same;
    pending = λ ids on is. ap (λ (z : TransmitValue). with_half a z)
        (stays (ap is_refused (sym (says pairs ids)) ∙ is)) ∙ same;
    flight = λ ids. subst (FliesAsSaid (group_in u 0)) (sym (says pairs ids)) flight;
    addresses = addresses_are same;
    path = unheard;
    rises = subst (λ (z : TransmitValue). RiseLittle z u) (half_is same) (rises_by x u h
        (bodies_unsent (exchange h.world e) i reply h.bodies) (Asked (machine.Unsent e i)) reply
        (meets h.world h.bodies h.stands (untold h.world h.unheard e i)));
  }

-- ---- one mark in the machine

-- the exchange after transmission i ended so
abbrev pub marked : ℕ → Outcome → Exchange → Exchange
marked i Unsent x = record x { unsent = with_member i x.unsent }
marked i GaveUp x = record x { given_up = with_member i x.given_up }
marked i other x = x

-- the same for all outcomes; i is the index of the first one
abbrev pub all_marked : ℕ → List Outcome → Exchange → Exchange
all_marked i [] x = x
all_marked i (outcome ∷ outcomes) x = all_marked (suc i) outcomes (marked i outcome x)

-- ---- counts

then_counts : (w u o : World) → KeepsCounts w u → KeepsCounts u o → KeepsCounts w o
then_counts w u o h k = record {
  clock = k.clock ∙ h.clock;
  exchanges = k.exchanges ∙ h.exchanges;
  accepted = k.accepted ∙ h.accepted;
  stations = k.stations ∙ h.stations;
  groups = k.groups ∙ h.groups;
}

same_counts : (w : World) → KeepsCounts w w
same_counts w = record { clock = refl; exchanges = refl; accepted = refl; stations = refl; groups = refl }

either_counts : (b : Bool) (w u o : World) → KeepsCounts w u → KeepsCounts w o →
    KeepsCounts w (if b then u else o)
either_counts true w u o h k = h
either_counts false w u o h k = k

rotated_counts : (w : World) (c : Class) (r : Rotation) → KeepsCounts w (with_rotation w c r)
unfolding with_rotation
rotated_counts w c r = record {
  clock = refl;
  exchanges = refl;
  accepted = refl;
  stations = refl;
  groups = refl;
}

listed_counts : (cs : List Class) (w : World) (s : ℕ) → KeepsCounts w (with_listings_in w s cs)
unfolding with_listings_in with_listing_in
listed_counts [] w s = same_counts w
listed_counts (c ∷ cs) w s =
    then_counts w _ _ (either_counts _ w _ w (rotated_counts w c _) (same_counts w)) (listed_counts cs _ s)

replaced_counts : (w : World) (z : Exchange) (s : ℕ) →
    KeepsCounts w (with_listings_of (with_exchange w z) (Some s))
unfolding with_listings_of with_exchange
replaced_counts w z s = then_counts w (with_exchange w z) _
    (record { clock = refl; exchanges = refl; accepted = refl; stations = refl; groups = refl })
    (listed_counts all_classes (with_exchange w z) s)

-- ---- marks that are taken

not_le : (a b : ℕ) → b < a → nat_le a b ≡ false
not_le a b h = grind arith

module _ (w : World) (e i : ℕ) (x : Exchange) (known : exchange w e ≡ Some x) where
  replaced : (z : Exchange) → z.number ≡ x.number → exchange (with_exchange w z) e ≡ Some z
  unfolding with_exchange
  replaced z same = found_replaced w.opened e x z known (same ∙ found_number w e x known)

  listed : (u : World) (o : Option ℕ) (z : Exchange) → exchange u e ≡ Some z →
      exchange (with_listings_of u o) e ≡ Some z
  listed u o z is = ap (find (λ y. y.number == e)) (same_listed o u).opened ∙ is

  unsent_found : refusal w (Asked (machine.Unsent e i)) ≡ None →
      exchange (step w (Asked (machine.Unsent e i))).world e ≡ Some (marked i Unsent x)
  unfolding outcome_of outcome_where_open unsent_outcome
  unsent_found fine =
      let z : Exchange = marked i Unsent x in
      let same : (step w (Asked (machine.Unsent e i))).world ≡ with_listings_of (with_exchange w z)
      (Some x.station) = step_done w (Asked (machine.Unsent e i)) fine
      ∙ ap (λ (o : Option Exchange). with_listings_of (outcome_where_open w o
      (λ y. unsent_outcome w y i)).world (station_of o)) known in
      ap (λ (k : World). exchange k e) same ∙ listed (with_exchange w z) (Some x.station) z (replaced z refl)

  gave_up_found : refusal w (Asked (machine.GiveUp e i)) ≡ None →
      exchange (step w (Asked (machine.GiveUp e i))).world e ≡ Some (marked i GaveUp x)
  unfolding outcome_of outcome_where_open give_up_outcome
  gave_up_found fine =
      let z : Exchange = marked i GaveUp x in
      let same : (step w (Asked (machine.GiveUp e i))).world ≡ with_listings_of (with_exchange w z)
      (Some x.station) = step_done w (Asked (machine.GiveUp e i)) fine
      ∙ ap (λ (o : Option Exchange). with_listings_of (outcome_where_open w o
      (λ y. give_up_outcome w y i)).world (station_of o)) known in
      ap (λ (k : World). exchange k e) same ∙ listed (with_exchange w z) (Some x.station) z (replaced z refl)

  unsent_reply : refusal w (Asked (machine.Unsent e i)) ≡ None →
      (step w (Asked (machine.Unsent e i))).reply ≡ Marked
  unfolding outcome_of outcome_where_open unsent_outcome
  unsent_reply fine = ap (λ (o : MachineOutcome). o.reply) (whole_step w (Asked (machine.Unsent e i)) fine)
      ∙ ap (λ (o : Option Exchange). (outcome_where_open w o (λ y. unsent_outcome w y i)).reply) known

  -- a mark is taken if the transmission exists and has none
  unsent_fine : IsUnheard w → i < transmissions x.content → is_marked x i ≡ false →
      refusal w (Asked (machine.Unsent e i)) ≡ None
  unsent_fine un low fresh =
      let none : IsUnmarked x = found_each IsUnmarked w e x known un.marks in
      none_refuses _ (
        ap is_none known,
        (
          ap (λ (o : Option Exchange). exchange_has o (λ y. nat_le (transmissions y.content) i)) known
              ∙ not_le (transmissions x.content) i low,
          (
            ap (λ (o : Option Exchange). exchange_has o (λ y. is_some y.answer)) known ∙ ap is_some
                none.answer,
            (
              ap (λ (o : Option Exchange). exchange_has o (λ y. has y.arrived i)) known
                  ∙ ap (λ (l : List ℕ). has l i) none.arrived,
              (ap (λ (o : Option Exchange). exchange_has o (λ y. is_marked y i)) known ∙ fresh, tt),
            ),
          ),
        ),
      )

  gave_up_fine : i < transmissions x.content → is_marked x i ≡ false →
      refusal w (Asked (machine.GiveUp e i)) ≡ None
  gave_up_fine low fresh = none_refuses _ (
    ap is_none known,
    (
      ap (λ (o : Option Exchange). exchange_has o (λ y. nat_le (transmissions y.content) i)) known
          ∙ not_le (transmissions x.content) i low,
      (ap (λ (o : Option Exchange). exchange_has o (λ y. is_marked y i)) known ∙ fresh, tt),
    ),
  )

  -- it changes no count
  unsent_counts : refusal w (Asked (machine.Unsent e i)) ≡ None →
      KeepsCounts w (step w (Asked (machine.Unsent e i))).world
  unfolding outcome_of outcome_where_open unsent_outcome
  unsent_counts fine = subst (KeepsCounts w) (sym (step_done w (Asked (machine.Unsent e i)) fine
      ∙ ap (λ (o : Option Exchange). with_listings_of (outcome_where_open w o
      (λ y. unsent_outcome w y i)).world (station_of o)) known))
      (replaced_counts w (marked i Unsent x) x.station)

  gave_up_counts : refusal w (Asked (machine.GiveUp e i)) ≡ None →
      KeepsCounts w (step w (Asked (machine.GiveUp e i))).world
  unfolding outcome_of outcome_where_open give_up_outcome
  gave_up_counts fine = subst (KeepsCounts w) (sym (step_done w (Asked (machine.GiveUp e i)) fine
      ∙ ap (λ (o : Option Exchange). with_listings_of (outcome_where_open w o
      (λ y. give_up_outcome w y i)).world (station_of o)) known))
      (replaced_counts w (marked i GaveUp x) x.station)

-- ---- all marks in the machine

-- the world after these marks of x, exchange e of w
pub record AreMarked (w : World) (caller e i : ℕ) (outcomes : List Outcome) (x : Exchange) : Type 0 where
  pub reached : IsReached (world_after w (marks caller e i outcomes))
  pub unheard : IsUnheard (world_after w (marks caller e i outcomes))
  pub known : exchange (world_after w (marks caller e i outcomes)) e ≡ Some (all_marked i outcomes x)
  pub counts : KeepsCounts w (world_after w (marks caller e i outcomes))

pub after_marks : (outcomes : List Outcome) (w : World) (caller e i : ℕ) (x : Exchange) → IsReached w →
    IsUnheard w → exchange w e ≡ Some x → AreAnswered w (marks caller e i outcomes) →
    AreMarked w caller e i outcomes x
unfolding world_after
after_marks [] w caller e i x r un known h = record
    { reached = r; unheard = un; known = known; counts = same_counts w }
after_marks (Acked ∷ outcomes) w caller e i x r un known h =
    let k = after_marks outcomes w caller e (suc i) x r un known h in
    record { reached = k.reached; unheard = k.unheard; known = k.known; counts = k.counts }
after_marks (Retry ∷ outcomes) w caller e i x r un known h =
    let k = after_marks outcomes w caller e (suc i) x r un known h in
    record { reached = k.reached; unheard = k.unheard; known = k.known; counts = k.counts }
after_marks (Unsent ∷ outcomes) w caller e i x r un known h =
    let note : Note = Asked (machine.Unsent e i) in
    let k = after_marks outcomes (step w note).world caller e (suc i) (marked i Unsent x)
    (reached_step w note r tt tt) (silent_at w note r tt un) (unsent_found w e i x known h.0) h.1 in
    record {
      reached = k.reached;
      unheard = k.unheard;
      known = k.known;
      counts = then_counts w (step w note).world _ (unsent_counts w e i x known h.0) k.counts;
    }
after_marks (GaveUp ∷ outcomes) w caller e i x r un known h =
    let note : Note = Asked (machine.GiveUp e i) in
    let k = after_marks outcomes (step w note).world caller e (suc i) (marked i GaveUp x)
    (reached_step w note r tt tt) (silent_at w note r tt un) (gave_up_found w e i x known h.0) h.1 in
    record {
      reached = k.reached;
      unheard = k.unheard;
      known = k.known;
      counts = then_counts w (step w note).world _ (gave_up_counts w e i x known h.0) k.counts;
    }

-- transmissions from i on have no mark
abbrev pub AreFresh : ℕ → Exchange → Type 0
AreFresh i x = (j : ℕ) → i ≤ j → is_marked x j ≡ false

fresh_unsent : (i : ℕ) (x : Exchange) → AreFresh i x → AreFresh (suc i) (marked i Unsent x)
fresh_unsent i x h j past =
    ap (λ (b : Bool). b || has x.given_up j) (has_other x.unsent i j (λ e. absurd (omega (arith, e, past))))
    ∙ h j (omega (arith, past))

fresh_given_up : (i : ℕ) (x : Exchange) → AreFresh i x → AreFresh (suc i) (marked i GaveUp x)
fresh_given_up i x h j past =
    ap (λ (b : Bool). has x.unsent j || b) (has_other x.given_up i j (λ e. absurd (omega (arith, e, past))))
    ∙ h j (omega (arith, past))

-- none of them is refused
pub marks_answered : (outcomes : List Outcome) (w : World) (caller e i : ℕ) (x : Exchange) → IsReached w →
    IsUnheard w → exchange w e ≡ Some x → i + length outcomes ≤ transmissions x.content → AreFresh i x →
    AreAnswered w (marks caller e i outcomes)
marks_answered [] w caller e i x r un known room fresh = tt
marks_answered (Acked ∷ outcomes) w caller e i x r un known room fresh =
    marks_answered outcomes w caller e (suc i) x r un known (omega (arith, room))
    (λ j past. fresh j (omega (arith, past)))
marks_answered (Retry ∷ outcomes) w caller e i x r un known room fresh =
    marks_answered outcomes w caller e (suc i) x r un known (omega (arith, room))
    (λ j past. fresh j (omega (arith, past)))
marks_answered (Unsent ∷ outcomes) w caller e i x r un known room fresh =
    let note : Note = Asked (machine.Unsent e i) in
    let fine : refusal w note ≡ None =
    unsent_fine w e i x known un (omega (arith, room)) (fresh i (omega arith)) in (
      fine,
      marks_answered outcomes (step w note).world caller e (suc i) (marked i Unsent x)
          (reached_step w note r tt tt) (silent_at w note r tt un) (unsent_found w e i x known fine)
          (omega (arith, room)) (fresh_unsent i x fresh),
    )
marks_answered (GaveUp ∷ outcomes) w caller e i x r un known room fresh =
    let note : Note = Asked (machine.GiveUp e i) in
    let fine : refusal w note ≡ None =
    gave_up_fine w e i x known (omega (arith, room)) (fresh i (omega arith)) in (
      fine,
      marks_answered outcomes (step w note).world caller e (suc i) (marked i GaveUp x)
          (reached_step w note r tt tt) (silent_at w note r tt un) (gave_up_found w e i x known fine)
          (omega (arith, room)) (fresh_given_up i x fresh),
    )

-- ---- one mark of a path

module _ (v u : TransmitValue) (e i : ℕ) where
  pub marked_unsent : (reply : ReplyNote) → ((w : World) (bodies : ℕ → FrameValue) → StandsFor v w bodies →
      HasNotArrived w e i →
      Meets w (bodies_unsent (exchange w e) i reply bodies) (Asked (machine.Unsent e i)) u reply) →
      IsMarked v u e i (Unsent ∷ [])
  unfolding world_after
  marked_unsent reply meets w bodies caller x st un known h =
      let m = meets w bodies st (untold w un e i) in
      let is : reply ≡ Marked = m.reply ∙ unsent_reply w e i x known h.0 in
      subst (λ (after : ℕ → FrameValue). StandsFor u (step w (Asked (machine.Unsent e i))).world after)
      (ap₂ (λ (o : Option Exchange) (z : ReplyNote). bodies_unsent o i z bodies) known is) m.stands

  pub marked_given_up : (reply : ReplyNote) → ((w : World) (bodies : ℕ → FrameValue) → StandsFor v w bodies →
      Meets w bodies (Asked (machine.GiveUp e i)) u reply) → IsMarked v u e i (GaveUp ∷ [])
  unfolding world_after
  marked_given_up reply meets w bodies caller x st un known h = (meets w bodies st).stands

  pub marked_not : (outcome : Outcome) → (outcome ≡ Unsent → ⊥) → (outcome ≡ GaveUp → ⊥) → u ≡ v →
      IsMarked v u e i (outcome ∷ [])
  unfolding world_after
  marked_not Acked here there same w bodies caller x st un known h =
      subst (λ (z : TransmitValue). StandsFor z w bodies) (sym same) st
  marked_not Retry here there same w bodies caller x st un known h =
      subst (λ (z : TransmitValue). StandsFor z w bodies) (sym same) st
  marked_not Unsent here there same w bodies caller x st un known h = absurd (here refl)
  marked_not GaveUp here there same w bodies caller x st un known h = absurd (there refl)

-- ---- one mark after others

marks_then : (caller e i : ℕ) (xs ys : List Outcome) →
    marks caller e i (xs ++ ys) ≡ marks caller e i xs ++ marks caller e (i + length xs) ys
marks_then caller e i [] ys = let here : i ≡ i + 0 = omega arith in ap (λ (k : ℕ). marks caller e k ys) here
marks_then caller e i (Acked ∷ xs) ys =
    let next : suc i + length xs ≡ i + suc (length xs) = omega arith in
    marks_then caller e (suc i) xs ys ∙ ap (λ (k : ℕ). marks caller e (suc i) xs ++ marks caller e k ys) next
marks_then caller e i (Retry ∷ xs) ys =
    let next : suc i + length xs ≡ i + suc (length xs) = omega arith in
    marks_then caller e (suc i) xs ys ∙ ap (λ (k : ℕ). marks caller e (suc i) xs ++ marks caller e k ys) next
marks_then caller e i (Unsent ∷ xs) ys =
    let next : suc i + length xs ≡ i + suc (length xs) = omega arith in
    ap (λ (l : List Entry). by caller (Asked (machine.Unsent e i)) ∷ l) (marks_then caller e (suc i) xs ys
    ∙ ap (λ (k : ℕ). marks caller e (suc i) xs ++ marks caller e k ys) next)
marks_then caller e i (GaveUp ∷ xs) ys =
    let next : suc i + length xs ≡ i + suc (length xs) = omega arith in
    ap (λ (l : List Entry). by caller (Asked (machine.GiveUp e i)) ∷ l) (marks_then caller e (suc i) xs ys
    ∙ ap (λ (k : ℕ). marks caller e (suc i) xs ++ marks caller e k ys) next)

bodies_then : (x : Exchange) (i : ℕ) (xs ys : List Outcome) (bodies : ℕ → FrameValue) →
    bodies_each x i (xs ++ ys) bodies ≡ bodies_each x (i + length xs) ys (bodies_each x i xs bodies)
bodies_then x i [] ys bodies =
    let here : i ≡ i + 0 = omega arith in ap (λ (k : ℕ). bodies_each x k ys bodies) here
bodies_then x i (Acked ∷ xs) ys bodies =
    let next : suc i + length xs ≡ i + suc (length xs) = omega arith in
    bodies_then x (suc i) xs ys bodies
    ∙ ap (λ (k : ℕ). bodies_each x k ys (bodies_each x (suc i) xs bodies)) next
bodies_then x i (Retry ∷ xs) ys bodies =
    let next : suc i + length xs ≡ i + suc (length xs) = omega arith in
    bodies_then x (suc i) xs ys bodies
    ∙ ap (λ (k : ℕ). bodies_each x k ys (bodies_each x (suc i) xs bodies)) next
bodies_then x i (GaveUp ∷ xs) ys bodies =
    let next : suc i + length xs ≡ i + suc (length xs) = omega arith in
    bodies_then x (suc i) xs ys bodies
    ∙ ap (λ (k : ℕ). bodies_each x k ys (bodies_each x (suc i) xs bodies)) next
bodies_then x i (Unsent ∷ xs) ys bodies =
    let next : suc i + length xs ≡ i + suc (length xs) = omega arith in
    bodies_then x (suc i) xs ys (with_transmission_unsent x.content i bodies)
    ∙ ap (λ (k : ℕ). bodies_each x k ys (bodies_each x (suc i) xs
    (with_transmission_unsent x.content i bodies))) next

bodies_same : (x z : Exchange) → z.content ≡ x.content → (i : ℕ) (ys : List Outcome)
    (bodies : ℕ → FrameValue) → bodies_each z i ys bodies ≡ bodies_each x i ys bodies
bodies_same x z same i [] bodies = refl
bodies_same x z same i (Acked ∷ ys) bodies = bodies_same x z same (suc i) ys bodies
bodies_same x z same i (Retry ∷ ys) bodies = bodies_same x z same (suc i) ys bodies
bodies_same x z same i (GaveUp ∷ ys) bodies = bodies_same x z same (suc i) ys bodies
bodies_same x z same i (Unsent ∷ ys) bodies =
    bodies_same x z same (suc i) ys (with_transmission_unsent z.content i bodies)
    ∙ ap (λ (c : Content). bodies_each x (suc i) ys (with_transmission_unsent c i bodies)) same

-- marks change neither what an exchange sends nor to whom, nor whether it is a batch
pub record IsSameElse (z x : Exchange) : Type 0 where
  pub content : z.content ≡ x.content
  pub station : z.station ≡ x.station
  pub tid : z.tid ≡ x.tid
  pub batch : z.batch ≡ x.batch

pub marked_else : (outcomes : List Outcome) (i : ℕ) (x : Exchange) → IsSameElse (all_marked i outcomes x) x
marked_else [] i x = record { content = refl; station = refl; tid = refl; batch = refl }
marked_else (Acked ∷ outcomes) i x = marked_else outcomes (suc i) x
marked_else (Retry ∷ outcomes) i x = marked_else outcomes (suc i) x
marked_else (Unsent ∷ outcomes) i x =
    let k = marked_else outcomes (suc i) (marked i Unsent x) in
    record { content = k.content; station = k.station; tid = k.tid; batch = k.batch }
marked_else (GaveUp ∷ outcomes) i x =
    let k = marked_else outcomes (suc i) (marked i GaveUp x) in
    record { content = k.content; station = k.station; tid = k.tid; batch = k.batch }

answered_parts : (xs ys : List Entry) (w : World) → AreAnswered w (xs ++ ys) →
    AreAnswered w xs × AreAnswered (world_after w xs) ys
unfolding world_after
answered_parts [] ys w h = (tt, h)
answered_parts (x ∷ xs) ys w h =
    let k = answered_parts xs ys (step w x.1).world h.1 in ((h.0, k.0), k.1)

pub marked_then : (v u t : TransmitValue) (e : ℕ) (xs ys : List Outcome) → IsMarked v u e 0 xs →
    IsMarked u t e (length xs) ys → IsMarked v t e 0 (xs ++ ys)
marked_then v u t e xs ys first last w bodies caller x st un known h =
    let place : 0 + length xs ≡ length xs = omega arith in
    let parted : marks caller e 0 (xs ++ ys) ≡ marks caller e 0 xs ++ marks caller e (length xs) ys =
    marks_then caller e 0 xs ys ∙ ap (λ (k : ℕ). marks caller e 0 xs ++ marks caller e k ys) place in
    let both = answered_parts (marks caller e 0 xs) (marks caller e (length xs) ys) w
    (subst (AreAnswered w) parted h) in
    let k : AreMarked w caller e 0 xs x = after_marks xs w caller e 0 x st.reached un known both.0 in
    let v' : World = world_after w (marks caller e 0 xs) in
    let z : Exchange = all_marked 0 xs x in
    let now : StandsFor t (world_after v' (marks caller e (length xs) ys))
    (bodies_each z (length xs) ys (bodies_each x 0 xs bodies)) =
    last v' (bodies_each x 0 xs bodies) caller z (first w bodies caller x st un known both.0) k.unheard
    k.known
    both.1 in
    subst (λ (es : List Entry). StandsFor t (world_after w es) (bodies_each x 0 (xs ++ ys) bodies))
    (sym parted)
    (subst (λ (o : World). StandsFor t o (bodies_each x 0 (xs ++ ys) bodies))
    (sym (world_after-append (marks caller e 0 xs) w (marks caller e (length xs) ys)))
    (subst (StandsFor t (world_after v' (marks caller e (length xs) ys)))
    (bodies_same x z (marked_else xs 0 x).content (length xs) ys (bodies_each x 0 xs bodies)
    ∙ sym (bodies_then x 0 xs ys bodies
    ∙ ap (λ (k : ℕ). bodies_each x k ys (bodies_each x 0 xs bodies)) place)) now))

pub marked_none : (v : TransmitValue) (e : ℕ) → IsMarked v v e 0 []
unfolding world_after
marked_none v e w bodies caller x st un known h = st

-- one more outcome
pub marked_next : (v u t : TransmitValue) (e i : ℕ) (outcomes : List Outcome) (outcome d : Outcome) →
    i < length outcomes → outcome ≡ get_or outcomes i d → IsMarked v u e 0 (take i outcomes) →
    IsMarked u t e i (outcome ∷ []) → IsMarked v t e 0 (take (i + 1) outcomes)
marked_next v u t e i outcomes outcome d low is first last =
    let long : i ≡ length (take i outcomes) = omega (arith, length-take i outcomes) in
    subst (IsMarked v t e 0) (ap (λ (o : Outcome). take i outcomes ++ o ∷ []) is ∙ sym
    (take_more outcomes i d low))
    (marked_then v u t e (take i outcomes) (outcome ∷ []) first
    (subst (λ (k : ℕ). IsMarked u t e k (outcome ∷ [])) long last))

-- all outcomes are taken
pub all_taken : (i : ℕ) (outcomes : List Outcome) → length outcomes ≤ i → take i outcomes ≡ outcomes
all_taken zero [] past = refl
all_taken (suc i) [] past = refl
all_taken zero (outcome ∷ outcomes) past = absurd (omega (arith, past))
all_taken (suc i) (outcome ∷ outcomes) past =
    ap (λ (l : List Outcome). outcome ∷ l) (all_taken i outcomes (omega (arith, past)))
