-- Proves how many numbers a pull gives, and how many frames its exchange sends: no more than an exchange may
-- send, of which the frames whose numbers wait are sent first.
use Rattle.std.proofs.Common.{◌≡◌, refl, ap, sym, ◌∙◌, subst, arith, ℕ, zero, suc, ◌+◌, ◌-◌, ◌≤◌, ◌==◌, true, false, not, List, [], ◌∷◌, ◌++◌, length, length-append, map, take, Option, Some, None}
use Rattle.wf_def_codel.specs.Codel.{Item}
use Rattle.wf_def_lists.specs.Table.{greatest_upto}
use Rattle.wf_def_agreement.specs.Session.{Session, is_waiting, request_due, waiting_numbers, with_number_given, next_number}
use Rattle.wf_def_world.specs.World.{World, Tid, Mpdu, session, is_live, on_session}
use Rattle.wf_def_world.specs.FlowQueues.{Taken, taken_for_tid}
use Rattle.wf_def_world.specs.CanSend.{can_give}
use Rattle.wf_def_world.specs.Exchanges.{Aggregate, Prepared, mpdu_of, mpdus_of, most_frames, lens_of, fits_in, waiting_mpdus, longest_fitting, fresh_mpdus, with_number, with_fresh, aggregate_of, with_flying, prepared_request, prepared_data, prepared_exchange}
use Rattle.wf_law_rules.proofs.Lemmas.Numbers.{on_if, both, le_yes, eq_yes, yes_eq, and_true}
use Rattle.wf_law_runs.proofs.Windows.Agreed.{IsLawful, IsReady, is_tid, ready_filled}
use Rattle.wf_law_runs.proofs.Windows.Sides.{Side, same, each_side_on, side_elsewhere, same_take}
use Rattle.wf_law_runs.proofs.Unsettled.Counts.{tally, open_in, least, tally_waiting, open_give, open_fly}
use Rattle.wf_law_runs.proofs.Unsettled.Keeps.{Keeps, keeps_same, keeps_on_session}

-- In world v TID t of station s has at most n open numbers more than in world w, and no other has more.
pub record Gains (s t n : ℕ) (w v : World) : Type 0 where
  pub own : open_in (session v s t) ≤ open_in (session w s t) + n
  pub others : (i j : ℕ) → is_tid s t i j ≡ false → open_in (session v i j) ≤ open_in (session w i j)

gains_none : (s t n : ℕ) (w v : World) → Keeps w v → Gains s t n w v
gains_none s t n w v k = record {
  own = omega (arith, k.numbers s t);
  others = λ i j _. k.numbers i j;
}

gains_here : (s t n : ℕ) (w : World) → Gains s t n w w
gains_here s t n w = gains_none s t n w w (keeps_same w w (same w))

pub then_gains : (s t m n k : ℕ) (u v w : World) → m + n ≤ k → Gains s t m u v → Gains s t n v w →
    Gains s t k u w
then_gains s t m n k u v w l g h = record {
  own = omega (arith, l, g.own, h.own);
  others = λ i j no. omega (arith, g.others i j no, h.others i j no);
}

gains_weaken : (s t m n : ℕ) (w v : World) → m ≤ n → Gains s t m w v → Gains s t n w v
gains_weaken s t m n w v l g = record { own = omega (arith, l, g.own); others = g.others }

-- ---- one number is given

gains_give : (w : World) (s t id : ℕ) → Gains s t 1 w (on_session w s t (λ y. with_number_given y id))
unfolding on_session
gains_give w s t id =
    let f : Tid → Tid = λ y. record y { session = with_number_given y.session id } in
    record {
      own = each_side_on (λ i j a. open_in a.session ≤ open_in (session w i j) + 1) w s t f
          (λ i j. omega arith) (one_more (session w s t) id) s t;
      others = λ i j no. subst (λ (a : Side). open_in a.session ≤ open_in (session w i j))
          (sym (side_elsewhere w s t f i j (λ e d. cc (
            and_true (i == s) (j == t) (yes_eq i s (sym e)) (yes_eq j t (sym d)),
            no,
          )))) (least (open_in (session w i j)));
    }
  where
    one_more : (y : Session) (id : ℕ) → open_in (with_number_given y id) ≤ open_in y + 1
    one_more y id = omega (arith, open_give y id)

gains_number : (o : Option Item) (w : World) (s t : ℕ) → Gains s t 1 w (with_number w s t o)
unfolding with_number
gains_number None w s t = gains_here s t 1 w
gains_number (Some x) w s t = gains_give w s t x.id

fresh_one : (o : Option Item) (w : World) (s t : ℕ) → length (fresh_mpdus w s t o) ≤ 1
fresh_one None w s t = omega arith
fresh_one (Some x) w s t = omega arith

-- ---- an aggregate

-- At most so many frames are added, and at most so many numbers are given.
record IsLonger (s t n : ℕ) (w : World) (ms : List Mpdu) (f : Aggregate) : Type 0 where
  gains : Gains s t n w f.world
  longer : length f.mpdus ≤ length ms + n

longer_here : (s t n : ℕ) (w : World) (ms : List Mpdu) →
    IsLonger s t n w ms (record { world = w; mpdus = ms })
longer_here s t n w ms = record { gains = gains_here s t n w; longer = omega arith }

longer_fresh : (n : ℕ) (w : World) (s t : ℕ) (ms : List Mpdu) →
    IsLonger s t n w ms (with_fresh n w s t ms)
unfolding with_fresh
longer_fresh zero w s t ms = longer_here s t zero w ms
longer_fresh (suc n) w s t ms =
    let taken : Taken = taken_for_tid w s t in
    let fresh : List Mpdu = fresh_mpdus w s t taken.item in
    let longer : List Mpdu = ms ++ fresh in
    let numbered : World = with_number taken.world s t taken.item in
    let one : Gains s t 1 w numbered = then_gains s t 0 1 1 w taken.world numbered (omega arith)
    (gains_none s t 0 w taken.world (keeps_same w taken.world (same_take w s t)))
    (gains_number taken.item taken.world s t) in
    on_if (λ (f : Aggregate). IsLonger s t (suc n) w ms f) (not (can_give w s t)) _ _
    (λ _. longer_here s t (suc n) w ms)
    (λ _. on_if (λ (f : Aggregate). IsLonger s t (suc n) w ms f) (fits_in w s longer)
    (with_fresh n numbered s t longer) (record { world = numbered; mpdus = ms })
    (λ _.
    let rest : IsLonger s t n numbered longer (with_fresh n numbered s t longer) =
    longer_fresh n numbered s t longer in
    record {
      gains = then_gains s t 1 n (suc n) w numbered _ (omega arith) one rest.gains;
      longer = omega (arith, rest.longer, length-append ms fresh, fresh_one taken.item w s t);
    })
    (λ _. record {
      gains = gains_weaken s t 1 (suc n) w numbered (omega arith) one;
      longer = omega arith;
    }))

length_lens : (overhead : ℕ) (ms : List Mpdu) → length (lens_of overhead ms) ≡ length ms
length_lens overhead [] = refl
length_lens overhead (m ∷ ms) = ap suc (length_lens overhead ms)

fitting_few : (w : World) (s : ℕ) (ms : List Mpdu) → fits_in w s ms ≡ true → length ms ≤ most_frames w s
fitting_few w s ms h =
    let few : length (lens_of w.config.overhead ms) ≤ most_frames w s =
    le_yes (length (lens_of w.config.overhead ms)) (most_frames w s) (both _ _ h).0 in
    subst (λ (n : ℕ). n ≤ most_frames w s) (length_lens w.config.overhead ms) few

longest_few : (w : World) (s : ℕ) (ms : List Mpdu) → length (longest_fitting w s ms) ≤ most_frames w s
unfolding longest_fitting
longest_few w s ms = go (length ms)
  where
    go : (n : ℕ) → length (take (greatest_upto (λ k. fits_in w s (take k ms)) n) ms) ≤ most_frames w s
    go zero = omega arith
    go (suc n) = on_if (λ (k : ℕ). length (take k ms) ≤ most_frames w s) (fits_in w s (take (suc n) ms))
        (suc n) (greatest_upto (λ k. fits_in w s (take k ms)) n)
        (λ e. fitting_few w s (take (suc n) ms) e) (λ _. go n)

length_waiting : (w : World) (s t : ℕ) (ns : List ℕ) → length (map (mpdu_of w s t) ns) ≡ length ns
length_waiting w s t [] = refl
length_waiting w s t (n ∷ ns) = ap suc (length_waiting w s t ns)

-- How many numbers of a TID wait.
abbrev pub waits_in : World → ℕ → ℕ → ℕ
waits_in w s t = tally is_waiting (session w s t).slots

all_wait : (w : World) (s t : ℕ) → length (waiting_mpdus w s t) ≡ waits_in w s t
all_wait w s t = length_waiting w s t (waiting_numbers (session w s t))
    ∙ tally_waiting (session w s t).slots (session w s t).first

-- What is sent has at most `most` frames, and its fresh frames take the places that the numbers that wait
-- leave.
pub record IsFilled (s t most : ℕ) (w : World) (ms : List Mpdu) (v : World) : Type 0 where
  pub gains : Gains s t (most - waits_in w s t) w v
  pub few : length ms ≤ most

same_room : (most chosen waiting waits : ℕ) → chosen ≡ waiting → waiting ≡ waits →
    most - chosen ≤ most - waits
same_room most chosen waiting waits e d = omega (arith, e, d)

filled_up : (most chosen all : ℕ) → all ≤ chosen + (most - chosen) → chosen ≤ most → all ≤ most
filled_up most chosen all h k = omega (arith, h, k)

filled : (w : World) (s t : ℕ) →
    IsFilled s t (most_frames w s) w (aggregate_of w s t).mpdus (aggregate_of w s t).world
unfolding aggregate_of
filled w s t =
    let most : ℕ = most_frames w s in
    let waiting : List Mpdu = waiting_mpdus w s t in
    let chosen : List Mpdu = longest_fitting w s waiting in
    let room : ℕ = most_frames w s - length chosen in
    let few : length chosen ≤ most = longest_few w s waiting in
    on_if (λ (f : Aggregate). IsFilled s t (most_frames w s) w f.mpdus f.world)
    (length chosen == length waiting) (with_fresh room w s t chosen) (record { world = w; mpdus = chosen })
    (λ e.
    let h : IsLonger s t room w chosen (with_fresh room w s t chosen) = longer_fresh room w s t chosen in
    record {
      gains = gains_weaken s t room _ w _ (same_room most (length chosen) (length waiting) (waits_in w s t)
          (eq_yes _ _ e) (all_wait w s t)) h.gains;
      few = filled_up most (length chosen) _ h.longer few;
    })
    (λ _. record { gains = gains_here s t _ w; few = few })

-- ---- an exchange

filled_data : (w : World) (s t most : ℕ) (f : Aggregate) → IsReady s t f.world f.mpdus →
    IsFilled s t most w f.mpdus f.world →
    IsFilled s t most w (mpdus_of (prepared_data s t f).content) (prepared_data s t f).world
unfolding prepared_data
filled_data w s t most f r h =
    let u : World = f.world in
    let y : Session = session u s t in
    let sent : Keeps u (on_session u s t (with_flying u.exchanges f.mpdus)) =
    keeps_on_session u s t (with_flying u.exchanges f.mpdus) (open_fly f.mpdus y u.exchanges y.first
    (next_number y) (least y.first) r.chosen.rising r.chosen.waiting) in
    record {
      gains = then_gains s t (most - waits_in w s t) 0 (most - waits_in w s t) w u _ (omega arith) h.gains
          (gains_none s t 0 u _ sent);
      few = h.few;
    }

pub prepared_filled : (w : World) (s t : ℕ) → IsLawful w → is_live w s ≡ true →
    IsFilled s t (most_frames w s) w (mpdus_of (prepared_exchange w s t).content)
    (prepared_exchange w s t).world
unfolding prepared_exchange
prepared_filled w s t i live =
    on_if (λ (p : Prepared). IsFilled s t (most_frames w s) w (mpdus_of p.content) p.world)
    (request_due (session w s t)) (prepared_request w s t) (prepared_data s t (aggregate_of w s t))
    (λ _. record { gains = gains_here s t _ w; few = omega arith })
    (λ quiet. filled_data w s t (most_frames w s) (aggregate_of w s t) (ready_filled w s t i live quiet)
    (filled w s t))
