-- Proves what holds when the end of an exchange begins: its station is live, and each of its frames is held
-- at its number and nowhere else. From this follow the first stage for data, and the whole end of a request.
use Rattle.std.proofs.Common.{◌≡◌, refl, ap, sym, ◌∙◌, subst, arith, ℕ, suc, ◌<◌, ◌≤◌, ◌==◌, ◌||◌, Bool, true, false, if◌then◌else◌, List, [], ◌∷◌, ◌++◌, map, length, take, get_or, Some, None, inl, inr, eq-eqb, Option}
use Rattle.std.specs.Prelude.{find, sum_by, ◌%◌}
use Rattle.std.proofs.lemmas.List.Sums.{sum_by-cons}
use Rattle.std.proofs.lemmas.Bool.{cases_eq, cases_lt, ne_eqb}
use Rattle.wf_frame.specs.declared.classes.Fate.TheVariants.{Held}
use Rattle.wf_frame.specs.declared.settings.Config.{Config}
use Rattle.wf_frame.specs.Frames.{FrameValue}
use Rattle.wf_def_lists.specs.Lists.{IsOnce, on}
use Rattle.wf_def_agreement.specs.Session.{Session, State, End, slot, is_settled}
use Rattle.wf_def_codel.specs.Codel.{Item}
use Rattle.wf_def_lists.specs.Table.{at, has}
use Rattle.wf_law_rules.proofs.Lemmas.Counts.{on-append, on-has}
use Rattle.wf_def_world.specs.World.{World, Exchange, opening, Mpdu, is_live, session, receiver, queue, frame, accepted_count, exchange, without_exchange}
use Rattle.wf_def_world.specs.Exchanges.{mpdus_of, paid, after_charge, with_all_settled, charge_of}
use Rattle.wf_law_runs.specs.Finished.{KeepsFinished, reaped_ids}
use Rattle.wf_law_runs.specs.Places.{Queued, Numbered, IsNumbered, StandsOnce}
use Rattle.wf_law_runs.specs.Sent.{IsSent, NumbersRise}
use Rattle.wf_law_runs.specs.Windows.{EachMpdu, EachOpen, OpenRises, IsOpenRight, KeepsWindows}
use Rattle.wf_law_runs.proofs.Deficits.Books.{books, core}
use Rattle.wf_law_runs.proofs.Deficits.Kept.{IsOpen}
use Rattle.wf_law_runs.proofs.Deficits.KeptStep.{kept}
use Rattle.wf_law_runs.proofs.Deficits.Openings.{Every}
use Rattle.wf_law_runs.proofs.Frames.FinishedLaw.{finished_law}
use Rattle.wf_law_runs.proofs.Frames.Owners.{IsOwned}
use Rattle.wf_law_runs.proofs.Frames.Places.{standing}
use Rattle.wf_law_runs.proofs.Sent.Law.{sent_law}
use Rattle.wf_law_runs.proofs.Windows.Law.{window_law}
use Rattle.wf_queue_flows.specs.Backlog.{frames_at}
use Rattle.wf_queue_flows_refines.specs.Standing.{Part, flows_part, ids, times_held}
use Rattle.wf_queue_flows_refines.proofs.Leaves.{share_alone, closing_alone}
use Rattle.wf_queue_flows_refines.proofs.Purges.{item_ids}
use Rattle.wf_send_parts.proofs.Numbers.{open_number}
use Rattle.wf_sched_refines.proofs.Stands.{some_account}
use Rattle.wf_send_parts.specs.Ending.{Ending, IsFlyingIn, AreFlying}
use Rattle.wf_send_half_model.specs.Half.{TransmitValue}
use Rattle.wf_send_half_model.specs.Standing.{open_of, Parts, IsReached, StandsFor}
use Rattle.wf_send_half_model.specs.Ending.{after_close, ending_of, IsLoose, IsEnding}
use Rattle.wf_send_half_model.specs.Views.{Agreements, agreements}
use Rattle.wf_send_half_model.proofs.Views.{agreements_share}
use Rattle.wf_send_half_model.proofs.Reached.{by_law, now_is, rises}
use Rattle.wf_send_half_model.proofs.Enqueues.{places_kept}
use Rattle.wf_send_half_model.proofs.Closes.{found_again, after_closing, close_parts, charge_parts}

-- ---- an exchange that is open

-- a property of all open exchanges holds for the one that is found
pub found : (P : Exchange → Type 0) (xs : List Exchange) (e : ℕ) (x : Exchange) →
    find (λ y. y.number == e) xs ≡ Some x → EachOpen P xs → P x
found P [] e x known h = absurd (cc known)
found P (y ∷ ys) e x known h = elim (cases_eq y.number e) [
  | inl here ↦
      let first : (if y.number == e then Some y else find (λ (k : Exchange). k.number == e) ys) ≡ Some y =
      ap (λ (b : Bool). if b then Some y else find (λ (k : Exchange). k.number == e) ys)
      (eq-eqb y.number e here) in
      let it : y ≡ x = cc (first, known) in
      subst P it h.0
  | inr other ↦ found P ys e x (sym (ap (λ (b : Bool). if b then Some y
      else find (λ (k : Exchange). k.number == e) ys) (ne_eqb y.number e other)) ∙ known) h.1
]

each_core : (P : Exchange → Type 0) (xs : List Exchange) → Every P (map core xs) →
    EachOpen (λ x. P (core x)) xs
each_core P [] h = tt
each_core P (x ∷ xs) h = (h.0, each_core P xs h.1)

-- the station of an open exchange is live
pub open_live : (w : World) (r : IsReached w) (e : ℕ) (x : Exchange) → exchange w e ≡ Some x →
    is_live w x.station ≡ true
open_live w r e x known =
    let all = (subst (λ (u : World). IsKept_opens u) (sym r.after) (kept w.config r.history r.in_range).opens)
    in
    sym (some_account (at None w.stations x.station))
    ∙ (found (λ (y : Exchange). IsOpen (books w) (core y)) w.opened e x known
    (each_core (IsOpen (books w)) w.opened all)).live
  where
    IsKept_opens : World → Type 0
    IsKept_opens u = Every (IsOpen (books u)) (books u).opened

-- ---- its transmissions

both_mpdus : (P Q R : Mpdu → Type 0) (ms : List Mpdu) → EachMpdu P ms → EachMpdu Q ms →
    ((m : Mpdu) → P m → Q m → R m) → EachMpdu R ms
both_mpdus P Q R [] h k f = tt
both_mpdus P Q R (m ∷ ms) h k f = (f m h.0 k.0, both_mpdus P Q R ms h.1 k.1 f)

-- each number is at or past the first one
pub from_first : (lo : ℕ) (ms : List Mpdu) → NumbersRise lo ms → EachMpdu (λ m. lo ≤ m.number) ms
from_first lo [] h = tt
from_first lo (m ∷ ms) h = (h.0, higher ms (from_first (suc m.number) ms h.1))
  where
    higher : (ns : List Mpdu) → EachMpdu (λ n. suc m.number ≤ n.number) ns → EachMpdu (λ n. lo ≤ n.number) ns
    higher [] k = tt
    higher (n ∷ ns) k = (omega (arith, h.0, k.0), higher ns k.1)

rise_out : (n lo : ℕ) (ms : List Mpdu) → n < lo → NumbersRise lo ms → has (map (λ m. m.number) ms) n ≡ false
rise_out n lo [] low h = refl
rise_out n lo (m ∷ ms) low h = apart (ne_eqb m.number n (λ e. absurd (omega (arith, e, low, h.0))))
    (rise_out n (suc m.number) ms (omega (arith, low, h.0)) h.1)
  where
    apart : (m.number == n) ≡ false → has (map (λ (k : Mpdu). k.number) ms) n ≡ false →
        (m.number == n) || has (map (λ (k : Mpdu). k.number) ms) n ≡ false
    apart a b = ap (λ (c : Bool). c || has (map (λ (k : Mpdu). k.number) ms) n) a ∙ b

rise_once : (lo : ℕ) (ms : List Mpdu) → NumbersRise lo ms → IsOnce (map (λ m. m.number) ms)
rise_once lo [] h = tt
rise_once lo (m ∷ ms) h = (
  rise_out m.number (suc m.number) ms (omega arith) h.1,
  rise_once (suc m.number) ms h.1,
)

-- a property of all transmissions holds for a number among them
of_number : (P : ℕ → Type 0) (ms : List Mpdu) → EachMpdu (λ m. P m.number) ms → (n : ℕ) →
    has (map (λ m. m.number) ms) n ≡ true → P n
of_number P [] h n here = absurd (cc here)
of_number P (m ∷ ms) h n here = elim (cases_eq m.number n) [
  | inl e ↦ subst P e h.0
  | inr other ↦ of_number P ms h.1 n (sym (ap (λ (c : Bool). c || has (map (λ (k : Mpdu). k.number) ms) n)
      (ne_eqb m.number n other)) ∙ here)
]

-- ---- a frame that has a number is in no queue and not on the finished list

pub sum_none : (f : List FrameValue → ℕ) (xs : List (List FrameValue)) → ((k : ℕ) → f (get_or xs k []) ≡ 0) →
    sum_by f xs ≡ 0
sum_none f [] h = refl
sum_none f (x ∷ xs) h = omega (arith, sum_by-cons f x xs, h 0, sum_none f xs (λ k. h (suc k)))

module _ (v : TransmitValue) (w : World) (bodies : ℕ → FrameValue) (h : StandsFor v w bodies) (id s t n : ℕ)
    (number : IsNumbered w id s t n) where
  known_id : (id < accepted_count w) × ((frame w id).fate ≡ Held)
  known_id = (places_kept w h.reached).only_held id (Numbered s t n) number

  not_queued : (q : ℕ) → on (ids (frames_at v.flows.backlog q)) id ≡ 0
  not_queued q = elim (cases_lt 0 (on (ids (frames_at v.flows.backlog q)) id)) [
    | inl some ↦
        let once : StandsOnce w id = (places_kept w h.reached).held id known_id.0 known_id.1 in
        let same : map (λ (x : Item). x.id) (queue w q).items ≡ ids (frames_at v.flows.backlog q) =
        ap (map (λ (x : Item). x.id)) (h.parts.others.flows.items q)
        ∙ item_ids (frames_at v.flows.backlog q) in
        let there : Queued q ≡ once.place = once.only (Queued q)
        (ap (λ (l : List ℕ). has l id) same ∙ on-has (ids (frames_at v.flows.backlog q)) id some) in
        let here : Numbered s t n ≡ once.place = once.only (Numbered s t n) number in
        absurd (cc (there, here))
    | inr none ↦ omega (arith, none)
  ]

  not_finished : on (ids v.flows.backlog.finished) id ≡ 0
  not_finished = elim (cases_lt 0 (on (ids v.flows.backlog.finished) id)) [
    | inl some ↦
        let reaped : List ℕ = reaped_ids (opening w.config)
        (take (length h.reached.history) h.reached.history) in
        let keeps : KeepsFinished reaped w = subst (KeepsFinished reaped) (now_is w h.reached)
        (finished_law w.config h.reached.history (length h.reached.history)) in
        let among : 0 < on (reaped ++ w.finished) id =
        omega (
          arith,
          on-append reaped w.finished id,
          ap (λ (l : List ℕ). on l id) h.parts.others.flows.finished,
          some,
        ) in
        absurd (((keeps.exactly id).0 (on-has (reaped ++ w.finished) id among)).1 known_id.1)
    | inr none ↦ omega (arith, none)
  ]

  pub nowhere : times_held v.flows.backlog id ≡ 0
  nowhere = omega (
    arith,
    sum_none (λ (frames : List FrameValue). on (ids frames) id) v.flows.backlog.queues
        not_queued,
    not_finished,
  )

-- ---- an exchange of data begins to end

-- two numbers of a TID do not hold the same frame
module _ (w : World) (r : IsReached w) (s t : ℕ) where
  flown_number : (m : Mpdu) (e : ℕ) → (session w s t).first ≤ m.number →
      (slot (session w s t) m.number).state ≡ State.Flying e → (slot (session w s t) m.number).id ≡ m.id →
      IsNumbered w m.id s t m.number
  flown_number m e from flies is =
      let open_one : is_settled (slot (session w s t) m.number).state ≡ false = ap is_settled flies in
      record {
        from = from;
        below = (open_number (session w s t) m.number
            (m.number % 4096) from open_one refl).given;
        carries = is;
        unsettled = open_one;
      }

  same_frame : (m n : Mpdu) → IsNumbered w m.id s t m.number → IsNumbered w n.id s t n.number → m.id ≡ n.id →
      m.number ≡ n.number
  same_frame m n a b same =
      let known = (places_kept w r).only_held m.id (Numbered s t m.number) a in
      let once : StandsOnce w m.id = (places_kept w r).held m.id known.0 known.1 in
      let here : Numbered s t m.number ≡ once.place = once.only (Numbered s t m.number) a in
      let there : Numbered s t n.number ≡ once.place =
      once.only (Numbered s t n.number) (subst (λ (k : ℕ). IsNumbered w k s t n.number) (sym same) b) in
      cc (here, there)

  ids_out : (m : Mpdu) (ms : List Mpdu) → IsNumbered w m.id s t m.number →
      EachMpdu (λ k. IsNumbered w k.id s t k.number) ms → EachMpdu (λ k. suc m.number ≤ k.number) ms →
      has (map (λ k. k.id) ms) m.id ≡ false
  ids_out m [] a each later = refl
  ids_out m (n ∷ ns) a each later = apart (ne_eqb n.id m.id
      (λ same. absurd (omega (arith, same_frame m n a each.0 (sym same), later.0))))
      (ids_out m ns a each.1 later.1)
    where
      apart : (n.id == m.id) ≡ false → has (map (λ (k : Mpdu). k.id) ns) m.id ≡ false →
          (n.id == m.id) || has (map (λ (k : Mpdu). k.id) ns) m.id ≡ false
      apart x y = ap (λ (c : Bool). c || has (map (λ (k : Mpdu). k.id) ns) m.id) x ∙ y

  ids_once : (lo : ℕ) (ms : List Mpdu) → EachMpdu (λ k. IsNumbered w k.id s t k.number) ms →
      NumbersRise lo ms → IsOnce (map (λ k. k.id) ms)
  ids_once lo [] each rises = tt
  ids_once lo (m ∷ ms) each rises = (
    ids_out m ms each.0 each.1 (from_first (suc m.number) ms rises.1),
    ids_once (suc m.number) ms each.1 rises.1,
  )

-- closing and charging an exchange does not change this view of the world
closed_part : (w : World) (x : Exchange) (air : Option ℕ) →
    flows_part (after_charge (without_exchange w x.number) x air) ≡ flows_part w
unfolding after_charge
closed_part w x air = share_alone (without_exchange w x.number) x.station x.class (paid (charge_of air x))
    ∙ closing_alone w x.number

pub closed_agreements : (w : World) (x : Exchange) (air : Option ℕ) →
    agreements (after_charge (without_exchange w x.number) x air) ≡ agreements w
unfolding after_charge without_exchange
closed_agreements w x air =
    agreements_share (without_exchange w x.number) x.station x.class (paid (charge_of air x))

closed_config : (w : World) (x : Exchange) → (without_exchange w x.number).config ≡ w.config
unfolding without_exchange
closed_config w x = refl

pub closed_parts : (v : TransmitValue) (w : World) (bodies : ℕ → FrameValue) (x : Exchange) (air : Option ℕ) →
    exchange w x.number ≡ Some x → OpenRises 0 w.exchanges w.opened → x.station < w.config.stations →
    Parts v w bodies →
    Parts (after_close v (open_of x) (charge_of air x))
    (after_charge (without_exchange w x.number) x air) bodies
closed_parts v w bodies x air known rises low h =
    charge_parts (after_closing v (open_of x))
    (without_exchange w x.number) bodies x air (subst (λ (c : Config). x.station < c.stations)
    (sym (closed_config w x)) low) (close_parts v w bodies x known rises h)

-- what an open exchange of a run sends
pub open_sent : (w : World) → IsReached w → (e : ℕ) (x : Exchange) → exchange w e ≡ Some x → IsSent w x
open_sent w r e x known = found (IsSent w) w.opened e x known
    (by_law (λ u. EachOpen (IsSent u) u.opened) w r (λ m. (sent_law w.config r.history m).opened))

-- each transmission of an exchange of data
module _ (v : TransmitValue) (w : World) (bodies : ℕ → FrameValue) (h : StandsFor v w bodies) (e : ℕ)
    (x : Exchange) (known : exchange w e ≡ Some x) where
  of_sent : IsSent w x
  of_sent = open_sent w h.reached e x known

  pub of_windows : IsOpenRight (session w x.station x.tid) (receiver w x.station x.tid) x
  of_windows = found (λ y. IsOpenRight (session w y.station y.tid) (receiver w y.station y.tid) y) w.opened e
      x known (by_law KeepsWindows w h.reached (window_law w.config h.reached.history)).opened

  pub flown_each : EachMpdu (λ m. ((session w x.station x.tid).first ≤ m.number) ×
      ((slot (session w x.station x.tid) m.number).state ≡ State.Flying x.number)) (mpdus_of x.content)
  flown_each = both_mpdus (λ m. (session w x.station x.tid).first ≤ m.number)
      (λ m. (slot (session w x.station x.tid) m.number).state ≡ State.Flying x.number) _ (mpdus_of x.content)
      (from_first (session w x.station x.tid).first (mpdus_of x.content) of_sent.rising) of_windows.flies
      (λ m a b. (a, b))

  pub numbered_each : EachMpdu (λ m. IsNumbered w m.id x.station x.tid m.number) (mpdus_of x.content)
  numbered_each = both_mpdus (λ m. ((session w x.station x.tid).first ≤ m.number) ×
      ((slot (session w x.station x.tid) m.number).state ≡ State.Flying x.number))
      (λ m. (slot (session w x.station x.tid) m.number).id ≡ m.id)
      (λ m. IsNumbered w m.id x.station x.tid m.number) (mpdus_of x.content) flown_each of_sent.ids
      (λ m a b. flown_number w h.reached x.station x.tid m x.number a.0 a.1 b)

  -- if a transmission has a number, the exchange's TID is below 8
  pub tid_below : (m : Mpdu) → IsNumbered w m.id x.station x.tid m.number → x.tid < 8
  tid_below m number =
      let owned : IsOwned w = subst IsOwned (sym h.reached.after)
      (standing w.config h.reached.history h.reached.in_range).stood.owned in
      (owned.mine x.station x.tid m.id m.number (record {
        from = number.from;
        below = number.below;
        id =
            number.carries;
      })).1

  closed : Option ℕ → World
  closed air = after_charge (without_exchange w x.number) x air

  pub begins : (ends : ℕ → End) (m : Mpdu) (ms : List Mpdu) → mpdus_of x.content ≡ m ∷ ms →
      EachMpdu (λ k. (slot (session w x.station x.tid) k.number).attempts < w.config.attempts) (m ∷ ms) →
      (air : Option ℕ) →
      IsEnding (after_close v (open_of x) (charge_of air x))
      (after_charge (without_exchange w x.number) x air)
      bodies x.station x.tid x.number ends (m ∷ ms) (with_all_settled
      (after_charge (without_exchange w x.number) x air) x.station x.tid ends (m ∷ ms))
  unfolding closed
  begins ends m ms is tried air =
      let y : Session = session w x.station x.tid in
      let a : agreements (closed air) ≡ agreements w = closed_agreements w x air in
      let p : flows_part (closed air) ≡ flows_part w = closed_part w x air in
      let same : session (closed air) x.station x.tid ≡ y = ap
      (λ (z : Agreements). z.sessions x.station x.tid) a in
      let config : (closed air).config ≡ w.config = ap (λ (z : Agreements). z.config) a in
      let live : is_live w x.station ≡ true = open_live w h.reached e x known in
      let each : EachMpdu (λ k. IsNumbered w k.id x.station x.tid k.number) (m ∷ ms) =
      subst (EachMpdu (λ k. IsNumbered w k.id x.station x.tid k.number)) is numbered_each in
      let fly : EachMpdu (λ k. (y.first ≤ k.number) × ((slot y k.number).state ≡ State.Flying x.number))
      (m ∷ ms) = subst (EachMpdu (λ k. (y.first ≤ k.number) ×
      ((slot y k.number).state ≡ State.Flying x.number))) is flown_each in
      let rising : NumbersRise y.first (m ∷ ms) = subst (NumbersRise y.first) is of_sent.rising in
      let ending : Ending = ending_of w.config x.number ends in
      let flying : AreFlying y ending (map (λ k. k.number) (m ∷ ms)) = record {
        each = of_number (IsFlyingIn y ending) (m ∷ ms)
            (both_mpdus (λ k. (y.first ≤ k.number) × ((slot y k.number).state ≡ State.Flying x.number))
            (λ k. (slot y k.number).attempts < w.config.attempts) (λ k. IsFlyingIn y ending k.number)
            (m ∷ ms) fly tried
            (λ k f t. record { from_first = f.0; flies = f.1; below = t }));
        once = rise_once y.first (m ∷ ms) rising;
      } in
      record {
        parts = closed_parts v w bodies x air (found_again w e x known) (rises w h.reached)
            (h.parts.others.turns.live x.station live) h.parts;
        live = ap (λ (z : Agreements). z.live x.station) a ∙ live;
        tid = tid_below m each.0;
        flying = subst (λ (c : Config). AreFlying (session (closed air) x.station x.tid)
            (ending_of c x.number ends) (map (λ k. k.number) (m ∷ ms))) (sym config)
            (subst (λ (z : Session). AreFlying z ending (map (λ k. k.number) (m ∷ ms))) (sym same) flying);
        ids = subst (λ (z : Session). EachMpdu (λ k. (slot z k.number).id ≡ k.id) (m ∷ ms)) (sym same)
            (subst (EachMpdu (λ k. (slot y k.number).id ≡ k.id)) is of_sent.ids);
        loose = loose_each (m ∷ ms) each;
        once = ids_once w h.reached x.station x.tid y.first (m ∷ ms) each rising;
        leads = refl;
      }
    where
      loose_each : (ks : List Mpdu) → EachMpdu (λ k. IsNumbered w k.id x.station x.tid k.number) ks →
          EachMpdu (IsLoose (after_close v (open_of x) (charge_of air x))
          (after_charge (without_exchange w x.number) x air)) ks
      loose_each [] each = tt
      loose_each (k ∷ ks) each =
          let p : flows_part (after_charge (without_exchange w x.number) x air) ≡ flows_part w =
          closed_part w x air in
          let is = known_id v w bodies h k.id x.station x.tid k.number each.0 in (
            record {
              low = omega (arith, is.0, ap (λ (z : Part). z.accepted) p);
              held = ap (λ (z : Part). z.fates k.id) p ∙ is.1;
              nowhere = nowhere v w bodies h k.id x.station x.tid k.number each.0;
            },
            loose_each ks each.1,
          )
