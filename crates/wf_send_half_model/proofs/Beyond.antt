-- Proves that a Done changes the readiness of the exchange's station only in the class of the exchange's TID,
-- because it changes nothing that the readiness of the other TIDs depends on.
use Rattle.std.proofs.Common.{◌≡◌, refl, ap, sym, ◌∙◌, subst, ℕ, Bool, true, false, not, ◌&&◌, ◌||◌, if◌then◌else◌, List, [], ◌∷◌, length, filter, Option, Some, None, unwrap_or, option_map, inl, inr, nat_lt}
use Rattle.std.specs.Prelude.{◌==◌}
use Rattle.std.proofs.lemmas.Bool.{cases_Bool, cases_eq, ne_eqb, eqb-true, not-false}
use Rattle.wf_frame.specs.declared.classes.Class.{Class}
use Rattle.wf_frame.specs.declared.classes.Fate.{Fate}
use Rattle.wf_frame.specs.declared.notes.Note.TheVariants.{Asked}
use Rattle.wf_frame.specs.declared.notes.Ask.TheVariants.{Done}
use Rattle.wf_frame.specs.Classes.{lower_tid, upper_tid, class_number, class_of}
use Rattle.wf_def_lists.specs.Table.{at, change}
use Rattle.wf_def_agreement.specs.Session.{Session, End, after_end}
use Rattle.wf_def_agreement.specs.Receiver.{Receiver}
use Rattle.wf_def_world.specs.World.{World, Station, Tid, Share, Exchange, Mpdu, Content, Frames, Request, no_tid, no_station, holds_back, station, tid_of, is_live, is_agreed, owed, exchange, with_station, on_station, on_tid, on_session, on_receiver, on_share, with_fate, with_frame_finished, without_exchange}
use Rattle.wf_def_world.specs.CanSend.{is_request, is_reachable, may_receive, is_ready}
use Rattle.wf_def_world.specs.Exchanges.{after_charge, with_failed_finished, with_settled, with_all_settled, caught_up, caught_up_if_plain, after_done}
use Rattle.wf_def_world.specs.Step.{outcome_of, outcome_where_open, station_of, done_outcome, step}
use Rattle.wf_law_rules.proofs.Lemmas.Tables.{at_put_same, at_put_other}
use Rattle.wf_law_runs.proofs.Common.Ends.{if_settled}
use Rattle.wf_law_runs.proofs.Queues.Shelves.{Shelves, shelves_ended}
use Rattle.wf_law_runs.proofs.Windows.Sides.{live_on}
use Rattle.wf_law_runs.proofs.Deficits.Books.{books, core, same_number}
use Rattle.wf_law_runs.proofs.Deficits.Openings.{Every, every_map, every_find}
use Rattle.wf_law_runs.proofs.Deficits.Kept.{IsKept}
use Rattle.wf_law_runs.proofs.Deficits.KeptStep.{IsFound, only_this}
use Rattle.wf_send_half_model.specs.Standing.{IsReached}
use Rattle.wf_send_half_model.proofs.Steady.{asks, receives_on_station}
use Rattle.wf_send_half_model.proofs.Spared.{IsSameTid, ready_same_by, queued_same, ready_stepped, ready_others, orderly_reached}
use Rattle.wf_send_half_model.proofs.OwnClass.{lower_class, upper_class}
use Rattle.wf_send_half_model.proofs.ChargedClass.{HaveOwnClass, own_class, owed_filter}

-- v and w agree in what the readiness of station s depends on, except its TID t; the same exchanges are open
pub record IsBeyond (s t : ℕ) (w v : World) : Type 0 where
  pub tids : (j : ℕ) → (j ≡ t → ⊥) → tid_of v s j ≡ tid_of w s j
  pub live : is_live v s ≡ is_live w s
  pub receives : (c : Class) → may_receive v s c ≡ may_receive w s c
  pub opened : v.opened ≡ w.opened

pub beyond_here : (s t : ℕ) (w : World) → IsBeyond s t w w
beyond_here s t w = record { tids = λ j _. refl; live = refl; receives = λ c. refl; opened = refl }

pub beyond_then : (s t : ℕ) (w u v : World) → IsBeyond s t w u → IsBeyond s t u v → IsBeyond s t w v
beyond_then s t w u v h k = record {
  tids = λ j o. k.tids j o ∙ h.tids j o;
  live = k.live ∙ h.live;
  receives =
      λ c. k.receives c ∙ h.receives c;
  opened = k.opened ∙ h.opened;
}

pub beyond_if : (b : Bool) (s t : ℕ) (w u v : World) → IsBeyond s t w u → IsBeyond s t w v →
    IsBeyond s t w (if b then u else v)
beyond_if true s t w u v h k = h
beyond_if false s t w u v h k = k

-- ---- the parts

pub on_station_opened : (w : World) (s : ℕ) (f : Station → Station) → (on_station w s f).opened ≡ w.opened
unfolding on_station with_station
on_station_opened w s f = refl

-- a change of a station that does not affect its TID j does not affect this TID in the world
pub tid_on_station : (w : World) (s j : ℕ) (f : Station → Station) →
    ((x : Station) → at no_tid (f x).tids j ≡ at no_tid x.tids j) →
    tid_of (on_station w s f) s j ≡ tid_of w s j
unfolding on_station with_station
tid_on_station w s j f h = ap (λ (o : Option Station). at no_tid (unwrap_or o no_station).tids j)
    (at_put_same None w.stations s (option_map f (at None w.stations s))) ∙ go (at None w.stations s)
  where
    go : (o : Option Station) → at no_tid (unwrap_or (option_map f o) no_station).tids j
        ≡ at no_tid (unwrap_or o no_station).tids j
    go None = refl
    go (Some x) = h x

pub beyond_on_session : (w : World) (s t : ℕ) (f : Session → Session) → IsBeyond s t w (on_session w s t f)
unfolding on_session on_tid
beyond_on_session w s t f = record {
  tids = λ j other. tid_on_station w s j (λ x. record
      x { tids = change no_tid x.tids t (λ y. record y { session = f y.session }) })
      (λ x. at_put_other no_tid x.tids t j _ (λ e. other (sym e)));
  live = live_on w s _ s;
  receives = receives_on_station w s _ (λ x. refl) s;
  opened = on_station_opened w s _;
}

beyond_on_receiver : (w : World) (s t : ℕ) (f : Receiver → Receiver) → IsBeyond s t w (on_receiver w s t f)
unfolding on_receiver on_tid
beyond_on_receiver w s t f = record {
  tids = λ j other. tid_on_station w s j (λ x. record
      x { tids = change no_tid x.tids t (λ y. record y { receiver = f y.receiver }) })
      (λ x. at_put_other no_tid x.tids t j _ (λ e. other (sym e)));
  live = live_on w s _ s;
  receives = receives_on_station w s _ (λ x. refl) s;
  opened = on_station_opened w s _;
}

beyond_caught : (w : World) (s t : ℕ) → IsBeyond s t w (caught_up_if_plain w s t)
unfolding caught_up_if_plain caught_up
beyond_caught w s t = beyond_if (is_agreed w s t) s t w _ _ (beyond_here s t w)
    (beyond_then s t w _ _ (beyond_on_session w s t _) (beyond_on_receiver _ s t _))

pub beyond_on_share : (w : World) (s t : ℕ) (c : Class) (f : Share → Share) →
    IsBeyond s t w (on_share w s c f)
unfolding on_share
beyond_on_share w s t c f = record {
  tids = λ j _. tid_on_station w s j _ (λ x. refl);
  live = live_on w s _ s;
  receives = receives_on_station w s _ (λ x. refl) s;
  opened = on_station_opened w s _;
}

pub beyond_finish : (s t : ℕ) (w : World) (fate : Fate) (id : ℕ) →
    IsBeyond s t w (with_frame_finished w fate id)
unfolding with_frame_finished with_fate
beyond_finish s t w fate id = record { tids = λ j _. refl; live = refl; receives = λ c. refl; opened = refl }

-- ---- the end of an exchange

beyond_settled : (w : World) (s t : ℕ) (end : End) (m : Mpdu) → IsBeyond s t w (with_settled w s t end m)
unfolding with_failed_finished
beyond_settled w s t end m = if_settled (IsBeyond s t w) w s t end m
    (beyond_then s t w _ _ (beyond_on_session w s t _) (beyond_finish s t _ _ _))
    (λ e. let k = beyond_on_session w s t (after_end w.config.attempts e m.number) in
    beyond_if _ s t w _ _ (beyond_then s t w _ _ k (beyond_finish s t _ _ _)) k)

beyond_all_settled : (ms : List Mpdu) (w : World) (s t : ℕ) (ends : ℕ → End) →
    IsBeyond s t w (with_all_settled w s t ends ms)
unfolding with_all_settled
beyond_all_settled [] w s t ends = beyond_here s t w
beyond_all_settled (m ∷ ms) w s t ends = beyond_then s t w _ _ (beyond_settled w s t _ m)
    (beyond_all_settled ms _ s t ends)

beyond_after_done : (content : Content) (w : World) (x : Exchange) (heard : Bool) →
    IsBeyond x.station x.tid w (after_done w x heard content)
unfolding after_done
beyond_after_done (Frames mpdus) w x heard = beyond_then x.station x.tid w _ _
    (beyond_all_settled mpdus w _ _ _) (beyond_caught _ x.station x.tid)
beyond_after_done (Request start) w x heard = beyond_on_session w _ _ _

pub beyond_ended : (w : World) (x : Exchange) (heard : Bool) (air : Option ℕ) →
    IsBeyond x.station x.tid (without_exchange w x.number) (done_outcome w x heard air).world
unfolding done_outcome after_charge
beyond_ended w x heard air = beyond_then x.station x.tid (without_exchange w x.number) _ _
    (beyond_on_share (without_exchange w x.number) x.station x.tid x.class _)
    (beyond_after_done x.content _ x heard)

-- removing exchanges of other TIDs does not change whether TID j has an open request
asks_filtered : (s j : ℕ) (p : Exchange → Bool) (xs : List Exchange) →
    Every (λ y. p y ≡ false → y.tid ≡ j → ⊥) xs → asks s j (filter p xs) ≡ asks s j xs
asks_filtered s j p [] h = refl
asks_filtered s j p (y ∷ ys) h = elim (cases_Bool (p y)) [
  | inl stays ↦ rw stays (ap (λ (b : Bool). ((y.station == s) && ((y.tid == j) && is_request y.content)) || b)
      (asks_filtered s j p ys h.1))
  | inr goes ↦
      let none : (y.tid == j) ≡ false = ne_eqb y.tid j (h.0 goes) in
      rw (goes, none) (asks_filtered s j p ys h.1 ∙ sym (not_this (y.station == s) (asks s j ys)))
]
  where
    not_this : (a b : Bool) → (a && false) || b ≡ b
    not_this true b = refl
    not_this false b = refl

-- an open exchange is charged to the class of its TID
pub own_charge : (w : World) (e : ℕ) (x : Exchange) → HaveOwnClass w.opened → IsFound w e x →
    class_of x.tid ≡ x.class
own_charge w e x own found =
    (every_find (λ y. class_of y.tid ≡ y.class) (λ y. y.number == e) w.opened x own found).1

-- an exchange that ends was in flight only in the class of its TID
pub owed_elsewhere : (w : World) (e : ℕ) (x : Exchange) → IsKept (books w) → HaveOwnClass w.opened →
    IsFound w e x → (s : ℕ) (c : Class) → (class_of x.tid ≡ c → ⊥) →
    owed s c (without_exchange w x.number).opened ≡ owed s c w.opened
unfolding without_exchange
owed_elsewhere w e x kept own found s c other =
    owed_filter s c (λ y. not (y.number == x.number)) w.opened
    (every_map (λ z. z.number ≡ x.number → core z ≡ core x)
    (λ z. not (z.number == x.number) ≡ false → class_number z.class ≡ class_number c → ⊥)
    (λ z k goes is. other (own_charge w e x own found ∙ same_number x.class c
    (sym (ap (λ (y : Exchange). class_number y.class) (k (eqb-true _ _ (not-false _ goes)))) ∙ is)))
    w.opened (only_this w e x kept found))

without_elsewhere : (w : World) (e : ℕ) (x : Exchange) → IsKept (books w) → HaveOwnClass w.opened →
    IsFound w e x → (s : ℕ) (c : Class) → (class_of x.tid ≡ c → ⊥) →
    may_receive (without_exchange w x.number) s c ≡ may_receive w s c
unfolding without_exchange
without_elsewhere w e x kept own found s c other =
    ap (λ (n : ℕ). not (station w s).stopped
    && (is_reachable (station w s) c
    && ((w.config.aql == 0) || nat_lt n w.config.aql))) (owed_elsewhere w e x kept own found s c other)

module _ (w : World) (e : ℕ) (x : Exchange) (heard : Bool) (air : Option ℕ) (kept : IsKept (books w))
    (own : HaveOwnClass w.opened) (found : IsFound w e x) where
  ended_tid : (j : ℕ) → (j ≡ x.tid → ⊥) → IsSameTid w (done_outcome w x heard air).world x.station j
  unfolding without_exchange
  ended_tid j other =
      let b : IsBeyond x.station x.tid (without_exchange w x.number) (done_outcome w x heard air).world =
      beyond_ended w x heard air in
      record {
        session = ap (λ (y : Tid). y.session) (b.tids j other);
        held = ap (λ (y : Tid). holds_back y.mode) (b.tids j other);
        request = ap (asks x.station j) b.opened
            ∙ asks_filtered x.station j (λ y. not (y.number == x.number)) w.opened
            (every_map (λ z. z.number ≡ x.number → core z ≡ core x)
            (λ z. not (z.number == x.number) ≡ false → z.tid ≡ j → ⊥)
            (λ z k goes is. other (sym is ∙ ap (λ (y : Exchange). y.tid)
            (k (eqb-true _ _ (not-false _ goes))))) w.opened (only_this w e x kept found));
        queued = queued_same w (done_outcome w x heard air).world x.station j
            (ap (λ (y : Tid). y.queues) (b.tids j other))
            (λ q _. ap (λ (z : Shelves). length (z.queues q).items) (shelves_ended air w x heard));
      }

  pub own_ended : (c : Class) → (class_of x.tid ≡ c → ⊥) →
      is_ready (done_outcome w x heard air).world c x.station ≡ is_ready w c x.station
  unfolding without_exchange
  own_ended c other =
      let b : IsBeyond x.station x.tid (without_exchange w x.number) (done_outcome w x heard air).world =
      beyond_ended w x heard air in
      ready_same_by w (done_outcome w x heard air).world c x.station b.live
      (b.receives c ∙ without_elsewhere w e x kept own found x.station c other)
      (ended_tid (lower_tid c) (λ k. other (ap class_of (sym k) ∙ lower_class c)))
      (ended_tid (upper_tid c) (λ k. other (ap class_of (sym k) ∙ upper_class c)))

done_is : (w : World) (e : ℕ) (heard : Bool) (air : Option ℕ) (x : Exchange) → exchange w e ≡ Some x →
    (outcome_of w (Asked (Done e heard air))).world ≡ (done_outcome w x heard air).world
unfolding outcome_of outcome_where_open
done_is w e heard air x found = ap (λ (o : Option Exchange).
    (outcome_where_open w o (λ y. done_outcome w y heard air)).world) found

pub ready_ended : (w : World) (e : ℕ) (heard : Bool) (air : Option ℕ) (x : Exchange) → IsReached w →
    exchange w e ≡ Some x →
    (i : ℕ) (c : Class) → (i ≡ x.station → class_of x.tid ≡ c → ⊥) →
    is_ready (step w (Asked (Done e heard air))).world c i ≡ is_ready w c i
ready_ended w e heard air x r found i c other = elim (cases_eq i x.station) [
  | inl same ↦ subst (λ (n : ℕ). is_ready (step w (Asked (Done e heard air))).world c n ≡ is_ready w c n)
      (sym same)
      (ready_stepped w (Asked (Done e heard air)) x.station c
      (λ _. ap (λ (u : World). is_ready u c x.station) (done_is w e heard air x found)
      ∙ own_ended w e x heard air (orderly_reached w r).kept (own_class w r) found c (other same)))
  | inr differs ↦ ready_others w (Asked (Done e heard air)) r i c
      (λ k. differs (elsewhere (exchange w e) found k)) refl
]
  where
    elsewhere : (o : Option Exchange) → o ≡ Some x → station_of o ≡ Some i → i ≡ x.station
    elsewhere None f k = absurd (cc f)
    elsewhere (Some y) f k = cc (f, k)
