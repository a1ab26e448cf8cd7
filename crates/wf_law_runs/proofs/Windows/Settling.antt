-- Proves how the end of an exchange changes the states of its numbers. By induction on the numbers.
use Rattle.std.proofs.Common.{◌≡◌, ◌≢◌, refl, ap, sym, ◌∙◌, subst, arith, ℕ, suc, ◌<◌, ◌≤◌, Bool, true, false, if◌then◌else◌, not, ◌&&◌, ◌==◌, is_none, List, [], ◌∷◌, Option, Some, None, is_some, IfSome, ◌↔◌}
use Rattle.wf_def_lists.specs.Table.{has}
use Rattle.wf_def_agreement.specs.Receiver.{Receiver, Score, shows}
use Rattle.wf_def_agreement.specs.Session.{End, with_state, Session, Slot, State, is_failed, slot, on_slot, next_number}
use Rattle.wf_def_world.specs.World.{receiver, World, Exchange, Mpdu, Content, Frames, Request, session, is_live, exchange, on_session, without_exchange}
use Rattle.wf_def_world.specs.CanSend.{with_listings_of}
use Rattle.wf_def_world.specs.Exchanges.{end_of, numbers_unsent, mpdus_of, after_charge, with_failed_finished, with_settled, with_all_settled, caught_up_if_plain, after_done}
use Rattle.wf_frame.specs.declared.notes.Ask.TheVariants.{Done}
use Rattle.wf_frame.specs.declared.notes.Note.TheVariants.{Asked}
use Rattle.wf_frame.specs.declared.notes.Refusal.{Refusal}
use Rattle.wf_def_world.specs.Refusals.{exchange_has, first_refusal}
use Rattle.wf_frame.specs.Settings.{is_bad_air}
use Rattle.wf_def_world.specs.Step.{done_outcome, outcome_where_open, outcome_of, judged_outcome, step, station_of}
use Rattle.wf_law_runs.proofs.Common.Ends.{slot_after_end, end_acked, end_not_flying, end_shown, on_settled}
use Rattle.wf_law_runs.proofs.Sessions.Flights.{Rises}
use Rattle.wf_law_runs.proofs.Windows.Sides.{slot_plain, Same, same_finish, same_listed, same_charged}
use Rattle.wf_law_runs.proofs.Windows.Agreement.{slot_other, slot_same, AllRight}
use Rattle.wf_law_runs.proofs.Windows.Opened.{each_find, FlyIn}
use Rattle.wf_frame.specs.declared.notes.Refusal.TheVariants.{NoExchange, NoAnswer, BadAir}
use Rattle.wf_law_runs.specs.Windows.{EachMpdu, Settles}
use Rattle.wf_law_runs.proofs.Windows.Agreed.{IsLawful, IsOpenIn, session_same, session_on_session, live_on_session}

if_session : (b : Bool) (w v u : World) (s t : ℕ) → session w s t ≡ session u s t →
    session v s t ≡ session u s t → session (if b then w else v) s t ≡ session u s t
if_session true w v u s t h k = h
if_session false w v u s t h k = k

pub session_settled : (end : End) (w : World) (s t : ℕ) (m : Mpdu) → is_live w s ≡ true →
    session (with_settled w s t end m) s t
    ≡ on_slot m.number (slot_after_end w.config.attempts end) (session w s t)
unfolding with_settled with_failed_finished
session_settled end w s t m live =
    let f : Slot → Slot = slot_after_end w.config.attempts end in
    let v : World = on_session w s t (on_slot m.number f) in
    on_settled (λ u. session u s t ≡ on_slot m.number f (session w s t)) end w s t m
    (λ e. session_same _ _ (same_finish (on_session w s t (with_state State.Acked m.number)) _ _) s t
    ∙ session_on_session w s t (with_state State.Acked m.number) live
    ∙ ap (λ (k : End). on_slot m.number (slot_after_end w.config.attempts k) (session w s t)) (sym e))
    (λ _. if_session (is_failed (slot (session v s t) m.number).state) _ v v s t
    (session_same _ _ (same_finish v _ _) s t) refl
    ∙ session_on_session w s t (on_slot m.number f) live)

if_live : (b : Bool) (w v : World) (s : ℕ) → is_live w s ≡ true → is_live v s ≡ true →
    is_live (if b then w else v) s ≡ true
if_live true w v s h k = h
if_live false w v s h k = k

live_settled : (end : End) (w : World) (s t : ℕ) (m : Mpdu) → is_live w s ≡ true →
    is_live (with_settled w s t end m) s ≡ true
unfolding with_settled with_failed_finished
live_settled end w s t m live =
    let v : World = on_session w s t (on_slot m.number (slot_after_end w.config.attempts end)) in
    let k : is_live v s ≡ true =
    live_on_session w s t (on_slot m.number (slot_after_end w.config.attempts end)) s ∙ live in
    on_settled (λ u. is_live u s ≡ true) end w s t m
    (λ _. (same_finish (on_session w s t (with_state State.Acked m.number)) _ _).live s
    ∙ live_on_session w s t (with_state State.Acked m.number) s ∙ live)
    (λ _. if_live (is_failed (slot (session v s t) m.number).state) _ v s ((same_finish v _ _).live s ∙ k) k)

-- The slot of a number before the settled ones does not change.
settled_before : (ms : List Mpdu) (w : World) (s t : ℕ) (ends : ℕ → End) (n lo hi : ℕ) →
    is_live w s ≡ true → (session w s t).first ≤ n → n < lo → Rises lo hi ms →
    slot (session (with_all_settled w s t ends ms) s t) n ≡ slot (session w s t) n
unfolding with_all_settled
settled_before [] w s t ends n lo hi live from below r = refl
settled_before (m ∷ ms) w s t ends n lo hi live from below r =
    let y : Session = session w s t in
    let v : World = with_settled w s t (ends m.number) m in
    let f : Slot → Slot = slot_after_end w.config.attempts (ends m.number) in
    let e : session v s t ≡ on_slot m.number f y = session_settled (ends m.number) w s t m live in
    let ne : m.number ≢ n = omega (arith, r.0) in
    settled_before ms v s t ends n (suc m.number) hi (live_settled (ends m.number) w s t m live)
    (omega (arith, from, ap (λ (z : Session). z.first) e)) (omega (arith, r.0)) r.2
    ∙ ap (λ (z : Session). slot z n) e ∙ slot_other y m.number n f (omega (arith, from, below, r.0)) from ne

settled_acked : (end : End) (limit : ℕ) (x : Slot) →
    ((slot_after_end limit end x).state ≡ State.Acked) ↔ (end ≡ End.Acknowledged)
settled_acked end limit x = (
  end_acked limit end x,
  (λ h. ap (λ (k : End). (slot_after_end limit k x).state) h),
)

pub all_acked : (ms : List Mpdu) (w : World) (s t : ℕ) (ends : ℕ → End) (lo hi : ℕ) → is_live w s ≡ true →
    (session w s t).first ≤ lo → Rises lo hi ms →
    EachMpdu (λ m. ((slot (session (with_all_settled w s t ends ms) s t) m.number).state ≡ State.Acked) ↔
    (ends m.number ≡ End.Acknowledged)) ms
unfolding with_all_settled
all_acked [] w s t ends lo hi live from r = tt
all_acked (m ∷ ms) w s t ends lo hi live from r =
    let y : Session = session w s t in
    let v : World = with_settled w s t (ends m.number) m in
    let f : Slot → Slot = slot_after_end w.config.attempts (ends m.number) in
    let e : session v s t ≡ on_slot m.number f y = session_settled (ends m.number) w s t m live in
    let live_v : is_live v s ≡ true = live_settled (ends m.number) w s t m live in
    let first_v : (session v s t).first ≡ y.first = ap (λ (z : Session). z.first) e in
    let head : slot (session (with_all_settled v s t ends ms) s t) m.number ≡ f (slot y m.number) =
    settled_before ms v s t ends m.number (suc m.number) hi live_v (omega (arith, from, first_v, r.0))
    (omega arith) r.2 ∙ ap (λ (z : Session). slot z m.number) e ∙ slot_same y m.number f
    in
    let k = settled_acked (ends m.number) w.config.attempts (slot y m.number) in (
      (
        (λ h. k.0 (ap (λ (x : Slot). x.state) (sym head) ∙ h)),
        (λ h. ap (λ (x : Slot). x.state) head ∙ k.1 h),
      ),
      all_acked ms v s t ends (suc m.number) hi live_v (omega (arith, from, first_v, r.0)) r.2,
    )

-- None of the numbers is on the air afterwards.
pub all_landed : (ms : List Mpdu) (w : World) (s t : ℕ) (ends : ℕ → End) (lo hi : ℕ) → is_live w s ≡ true →
    (session w s t).first ≤ lo → Rises lo hi ms →
    EachMpdu (λ m. (e : ℕ) → (slot (session (with_all_settled w s t ends ms) s t) m.number).state
    ≡ State.Flying e → ⊥) ms
unfolding with_all_settled
all_landed [] w s t ends lo hi live from r = tt
all_landed (m ∷ ms) w s t ends lo hi live from r =
    let y : Session = session w s t in
    let v : World = with_settled w s t (ends m.number) m in
    let f : Slot → Slot = slot_after_end w.config.attempts (ends m.number) in
    let e : session v s t ≡ on_slot m.number f y = session_settled (ends m.number) w s t m live in
    let live_v : is_live v s ≡ true = live_settled (ends m.number) w s t m live in
    let first_v : (session v s t).first ≡ y.first = ap (λ (z : Session). z.first) e in
    let head : slot (session (with_all_settled v s t ends ms) s t) m.number ≡ f (slot y m.number) =
    settled_before ms v s t ends m.number (suc m.number) hi live_v (omega (arith, from, first_v, r.0))
    (omega arith) r.2 ∙ ap (λ (z : Session). slot z m.number) e ∙ slot_same y m.number f
    in (
      (λ k h. end_not_flying w.config.attempts (ends m.number) (slot y m.number) k
          (ap (λ (x : Slot). x.state) (sym head) ∙ h)),
      all_landed ms v s t ends (suc m.number) hi live_v (omega (arith, from, first_v, r.0)) r.2,
    )

-- ---- a Done that was heard

pub each_along : (P Q : Mpdu → Type 0) (ms : List Mpdu) → ((m : Mpdu) → P m → Q m) → EachMpdu P ms →
    EachMpdu Q ms
each_along P Q [] h e = tt
each_along P Q (m ∷ ms) h e = (h m e.0, each_along P Q ms h e.1)

-- A TID without an agreement catches up: the states stay.
pub acked_plain : (ms : List Mpdu) (w : World) (s t : ℕ) (ends : ℕ → End) →
    EachMpdu (λ m. ((slot (session w s t) m.number).state ≡ State.Acked) ↔
    (ends m.number ≡ End.Acknowledged)) ms →
    EachMpdu (λ m. ((slot (session (caught_up_if_plain w s t) s t) m.number).state ≡ State.Acked) ↔
    (ends m.number ≡ End.Acknowledged)) ms
acked_plain ms w s t ends = each_along _ _ ms (λ m e.
    let d = ap (λ (x : Slot). x.state) (slot_plain w s t s t m.number) in
    ((λ h. e.0 (sym d ∙ h)), (λ h. d ∙ e.1 h)))

-- The ends are judged in the world z.
same_acked : (ms : List Mpdu) (z v u : World) (s t : ℕ) (x : Exchange) (b : Score) (r : Receiver) →
    x.batch ≡ false → x.answer ≡ Some b → Same v u →
    AllRight b r ms → EachMpdu (λ m. ((slot (session v s t) m.number).state ≡ State.Acked) ↔
    (end_of z x true m.number ≡ End.Acknowledged)) ms →
    EachMpdu (λ m. ((slot (session u s t) m.number).state ≡ State.Acked) ↔
    (has r.arrived m.number && not (has (numbers_unsent x) m.number) ≡ true)) ms
same_acked [] z v u s t x b r p o k a e = tt
same_acked (m ∷ ms) z v u s t x b r p o k a e =
    let d : session u s t ≡ session v s t = session_same v u k s t in
    let shown = end_shown z x b m.number p o in
    let arrived : shows b m.number && not (has (numbers_unsent x) m.number)
    ≡ has r.arrived m.number && not (has (numbers_unsent x) m.number) =
    ap (λ (c : Bool). c && not (has (numbers_unsent x) m.number)) a.0.shown in (
      (
        (λ h. sym arrived ∙ shown.0 (e.0.0 (ap (λ (y : Session). (slot y m.number).state) (sym d) ∙ h))),
        (λ h. ap (λ (y : Session). (slot y m.number).state) d ∙ e.0.1 (shown.1 (arrived ∙ h))),
      ),
      same_acked ms z v u s t x b r p o k a.1 e.1,
    )

pub without_same : (w : World) (e s t : ℕ) → session (without_exchange w e) s t ≡ session w s t
unfolding without_exchange
without_same w e s t = refl

pub without_live : (w : World) (e s : ℕ) → is_live (without_exchange w e) s ≡ is_live w s
unfolding without_exchange
without_live w e s = refl

heard_frames : (air : Option ℕ) (c : Content) (w : World) (x : Exchange) → x.content ≡ c →
    IsOpenIn w x → EachMpdu (λ m. ((slot (session
    (after_done (after_charge (without_exchange w x.number) x air) x true c) x.station x.tid) m.number).state
    ≡ State.Acked) ↔ (end_of (after_charge (without_exchange w x.number) x air) x true m.number
    ≡ End.Acknowledged)) (mpdus_of c)
unfolding after_done
heard_frames air (Request f) w x e o = tt
heard_frames air (Frames ms) w x e o =
    let v : World = after_charge (without_exchange w x.number) x air in
    let k : Same (without_exchange w x.number) v = same_charged air (without_exchange w x.number) x in
    let y : Session = session w x.station x.tid in
    let same_y : session v x.station x.tid ≡ y = session_same _ _ k x.station x.tid
    ∙ without_same w x.number x.station x.tid in
    let flies : FlyIn x.number ms y = subst (λ (c : Content). FlyIn x.number (mpdus_of c) y) e o.opened.flies
    in
    acked_plain ms (with_all_settled v x.station x.tid (end_of v x true) ms) x.station x.tid (end_of v x true)
    (all_acked ms v x.station x.tid (end_of v x true) y.first (next_number y)
    (k.live x.station ∙ without_live w x.number x.station ∙ o.live)
    (omega (arith, ap (λ (z : Session). z.first) same_y)) flies.rising)

heard_ended : (air : Option ℕ) (w : World) (x : Exchange) (b : Score) (u : World) → x.answer ≡ Some b →
    IsOpenIn w x →
    Same (done_outcome w x true air).world u → EachMpdu
    (λ m. ((slot (session u x.station x.tid) m.number).state ≡ State.Acked) ↔
    (has (receiver w x.station x.tid).arrived m.number && not (has (numbers_unsent x) m.number) ≡ true))
    (mpdus_of x.content)
unfolding done_outcome
heard_ended air w x b u d o k =
    same_acked (mpdus_of x.content) (after_charge (without_exchange w x.number) x air) _ u x.station x.tid x b
    (receiver w x.station x.tid)
    (o.opened.unbatched (ap is_some d)) d k
    (subst (λ (a : Option Score). IfSome a (λ b. AllRight b (receiver w x.station x.tid)
    (mpdus_of x.content))) d o.opened.kept)
    (heard_frames air x.content w x refl o)

done_heard : (o : Option Exchange) (w : World) (x : Exchange) (b : Score) (air : Option ℕ) → o ≡ Some x →
    x.answer ≡ Some b → is_bad_air w.config air ≡ false → first_refusal ((is_none o, NoExchange)
    ∷ (true && exchange_has o (λ x. not x.batch && is_none x.answer), NoAnswer)
    ∷ (is_bad_air w.config air, BadAir) ∷ []) ≡ None
unfolding first_refusal
done_heard o w x b air h d fine =
    subst (λ (o : Option Exchange). (if is_none o then Some NoExchange
    else (if true && exchange_has o (λ x. not x.batch && is_none x.answer) then Some NoAnswer
    else (if is_bad_air w.config air then Some BadAir else None))) ≡ None) (sym h)
    (subst (λ (z : Bool). (if z then Some NoAnswer
    else (if is_bad_air w.config air then Some BadAir else None)) ≡ None) (sym told)
    (subst (λ (z : Bool). (if z then Some BadAir else None) ≡ None) (sym fine) refl))
  where
    and_no : (a : Bool) → (a && false) ≡ false
    and_no true = refl
    and_no false = refl

    told : (not x.batch && is_none x.answer) ≡ false
    told = ap (λ (a : Option Score). not x.batch && is_none a) d ∙ and_no (not x.batch)

step_heard : (w : World) (e : ℕ) (x : Exchange) (b : Score) (air : Option ℕ) → exchange w e ≡ Some x →
    x.answer ≡ Some b → is_bad_air w.config air ≡ false
    → Same (done_outcome w x true air).world (step w (Asked (Done e true air))).world
unfolding step judged_outcome outcome_of outcome_where_open
step_heard w e x b air h d fine =
    subst (λ (r : Option Refusal). Same (done_outcome w x true air).world
    (judged_outcome w (Asked (Done e true air)) r).world) (sym (done_heard (exchange w e) w x b air h d fine))
    (subst (λ (o : Option Exchange). Same (done_outcome w x true air).world
    (with_listings_of (outcome_where_open w o (λ x. done_outcome w x true air)).world (station_of o))) (sym h)
    (same_listed _ _))

some_answer : (o : Option Score) (P : Type 0) → ((b : Score) → o ≡ Some b → P) → IfSome o (λ _. P)
some_answer None P h = tt
some_answer (Some b) P h = h b refl

some_exchange : (o : Option Exchange) (P Q : Exchange → Type 0) → IfSome o P →
    ((x : Exchange) → o ≡ Some x → P x → Q x) → IfSome o Q
some_exchange None P Q k h = tt
some_exchange (Some x) P Q k h = h x refl k

pub settles : (w : World) (i : IsLawful w) (e : ℕ) → IfSome (exchange w e) (Settles w e)
settles w i e = some_exchange (exchange w e) (IsOpenIn w) (Settles w e)
    (each_find (IsOpenIn w) (IsOpenIn w) (λ x. x.number == e) w.opened (λ x _ f. f) i.opened)
    (λ x found o air fine.
    some_answer x.answer _ (λ b d. heard_ended air w x b (step w (Asked (Done e true air))).world d o
    (step_heard w e x b air found d fine)))
