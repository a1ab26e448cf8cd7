-- Proves that a settled number keeps its state until the end of its exchange, because the numbers that are
-- settled after it are others.
use Rattle.std.proofs.Common.{◌≡◌, ◌≢◌, refl, ap, sym, ◌∙◌, subst, arith, ℕ, ◌+◌, ◌-◌, ◌≤◌, ◌==◌, ◌||◌, nat_le, Bool, true, false, if◌then◌else◌, List, [], ◌∷◌, map, eq-eqb}
use Rattle.std.proofs.lemmas.Bool.{or_left}
use Rattle.wf_frame.specs.declared.classes.Cause.TheVariants.{Retries}
use Rattle.wf_frame.specs.declared.classes.Fate.{Fate}
use Rattle.wf_frame.specs.declared.classes.Fate.TheVariants.{Acked as Is_acked, Dropped}
use Rattle.wf_frame.specs.declared.settings.Config.{Config}
use Rattle.wf_frame.specs.Frames.{FrameValue}
use Rattle.wf_def_agreement.specs.Session.{Session, Slot, State, End, no_slot, slot, on_slot, is_failed, with_state, after_end, slot_after_miss, slot_given_up}
use Rattle.wf_def_lists.specs.Table.{has}
use Rattle.wf_law_rules.proofs.Lemmas.Tables.{at_put_same, at_put_other}
use Rattle.wf_def_world.specs.World.{World, Mpdu, is_live, session, on_session, with_frame_finished}
use Rattle.wf_def_world.specs.Exchanges.{with_settled, with_failed_finished, with_all_settled}
use Rattle.wf_law_runs.proofs.Common.Ends.{unacknowledged}
use Rattle.wf_queue_flows_refines.proofs.Elsewhere.{rest_finish}
use Rattle.wf_send_parts.specs.Answers.{settling_answer}
use Rattle.wf_send_parts.specs.declared.window.window.Settled.{Settled}
use Rattle.wf_send_parts.specs.Ending.{AreFlying}
use Rattle.wf_send_parts.proofs.Ends.{still_fly}
use Rattle.wf_send_half_model.specs.Half.{TransmitValue}
use Rattle.wf_send_half_model.specs.Ending.{ending_of, IsEnding, state_left}
use Rattle.wf_send_half_model.specs.Views.{Agreements, agreements}
use Rattle.wf_send_half_model.proofs.Views.{agreements_rest, agreements_session}
use Rattle.wf_send_half_model.proofs.Moves.{with_session, session_own}

-- ---- sessions

-- the agreements with session y at TID t of station s
abbrev with_agreement : Agreements → ℕ → ℕ → Session → Agreements
with_agreement a s t y = record a { sessions = with_session a.sessions s t y }

finished_agreements : (w : World) (fate : Fate) (id : ℕ) →
    agreements (with_frame_finished w fate id) ≡ agreements w
finished_agreements w fate id = agreements_rest w (with_frame_finished w fate id) (rest_finish w fate id)

either_world : (b : Bool) (w u : World) (a : Agreements) → agreements w ≡ a → agreements u ≡ a →
    agreements (if b then w else u) ≡ a
either_world true w u a h k = h
either_world false w u a h k = k

left_agreements : (end : End) (w : World) (s t : ℕ) (m : Mpdu) → is_live w s ≡ true →
    agreements (unacknowledged w s t end m) ≡ with_agreement (agreements w) s t
    (after_end w.config.attempts end m.number (session w s t))
unfolding with_failed_finished
left_agreements end w s t m live =
    let u : World = on_session w s t (after_end w.config.attempts end m.number) in
    let e = agreements_session w s t (after_end w.config.attempts end m.number) live in
    either_world (is_failed (slot (session u s t) m.number).state)
    (with_frame_finished u (Dropped Retries) m.id) u _
    (finished_agreements u (Dropped Retries) m.id ∙ e) e

settled_agreements : (end : End) (w : World) (s t : ℕ) (m : Mpdu) → is_live w s ≡ true →
    agreements (with_settled w s t end m) ≡ with_agreement (agreements w) s t
    (after_end w.config.attempts end m.number (session w s t))
unfolding with_settled
settled_agreements End.Acknowledged w s t m live = finished_agreements _ Is_acked m.id
    ∙ agreements_session w s t (with_state State.Acked m.number) live
settled_agreements End.Missed w s t m live = left_agreements End.Missed w s t m live
settled_agreements End.GivenUp w s t m live = left_agreements End.GivenUp w s t m live
settled_agreements End.Unsent w s t m live = left_agreements End.Unsent w s t m live

-- ---- slots

-- each end changes the slot of its number
end_changes : ℕ → End → Slot → Slot
end_changes limit End.Acknowledged x = record x { state = State.Acked }
end_changes limit End.Missed x = slot_after_miss limit x
end_changes limit End.GivenUp x = slot_given_up limit x
end_changes limit End.Unsent x = record x { state = State.Waiting }

end_is : (end : End) (limit n : ℕ) (y : Session) → after_end limit end n y
    ≡ on_slot n (end_changes limit end) y
unfolding end_changes
end_is End.Acknowledged limit n y = refl
end_is End.Missed limit n y = refl
end_is End.GivenUp limit n y = refl
end_is End.Unsent limit n y = refl

-- settling a number does not change the first number of a session
settled_first : (end : End) (limit n : ℕ) (y : Session) → (after_end limit end n y).first ≡ y.first
settled_first end limit n y = ap (λ (z : Session). z.first) (end_is end limit n y)

slot_kept : (end : End) (limit n k : ℕ) (y : Session) → y.first ≤ n → y.first ≤ k → k ≢ n →
    slot (after_end limit end n y) k ≡ slot y k
slot_kept end limit n k y from_n from_k other =
    ap (λ (z : Session). slot z k) (end_is end limit n y)
    ∙ at_put_other no_slot y.slots (n - y.first) (k - y.first) _
    (λ (e : n - y.first ≡ k - y.first). other (omega arith))

by_limit : (b : Bool) (f : FrameValue) → (if b then State.Failed else State.Waiting)
    ≡ state_left (if b then Settled.Failed f else Settled.Waiting)
by_limit true f = refl
by_limit false f = refl

state_changed : (end : End) (limit : ℕ) (bodies : ℕ → FrameValue) (x : Slot) →
    (end_changes limit end x).state ≡ state_left (settling_answer end limit bodies x)
unfolding end_changes
state_changed End.Acknowledged limit bodies x = refl
state_changed End.Missed limit bodies x = by_limit (nat_le limit (x.attempts + 1)) _
state_changed End.GivenUp limit bodies x = refl
state_changed End.Unsent limit bodies x = refl

slot_left : (end : End) (limit n : ℕ) (y : Session) (bodies : ℕ → FrameValue) →
    (slot (after_end limit end n y) n).state ≡ state_left (settling_answer end limit bodies (slot y n))
slot_left end limit n y bodies =
    ap (λ (z : Session). (slot z n).state) (end_is end limit n y)
    ∙ ap (λ (z : Slot). z.state) (at_put_same no_slot y.slots (n - y.first) (end_changes limit end
    (slot y n)))
    ∙ state_changed end limit bodies (slot y n)

-- ---- to the end

-- a number that is not among these keeps its slot
kept_to_end : (ms : List Mpdu) (w : World) (s t e n : ℕ) (ends : ℕ → End) → is_live w s ≡ true →
    (session w s t).first ≤ n → AreFlying (session w s t) (ending_of w.config e ends)
    (map (λ m. m.number) ms) → has (map (λ m. m.number) ms) n ≡ false →
    slot (session (with_all_settled w s t ends ms) s t) n ≡ slot (session w s t) n
unfolding with_all_settled
kept_to_end [] w s t e n ends live from flying out = refl
kept_to_end (m ∷ ms) w s t e n ends live from flying out =
    let u : World = with_settled w s t (ends m.number) m in
    let y : Session = session w s t in
    let z : Session = after_end w.config.attempts (ends m.number) m.number y in
    let a : agreements u ≡ with_agreement (agreements w) s t z =
    settled_agreements (ends m.number) w s t m live in
    let now : session u s t ≡ z = ap (λ (k : Agreements). k.sessions s t) a
    ∙ session_own (agreements w).sessions s t z in
    let config : u.config ≡ w.config = ap (λ (k : Agreements). k.config) a in
    let behind : AreFlying z (ending_of w.config e ends) (map (λ (k : Mpdu). k.number) ms) =
    still_fly (ends m.number) y (ending_of w.config e ends) m.number
    (map (λ (k : Mpdu). k.number) ms) flying in
    let flying_u : AreFlying (session u s t) (ending_of u.config e ends) (map (λ (k : Mpdu). k.number) ms) =
    subst (λ (c : Config). AreFlying (session u s t) (ending_of c e ends)
    (map (λ (k : Mpdu). k.number) ms)) (sym config)
    (subst (λ (k : Session). AreFlying k (ending_of w.config e ends) (map (λ (k : Mpdu). k.number) ms))
    (sym now) behind) in
    let from_m : y.first ≤ m.number = (flying.each m.number
    (or_left (m.number == m.number) (has (map (λ (k : Mpdu). k.number) ms) m.number)
    (eq-eqb m.number m.number refl))).from_first in
    let other : n ≢ m.number = λ i. absurd (cc (
      out,
      or_left (m.number == n) (has (map (λ (k : Mpdu). k.number) ms) n) (eq-eqb m.number n (sym i)),
    )) in
    kept_to_end ms u s t e n ends (ap (λ (k : Agreements). k.live s) a ∙ live)
    (omega (
      arith,
      from,
      ap (λ (k : Session). k.first) now,
      settled_first (ends m.number) w.config.attempts m.number y,
    )) flying_u (later (m.number == n) out)
    ∙ ap (λ (k : Session). slot k n) now ∙ slot_kept
    (ends m.number) w.config.attempts m.number n y from_m from other
  where
    later : (b : Bool) → b || has (map (λ (k : Mpdu). k.number) ms) n ≡ false →
        has (map (λ (k : Mpdu). k.number) ms) n ≡ false
    later true i = absurd (cc i)
    later false i = i

pub state_at_end : (v : TransmitValue) (w : World) (bodies : ℕ → FrameValue) (s t e : ℕ) (ends : ℕ → End)
    (m : Mpdu) (ms : List Mpdu) (after : World) → IsEnding v w bodies s t e ends (m ∷ ms) after →
    (slot (session after s t) m.number).state ≡ state_left
    (settling_answer (ends m.number) v.config.attempts bodies (slot (session w s t) m.number))
unfolding with_all_settled
state_at_end v w bodies s t e ends m ms after left =
    let u : World = with_settled w s t (ends m.number) m in
    let y : Session = session w s t in
    let z : Session = after_end w.config.attempts (ends m.number) m.number y in
    let a : agreements u ≡ with_agreement (agreements w) s t z =
    settled_agreements (ends m.number) w s t m left.live in
    let now : session u s t ≡ z = ap (λ (k : Agreements). k.sessions s t) a
    ∙ session_own (agreements w).sessions s t z in
    let config : u.config ≡ w.config = ap (λ (k : Agreements). k.config) a in
    let behind : AreFlying z (ending_of w.config e ends) (map (λ (k : Mpdu). k.number) ms) =
    still_fly (ends m.number) y (ending_of w.config e ends) m.number
    (map (λ (k : Mpdu). k.number) ms) left.flying in
    let flying_u : AreFlying (session u s t) (ending_of u.config e ends) (map (λ (k : Mpdu). k.number) ms) =
    subst (λ (c : Config). AreFlying (session u s t) (ending_of c e ends)
    (map (λ (k : Mpdu). k.number) ms)) (sym config)
    (subst (λ (k : Session). AreFlying k (ending_of w.config e ends) (map (λ (k : Mpdu). k.number) ms))
    (sym now) behind) in
    let from_m : y.first ≤ m.number = (left.flying.each m.number
    (or_left (m.number == m.number) (has (map (λ (k : Mpdu). k.number) ms) m.number)
    (eq-eqb m.number m.number refl))).from_first in
    ap (λ (k : World). (slot (session k s t) m.number).state) (sym left.leads)
    ∙ ap (λ (k : Slot). k.state) (kept_to_end ms u s t e m.number ends
    (ap (λ (k : Agreements). k.live s) a ∙ left.live)
    (omega (
      arith,
      from_m,
      ap (λ (k : Session). k.first) now,
      settled_first (ends m.number) w.config.attempts m.number y,
    )) flying_u left.flying.once.0)
    ∙ ap (λ (k : Session). (slot k m.number).state) now
    ∙ slot_left (ends m.number) w.config.attempts m.number y bodies
    ∙ ap (λ (i : ℕ). state_left (settling_answer (ends m.number) i bodies (slot y m.number)))
    (sym (ap (λ (c : Config). c.attempts) left.parts.others.config))
