-- Defines what a slot is after its exchange ended, and proves what follows for the state of its number.
use Rattle.std.proofs.Common.{◌≡◌, refl, ap, ℕ, ◌+◌, nat_le, Bool, true, false, if◌then◌else◌, not, ◌&&◌, ◌↔◌, ◌⊎◌, inl, inr, Option, Some}
use Rattle.wf_def_lists.specs.Table.{has}
use Rattle.wf_def_agreement.specs.Session.{Session, Slot, State, End, on_slot, slot_after_miss, slot_given_up, with_state, after_end}
use Rattle.wf_def_agreement.specs.Receiver.{Score, shows}
use Rattle.wf_frame.specs.declared.classes.Fate.TheVariants.{Acked}
use Rattle.wf_def_world.specs.World.{World, Mpdu, Exchange, session, on_session, with_frame_finished}
use Rattle.wf_def_world.specs.Exchanges.{end_of, end_at_once, is_far, is_acked, numbers_arrived, numbers_unsent, numbers_given_up, with_failed_finished, with_settled}
use Rattle.wf_law_rules.proofs.Lemmas.Numbers.{on_if}

-- Returns a slot after its exchange ended so.
abbrev pub slot_after_end : ℕ → End → Slot → Slot
slot_after_end limit End.Acknowledged x = record x { state = State.Acked }
slot_after_end limit End.Missed x = slot_after_miss limit x
slot_after_end limit End.GivenUp x = slot_given_up limit x
slot_after_end limit End.Unsent x = record x { state = State.Waiting }

pub after_end_slot : (limit : ℕ) (end : End) (n : ℕ) (y : Session) →
    after_end limit end n y ≡ on_slot n (slot_after_end limit end) y
after_end_slot limit End.Acknowledged n y = refl
after_end_slot limit End.Missed n y = refl
after_end_slot limit End.GivenUp n y = refl
after_end_slot limit End.Unsent n y = refl

-- The id of a slot stays.
pub end_id : (limit : ℕ) (end : End) (x : Slot) → (slot_after_end limit end x).id ≡ x.id
end_id limit End.Acknowledged x = refl
end_id limit End.Missed x = refl
end_id limit End.GivenUp x = refl
end_id limit End.Unsent x = refl

pub missed_not_acked : (limit : ℕ) (x : Slot) → (slot_after_miss limit x).state ≡ State.Acked → ⊥
missed_not_acked limit x = on_if (λ st. st ≡ State.Acked → ⊥)
    (nat_le limit (x.attempts + 1)) State.Failed State.Waiting (λ _ h. cc h) (λ _ h. cc h)

missed_not_flying : (limit : ℕ) (x : Slot) (e : ℕ) → (slot_after_miss limit x).state ≡ State.Flying e → ⊥
missed_not_flying limit x e = on_if (λ st. st ≡ State.Flying e → ⊥)
    (nat_le limit (x.attempts + 1)) State.Failed State.Waiting (λ _ h. cc h) (λ _ h. cc h)

-- Only an acknowledged number is acknowledged.
pub end_acked : (limit : ℕ) (end : End) (x : Slot) → (slot_after_end limit end x).state ≡ State.Acked →
    end ≡ End.Acknowledged
end_acked limit End.Acknowledged x h = refl
end_acked limit End.Missed x h = absurd (missed_not_acked limit x h)
end_acked limit End.GivenUp x h = absurd (cc h)
end_acked limit End.Unsent x h = absurd (cc h)

-- No number stays on the air.
pub end_not_flying : (limit : ℕ) (end : End) (x : Slot) (e : ℕ) →
    (slot_after_end limit end x).state ≡ State.Flying e → ⊥
end_not_flying limit End.Acknowledged x e h = cc h
end_not_flying limit End.Missed x e h = missed_not_flying limit x e h
end_not_flying limit End.GivenUp x e h = cc h
end_not_flying limit End.Unsent x e h = cc h

-- Returns how an aggregate ends for a number, from the facts about the number.
abbrev pub end_by_answer : Bool → Bool → Bool → End
end_by_answer unsent acked given_up =
    if unsent then End.Unsent else if acked then End.Acknowledged
    else if given_up then End.GivenUp else End.Missed

-- Returns how an exchange ends for a number, from the facts about the exchange and the number. `once`: it
-- is plain, and the number is not sent again.
abbrev pub end_by : Bool → Bool → Bool → Bool → Bool → Bool → End
end_by batch once unsent arrived acked given_up =
    if batch then (if unsent then End.Unsent else if arrived then End.Acknowledged else End.GivenUp)
    else if once then end_at_once (end_by_answer unsent acked given_up)
    else end_by_answer unsent acked given_up

-- Returns whether a number of an exchange is sent once only.
abbrev pub is_once : World → Exchange → ℕ → Bool
is_once w x n = x.plain && is_far (session w x.station x.tid) n

-- Why an exchange leaves a number acknowledged: in a batch it arrived, and in an aggregate the answer shows
-- it.
abbrev pub IsBacked : Exchange → Bool → ℕ → Type 0
IsBacked x heard n = ((x.batch ≡ true) × (has (numbers_arrived x) n ≡ true)) ⊎
    ((x.batch ≡ false) × (is_acked heard x.answer n ≡ true))

-- A number that an exchange leaves acknowledged is backed, and was not unsent.
pub end_backed : (w : World) (x : Exchange) (heard : Bool) (n : ℕ) → end_of w x heard n ≡ End.Acknowledged →
    (has (numbers_unsent x) n ≡ false) × IsBacked x heard n
end_backed w x heard n = go x.batch (is_once w x n) (has (numbers_unsent x) n) (has (numbers_arrived x) n)
    (is_acked heard x.answer n) (has (numbers_given_up x) n)
  where
    go : (b o u r a g : Bool) → end_by b o u r a g ≡ End.Acknowledged →
        (u ≡ false) × (((b ≡ true) × (r ≡ true)) ⊎ ((b ≡ false) × (a ≡ true)))
    go true o true r a g h = absurd (cc h)
    go true o false true a g h = (refl, inl (refl, refl))
    go true o false false a g h = absurd (cc h)
    go false true true r a g h = absurd (cc h)
    go false true false r true g h = (refl, inr (refl, refl))
    go false true false r false true h = absurd (cc h)
    go false true false r false false h = absurd (cc h)
    go false false true r a g h = absurd (cc h)
    go false false false r true g h = (refl, inr (refl, refl))
    go false false false r false true h = absurd (cc h)
    go false false false r false false h = absurd (cc h)

-- If a heard aggregate has an answer, its acknowledged numbers are those that the answer shows and that were
-- sent.
pub end_shown : (w : World) (x : Exchange) (b : Score) (n : ℕ) → x.batch ≡ false → x.answer ≡ Some b →
    (end_of w x true n ≡ End.Acknowledged) ↔ (shows b n && not (has (numbers_unsent x) n) ≡ true)
end_shown w x b n k d = go x.batch (is_once w x n) (has (numbers_unsent x) n) (has (numbers_arrived x) n)
    (is_acked true x.answer n) (has (numbers_given_up x) n) (shows b n) k
    (ap (λ (o : Option Score). is_acked true o n) d)
  where
    go : (b o u r a g s : Bool) → b ≡ false → a ≡ s →
        (end_by b o u r a g ≡ End.Acknowledged) ↔ (s && not u ≡ true)
    go true o u r a g s k e = absurd (cc k)
    go false true true r a g true k e = ((λ h. absurd (cc h)), (λ h. absurd (cc h)))
    go false true true r a g false k e = ((λ h. absurd (cc h)), (λ h. absurd (cc h)))
    go false false true r a g true k e = ((λ h. absurd (cc h)), (λ h. absurd (cc h)))
    go false false true r a g false k e = ((λ h. absurd (cc h)), (λ h. absurd (cc h)))
    go false true false r true g true k e = ((λ _. refl), (λ _. refl))
    go false false false r true g true k e = ((λ _. refl), (λ _. refl))
    go false o false r true g false k e = absurd (cc e)
    go false o false r false g true k e = absurd (cc e)
    go false true false r false true false k e = ((λ h. absurd (cc h)), (λ h. absurd (cc h)))
    go false true false r false false false k e = ((λ h. absurd (cc h)), (λ h. absurd (cc h)))
    go false false false r false true false k e = ((λ h. absurd (cc h)), (λ h. absurd (cc h)))
    go false false false r false false false k e = ((λ h. absurd (cc h)), (λ h. absurd (cc h)))

-- A plain number that ends as missed is sent again.
pub end_missed : (w : World) (x : Exchange) (heard : Bool) (n : ℕ) → end_of w x heard n ≡ End.Missed →
    is_once w x n ≡ false
end_missed w x heard n = go x.batch (is_once w x n) (has (numbers_unsent x) n) (has (numbers_arrived x) n)
    (is_acked heard x.answer n) (has (numbers_given_up x) n)
  where
    go : (b o u r a g : Bool) → end_by b o u r a g ≡ End.Missed → o ≡ false
    go b false u r a g h = refl
    go true true true r a g h = absurd (cc h)
    go true true false true a g h = absurd (cc h)
    go true true false false a g h = absurd (cc h)
    go false true true r a g h = absurd (cc h)
    go false true false r true g h = absurd (cc h)
    go false true false r false true h = absurd (cc h)
    go false true false r false false h = absurd (cc h)

-- A number ends as unsent exactly if it is among those that never went on the air.
pub end_unsent : (w : World) (x : Exchange) (heard : Bool) (n : ℕ) → has (numbers_unsent x) n ≡ true →
    end_of w x heard n ≡ End.Unsent
end_unsent w x heard n = go x.batch (is_once w x n) (has (numbers_unsent x) n) (has (numbers_arrived x) n)
    (is_acked heard x.answer n) (has (numbers_given_up x) n)
  where
    go : (b o u r a g : Bool) → u ≡ true → end_by b o u r a g ≡ End.Unsent
    go true o true r a g h = refl
    go false true true r a g h = refl
    go false false true r a g h = refl
    go b o false r a g h = absurd (cc h)

pub end_not_unsent : (w : World) (x : Exchange) (heard : Bool) (n : ℕ) → has (numbers_unsent x) n ≡ false →
    end_of w x heard n ≡ End.Unsent → ⊥
end_not_unsent w x heard n = go x.batch (is_once w x n) (has (numbers_unsent x) n)
    (has (numbers_arrived x) n) (is_acked heard x.answer n) (has (numbers_given_up x) n)
  where
    go : (b o u r a g : Bool) → u ≡ false → end_by b o u r a g ≡ End.Unsent → ⊥
    go b o true r a g e h = cc e
    go true o false true a g e h = cc h
    go true o false false a g e h = cc h
    go false true false r true g e h = cc h
    go false true false r false true e h = cc h
    go false true false r false false e h = cc h
    go false false false r true g e h = cc h
    go false false false r false true e h = cc h
    go false false false r false false e h = cc h

-- A property of the world after a number is settled, from the case of an acknowledged number and from that of
-- the others, which are failed or wait again.
pub on_settled : (P : World → Type 0) (end : End) (w : World) (s t : ℕ) (m : Mpdu) →
    (end ≡ End.Acknowledged → P (with_settled w s t End.Acknowledged m)) →
    ((end ≡ End.Acknowledged → ⊥) → P (with_failed_finished (on_session w s t
    (on_slot m.number (slot_after_end w.config.attempts end))) s t m)) → P (with_settled w s t end m)
unfolding with_settled
on_settled P End.Acknowledged w s t m h k = h refl
on_settled P End.Missed w s t m h k = k (λ e. cc e)
on_settled P End.GivenUp w s t m h k = k (λ e. cc e)
on_settled P End.Unsent w s t m h k = k (λ e. cc e)

-- Returns the world after an exchange left number m unacknowledged.
abbrev pub unacknowledged : World → ℕ → ℕ → End → Mpdu → World
unacknowledged w s t end m =
    with_failed_finished (on_session w s t (after_end w.config.attempts end m.number)) s t m

-- A property of the world after a number is settled, from the case of an acknowledged number and from that of
-- the others.
pub if_settled : (P : World → Type 0) (w : World) (s t : ℕ) (end : End) (m : Mpdu) →
    P (with_frame_finished (on_session w s t (with_state State.Acked m.number)) Acked m.id) →
    ((end : End) → P (unacknowledged w s t end m)) → P (with_settled w s t end m)
unfolding with_settled
if_settled P w s t End.Acknowledged m h k = h
if_settled P w s t End.Missed m h k = k End.Missed
if_settled P w s t End.GivenUp m h k = k End.GivenUp
if_settled P w s t End.Unsent m h k = k End.Unsent
