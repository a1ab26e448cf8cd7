-- Proves which marks the open exchanges have, which refusals follow from a mark, and which refusal
-- a reply has.
use Rattle.std.proofs.Common.{◌≡◌, refl, ap, sym, ◌∙◌, ℕ, nat_le, ◌==◌, not, ◌&&◌, ◌||◌, Bool, true, false, List, [], ◌∷◌, map, find, Option, Some, None, IfSome, is_some, is_none, option_map, if◌then◌else◌, length}
use Rattle.wf_frame.specs.declared.classes.Class.{Class}
use Rattle.wf_frame.specs.declared.notes.Ask.TheVariants.{Join, Leave, Rate, Tick, Pull, Arrive, Answer, Done, Sleep, Wake, Poll, Rx, Reap, Ampdu, Stop, Start, Unsent, GiveUp, Flush, Offload, Weight, Plain, Hold, Begin, Free, Cease, Group, Service, Bss}
use Rattle.wf_frame.specs.declared.notes.Limits.{Limits}
use Rattle.wf_frame.specs.declared.notes.Note.{Note}
use Rattle.wf_frame.specs.declared.notes.Note.TheVariants.{Enqueue, Asked}
use Rattle.wf_frame.specs.declared.notes.Refusal.{Refusal}
use Rattle.wf_frame.specs.declared.notes.Refusal.TheVariants.{NoExchange, NoAnswer, BadAir, BadIndex, Answered, Arrived, Marked, Nothing}
use Rattle.wf_frame.specs.declared.notes.ReplyNote.TheVariants.{Refused}
use Rattle.wf_def_lists.specs.Table.{has}
use Rattle.wf_def_agreement.specs.Receiver.{Score, score}
use Rattle.wf_def_world.specs.World.{World, Exchange, exchange, receiver, is_wide}
use Rattle.wf_def_world.specs.Exchanges.{transmissions, is_marked, picked_station}
use Rattle.wf_def_world.specs.Refusals.{first_refusal, exchange_has, refusal}
use Rattle.wf_frame.specs.Settings.{is_bad_air}
use Rattle.wf_def_world.specs.Step.{Outcome, join_outcome, leave_outcome, rate_outcome, tick_outcome, enqueue_outcome, send_outcome, pull_outcome_for, pull_outcome, arrive_outcome, answer_outcome, done_outcome, outcome_where_open, sleep_outcome, wake_outcome, poll_outcome, rx_outcome, reap_outcome, unsent_outcome, give_up_outcome, flush_outcome, offload_outcome, weight_outcome, plain_outcome, hold_outcome, begin_outcome, free_outcome, cease_outcome, answer_reply, outcome_of, judged_outcome, step}
use Rattle.wf_law_runs.specs.Delivery.{is_batch}
use Rattle.wf_law_runs.proofs.Common.Picked.{picked_world}
use Rattle.wf_send_half.specs.Marks.{HasNotArrived as IsUntoldOf}
use Rattle.std.specs.Option.{option_or}
use Rattle.wf_recv_marks.specs.declared.marks.Mark.{Mark}
use Rattle.wf_recv_peer.specs.Agreements.{PeerValue}
use Rattle.wf_cell_model.specs.Hearing.{kept_of, mark_of, Hears}
use Rattle.wf_cell_model.specs.Refusing.{mark_in, told_refusal, arrive_refusal, answer_refusal, done_refusal}
use Rattle.wf_frame.specs.declared.settings.Config.{Config}

-- ---- the mark of an exchange

found_if : (b : Bool) (x : Exchange) (m : Option Mark) (o : Option Exchange) → m ≡ option_map mark_of o →
    (if b then Some (mark_of x) else m) ≡ option_map mark_of (if b then Some x else o)
found_if true x m o e = refl
found_if false x m o e = e

mark_found : (xs : List Exchange) (e : ℕ) → find (λ m. m.number == e) (map mark_of xs)
    ≡ option_map mark_of (find (λ x. x.number == e) xs)
mark_found [] e = refl
mark_found (x ∷ xs) e = found_if (x.number == e) x _ (find (λ y. y.number == e) xs) (mark_found xs e)

pub mark_told : (peers : List PeerValue) (marks : List Mark) (w : World) (e : ℕ) → Hears peers marks w →
    mark_in marks e ≡ option_map mark_of (exchange w e)
mark_told peers marks w e h = ap (find (λ m. m.number == e)) h.kept ∙ mark_found w.opened e

-- ---- the refusals

some_kept : (o : Option Score) → is_some (option_map kept_of o) ≡ is_some o
some_kept None = refl
some_kept (Some b) = refl

none_kept : (o : Option Score) → is_none (option_map kept_of o) ≡ is_none o
none_kept None = refl
none_kept (Some b) = refl

-- the rows of what arrived come before that of the marks of the device
told_or : (a b c d : Bool) → (if a then Some BadIndex else (if b then Some Answered
    else (if c then Some Arrived else (if d then Some Marked else None))))
    ≡ option_or (if a then Some BadIndex else (if b then Some Answered else
    (if c then Some Arrived else None)))
    (if d then Some Marked else None)
told_or true b c d = refl
told_or false true c d = refl
told_or false false true d = refl
told_or false false false d = refl

told_same : (x : Exchange) (i count : ℕ) → count ≡ transmissions x.content →
    (if nat_le (transmissions x.content) i then Some BadIndex
    else (if is_some x.answer then Some Answered else (if has x.arrived i then Some Arrived else None)))
    ≡ told_refusal (Some (mark_of x)) count i
told_same x i count h =
    ap (λ (n : ℕ). if nat_le n i then Some BadIndex
    else (if is_some x.answer then Some Answered else (if has x.arrived i then Some Arrived else None)))
    (sym h)
    ∙ ap (λ (b : Bool). if nat_le count i then Some BadIndex
    else (if b then Some Answered else (if has x.arrived i then Some Arrived else None)))
    (sym (some_kept x.answer))

-- the rows of an Arrive, and of an Unsent, which differ only in the test of the last one
told_rows : (o : Option Exchange) (p : Exchange → Bool) (i count : ℕ) →
    IfSome o (λ x. count ≡ transmissions x.content) →
    first_refusal (
    (is_none o, NoExchange) ∷ (exchange_has o (λ x. nat_le (transmissions x.content) i), BadIndex)
    ∷ (exchange_has o (λ x. is_some x.answer), Answered) ∷
    (exchange_has o (λ x. has x.arrived i), Arrived) ∷ (exchange_has o p, Marked) ∷ [])
    ≡ option_or (told_refusal (option_map mark_of o) count i) (if exchange_has o p then Some Marked else None)
unfolding first_refusal
told_rows None p i count h = refl
told_rows (Some x) p i count h =
    told_or (nat_le (transmissions x.content) i) (is_some x.answer) (has x.arrived i) (p x)
    ∙ ap (λ (o : Option Refusal). option_or o (if p x then Some Marked else None)) (told_same x i count h)

pub arrive_told : (peers : List PeerValue) (marks : List Mark) (w : World) (e i count : ℕ) →
    Hears peers marks w →
    IfSome (exchange w e) (λ x. count ≡ transmissions x.content) →
    refusal w (Asked (Arrive e i)) ≡ arrive_refusal (mark_in marks e) count i
    (exchange_has (exchange w e) (λ x. has x.unsent i))
arrive_told peers marks w e i count h n =
    told_rows (exchange w e) (λ x. has x.unsent i) i count n
    ∙ ap (λ (m : Option Mark). arrive_refusal m count i (exchange_has (exchange w e) (λ x. has x.unsent i)))
    (sym (mark_told peers marks w e h))

pub unsent_told : (peers : List PeerValue) (marks : List Mark) (w : World) (e i count : ℕ) (r : Refusal) →
    Hears peers marks w →
    IfSome (exchange w e) (λ x. count ≡ transmissions x.content) →
    told_refusal (mark_in marks e) count i ≡ Some r → refusal w (Asked (Unsent e i)) ≡ Some r
unsent_told peers marks w e i count r h n is =
    told_rows (exchange w e) (λ x. is_marked x i) i count n
    ∙ ap (λ (o : Option Refusal). option_or o
    (if exchange_has (exchange w e) (λ x. is_marked x i) then Some Marked else None))
    (ap (λ (m : Option Mark). told_refusal m count i) (sym (mark_told peers marks w e h)) ∙ is)

no_score : (o : Option Score) → is_some (option_map kept_of o) ≡ false → o ≡ None
no_score None h = refl
no_score (Some b) h = absurd (cc h)

last_two : (a b c : Bool) → (if a then Some BadIndex else (if b then Some Answered
    else (if c then Some Arrived else None))) ≡ None → (b ≡ false) × (c ≡ false)
last_two true b c h = absurd (cc h)
last_two false true c h = absurd (cc h)
last_two false false true h = absurd (cc h)
last_two false false false h = (refl, refl)

untold_by : (o : Option Exchange) (i count : ℕ) → told_refusal (option_map mark_of o) count i ≡ None →
    IfSome o (λ x. (x.answer ≡ None) × (has x.arrived i ≡ false))
untold_by None i count h = tt
untold_by (Some x) i count h =
    let two = last_two (nat_le count i) (is_some (option_map kept_of x.answer)) (has x.arrived i) h in
    (no_score x.answer two.0, two.1)

pub untold_told : (peers : List PeerValue) (marks : List Mark) (w : World) (e i count : ℕ) →
    Hears peers marks w → told_refusal (mark_in marks e) count i ≡ None → IsUntoldOf w e i
untold_told peers marks w e i count h none = untold_by (exchange w e) i count
    (ap (λ (m : Option Mark). told_refusal m count i) (sym (mark_told peers marks w e h)) ∙ none)

answer_rows : (o : Option Exchange) →
    first_refusal ((is_none o, NoExchange) ∷ (exchange_has o (λ x. is_some x.answer), Answered)
    ∷ (exchange_has o (λ x. x.batch || (length x.arrived == 0)), Nothing) ∷ [])
    ≡ answer_refusal (option_map mark_of o) (is_batch o)
unfolding first_refusal
answer_rows None = refl
answer_rows (Some x) = ap (λ (b : Bool). if b then Some Answered
    else (if x.batch || (length x.arrived == 0) then Some Nothing else None)) (sym (some_kept x.answer))

pub answer_inferred : (peers : List PeerValue) (marks : List Mark) (w : World) (e : ℕ) → Hears peers marks w →
    refusal w (Asked (Answer e)) ≡ answer_refusal (mark_in marks e) (is_batch (exchange w e))
answer_inferred peers marks w e h = answer_rows (exchange w e)
    ∙ ap (λ (m : Option Mark). answer_refusal m (is_batch (exchange w e))) (sym (mark_told peers marks w e h))

done_rows : (o : Option Exchange) (config : Config) (heard : Bool) (air : Option ℕ) →
    first_refusal ((is_none o, NoExchange)
    ∷ (heard && exchange_has o (λ x. not x.batch && is_none x.answer), NoAnswer)
    ∷ (is_bad_air config air, BadAir) ∷ [])
    ≡ done_refusal config (option_map mark_of o) (is_batch o) heard air
unfolding first_refusal
done_rows None config heard air = refl
done_rows (Some x) config heard air = ap (λ (b : Bool). if heard && (not x.batch && b) then Some NoAnswer
    else (if is_bad_air config air then Some BadAir else None)) (sym (none_kept x.answer))

pub done_inferred : (peers : List PeerValue) (marks : List Mark) (w : World) (e : ℕ) (heard : Bool)
    (air : Option ℕ) → Hears peers marks w →
    refusal w (Asked (Done e heard air))
    ≡ done_refusal w.config (mark_in marks e) (is_batch (exchange w e)) heard air
done_inferred peers marks w e heard air h = done_rows (exchange w e) w.config heard air
    ∙ ap (λ (m : Option Mark). done_refusal w.config m (is_batch (exchange w e)) heard air)
    (sym (mark_told peers marks w e h))

-- ---- replies

never_open : (o : Option Exchange) (w : World) (f : Exchange → Outcome) (r : Refusal) →
    ((x : Exchange) → (f x).reply ≡ Refused r → ⊥) →
    (outcome_where_open w o f).reply ≡ Refused r → ⊥
unfolding outcome_where_open
never_open None w f r k h = cc h
never_open (Some x) w f r k h = k x h

never_sent : (o : Option ℕ) (w : World) (c : Class) (r : Refusal) →
    (pull_outcome_for w c o).reply ≡ Refused r → ⊥
unfolding pull_outcome_for send_outcome
never_sent None w c r h = cc h
never_sent (Some s) w c r h = cc h

never_pulled : (w : World) (c : Class) (l : Limits) (r : Refusal) → (pull_outcome w c l).reply ≡ Refused r → ⊥
unfolding pull_outcome
never_pulled w c l r h = never_sent (picked_station w c).winner (picked_world w c l) c r h

never_reaped : (ids : List ℕ) (w : World) (r : Refusal) → (reap_outcome w ids).reply ≡ Refused r → ⊥
unfolding reap_outcome
never_reaped [] w r h = cc h
never_reaped (id ∷ ids) w r h = cc h

never_answered : (plain : Bool) (b : Score) (wide : Bool) (r : Refusal) →
    answer_reply plain b wide ≡ Refused r → ⊥
never_answered true b wide r h = cc h
never_answered false b wide r h = cc h

never_refused : (note : Note) (w : World) (r : Refusal) → (outcome_of w note).reply ≡ Refused r → ⊥
unfolding outcome_of enqueue_outcome join_outcome leave_outcome rate_outcome tick_outcome arrive_outcome
    answer_outcome done_outcome sleep_outcome wake_outcome poll_outcome rx_outcome unsent_outcome
    give_up_outcome flush_outcome offload_outcome weight_outcome plain_outcome hold_outcome begin_outcome
    free_outcome cease_outcome
never_refused (Enqueue s t flow len) w r h = cc h
never_refused (Asked (Join s window start exponent weight)) w r h = cc h
never_refused (Asked (Leave s)) w r h = cc h
never_refused (Asked (Rate s rate)) w r h = cc h
never_refused (Asked (Tick by)) w r h = cc h
never_refused (Asked (Pull c l)) w r h = never_pulled w c l r h
never_refused (Asked (Arrive e n)) w r h = never_open (exchange w e) w _ r (λ x k. cc k) h
never_refused (Asked (Answer e)) w r h = never_open (exchange w e) w _ r
    (λ x k. never_answered x.plain (score (receiver w x.station x.tid)) (is_wide w x.station x.tid) r k) h
never_refused (Asked (Done e heard air)) w r h = never_open (exchange w e) w _ r (λ x k. cc k) h
never_refused (Asked (Sleep s)) w r h = cc h
never_refused (Asked (Wake s)) w r h = cc h
never_refused (Asked (Poll s)) w r h = cc h
never_refused (Asked (Rx s c air)) w r h = cc h
never_refused (Asked Reap) w r h = never_reaped w.finished w r h
never_refused (Asked (Ampdu s octets)) w r h = cc h
never_refused (Asked (Stop s)) w r h = cc h
never_refused (Asked (Start s)) w r h = cc h
never_refused (Asked (Unsent e n)) w r h = never_open (exchange w e) w _ r (λ x k. cc k) h
never_refused (Asked (GiveUp e n)) w r h = never_open (exchange w e) w _ r (λ x k. cc k) h
never_refused (Asked (Flush s t)) w r h = cc h
never_refused (Asked (Offload s exponent weight)) w r h = cc h
never_refused (Asked (Weight s weight)) w r h = cc h
never_refused (Asked (Plain s start exponent weight)) w r h = cc h
never_refused (Asked (Hold s t)) w r h = cc h
never_refused (Asked (Begin s t window)) w r h = cc h
never_refused (Asked (Free s t)) w r h = cc h
never_refused (Asked (Cease s t)) w r h = cc h
never_refused (Asked (Group ask)) w r h = cc h
never_refused (Asked (Service ask)) w r h = cc h
never_refused (Asked (Bss s b)) w r h = cc h

judged_refused : (o : Option Refusal) (w : World) (note : Note) (r : Refusal) →
    (judged_outcome w note o).reply ≡ Refused r → o ≡ Some r
unfolding judged_outcome
judged_refused (Some q) w note r h = cc h
judged_refused None w note r h = absurd (never_refused note w r h)

pub reply_refused : (w : World) (note : Note) (r : Refusal) → (step w note).reply ≡ Refused r →
    refusal w note ≡ Some r
unfolding step
reply_refused w note r h = judged_refused (refusal w note) w note r h

pub refused_reply : (w : World) (note : Note) (r : Refusal) → refusal w note ≡ Some r →
    (step w note).reply ≡ Refused r
unfolding step judged_outcome
refused_reply w note r e = ap (λ (o : Option Refusal). (judged_outcome w note o).reply) e
