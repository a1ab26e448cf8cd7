-- Proves that a kept answer shows the same numbers of its exchange as the answer. No offset is past the
-- window, so a BlockAck with 64 or 256 bits has them all.
use Rattle.std.proofs.Common.{◌≡◌, refl, ap, sym, ◌∙◌, subst, arith, ℕ, ◌+◌, ◌-◌, ◌*◌, ◌%◌, ◌<◌, ◌≤◌, ◌==◌, nat_le, nat_lt, Bool, true, false, not, ◌&&◌, ◌||◌, inl, inr, List, [], ◌∷◌, ◌++◌, map, filter, Option, Some, None, IfSome, option_map, if◌then◌else◌}
use Rattle.wf_frame.specs.declared.classes.Class.{Class}
use Rattle.wf_frame.specs.declared.notes.Ask.TheVariants.{Join, Leave, Rate, Tick, Pull, Arrive, Answer, Done, Sleep, Wake, Poll, Rx, Reap, Ampdu, Stop, Start, Unsent, GiveUp, Flush, Offload, Weight, Plain, Hold, Begin, Free, Cease, Group, Service, Bss}
use Rattle.wf_frame.specs.declared.notes.Limits.{Limits}
use Rattle.wf_frame.specs.declared.notes.Note.{Note}
use Rattle.wf_frame.specs.declared.notes.Note.TheVariants.{Enqueue, Asked}
use Rattle.wf_frame.specs.declared.notes.Refusal.{Refusal}
use Rattle.wf_def_lists.specs.Table.{has, with_member}
use Rattle.wf_def_agreement.specs.Receiver.{Receiver, Score, score, score_start, shows}
use Rattle.wf_def_agreement.specs.Session.{Session}
use Rattle.wf_law_rules.proofs.Lemmas.Numbers.{on_bool, eq_yes, lt_yes, le_yes, yes_le, yes_lt, either, both}
use Rattle.wf_def_world.specs.World.{World, Exchange, Mpdu, session, receiver, exchange, is_live, is_wide, with_station, with_exchange, without_exchange, opening}
use Rattle.wf_def_world.specs.Exchanges.{mpdus_of, numbers_unsent, picked_station, sending_tid, Prepared, exchange_of, with_exchange_opened}
use Rattle.wf_def_world.specs.Refusals.{refusals, refusal}
use Rattle.wf_def_world.specs.Run.{Entry, world_after}
use Rattle.wf_def_world.specs.Step.{Outcome, join_outcome, offload_outcome, plain_outcome, send_outcome, pull_outcome_for, pull_outcome, answer_outcome, unsent_outcome, give_up_outcome, done_outcome, outcome_where_open, outcome_of, concerned_station, step}
use Rattle.wf_law_runs.specs.Kept.{is_agreement_of}
use Rattle.wf_law_runs.specs.Windows.{EachMpdu}
use Rattle.wf_law_runs.proofs.Common.Picked.{picked_world}
use Rattle.wf_law_runs.proofs.Kept.Law.{kept_step}
use Rattle.wf_law_runs.proofs.Windows.Sides.{opened_begun, opened_ceased, Same, same_listed, same_picked, same_after_turn, same_spent}
use Rattle.wf_law_runs.proofs.Windows.Opened.{no_row, Each, each_map, each_both, each_append, each_filter, each_find}
use Rattle.wf_law_runs.proofs.Windows.Agreed.{IsLawful, IsOpenIn, none_of_tid, each_map_if, lawful_same, lawful_step, lawful_at_first}
use Rattle.wf_law_runs.proofs.Frames.Delivered.{IsPrepared, opened_ended}
use Rattle.wf_law_runs.proofs.Releases.Kept.{opened_flushed}
use Rattle.wf_law_runs.proofs.Releases.Released.{refused_kept}
use Rattle.wf_law_driver.proofs.Opened.{step_done, some_at}
use Rattle.wf_law_driver.proofs.Indices.{each_mpdu}
use Rattle.wf_octets.specs.Distance.{distance}
use Rattle.wf_send_half.specs.Bits.{span_of, is_shown, AreShown}
use Rattle.wf_send_half_model.specs.Standing.{IsReached}
use Rattle.wf_cell_model.specs.Hearing.{kept_of, mark_of, Hears}
use Rattle.wf_cell_model.specs.Answers.{KeepsShown}
use Rattle.wf_cell_model.specs.Refusing.{mark_in}
use Rattle.wf_cell_model.proofs.Telling.{mark_told}
use Rattle.wf_recv_marks.specs.declared.marks.Mark.{Mark}
use Rattle.wf_recv_peer.specs.Agreements.{PeerValue}
use Rattle.wf_cell_model.proofs.Keeping.{IsLeft, left_quiet, left_refused, refused_world}
use Rattle.wf_cell_model.proofs.Opening.{picked_live, ready_sent}
use Rattle.wf_cell_model.proofs.Arriving.{arrived_opened}
use Rattle.wf_cell_model.proofs.Sent.{open_now, right_now, ranges_now, tid_now}

-- ---- the offsets of a score

-- all of these are below w
AreBelow : ℕ → List ℕ → Type 0
AreBelow w xs = (d : ℕ) → has xs d ≡ true → d < w

below_or : (x w d : ℕ) (xs : List ℕ) → x < w → AreBelow w xs → ((x == d) || has xs d) ≡ true → d < w
unfolding AreBelow
below_or x w d xs low rest h = elim (either (x == d) (has xs d) h) [
  | inl here ↦
      omega (arith, eq_yes x d here, low)
  | inr there ↦ rest d there
]

below_more : (x w : ℕ) (xs : List ℕ) → x < w → AreBelow w xs → AreBelow w (x ∷ xs)
unfolding AreBelow
below_more x w xs low rest d h = below_or x w d xs low rest h

below_if : (b : Bool) (x s w : ℕ) (xs : List ℕ) → (b ≡ true → x - s < w) → AreBelow w (map (λ n. n - s) xs) →
    AreBelow w (map (λ n. n - s) (if b then x ∷ xs else xs))
below_if true x s w xs low rest = below_more (x - s) w _ (low refl) rest
below_if false x s w xs low rest = rest

near : (x s w : ℕ) → (nat_le s x && nat_lt x (s + w)) ≡ true → x - s < w
near x s w h =
    let p = both (nat_le s x) (nat_lt x (s + w)) h in
    omega (arith, le_yes s x p.0, lt_yes x (s + w) p.1)

none_below : (w : ℕ) → AreBelow w []
unfolding AreBelow
none_below w d h = absurd (cc h)

offsets_below : (xs : List ℕ) (s w : ℕ) → AreBelow w
    (map (λ n. n - s) (filter (λ n. nat_le s n && nat_lt n (s + w)) xs))
offsets_below [] s w = none_below w
offsets_below (x ∷ xs) s w =
    below_if (nat_le s x && nat_lt x (s + w)) x s w (filter (λ n. nat_le s n && nat_lt n (s + w)) xs)
    (near x s w) (offsets_below xs s w)

score_below : (r : Receiver) → AreBelow r.size (score r).offsets
score_below r = offsets_below r.arrived (score_start r) r.size

-- ---- kept answers

-- An exchange's answer, if it has one, has no offset past its window, and its station is live.
KeepsBelow : World → Exchange → Type 0
KeepsBelow w x = IfSome x.answer (λ b. (is_live w x.station ≡ true) ×
    AreBelow (session w x.station x.tid).size b.offsets)

below_none : (w : World) (x : Exchange) → x.answer ≡ None → KeepsBelow w x
unfolding KeepsBelow
below_none w x none =
    subst (λ (o : Option Score). IfSome o (λ b. (is_live w x.station ≡ true) ×
    AreBelow (session w x.station x.tid).size b.offsets)) (sym none) tt

below_arrived : (w : World) (x : Exchange) (i : ℕ) → KeepsBelow w x →
    KeepsBelow w (record x { arrived = with_member i x.arrived })
unfolding KeepsBelow
below_arrived w x i h = h

below_answered : (w : World) (x : Exchange) → IsLawful w → IsOpenIn w x →
    KeepsBelow w (record x { answer = Some (score (receiver w x.station x.tid)) })
unfolding KeepsBelow
below_answered w x i o = (
  o.live,
  subst (λ (n : ℕ). AreBelow n (score (receiver w x.station x.tid)).offsets)
      (i.agreed x.station x.tid).size (score_below (receiver w x.station x.tid)),
)

abbrev AllBelow : World → List Exchange → Type 0
AllBelow w xs = Each (KeepsBelow w) xs

-- ---- the open exchanges after a call, in the world before it

sent_below : (s t : ℕ) (c : Class) (u w : World) (p : Prepared) → IsPrepared s t w p → AllBelow u w.opened →
    AllBelow u (send_outcome s t c p).world.opened
unfolding send_outcome with_exchange_opened
sent_below s t c u w p r h =
    let x : Exchange = exchange_of s t c p in
    let v : World = record p.world { exchanges = p.world.exchanges + 1; opened = p.world.opened ++ x ∷ [] } in
    subst (AllBelow u) (sym (same_spent v x).opened)
    (each_append (KeepsBelow u) p.world.opened x (subst (AllBelow u) (sym r.opened) h)
    (below_none u x refl))

pulled_below : (o : Option ℕ) (u w : World) (c : Class) → IfSome o (λ s. is_live w s ≡ true) → IsLawful w →
    AllBelow u w.opened →
    AllBelow u (pull_outcome_for w c o).world.opened
unfolding pull_outcome_for
pulled_below None u w c live i h = h
pulled_below (Some s) u w c live i h =
    sent_below s _ c u _ _ (ready_sent w s c live i)
    (subst (AllBelow u) (sym (same_after_turn w s c (sending_tid w s c)).opened) h)

pull_below : (w : World) (c : Class) (l : Limits) → IsLawful w → AllBelow w w.opened →
    AllBelow w (pull_outcome w c l).world.opened
unfolding pull_outcome
pull_below w c l i h =
    let k : Same w (picked_world w c l) = same_picked w c l in
    pulled_below (picked_station w c).winner w (picked_world w c l) c (picked_live w c l)
    (lawful_same _ _ k i)
    (subst (AllBelow w) (sym k.opened) h)

replaced_below : (w : World) (z : Exchange) → KeepsBelow w z → AllBelow w w.opened →
    AllBelow w (map (λ y. if y.number == z.number then z else y) w.opened)
replaced_below w z own h = each_map_if (KeepsBelow w) (KeepsBelow w)
    (λ y. y.number == z.number) z w.opened own (λ y _ p. p) h

answered_below : (w : World) (x : Exchange) → IsLawful w → IsOpenIn w x → AllBelow w w.opened →
    AllBelow w (answer_outcome w x).world.opened
unfolding answer_outcome with_exchange
answered_below w x i o h = replaced_below w _ (below_answered w x i o) h

-- an exchange with other marks of the device, of which the answer stays
marked_below : (w : World) (z : Exchange) → KeepsBelow w z → AllBelow w w.opened →
    AllBelow w (with_exchange w z).opened
unfolding with_exchange
marked_below w z own h = replaced_below w z own h

ended_below : (w : World) (x : Exchange) (heard : Bool) (air : Option ℕ) → AllBelow w w.opened →
    AllBelow w (done_outcome w x heard air).world.opened
unfolding without_exchange
ended_below w x heard air h =
    subst (AllBelow w) (sym (opened_ended air w x heard))
    (each_filter (KeepsBelow w) (KeepsBelow w) (λ y. not (y.number == x.number)) w.opened (λ y _ p. p) h)

open_below : (P : Exchange → Type 0) (o : Option Exchange) (w : World) (f : Exchange → Outcome) → IfSome o P →
    AllBelow w w.opened →
    ((x : Exchange) → P x → AllBelow w (f x).world.opened) →
    AllBelow w (outcome_where_open w o f).world.opened
unfolding outcome_where_open
open_below P None w f p h k = h
open_below P (Some x) w f p h k = k x p

-- an open exchange with both properties
record IsRead (w : World) (x : Exchange) : Type 0 where
  open_in : IsOpenIn w x
  below : KeepsBelow w x

read : (w : World) → IsLawful w → AllBelow w w.opened → (e : ℕ) → IfSome (exchange w e) (IsRead w)
read w i h e =
    each_find (IsRead w) (IsRead w) (λ x. x.number == e) w.opened (λ x _ f. f)
    (each_both (IsOpenIn w) (KeepsBelow w) (IsRead w) w.opened
    (λ x o b. record { open_in = o; below = b }) i.opened h)

left_below : (w v : World) → IsLeft w v → AllBelow w w.opened → AllBelow w v.opened
left_below w v k h = subst (AllBelow w) (sym k.opened) h

done_below : (note : Note) (w : World) → IsLawful w → AllBelow w w.opened →
    AllBelow w (outcome_of w note).world.opened
unfolding outcome_of unsent_outcome give_up_outcome join_outcome offload_outcome plain_outcome with_station
    KeepsBelow
done_below (Asked (Join s window start exponent weight)) w i h = h
done_below (Asked (Offload s exponent weight)) w i h = h
done_below (Asked (Plain s start exponent weight)) w i h = h
done_below (Asked (Pull c l)) w i h = pull_below w c l i h
done_below (Asked (Arrive e n)) w i h =
    open_below (IsRead w) (exchange w e) w _ (read w i h e) h
    (λ x f. subst (AllBelow w) (sym (arrived_opened w x n))
    (replaced_below w _ (below_arrived w x n f.below) h))
done_below (Asked (Answer e)) w i h = open_below (IsRead w) (exchange w e) w _ (read w i h e) h
    (λ x f. answered_below w x i f.open_in h)
done_below (Asked (Done e heard air)) w i h = open_below (IsRead w) (exchange w e) w _ (read w i h e) h
    (λ x f. ended_below w x heard air h)
done_below (Enqueue s t flow len) w i h = left_below w _ (left_quiet (Enqueue s t flow len) w tt) h
done_below (Asked (Leave s)) w i h = left_below w _ (left_quiet (Asked (Leave s)) w tt) h
done_below (Asked (Rate s rate)) w i h =
    left_below w _ (left_quiet (Asked (Rate s rate)) w tt) h
done_below (Asked (Tick by)) w i h = left_below w _ (left_quiet (Asked (Tick by)) w tt) h
done_below (Asked (Sleep s)) w i h = left_below w _ (left_quiet (Asked (Sleep s)) w tt) h
done_below (Asked (Wake s)) w i h = left_below w _ (left_quiet (Asked (Wake s)) w tt) h
done_below (Asked (Poll s)) w i h = left_below w _ (left_quiet (Asked (Poll s)) w tt) h
done_below (Asked (Rx s c air)) w i h = left_below w _ (left_quiet (Asked (Rx s c air)) w tt) h
done_below (Asked Reap) w i h = left_below w _ (left_quiet (Asked Reap) w tt) h
done_below (Asked (Ampdu s octets)) w i h = left_below w _ (left_quiet (Asked (Ampdu s octets)) w tt) h
done_below (Asked (Stop s)) w i h = left_below w _ (left_quiet (Asked (Stop s)) w tt) h
done_below (Asked (Start s)) w i h = left_below w _ (left_quiet (Asked (Start s)) w tt) h
done_below (Asked (Unsent e n)) w i h = open_below (IsRead w) (exchange w e) w _ (read w i h e) h
    (λ x f. marked_below w (record x { unsent = with_member n x.unsent }) f.below h)
done_below (Asked (GiveUp e n)) w i h = open_below (IsRead w) (exchange w e) w _ (read w i h e) h
    (λ x f. marked_below w (record x { given_up = with_member n x.given_up }) f.below h)
done_below (Asked (Flush s t)) w i h = subst (AllBelow w) (sym (opened_flushed w s t)) h
done_below (Asked (Weight s weight)) w i h =
    left_below w _ (left_quiet (Asked (Weight s weight)) w tt) h
done_below (Asked (Hold s t)) w i h = left_below w _ (left_quiet (Asked (Hold s t)) w tt) h
done_below (Asked (Begin s t window)) w i h = subst (AllBelow w) (sym (opened_begun w s t window)) h
done_below (Asked (Free s t)) w i h = left_below w _ (left_quiet (Asked (Free s t)) w tt) h
done_below (Asked (Cease s t)) w i h = subst (AllBelow w) (sym (opened_ceased w s t)) h
done_below (Asked (Group ask)) w i h = left_below w _ (left_quiet (Asked (Group ask)) w tt) h
done_below (Asked (Service ask)) w i h = left_below w _ (left_quiet (Asked (Service ask)) w tt) h
done_below (Asked (Bss s b)) w i h = left_below w _ (left_quiet (Asked (Bss s b)) w tt) h

judged_below : (w : World) (note : Note) (o : Option Refusal) → refusal w note ≡ o → IsLawful w →
    AllBelow w w.opened → AllBelow w (step w note).world.opened
judged_below w note (Some r) e i h = subst (λ (v : World). AllBelow w v.opened)
    (sym (refused_world w note r e)) (left_below w _ (left_refused note r w) h)
judged_below w note None e i h =
    subst (λ (v : World). AllBelow w v.opened) (sym (step_done w note e))
    (subst (AllBelow w) (sym (same_listed (concerned_station w note) (outcome_of w note).world).opened)
    (done_below note w i h))

-- ---- the open exchanges after a call, in the world after it

-- the window of an exchange's TID is as before, if its station stays
abbrev KeepsSize : World → World → Exchange → Type 0
KeepsSize w v x = is_live w x.station ≡ true → is_live v x.station ≡ true →
    (session v x.station x.tid).size ≡ (session w x.station x.tid).size

-- a call that asks for the begin or the end of an agreement asks it of a TID without this exchange
abbrev IsElsewhere : Note → Exchange → Type 0
IsElsewhere note x = is_agreement_of x.station x.tid note ≡ false

each_always : (P : Exchange → Type 0) (xs : List Exchange) → ((x : Exchange) → P x) → Each P xs
each_always P [] h = tt
each_always P (x ∷ xs) h = (h x, each_always P xs h)

not_both : (s t i j : ℕ) → (s ≡ i → t ≡ j → ⊥) → ((s == i) && (t == j)) ≡ false
not_both s t i j apart = on_bool ((s == i) && (t == j))
    (λ h. let p = both (s == i) (t == j) h in absurd (apart (eq_yes s i p.0) (eq_yes t j p.1))) (λ h. h)

-- An agreement begins and ends only while no exchange of its TID is open.
each_elsewhere : (note : Note) (w : World) → refusal w note ≡ None →
    Each (IsElsewhere note) (outcome_of w note).world.opened
unfolding outcome_of
each_elsewhere (Asked (Begin s t window)) w fine =
    subst (Each (IsElsewhere (Asked (Begin s t window)))) (sym (opened_begun w s t window))
    (each_map (λ x. s ≡ x.station → t ≡ x.tid → ⊥) (IsElsewhere (Asked (Begin s t window))) w.opened
    (λ x apart. not_both s t x.station x.tid apart)
    (none_of_tid s t w.opened (no_row (refusals w (Asked (Begin s t window))) fine).1.1.1.1.1.0))
each_elsewhere (Asked (Cease s t)) w fine =
    subst (Each (IsElsewhere (Asked (Cease s t)))) (sym (opened_ceased w s t))
    (each_map (λ x. s ≡ x.station → t ≡ x.tid → ⊥) (IsElsewhere (Asked (Cease s t))) w.opened
    (λ x apart. not_both s t x.station x.tid apart)
    (none_of_tid s t w.opened (no_row (refusals w (Asked (Cease s t))) fine).1.1.1.1.0))
each_elsewhere note w fine = each_always (IsElsewhere note) (outcome_of w note).world.opened (λ x. refl)

sizes_kept : (w : World) (note : Note) (o : Option Refusal) → refusal w note ≡ o → IsLawful w →
    Each (KeepsSize w (step w note).world) (step w note).world.opened
sizes_kept w note (Some r) e i = each_always _ _ (λ x _ _.
    ap (λ (u : World). (session u x.station x.tid).size) (refused_world w note r e)
    ∙ (refused_kept note r w).sizes x.station x.tid)
sizes_kept w note None e i =
    let u : World = (outcome_of w note).world in
    let opened : (step w note).world.opened ≡ u.opened = ap (λ (z : World). z.opened) (step_done w note e)
    ∙ (same_listed (concerned_station w note) u).opened in
    each_map (IsElsewhere note) (KeepsSize w (step w note).world) (step w note).world.opened
    (λ x apart live now. (kept_step w note i).windows x.station x.tid live now apart)
    (subst (Each (IsElsewhere note)) (sym opened) (each_elsewhere note w e))

-- an exchange that is open after a call, in the world after it
record IsStill (w v : World) (x : Exchange) : Type 0 where
  live : is_live v x.station ≡ true
  size : KeepsSize w v x

still_below : (w v : World) (x : Exchange) → IsStill w v x → KeepsBelow w x → KeepsBelow v x
unfolding KeepsBelow
still_below w v x still h = go x.answer h
  where
    go : (o : Option Score) → IfSome o (λ b. (is_live w x.station ≡ true) ×
        AreBelow (session w x.station x.tid).size b.offsets) →
        IfSome o (λ b. (is_live v x.station ≡ true) × AreBelow (session v x.station x.tid).size b.offsets)
    go None h = tt
    go (Some b) h = (
      still.live,
      subst (λ (n : ℕ). AreBelow n b.offsets) (sym (still.size h.0 still.live)) h.1,
    )

step_below : (w : World) (note : Note) → IsLawful w → AllBelow w w.opened →
    AllBelow (step w note).world (step w note).world.opened
step_below w note i h =
    let v : World = (step w note).world in
    each_both (KeepsBelow w) (IsStill w v) (KeepsBelow v) v.opened (λ x b still. still_below w v x still b)
    (judged_below w note (refusal w note) refl i h)
    (each_both (IsOpenIn v) (KeepsSize w v) (IsStill w v) v.opened
    (λ x o size. record { live = o.live; size = size }) (lawful_step w note i).opened
    (sizes_kept w note (refusal w note) refl i))

run_below : (es : List Entry) (w : World) → IsLawful w → AllBelow w w.opened →
    AllBelow (world_after w es) (world_after w es).opened
unfolding world_after
run_below [] w i h = h
run_below (e ∷ es) w i h = run_below es (step w e.1).world (lawful_step w e.1 i) (step_below w e.1 i h)

below_now : (w : World) → IsReached w → AllBelow w w.opened
below_now w r = subst (λ (u : World). AllBelow u u.opened) (sym r.after)
    (run_below r.history (opening w.config) (lawful_at_first w.config) tt)

-- ---- the numbers that it shows

pub sized_now : (w : World) → IsReached w → (x : Exchange) → x.tid < 8 → is_live w x.station ≡ true →
    (1 ≤ (session w x.station x.tid).size) × ((session w x.station x.tid).size ≤ 256)
sized_now w reached x low live = ((ranges_now w reached).stations x.station live).window x.tid low

same_distance : (n b : ℕ) → b ≤ n → n < b + 512 → distance n (b % 4096) ≡ n - b
same_distance n b low high = omega arith

pub spans : (size d : ℕ) → size ≤ 256 → d < size → d < span_of (nat_lt 64 size)
spans size d most low = on_bool (nat_lt 64 size)
    (λ yes. subst (λ (k : Bool). d < span_of k) (sym yes) (omega (arith, most, low)))
    (λ no. subst (λ (k : Bool). d < span_of k) (sym no) (omega (arith, narrow no, low)))
  where
    narrow : nat_lt 64 size ≡ false → size ≤ 64
    narrow h = grind arith

shown_if : (there : Bool) (size d : ℕ) → (there ≡ true → d < size) → size ≤ 256 →
    there ≡ (nat_lt d (span_of (nat_lt 64 size)) && there)
shown_if true size d low most = sym (ap (λ (k : Bool). k && true)
    (yes_lt d (span_of (nat_lt 64 size)) (spans size d most (low refl))))
shown_if false size d low most = no_more (nat_lt d (span_of (nat_lt 64 size)))
  where
    no_more : (k : Bool) → false ≡ (k && false)
    no_more true = refl
    no_more false = refl

number_shown : (b : Score) (n size : ℕ) → b.start ≤ n → n < b.start + 2 * size → size ≤ 256 →
    AreBelow size b.offsets →
    shows b n ≡ is_shown (nat_lt 64 size) (Some (kept_of b)) n
unfolding AreBelow
number_shown b n size low high most below =
    ap (λ (k : Bool). k && has b.offsets (n - b.start)) (yes_le b.start n low)
    ∙ (shown_if (has b.offsets (n - b.start)) size (n - b.start) (below (n - b.start)) most
    ∙ ap (λ (d : ℕ). nat_lt d (span_of (nat_lt 64 size)) && has b.offsets d)
    (sym (same_distance n b.start low (omega (arith, high, most)))))

-- what the window law says of one number of an exchange that keeps the answer b
abbrev IsRightAt : Session → Receiver → Score → Mpdu → Type 0
IsRightAt y r b m = (shows b m.number ≡ has r.arrived m.number) × (b.start ≤ m.number) ×
    (m.number < b.start + 2 * y.size)

pub kept_shown : (w : World) (e : ℕ) (x : Exchange) (b : Score) → IsReached w → exchange w e ≡ Some x →
    x.answer ≡ Some b →
    AreShown w x b (Some (kept_of b))
unfolding KeepsBelow
kept_shown w e x b reached known kept =
    let y : Session = session w x.station x.tid in
    let r : Receiver = receiver w x.station x.tid in
    let numbers : List Mpdu = mpdus_of x.content in
    let most : y.size ≤ 256 = (sized_now w reached x (tid_now w reached e x known)
    (open_now w reached e x known).live).1 in
    let all : IfSome (exchange w e) (KeepsBelow w) =
    each_find (KeepsBelow w) (KeepsBelow w) (λ z. z.number == e) w.opened (λ z _ p. p)
    (below_now w reached) in
    let small : (is_live w x.station ≡ true) × AreBelow y.size b.offsets =
    subst (λ (o : Option Score). IfSome o (λ k. (is_live w x.station ≡ true) × AreBelow y.size k.offsets))
    kept (some_at (KeepsBelow w) (exchange w e) x known all) in
    let right : EachMpdu (IsRightAt y r b) numbers =
    subst (λ (o : Option Score). IfSome o (λ k. EachMpdu (IsRightAt y r k) numbers)) kept
    (right_now w reached e x known).answer in
    each_mpdu (IsRightAt y r b) (λ m. has (numbers_unsent x) m.number ≡ false → shows b m.number
    ≡ is_shown (is_wide w x.station x.tid) (Some (kept_of b)) m.number) numbers
    (λ m h sent. number_shown b m.number y.size h.1 h.2 most small.1) right

-- ---- by the mark

kept_some : (o : Option Score) (kept : ℕ × List ℕ) → option_map kept_of o ≡ Some kept → (b : Score) ×
    (o ≡ Some b) × (kept_of b ≡ kept)
kept_some None kept h = absurd (cc h)
kept_some (Some b) kept h = (b, refl, cc h)

marked_some : (o : Option Exchange) (m : Mark) (kept : ℕ × List ℕ) → option_map mark_of o ≡ Some m →
    m.answer ≡ Some kept →
    (x : Exchange) × (o ≡ Some x) × (option_map kept_of x.answer ≡ Some kept)
marked_some None m kept h k = absurd (cc h)
marked_some (Some x) m kept h k =
    let same : mark_of x ≡ m = cc h in
    (x, refl, ap (λ (n : Mark). n.answer) same ∙ k)

pub mark_shown : (peers : List PeerValue) (marks : List Mark) (w : World) (e : ℕ) (m : Mark)
    (kept : ℕ × List ℕ) → IsReached w → Hears peers marks w →
    mark_in marks e ≡ Some m → m.answer ≡ Some kept → KeepsShown w e kept
mark_shown peers marks w e m kept reached h found answer =
    let at_x = marked_some (exchange w e) m kept (sym (mark_told peers marks w e h) ∙ found) answer in
    let x : Exchange = at_x.0 in
    let at_b = kept_some x.answer kept at_x.2 in
    let b : Score = at_b.0 in
    record {
      open_now = x;
      answer = b;
      found = at_x.1;
      is = at_b.1;
      shown = subst (λ (k : ℕ × List ℕ). AreShown w x b (Some k)) at_b.2
          (kept_shown w e x b reached at_x.1 at_b.1);
    }
