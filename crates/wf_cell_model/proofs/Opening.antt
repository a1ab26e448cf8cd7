-- Proves the effect of a Pull on the marks. The exchange that it opens has a new mark.
use Rattle.std.proofs.Common.{◌≡◌, refl, ap, ap₂, sym, ◌∙◌, subst, arith, ℕ, suc, ◌+◌, ◌<◌, ◌≤◌, Bool, true, false, cond, List, [], ◌∷◌, ◌++◌, map, length, Option, Some, None, IfSome, is_none}
use Rattle.std.specs.Prelude.{All, nat_le, count_by}
use Rattle.std.proofs.lemmas.List.{map-append, length-map}
use Rattle.std.proofs.lemmas.List.Sums.{sum_by-cons}
use Rattle.std.proofs.lemmas.List.Elements.{All-nil, All-cons}
use Rattle.wf_frame.specs.declared.classes.Class.{Class}
use Rattle.wf_frame.specs.declared.classes.Class.TheVariants.{Bk, Be, Vi, Vo}
use Rattle.wf_frame.specs.declared.notes.Ask.TheVariants.{Pull}
use Rattle.wf_frame.specs.declared.notes.Limits.{Limits}
use Rattle.wf_frame.specs.declared.notes.Note.TheVariants.{Asked}
use Rattle.wf_frame.specs.declared.notes.Part.{Part}
use Rattle.wf_frame.specs.declared.notes.Refusal.{Refusal}
use Rattle.wf_frame.specs.declared.notes.ReplyNote.TheVariants.{Send}
use Rattle.wf_frame.specs.Classes.{same_class}
use Rattle.wf_law_rules.proofs.Lemmas.Numbers.{le_no}
use Rattle.wf_def_world.specs.World.{World, Exchange, is_live, rotation}
use Rattle.wf_def_world.specs.CanSend.{is_ready}
use Rattle.wf_def_world.specs.Exchanges.{station_need, picked_station, sending_tid, after_tid_turn, Prepared, prepared_exchange, exchange_of, with_exchange_opened}
use Rattle.wf_def_world.specs.Refusals.{refusals, refusal, open_of_class}
use Rattle.wf_def_world.specs.Step.{send_outcome, pull_outcome_for, pull_outcome, outcome_of, judged_outcome, step}
use Rattle.wf_law_runs.specs.Windows.{OpenRises, KeepsWindows}
use Rattle.wf_law_runs.proofs.Common.Picked.{picked_world}
use Rattle.wf_law_runs.proofs.Deficits.Numbers.{number_law}
use Rattle.wf_law_runs.proofs.Windows.Law.{window_law}
use Rattle.wf_law_runs.proofs.Windows.Sides.{Same, same_picked, same_after_turn, same_spent}
use Rattle.wf_law_runs.proofs.Windows.Opened.{left_true, no_row, pick_ready, some_along}
use Rattle.wf_law_runs.proofs.Windows.Agreed.{IsLawful, lawful_same}
use Rattle.wf_law_runs.proofs.Frames.Delivered.{IsPrepared, prepared_right}
use Rattle.wf_law_runs.proofs.Releases.Kept.{keep_pulled}
use Rattle.wf_recv_marks.specs.declared.marks.Mark.{Mark}
use Rattle.wf_recv_marks.specs.Marks.{new_mark}
use Rattle.wf_recv_peer.specs.Agreements.{PeerValue}
use Rattle.wf_send_half_model.specs.Standing.{IsReached}
use Rattle.wf_send_half_model.proofs.Reached.{by_law}
use Rattle.wf_cell_model.specs.Hearing.{mark_of, Hears}
use Rattle.wf_cell_model.proofs.Keeping.{lawful_now, stays_kept, hears_outcome}
use Rattle.wf_cell_model.proofs.Receivers.{receivers_pulled}

-- ---- the exchange that opens

sent_marks : (s t : ℕ) (c : Class) (w : World) (p : Prepared) → IsPrepared s t w p →
    map mark_of (send_outcome s t c p).world.opened ≡ map mark_of w.opened ++ new_mark w.exchanges ∷ []
unfolding send_outcome with_exchange_opened
sent_marks s t c w p r =
    let x : Exchange = exchange_of s t c p in
    let v : World = record p.world { exchanges = p.world.exchanges + 1; opened = p.world.opened ++ x ∷ [] } in
    ap (map mark_of) (same_spent v x).opened
    ∙ (map-append mark_of p.world.opened (x ∷ [])
    ∙ ap₂ (λ (xs : List Exchange) (n : ℕ). map mark_of xs ++ new_mark n ∷ []) r.opened r.exchanges)

-- the exchange of a station that is picked
pub ready_sent : (w : World) (s : ℕ) (c : Class) → is_live w s ≡ true → IsLawful w →
    IsPrepared s (sending_tid w s c) (after_tid_turn w s c (sending_tid w s c))
    (prepared_exchange (after_tid_turn w s c (sending_tid w s c)) s (sending_tid w s c))
ready_sent w s c live i =
    let k : Same w (after_tid_turn w s c (sending_tid w s c)) = same_after_turn w s c (sending_tid w s c) in
    prepared_right _ s _ (lawful_same _ _ k i) (k.live s ∙ live)

pulled_marks : (o : Option ℕ) (w : World) (c : Class) → is_none o ≡ false →
    IfSome o (λ s. is_live w s ≡ true) → IsLawful w →
    map mark_of (pull_outcome_for w c o).world.opened ≡ map mark_of w.opened ++ new_mark w.exchanges ∷ []
unfolding pull_outcome_for
pulled_marks None w c some live i = absurd (cc some)
pulled_marks (Some s) w c some live i =
    let k : Same w (after_tid_turn w s c (sending_tid w s c)) = same_after_turn w s c (sending_tid w s c) in
    sent_marks s _ c _ _ (ready_sent w s c live i)
    ∙ ap₂ (λ (xs : List Exchange) (n : ℕ). map mark_of xs ++ new_mark n ∷ []) k.opened k.exchanges

pulled_number : (o : Option ℕ) (w : World) (c : Class) (e s t charge : ℕ) (part : Part) (more eosp : Bool) →
    IfSome o (λ s. is_live w s ≡ true) →
    IsLawful w → (pull_outcome_for w c o).reply ≡ Send e s t charge part more eosp → e ≡ w.exchanges
unfolding pull_outcome_for send_outcome
pulled_number None w c e s t charge part more eosp live i h = absurd (cc h)
pulled_number (Some a) w c e s t charge part more eosp live i h =
    let k : Same w (after_tid_turn w a c (sending_tid w a c)) = same_after_turn w a c (sending_tid w a c) in
    let it : (prepared_exchange (after_tid_turn w a c (sending_tid w a c)) a
    (sending_tid w a c)).world.exchanges ≡ e = cc h in
    sym it ∙ ((ready_sent w a c live i).exchanges ∙ k.exchanges)

pub picked_live : (w : World) (c : Class) (l : Limits) → IfSome (picked_station w c).winner
    (λ s. is_live (picked_world w c l) s ≡ true)
picked_live w c l =
    let k : Same w (picked_world w c l) = same_picked w c l in
    some_along (λ s. is_ready w c s ≡ true) (λ s. is_live (picked_world w c l) s ≡ true)
    (picked_station w c).winner
    (λ s h. k.live s ∙ left_true (is_live w s) _ h)
    (pick_ready (station_need w c) (is_ready w c) (rotation w c))

opened_marks : (w : World) (c : Class) (l : Limits) → IsLawful w →
    is_none (picked_station w c).winner ≡ false →
    map mark_of (pull_outcome w c l).world.opened ≡ map mark_of w.opened ++ new_mark w.exchanges ∷ []
unfolding pull_outcome
opened_marks w c l i some =
    let k : Same w (picked_world w c l) = same_picked w c l in
    pulled_marks (picked_station w c).winner (picked_world w c l) c some (picked_live w c l)
    (lawful_same _ _ k i)
    ∙ ap₂ (λ (xs : List Exchange) (n : ℕ). map mark_of xs ++ new_mark n ∷ []) k.opened k.exchanges

pub opened_hears : (peers : List PeerValue) (marks : List Mark) (w : World) (c : Class) (l : Limits) →
    IsReached w → Hears peers marks w →
    refusal w (Asked (Pull c l)) ≡ None → Hears peers (marks ++ new_mark w.exchanges ∷ [])
    (step w (Asked (Pull c l))).world
unfolding outcome_of
opened_hears peers marks w c l reached h fine =
    let i : IsLawful w = lawful_now w reached in
    let some : is_none (picked_station w c).winner ≡ false =
    (no_row (refusals w (Asked (Pull c l))) fine).1.1.0 in
    hears_outcome peers marks _ w (Asked (Pull c l)) i fine
    (stays_kept w _ (keep_pulled w c l) (receivers_pulled w c l i))
    (ap (λ (ms : List Mark). ms ++ new_mark w.exchanges ∷ []) h.kept ∙ sym (opened_marks w c l i some)) h

sent_number : (w : World) (c : Class) (l : Limits) (e s t charge : ℕ) (part : Part) (more eosp : Bool) →
    IsLawful w → (pull_outcome w c l).reply ≡ Send e s t charge part more eosp → e ≡ w.exchanges
unfolding pull_outcome
sent_number w c l e s t charge part more eosp i h =
    let k : Same w (picked_world w c l) = same_picked w c l in
    pulled_number (picked_station w c).winner (picked_world w c l) c e s t charge part more eosp
    (picked_live w c l)
    (lawful_same _ _ k i) h ∙ k.exchanges

judged_number : (o : Option Refusal) (w : World) (c : Class) (l : Limits) (e s t charge : ℕ) (part : Part)
    (more eosp : Bool) → IsLawful w →
    (judged_outcome w (Asked (Pull c l)) o).reply ≡ Send e s t charge part more eosp → e ≡ w.exchanges
unfolding judged_outcome outcome_of
judged_number (Some r) w c l e s t charge part more eosp i h = absurd (cc h)
judged_number None w c l e s t charge part more eosp i h = sent_number w c l e s t charge part more eosp i h

pub opened_number : (w : World) (c : Class) (l : Limits) (e s t charge : ℕ) (part : Part) (more eosp : Bool) →
    IsReached w → (step w (Asked (Pull c l))).reply ≡ Send e s t charge part more eosp → e ≡ w.exchanges
unfolding step
opened_number w c l e s t charge part more eosp reached h =
    judged_number (refusal w (Asked (Pull c l))) w c l e s t charge part more eosp (lawful_now w reached) h

-- ---- its number is above all others

all_below : (lo hi : ℕ) (xs : List Exchange) → OpenRises lo hi xs → All (λ m. m.number < hi) (map mark_of xs)
all_below lo hi [] h = All-nil (λ (m : Mark). m.number < hi)
all_below lo hi (x ∷ xs) h = All-cons (λ (m : Mark). m.number < hi) (mark_of x) (map mark_of xs) h.1
    (all_below (suc x.number) hi xs h.2)

pub marks_below : (peers : List PeerValue) (marks : List Mark) (w : World) → IsReached w →
    Hears peers marks w → All (λ m. m.number < w.exchanges) marks
marks_below peers marks w reached h =
    subst (λ (ms : List Mark). All (λ m. m.number < w.exchanges) ms) (sym h.kept)
    (all_below 0 w.exchanges w.opened (by_law KeepsWindows w reached
    (window_law w.config reached.history)).rising)

-- ---- there is room

as_one : Bool → ℕ
as_one b = cond b 1 0

of_one_class : (c : Class) → as_one (same_class c Bk) + as_one (same_class c Be) + as_one
    (same_class c Vi) + as_one (same_class c Vo) ≡ 1
unfolding as_one
of_one_class Bk = refl
of_one_class Be = refl
of_one_class Vi = refl
of_one_class Vo = refl

counted : Class → List Exchange → ℕ
counted c xs = count_by (λ x. same_class x.class c) xs

count_none : (c : Class) → counted c [] ≡ 0
unfolding counted
count_none c = refl

count_more : (c : Class) (x : Exchange) (xs : List Exchange) →
    counted c (x ∷ xs) ≡ as_one (same_class x.class c) + counted c xs
unfolding counted as_one
count_more c x xs = sum_by-cons (λ (y : Exchange). cond (same_class y.class c) 1 0) x xs

all_classes_count : (xs : List Exchange) → length xs
    ≡ counted Bk xs + counted Be xs + counted Vi xs + counted Vo xs
all_classes_count [] = omega (arith, count_none Bk, count_none Be, count_none Vi, count_none Vo)
all_classes_count (x ∷ xs) =
    omega (
      arith,
      of_one_class x.class,
      all_classes_count xs,
      count_more Bk x xs,
      count_more Be x xs,
      count_more Vi x xs,
      count_more Vo x xs,
    )

most_of_class : (w : World) → IsReached w → (c : Class) → open_of_class w c ≤ 8
most_of_class w r c = by_law (λ u. open_of_class u c ≤ 8) w r
    (λ m. (number_law w.config r.history r.in_range m).opened c)

fewer_in : (c : Class) (bk be vi vo : ℕ) (f : Class → ℕ) → f Bk ≡ bk → f Be ≡ be → f Vi ≡ vi → f Vo ≡ vo →
    bk ≤ 8 → be ≤ 8 → vi ≤ 8 → vo ≤ 8 →
    f c < 8 → bk + be + vi + vo < 32
fewer_in Bk bk be vi vo f a b d e i j k l less = omega (arith, a, b, d, e, i, j, k, l, less)
fewer_in Be bk be vi vo f a b d e i j k l less = omega (arith, a, b, d, e, i, j, k, l, less)
fewer_in Vi bk be vi vo f a b d e i j k l less = omega (arith, a, b, d, e, i, j, k, l, less)
fewer_in Vo bk be vi vo f a b d e i j k l less = omega (arith, a, b, d, e, i, j, k, l, less)

pub marks_within : (peers : List PeerValue) (marks : List Mark) (w : World) (c : Class) (l : Limits) →
    IsReached w → Hears peers marks w →
    refusal w (Asked (Pull c l)) ≡ None → length marks < 32
unfolding counted
marks_within peers marks w c l reached h fine =
    let few : nat_le w.config.inflight (open_of_class w c) ≡ false =
    (no_row (refusals w (Asked (Pull c l))) fine).0 in
    let most : (d : Class) → open_of_class w d ≤ 8 = most_of_class w reached in
    let less : open_of_class w c < 8 = omega (
      arith,
      le_no w.config.inflight _ few,
      reached.in_range.inflight.1,
    ) in
    let room : open_of_class w Bk + open_of_class w Be + open_of_class w Vi + open_of_class w Vo < 32 =
    fewer_in c _ _ _ _ (open_of_class w) refl refl refl refl (most Bk) (most Be) (most Vi) (most Vo) less in
    omega (
      arith,
      room,
      all_classes_count w.opened,
      ap (length {A = Mark}) h.kept,
      length-map w.opened mark_of,
    )
