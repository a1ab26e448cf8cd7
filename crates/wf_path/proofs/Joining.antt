-- Proves that a station that is live only since a call has joined by this call, so its airtimes begin at 0.
-- By cases of the call.
use Rattle.std.proofs.Common.{◌≡◌, refl, ap, sym, ◌∙◌, ℕ, ◌==◌, ◌&&◌, Bool, true, false, if◌then◌else◌, List, [], ◌∷◌, Option, Some, None, is_none, IfSome}
use Rattle.wf_frame.specs.declared.notes.Ask.TheVariants.{Join, Leave, Rate, Tick, Pull, Arrive, Answer, Done, Sleep, Wake, Poll, Rx, Reap, Ampdu, Stop, Start, Unsent, GiveUp, Flush, Offload, Weight, Plain, Hold, Begin, Free, Cease, Group, Service, Bss}
use Rattle.wf_frame.specs.declared.notes.Note.{Note}
use Rattle.wf_frame.specs.declared.notes.Note.TheVariants.{Enqueue, Asked}
use Rattle.wf_frame.specs.declared.notes.Refusal.{Refusal}
use Rattle.wf_frame.specs.declared.notes.Refusal.TheVariants.{Idle}
use Rattle.wf_frame.specs.Classes.{all_classes}
use Rattle.wf_def_lists.specs.Table.{upto}
use Rattle.wf_def_world.specs.World.{World, Mode, Exchange, is_live, exchange, with_station, with_mode}
use Rattle.wf_def_world.specs.Refusals.{refusal}
use Rattle.wf_def_world.specs.Service.{station_served}
use Rattle.wf_frame.specs.declared.classes.Class.{Class}
use Rattle.wf_def_world.specs.Exchanges.{after_pick}
use Rattle.wf_def_world.specs.Step.{Outcome, join_outcome, offload_outcome, plain_outcome, hold_outcome, free_outcome, after_tids_left, without_listings, leave_outcome, rate_outcome, tick_outcome, outcome_where_open, sleep_outcome, wake_outcome, poll_outcome, rx_outcome, reap_outcome, concerned_station, outcome_of, after_refusal, judged_outcome, step}
use Rattle.wf_law_rules.proofs.Lemmas.Numbers.{on_bool, eq_yes, eq_no}
use Rattle.wf_law_runs.specs.Sums.{since_join}
use Rattle.wf_law_runs.proofs.Windows.Sides.{on_live, live_begun, live_ceased, Same, then_same, same_listed, same_after_pick, same_on_station, same_on_share, same_weighed}
use Rattle.wf_law_runs.proofs.Windows.Agreed.{IsLawful, IsFound, found, same_left_tids, same_off_lists}
use Rattle.wf_law_runs.proofs.Releases.Released.{live_with_station, live_own_station}
use Rattle.wf_law_runs.proofs.Frames.Delivered.{same_enqueued}
use Rattle.wf_law_runs.proofs.Kept.Lasting.{Last, last_pulled, last_arrived, last_answered, last_unsent, last_given_up, last_flushed, last_ended}

-- whether a call is a Join, an Offload or a Plain of station s
abbrev is_join_of : ℕ → Note → Bool
is_join_of s (Asked (Join i window start exponent weight)) = i == s
is_join_of s (Asked (Offload i exponent weight)) = i == s
is_join_of s (Asked (Plain i start exponent weight)) = i == s
is_join_of s note = false

-- each station that is live in v was live in w, except the station that the call joins
abbrev Were : Note → World → World → Type 0
Were note w v = (s : ℕ) → is_join_of s note ≡ false → is_live v s ≡ true → is_live w s ≡ true

were_last : (note : Note) (w v : World) → Last w v → Were note w v
were_last note w v h s other live = sym (h.live s) ∙ live

were_same : (note : Note) (w v : World) → Same w v → Were note w v
were_same note w v h s other live = sym (h.live s) ∙ live

-- ---- the calls that are not refused

were_joined : (w : World) (i window start exponent weight : ℕ) →
    Were (Asked (Join i window start exponent weight)) w (join_outcome w i window start exponent weight).world
unfolding join_outcome
were_joined w i window start exponent weight s other live =
    sym (live_with_station w i s _ (eq_no i s other)) ∙ live

were_offloaded : (w : World) (i exponent weight : ℕ) →
    Were (Asked (Offload i exponent weight)) w (offload_outcome w i exponent weight).world
unfolding offload_outcome
were_offloaded w i exponent weight s other live =
    sym (live_with_station w i s _ (eq_no i s other)) ∙ live

were_plain : (w : World) (i start exponent weight : ℕ) →
    Were (Asked (Plain i start exponent weight)) w (plain_outcome w i start exponent weight).world
unfolding plain_outcome
were_plain w i start exponent weight s other live =
    sym (live_with_station w i s _ (eq_no i s other)) ∙ live

were_moded : (note : Note) (w : World) (s t : ℕ) (mode : Mode) → Were note w (with_mode w s t mode)
unfolding with_mode
were_moded note w s t mode i other live = sym (on_live w s t (λ y. record y { mode = mode }) i) ∙ live

were_left : (w u : World) (i : ℕ) → Same w u → Were (Asked (Leave i)) w (with_station u i None)
were_left w u i same s other live = on_bool (i == s)
    (λ own. absurd (cc (
      ap (is_live (with_station u i None)) (eq_yes i s own),
      live_own_station u i None,
      live,
    )))
    (λ apart. sym (same.live s) ∙ sym (live_with_station u i s None (eq_no i s apart)) ∙ live)

were_gone : (w : World) (i : ℕ) → Were (Asked (Leave i)) w (leave_outcome w i).world
unfolding leave_outcome
were_gone w i =
    let u : World = without_listings (after_tids_left w i (upto 8)) i all_classes in
    were_left w u i (then_same _ _ _ (same_left_tids (upto 8) w i) (same_off_lists all_classes _ i))

were_open : (note : Note) (P : Exchange → Type 0) (o : Option Exchange) (w : World) (f : Exchange → Outcome) →
    IfSome o P → ((x : Exchange) → P x → Last w (f x).world) → Were note w (outcome_where_open w o f).world
unfolding outcome_where_open
were_open note P None w f h k = λ s other live. live
were_open note P (Some x) w f h k = were_last note w _ (k x h)

were_reaped : (note : Note) (ids : List ℕ) (w : World) → Were note w (reap_outcome w ids).world
unfolding reap_outcome
were_reaped note [] w s other live = live
were_reaped note (id ∷ ids) w s other live = live

were_done : (note : Note) (w : World) → IsLawful w → Were note w (outcome_of w note).world
unfolding outcome_of tick_outcome rate_outcome sleep_outcome wake_outcome poll_outcome rx_outcome
    hold_outcome free_outcome
were_done (Enqueue s t flow len) w i = were_same (Enqueue s t flow len) w _ (same_enqueued w s t flow len)
were_done (Asked (Join s window start exponent weight)) w i = were_joined w s window start exponent weight
were_done (Asked (Leave s)) w i = were_gone w s
were_done (Asked (Rate s rate)) w i =
    were_same (Asked (Rate s rate)) w _ (same_on_station w s _ (λ x t. refl))
were_done (Asked (Tick by)) w i = λ s other live. live
were_done (Asked (Pull c l)) w i = were_last (Asked (Pull c l)) w _ (last_pulled w c l i)
were_done (Asked (Arrive e n)) w i =
    were_open (Asked (Arrive e n)) (IsFound w i) (exchange w e) w _ (found w i e) (λ x f. last_arrived w x n)
were_done (Asked (Answer e)) w i = were_open (Asked (Answer e)) (IsFound w i) (exchange w e) w _ (found w i e)
    (λ x f. last_answered w x)
were_done (Asked (Done e heard air)) w i =
    were_open (Asked (Done e heard air)) (IsFound w i) (exchange w e) w _ (found w i e)
    (λ x f. last_ended air w i x heard f)
were_done (Asked (Sleep s)) w i = were_same (Asked (Sleep s)) w _ (same_on_station w s _ (λ x t. refl))
were_done (Asked (Wake s)) w i = were_same (Asked (Wake s)) w _ (same_on_station w s _ (λ x t. refl))
were_done (Asked (Poll s)) w i = were_same (Asked (Poll s)) w _ (same_on_station w s _ (λ x t. refl))
were_done (Asked (Rx s c air)) w i = were_same (Asked (Rx s c air)) w _ (same_on_share w s c _)
were_done (Asked Reap) w i = were_reaped (Asked Reap) w.finished w
were_done (Asked (Ampdu s octets)) w i =
    were_same (Asked (Ampdu s octets)) w _ (same_on_station w s _ (λ x t. refl))
were_done (Asked (Stop s)) w i = were_same (Asked (Stop s)) w _ (same_on_station w s _ (λ x t. refl))
were_done (Asked (Start s)) w i = were_same (Asked (Start s)) w _ (same_on_station w s _ (λ x t. refl))
were_done (Asked (Unsent e n)) w i = were_open (Asked (Unsent e n)) (IsFound w i) (exchange w e) w _
    (found w i e)
    (λ x f. last_unsent w x n)
were_done (Asked (GiveUp e n)) w i = were_open (Asked (GiveUp e n)) (IsFound w i) (exchange w e) w _
    (found w i e)
    (λ x f. last_given_up w x n)
were_done (Asked (Flush s t)) w i = were_last (Asked (Flush s t)) w _ (last_flushed w s t)
were_done (Asked (Offload s exponent weight)) w i = were_offloaded w s exponent weight
were_done (Asked (Weight s weight)) w i = were_same (Asked (Weight s weight)) w _ (same_weighed w s weight)
were_done (Asked (Plain s start exponent weight)) w i = were_plain w s start exponent weight
were_done (Asked (Hold s t)) w i = were_moded (Asked (Hold s t)) w s t _
were_done (Asked (Begin s t window)) w i = λ j other live. sym (live_begun w s t window j) ∙ live
were_done (Asked (Free s t)) w i = were_moded (Asked (Free s t)) w s t _
were_done (Asked (Cease s t)) w i = λ j other live. sym (live_ceased w s t j) ∙ live
were_done (Asked (Group ask)) w i = λ s other live. live
were_done (Asked (Service ask)) w i =
    were_same (Asked (Service ask)) w _ (same_on_station w (station_served ask) _ (λ x t. refl))
were_done (Asked (Bss s b)) w i = were_same (Asked (Bss s b)) w _ (same_on_station w s _ (λ x t. refl))

-- ---- the step

-- An idle pull makes no station live, whether it changes the lists or not.
were_idle : (b : Bool) (w : World) (c : Class) (s : ℕ) →
    is_live (if b then w else after_pick w c) s ≡ true → is_live w s ≡ true
were_idle true w c s live = live
were_idle false w c s live = sym ((same_after_pick w c).live s) ∙ live

were_refused : (note : Note) (r : Refusal) (w : World) (s : ℕ) →
    is_live (after_refusal w note r) s ≡ true → is_live w s ≡ true
unfolding after_refusal
were_refused (Asked (Pull c l)) Idle w s live = were_idle (w.config.pending == 1) w c s live
were_refused _ _ w s live = live

begun : (note : Note) (w : World) (s n : ℕ) → refusal w note ≡ None → is_join_of s note ≡ true →
    since_join w s note n ≡ 0
begun (Asked (Join i window start exponent weight)) w s n fine own =
    ap (λ (o : Option Refusal). if is_none o && (i == s) then 0 else n) fine
    ∙ ap (λ (b : Bool). if b then 0 else n) own
begun (Asked (Offload i exponent weight)) w s n fine own =
    ap (λ (o : Option Refusal). if is_none o && (i == s) then 0 else n) fine
    ∙ ap (λ (b : Bool). if b then 0 else n) own
begun (Asked (Plain i start exponent weight)) w s n fine own =
    ap (λ (o : Option Refusal). if is_none o && (i == s) then 0 else n) fine
    ∙ ap (λ (b : Bool). if b then 0 else n) own
begun (Enqueue i t flow len) w s n fine own = absurd (cc own)
begun (Asked (Leave i)) w s n fine own = absurd (cc own)
begun (Asked (Rate i rate)) w s n fine own = absurd (cc own)
begun (Asked (Tick by)) w s n fine own = absurd (cc own)
begun (Asked (Pull c l)) w s n fine own = absurd (cc own)
begun (Asked (Arrive e i)) w s n fine own = absurd (cc own)
begun (Asked (Answer e)) w s n fine own = absurd (cc own)
begun (Asked (Done e heard air)) w s n fine own = absurd (cc own)
begun (Asked (Sleep i)) w s n fine own = absurd (cc own)
begun (Asked (Wake i)) w s n fine own = absurd (cc own)
begun (Asked (Poll i)) w s n fine own = absurd (cc own)
begun (Asked (Rx i c air)) w s n fine own = absurd (cc own)
begun (Asked Reap) w s n fine own = absurd (cc own)
begun (Asked (Ampdu i octets)) w s n fine own = absurd (cc own)
begun (Asked (Stop i)) w s n fine own = absurd (cc own)
begun (Asked (Start i)) w s n fine own = absurd (cc own)
begun (Asked (Unsent e i)) w s n fine own = absurd (cc own)
begun (Asked (GiveUp e i)) w s n fine own = absurd (cc own)
begun (Asked (Flush i t)) w s n fine own = absurd (cc own)
begun (Asked (Weight i weight)) w s n fine own = absurd (cc own)
begun (Asked (Hold i t)) w s n fine own = absurd (cc own)
begun (Asked (Begin i t window)) w s n fine own = absurd (cc own)
begun (Asked (Free i t)) w s n fine own = absurd (cc own)
begun (Asked (Cease i t)) w s n fine own = absurd (cc own)
begun (Asked (Group ask)) w s n fine own = absurd (cc own)
begun (Asked (Service ask)) w s n fine own = absurd (cc own)
begun (Asked (Bss i b)) w s n fine own = absurd (cc own)

new_answer : (r : Option Refusal) (w : World) (note : Note) (s n : ℕ) → refusal w note ≡ r → IsLawful w →
    is_live w s ≡ false → is_live (judged_outcome w note r).world s ≡ true → since_join w s note n ≡ 0
unfolding judged_outcome
new_answer (Some r) w note s n e i dead live = absurd (cc (dead, were_refused note r w s live))
new_answer None w note s n e i dead live = on_bool (is_join_of s note)
    (λ own. begun note w s n e own)
    (λ other. absurd (cc (
      dead,
      were_done note w i s other
          (sym ((same_listed (concerned_station w note) (outcome_of w note).world).live s) ∙ live),
    )))

-- the airtimes of a station that is live after a call and was not before begin at 0
pub new_sum : (w : World) (note : Note) (s n : ℕ) → IsLawful w → is_live w s ≡ false →
    is_live (step w note).world s ≡ true → since_join w s note n ≡ 0
unfolding step
new_sum w note s n i dead live = new_answer (refusal w note) w note s n refl i dead live
