-- Proves the law of tries, in every world of a run, from the counts and the law of attempts.
use Rattle.std.proofs.Common.{◌≡◌, refl, ap, sym, ◌∙◌, subst, arith, ℕ, zero, suc, ◌+◌, ◌-◌, ◌*◌, ◌<◌, ◌≤◌, ◌==◌, ◌&&◌, Bool, true, false, if◌then◌else◌, ◌⊎◌, inl, inr, List, [], ◌∷◌, ◌++◌, Option, Some, None, is_none, count_by, length, take, map, ◌%◌, nat_lt}
use Rattle.std.proofs.lemmas.List.Sums.{sum_by-cons}
use Rattle.wf_frame.specs.declared.settings.Config.{Config}
use Rattle.wf_frame.specs.declared.notes.Ask.TheVariants.{Done}
use Rattle.wf_frame.specs.declared.notes.Note.{Note}
use Rattle.wf_frame.specs.declared.notes.Note.TheVariants.{Asked}
use Rattle.wf_frame.specs.declared.notes.Part.{Part}
use Rattle.wf_frame.specs.declared.notes.Part.TheVariants.{Mpdus, Request as Asks, Batch, Plain}
use Rattle.wf_frame.specs.declared.notes.ReplyNote.{ReplyNote}
use Rattle.wf_frame.specs.declared.notes.ReplyNote.TheVariants.{Send}
use Rattle.wf_frame.specs.Settings.{IsInRange}
use Rattle.wf_def_lists.specs.Lengths.{greatest_body}
use Rattle.wf_def_lists.specs.Table.{has}
use Rattle.wf_def_agreement.specs.Session.{Session, State, slot, is_failed}
use Rattle.wf_def_world.specs.World.{World, Mpdu, Exchange, Content, Frames, Request, session, exchange, accepted_count, opening}
use Rattle.wf_def_world.specs.Exchanges.{mpdus_of, part_of, numbers_unsent}
use Rattle.wf_def_world.specs.CanSend.{is_request}
use Rattle.wf_def_world.specs.Refusals.{refusal}
use Rattle.wf_def_world.specs.Step.{step}
use Rattle.wf_def_world.specs.Run.{Entry, world_after}
use Rattle.wf_law_runs.specs.Queues.{AreAtMost}
use Rattle.wf_law_runs.specs.Sent.{HasSome}
use Rattle.wf_law_runs.specs.Releases.{named_by}
use Rattle.wf_law_runs.specs.Tries.{count_of, count_in_part, tries_by, tries, count_among, unsent_in, unsent_by, unsent, frames_unsent_in, frames_unsent_by, frames_unsent, frames_in_part, frames_sent_by, frames_sent_in, data_exchanges_by, data_exchanges, KeepsTries, TriesLaw}
use Rattle.wf_law_rules.proofs.Lemmas.Numbers.{on_bool, eq_yes, eq_no, yes_eq, not_eq, lt_yes, lt_no}
use Rattle.wf_law_runs.proofs.Sessions.Flights.{AllIn}
use Rattle.wf_law_runs.proofs.Windows.Agreed.{IsOpenIn}
use Rattle.wf_law_runs.proofs.Deficits.Books.{books}
use Rattle.wf_law_runs.proofs.Deficits.Configs.{config_step}
use Rattle.wf_law_runs.proofs.Deficits.Kept.{IsKept}
use Rattle.wf_law_runs.proofs.Deficits.KeptStep.{kept_step, kept_opening}
use Rattle.wf_law_runs.proofs.Frames.Delivered.{Labelled}
use Rattle.wf_law_runs.proofs.Frames.Fates.{Steady, steady_step, steady_first}
use Rattle.wf_law_runs.proofs.Sent.Lengths.{IsStocked, stocked_step, stocked_first}
use Rattle.wf_law_runs.proofs.Sent.Some.{AllSome, some_step, fit}
use Rattle.wf_law_runs.proofs.Attempts.Law.{AllTried, Tried, tried_step, none_given}
use Rattle.wf_law_runs.proofs.Tries.Counts.{Count, AllCounted, Counts, counted_after, no_count, count_in, times_in, times_part, counts_step, counts_first, counts, one_if, none_if}
use Rattle.wf_law_runs.proofs.Tries.Opens.{Opens, at_some, opens_step}
use Rattle.wf_law_runs.proofs.Tries.Requests.{few_requests}
use Rattle.wf_law_runs.proofs.Ranges.Traits.{Traits, traits_step}

-- ---- each frame

-- A frame was sent at most `limit` times, if the times are not counted in which it never went on the air.
abbrev AtMost : ℕ → Count → ℕ → Type 0
AtMost limit n k = n.sent k ≤ limit + n.unsent k

-- A frame of an exchange that flies was sent at most `limit` times.
few_times : (ms : List Mpdu) (n : Count) (limit e k : ℕ) (y : Session) → AllIn y (State.Flying e) ms →
    Labelled y ms → AllCounted n y → AllTried limit y → (times_in k ms ≡ 0) ⊎ AtMost limit n k
few_times [] n limit e k y f l c a = inl refl
few_times (m ∷ ms) n limit e k y f l c a = on_bool (m.id == k)
    (λ h.
    let is : (slot y m.number).id ≡ k = l.0 ∙ eq_yes m.id k h in
    let counted : n.sent (slot y m.number).id ≡ (slot y m.number).attempts + 1
    + n.unsent (slot y m.number).id =
    (c (m.number - y.first)).flies e f.0 in
    let few : (slot y m.number).attempts < limit =
    (a (m.number - y.first)).fewer (ap is_failed f.0) in
    inr (subst (λ (i : ℕ). n.sent i ≤ limit + n.unsent i) is (omega (arith, counted, few))))
    (λ h. elim (few_times ms n limit e k y f.1 l.1 c a) [
      | inl none ↦ inl (omega (arith, none, none_if (m.id == k) h))
      | inr few ↦ inr few
    ])

each_step : (l : List ℕ) (n : Count) (limit : ℕ) (w : World) (note : Note) → Steady l w →
    Counts n w → 1 ≤ limit → w.config.attempts ≡ limit → Tried limit w → ((k : ℕ) → AtMost limit n k) →
    (k : ℕ) → AtMost limit (counted_after n w note (step w note).reply) k
each_step l n limit w note y c some same a few k = elim (opens_step w note) [
  | inl none ↦ unsent_none (none.tries k)
  | inr x ↦ sent x (few_times (mpdus_of x.exchange.content) _ limit x.exchange.number k
      (session v x.exchange.station x.exchange.tid)
      (at_some (IsOpenIn v) v.opened x.exchange y'.lawful.opened x.among).opened.flies.flying
      (at_some (λ z. Labelled (session v z.station z.tid) (mpdus_of z.content)) v.opened x.exchange
      y'.labelled.labels x.among)
      ((counts_step l n w note y.lawful y.labelled y.placing c).slots x.exchange.station x.exchange.tid)
      (tried_step limit w note some same y.lawful a x.exchange.station x.exchange.tid))
]
  where
    v : World
    v = (step w note).world

    y' : Steady (l ++ named_by (step w note).reply) v
    y' = steady_step l w note y

    unsent_none : tries_by k (step w note).reply ≡ 0 →
        n.sent k + tries_by k (step w note).reply ≤ limit + (n.unsent k + unsent_by w k note)
    unsent_none none = omega (arith, none, few k)

    sent : (x : Opens (step w note)) → (times_in k (mpdus_of x.exchange.content) ≡ 0) ⊎
        AtMost limit (counted_after n w note (step w note).reply) k →
        AtMost limit (counted_after n w note (step w note).reply) k
    sent x (inl none) = unsent_none (ap (tries_by k) x.reply
        ∙ times_part k x.exchange.batch x.exchange.plain x.exchange.content ∙ none)
    sent x (inr h) = h

each_run : (h : List Entry) (l : List ℕ) (n : Count) (limit : ℕ) (w : World) → Steady l w → Counts n w →
    1 ≤ limit → w.config.attempts ≡ limit → Tried limit w → ((k : ℕ) → AtMost limit n k) → (k : ℕ) →
    n.sent k + tries w k h ≤ limit + (n.unsent k + unsent w k h)
each_run [] l n limit w y c some same a few k = omega (arith, few k)
each_run (e ∷ es) l n limit w y c some same a few k =
    let rest : n.sent k + tries_by k (step w e.1).reply + tries (step w e.1).world k es
    ≤ limit + (n.unsent k + unsent_by w k e.1 + unsent (step w e.1).world k es) =
    each_run es (l ++ named_by (step w e.1).reply) (counted_after n w e.1 (step w e.1).reply) limit
    (step w e.1).world (steady_step l w e.1 y) (counts_step l n w e.1 y.lawful y.labelled y.placing c) some
    (ap (λ (c : Config). c.attempts) (config_step w e.1) ∙ same) (tried_step limit w e.1 some same y.lawful a)
    (each_step l n limit w e.1 y c some same a few) k in
    omega (arith, rest)

-- ---- all frames

-- The sum of f over the numbers below n.
abbrev sum_below : (ℕ → ℕ) → ℕ → ℕ
sum_below f zero = 0
sum_below f (suc n) = f n + sum_below f n

sum_zero : (f : ℕ → ℕ) (c : ℕ) → ((k : ℕ) → f k ≡ 0) → sum_below f c ≡ 0
sum_zero f zero h = refl
sum_zero f (suc c) h = omega (arith, h c, sum_zero f c h)

sum_added : (f g : ℕ → ℕ) (c : ℕ) → sum_below (λ k. f k + g k) c ≡ sum_below f c + sum_below g c
sum_added f g zero = refl
sum_added f g (suc c) = omega (arith, sum_added f g c)

sum_most : (f g : ℕ → ℕ) (most c : ℕ) → ((k : ℕ) → f k ≤ most + g k) →
    sum_below f c ≤ most * c + sum_below g c
sum_most f g most zero h = omega arith
sum_most f g most (suc c) h = grind (arith, h c, sum_most f g most c h)

-- One id is counted once.
sum_one_other : (id c : ℕ) → c ≤ id → sum_below (λ k. if id == k then 1 else 0) c ≡ 0
sum_one_other id zero h = refl
sum_one_other id (suc c) h =
    omega (
      arith,
      none_if (id == c) (not_eq id c (λ e. omega (arith, e, h))),
      sum_one_other id c (omega
          (arith, h)),
    )

sum_one : (id c : ℕ) → id < c → sum_below (λ k. if id == k then 1 else 0) c ≡ 1
sum_one id zero h = absurd (omega (arith, h))
sum_one id (suc c) h = on_bool (id == c)
    (λ e. omega (arith, one_if (id == c) e, sum_one_other id c (omega (arith, eq_yes id c e))))
    (λ e. omega (arith, none_if (id == c) e, sum_one id c (omega (arith, h, eq_no id c e))))

sum_named : (ms : List (ℕ × ℕ)) (c : ℕ) → ((k : ℕ) → c ≤ k → count_of k ms ≡ 0) →
    length ms ≡ sum_below (λ k. count_of k ms) c
sum_named [] c h = sym (sum_zero (λ k. 0) c (λ k. refl))
sum_named (m ∷ ms) c h =
    let old : m.0 < c = below in
    omega (
      arith,
      sum_added (λ k. if m.0 == k then 1 else 0) (λ k. count_of k ms) c,
      sum_one m.0 c old,
      sum_named ms c (λ k far. omega (arith, h k far)),
    )
  where
    below : m.0 < c
    below = on_bool (nat_lt m.0 c) (λ e. lt_yes m.0 c e) (λ e. absurd
        (omega (arith, h m.0 (lt_no m.0 c e), one_if (m.0 == m.0) (yes_eq m.0 m.0 refl))))

sum_same : (f g : ℕ → ℕ) (c : ℕ) → ((k : ℕ) → f k ≡ g k) → sum_below f c ≡ sum_below g c
sum_same f g zero h = refl
sum_same f g (suc c) h = omega (arith, h c, sum_same f g c h)

sum_ids : (ids : List ℕ) (c : ℕ) → ((k : ℕ) → c ≤ k → count_by (λ i. i == k) ids ≡ 0) →
    length ids ≡ sum_below (λ k. count_by (λ i. i == k) ids) c
sum_ids [] c h = sym (sum_zero (λ k. 0) c (λ k. refl))
sum_ids (x ∷ ids) c h =
    let old : x < c = below in
    omega (
      arith,
      sum_same (λ k. count_by (λ i. i == k) (x ∷ ids))
          (λ k. (if x == k then 1 else 0) + count_by (λ i. i == k) ids) c one_more,
      sum_added (λ k. if x == k then 1 else 0) (λ k. count_by (λ i. i == k) ids) c,
      sum_one x c old,
      sum_ids ids c (λ k far. omega (arith, h k far, one_more k)),
    )
  where
    one_more : (k : ℕ) → count_by (λ i. i == k) (x ∷ ids)
        ≡ (if x == k then 1 else 0) + count_by (λ i. i == k) ids
    one_more k = sum_by-cons (λ (i : ℕ). if i == k then 1 else 0) x ids

    below : x < c
    below = on_bool (nat_lt x c) (λ e. lt_yes x c e) (λ e. absurd
        (omega (arith, h x (lt_no x c e), one_more x, one_if (x == x) (yes_eq x x refl))))

sum_part : (part : Part) (c : ℕ) → ((k : ℕ) → c ≤ k → count_in_part k part ≡ 0) →
    frames_in_part part ≡ sum_below (λ k. count_in_part k part) c
sum_part (Mpdus ms) c h = sum_named ms c h
sum_part (Plain ms) c h = sum_named ms c h
sum_part (Batch ids) c h = sum_ids ids c h
sum_part (Asks start) c h = sym (sum_zero (λ k. 0) c (λ k. refl))

sum_reply : (r : ReplyNote) (c : ℕ) → ((k : ℕ) → c ≤ k → tries_by k r ≡ 0) →
    frames_sent_by r ≡ sum_below (λ k. tries_by k r) c
sum_reply (Send exchange station tid air part more eosp) c h = sum_part part c h
sum_reply _ c h = sym (sum_zero (λ k. 0) c (λ k. refl))

sum_run : (h : List Entry) (w : World) (c : ℕ) → ((k : ℕ) → c ≤ k → tries w k h ≡ 0) →
    frames_sent_in w h ≡ sum_below (λ k. tries w k h) c
sum_run [] w c none = sym (sum_zero (λ k. 0) c (λ k. refl))
sum_run (e ∷ es) w c none =
    let r : ReplyNote = (step w e.1).reply in
    omega (
      arith,
      sum_added (λ k. tries_by k r) (λ k. tries (step w e.1).world k es) c,
      sum_reply r c (λ k far. omega (arith, none k far)),
      sum_run es (step w e.1).world c (λ k far. omega (arith, none k far)),
    )

-- ---- the frames that never went on the air

sum_one_most : (id c : ℕ) → sum_below (λ k. if id == k then 1 else 0) c ≤ 1
sum_one_most id c = on_bool (nat_lt id c) (λ e. omega (arith, sum_one id c (lt_yes id c e)))
    (λ e. omega (arith, sum_one_other id c (lt_no id c e)))

and_true_is : (a : Bool) → ◌≡◌ {A = ℕ} (if a && true then 1 else 0) (if a then 1 else 0)
and_true_is true = refl
and_true_is false = refl

and_false_is : (a : Bool) → ◌≡◌ {A = ℕ} (if a && false then 1 else 0) 0
and_false_is true = refl
and_false_is false = refl

sum_if : (b : Bool) (id c : ℕ) → sum_below (λ k. if (id == k) && b then 1 else 0) c ≤ (if b then 1 else 0)
sum_if true id c = omega (
  arith,
  sum_same (λ k. if (id == k) && true then 1 else 0) (λ k. if id == k then 1 else 0) c
      (λ k. and_true_is (id == k)),
  sum_one_most id c,
)
sum_if false id c = omega (
  arith,
  sum_zero (λ k. if (id == k) && false then 1 else 0) c
      (λ k. and_false_is (id == k)),
)

sum_among : (ms : List Mpdu) (numbers : List ℕ) (c : ℕ) →
    sum_below (λ k. count_among k numbers ms) c ≤ count_by (λ m. has numbers m.number) ms
sum_among [] numbers c = omega (arith, sum_zero (λ k. count_among k numbers []) c (λ k. refl))
sum_among (m ∷ ms) numbers c =
    let one : ℕ → ℕ = λ k. if (m.id == k) && has numbers m.number then 1 else 0 in
    let parts : sum_below (λ k. count_among k numbers (m ∷ ms)) c
    ≡ sum_below (λ k. one k + count_among k numbers ms) c =
    sum_same (λ k. count_among k numbers (m ∷ ms)) (λ k. one k + count_among k numbers ms) c
    (λ k. sum_by-cons (λ (z : Mpdu). if (z.id == k) && has numbers z.number then 1 else 0) m ms) in
    let whole : count_by (λ m. has numbers m.number) (m ∷ ms)
    ≡ (if has numbers m.number then 1 else 0) + count_by (λ m. has numbers m.number) ms =
    sum_by-cons (λ (z : Mpdu). if has numbers z.number then 1 else 0) m ms in
    omega (
      arith,
      parts,
      whole,
      sum_added one (λ k. count_among k numbers ms) c,
      sum_if (has numbers m.number) m.id c,
      sum_among ms numbers c,
    )

sum_exchange : (o : Option Exchange) (c : ℕ) → sum_below (λ k. unsent_in k o) c ≤ frames_unsent_in o
sum_exchange None c = omega (arith, sum_zero (λ k. unsent_in k None) c (λ k. refl))
sum_exchange (Some x) c = sum_among (mpdus_of x.content) (numbers_unsent x) c

sum_ended : (b : Bool) (o : Option Exchange) (c : ℕ) →
    sum_below (λ k. if b then unsent_in k o else 0) c ≤ (if b then frames_unsent_in o else 0)
sum_ended true o c = sum_exchange o c
sum_ended false o c = omega (arith, sum_zero (λ k. 0) c (λ k. refl))

sum_call : (note : Note) (w : World) (c : ℕ) → sum_below (λ k. unsent_by w k note) c ≤ frames_unsent_by w note
sum_call (Asked (Done e heard air)) w c =
    sum_ended (is_none (refusal w (Asked (Done e heard air)))) (exchange w e) c
sum_call _ w c = omega (arith, sum_zero (λ k. 0) c (λ k. refl))

sum_unsent : (h : List Entry) (w : World) (c : ℕ) → sum_below (λ k. unsent w k h) c ≤ frames_unsent w h
sum_unsent [] w c = omega (arith, sum_zero (λ k. 0) c (λ k. refl))
sum_unsent (e ∷ es) w c = omega (
  arith,
  sum_added (λ k. unsent_by w k e.1) (λ k. unsent (step w e.1).world k es) c,
  sum_call e.1 w c,
  sum_unsent es (step w e.1).world c,
)

-- ---- exchanges of data

length_named : (ms : List Mpdu) → length {A = ℕ × ℕ} (map (λ m. (m.id, m.number % 4096)) ms) ≡ length ms
length_named [] = refl
length_named (m ∷ ms) = omega (arith, length_named ms)

length_batch : (ms : List Mpdu) → length {A = ℕ} (map (λ m. m.id) ms) ≡ length ms
length_batch [] = refl
length_batch (m ∷ ms) = omega (arith, length_batch ms)

-- A part of a reply has the frames of its exchange.
pub part_length : (batch plain : Bool) (c : Content) →
    frames_in_part (part_of batch plain c) ≡ length (mpdus_of c)
part_length false false (Frames ms) = length_named ms
part_length false true (Frames ms) = length_named ms
part_length true plain (Frames ms) = length_batch ms
part_length false plain (Request start) = refl
part_length true plain (Request start) = refl

data_sent : (batch plain : Bool) (c : Content) (number station tid charge : ℕ) (more eosp : Bool) →
    (is_request c ≡ false → 1 ≤ length (mpdus_of c)) →
    data_exchanges_by (Send number station tid charge (part_of batch plain c) more eosp)
    ≤ frames_sent_by (Send number station tid charge (part_of batch plain c) more eosp)
data_sent false false (Frames ms) number station tid charge more eosp some =
    omega (arith, some refl, part_length false false (Frames ms))
data_sent false true (Frames ms) number station tid charge more eosp some =
    omega (arith, some refl, part_length false true (Frames ms))
data_sent true plain (Frames ms) number station tid charge more eosp some =
    omega (arith, some refl, part_length true plain (Frames ms))
data_sent false plain (Request start) number station tid charge more eosp some = omega arith
data_sent true plain (Request start) number station tid charge more eosp some = omega arith

data_step : (w : World) (note : Note) → AllSome (step w note).world →
    data_exchanges_by (step w note).reply ≤ frames_sent_by (step w note).reply
data_step w note a = elim (opens_step w note) [
  | inl none ↦ omega (arith, none.exchanges)
  | inr x ↦ subst (λ (r : ReplyNote). data_exchanges_by r ≤ frames_sent_by r) (sym x.reply)
      (data_sent x.exchange.batch x.exchange.plain x.exchange.content x.exchange.number x.exchange.station
      x.exchange.tid x.exchange.charge x.exchange.more x.exchange.eosp
      (at_some HasSome (step w note).world.opened x.exchange a x.among))
]

data_run : (h : List Entry) (l : List ℕ) (w : World) → AreAtMost greatest_body h → IsKept (books w) →
    Steady l w → IsStocked greatest_body w → Traits w → AllSome w →
    data_exchanges w h ≤ frames_sent_in w h
data_run [] l w short k y i z a = omega arith
data_run (e ∷ es) l w short k y i z a =
    let b : AllSome (step w e.1).world = some_step w e.1 y.lawful (fit w k i z) a in
    omega (
      arith,
      data_step w e.1 b,
      data_run es (l ++ named_by (step w e.1).reply) (step w e.1).world short.1 (kept_step w e.1 k)
          (steady_step l w e.1 y) (stocked_step greatest_body l w e.1 short.0 y i)
          (traits_step w e.1 z) b,
    )

-- ---- the law

pub keeps_tries : (config : Config) (past : List Entry) → IsInRange config →
    KeepsTries config past (world_after (opening config) past)
keeps_tries config past range =
    let w : World = world_after (opening config) past in
    let some : 1 ≤ config.attempts = omega (arith, range.attempts.0) in
    let few : (k : ℕ) → tries (opening config) k past ≤ config.attempts + unsent (opening config) k past =
    λ k.
    (let f : 0 + tries (opening config) k past ≤ config.attempts + (0 + unsent (opening config) k past) =
    each_run past [] no_count config.attempts (opening config) (steady_first config) (counts_first config)
    some
    refl (λ s t i. none_given config.attempts some) (λ i. omega arith) k in omega (arith, f)) in
    let c : Counts (count_in config past) w = counts config past in
    record {
      each = few;
      accepted = λ k far. (c.fresh k far).0;
      counted = λ s t n. c.slots s t (n - (session w s t).first);
      all = omega (
        arith,
        sum_run past (opening config) (accepted_count w) (λ k far. (c.fresh k far).0),
        sum_most (λ k. tries (opening config) k past) (λ k. unsent (opening config) k past) config.attempts
            (accepted_count w) few,
        sum_unsent past (opening config) (accepted_count w),
      );
      exchanges = λ short. data_run past [] (opening config) short (kept_opening config range)
          (steady_first config) (stocked_first greatest_body config) (λ s. tt) tt;
      requests = few_requests config past;
    }

pub tries_law : (config : Config) (h : List Entry) → IsInRange config → TriesLaw config h
tries_law config h range m = keeps_tries config (take m h) range
