-- Proves that the charge of an exchange is at least 1 and at most the longest of its class, because its
-- frames were selected to fit the greatest time.
use Rattle.std.proofs.Common.{◌≡◌, refl, ap, sym, ◌∙◌, subst, arith, ℕ, zero, suc, ◌+◌, ◌-◌, ◌*◌, ◌<◌, ◌≤◌, Bool, true, false, ◌||◌, if◌then◌else◌, List, [], ◌++◌, Option, Some, None, unwrap_or, option_map, not, length, ◌==◌, max, nat_le, inl, inr}
use Rattle.std.proofs.Math.Nat.{le-max_left, le-max_right, max-le}
use Rattle.std.proofs.lemmas.Bool.{and_parts, leb-true, ltb-true}
use Rattle.std.proofs.lemmas.Bool.Decides.{nat_tests}
use Rattle.wf_frame.specs.declared.classes.Class.{Class}
use Rattle.wf_def_lists.specs.Table.{at, longest_front}
use Rattle.wf_def_air.specs.Airtime.{Rate, Ht, Vht, He, Ofdm, Dsss, IsRate, is_rate, legacy_of, is_allowed, IsAllowed, is_single, lowest_rate, slow_dsss_mbps, fast_dsss_mbps, slow_mbps, middle_mbps, fast_mbps, kbps, data_time, sifs, is_dsss, control_mbps, request_time, answer_time, ack_time, longest_answer, data_charge, plain_charge, request_charge}
use Rattle.wf_def_world.proofs.Fitting.{front_passes}
use Rattle.wf_def_air.specs.Fit.{aggregate_octets, plain_octets, longest_alone, alone_at, time_allowed}
use Rattle.wf_def_air.proofs.Times.{single_time, time_less}
use Rattle.wf_def_world.specs.Rates.{IsRateWith}
use Rattle.wf_def_world.specs.World.{World, Bounds, Station, Mpdu, no_station, station, session, is_wide, is_plain}
use Rattle.wf_def_world.specs.FlowQueues.{Taken, taken_for_tid}
use Rattle.wf_def_agreement.specs.Session.{request_due}
use Rattle.wf_def_world.specs.CanSend.{can_give}
use Rattle.wf_def_world.specs.Exchanges.{Aggregate, Prepared, cap_of, lens_of, fits_in, most_frames, waiting_mpdus, longest_fitting, fresh_mpdus, with_number, with_fresh, aggregate_of, prepared_data, prepared_request, prepared_exchange, longest_computed}
use Rattle.wf_law_runs.proofs.Common.Limits.{bounds_take, bounds_with_number, bounds_filled}
use Rattle.wf_law_runs.proofs.Deficits.Books.{Account, account, Books, books}
use Rattle.wf_law_runs.proofs.Deficits.BookSteps.{books_take, books_with_number, books_filled}

-- ---- the rate of a station in the books

abbrev rate_or : Option Account → Rate
rate_or None = lowest_rate
rate_or (Some a) = a.rate

rate_is : (o : Option Station) → (unwrap_or o no_station).rate ≡ rate_or (option_map account o)
rate_is None = refl
rate_is (Some x) = refl

rate_same : (v w : World) (s : ℕ) → books v ≡ books w → (station v s).rate ≡ (station w s).rate
rate_same v w s e = rate_is (at None v.stations s)
    ∙ (ap (λ (b : Books). rate_or (b.accounts s)) e ∙ sym (rate_is (at None w.stations s)))

-- The data of frames with these octets of encryption takes at most the time that a frame alone may take, or
-- more if an aggregate may take more.
abbrev IsBrief : Rate → ℕ → ℕ → List Mpdu → Type 0
IsBrief r overhead air ms = data_time r (aggregate_octets (lens_of overhead ms)) ≤ max air (alone_at r)

-- The same, for frames to a station.
abbrev pub IsTimely : World → ℕ → List Mpdu → Type 0
IsTimely w s ms = IsBrief (station w s).rate w.config.overhead w.bounds.air ms

timely_same : (v w : World) (s : ℕ) (ms : List Mpdu) → books v ≡ books w → v.bounds ≡ w.bounds →
    IsTimely w s ms → IsTimely v s ms
timely_same v w s ms e k h =
    subst (λ (r : Rate). IsBrief r v.config.overhead v.bounds.air ms) (sym (rate_same v w s e))
    (subst (λ (n : ℕ). IsBrief (station w s).rate n v.bounds.air ms)
    (sym (ap (λ (b : Books). b.config.overhead) e))
    (subst (λ (b : Bounds). IsBrief (station w s).rate w.config.overhead b.air ms) (sym k) h))

-- No frames may take longer than this.
allowed_most : (r : Rate) (air : ℕ) (lens : List ℕ) → time_allowed r air lens ≤ max air (alone_at r)
allowed_most r air lens = go (nat_le (length lens) 1)
  where
    go : (b : Bool) → (if b then max air (alone_at r) else air) ≤ max air (alone_at r)
    go true = omega arith
    go false = le-max_left air (alone_at r)

timely_fits : (w : World) (s : ℕ) (ms : List Mpdu) → fits_in w s ms ≡ true → IsTimely w s ms
timely_fits w s ms h =
    let parts = and_parts _ _ h in
    let lens : List ℕ = lens_of w.config.overhead ms in
    let r : Rate = (station w s).rate in
    let time : data_time r (aggregate_octets lens) ≤ time_allowed r w.bounds.air lens =
    leb-true _ _ (and_parts _ _ parts.1).1 in
    omega (arith, time, allowed_most r w.bounds.air lens)

-- An empty list of frames takes at most the greatest time.
timely_none : (w : World) (s : ℕ) → IsRate (station w s).rate → IsTimely w s []
timely_none w s k =
    let r : Rate = (station w s).rate in
    let single : data_time r 0 ≤ alone_at r = single_time r 0 k (omega arith) in
    omega (arith, single, le-max_right w.bounds.air (alone_at r))

timely_fitting : (ms : List Mpdu) (w : World) (s : ℕ) → IsTimely w s [] →
    IsTimely w s (longest_fitting w s ms)
unfolding longest_fitting
timely_fitting ms w s h = elim (front_passes (fits_in w s) ms) [
  | inl none ↦ subst (IsTimely w s) (sym none) h
  | inr fits ↦ timely_fits w s (longest_front (fits_in w s) ms) fits
]

filled_if : (b : Bool) (s : ℕ) (x y : Aggregate) → (b ≡ true → IsTimely x.world s x.mpdus) →
    IsTimely y.world s y.mpdus → IsTimely (if b then x else y).world s (if b then x else y).mpdus
filled_if true s x y h k = h refl
filled_if false s x y h k = k

timely_fresh : (n : ℕ) (w : World) (s t : ℕ) (mpdus : List Mpdu) → IsTimely w s mpdus →
    IsTimely (with_fresh n w s t mpdus).world s (with_fresh n w s t mpdus).mpdus
unfolding with_fresh
timely_fresh zero w s t mpdus h = h
timely_fresh (suc n) w s t mpdus h =
    let taken : Taken = taken_for_tid w s t in
    let numbered : World = with_number taken.world s t taken.item in
    let longer : List Mpdu = mpdus ++ fresh_mpdus w s t taken.item in
    let e : books numbered ≡ books w = books_with_number taken.item taken.world s t ∙ books_take w s t in
    let same : numbered.bounds ≡ w.bounds =
    bounds_with_number taken.item taken.world s t ∙ bounds_take w s t in
    filled_if (not (can_give w s t)) s (record { world = w; mpdus = mpdus })
    (if fits_in w s longer then with_fresh n numbered s t longer
    else record { world = numbered; mpdus = mpdus }) (λ _. h)
    (filled_if (fits_in w s longer) s (with_fresh n numbered s t longer)
    (record { world = numbered; mpdus = mpdus })
    (λ b. timely_fresh n numbered s t longer
    (timely_same numbered w s longer e same (timely_fits w s longer b)))
    (timely_same numbered w s mpdus e same h))

timely_filled : (w : World) (s t : ℕ) → IsRate (station w s).rate →
    IsTimely (aggregate_of w s t).world s (aggregate_of w s t).mpdus
unfolding aggregate_of
timely_filled w s t k =
    let waiting : List Mpdu = waiting_mpdus w s t in
    let chosen : List Mpdu = longest_fitting w s waiting in
    let fit : IsTimely w s chosen = timely_fitting waiting w s (timely_none w s k) in
    filled_if (length chosen == length waiting) s (with_fresh (most_frames w s - length chosen) w s t chosen)
    (record { world = w; mpdus = chosen })
    (λ _. timely_fresh (most_frames w s - length chosen) w s t chosen fit) fit

charge_if : (b : Bool) (n : ℕ) (x y : Prepared) → x.charge ≤ n → y.charge ≤ n →
    (if b then x else y).charge ≤ n
charge_if true n x y h k = h
charge_if false n x y h k = k

-- ---- the answer

-- Returns the rate of control frames, by whether the setting `answers` is 0, whether the data is sent with
-- DSSS and is faster than 1 Mbit/s, and whether its rate is at least the highest mandatory rate of OFDM, or
-- the one between.
abbrev mbps_if : Bool → Bool → Bool → Bool → Bool → ℕ
mbps_if off dsss two fast middle =
    if off then fast_mbps else (if dsss then (if two then fast_dsss_mbps else slow_dsss_mbps)
    else (if fast then fast_mbps else (if middle then middle_mbps else slow_mbps)))

-- Returns the pause and the longest answer, by whether the setting `answers` is 0, and whether `legacy` is at
-- most 1.
abbrev answer_if : Bool → Bool → ℕ
answer_if off few = sifs
    + (if off || few then answer_time (if off then fast_mbps else slow_mbps) true
    else ack_time slow_dsss_mbps)

-- A BlockAck to data that is not sent with DSSS takes at most the time of the longest answer.
wide_if : (off two fast middle few wide : Bool) (n : ℕ) →
    n + sifs + answer_time (mbps_if off false two fast middle) wide ≤ n + answer_if off few
wide_if true two fast middle few true n = omega arith
wide_if true two fast middle few false n = omega arith
wide_if false two true middle true true n = omega arith
wide_if false two true middle true false n = omega arith
wide_if false two true middle false true n = omega arith
wide_if false two true middle false false n = omega arith
wide_if false two false true true true n = omega arith
wide_if false two false true true false n = omega arith
wide_if false two false true false true n = omega arith
wide_if false two false true false false n = omega arith
wide_if false two false false true true n = omega arith
wide_if false two false false true false n = omega arith
wide_if false two false false false true n = omega arith
wide_if false two false false false false n = omega arith

-- A request and its BlockAck take at most 1040 microseconds.
request_if : (off dsss two fast middle wide : Bool) →
    request_time (mbps_if off dsss two fast middle) + sifs
    + answer_time (mbps_if off dsss two fast middle) wide ≤ 1040
request_if true dsss two fast middle true = omega arith
request_if true dsss two fast middle false = omega arith
request_if false true true fast middle true = omega arith
request_if false true true fast middle false = omega arith
request_if false true false fast middle true = omega arith
request_if false true false fast middle false = omega arith
request_if false false two true middle true = omega arith
request_if false false two true middle false = omega arith
request_if false false two false true true = omega arith
request_if false false two false true false = omega arith
request_if false false two false false true = omega arith
request_if false false two false false false = omega arith

-- Returns the data time that a frame alone may take, by whether the setting `legacy` is 0 and whether it is
-- 1.
abbrev alone_if : Bool → Bool → ℕ
alone_if none one = if none then 3000 else (if one then 3200 else 19200)

-- A frame alone may take at least 3000 microseconds.
alone_least : (legacy : ℕ) → 3000 ≤ longest_alone legacy
alone_least legacy = go (legacy == 0) (legacy == 1)
  where
    go : (none one : Bool) → 3000 ≤ alone_if none one
    go true one = omega arith
    go false true = omega arith
    go false false = omega arith

ofdm_most : (none one : Bool) → none ≡ false → 3200 ≤ alone_if none one
ofdm_most true one h = absurd (cc h)
ofdm_most false true h = omega arith
ofdm_most false false h = omega arith

dsss_most : (none one : Bool) → none ≡ false → one ≡ false → 19200 ≤ alone_if none one
dsss_most true one h k = absurd (cc h)
dsss_most false true h k = absurd (cc k)
dsss_most false false h k = omega arith

not_zero : (n : ℕ) → 1 ≤ n → (n == 0) ≡ false
not_zero n h = grind (arith, nat_tests)

not_one : (n : ℕ) → 2 ≤ n → (n == 1) ≡ false
not_one n h = grind (arith, nat_tests)

-- A greater setting `legacy` allows a frame alone no less time.
alone_more : (r : Rate) (legacy : ℕ) → IsAllowed legacy r → alone_at r ≤ longest_alone legacy
alone_more (Ht mcs mhz short) legacy h = alone_least legacy
alone_more (Vht mcs mhz short n) legacy h = alone_least legacy
alone_more (He mcs mhz guard n) legacy h = alone_least legacy
alone_more (Ofdm mbps) legacy h =
    ofdm_most (legacy == 0) (legacy == 1) (not_zero legacy (leb-true 1 legacy h))
alone_more (Dsss half) legacy h =
    let more : 2 ≤ legacy = leb-true 2 legacy h in
    dsss_most (legacy == 0) (legacy == 1) (not_zero legacy (omega (arith, more))) (not_one legacy more)

request_most : (answers : ℕ) (r : Rate) (wide : Bool) (n : ℕ) → 3000 ≤ n → request_charge answers r wide ≤ n
request_most answers r wide n h =
    let few : request_charge answers r wide ≤ 1040 = request_if (answers == 0) (is_dsss r)
    (nat_le (1000 * fast_dsss_mbps) (kbps r)) (nat_le (1000 * fast_mbps) (kbps r))
    (nat_le (1000 * middle_mbps) (kbps r)) wide in
    omega (arith, few, h)

-- An Ack at each rate of control frames: at that of DSSS only if `legacy` is above 1.
ack_if : (off dsss two fast middle few : Bool) (n : ℕ) → (dsss ≡ true → few ≡ false) →
    n + sifs + ack_time (mbps_if off dsss two fast middle) ≤ n + answer_if off few
ack_if true dsss two fast middle few n h = omega arith
ack_if false true two fast middle true n h = absurd (cc (h refl))
ack_if false true true fast middle false n h = omega arith
ack_if false true false fast middle false n h = omega arith
ack_if false false two true middle true n h = omega arith
ack_if false false two true middle false n h = omega arith
ack_if false false two false true true n h = omega arith
ack_if false false two false true false n h = omega arith
ack_if false false two false false true n h = omega arith
ack_if false false two false false false n h = omega arith

-- The setting `legacy` is above 1 if it allows a rate of DSSS.
dsss_allowed : (legacy : ℕ) (r : Rate) → IsAllowed legacy r → is_dsss r ≡ true → nat_le legacy 1 ≡ false
dsss_allowed legacy r h is =
    let most : legacy_of r ≤ legacy = leb-true (legacy_of r) legacy h in
    let some : 1 < legacy_of r = ltb-true 1 (legacy_of r) is in
    above legacy (omega (arith, most, some))
  where
    above : (n : ℕ) → 2 ≤ n → nat_le n 1 ≡ false
    above n k = grind (arith, nat_tests)

-- An Ack takes at most the time of the longest answer.
ack_most : (answers legacy : ℕ) (r : Rate) (n : ℕ) → IsAllowed legacy r →
    n + sifs + ack_time (control_mbps answers r) ≤ n + longest_answer answers legacy
ack_most answers legacy r n h =
    ack_if (answers == 0) (is_dsss r) (nat_le (1000 * fast_dsss_mbps) (kbps r))
    (nat_le (1000 * fast_mbps) (kbps r)) (nat_le (1000 * middle_mbps) (kbps r)) (nat_le legacy 1) n
    (dsss_allowed legacy r h)

-- The BlockAck of data at a rate with aggregates takes at most the time of the longest answer.
answer_most : (answers legacy : ℕ) (r : Rate) (wide : Bool) (n : ℕ) → is_single r ≡ false →
    n + sifs + answer_time (control_mbps answers r) wide ≤ n + longest_answer answers legacy
answer_most answers legacy (Ht mcs mhz short) wide n h =
    wide_if (answers == 0) (nat_le (1000 * fast_dsss_mbps) (kbps (Ht mcs mhz short)))
    (nat_le (1000 * fast_mbps) (kbps (Ht mcs mhz short)))
    (nat_le (1000 * middle_mbps) (kbps (Ht mcs mhz short))) (nat_le legacy 1) wide n
answer_most answers legacy (Vht mcs mhz short streams) wide n h =
    wide_if (answers == 0) (nat_le (1000 * fast_dsss_mbps) (kbps (Vht mcs mhz short streams)))
    (nat_le (1000 * fast_mbps) (kbps (Vht mcs mhz short streams)))
    (nat_le (1000 * middle_mbps) (kbps (Vht mcs mhz short streams))) (nat_le legacy 1) wide n
answer_most answers legacy (He mcs mhz guard streams) wide n h =
    wide_if (answers == 0) (nat_le (1000 * fast_dsss_mbps) (kbps (He mcs mhz guard streams)))
    (nat_le (1000 * fast_mbps) (kbps (He mcs mhz guard streams)))
    (nat_le (1000 * middle_mbps) (kbps (He mcs mhz guard streams))) (nat_le legacy 1) wide n
answer_most answers legacy (Ofdm mbps) wide n h = absurd (cc h)
answer_most answers legacy (Dsss half) wide n h = absurd (cc h)

-- ---- the charge of data

-- Frames have no more octets without an agreement than in an aggregate.
plain_less : (r : Rate) (lens : List ℕ) → plain_octets r lens ≤ aggregate_octets lens
plain_less (Ht mcs mhz short) lens = omega arith
plain_less (Vht mcs mhz short n) lens = omega arith
plain_less (He mcs mhz guard n) lens = omega arith
plain_less (Ofdm mbps) lens = omega arith
plain_less (Dsss half) lens = omega arith

neither : (a b : Bool) → (a || b) ≡ false → b ≡ false
neither true b h = absurd (cc h)
neither false b h = h

-- Returns the charge of data of these lengths, by whether an Ack answers it.
abbrev charge_by : Bool → ℕ → Rate → List ℕ → Bool → ℕ
charge_by plain answers r lens wide =
    if plain then plain_charge answers r (plain_octets r lens)
    else data_charge answers r (aggregate_octets lens) wide

-- A shorter time before an answer of at most `most`.
shorter : (x y answer most : ℕ) → x ≤ y → x + sifs + answer ≤ x + most → x + sifs + answer ≤ y + most
shorter x y answer most h k = omega (arith, h, k)

-- The charge of data is at most its time in an aggregate and that of the longest answer.
data_most : (plain : Bool) (answers legacy : ℕ) (r : Rate) (lens : List ℕ) (wide : Bool) →
    IsAllowed legacy r → charge_by (plain || is_single r) answers r lens wide
    ≤ data_time r (aggregate_octets lens) + longest_answer answers legacy
data_most plain answers legacy r lens wide allowed = go (plain || is_single r) (neither plain (is_single r))
  where
    go : (b : Bool) → (b ≡ false → is_single r ≡ false) → charge_by b answers r lens wide
        ≤ data_time r (aggregate_octets lens) + longest_answer answers legacy
    go true single = shorter (data_time r (plain_octets r lens)) (data_time r (aggregate_octets lens))
        (ack_time (control_mbps answers r)) (longest_answer answers legacy)
        (time_less r (plain_octets r lens) (aggregate_octets lens) (plain_less r lens))
        (ack_most answers legacy r (data_time r (plain_octets r lens)) allowed)
    go false single = answer_most answers legacy r wide (data_time r (aggregate_octets lens)) (single refl)

-- A greater time of an aggregate allows no less, and neither does a greater setting `legacy`.
max_more : (air cap : ℕ) (r : Rate) (legacy : ℕ) → air ≤ cap → IsAllowed legacy r →
    max air (alone_at r) ≤ max cap (longest_alone legacy)
max_more air cap r legacy h allowed = max-le (omega (arith, h, le-max_left cap (longest_alone legacy)))
    (omega (arith, alone_more r legacy allowed, le-max_right cap (longest_alone legacy)))

-- A charge is at most a cap and an answer, if its data takes no more than the cap.
within_cap : (charge time allowed cap answer most : ℕ) → charge ≤ time + answer → time ≤ allowed →
    allowed ≤ cap → answer ≡ most → charge ≤ cap + most
within_cap charge time allowed cap answer most h k l e = omega (arith, h, k, l, e)

-- The charge of an exchange is at most the longest of a class, if the pull allows no more than the class.
pub charge_most : (w : World) (s t : ℕ) (c : Class) → IsRateWith w.config.legacy (station w s).rate →
    w.bounds.air ≤ cap_of w.config c → (prepared_exchange w s t).charge ≤ longest_computed w.config c
unfolding prepared_exchange prepared_data
charge_most w s t c k within = charge_if (request_due (session w s t)) (longest_computed w.config c)
    (prepared_request w s t) (prepared_data s t (aggregate_of w s t)) request fit
  where
    filled : World
    filled = (aggregate_of w s t).world

    lens : List ℕ
    lens = lens_of filled.config.overhead (aggregate_of w s t).mpdus

    legacy : ℕ
    legacy = w.config.legacy

    alone : ℕ
    alone = longest_alone legacy

    both : (is_rate (station w s).rate ≡ true) × (is_allowed legacy (station w s).rate ≡ true)
    both = and_parts (is_rate (station w s).rate) (is_allowed legacy (station w s).rate) k

    request : (prepared_request w s t).charge ≤ longest_computed w.config c
    request = request_most w.config.answers (station w s).rate (is_wide w s t) (longest_computed w.config c)
        (omega (arith, le-max_right (cap_of w.config c) alone, alone_least legacy))

    same_rate : (station filled s).rate ≡ (station w s).rate
    same_rate = rate_same filled w s (books_filled w s t)

    allowed : IsAllowed legacy (station filled s).rate
    allowed = subst (IsAllowed legacy) (sym same_rate) both.1

    wide : (prepared_data s t (aggregate_of w s t)).charge
        ≤ data_time (station filled s).rate (aggregate_octets lens)
        + longest_answer filled.config.answers legacy
    wide = data_most (is_plain filled s t) filled.config.answers legacy (station filled s).rate lens
        (is_wide filled s t) allowed

    time : data_time (station filled s).rate (aggregate_octets lens)
        ≤ max filled.bounds.air (alone_at (station filled s).rate)
    time = timely_filled w s t both.0

    more : max filled.bounds.air (alone_at (station filled s).rate) ≤ max (cap_of w.config c) alone
    more = subst
        (λ (b : Bounds). max b.air (alone_at (station filled s).rate) ≤ max (cap_of w.config c) alone)
        (sym (bounds_filled w s t))
        (max_more w.bounds.air (cap_of w.config c) (station filled s).rate legacy within allowed)

    same : longest_answer filled.config.answers legacy ≡ longest_answer w.config.answers legacy
    same = ap (λ (b : Books). longest_answer b.config.answers legacy) (books_filled w s t)

    fit : (prepared_data s t (aggregate_of w s t)).charge ≤ longest_computed w.config c
    fit = within_cap (prepared_data s t (aggregate_of w s t)).charge
        (data_time (station filled s).rate (aggregate_octets lens))
        (max filled.bounds.air (alone_at (station filled s).rate))
        (max (cap_of w.config c) alone) (longest_answer filled.config.answers legacy)
        (longest_answer w.config.answers legacy) wide time more same

some_if : (b : Bool) (x y : Prepared) → 1 ≤ x.charge → 1 ≤ y.charge → 1 ≤ (if b then x else y).charge
some_if true x y h k = h
some_if false x y h k = k

-- The pause alone takes some time.
wide_some : (answers : ℕ) (r : Rate) (wide : Bool) (n : ℕ) →
    1 ≤ n + sifs + answer_time (control_mbps answers r) wide
wide_some answers r wide n = omega arith

-- The pause before an Ack too.
ack_some : (answers : ℕ) (r : Rate) (n : ℕ) → 1 ≤ n + sifs + ack_time (control_mbps answers r)
ack_some answers r n = omega arith

-- So the charge of data is some time.
data_some : (plain : Bool) (answers : ℕ) (r : Rate) (lens : List ℕ) (wide : Bool) →
    1 ≤ charge_by plain answers r lens wide
data_some true answers r lens wide = ack_some answers r (data_time r (plain_octets r lens))
data_some false answers r lens wide = wide_some answers r wide (data_time r (aggregate_octets lens))

pub charge_some : (w : World) (s t : ℕ) → 1 ≤ (prepared_exchange w s t).charge
unfolding prepared_exchange prepared_data
charge_some w s t = some_if (request_due (session w s t))
    (prepared_request w s t) (prepared_data s t (aggregate_of w s t))
    (wide_some w.config.answers (station w s).rate (is_wide w s t)
    (request_time (control_mbps w.config.answers (station w s).rate)))
    (data_some (is_plain filled s t || is_single (station filled s).rate) filled.config.answers
    (station filled s).rate
    (lens_of filled.config.overhead (aggregate_of w s t).mpdus) (is_wide filled s t))
  where
    filled : World
    filled = (aggregate_of w s t).world
