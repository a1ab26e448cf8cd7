-- Proves that the octets of a transmission have the fields of its frame or request (`IsSentTo`), and that
-- they fit in the buffer.
use Rattle.std.proofs.Common.{◌≡◌, refl, ap, sym, ◌∙◌, subst, ℕ, zero, suc, ◌+◌, ◌*◌, ◌%◌, ◌<◌, ◌≤◌, Bool, true, false, lit≤, List, [], ◌∷◌, length, Option, Some, None, length-append, arith}
use Rattle.std.specs.Prelude.{slice_get, option_map, option_and_then, if◌then◌else◌, Result, Ok, Err}
use Rattle.std.proofs.lemmas.Bool.{le-ltb}
use Rattle.std.specs.Result.{is_err}
use Rattle.std.proofs.lemmas.List.{take_at}
use Rattle.std.proofs.lemmas.Option.{slice_get-map}
use Rattle.wf_frame.specs.Frames.{FrameValue}
use Rattle.wf_def_lists.specs.Lengths.{greatest_body}
use Rattle.wf_def_lists.specs.Table.{at}
use Rattle.wf_def_agreement.specs.Session.{End}
use Rattle.wf_def_world.specs.World.{World, Exchange, Mpdu, Content, Frames, Request, accepted_count, len_of, exchange, without_exchange, on_share, on_station, with_station}
use Rattle.wf_def_world.specs.Exchanges.{mpdus_of, transmissions, no_mpdu, after_charge, charge_of}
use Rattle.wf_law_runs.specs.Windows.{EachMpdu}
use Rattle.wf_law_runs.proofs.Sent.Lengths.{IsStocked, stocked}
use Rattle.wf_octets.specs.Fields.{number_at, two_octets}
use Rattle.wf_octets.specs.declared.header.header.Header.{Header}
use Rattle.wf_octets.specs.HeaderLayout.{first_octet, flags_octet, qos_octet, header_as_octets}
use Rattle.wf_octets.proofs.HeaderWritten.{qos_begins, qos_long}
use Rattle.wf_octets.specs.BlockLayout.{request, narrow_fragment}
use Rattle.wf_octets.proofs.BlockWritten.{head_begins}
use Rattle.wf_send_parts.specs.declared.exchanges.opened.Sending.TheVariants.{Data}
use Rattle.wf_send_half_model.specs.Half.{TransmitValue}
use Rattle.wf_send_half_model.specs.Standing.{StandsFor, IsReached, sending_of, numbers_on_air}
use Rattle.wf_send_half_model.specs.Ending.{IsLoose, after_close}
use Rattle.wf_send_half_model.specs.Standing.{open_of}
use Rattle.wf_send_half.proofs.Ends.{IsData, sends as data_sent, begun}
use Rattle.wf_path.specs.declared.faults.PathFault.{PathFault}
use Rattle.wf_path.specs.declared.faults.PathFault.TheVariants.{SmallBuffer}
use Rattle.wf_path.specs.Addresses.{made_up}
use Rattle.wf_path.specs.Transmissions.{duration, header_of, data_octets, bar_of, bar_octets, transmission_octets, octets_sent}
use Rattle.std.specs.Result.{result_err}
use Rattle.wf_path.specs.Writing.{room_fault, write_fault}
use Rattle.wf_path.proofs.MadeUp.{plain, sent_plain, write_fault_plain}
use Rattle.wf_cell.specs.Octets.{SaysData, SaysRequest, IsSentTo}

-- ---- what they say

two_read : (n : ℕ) → n < 65536 → number_at (two_octets n) 0 ≡ n
two_read n small = omega arith

-- a frame's source has six octets
abbrev pub HasSource : (ℕ → FrameValue) → Mpdu → Type 0
HasSource bodies m = length (bodies m.id).source ≡ 6

-- its header has 26 octets
pub header_long : (w : World) (bodies : ℕ → FrameValue) (x : Exchange) (m : Mpdu) → HasSource bodies m →
    length (header_as_octets (header_of plain w bodies x m)) ≡ 26
header_long w bodies x m source =
    let h : Header = header_of plain w bodies x m in
    qos_long (first_octet h.kind) (flags_octet h) h.duration h.a1 h.a2 h.a3 (16 * h.seq) (qos_octet h)
    refl refl
    source

-- the Duration fits its two octets
duration_read : (plain : Bool) → number_at (two_octets (duration plain)) 0 ≡ duration plain
duration_read true = refl
duration_read false = refl

data_says : (w : World) (bodies : ℕ → FrameValue) (x : Exchange) (m : Mpdu) → x.tid < 8 →
    HasSource bodies m → SaysData x.station x.tid (m.number % 4096) (data_octets plain w bodies x m)
data_says w bodies x m low source = record {
  header = header_of plain w bodies x m;
  is_for = record {
    layout =
        qos_begins (data_octets plain w bodies x m) (header_of plain w bodies x m) refl refl
        (record { not_both = refl; tid = omega (arith, low) }) (duration_read x.plain)
        (two_read (16 * (m.number % 4096)) (omega arith)) refl refl source
        (take_at (header_as_octets (header_of plain w bodies x m)) (bodies m.id).body 26
        (header_long w bodies x m source));
    kind = refl;
    recipient = refl;
    transmitter = refl;
    tid = low;
  };
  tid_is = refl;
  number_is = refl;
}

bar_says : (w : World) (x : Exchange) (start : ℕ) → x.tid < 8 →
    SaysRequest x.station x.tid (start % 4096) (bar_octets plain w x start)
bar_says w x start low = record {
  bar = bar_of plain w x start;
  is_for = record {
    layout = record {
      size = refl;
      head = head_begins (bar_octets plain w x start) request narrow_fragment (bar_of plain w x start)
          (omega (arith, low)) refl (two_read (16 * (start % 4096) + narrow_fragment) (omega arith)) refl refl
          refl;
    };
    recipient = refl;
    transmitter = refl;
    tid = low;
  };
  tid_is = refl;
  start_is = refl;
}

pub in_list : (ms : List Mpdu) (k : ℕ) → k < length ms → slice_get ms k ≡ Some (at no_mpdu ms k)
in_list [] k below = absurd (omega arith)
in_list (m ∷ ms) zero below = refl
in_list (m ∷ ms) (suc k) below = in_list ms k (omega arith)

with_content : Exchange → Content → Exchange
with_content x content = record x { content = content }

of_content : (w : World) (bodies : ℕ → FrameValue) (x : Exchange) (k : ℕ) (octets : List ℕ) → x.tid < 8 →
    (content : Content) → k < transmissions content →
    ((m : Mpdu) → slice_get (mpdus_of content) k ≡ Some m → HasSource bodies m) →
    transmission_octets plain w bodies (record x { content = content }) k ≡ Some octets →
    IsSentTo x.station x.tid k content octets
of_content w bodies x k octets low (Frames mpdus) few sources sent =
    let m : Mpdu = at no_mpdu mpdus k in
    let z : Exchange = record x { content = Frames mpdus } in
    let is : Some (data_octets plain w bodies z m) ≡ Some octets =
    sym (slice_get-map (data_octets plain w bodies z) mpdus k
    ∙ ap (option_map (data_octets plain w bodies z)) (in_list mpdus k few)) ∙ sent in
    let same : data_octets plain w bodies z m ≡ octets = cc in
    subst (SaysData x.station x.tid (m.number % 4096)) same
    (data_says w bodies z m low (sources m (in_list mpdus k few)))
of_content w bodies x zero octets low (Request start) few sources sent =
    let z : Exchange = record x { content = Request start } in
    let same : bar_octets plain w z start ≡ octets = cc in
    subst (SaysRequest x.station x.tid (start % 4096)) same (bar_says w z start low)
of_content w bodies x (suc k) octets low (Request start) few sources sent = absurd (omega arith)

pub octets_say : (w : World) (bodies : ℕ → FrameValue) (e k : ℕ) (x : Exchange) (octets : List ℕ) →
    exchange w e ≡ Some x → x.tid < 8 → k < transmissions x.content →
    ((m : Mpdu) → slice_get (mpdus_of x.content) k ≡ Some m → HasSource bodies m) →
    octets_sent made_up w bodies e k ≡ Some octets → IsSentTo x.station x.tid k x.content octets
octets_say w bodies e k x octets known low few sources sent =
    of_content w bodies x k octets low x.content few sources
    (sym (ap (option_and_then (λ y. transmission_octets plain w bodies y k)) known)
    ∙ sym (sent_plain w bodies e k) ∙ sent)

-- ---- the buffer has room for them

frames_same : (w : World) (e : ℕ) (x : Exchange) →
    (after_charge (without_exchange w e) x None).frames ≡ w.frames
unfolding after_charge without_exchange on_share on_station with_station
frames_same w e x = refl

each_at : (P : Mpdu → Type 0) (ms : List Mpdu) (i : ℕ) (m : Mpdu) → EachMpdu P ms → slice_get ms i ≡ Some m →
    P m
each_at P [] i m h is = absurd (cc is)
each_at P (n ∷ ns) zero m h is = let same : n ≡ m = cc is in subst P same h.0
each_at P (n ∷ ns) (suc i) m h is = each_at P ns i m h.1 is

data_of : (c : Content) (i : ℕ) (m : Mpdu) → slice_get (mpdus_of c) i ≡ Some m →
    sending_of c ≡ Data (numbers_on_air (mpdus_of c))
data_of (Frames mpdus) i m is = refl
data_of (Request start) i m is = absurd (cc is)

module _ (v : TransmitValue) (w : World) (bodies : ℕ → FrameValue) (h : StandsFor v w bodies) (e : ℕ)
    (x : Exchange) (known : exchange w e ≡ Some x) where
  -- the frame of a transmission is accepted
  pub is_accepted : (k : ℕ) (m : Mpdu) → slice_get (mpdus_of x.content) k ≡ Some m → m.id < accepted_count w
  is_accepted k m among =
      let sends : IsData x.content (numbers_on_air (mpdus_of x.content)) =
      data_sent v w bodies h e x known None (numbers_on_air (mpdus_of x.content))
      (data_of x.content k m among) in
      let ending = begun v w bodies h e x known None (numbers_on_air (mpdus_of x.content))
      (data_of x.content k m among) (λ n. End.Missed) in
      let there : slice_get sends.mpdus k ≡ Some m =
      ap (λ (c : Content). slice_get (mpdus_of c) k) (sym sends.content) ∙ among in
      let loose : IsLoose (after_close v (open_of x) (charge_of None x))
      (after_charge (without_exchange w x.number) x
      None) m =
      each_at _ sends.mpdus k m ending.loose there in
      omega (arith, loose.low, ap length (frames_same w x.number x))

  -- it has a source of six octets
  pub has_source : (k : ℕ) (m : Mpdu) → slice_get (mpdus_of x.content) k ≡ Some m → HasSource bodies m
  has_source k m among = (h.parts.others.notes m.id (is_accepted k m among)).source

  -- it has at most 2304 octets
  body_short : (k : ℕ) (m : Mpdu) → slice_get (mpdus_of x.content) k ≡ Some m →
      length (bodies m.id).body ≤ 2304
  body_short k m among =
      let r : IsReached w = h.reached in
      let all : IsStocked greatest_body w = subst (IsStocked greatest_body) (sym r.after)
      (stocked greatest_body w.config r.history r.lengths.1) in
      omega (arith, all.short m.id, ap len_of (h.parts.others.notes m.id (is_accepted k m among)).note)

  -- so its octets are at most 2330, in any exchange
  data_short : (y : Exchange) (k : ℕ) (m : Mpdu) → slice_get (mpdus_of x.content) k ≡ Some m →
      length (data_octets plain w bodies y m) ≤ 2330
  data_short y k m among = omega (
    arith,
    body_short k m among,
    header_long w bodies y m (has_source k m among),
    length-append (header_as_octets (header_of plain w bodies y m)) (bodies m.id).body,
  )

  content_short : (k : ℕ) (octets : List ℕ) (content : Content) → x.content ≡ content →
      transmission_octets plain w bodies (record x { content = content }) k ≡ Some octets → length octets ≤
      2330
  content_short k octets (Frames mpdus) is sent =
      of (slice_get mpdus k) refl (sym (slice_get-map
      (data_octets plain w bodies (record x { content = Frames mpdus })) mpdus k) ∙ sent)
    where
      of : (o : Option Mpdu) → slice_get mpdus k ≡ o →
          option_map (data_octets plain w bodies (record x { content = Frames mpdus })) o ≡ Some octets →
          length octets ≤ 2330
      of None none sent = absurd (cc)
      of (Some m) among sent =
          let same : data_octets plain w bodies (record x { content = Frames mpdus }) m ≡ octets = cc in
          subst (λ (xs : List ℕ). length xs ≤ 2330) same
          (data_short (record x { content = Frames mpdus }) k m
          (ap (λ (c : Content). slice_get (mpdus_of c) k) is ∙ among))
  content_short zero octets (Request start) is sent =
      let same : bar_octets plain w (record x { content = Request start }) start ≡ octets = cc in
      subst (λ (xs : List ℕ). length xs ≤ 2330) same (lit≤ tt)
  content_short (suc k) octets (Request start) is sent = absurd (cc)

  content_there : (k : ℕ) (content : Content) → k < transmissions content →
      transmission_octets plain w bodies (record x { content = content }) k ≡ None → ⊥
  content_there k (Frames mpdus) few none =
      let z : Exchange = record x { content = Frames mpdus } in
      let some : Some (data_octets plain w bodies z (at no_mpdu mpdus k)) ≡ None =
      sym (slice_get-map (data_octets plain w bodies z) mpdus k
      ∙ ap (option_map (data_octets plain w bodies z)) (in_list mpdus k few)) ∙ none in
      cc
  content_there zero (Request start) few none = cc
  content_there (suc k) (Request start) few none = absurd (omega arith)

  -- writing it does not fail
  pub no_write_fault : (k : ℕ) → k < transmissions x.content → write_fault made_up w bodies e k 2330 ≡ None
  no_write_fault k few = write_fault_plain w bodies e k 2330 ∙ rw known (of (transmission_octets plain w
      bodies x k) refl)
    where
      of : (o : Option (List ℕ)) → transmission_octets plain w bodies x k ≡ o → room_fault 2330 o ≡ None
      of None none = absurd (content_there k x.content few none)
      of (Some octets) is = ap (λ b. if b then Some (SmallBuffer (length octets)) else None)
          (le-ltb 2330 (length octets) (content_short k octets x.content refl is))

pub never_fails : (result : Result ℕ PathFault) → result_err result ≡ None → is_err result ≡ true → ⊥
never_fails (Ok n) none failed = cc
never_fails (Err f) none failed = cc
