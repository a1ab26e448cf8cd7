-- Proves that the number of a data transmission flies in the window of its TID, and that its
-- frame is the frame with its id. The end of its exchange could begin, so the facts of an ending hold.
use Rattle.std.proofs.Common.{◌≡◌, refl, ap, sym, ◌∙◌, subst, ℕ, zero, suc, ◌+◌, ◌<◌, ◌==◌, Bool, true, List, [], ◌∷◌, length, map, Option, Some, None, option_map, eq-eqb}
use Rattle.std.specs.Prelude.{find, option_and_then, slice_get}
use Rattle.std.proofs.lemmas.Bool.{or_left, or_right}
use Rattle.std.proofs.lemmas.List.{length-map}
use Rattle.std.proofs.lemmas.Option.{slice_get-map}
use Rattle.wf_frame.specs.Frames.{FrameValue}
use Rattle.wf_def_lists.specs.Table.{has}
use Rattle.wf_def_agreement.specs.Session.{Session, End, slot, is_settled}
use Rattle.wf_def_world.specs.World.{World, Exchange, Mpdu, Content, Frames, Request, session, exchange, without_exchange}
use Rattle.wf_def_world.specs.Exchanges.{mpdus_of, after_charge, with_all_settled, charge_of}
use Rattle.wf_law_runs.specs.Windows.{EachMpdu}
use Rattle.wf_send_parts.specs.declared.exchanges.opened.Open.{Open}
use Rattle.wf_send_parts.specs.declared.exchanges.opened.Sending.TheVariants.{Data}
use Rattle.wf_send_parts.specs.Exchanges.{number_carried, transmissions_of}
use Rattle.wf_send_parts.specs.Window.{WindowStandsFor as WindowStandsFor, IsNumber, state_at, holds_parcel, on_air}
use Rattle.wf_send_parts.proofs.Numbers.{open_number}
use Rattle.wf_send_parts.proofs.Callers.{state_is}
use Rattle.wf_send_parts.specs.Windows.{window_of}
use Rattle.wf_send_parts.specs.Ending.{IsFlyingIn}
use Rattle.wf_send_half_model.specs.Half.{TransmitValue}
use Rattle.wf_send_half_model.specs.Standing.{sending_of, open_of, numbers_on_air, StandsFor}
use Rattle.wf_send_half_model.specs.Ending.{after_close, ending_of, IsLoose, IsEnding}
use Rattle.wf_send_half_model.specs.Views.{Agreements}
use Rattle.wf_send_half_model.proofs.Endings.{closed_agreements, open_sent}
use Rattle.wf_send_half.specs.Half.{HasWorld}
use Rattle.wf_send_half.proofs.Dones.{IsKnown, known_of, none_open, low_tid as low}
use Rattle.wf_send_half.proofs.Ends.{IsData, sends as data_sent, begun}
use Rattle.wf_octets.specs.HeaderLayout.{header_as_octets}
use Rattle.wf_path.specs.Addresses.{Addresses}
use Rattle.wf_path.specs.Transmissions.{transmission_id, transmission_tag, transmission_bare, transmission_header, id_sent, tag_sent, bare_sent, header_of, header_sent, is_last_frame}
use Rattle.wf_path.specs.Writing.{no_data_fault, write_header_fault}
use Rattle.std.specs.Option.{option_map_or}
use Rattle.wf_path.specs.declared.faults.PathFault.TheVariants.{NoExchange, BadIndex}
use Rattle.wf_octets.specs.declared.header.header.Header.{Header}
use Rattle.wf_path.specs.Flights.{IsInFlight, Flies}
use Rattle.wf_path.proofs.LastFrames.{last_at}
use Rattle.wf_path.proofs.Opened.{live, within}

-- ---- one element of a list

each_at : (P : Mpdu → Type 0) (ms : List Mpdu) (i : ℕ) (m : Mpdu) → EachMpdu P ms → slice_get ms i ≡ Some m →
    P m
each_at P [] i m h is = absurd (cc is)
each_at P (n ∷ ns) zero m h is = let same : n ≡ m = cc is in subst P same h.0
each_at P (n ∷ ns) (suc i) m h is = each_at P ns i m h.1 is

has_at : (xs : List ℕ) (i n : ℕ) → slice_get xs i ≡ Some n → has xs n ≡ true
has_at [] i n is = absurd (cc is)
has_at (x ∷ xs) zero n is = let same : x ≡ n = cc is in or_left (x == n) (has xs n) (eq-eqb x n same)
has_at (x ∷ xs) (suc i) n is = or_right (x == n) (has xs n) (has_at xs i n is)

-- an exchange with a frame sends data
data_of : (c : Content) (i : ℕ) (m : Mpdu) → slice_get (mpdus_of c) i ≡ Some m →
    sending_of c ≡ Data (numbers_on_air (mpdus_of c))
data_of (Frames mpdus) i m is = refl
data_of (Request start) i m is = absurd (cc is)

-- its number, modulo 4096
air_of : (c : Content) (i seq : ℕ) (m : Mpdu) → slice_get (mpdus_of c) i ≡ Some m →
    number_carried (sending_of c) i ≡ Some seq → seq ≡ on_air m.number
air_of (Frames mpdus) i seq m is carries =
    let there : slice_get (numbers_on_air mpdus) i ≡ Some (on_air m.number) =
    slice_get-map (λ (k : Mpdu). on_air k.number) mpdus i
    ∙ ap (option_map (λ (k : Mpdu). on_air k.number)) is in
    cc (there, carries)
air_of (Request start) i seq m is carries = absurd (cc is)

-- it has one transmission for each frame
counted : (c : Content) (i : ℕ) (m : Mpdu) → slice_get (mpdus_of c) i ≡ Some m →
    transmissions_of (sending_of c) ≡ length (mpdus_of c)
counted (Frames mpdus) i m is = length-map mpdus (λ k. on_air k.number)
counted (Request start) i m is = absurd (cc is)

-- ---- one transmission

module _ (v : TransmitValue) (o : Open) (index : ℕ) (w : World) (bodies : ℕ → FrameValue) (x : Exchange)
    (m : Mpdu) (f : IsInFlight v o index w bodies x m) where
  abbrev y : Session
  y = session w x.station x.tid

  abbrev mpdus : List Mpdu
  mpdus = mpdus_of x.content

  abbrev sends : IsData x.content (numbers_on_air mpdus)
  sends = data_sent v w bodies f.stands f.number x f.known None (numbers_on_air mpdus)
      (data_of x.content index m f.among)

  -- the end of its exchange could begin
  ending : IsEnding (after_close v (open_of x) (charge_of None x))
      (after_charge (without_exchange w x.number) x None) bodies x.station x.tid x.number
      (λ n. End.Missed) sends.mpdus
      (with_all_settled (after_charge (without_exchange w x.number) x None) x.station x.tid
      (λ n. End.Missed) sends.mpdus)
  ending = begun v w bodies f.stands f.number x f.known None (numbers_on_air mpdus)
      (data_of x.content index m f.among) (λ n. End.Missed)

  at : slice_get sends.mpdus index ≡ Some m
  at = ap (λ (c : Content). slice_get (mpdus_of c) index) (sym sends.content) ∙ f.among

  same_session : session (after_charge (without_exchange w x.number) x None) x.station x.tid ≡ y
  same_session = ap (λ (a : Agreements). a.sessions x.station x.tid) (closed_agreements w x None)

  flies : IsFlyingIn y (ending_of (after_charge (without_exchange w x.number) x None).config x.number
      (λ n. End.Missed))
      m.number
  flies =
      let among : has (map (λ (k : Mpdu). k.number) sends.mpdus) m.number ≡ true =
      has_at (map (λ (k : Mpdu). k.number) sends.mpdus) index m.number
      (slice_get-map (λ (k : Mpdu). k.number) sends.mpdus index
      ∙ ap (option_map (λ (k : Mpdu). k.number)) at) in
      subst (λ (z : Session). IsFlyingIn z (ending_of
      (after_charge (without_exchange w x.number) x None).config x.number (λ n. End.Missed)) m.number)
      same_session
      (ending.flying.each m.number among)

  pub held : holds_parcel (slot y m.number).state ≡ true
  held = ap holds_parcel flies.flies

  pub carried : (slot y m.number).id ≡ m.id
  carried = subst (λ (z : Session). (slot z m.number).id ≡ m.id) same_session
      (each_at _ sends.mpdus index m ending.ids at)

  -- its frame has its id
  pub own_id : (bodies m.id).id ≡ m.id
  own_id =
      let loose : IsLoose (after_close v (open_of x) (charge_of None x))
      (after_charge (without_exchange w x.number) x
      None) m =
      each_at _ sends.mpdus index m ending.loose at in
      (ending.parts.others.notes m.id loose.low).id

  pub window_stands : WindowStandsFor (window_of v.windows o.station o.tid) y bodies
  window_stands =
      subst (λ (k : Open). WindowStandsFor (window_of v.windows k.station k.tid) y bodies) (sym f.same)
      (f.stands.parts.windows.all.stands x.station x.tid (live v w bodies f.stands f.number x f.known)
      (low v w bodies f.stands f.number x f.known))

  pub station_within : o.station < v.config.stations
  station_within = subst (λ (k : Open). k.station < v.config.stations) (sym f.same)
      (within v w bodies f.stands f.number x f.known)

  -- whether it is the last one of its exchange
  pub last : (index + 1 == transmissions_of o.sending) ≡ is_last_frame x m
  last =
      ap (λ (k : Open). index + 1 == transmissions_of k.sending) f.same
      ∙ ap (λ n. index + 1 == n) (counted x.content index m f.among)
      ∙ last_at x index y.first m (open_sent w f.stands.reached f.number x f.known).rising f.among

  pub tid_low : o.tid < 8
  tid_low = subst (λ (k : Open). k.tid < 8) (sym f.same) (low v w bodies f.stands f.number x f.known)

  -- by its number modulo 4096
  module _ (seq : ℕ) (carries : number_carried o.sending index ≡ Some seq) where
    pub air : seq ≡ on_air m.number
    air = air_of x.content index seq m f.among (subst
        (λ (k : Open). number_carried k.sending index ≡ Some seq) f.same carries)

    pub is_number : IsNumber y m.number seq
    is_number = open_number y m.number seq flies.from_first (ap is_settled flies.flies) air

    pub held_there : holds_parcel (state_at (window_of v.windows o.station o.tid) seq) ≡ true
    held_there = ap holds_parcel (state_is (window_of v.windows o.station o.tid) y bodies window_stands
        m.number seq is_number) ∙ held

-- for a transmission that flies in some world
module _ (v : TransmitValue) (o : Open) (index seq : ℕ) (r : Flies v o index seq) where
  pub some_within : o.station < v.config.stations
  some_within = station_within v o index r.world r.bodies r.exchange_is r.mpdu r.flight

  pub some_low : o.tid < 8
  some_low = tid_low v o index r.world r.bodies r.exchange_is r.mpdu r.flight

  pub some_held : holds_parcel (state_at (window_of v.windows o.station o.tid) seq) ≡ true
  some_held = held_there v o index r.world r.bodies r.exchange_is r.mpdu r.flight seq r.carries

-- ---- found by its number

record HasMpdu (c : Content) (i : ℕ) : Type 0 where
  m : Mpdu
  among : slice_get (mpdus_of c) i ≡ Some m

mpdu_at : (c : Content) (i seq : ℕ) → number_carried (sending_of c) i ≡ Some seq → HasMpdu c i
mpdu_at (Request start) i seq carries = absurd (cc carries)
mpdu_at (Frames mpdus) i seq carries = by_found (slice_get mpdus i) refl
  where
    by_found : (found : Option Mpdu) → slice_get mpdus i ≡ found → HasMpdu (Frames mpdus) i
    by_found None is =
        let none : slice_get (numbers_on_air mpdus) i ≡ None =
        slice_get-map (λ (k : Mpdu). on_air k.number) mpdus i
        ∙ ap (option_map (λ (k : Mpdu). on_air k.number)) is in
        absurd (cc (none, carries))
    by_found (Some m) is = record { m = m; among = is }

none_at : (c : Content) (i : ℕ) → number_carried (sending_of c) i ≡ None → slice_get (mpdus_of c) i ≡ None
none_at (Request start) i none = refl
none_at (Frames mpdus) i none = by_found (slice_get mpdus i) refl
  where
    by_found : (found : Option Mpdu) → slice_get mpdus i ≡ found → slice_get mpdus i ≡ None
    by_found None is = is
    by_found (Some m) is =
        let some : slice_get (numbers_on_air mpdus) i ≡ Some (on_air m.number) =
        slice_get-map (λ (k : Mpdu). on_air k.number) mpdus i
        ∙ ap (option_map (λ (k : Mpdu). on_air k.number)) is in
        absurd (cc (some, none))

-- the exchange and the transmission in a world
pub record IsFound (v : TransmitValue) (w : World) (bodies : ℕ → FrameValue) (e : ℕ) (o : Open)
    (index : ℕ) : Type 0 where
  pub exchange_is : Exchange
  pub mpdu : Mpdu
  pub known : exchange w e ≡ Some exchange_is
  pub flight : IsInFlight v o index w bodies exchange_is mpdu

module _ (v : TransmitValue) (e : ℕ) (o : Open) (index seq : ℕ)
    (is : Some o ≡ find (λ x. x.number == e) v.opened)
    (carries : number_carried o.sending index ≡ Some seq) where
  pub found_in : (w : World) (bodies : ℕ → FrameValue) → StandsFor v w bodies → IsFound v w bodies e o index
  found_in w bodies h =
      let k : IsKnown w e o = known_of v w bodies h e o is in
      let at : HasMpdu k.exchange_is.content index =
      mpdu_at k.exchange_is.content index seq (subst
      (λ (z : Open). number_carried z.sending index ≡ Some seq) k.same carries) in
      record {
        exchange_is = k.exchange_is;
        mpdu = at.m;
        known = k.known;
        flight = record { stands = h; number = e; known = k.known; same = k.same; among = at.among };
      }

  pub some_flies : HasWorld v → Flies v o index seq
  some_flies some =
      let k : IsFound v some.world some.bodies e o index = found_in some.world some.bodies some.stands in
      record {
        world = some.world;
        bodies = some.bodies;
        exchange_is = k.exchange_is;
        mpdu = k.mpdu;
        flight =
            k.flight;
        carries = carries;
      }

  -- the frame of its id
  pub id_is : (w : World) (bodies : ℕ → FrameValue) (h : StandsFor v w bodies) (frame : FrameValue) (id : ℕ) →
      ((x : Exchange) (m : Mpdu) → IsInFlight v o index w bodies x m → frame ≡ bodies m.id) → id ≡ frame.id →
      Some id ≡ id_sent w e index
  id_is w bodies h frame id frame_is is_id =
      let k : IsFound v w bodies e o index = found_in w bodies h in
      let own : id ≡ k.mpdu.id = is_id ∙ ap (λ (f : FrameValue). f.id)
      (frame_is k.exchange_is k.mpdu k.flight) ∙ own_id v o index w bodies k.exchange_is k.mpdu k.flight
      in
      ap Some own ∙ sym (ap (option_map (λ (z : Mpdu). z.id)) k.flight.among)
      ∙ sym (ap (option_and_then (λ x. transmission_id x index)) k.known)

  -- its tag
  pub tag_is : (w : World) (bodies : ℕ → FrameValue) (h : StandsFor v w bodies) (frame : FrameValue)
      (tag : ℕ) → ((x : Exchange) (m : Mpdu) → IsInFlight v o index w bodies x m → frame ≡ bodies m.id) →
      tag ≡ frame.tag → Some tag ≡ tag_sent w bodies e index
  tag_is w bodies h frame tag frame_is is_tag =
      let k : IsFound v w bodies e o index = found_in w bodies h in
      let own : tag ≡ (bodies k.mpdu.id).tag = is_tag ∙ ap (λ (f : FrameValue). f.tag)
      (frame_is k.exchange_is k.mpdu k.flight) in
      ap Some own ∙ sym (ap (option_map (λ (z : Mpdu). (bodies z.id).tag)) k.flight.among)
      ∙ sym (ap (option_and_then (λ x. transmission_tag bodies x index)) k.known)

  -- whether it is bare
  pub bare_is : (w : World) (bodies : ℕ → FrameValue) (h : StandsFor v w bodies) (frame : FrameValue)
      (bare : Bool) → ((x : Exchange) (m : Mpdu) → IsInFlight v o index w bodies x m → frame ≡ bodies m.id) →
      bare ≡ frame.bare → Some bare ≡ bare_sent w bodies e index
  bare_is w bodies h frame bare frame_is is_bare =
      let k : IsFound v w bodies e o index = found_in w bodies h in
      let own : bare ≡ (bodies k.mpdu.id).bare = is_bare ∙ ap (λ (f : FrameValue). f.bare)
      (frame_is k.exchange_is k.mpdu k.flight) in
      ap Some own ∙ sym (ap (option_map (λ (z : Mpdu). (bodies z.id).bare)) k.flight.among)
      ∙ sym (ap (option_and_then (λ x. transmission_bare bodies x index)) k.known)

  -- its header exists
  module _ (w : World) (bodies : ℕ → FrameValue) (h : StandsFor v w bodies) where
    pub header_is : (a : Addresses) (header : Header) (head : List ℕ) →
        ((x : Exchange) (m : Mpdu) → IsInFlight v o index w bodies x m → header ≡ header_of a w bodies x m) →
        head ≡ header_as_octets header → header_sent a w bodies e index ≡ Some head
    header_is a header head is_header is_head =
        let k : IsFound v w bodies e o index = found_in w bodies h in
        let own : head ≡ header_as_octets (header_of a w bodies k.exchange_is k.mpdu) =
        is_head ∙ ap header_as_octets (is_header k.exchange_is k.mpdu k.flight) in
        ap (option_and_then (λ x. transmission_header a w bodies x index)) k.known
        ∙ ap (option_map (λ (z : Mpdu). header_as_octets (header_of a w bodies k.exchange_is z)))
        k.flight.among
        ∙ sym (ap Some own)

    pub header_there : None ≡ write_header_fault w e index
    header_there =
        let k : IsFound v w bodies e o index = found_in w bodies h in
        sym (ap (λ z. option_map_or (λ x. no_data_fault (transmission_id x index)) z (Some NoExchange))
        k.known ∙ ap (λ (z : Option Mpdu). no_data_fault (option_map (λ m. m.id) z)) k.flight.among)

-- no exchange, and no number
module _ (v : TransmitValue) (w : World) (bodies : ℕ → FrameValue) (h : StandsFor v w bodies)
    (e index : ℕ) where
  pub no_exchange : None ≡ find (λ x. x.number == e) v.opened → None ≡ id_sent w e index
  no_exchange is = sym (ap (option_and_then (λ x. transmission_id x index)) (none_open v w bodies h e is))

  pub no_number : (o : Open) → Some o ≡ find (λ x. x.number == e) v.opened →
      number_carried o.sending index ≡ None → None ≡ id_sent w e index
  no_number o is none =
      let k : IsKnown w e o = known_of v w bodies h e o is in
      sym (ap (option_map (λ (z : Mpdu). z.id)) (none_at k.exchange_is.content index
      (subst (λ (z : Open). number_carried z.sending index ≡ None) k.same none)))
      ∙ sym (ap (option_and_then (λ x. transmission_id x index)) k.known)

  pub no_tag : None ≡ find (λ x. x.number == e) v.opened → None ≡ tag_sent w bodies e index
  no_tag is = sym (ap (option_and_then (λ x. transmission_tag bodies x index)) (none_open v w bodies h e is))

  pub no_tagged : (o : Open) → Some o ≡ find (λ x. x.number == e) v.opened →
      number_carried o.sending index ≡ None → None ≡ tag_sent w bodies e index
  no_tagged o is none =
      let k : IsKnown w e o = known_of v w bodies h e o is in
      sym (ap (option_map (λ (z : Mpdu). (bodies z.id).tag)) (none_at k.exchange_is.content index
      (subst (λ (z : Open). number_carried z.sending index ≡ None) k.same none)))
      ∙ sym (ap (option_and_then (λ x. transmission_tag bodies x index)) k.known)

  pub no_bare : None ≡ find (λ x. x.number == e) v.opened → None ≡ bare_sent w bodies e index
  no_bare is = sym (ap (option_and_then (λ x. transmission_bare bodies x index))
      (none_open v w bodies h e is))

  pub no_bared : (o : Open) → Some o ≡ find (λ x. x.number == e) v.opened →
      number_carried o.sending index ≡ None → None ≡ bare_sent w bodies e index
  no_bared o is none =
      let k : IsKnown w e o = known_of v w bodies h e o is in
      sym (ap (option_map (λ (z : Mpdu). (bodies z.id).bare)) (none_at k.exchange_is.content index
      (subst (λ (z : Open). number_carried z.sending index ≡ None) k.same none)))
      ∙ sym (ap (option_and_then (λ x. transmission_bare bodies x index)) k.known)

  pub no_header : None ≡ find (λ x. x.number == e) v.opened → Some NoExchange ≡ write_header_fault w e index
  no_header is = sym (ap
      (λ z. option_map_or (λ x. no_data_fault (transmission_id x index)) z (Some NoExchange))
      (none_open v w bodies h e is))

  pub no_data : (o : Open) → Some o ≡ find (λ x. x.number == e) v.opened →
      number_carried o.sending index ≡ None → Some BadIndex ≡ write_header_fault w e index
  no_data o is none =
      let k : IsKnown w e o = known_of v w bodies h e o is in
      sym (ap (λ z. option_map_or (λ x. no_data_fault (transmission_id x index)) z (Some NoExchange)) k.known
      ∙ ap (λ (z : Option Mpdu). no_data_fault (option_map (λ m. m.id) z))
      (none_at k.exchange_is.content index
      (subst (λ (z : Open). number_carried z.sending index ≡ None) k.same none)))
