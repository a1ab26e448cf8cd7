-- Proves that the octets that are written are those that the exchange sends. By cases of the exchange: none,
-- data, a request.
use Rattle.std.proofs.Common.{◌≡◌, refl, ap, ap₂, sym, ◌∙◌, arith, ℕ, zero, suc, ◌<◌, ◌≤◌, ◌==◌, List, [], ◌∷◌, ◌++◌, length, take, append-nil, Option, Some, None, option_map}
use Rattle.std.specs.Prelude.{find, option_and_then, slice_get, Result, Ok, Err, IfOk}
use Rattle.std.specs.Option.{option_map_or}
use Rattle.std.proofs.lemmas.Option.{slice_get-map, slice_get_past}
use Rattle.std.proofs.lemmas.List.{length-map}
use Rattle.wf_frame.specs.Frames.{FrameValue}
use Rattle.wf_octets.specs.HeaderLayout.{header_as_octets}
use Rattle.wf_octets.specs.declared.header.header.Header.{Header}
use Rattle.wf_octets.specs.BlockLayout.{head_octets, request, narrow_fragment}
use Rattle.wf_octets.specs.declared.block.frames.Bar.{Bar}
use Rattle.wf_def_world.specs.World.{World, Exchange, Mpdu, Content, Frames, Request, exchange}
use Rattle.wf_def_world.specs.Exchanges.{mpdus_of}
use Rattle.wf_send_parts.specs.declared.exchanges.opened.Open.{Open}
use Rattle.wf_send_parts.specs.declared.exchanges.opened.Sending.TheVariants.{Request as Starts_at}
use Rattle.wf_send_parts.specs.Exchanges.{number_carried, transmissions_of}
use Rattle.wf_send_parts.specs.Window.{on_air}
use Rattle.wf_send_half_model.specs.Half.{TransmitValue}
use Rattle.wf_send_half_model.specs.Standing.{sending_of, open_of, StandsFor}
use Rattle.wf_send_half.proofs.Dones.{IsKnown, known_of, none_open}
use Rattle.wf_send_half.proofs.Ends.{IsRequest, is_request_of}
use Rattle.wf_path.specs.Addresses.{Addresses}
use Rattle.wf_path.specs.Transmissions.{header_of, data_octets, bar_of, bar_octets, octets_of_content, transmission_octets, octets_sent}
use Rattle.wf_path.specs.Flights.{IsInFlight}
use Rattle.wf_path.specs.Writing.{room_fault, write_fault}
use Rattle.wf_path.specs.declared.faults.PathFault.TheVariants.{NoExchange, BadIndex}
use Rattle.wf_path.proofs.Flying.{IsFound, found_in}

pub take_whole : (xs : List ℕ) (n : ℕ) → length xs ≡ n → take n xs ≡ xs
take_whole [] zero is = refl
take_whole [] (suc n) is = refl
take_whole (x ∷ xs) zero is = absurd (omega (arith, is))
take_whole (x ∷ xs) (suc n) is = ap (λ l. x ∷ l) (take_whole xs n (omega (arith, is)))

-- a fact about the value of an Ok implies another
pub where_ok : {T E : Type 0} (P Q : T → Type 0) (r : Result T E) → IfOk r P →
    ((value : T) → P value → Q value) → IfOk r Q
where_ok P Q (Ok value) h f = f value h
where_ok P Q (Err fault) h f = tt

-- ---- by the content of the exchange

octets_at : (a : Addresses) (w : World) (bodies : ℕ → FrameValue) (x : Exchange) (c : Content) (i : ℕ) (m :
    Mpdu) →
    slice_get (mpdus_of c) i ≡ Some m → slice_get (octets_of_content a w bodies x c) i
    ≡ Some (data_octets a w bodies x m)
octets_at a w bodies x (Frames mpdus) i m among =
    slice_get-map (data_octets a w bodies x) mpdus i ∙ ap (option_map (data_octets a w bodies x)) among
octets_at a w bodies x (Request start) i m among = absurd (cc among)

octets_count : (a : Addresses) (w : World) (bodies : ℕ → FrameValue) (x : Exchange) (c : Content) →
    length (octets_of_content a w bodies x c) ≡ transmissions_of (sending_of c)
octets_count a w bodies x (Frames mpdus) = length-map mpdus (data_octets a w bodies x)
    ∙ sym (length-map mpdus (λ m. on_air m.number))
octets_count a w bodies x (Request start) = refl

-- ---- an exchange that is open, or not

module _ (a : Addresses) (w : World) (bodies : ℕ → FrameValue) (e index : ℕ) where
  sent_is : (x : Exchange) (octets : List ℕ) → exchange w e ≡ Some x →
      transmission_octets a w bodies x index ≡ Some octets → octets_sent a w bodies e index ≡ Some octets
  sent_is x octets known is = ap (option_and_then (λ y. transmission_octets a w bodies y index)) known ∙ is

  fault_is : (x : Exchange) (found : Option (List ℕ)) (room : ℕ) → exchange w e ≡ Some x →
      transmission_octets a w bodies x index ≡ found → room_fault room found ≡ write_fault a w bodies e index
      room
  fault_is x found room known is =
      sym (ap (λ o. option_map_or (λ y. room_fault room (transmission_octets a w bodies y index)) o
      (Some NoExchange)) known ∙ ap (room_fault room) is)

module _ (a : Addresses) (v : TransmitValue) (w : World) (bodies : ℕ → FrameValue)
    (h : StandsFor v w bodies) (e index room : ℕ) where
  pub not_open : None ≡ find (λ x. x.number == e) v.opened →
      Some NoExchange ≡ write_fault a w bodies e index room
  not_open is = sym (ap (λ o. option_map_or (λ y. room_fault room (transmission_octets a w bodies y index)) o
      (Some NoExchange)) (none_open v w bodies h e is))

  pub past_last : (o : Open) → Some o ≡ find (λ x. x.number == e) v.opened →
      transmissions_of o.sending ≤ index → Some BadIndex ≡ write_fault a w bodies e index room
  past_last o is past =
      let k : IsKnown w e o = known_of v w bodies h e o is in
      let x : Exchange = k.exchange_is in
      let count : length (octets_of_content a w bodies x x.content) ≤ index =
      omega (
        arith,
        octets_count a w bodies x x.content,
        ap (λ (z : Open). transmissions_of z.sending) k.same,
        past,
      ) in
      fault_is a w bodies e index x None room k.known
      (slice_get_past (octets_of_content a w bodies x x.content) index count)

-- ---- a data transmission

module _ (a : Addresses) (v : TransmitValue) (e : ℕ) (o : Open) (index seq : ℕ)
    (is : Some o ≡ find (λ x. x.number == e) v.opened) (carries : number_carried o.sending index ≡ Some seq)
    (w : World) (bodies : ℕ → FrameValue) (h : StandsFor v w bodies) (header : Header) (head body : List ℕ)
    (frame : FrameValue)
    (header_is : (x : Exchange) (m : Mpdu) → IsInFlight v o index w bodies x m →
    header ≡ header_of a w bodies x m)
    (frame_is : (x : Exchange) (m : Mpdu) → IsInFlight v o index w bodies x m → frame ≡ bodies m.id)
    (head_is : head ≡ header_as_octets header) (body_is : body ≡ frame.body) where
  k : IsFound v w bodies e o index
  k = found_in v e o index seq is carries w bodies h

  octets_are : transmission_octets a w bodies k.exchange_is index ≡ Some (head ++ body)
  octets_are =
      let head_there : head ≡ header_as_octets (header_of a w bodies k.exchange_is k.mpdu) =
      head_is ∙ ap header_as_octets (header_is k.exchange_is k.mpdu k.flight) in
      let body_there : body ≡ (bodies k.mpdu.id).body =
      body_is ∙ ap (λ (f : FrameValue). f.body) (frame_is k.exchange_is k.mpdu k.flight) in
      octets_at a w bodies k.exchange_is k.exchange_is.content index k.mpdu k.flight.among
      ∙ sym (ap₂ (λ (a b : List ℕ). Some (a ++ b)) head_there body_there)

  pub data_sent : octets_sent a w bodies e index ≡ Some (head ++ body)
  data_sent = sent_is a w bodies e index k.exchange_is (head ++ body) k.known octets_are

  pub data_fault : (room : ℕ) → room_fault room (Some (head ++ body)) ≡ write_fault a w bodies e index room
  data_fault room = fault_is a w bodies e index k.exchange_is (Some (head ++ body)) room k.known octets_are

-- ---- a BlockAckReq

module _ (a : Addresses) (v : TransmitValue) (e : ℕ) (o : Open) (index seq : ℕ)
    (is : Some o ≡ find (λ x. x.number == e) v.opened) (asks : o.sending ≡ Starts_at seq)
    (first : index < transmissions_of o.sending)
    (w : World) (bodies : ℕ → FrameValue) (h : StandsFor v w bodies) (bar : Bar) (head : List ℕ)
    (bar_is : (x : Exchange) (start : ℕ) → o ≡ open_of x → seq ≡ on_air start → bar ≡ bar_of a w x start)
    (head_is : head ≡ head_octets request narrow_fragment bar) where
  known : IsKnown w e o
  known = known_of v w bodies h e o is

  asked : IsRequest known.exchange_is.content seq
  asked = is_request_of known.exchange_is.content seq (sym (ap (λ (z : Open). z.sending) known.same) ∙ asks)

  bar_octets_are : transmission_octets a w bodies known.exchange_is index ≡ Some (head ++ [])
  bar_octets_are =
      let at_first : index ≡ 0 = omega (arith, ap transmissions_of asks, first) in
      let written : bar_octets a w known.exchange_is asked.start ≡ head ++ [] =
      sym (append-nil head ∙ head_is ∙ ap (head_octets request narrow_fragment)
      (bar_is known.exchange_is asked.start known.same asked.air)) in
      ap (λ (c : Content). slice_get (octets_of_content a w bodies known.exchange_is c) index) asked.content
      ∙ ap (slice_get (bar_octets a w known.exchange_is asked.start ∷ [])) at_first
      ∙ ap Some written

  pub request_sent : octets_sent a w bodies e index ≡ Some (head ++ [])
  request_sent = sent_is a w bodies e index known.exchange_is (head ++ []) known.known bar_octets_are

  pub request_fault : (room : ℕ) → room_fault room (Some (head ++ [])) ≡ write_fault a w bodies e index room
  request_fault room = fault_is a w bodies e index known.exchange_is
      (Some (head ++ [])) room known.known bar_octets_are
