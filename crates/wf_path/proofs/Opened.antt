-- Proves that an open exchange of the half agrees with the world's: its station and TID are in range, and its
-- answer, its summary and its marks agree, and whether it is a batch or plain.
use Rattle.std.proofs.Common.{◌≡◌, refl, ap, ap₂, sym, ◌∙◌, subst, arith, ℕ, ◌<◌, ◌==◌, Bool, true, false, List, Option, Some, None, option_map}
use Rattle.std.specs.Prelude.{find}
use Rattle.std.specs.Option.{option_map_or}
use Rattle.std.proofs.lemmas.List.{length-map}
use Rattle.wf_frame.specs.declared.settings.Config.{Config}
use Rattle.wf_frame.specs.Frames.{FrameValue}
use Rattle.wf_def_lists.specs.Table.{has}
use Rattle.wf_def_world.specs.Refusals.{exchange_has}
use Rattle.wf_def_world.specs.World.{World, Exchange, Content, Frames, Request, station, is_live, exchange, is_wide}
use Rattle.wf_def_world.specs.CanSend.{is_request}
use Rattle.wf_def_world.specs.Exchanges.{transmissions}
use Rattle.wf_law_runs.specs.Delivery.{is_batch}
use Rattle.wf_send_parts.specs.Window.{on_air}
use Rattle.wf_send_parts.specs.declared.exchanges.opened.Open.{Open}
use Rattle.wf_send_parts.specs.Exchanges.{transmissions_of, sending_is_request as asks_for}
use Rattle.wf_send_half_model.specs.Half.{TransmitValue}
use Rattle.wf_send_half_model.specs.Standing.{sending_of, StandsFor}
use Rattle.wf_send_half_model.proofs.Endings.{open_live}
use Rattle.wf_send_half_model.specs.Pulling.{is_wide_of}
use Rattle.wf_send_half_model.proofs.Pulls.{wide_same}
use Rattle.wf_send_half.specs.Half.{HasWorld}
use Rattle.wf_send_half.proofs.Dones.{IsKnown, known_of, none_open, low_tid}
use Rattle.wf_path.specs.Transmissions.{sent_of}
use Rattle.wf_path.specs.Addresses.{Addresses}
use Rattle.wf_path.specs.Answers.{answer_fault, read_fault}
use Rattle.wf_path.specs.declared.faults.DoneFault.TheVariants.{NoExchange}

-- its station is live, and its number is below the setting
module _ (v : TransmitValue) (w : World) (bodies : ℕ → FrameValue) (h : StandsFor v w bodies) (e : ℕ)
    (x : Exchange) (known : exchange w e ≡ Some x) where
  pub live : is_live w x.station ≡ true
  live = open_live w h.reached e x known

  pub within : x.station < v.config.stations
  within = omega (
    arith,
    h.parts.others.turns.live x.station live,
    ap (λ (k : Config). k.stations) h.parts.others.config,
  )

-- the same in the half
module _ (v : TransmitValue) (some : HasWorld v) (e : ℕ) (o : Open)
    (is : Some o ≡ find (λ x. x.number == e) v.opened) where
  it : IsKnown some.world e o
  it = known_of v some.world some.bodies some.stands e o is

  pub open_within : o.station < v.config.stations
  open_within = subst (λ (k : Open). k.station < v.config.stations) (sym it.same)
      (within v some.world some.bodies some.stands e it.exchange_is it.known)

-- ---- its answer

module _ (v : TransmitValue) (w : World) (bodies : ℕ → FrameValue) (h : StandsFor v w bodies) (e : ℕ)
    (octets : List ℕ) (a : Addresses) where
  pub none_answered : None ≡ find (λ x. x.number == e) v.opened → Some NoExchange ≡ read_fault a w e octets
  none_answered is = sym (ap (λ o. option_map_or
      (λ x. answer_fault a (is_wide w x.station x.tid) x.station (station w x.station).bss x.tid octets) o
      (Some NoExchange))
      (none_open v w bodies h e is))

  -- `wide` and `bss` belong to its station
  pub some_answered : (o : Open) (wide : Bool) (bss : ℕ) → Some o ≡ find (λ x. x.number == e) v.opened →
      wide ≡ is_wide_of v o.station o.tid → bss ≡ (station w o.station).bss →
      answer_fault a wide o.station bss o.tid octets ≡ read_fault a w e octets
  some_answered o wide bss is told whose =
      let k : IsKnown w e o = known_of v w bodies h e o is in
      let x : Exchange = k.exchange_is in
      let same : is_wide_of v x.station x.tid ≡ is_wide w x.station x.tid =
      wide_same v w bodies x.station x.tid h.parts (live v w bodies h e x k.known)
      (low_tid v w bodies h e x k.known) in
      ap₂ (λ b c. answer_fault a b o.station c o.tid octets) told whose
      ∙ ap (λ (z : Open). answer_fault a (is_wide_of v z.station z.tid) z.station (station w z.station).bss
      z.tid octets) k.same
      ∙ ap (λ b. answer_fault a b x.station (station w x.station).bss x.tid octets) same
      ∙ sym (ap (λ o. option_map_or (λ y. answer_fault a (is_wide w y.station y.tid) y.station
      (station w y.station).bss y.tid octets) o (Some NoExchange)) k.known)

-- ---- its summary

count_same : (c : Content) → transmissions_of (sending_of c) ≡ transmissions c
count_same (Frames mpdus) = length-map mpdus (λ m. on_air m.number)
count_same (Request start) = refl

request_same : (c : Content) → asks_for (sending_of c) ≡ is_request c
request_same (Frames mpdus) = refl
request_same (Request start) = refl

module _ (v : TransmitValue) (w : World) (bodies : ℕ → FrameValue) (h : StandsFor v w bodies) (e : ℕ) where
  pub none_sent : None ≡ find (λ x. x.number == e) v.opened → None ≡ option_map sent_of (exchange w e)
  none_sent is = ap (option_map sent_of) (sym (none_open v w bodies h e is))

  pub some_sent : (o : Open) (count : ℕ) (request : Bool) → Some o ≡ find (λ x. x.number == e) v.opened →
      count ≡ transmissions_of o.sending → request ≡ asks_for o.sending →
      Some (record { station = o.station; tid = o.tid; count = count; request = request })
      ≡ option_map sent_of (exchange w e)
  some_sent o count request is count_is request_is =
      let k : IsKnown w e o = known_of v w bodies h e o is in
      let x : Exchange = k.exchange_is in
      let station : o.station ≡ x.station = ap (λ (z : Open). z.station) k.same in
      let tid : o.tid ≡ x.tid = ap (λ (z : Open). z.tid) k.same in
      let transmissions_are : count ≡ transmissions x.content =
      count_is ∙ ap (λ (z : Open). transmissions_of z.sending) k.same ∙ count_same x.content in
      let asks : request ≡ is_request x.content = request_is ∙ ap (λ (z : Open). asks_for z.sending) k.same
      ∙ request_same x.content in
      let same : Some (record { station = o.station; tid = o.tid; count = count; request = request })
      ≡ Some (sent_of x) = cc (station, tid, transmissions_are, asks) in
      same ∙ ap (option_map sent_of) (sym k.known)

-- ---- its marks

module _ (v : TransmitValue) (w : World) (bodies : ℕ → FrameValue) (h : StandsFor v w bodies) (e i : ℕ) where
  pub none_unsent : None ≡ find (λ x. x.number == e) v.opened →
      false ≡ exchange_has (exchange w e) (λ x. has x.unsent i)
  none_unsent is = sym (ap (λ (f : Option Exchange). exchange_has f (λ x. has x.unsent i))
      (none_open v w bodies h e is))

  pub some_unsent : (o : Open) → Some o ≡ find (λ x. x.number == e) v.opened →
      has o.unsent i ≡ exchange_has (exchange w e) (λ x. has x.unsent i)
  some_unsent o is =
      let k : IsKnown w e o = known_of v w bodies h e o is in
      ap (λ (z : Open). has z.unsent i) k.same
      ∙ sym (ap (λ (f : Option Exchange). exchange_has f (λ x. has x.unsent i)) k.known)

-- ---- whether it is a batch, or plain

module _ (v : TransmitValue) (w : World) (bodies : ℕ → FrameValue) (h : StandsFor v w bodies) (e : ℕ) where
  pub none_batch : None ≡ find (λ x. x.number == e) v.opened → false ≡ is_batch (exchange w e)
  none_batch is = ap is_batch (sym (none_open v w bodies h e is))

  pub some_batch : (o : Open) → Some o ≡ find (λ x. x.number == e) v.opened →
      o.batch ≡ is_batch (exchange w e)
  some_batch o is =
      let k : IsKnown w e o = known_of v w bodies h e o is in
      ap (λ (z : Open). z.batch) k.same ∙ ap is_batch (sym k.known)

  pub none_plain : None ≡ find (λ x. x.number == e) v.opened →
      false ≡ exchange_has (exchange w e) (λ x. x.plain)
  none_plain is = sym (ap (λ (f : Option Exchange). exchange_has f (λ x. x.plain))
      (none_open v w bodies h e is))

  pub some_plain : (o : Open) → Some o ≡ find (λ x. x.number == e) v.opened →
      o.plain ≡ exchange_has (exchange w e) (λ x. x.plain)
  some_plain o is =
      let k : IsKnown w e o = known_of v w bodies h e o is in
      ap (λ (z : Open). z.plain) k.same
      ∙ sym (ap (λ (f : Option Exchange). exchange_has f (λ x. x.plain)) k.known)
