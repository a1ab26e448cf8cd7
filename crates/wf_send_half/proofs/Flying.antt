-- Proves that the numbers of an aggregate fly after the loop, by induction over the numbers.
use Rattle.std.proofs.Common.{◌≡◌, refl, ap, ap₂, sym, ◌∙◌, subst, arith, ℕ, zero, suc, ◌+◌, ◌%◌, ◌≤◌, Bool, false, is_some, List, [], ◌∷◌, ◌++◌, length, length-append, take, drop, Some}
use Rattle.std.proofs.lemmas.List.{map-append, length-map, length-take}
use Rattle.std.specs.Prelude.{slice_get}
use Rattle.wf_frame.specs.Frames.{FrameValue}
use Rattle.wf_def_agreement.specs.Session.{Session, State, slot, with_state}
use Rattle.wf_def_world.specs.World.{World, Bounds, Mpdu, session, on_session}
use Rattle.wf_send_parts.specs.Window.{WindowValue, WindowStandsFor as WindowStandsFor, IsNumber, HasOwnFrame, state_at, on_air}
use Rattle.wf_send_parts.specs.Sent.{with_one_sent, with_all_sent}
use Rattle.wf_send_parts.proofs.Sending.{all_sent_then}
use Rattle.wf_send_parts.specs.Windows.{WindowsHaveRoom, window_of, with_window}
use Rattle.wf_send_half_model.specs.Half.{TransmitValue, is_plain_of}
use Rattle.wf_send_half_model.specs.Standing.{numbers_on_air}
use Rattle.wf_send_half_model.specs.Filling.{IsTakingOff, IsFilled, IsToFill, charge_in}
use Rattle.wf_air.specs.Sizes.{AggregateSizeValue, SizeStandsFor as SizeStandsFor}
use Rattle.wf_def_world.specs.Exchanges.{Aggregate, aggregate_of, prepared_data, lens_of}
use Rattle.wf_send_half_model.proofs.Sends.{filled_charge}
use Rattle.wf_send_half_model.proofs.Flies.{off_begins, off_number, off_waits, off_frame, off_own, off_next}
use Rattle.wf_send_parts.proofs.Calls.{due_is}
use Rattle.wf_send_half.specs.Pulls.{IsFlying, pairs_of, IsPreparedAs, IsPrepared, HasToPrepare}

-- the transmission with index i has this number
record IsAt (mpdus : List Mpdu) (i number : ℕ) : Type 0 where
  m : Mpdu
  rest : drop i mpdus ≡ m ∷ drop (suc i) mpdus
  front : take (suc i) mpdus ≡ take i mpdus ++ m ∷ []
  on_air_is : number ≡ on_air m.number

is_at : (mpdus : List Mpdu) (i number : ℕ) → slice_get (numbers_on_air mpdus) i ≡ Some number →
    IsAt mpdus i number
is_at [] i number e = absurd (cc e)
is_at (m ∷ ms) zero number e = record { m = m; rest = refl; front = refl; on_air_is = cc e }
is_at (m ∷ ms) (suc i) number e =
    let k = is_at ms i number e in
    record { m = k.m; rest = k.rest; front = ap (λ (l : List Mpdu). m ∷ l) k.front; on_air_is = k.on_air_is }

drop_all : (ms : List Mpdu) → drop (length ms) ms ≡ []
drop_all [] = refl
drop_all (m ∷ ms) = drop_all ms

take_all : (ms : List Mpdu) → take (length ms) ms ≡ ms
take_all [] = refl
take_all (m ∷ ms) = ap (λ (l : List Mpdu). m ∷ l) (take_all ms)

pub flying_begins : (v : TransmitValue) (w : World) (bodies : ℕ → FrameValue) (s t e : ℕ) (mpdus : List Mpdu)
    (after : World) (pairs : List (ℕ × ℕ)) → IsTakingOff v w bodies s t e mpdus after → pairs ≡ [] →
    IsFlying v bodies s t e mpdus after 0 pairs
flying_begins v w bodies s t e mpdus after pairs off none = record {
  world = w;
  off = subst (λ (l : List (ℕ × ℕ)). IsTakingOff v w (with_all_sent l bodies) s t e mpdus after) (sym none)
      off;
  pairs_are = none;
}

module _ (v : TransmitValue) (bodies : ℕ → FrameValue) (s t e : ℕ) (mpdus : List Mpdu) (after : World) (i : ℕ)
    (pairs : List (ℕ × ℕ)) (h : IsFlying v bodies s t e mpdus after i pairs) (number : ℕ)
    (at : slice_get (numbers_on_air mpdus) i ≡ Some number) where
  k : IsAt mpdus i number
  k = is_at mpdus i number at

  -- the frames after those before have counted it
  abbrev sent : ℕ → FrameValue
  sent = with_all_sent pairs bodies

  off : IsTakingOff v h.world sent s t e (k.m ∷ drop (suc i) mpdus) after
  off = subst (λ (ms : List Mpdu). IsTakingOff v h.world sent s t e ms after) k.rest h.off

  pub flying_waits : state_at (window_of v.windows s t) number ≡ State.Waiting
  flying_waits = off_waits v h.world sent s t e k.m (drop (suc i) mpdus) after off number k.on_air_is

  is_number : IsNumber (session h.world s t) k.m.number number
  is_number = off_number v h.world sent s t e k.m (drop (suc i) mpdus) after off number k.on_air_is

  stands : WindowStandsFor (window_of v.windows s t) (session h.world s t) sent
  stands = off.parts.windows.all.stands s t off.live off.tid

  pub flying_next : (id : ℕ) → ((y : Session) (all : ℕ → FrameValue) (n : ℕ) →
      WindowStandsFor (window_of v.windows s t) y all → IsNumber y n number → id ≡ (all (slot y n).id).id) →
      (windows : List WindowValue) → windows ≡ with_window v.windows s t (window_of windows s t) →
      WindowsHaveRoom windows →
      ((y : Session) (all : ℕ → FrameValue) (n : ℕ) → WindowStandsFor (window_of v.windows s t) y all →
      IsNumber y n number → HasOwnFrame y n → WindowStandsFor (window_of windows s t)
      (with_state (State.Flying e) n y) (with_one_sent (slot y n).id all)) →
      IsFlying (record v { windows = windows }) bodies s t e mpdus after (i + 1)
      (pairs ++ (id, number) ∷ [])
  flying_next id read windows others room flies =
      let one : suc i ≡ i + 1 = omega arith in
      let id_is : id ≡ k.m.id = read (session h.world s t) sent k.m.number stands is_number
      ∙ off_frame v h.world sent s t e k.m (drop (suc i) mpdus) after off in
      let counted : with_one_sent k.m.id sent ≡ with_all_sent (pairs ++ (id, number) ∷ []) bodies =
      ap (λ (j : ℕ). with_one_sent j sent) (sym id_is) ∙ sym (all_sent_then pairs (id, number) bodies) in
      subst (λ (n : ℕ). IsFlying (record v { windows = windows }) bodies s t e mpdus after n
      (pairs ++ (id, number) ∷ [])) one (record {
        world = on_session h.world s t (with_state (State.Flying e) k.m.number);
        off =
            subst (λ (all : ℕ → FrameValue). IsTakingOff (record v { windows = windows })
            (on_session h.world s t (with_state (State.Flying e) k.m.number)) all s t e
            (drop (suc i) mpdus) after) counted
            (subst (λ (ws : List WindowValue). IsTakingOff (record v { windows = ws })
            (on_session h.world s t (with_state (State.Flying e) k.m.number)) (with_one_sent k.m.id sent)
            s t e (drop (suc i) mpdus) after) (sym others)
            (off_next v h.world sent s t e k.m (drop (suc i) mpdus) after off (window_of windows s t)
            (subst WindowsHaveRoom others room) (flies
            (session h.world s t) sent k.m.number stands is_number
            (off_own v h.world sent s t e k.m (drop (suc i) mpdus) after off))));
        pairs_are =
            ap₂ (λ (l : List (ℕ × ℕ)) (p : ℕ × ℕ). l ++ p ∷ []) h.pairs_are
            (ap₂ (λ (a b : ℕ). (a, b)) id_is k.on_air_is)
            ∙ sym (map-append (λ (m : Mpdu). (m.id, m.number % 4096)) (take i mpdus) (k.m ∷ []))
            ∙ ap pairs_of (sym k.front);
      })

pub as_many : (mpdus : List Mpdu) (numbers : List ℕ) → numbers ≡ numbers_on_air mpdus →
    length numbers ≡ length mpdus
as_many mpdus numbers is = ap (length {A = ℕ}) is ∙ length-map mpdus (λ (m : Mpdu). on_air m.number)

-- after the last index all numbers fly
pub all_fly : (v : TransmitValue) (bodies : ℕ → FrameValue) (s t e : ℕ) (mpdus : List Mpdu) (after : World)
    (i : ℕ) (pairs : List (ℕ × ℕ)) → IsFlying v bodies s t e mpdus after i pairs → length pairs ≡ i →
    length mpdus ≤ i →
    IsFlying v bodies s t e mpdus after (length mpdus) pairs
all_fly v bodies s t e mpdus after i pairs h count past =
    let short : i ≡ length mpdus = omega (
      arith,
      count,
      past,
      ap (length {A = ℕ × ℕ}) h.pairs_are,
      length-map {B = ℕ × ℕ} (take i mpdus) (λ (m : Mpdu). (m.id, m.number % 4096)),
      length-take i mpdus,
    ) in
    subst (λ (n : ℕ). IsFlying v bodies s t e mpdus after n pairs) short h

pub one_more_pair : (pairs more : List (ℕ × ℕ)) (p : ℕ × ℕ) (i : ℕ) → more ≡ pairs ++ p ∷ [] →
    length pairs ≡ i → length more ≡ i + 1
one_more_pair pairs more p i is count = omega
    (arith, ap (length {A = ℕ × ℕ}) is, length-append pairs (p ∷ []), count)

-- ---- a filled aggregate flies

module _ (v : TransmitValue) (bodies : ℕ → FrameValue) (s t : ℕ) (room : AggregateSizeValue)
    (numbers : List ℕ)
    (a : Aggregate) (h : IsFilled v bodies s t room numbers a) where
  pub filled_off : IsTakingOff v a.world bodies s t v.exchanges a.mpdus (prepared_data s t a).world
  filled_off =
      subst (λ (e : ℕ). IsTakingOff v a.world bodies s t e a.mpdus (prepared_data s t a).world)
      (sym h.parts.others.exchanges)
      (off_begins v a bodies s t h.parts h.live h.tid h.underway h.waiting)

  pub some_room : 1 ≤ length a.mpdus → 1 ≤ room.count
  some_room some = omega (
    arith,
    some,
    h.room_is.lens.count,
    length-map a.mpdus (λ (m : Mpdu). m.len + a.world.config.overhead),
  )

  module _ (w : World) (is : aggregate_of w s t ≡ a) where
    pub filled_flies : (u : TransmitValue) (pairs : List (ℕ × ℕ)) (charge : ℕ) →
        IsFlying u bodies s t v.exchanges a.mpdus (prepared_data s t a).world (length a.mpdus) pairs →
        ((lens : List ℕ) → SizeStandsFor room lens → charge ≡ charge_in room (is_plain_of v s t) lens) →
        IsPrepared u w bodies s t charge numbers pairs
    filled_flies u pairs charge flying air =
        subst (λ (b : Aggregate). IsPreparedAs u b bodies s t charge numbers pairs) (sym is) (record {
          world = flying.world;
          off = subst (λ (e : ℕ). IsTakingOff u flying.world (with_all_sent pairs bodies) s t e []
              (prepared_data s t a).world) h.parts.others.exchanges
              (subst (λ (ms : List Mpdu). IsTakingOff u flying.world (with_all_sent pairs bodies) s t
              v.exchanges ms (prepared_data s t a).world) (drop_all a.mpdus) flying.off);
          charge_is = air (lens_of a.world.config.overhead a.mpdus) h.room_is.lens
              ∙ filled_charge v bodies s t room numbers a h;
          numbers_are = h.on_air;
          pairs_are = flying.pairs_are ∙ ap pairs_of (take_all a.mpdus);
        })

-- ---- an aggregate is prepared

-- no request is due if the half found none; x is the value of the fields of the half v
pub quiet_now : (x v : TransmitValue) → x ≡ v → (z : WindowValue) (s t : ℕ) → z ≡ window_of x.windows s t →
    (due : Bool) → due ≡ is_some z.due → due ≡ false → is_some (window_of v.windows s t).due ≡ false
quiet_now x v same z s t at due read none =
    ap (λ (y : TransmitValue). is_some (window_of y.windows s t).due) (sym same)
    ∙ ap (λ (y : WindowValue). is_some y.due) (sym at) ∙ sym read ∙ none

-- if no request is due, the half fills an aggregate
pub to_fill : (v : TransmitValue) (s t : ℕ) (b : Bounds) (h : HasToPrepare v s t b) →
    is_some (window_of v.windows s t).due ≡ false → IsToFill v h.world h.bodies s t
to_fill v s t b h quiet = record {
  turned = h.turned;
  quiet = sym (due_is (window_of v.windows s t) (session h.world s t) h.bodies
      (h.turned.parts.windows.all.stands s t h.turned.live h.turned.tid)) ∙ quiet;
}
