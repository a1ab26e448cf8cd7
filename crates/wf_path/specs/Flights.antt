-- Defines a data transmission of an open exchange, in the half and in its world.
use Rattle.std.specs.Prelude.{◌≡◌, ℕ, Some, slice_get}
use Rattle.wf_frame.specs.Frames.{FrameValue}
use Rattle.wf_send_parts.specs.declared.exchanges.opened.Open.{Open}
use Rattle.wf_send_parts.specs.Exchanges.{number_carried}
use Rattle.wf_def_world.specs.World.{World, Mpdu, Exchange, exchange}
use Rattle.wf_def_world.specs.Exchanges.{mpdus_of}
use Rattle.wf_send_half_model.specs.Half.{TransmitValue}
use Rattle.wf_send_half_model.specs.Standing.{open_of, StandsFor}

-- in the world w, which the half represents, o is the open exchange x, and m is its transmission with this
-- index
pub record IsInFlight (v : TransmitValue) (o : Open) (index : ℕ) (w : World) (bodies : ℕ → FrameValue)
    (x : Exchange) (m : Mpdu) : Type 0 where
  pub stands : StandsFor v w bodies
  pub number : ℕ
  pub known : exchange w number ≡ Some x
  pub same : o ≡ open_of x
  pub among : slice_get (mpdus_of x.content) index ≡ Some m

-- in some world, the transmission of o with this index flies and carries the number seq modulo 4096
pub record Flies (v : TransmitValue) (o : Open) (index seq : ℕ) : Type 0 where
  pub world : World
  pub bodies : ℕ → FrameValue
  pub exchange_is : Exchange
  pub mpdu : Mpdu
  pub flight : IsInFlight v o index world bodies exchange_is mpdu
  pub carries : number_carried o.sending index ≡ Some seq
