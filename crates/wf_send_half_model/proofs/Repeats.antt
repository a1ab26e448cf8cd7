-- Proves that the window of a TID tells whether the frame of a plain exchange may be sent again: its number
-- is the first of the window.
use Rattle.std.proofs.Common.{◌≡◌, refl, ap, sym, ◌∙◌, subst, arith, ℕ, suc, ◌≤◌, ◌&&◌, Bool, true, List, [], ◌∷◌, Some, inl, inr}
use Rattle.std.specs.Prelude.{nat_le, ◌%◌}
use Rattle.std.proofs.lemmas.Bool.{cases_Bool}
use Rattle.wf_frame.specs.Frames.{FrameValue}
use Rattle.wf_def_agreement.specs.Session.{Session, start_of, next_number}
use Rattle.wf_def_world.specs.World.{World, Exchange, Mpdu, Frames, is_plain, session, exchange}
use Rattle.wf_def_world.specs.Exchanges.{mpdus_of, repeat_distance, is_far}
use Rattle.wf_law_runs.specs.Modes.{IsPlainRight, KeepsModes}
use Rattle.wf_law_runs.specs.Places.{IsNumbered}
use Rattle.wf_law_runs.specs.Windows.{EachMpdu}
use Rattle.wf_law_runs.proofs.Modes.Law.{mode_law}
use Rattle.wf_send_parts.proofs.Far.{far_is}
use Rattle.wf_send_parts.proofs.Numbers.{open_number}
use Rattle.wf_send_parts.specs.Window.{WindowValue, IsNumber}
use Rattle.wf_send_parts.specs.Windows.{window_of}
use Rattle.wf_send_half_model.specs.Half.{TransmitValue}
use Rattle.wf_send_half_model.specs.Standing.{open_of, StandsFor}
use Rattle.wf_send_half_model.specs.Ending.{is_sent_once}
use Rattle.wf_send_half_model.proofs.Endings.{found, open_live, numbered_each, tid_below}
use Rattle.wf_send_half_model.proofs.Reached.{by_law}

each_told : (P Q : Mpdu → Type 0) (ms : List Mpdu) → ((m : Mpdu) → P m → Q m) → EachMpdu P ms →
    EachMpdu Q ms
each_told P Q [] f h = tt
each_told P Q (m ∷ ms) f h = (f m h.0, each_told P Q ms f h.1)

module _ (v : TransmitValue) (w : World) (bodies : ℕ → FrameValue) (h : StandsFor v w bodies) (e : ℕ)
    (x : Exchange) (known : exchange w e ≡ Some x) where
  abbrev y : Session
  y = session w x.station x.tid

  abbrev window : WindowValue
  window = window_of v.windows x.station x.tid

  modes : KeepsModes w
  modes = by_law KeepsModes w h.reached (mode_law w.config h.reached.history h.reached.in_range).worlds

  right : IsPlainRight w x
  right = found (IsPlainRight w) w.opened e x known modes.opened

  -- a plain exchange sends the first number of the window
  far_told : (m : Mpdu) → IsNumbered w m.id x.station x.tid m.number → x.plain ≡ true →
      nat_le repeat_distance window.unacked ≡ is_far y m.number
  far_told m number on =
      let plain : is_plain w x.station x.tid ≡ true = sym right.plain ∙ on in
      let one : next_number y ≤ suc (start_of y) = modes.one x.station x.tid plain in
      let here : IsNumber y m.number (m.number % 4096) =
      open_number y m.number (m.number % 4096) number.from number.unsettled refl in
      let same : start_of y ≡ m.number = omega (arith, here.from_start, here.given, one) in
      far_is window y bodies (h.parts.windows.all.stands x.station x.tid (open_live w h.reached e x known)
      (tid_below v w bodies h e x known m number)) one
      ∙ ap (is_far y) same

  once_told : (m : Mpdu) → IsNumbered w m.id x.station x.tid m.number →
      is_sent_once v (open_of x) ≡ x.plain && is_far y m.number
  once_told m number = elim (cases_Bool x.plain) [
    | inl on ↦ ap (λ (b : Bool). x.plain && b) (far_told m number on)
    | inr off ↦ ap (λ (b : Bool). b && nat_le repeat_distance window.unacked) off
        ∙ ap (λ (b : Bool). b && is_far y m.number) (sym off)
  ]

  pub sent_once : (mpdus : List Mpdu) → x.content ≡ Frames mpdus →
      EachMpdu (λ m. is_sent_once v (open_of x) ≡ x.plain && is_far y m.number) mpdus
  sent_once mpdus is = each_told (λ m. IsNumbered w m.id x.station x.tid m.number)
      (λ m. is_sent_once v (open_of x) ≡ x.plain && is_far y m.number) mpdus once_told
      (subst (EachMpdu (λ m. IsNumbered w m.id x.station x.tid m.number)) (ap mpdus_of is)
      (numbered_each v w bodies h e x known))
