-- Proves the contract of `Window::give`: the parcel goes to the place after the last one, which is the place
-- of N.
use Rattle.std.proofs.Common.{◌<◌, ap, sym, subst, arith, length}
use Rattle.wf_def_agreement.specs.Session.{with_number_given}
use Rattle.wf_send_parts.specs.Ring.{RingValue}
use Rattle.wf_send_parts.specs.Window.{WindowValue, WindowStandsFor}
use Rattle.wf_send_parts.proofs.Calls.{give_law, room_of}
use Rattle.wf_send_parts.proofs.Laws.{places_length}
use Rattle.wf_send_parts.proofs.Steps.{shown}
use Rattle.wf_send_parts.proofs.window.window.Window.give.Goals as goal

pub returns-clause-given : goal.returns-clause-given
returns-clause-given c s bodies stands same =
    let q = c.self.inside in
    let P : WindowValue → Type 0 = λ v. WindowStandsFor v s bodies in
    let here : WindowStandsFor (shown q.size q.start q.passed q.ring) s bodies =
    subst P (sym c.self.view_is) stands in
    let room_is = room_of c.args.self.now (sym c.if-not-can_give.ensures.shown) in
    let room : length q.ring.items < q.size = omega (
      arith,
      room_is,
      ap (λ (w : WindowValue). length w.places) c.self.view_is,
      ap (λ (w : WindowValue). w.size) c.self.view_is,
    ) in
    let Q : RingValue → Type 0 = λ r. WindowStandsFor (shown q.size q.start q.passed r)
    (with_number_given s c.args.parcel.id) bodies in (
      omega (
        arith,
        c.plus-seq.ensures.number,
        c.len.ensures.number,
        here.start,
        places_length _ s bodies here,
      ),
      subst Q (sym c.push_back.ensures) (give_law (shown q.size q.start q.passed q.ring) s bodies here
          c.args.parcel.id c.args.parcel same room),
    )
