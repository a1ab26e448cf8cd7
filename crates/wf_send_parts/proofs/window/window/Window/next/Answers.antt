-- Proves the contract of `Window::next`: N is the start plus the number of places.
use Rattle.std.proofs.Common.{length, ap, arith}
use Rattle.wf_send_parts.specs.Window.{WindowValue}
use Rattle.wf_send_parts.proofs.Laws.{places_length}
use Rattle.wf_send_parts.proofs.window.window.Window.next.Goals as goal

pub returns : goal.returns
returns c = record {
  number = λ s bodies stands.
      let start_is = ap (λ (w : WindowValue). w.start) c.self.view_is in
      let places_is = ap (λ (w : WindowValue). length w.places) c.self.view_is in
      omega (
        arith,
        c.plus.ensures.number,
        c.len.ensures.number,
        start_is,
        places_is,
        stands.start,
        places_length _ s bodies stands,
      );
}
