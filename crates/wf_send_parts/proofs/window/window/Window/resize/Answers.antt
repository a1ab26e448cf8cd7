-- Proves the contract of `Window::resize`: the window has no unsettled number.
use Rattle.std.proofs.Common.{◌≡◌, [], None, length, ap, sym, ◌∙◌, subst, arith, max}
use Rattle.wf_def_agreement.specs.Session.{start_of}
use Rattle.wf_send_parts.specs.Window.{WindowValue, WindowStandsFor}
use Rattle.wf_send_parts.proofs.Calls.{resized_law}
use Rattle.wf_send_parts.proofs.window.window.Window.resize.Goals as goal

pub invariant_of-self : goal.invariant_of-self
invariant_of-self c =
    let none : c.self.inside.ring.items ≡ [] =
    ap (λ (w : WindowValue). w.places) c.self.view_is ∙ c.requires.empty in
    record {
      bounded = omega (arith, ap length none);
      within =
          omega (arith, c.requires.in_range.1, ap (λ (w : WindowValue). w.capacity) c.self.view_is);
      small = c.self.invariant.small;
      begins = c.self.invariant.begins;
    }

pub returns-clause-stands : goal.returns-clause-stands
returns-clause-stands c s bodies stands =
    let q = c.self.inside in
    let P : WindowValue → Type 0 = λ w. WindowStandsFor (record w { size = c.args.size; due = None })
    (record s { heard = max s.heard (start_of s); size = c.args.size }) bodies in
    subst P (sym c.self.view_is) (resized_law c.args.self.now s bodies stands c.args.size c.requires.empty
    (omega (
      arith,
      c.requires.in_range.1,
      c.self.invariant.within,
      c.self.invariant.small,
      ap (λ (w : WindowValue). w.capacity) c.self.view_is,
    )))
