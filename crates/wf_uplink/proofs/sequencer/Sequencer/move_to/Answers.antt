-- Each iteration is one step of the move, as in Steps.
use Rattle.std.proofs.Common.{◌≡◌, ◌+◌, ◌<◌, ◌≤◌, nat_lt, ◌∙◌, List, ◌++◌, [], false, length, map, ap, ap₂, sym, arith, append_assoc, length-append}
use Rattle.std.proofs.lemmas.Bool.Decides.{nat_tests}
use Rattle.std.proofs.lemmas.List.{length-map, map-append, append-nil}
use Rattle.wf_uplink.specs.declared.items.UpItem.{UpItem}
use Rattle.wf_uplink.specs.Reordering.{Reordering, Passed, ReorderingOutcome, stored_from, moved_to}
use Rattle.wf_uplink.specs.Shown.{item_of}
use Rattle.wf_uplink.proofs.Moves.{hole_from}
use Rattle.wf_uplink.proofs.Standing.{this, not_this, kept_from, less_from}
use Rattle.wf_uplink.proofs.Steps.{onto, step}
use Rattle.wf_uplink.proofs.sequencer.Sequencer.move_to.Goals as goal

pub skip_to-requires : goal.skip_to-requires
skip_to-requires c =
    let r : Reordering = c.loop-self.self in
    let on = c.next_stop-next.ensures in
    let at = ap (λ (q : Reordering). q.start) c.self.view_is in
    let short : r.start < c.args.target = omega (arith, at, c.loop-self-test.true) in
    let from = kept_from c.self.inside.start c.self.inside.window c.self.inside.since c.self.inside.buffer r
    c.self.view_is c.self.invariant in
    let s = step c.next_stop-next.result c.args.target r
    (less_from r.start (r.start + 1) r.stored (omega arith) from)
    (omega (arith, on.forward)) on.most on.first on.which in
    let go : onto c.args.target r ≡ moved_to c.args.target r =
    this (nat_lt r.start c.args.target) _ _ (grind (arith, nat_tests, short)) in
    let parts = ap length (sym s.passed) ∙ length-append (moved_to c.next_stop-next.result r).passed
    (onto c.args.target (moved_to c.next_stop-next.result r).after).passed in
    let all = sym (length-append c.loop-self.items (map item_of (onto c.args.target r).passed))
    ∙ ap length c.loop-self.invariant.items
    ∙ length-append c.args.items.now (map item_of (moved_to c.args.target c.args.self.now).passed) in
    let rest = length-map (onto c.args.target r).passed item_of
    ∙ ap (λ (o : ReorderingOutcome). length o.passed) go in
    let whole = length-map (moved_to c.args.target c.args.self.now).passed item_of in
    record {
      forward = on.forward;
      near = omega (arith, on.most, c.loop-self.invariant.near);
      low = omega (arith, short, c.requires.near, c.requires.low);
      first = on.first;
      room = omega (arith, parts, all, rest, whole, c.requires.room);
    }

pub loop-self-init : goal.loop-self-init
loop-self-init c =
    let go : onto c.args.target c.args.self.now ≡ moved_to c.args.target c.args.self.now =
    this (nat_lt c.args.self.now.start c.args.target) _ _ (grind (arith, nat_tests, c.requires.forward)) in
    record {
      items = ap (λ (o : ReorderingOutcome). c.args.items.now ++ map item_of o.passed) go;
      after = ap (λ (o : ReorderingOutcome). o.after) go;
      near = c.requires.near;
    }

pub loop-self-smaller : goal.loop-self-smaller
loop-self-smaller c =
    let at = ap (λ (q : Reordering). q.start) c.self.view_is in
    let there = ap (λ (q : Reordering). q.start) c.skip_to.ensures.after in
    let past = hole_from c.next_stop-next.result (stored_from c.next_stop-next.result c.loop-self.self.stored)
    in
    omega (arith, at, there, past, c.loop-self-test.true, c.next_stop-next.ensures.forward)

pub loop-self-preserved : goal.loop-self-preserved
loop-self-preserved c =
    let r : Reordering = c.loop-self.self in
    let next = c.next_stop-next.result in
    let target = c.args.target in
    let on = c.next_stop-next.ensures in
    let at = ap (λ (q : Reordering). q.start) c.self.view_is in
    let short : r.start < c.args.target = omega (arith, at, c.loop-self-test.true) in
    let from = kept_from c.self.inside.start c.self.inside.window c.self.inside.since c.self.inside.buffer r
    c.self.view_is c.self.invariant in
    let s = step c.next_stop-next.result c.args.target r
    (less_from r.start (r.start + 1) r.stored (omega arith) from)
    (omega (arith, on.forward)) on.most on.first on.which in
    let go : onto c.args.target r ≡ moved_to c.args.target r =
    this (nat_lt r.start c.args.target) _ _ (grind (arith, nat_tests, short)) in
    let there = ap (λ (q : Reordering). q.start) c.skip_to.ensures.after in
    let past = hole_from c.next_stop-next.result (stored_from c.next_stop-next.result r.stored) in
    record {
      items = ap₂ (λ (us : List UpItem) (q : Reordering). us ++ map item_of (onto target q).passed)
          c.skip_to.ensures.items c.skip_to.ensures.after
          ∙ append_assoc c.loop-self.items (map item_of (moved_to next r).passed)
          (map item_of (onto target (moved_to next r).after).passed)
          ∙ ap (λ ys. c.loop-self.items ++ ys) (sym (map-append item_of (moved_to next r).passed
          (onto target (moved_to next r).after).passed))
          ∙ ap (λ (ys : List Passed). c.loop-self.items ++ map item_of ys)
          (s.passed ∙ ap (λ (o : ReorderingOutcome). o.passed) (sym go))
          ∙ c.loop-self.invariant.items;
      after = ap (λ (q : Reordering). (onto target q).after) c.skip_to.ensures.after ∙ s.after
          ∙ ap (λ (o : ReorderingOutcome). o.after) (sym go) ∙ c.loop-self.invariant.after;
      near = omega (arith, there, past, on.forward, c.loop-self.invariant.near);
    }

pub returns : goal.returns
returns c =
    let r : Reordering = c.loop-self.self in
    let at = ap (λ (q : Reordering). q.start) c.self.view_is in
    let over : c.args.target ≤ r.start = omega (arith, at, c.loop-self-test.false) in
    let stay : onto c.args.target r ≡ record { passed = []; old = false; after = r } =
    not_this (nat_lt r.start c.args.target) _ _ (grind (arith, nat_tests, over)) in
    record {
      after = ap (λ (o : ReorderingOutcome). o.after) (sym stay) ∙ c.loop-self.invariant.after;
      items = sym (append-nil c.loop-self.items) ∙ ap
          (λ (o : ReorderingOutcome). c.loop-self.items ++ map item_of o.passed) (sym stay)
          ∙ c.loop-self.invariant.items;
    }
