-- Each join records one more seat in the first.
use Rattle.std.proofs.Common.{rules, sym, ap, ◌∙◌, inl, [], ◌∷◌, ◌++◌, length}
use Rattle.std.specs.Option.{option_to_list}
use mathlib.Core.Option.{some, some-ne-none}
use lib.ListN.{get_elem?}
use Rattle.atomic_table.proofs.Lists.{at_longer}
use Rattle.wf_gate.specs.Turns.{faces_of}
use Rattle.wf_gate.specs.Seats.{face_of}
use Rattle.wf_gate.proofs.Calls.{face_is}
use Rattle.wf_gate.proofs.Counts.{goes_over, at_middle, left_after, last_was}
use Rattle.wf_gate.proofs.Steps.{joins}
use Rattle.wf_gate.proofs.dealing.gather.Goals as goal

pub loop-seat-init : goal.loop-seat-init
loop-seat-init g c =
    let x = c.in-Some.last in
    let pass = c.last.inside.pass in
    let was = c.pop.ensures.items ∙ ap (λ r. c.pop.new.self.items ++ option_to_list r) c.in-Some.is in
    let own = c.requires.own (length c.pop.new.self.items) x
    (last_was c.args.seats.items c.pop.new.self.items x was) in
    let face = face_is _ _ _ pass c.last.invariant ∙ ap face_of c.last.view_is in
    record {
      own = (
        ap (λ s. s.table) c.last.view_is ∙ own.0,
        ap (λ s. s.opening) c.last.view_is ∙ own.1,
        c.last.invariant.idle,
      );
      left = left_after c.args.seats.items c.pop.new.self.items x was;
      all = λ k s e. goes_over face_of c.args.seats.items c.pop.new.self.items x [] (faces_of pass.me.0) was
          (λ i b d. absurd (some-ne-none b (sym d))) 0 (ap some face) k s (inl e);
    }

pub join_seat-requires : goal.join_seat-requires
join_seat-requires g c =
    let x = c.in-Some-pop.seat in let i = c.loop-seat.invariant in
    let was = c.pop-in-loop-seat.ensures.items ∙ ap
    (λ r. c.pop-in-loop-seat.new.self.items ++ option_to_list r) c.in-Some-pop.is in
    let own = c.requires.own (length c.pop-in-loop-seat.new.self.items) x
    (i.left (length c.pop-in-loop-seat.new.self.items) x
    (last_was c.loop-seat.seats.items c.pop-in-loop-seat.new.self.items x was)) in
    let opening = ap (λ s. s.opening) c.seat.view_is ∙ own.1 in (
      i.own.0,
      ap (λ s. s.table) c.seat.view_is ∙ own.0,
      c.seat.invariant.free,
      search rules,
      joins _ _ _ _ _ _ _ _ i.own.1 i.own.2 opening c.seat.invariant.idle,
    )

pub loop-seat-preserved : goal.loop-seat-preserved
loop-seat-preserved g c =
    let x = c.in-Some-pop.seat in let i = c.loop-seat.invariant in let j = c.join_seat.ensures in
    let was = c.pop-in-loop-seat.ensures.items ∙ ap
    (λ r. c.pop-in-loop-seat.new.self.items ++ option_to_list r) c.in-Some-pop.is in
    let v = c.loop-seat.first.me.0 in
    let w = c.seat.inside.pass.me.0 in
    let now = c.join_seat.new.seat.me.0 in
    let faces = ap (λ m. faces_of m.0) j.2 in
    let face = face_is _ _ _ c.seat.inside.pass c.seat.invariant ∙ ap face_of c.seat.view_is in
    record {
      own = (j.0 ∙ i.own.0, ap (λ m. m.0.opening) j.2 ∙ i.own.1, ap (λ m. m.0.stage) j.2 ∙ i.own.2);
      left = λ k s e. i.left k s (left_after c.loop-seat.seats.items c.pop-in-loop-seat.new.self.items x was k
          s e);
      all = λ k s e. goes_over face_of c.loop-seat.seats.items c.pop-in-loop-seat.new.self.items x
          (faces_of v) (faces_of now) was
          (λ n b d. ap (λ l. get_elem? l n) faces ∙ at_longer (faces_of v) (w.face ∷ w.records) n b d)
          (length (faces_of v)) (ap (λ l. get_elem? l (length (faces_of v))) faces
          ∙ (at_middle (faces_of v) w.face w.records ∙ ap some face)) k s (i.all k s e);
    }
