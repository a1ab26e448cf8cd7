-- Proves what an enqueue of a burst does: the frame whose node was made is the bare frame of the call.
use Rattle.std.proofs.Common.{refl, subst, sym}
use Rattle.wf_frame.specs.Frames.{FrameValue}
use Rattle.wf_frame.specs.declared.notes.Note.{Note}
use Rattle.wf_c.specs.Bodies.{IsGivenToC}
use Rattle.wf_c.specs.Bursts.{IsMade}
use Rattle.wf_c.specs.Numbers.{numbers_of}
use Rattle.wf_c.proofs.held.Held.make.Goals as goal

pub returns-in-Some-clause-made : goal.returns-in-Some-clause-made
returns-in-Some-clause-made c =
    let before = c.args.self.now in
    let after = c.take.new.self in
    let shown = numbers_of after.answer.brief in
    let given = c.take.ensures.given c.in-Some.parcel refl in
    subst (λ (n : Note). IsMade n before after shown) (sym c.in-Enqueue.is)
    (subst (λ (f : FrameValue). IsGivenToC before f after shown) c.in-Some.ensures.frame
    (record {
      meets = given.meets;
      refused = given.refused;
      addresses = given.addresses;
      path = given.path;
      shows = given.shows;
    }))
