-- Each iteration moves one frame to the end.
use Rattle.std.proofs.Common.{◌≡◌, ◌∙◌, ◌%◌, ℕ, ap, arith, Bool, ◌&&◌, ◌||◌, nat_le, [], ◌∷◌, ◌++◌, length, length-append}
use Rattle.std.specs.Prelude.{◌==◌}
use Rattle.wf_frame.specs.Frames.{FrameValue}
use Rattle.wf_queue_flows.specs.Flows.{is_of_queue}
use Rattle.wf_queue_flows.proofs.Turning.{some_first, first_is, turn_more, any_more}
use Rattle.wf_queue_flows.proofs.backlog.holds_flow.Goals as goal

pub unwrap-parcel-requires : goal.unwrap-parcel-requires
unwrap-parcel-requires c =
    let i = c.loop-place.invariant in
    some_first c.pop_front.result c.loop-place.chain c.pop_front.new.self c.pop_front.ensures (omega (
      arith,
      c.loop-place-test.true,
      c.len-place-end.ensures,
      ap (length {A = FrameValue}) i.2,
      ap (length {A = FrameValue}) i.3,
      length-append i.0 i.1,
      length-append i.1 i.0,
    ))

pub push_back-requires : goal.push_back-requires
push_back-requires c =
    let i = c.loop-place.invariant in
    omega (
      arith,
      c.len-place-end.ensures,
      c.len-place-end.type_inv,
      ap (length {A = FrameValue}) (first_is c.pop_front.result c.unwrap-parcel.result c.loop-place.chain
          c.pop_front.new.self c.pop_front.ensures c.unwrap-parcel.ensures),
      ap (length {A = FrameValue}) i.2,
      ap (length {A = FrameValue}) i.3,
      length-append i.0 i.1,
      length-append i.1 i.0,
    )

pub loop-place-preserved : goal.loop-place-preserved
loop-place-preserved c =
    let i = c.loop-place.invariant in
    let x : FrameValue = c.unwrap-parcel.result in
    let more = turn_more i.0 i.1 c.args.chain.now c.loop-place.chain c.pop_front.new.self c.push_back.new.self
    x i.2 i.3 (first_is c.pop_front.result x c.loop-place.chain c.pop_front.new.self c.pop_front.ensures
    c.unwrap-parcel.ensures) c.push_back.ensures
    (omega (arith, c.loop-place-test.true, c.len-place-end.ensures, i.4)) in
    let flow : c.flow.result ≡ x.flow = c.flow.ensures ∙ ap (λ (f : FrameValue). f.flow) c.frame.ensures in (
      i.0 ++ x ∷ [],
      more.0,
      more.1,
      more.2,
      omega (arith, length-append i.0 (x ∷ []), i.4),
      ap (λ (n : ℕ). c.loop-place.found || (nat_le c.args.skip c.loop-place.place
          && ((n % c.args.flows) == c.args.q))) flow
          ∙ ap (λ (b : Bool). b || (nat_le c.args.skip c.loop-place.place
          && is_of_queue c.args.flows c.args.q x)) i.5
          ∙ any_more (is_of_queue c.args.flows c.args.q) c.args.skip c.loop-place.place i.0 x i.4,
    )
