-- Proves what `Half::add_fresh` promises: each step adds the frame that the world's aggregate adds next.
-- By cases of what ends the loop: a full aggregate, a TID that gives no number, no queued frame, or a frame
-- that does not fit.
use Rattle.std.proofs.Common.{refl, ap, sym, ◌∙◌, arith, ℕ, ◌+◌, ◌∷◌, [], length, length-append, Option, option_map}
use Rattle.wf_frame.specs.Frames.{FrameValue}
use Rattle.wf_def_air.specs.Airtime.{Rate}
use Rattle.wf_air.specs.declared.fit.SizeLimits.{SizeLimits}
use Rattle.wf_queue_flows.specs.CodelParams.{params_of}
use Rattle.wf_queue_flows.specs.Flows.{SettingsValue}
use Rattle.wf_send_parts.specs.declared.stations.members.Member.{Member}
use Rattle.wf_send_parts.specs.Members.{member}
use Rattle.wf_send_parts.specs.Window.{can_take}
use Rattle.wf_send_half_model.specs.Half.{TransmitValue, is_held_back_of}
use Rattle.wf_send_half_model.proofs.Gives.{full_fills, filled_idle}
use Rattle.wf_send_half.specs.Pulls.{HasTurn, IsParamsOf, IsGivenNumber}
use Rattle.wf_send_half.proofs.CallSteps.{view_of}
use Rattle.wf_send_half.proofs.Filling.{both_give, takes_none, takes_number, takes_no_number, held_gives, none_queued, goes_on_fresh, ends_fresh, same_limits, turn_of, same_given}
use Rattle.wf_send_half.proofs.Giving.{drops_held, gave_fresh}
use Rattle.wf_send_half.proofs.half.Half.add_fresh.Goals as goal
use Rattle.wf_send_half.proofs.half.Half.add_fresh.Goals.{In-Ok}

-- a held TID gives no number
pub returns-then-is_held_back-clause-filled : goal.returns-then-is_held_back-clause-filled
returns-then-is_held_back-clause-filled c bodies after h =
    filled_idle c.args.self.now h.world bodies c.args.station c.args.tid c.args.aggregate.now.size
    c.args.aggregate.now.numbers h.mpdus after h.filling
    (held_gives _ _ _ (sym c.is_held_back.ensures ∙ c.if-is_held_back.true))

-- the half after the frame has its number
abbrev left : In-Ok → TransmitValue
left c = view_of (record c.fresh.self-inside {
  flows = c.take.new.self;
  windows = c.give.new.self;
  tally = c.settle_all.new.self;
})

given_fresh : (c : In-Ok) → IsGivenNumber (view_of c.fresh.self-inside) (left c) c.args.station c.args.tid
    c.in-Ok.number c.len-len.result
given_fresh c =
    let h = c.requires.filling in
    let v : TransmitValue = view_of c.fresh.self-inside in
    let turn : HasTurn v c.args.station c.args.tid =
    turn_of v h.bodies c.args.station c.args.tid c.fresh.aggregate.size c.fresh.aggregate.numbers h.after
    (c.fresh.invariant.on h.bodies h.after h.goes_on) in
    let F : TransmitValue → Option Rate = λ z. option_map (λ m. m.rate) (member z.members c.args.station) in
    let read : IsParamsOf v c.args.station (params_of c.of-params.result) = record {
      rate = c.member.result.now.rate;
      is_rate = ap F c.fresh.invariant.same ∙ ap F (sym c.self.view_is)
          ∙ ap (option_map (λ (m : Member). m.rate)) c.member.ensures;
      is = c.of-params.ensures;
    } in
    gave_fresh v v refl c.args.station c.args.tid turn _ read c.take.new.self
    c.in-Some.taken.parcel c.in-Some.ensures.taken c.in-Some.taken.dropped c.in-Some.ensures.dropped _
    c.settle_all.ensures.counted c.give.new.self c.in-Ok.ensures.others c.in-Ok.ensures.room c.in-Ok.number
    c.len-len.result (c.len-len.ensures.exact ∙ ap (λ (g : FrameValue). length g.body) c.frame.ensures)
    c.in-Ok.ensures.given

pub settle_all-requires-clause-held : goal.settle_all-requires-clause-held
settle_all-requires-clause-held c =
    let h = c.requires.filling in
    let v : TransmitValue = view_of c.fresh.self-inside in
    let turn : HasTurn v c.args.station c.args.tid =
    turn_of v h.bodies c.args.station c.args.tid c.fresh.aggregate.size c.fresh.aggregate.numbers h.after
    (c.fresh.invariant.on h.bodies h.after h.goes_on) in
    let F : TransmitValue → Option Rate = λ z. option_map (λ m. m.rate) (member z.members c.args.station) in
    let read : IsParamsOf v c.args.station (params_of c.of-params.result) = record {
      rate = c.member.result.now.rate;
      is_rate = ap F c.fresh.invariant.same ∙ ap F (sym c.self.view_is)
          ∙ ap (option_map (λ (m : Member). m.rate)) c.member.ensures;
      is = c.of-params.ensures;
    } in
    drops_held v v refl c.args.station c.args.tid turn _ read c.take.new.self
    c.in-Some.taken.parcel c.in-Some.ensures.taken c.in-Some.taken.dropped c.in-Some.ensures.dropped

pub push-requires : goal.push-requires
push-requires c = (omega arith, omega (arith, c.len.ensures.count, c.fresh-test.true, c.requires.few))

pub returns-then-not-add-clause-filled : goal.returns-then-not-add-clause-filled
returns-then-not-add-clause-filled c bodies after k =
    let v : TransmitValue = view_of c.fresh.self-inside in
    let u : TransmitValue = left (goal.at.returns-then-not-add-clause-filled c).In-Ok in
    let given = given_fresh (goal.at.returns-then-not-add-clause-filled c).In-Ok in
    rw (c.if-not-add.ensures.refused refl)
    (ends_fresh v bodies c.args.station c.args.tid c.fresh.aggregate.size c.fresh.aggregate.numbers
    after (c.fresh.invariant.on bodies after k)
    (omega (arith, c.fresh.invariant.most, c.len.ensures.count, c.fresh-test.true))
    (both_give c.in-Some.ensures.some
    (takes_number _ _ (ap can_take (sym c.at.ensures) ∙ sym c.if-can_give.ensures.shown)
    (ap (λ (z : TransmitValue). is_held_back_of z c.args.station c.args.tid) c.fresh.invariant.same
    ∙ sym c.is_held_back.ensures ∙ c.if-is_held_back.false))) u c.in-Ok.number
    c.len-len.result given c.protected.result (c.protected.ensures.exact
    ∙ ap (λ (n : ℕ). c.len-len.result + n)
    (ap (λ (z : TransmitValue). z.config.overhead) c.self.view_is
    ∙ sym (ap (λ (z : TransmitValue). z.config.overhead) c.fresh.invariant.same))) c.if-not-add.ensures.exact)

pub returns-then-not-add-clause-same : goal.returns-then-not-add-clause-same
returns-then-not-add-clause-same c =
    let v : TransmitValue = view_of c.fresh.self-inside in
    let u : TransmitValue = left (goal.at.returns-then-not-add-clause-same c).In-Ok in
    let given = given_fresh (goal.at.returns-then-not-add-clause-same c).In-Ok in
    same_given c.args.self.now v u c.args.station c.args.tid c.in-Ok.number c.len-len.result
    c.fresh.invariant.same given

pub fresh-smaller : goal.fresh-smaller
fresh-smaller c =
    omega (
      arith,
      ap (length {A = ℕ}) c.push.ensures,
      length-append c.fresh.aggregate.numbers (c.in-Ok.number ∷ []),
      c.len.ensures.count,
      c.fresh-test.true,
      c.requires.few,
    )

pub fresh-preserved : goal.fresh-preserved
fresh-preserved c =
    let v : TransmitValue = view_of c.fresh.self-inside in
    let u : TransmitValue = left (goal.at.fresh-preserved c).In-Ok in
    let given = given_fresh (goal.at.fresh-preserved c).In-Ok in
    record {
      on = λ bodies after k.
          rw (c.push.ensures)
          (goes_on_fresh v bodies c.args.station c.args.tid c.fresh.aggregate.size
          c.fresh.aggregate.numbers after (c.fresh.invariant.on bodies after k)
          (omega (arith, c.fresh.invariant.most, c.len.ensures.count, c.fresh-test.true))
          (both_give c.in-Some.ensures.some
          (takes_number _ _ (ap can_take (sym c.at.ensures) ∙ sym c.if-can_give.ensures.shown)
          (ap (λ (z : TransmitValue). is_held_back_of z c.args.station c.args.tid) c.fresh.invariant.same
          ∙ sym c.is_held_back.ensures ∙ c.if-is_held_back.false))) u c.in-Ok.number
          c.len-len.result given c.protected.result (c.protected.ensures.exact
          ∙ ap (λ (n : ℕ). c.len-len.result + n)
          (ap (λ (z : TransmitValue). z.config.overhead) c.self.view_is
          ∙ sym (ap (λ (z : TransmitValue). z.config.overhead) c.fresh.invariant.same)))
          c.add.new.self c.if-not-add.ensures.exact
          (λ ls k. c.if-not-add.ensures.taken ls k refl) c.if-not-add.ensures.kept);
      same = same_given c.args.self.now v u c.args.station c.args.tid
          c.in-Ok.number c.len-len.result c.fresh.invariant.same
          given;
      stations = ap (λ (x : SettingsValue). x.stations) c.take.ensures.settings ∙ c.fresh.invariant.stations;
      sized = c.give.ensures.count ∙ c.fresh.invariant.sized;
      most = ap (λ (z : SizeLimits). z.frames)
          (same_limits c.fresh.aggregate.size c.add.new.self c.if-not-add.ensures.kept)
          ∙ c.fresh.invariant.most;
    }

pub returns-else-can_give-clause-filled : goal.returns-else-can_give-clause-filled
returns-else-can_give-clause-filled c bodies after h =
    let v : TransmitValue = view_of c.fresh.self-inside in
    let k = c.fresh.invariant.on bodies after h in
    filled_idle v k.world bodies c.args.station c.args.tid c.fresh.aggregate.size
    c.fresh.aggregate.numbers k.mpdus after k.filling
    (takes_none _ _ (takes_no_number _ _ (ap can_take (sym c.at.ensures) ∙ sym c.if-can_give.ensures.shown)))

pub returns-in_default-clause-filled : goal.returns-in_default-clause-filled
returns-in_default-clause-filled c bodies after h =
    let v : TransmitValue = view_of c.fresh.self-inside in
    let k = c.fresh.invariant.on bodies after h in
    rw (c.in_default.ensures.unchanged)
    (filled_idle v k.world bodies c.args.station c.args.tid c.fresh.aggregate.size
    c.fresh.aggregate.numbers k.mpdus after k.filling (none_queued _ _ c.in_default.ensures.none))

pub returns-after-fresh-clause-filled : goal.returns-after-fresh-clause-filled
returns-after-fresh-clause-filled c bodies after h =
    let k = c.fresh.invariant.on bodies after h in
    full_fills (view_of c.fresh.self-inside) k.world bodies c.args.station c.args.tid c.fresh.aggregate.size
    c.fresh.aggregate.numbers k.mpdus after k.filling
    (omega (arith, c.fresh.invariant.most, c.len.ensures.count, c.fresh-test.false))
