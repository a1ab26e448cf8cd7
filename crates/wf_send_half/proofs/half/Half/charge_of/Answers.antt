-- Proves what `Half::charge_of` promises. By cases of what answers the frames: an Ack, or a BlockAck.
use Rattle.std.proofs.Common.{◌≡◌, ap, sym, ◌∙◌, ◌||◌, ℕ, Bool, true, false, List, if◌then◌else◌}
use Rattle.wf_def_air.specs.Airtime.{is_single, data_charge, plain_charge}
use Rattle.wf_def_air.specs.Fit.{aggregate_octets, plain_octets}
use Rattle.wf_air.specs.Sizes.{AggregateSizeValue}
use Rattle.wf_send_half_model.specs.Half.{is_plain_of}
use Rattle.wf_send_half_model.specs.Filling.{charge_in}
use Rattle.wf_send_half.proofs.half.Half.charge_of.Goals.{then-is_plain, else-is_plain}
use Rattle.wf_send_half.proofs.half.Half.charge_of.Goals as goal

-- the charge by whether an Ack answers
charge_with : (room : AggregateSizeValue) (lens : List ℕ) (acked : Bool) → ℕ
charge_with room lens acked =
    if acked then plain_charge room.answers room.rate (plain_octets room.rate lens)
    else data_charge room.answers room.rate (aggregate_octets lens) room.wide

-- what `charge_in` decides by
charge_acked : (room : AggregateSizeValue) (plain : Bool) (lens : List ℕ) (acked : Bool) →
    plain || is_single room.rate ≡ acked → charge_with room lens acked ≡ charge_in room plain lens
unfolding charge_with
charge_acked room plain lens acked is = ap (charge_with room lens) (sym is)

pub returns-then-is_single : goal.returns-then-is_single
unfolding charge_with
returns-then-is_single c lens stands =
    let acked : is_plain_of c.args.self.now c.args.station c.args.tid
    || is_single c.args.aggregate.now.size.rate ≡ c.if-is_plain.value = elim c.if-is_plain.branch [
      | then-is_plain x ↦ ap (λ (b : Bool). b || is_single c.args.aggregate.now.size.rate)
          (sym c.is_plain.ensures ∙ x.if-is_plain.true) ∙ sym x.if-is_plain.true ∙ sym x.value-is
      | else-is_plain x ↦ ap (λ (b : Bool). b || is_single c.args.aggregate.now.size.rate)
          (sym c.is_plain.ensures ∙ x.if-is_plain.false) ∙ sym x.is_single.ensures ∙ sym x.value-is
    ] in
    c.plain_air.ensures.exact lens stands
    ∙ charge_acked c.args.aggregate.now.size _ lens true (acked ∙ c.if-is_single.true)

pub returns-else-is_single : goal.returns-else-is_single
unfolding charge_with
returns-else-is_single c lens stands =
    let acked : is_plain_of c.args.self.now c.args.station c.args.tid
    || is_single c.args.aggregate.now.size.rate ≡ c.if-is_plain.value = elim c.if-is_plain.branch [
      | then-is_plain x ↦ ap (λ (b : Bool). b || is_single c.args.aggregate.now.size.rate)
          (sym c.is_plain.ensures ∙ x.if-is_plain.true) ∙ sym x.if-is_plain.true ∙ sym x.value-is
      | else-is_plain x ↦ ap (λ (b : Bool). b || is_single c.args.aggregate.now.size.rate)
          (sym c.is_plain.ensures ∙ x.if-is_plain.false) ∙ sym x.is_single.ensures ∙ sym x.value-is
    ] in
    c.air.ensures.exact lens stands
    ∙ charge_acked c.args.aggregate.now.size _ lens false (acked ∙ c.if-is_single.false)
