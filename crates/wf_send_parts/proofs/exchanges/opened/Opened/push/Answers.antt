-- Proves that `Opened::push` keeps the invariant: the new number is above all others, and the sum of the
-- charges grows by the new one.
use Rattle.std.proofs.Common.{◌≡◌, ◌∙◌, sym, subst, ap, arith, List, get_or}
use Rattle.std.specs.Prelude.{All}
use Rattle.std.proofs.lemmas.List.Elements.{All-push}
use Rattle.std.proofs.lemmas.List.{get_or_default}
use Rattle.wf_send_parts.specs.Exchanges.{exchange_number, airtime_of}
use Rattle.wf_send_parts.specs.declared.exchanges.opened.Open.{Open}
use Rattle.wf_send_parts.proofs.Airtime.{IsSmall, IsKnown, airtime_push, airtime_most, to_most, place_below, airtime_there, airtimes_push}
use Rattle.wf_send_parts.proofs.Kept.{kept_push}
use Rattle.wf_send_parts.proofs.exchanges.opened.Opened.push.Goals as goal

pub overflow_add-self : goal.overflow_add-self
overflow_add-self c = omega (
  arith,
  c.self.invariant.sum,
  airtime_most c.self.inside.list.items c.self.invariant.small,
  c.self.invariant.kept.few,
  c.requires.small,
)

pub index_mut-requires : goal.index_mut-requires
index_mut-requires c = omega (
  arith,
  c.airtime_place.ensures,
  c.self.invariant.sums.places,
  place_below c.args.exchange.station c.args.exchange.class c.requires.station,
)

pub overflow_add-index_mut : goal.overflow_add-index_mut
overflow_add-index_mut c =
    let value : c.index_mut.result.now ≡ get_or c.self.inside.airtimes.items c.airtime_place.result 0 =
    c.index_mut.ensures.value ∙ get_or_default c.self.inside.airtimes.items c.airtime_place.result _ 0
    (omega (
      arith,
      c.airtime_place.ensures,
      c.self.invariant.sums.places,
      place_below c.args.exchange.station c.args.exchange.class c.requires.station,
    )) in
    omega (
      arith,
      airtime_there c.self.inside.list.items c.args.exchange c.self.inside.airtimes.items
          c.airtime_place.result c.index_mut.result.now c.self.invariant.sums c.requires.station
          c.airtime_place.ensures value,
      to_most c.self.inside.list.items c.args.exchange.station c.args.exchange.class,
      airtime_most c.self.inside.list.items c.self.invariant.small,
      c.self.invariant.kept.few,
      c.requires.small,
    )

pub invariant_of-self : goal.invariant_of-self
invariant_of-self c = record {
  kept = kept_push exchange_number c.self.inside.list.items c.args.self.now _ c.args.exchange _ _
      c.self.invariant.kept c.self.view_is
      c.requires.room c.requires.above c.push_reserved.ensures.items c.push_reserved.ensures.capacity;
  small = subst (λ (xs : List Open). All IsSmall xs) (sym c.push_reserved.ensures.items)
      (All-push IsSmall c.self.inside.list.items c.args.exchange c.self.invariant.small c.requires.small);
  known = subst (λ (xs : List Open). All IsKnown xs) (sym c.push_reserved.ensures.items)
      (All-push IsKnown c.self.inside.list.items c.args.exchange c.self.invariant.known c.requires.station);
  sums =
      let value : c.index_mut.result.now ≡ get_or c.self.inside.airtimes.items c.airtime_place.result 0 =
      c.index_mut.ensures.value ∙ get_or_default c.self.inside.airtimes.items c.airtime_place.result _ 0
      (omega (
        arith,
        c.airtime_place.ensures,
        c.self.invariant.sums.places,
        place_below c.args.exchange.station c.args.exchange.class c.requires.station,
      )) in
      airtimes_push c.self.inside.list.items _ c.args.exchange c.self.inside.airtimes.items
      c.airtime_place.result c.index_mut.result.now c.self.invariant.sums c.requires.station
      c.push_reserved.ensures.items c.airtime_place.ensures value;
  sum = omega (
    arith,
    c.self.invariant.sum,
    ap airtime_of c.push_reserved.ensures.items,
    airtime_push c.self.inside.list.items c.args.exchange,
  );
}
