-- Proves the contract of `Opened::take_out`: the numbers rise, so at most one exchange has this one.
use Rattle.std.proofs.Common.{◌≡◌, ◌∙◌, ◌<◌, sym, subst, ap, arith, ◌==◌, List, length, get_or}
use Rattle.std.specs.Prelude.{All, position, Some}
use Rattle.std.proofs.lemmas.List.{get_or_default}
use Rattle.std.proofs.lemmas.List.Quantifiers.{position-Some}
use Rattle.wf_send_parts.specs.Exchanges.{exchange_number, airtime_of}
use Rattle.wf_send_parts.specs.declared.exchanges.opened.Open.{Open}
use Rattle.wf_send_parts.proofs.Airtime.{IsSmall, IsKnown, airtime_remove, all_remove, place_below, airtime_covers, airtimes_remove}
use Rattle.wf_send_parts.proofs.Kept.{kept_remove}
use Rattle.wf_send_parts.proofs.Rising.{nowhere, somewhere}
use Rattle.wf_send_parts.proofs.exchanges.opened.Opened.take_out.Goals as goal

pub overflow_sub-self : goal.overflow_sub-self
overflow_sub-self c =
    let at : position (λ x. exchange_number x == c.args.number) c.self.inside.list.items
    ≡ Some c.in-Some.place = rw c.self.view_is (sym c.in-Some.ensures) in
    omega (
      arith,
      c.self.invariant.sum,
      ap (λ (x : Open). x.charge) c.remove-exchange.ensures.value,
      airtime_remove c.self.inside.list.items c.in-Some.place c.remove-exchange.result
          (position-Some (λ x. exchange_number x == c.args.number) c.self.inside.list.items c.in-Some.place
          c.remove-exchange.result at).0,
    )

pub index_mut-requires : goal.index_mut-requires
index_mut-requires c =
    let at : position (λ x. exchange_number x == c.args.number) c.self.inside.list.items
    ≡ Some c.in-Some.place = rw c.self.view_is (sym c.in-Some.ensures) in
    let within : c.in-Some.place < length c.self.inside.list.items =
    (position-Some (λ x. exchange_number x == c.args.number) c.self.inside.list.items c.in-Some.place
    c.remove-exchange.result at).0 in
    omega (
      arith,
      c.airtime_place.ensures,
      c.self.invariant.sums.places,
      place_below c.remove-exchange.result.station c.remove-exchange.result.class
          (subst IsKnown (sym c.remove-exchange.ensures.value)
          (c.self.invariant.known c.in-Some.place c.remove-exchange.result within)),
    )

pub overflow_sub-index_mut : goal.overflow_sub-index_mut
overflow_sub-index_mut c =
    let at : position (λ x. exchange_number x == c.args.number) c.self.inside.list.items
    ≡ Some c.in-Some.place = rw c.self.view_is (sym c.in-Some.ensures) in
    let within : c.in-Some.place < length c.self.inside.list.items =
    (position-Some (λ x. exchange_number x == c.args.number) c.self.inside.list.items c.in-Some.place
    c.remove-exchange.result at).0 in
    let known : IsKnown c.remove-exchange.result = subst IsKnown (sym c.remove-exchange.ensures.value)
    (c.self.invariant.known c.in-Some.place c.remove-exchange.result within) in
    let value : c.index_mut.result.now ≡ get_or c.self.inside.airtimes.items c.airtime_place.result 0 =
    c.index_mut.ensures.value ∙ get_or_default c.self.inside.airtimes.items c.airtime_place.result _ 0
    (omega (
      arith,
      c.airtime_place.ensures,
      c.self.invariant.sums.places,
      place_below c.remove-exchange.result.station c.remove-exchange.result.class known,
    )) in
    airtime_covers c.self.inside.list.items c.in-Some.place c.remove-exchange.result
    c.self.inside.airtimes.items c.airtime_place.result c.index_mut.result.now c.self.invariant.sums known
    within c.remove-exchange.ensures.value c.airtime_place.ensures value

pub invariant_of-self : goal.invariant_of-self
invariant_of-self c =
    let at : position (λ x. exchange_number x == c.args.number) c.self.inside.list.items
    ≡ Some c.in-Some.place = rw c.self.view_is (sym c.in-Some.ensures) in
    record {
      kept = kept_remove exchange_number c.self.inside.list.items _ c.in-Some.place _ _
          c.self.invariant.kept c.remove-exchange.ensures.items c.remove-exchange.ensures.capacity;
      small = subst (λ (xs : List Open). All IsSmall xs) (sym c.remove-exchange.ensures.items)
          (all_remove IsSmall c.self.inside.list.items c.in-Some.place c.self.invariant.small);
      known = subst (λ (xs : List Open). All IsKnown xs) (sym c.remove-exchange.ensures.items)
          (all_remove IsKnown c.self.inside.list.items c.in-Some.place c.self.invariant.known);
      sums =
          let within : c.in-Some.place < length c.self.inside.list.items =
          (position-Some (λ x. exchange_number x == c.args.number) c.self.inside.list.items c.in-Some.place
          c.remove-exchange.result at).0 in
          let known : IsKnown c.remove-exchange.result = subst IsKnown (sym c.remove-exchange.ensures.value)
          (c.self.invariant.known c.in-Some.place c.remove-exchange.result within) in
          let value : c.index_mut.result.now ≡ get_or c.self.inside.airtimes.items c.airtime_place.result 0 =
          c.index_mut.ensures.value ∙ get_or_default c.self.inside.airtimes.items c.airtime_place.result _ 0
          (omega (
            arith,
            c.airtime_place.ensures,
            c.self.invariant.sums.places,
            place_below c.remove-exchange.result.station c.remove-exchange.result.class known,
          )) in
          airtimes_remove c.self.inside.list.items _ c.in-Some.place c.remove-exchange.result
          c.self.inside.airtimes.items c.airtime_place.result c.index_mut.result.now c.self.invariant.sums
          known within c.remove-exchange.ensures.value c.remove-exchange.ensures.items
          c.airtime_place.ensures value;
      sum = omega (
        arith,
        c.self.invariant.sum,
        ap airtime_of c.remove-exchange.ensures.items,
        ap (λ (x : Open). x.charge) c.remove-exchange.ensures.value,
        airtime_remove c.self.inside.list.items c.in-Some.place c.remove-exchange.result
            (position-Some (λ x. exchange_number x == c.args.number) c.self.inside.list.items c.in-Some.place
            c.remove-exchange.result at).0,
      );
    }

pub returns-in-Some-clause-taken : goal.returns-in-Some-clause-taken
returns-in-Some-clause-taken c =
    let at : position (λ x. exchange_number x == c.args.number) c.self.inside.list.items
    ≡ Some c.in-Some.place = rw c.self.view_is (sym c.in-Some.ensures) in
    rw (← c.self.view_is) (ap Some c.remove-exchange.ensures.value
    ∙ sym (somewhere exchange_number c.args.number c.self.inside.list.items c.in-Some.place
    c.remove-exchange.result c.self.invariant.kept.rising at).0)

pub returns-in-Some-clause-rest : goal.returns-in-Some-clause-rest
returns-in-Some-clause-rest c =
    let at : position (λ x. exchange_number x == c.args.number) c.self.inside.list.items
    ≡ Some c.in-Some.place = rw c.self.view_is (sym c.in-Some.ensures) in
    rw (← c.self.view_is) (c.remove-exchange.ensures.items
    ∙ (somewhere exchange_number c.args.number c.self.inside.list.items c.in-Some.place
    c.remove-exchange.result c.self.invariant.kept.rising at).1)

pub returns-in-None-clause-taken : goal.returns-in-None-clause-taken
returns-in-None-clause-taken c = sym (nowhere (λ x. exchange_number x == c.args.number) c.args.self.now
    (sym c.in-None.ensures)).0

pub returns-in-None-clause-rest : goal.returns-in-None-clause-rest
returns-in-None-clause-rest c = sym (nowhere (λ x. exchange_number x == c.args.number) c.args.self.now
    (sym c.in-None.ensures)).1
