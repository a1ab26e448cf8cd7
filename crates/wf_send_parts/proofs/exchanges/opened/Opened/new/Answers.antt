-- Proves that a new list of open exchanges, which is empty, keeps the invariant: each airtime is 0.
use Rattle.std.proofs.Common.{refl, sym, subst, arith, ℕ, List, []}
use Rattle.std.specs.Prelude.{vec_capacity}
use Rattle.std.proofs.lemmas.List.Elements.{All-nil}
use Rattle.wf_send_parts.specs.Counted.{AreAirtimes, KnowsAirtime}
use Rattle.wf_send_parts.specs.declared.exchanges.opened.Open.{Open}
use Rattle.wf_send_parts.proofs.Airtime.{IsSmall, IsKnown, airtimes_none}
use Rattle.wf_send_parts.proofs.exchanges.opened.Opened.new.Goals as goal

pub invariant_of-result : goal.invariant_of-result
invariant_of-result c = subst (λ (xs : List Open).
    KnowsAirtime xs (vec_capacity c.in_ok-list.list) 0 c.in_ok-airtimes.airtimes.items)
    (sym c.in_ok-list.ensures.items) (record {
      kept = record { few = omega arith; reserved = c.in_ok-list.ensures.capacity; rising = tt };
      small = All-nil IsSmall;
      known = All-nil IsKnown;
      sum = refl;
      sums = subst (λ (ns : List ℕ). AreAirtimes [] ns) (sym (c.in_ok-airtimes.ensures.items_if_clones_equal
          (λ y e. e))) airtimes_none;
    })
