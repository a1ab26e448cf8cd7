-- Proves that `check` finds no setting if and only if each is in its range, setting by setting; and that
-- setting a value in its range keeps all in range.
use Rattle.std.proofs.Common.{◌≡◌, ◌∙◌, ◌↔◌, ℕ, zero, suc, ◌<◌, ◌≤◌, nat_le, Bool, true, false, cond, not, ◌&&◌, List, [], ◌∷◌, get_or, length, None, Some, find, refl, ap, lit<, arith}
use Rattle.wf_frame.specs.declared.settings.Config.{Config}
use Rattle.wf_frame.specs.declared.settings.Field.{Field}
use Rattle.wf_frame.specs.declared.settings.Field.TheVariants.{Stations, Flows, Limit, Room, FlowQuantum, Quantum, Inflight, Attempts, Agg, Cap, Sleeping, Calls, Charge, Debt, AqlTotal, KeepOrder, CodelReset, Aql, Pending, Overhead, CapVi, CapVo, Answers, Credits, Legacy, Period, Buffered, Bsses}
use Rattle.wf_frame.specs.Settings.{fields, lowest_of, greatest_of, value_of, with_value, is_in_range, first_out_of_range, IsInRange}

-- if nothing is found, the first item does not pass and nothing is found after it
past : {X : Type 0} (p : X → Bool) (x : X) (xs : List X) (b : Bool) → p x ≡ b → find p (x ∷ xs) ≡ None →
    (b ≡ false) × (find p xs ≡ None)
past p x xs true is none = absurd (cc)
past p x xs false is none = (refl, cc)

-- if nothing is found, no item of the list passes; and conversely
none_passes : {X : Type 0} (p : X → Bool) (xs : List X) → find p xs ≡ None → (k : ℕ) (d : X) → k < length xs →
    p (get_or xs k d) ≡ false
none_passes p [] none k d inside = absurd (omega (arith, inside))
none_passes p (x ∷ xs) none zero d inside = (past p x xs (p x) refl none).0
none_passes p (x ∷ xs) none (suc k) d inside =
    none_passes p xs (past p x xs (p x) refl none).1 k d (omega (arith, inside))

none_found : {X : Type 0} (p : X → Bool) (xs : List X) → ((x : X) → p x ≡ false) → find p xs ≡ None
none_found p [] fails = refl
none_found p (x ∷ xs) fails = ap (λ (b : Bool). cond b (Some x) (find p xs)) (fails x) ∙ none_found p xs fails

bounds : (least value greatest : ℕ) → not (nat_le least value && nat_le value greatest) ≡ false →
    (least ≤ value) × (value ≤ greatest)
bounds least value greatest within = (grind arith, grind arith)

within : (least value greatest : ℕ) → (least ≤ value) × (value ≤ greatest) →
    not (nat_le least value && nat_le value greatest) ≡ false
within least value greatest h = grind (arith, h.0, h.1)

-- the value of a setting is in its range
abbrev IsBounded : Config → Field → Type 0
IsBounded c field = (lowest_of field ≤ value_of c field) × (value_of c field ≤ greatest_of field)

-- begin bounds: tools/tables writes these lines

each_bounded : (c : Config) → IsInRange c → (field : Field) → IsBounded c field
each_bounded c h Stations = h.stations
each_bounded c h Flows = h.flows
each_bounded c h Limit = h.limit
each_bounded c h Room = h.room
each_bounded c h FlowQuantum = h.flow_quantum
each_bounded c h Quantum = h.quantum
each_bounded c h Inflight = h.inflight
each_bounded c h Attempts = h.attempts
each_bounded c h Agg = h.agg
each_bounded c h Cap = h.cap
each_bounded c h Sleeping = h.sleeping
each_bounded c h Calls = h.calls
each_bounded c h Charge = h.charge
each_bounded c h Debt = h.debt
each_bounded c h AqlTotal = h.aql_total
each_bounded c h KeepOrder = h.keep_order
each_bounded c h CodelReset = h.codel_reset
each_bounded c h Aql = h.aql
each_bounded c h Pending = h.pending
each_bounded c h Overhead = h.overhead
each_bounded c h CapVi = h.cap_vi
each_bounded c h CapVo = h.cap_vo
each_bounded c h Answers = h.answers
each_bounded c h Credits = h.credits
each_bounded c h Legacy = h.legacy
each_bounded c h Period = h.period
each_bounded c h Buffered = h.buffered
each_bounded c h Bsses = h.bsses

all_bounded : (c : Config) → ((field : Field) → IsBounded c field) → IsInRange c
all_bounded c each = record {
  stations = each Stations;
  flows = each Flows;
  limit = each Limit;
  room = each Room;
  flow_quantum = each FlowQuantum;
  quantum = each Quantum;
  inflight = each Inflight;
  attempts = each Attempts;
  agg = each Agg;
  cap = each Cap;
  sleeping = each Sleeping;
  calls = each Calls;
  charge = each Charge;
  debt = each Debt;
  aql_total = each AqlTotal;
  keep_order = each KeepOrder;
  codel_reset = each CodelReset;
  aql = each Aql;
  pending = each Pending;
  overhead = each Overhead;
  cap_vi = each CapVi;
  cap_vo = each CapVo;
  answers = each Answers;
  credits = each Credits;
  legacy = each Legacy;
  period = each Period;
  buffered = each Buffered;
  bsses = each Bsses;
}

-- if one setting is set to a value in its range, each setting is in its range
bounded_anew : (c : Config) (field other : Field) (value : ℕ) → IsInRange c →
    (lowest_of field ≤ value) × (value ≤ greatest_of field) → IsBounded (with_value c field value) other
bounded_anew c Stations Stations value h b = b
bounded_anew c Flows Flows value h b = b
bounded_anew c Limit Limit value h b = b
bounded_anew c Room Room value h b = b
bounded_anew c FlowQuantum FlowQuantum value h b = b
bounded_anew c Quantum Quantum value h b = b
bounded_anew c Inflight Inflight value h b = b
bounded_anew c Attempts Attempts value h b = b
bounded_anew c Agg Agg value h b = b
bounded_anew c Cap Cap value h b = b
bounded_anew c Sleeping Sleeping value h b = b
bounded_anew c Calls Calls value h b = b
bounded_anew c Charge Charge value h b = b
bounded_anew c Debt Debt value h b = b
bounded_anew c AqlTotal AqlTotal value h b = b
bounded_anew c KeepOrder KeepOrder value h b = b
bounded_anew c CodelReset CodelReset value h b = b
bounded_anew c Aql Aql value h b = b
bounded_anew c Pending Pending value h b = b
bounded_anew c Overhead Overhead value h b = b
bounded_anew c CapVi CapVi value h b = b
bounded_anew c CapVo CapVo value h b = b
bounded_anew c Answers Answers value h b = b
bounded_anew c Credits Credits value h b = b
bounded_anew c Legacy Legacy value h b = b
bounded_anew c Period Period value h b = b
bounded_anew c Buffered Buffered value h b = b
bounded_anew c Bsses Bsses value h b = b
bounded_anew c field other value h b = each_bounded c h other

-- end bounds

pub set_in_range : (c : Config) (field : Field) (value : ℕ) → IsInRange c → (lowest_of field ≤ value) ×
    (value ≤ greatest_of field) → IsInRange (with_value c field value)
set_in_range c field value h b =
    all_bounded (with_value c field value) (λ other. bounded_anew c field other value h b)

-- begin found: tools/tables writes these lines

pub in_range : (c : Config) → first_out_of_range c ≡ None → IsInRange c
in_range c none =
    let holds = none_passes (λ field. not (is_in_range c field)) fields none in
    record {
      stations = bounds _ _ _ (holds 0 Stations (lit< tt));
      flows = bounds _ _ _ (holds 1 Stations (lit< tt));
      limit = bounds _ _ _ (holds 2 Stations (lit< tt));
      room = bounds _ _ _ (holds 3 Stations (lit< tt));
      flow_quantum = bounds _ _ _ (holds 4 Stations (lit< tt));
      quantum = bounds _ _ _ (holds 5 Stations (lit< tt));
      inflight = bounds _ _ _ (holds 6 Stations (lit< tt));
      attempts = bounds _ _ _ (holds 7 Stations (lit< tt));
      agg = bounds _ _ _ (holds 8 Stations (lit< tt));
      cap = bounds _ _ _ (holds 9 Stations (lit< tt));
      sleeping = bounds _ _ _ (holds 10 Stations (lit< tt));
      calls = bounds _ _ _ (holds 11 Stations (lit< tt));
      charge = bounds _ _ _ (holds 12 Stations (lit< tt));
      debt = bounds _ _ _ (holds 13 Stations (lit< tt));
      aql_total = bounds _ _ _ (holds 14 Stations (lit< tt));
      keep_order = bounds _ _ _ (holds 15 Stations (lit< tt));
      codel_reset = bounds _ _ _ (holds 16 Stations (lit< tt));
      aql = bounds _ _ _ (holds 17 Stations (lit< tt));
      pending = bounds _ _ _ (holds 18 Stations (lit< tt));
      overhead = bounds _ _ _ (holds 19 Stations (lit< tt));
      cap_vi = bounds _ _ _ (holds 20 Stations (lit< tt));
      cap_vo = bounds _ _ _ (holds 21 Stations (lit< tt));
      answers = bounds _ _ _ (holds 22 Stations (lit< tt));
      credits = bounds _ _ _ (holds 23 Stations (lit< tt));
      legacy = bounds _ _ _ (holds 24 Stations (lit< tt));
      period = bounds _ _ _ (holds 25 Stations (lit< tt));
      buffered = bounds _ _ _ (holds 26 Stations (lit< tt));
      bsses = bounds _ _ _ (holds 27 Stations (lit< tt));
    }

-- end found

each_holds : (c : Config) → IsInRange c → (field : Field) → not (is_in_range c field) ≡ false
each_holds c h field = let b = each_bounded c h field in
    within (lowest_of field) (value_of c field) (greatest_of field) b

pub checked : (c : Config) → (first_out_of_range c ≡ None) ↔ IsInRange c
checked c = (in_range c, λ h. none_found (λ field. not (is_in_range c field)) fields (each_holds c h))
