-- CoDel on a lane of items of any type is the dequeue of the definition, by induction on the items.
use Rattle.std.proofs.Common.{◌≡◌, ℕ, suc, ◌+◌, ◌≤◌, ◌<◌, ◌∙◌, refl, sym, ap, Bool, true, false, List, [], ◌∷◌, ◌++◌, append_assoc, take, drop, map, if◌then◌else◌, Option, Some, None}
use Rattle.std.specs.Prelude.{nat_lt, slice_get}
use Rattle.wf_def_codel.specs.Codel.{Item, Params, Codel, Look, look_at, control_law, rise, octets, step_of, drops_dropping, state_dropping}
use Rattle.wf_queue_flows.specs.CodelTakes.{Takes}
use Rattle.std.proofs.lemmas.Bool.{lt-ltb, le-ltb}
use Rattle.wf_queue_flows.specs.CodelLooks.{look_by}
use Rattle.wf_law_rules.proofs.Lemmas.Drops.{dropped_once, seen, drops-bad, drops-early, drops-more, state-more, state-bad, state-early, state-none, drops-none}

-- the outcome of a dequeue
pub record Outcome (X : Type 0) : Type 0 where
  pub given : Option X
  pub rest : List X
  pub thrown : List X
  pub state : Codel

abbrev pub gives : {X : Type 0} → List X → Codel → List X → Outcome X
gives thrown state [] = record { given = None; rest = []; thrown = thrown; state = state }
gives thrown state (x ∷ rest) = record { given = Some x; rest = rest; thrown = thrown; state = state }

-- While dropping: `items` are still in the lane, and the drop of the first is due at `due`.
unfoldable pub while_dropping : {X : Type 0} → (X → Item) → (X → X) → Params → ℕ → Codel → ℕ → List X →
    List X → Outcome X
while_dropping view tossed p now c due thrown [] =
    gives thrown (record c { first_above = 0; dropping = false }) []
while_dropping view tossed p now c due thrown (x ∷ rest) =
    let look : Look = look_at p now c.first_above (view x ∷ map view rest) in
    let on : Outcome _ = while_dropping view tossed p now (dropped_once p now c due look.first_above)
    (control_law p due (rise c.count)) (thrown ++ tossed x ∷ []) rest in
    if look.ok then (if nat_lt now due then gives thrown
    (record c { first_above = look.first_above; drop_next = due }) (x ∷ rest) else on)
    else gives thrown (record c { first_above = look.first_above; dropping = false }) (x ∷ rest)

-- the outcome after n drops
abbrev pub after_drops : {X : Type 0} → (X → X) → List X → List X → ℕ → Codel → Outcome X
after_drops tossed thrown items n state = record {
  given = slice_get items n;
  rest = drop (suc n) items;
  thrown = thrown ++ map tossed (take n items);
  state = state;
}

pub append-nil : {X : Type 0} (xs : List X) → xs ++ [] ≡ xs
append-nil [] = refl
append-nil (x ∷ xs) = ap (λ ys. x ∷ ys) (append-nil xs)

module _ {X : Type 0} (view : X → Item) (tossed : X → X) (p : Params) (now : ℕ) where
  module _ (c : Codel) (due : ℕ) (thrown : List X) (x : X) (rest : List X) where
    abbrev pub saw : Look
    saw = seen p now c due (view x) (map view rest)

    pub while-bad : saw.ok ≡ false → while_dropping view tossed p now c due thrown (x ∷ rest)
        ≡ gives thrown (record c { first_above = saw.first_above; dropping = false }) (x ∷ rest)
    unfolding while_dropping
    while-bad bad = rw bad refl

    pub while-early : saw.ok ≡ true → nat_lt now due ≡ true →
        while_dropping view tossed p now c due thrown (x ∷ rest)
        ≡ gives thrown (record c { first_above = saw.first_above; drop_next = due }) (x ∷ rest)
    unfolding while_dropping
    while-early good early = rw (good, early) refl

    pub while-more : saw.ok ≡ true → nat_lt now due ≡ false →
        while_dropping view tossed p now c due thrown (x ∷ rest)
        ≡ while_dropping view tossed p now (dropped_once p now c due saw.first_above)
        (control_law p due (rise c.count)) (thrown ++ tossed x ∷ []) rest
    unfolding while_dropping
    while-more good late = rw (good, late) refl

  pub while-none : (c : Codel) (due : ℕ) (thrown : List X) →
      while_dropping view tossed p now c due thrown []
      ≡ gives thrown (record c { first_above = 0; dropping = false }) []
  unfolding while_dropping
  while-none c due thrown = refl

  pub while-drops : (items : List X) (c : Codel) (due : ℕ) (thrown : List X) → c.dropping ≡ true →
      while_dropping view tossed p now c due thrown items
      ≡ after_drops tossed thrown items (drops_dropping p now c due (map view items))
      (state_dropping p now c due (map view items) (drops_dropping p now c due (map view items)))
  while-drops [] c due thrown on = while-none c due thrown
      ∙ sym (rw (drops-none p now c due, state-none p now c due, append-nil thrown) refl)
  while-drops (x ∷ rest) c due thrown on =
      let c' : Codel = dropped_once p now c due (saw c due thrown x rest).first_above in
      let due' : ℕ = control_law p due (rise c.count) in
      let looks : List Item = map view rest in
      elim (saw c due thrown x rest).ok as (λ b. (saw c due thrown x rest).ok ≡ b →
      while_dropping view tossed p now c due thrown (x ∷ rest)
      ≡ after_drops tossed thrown (x ∷ rest) (drops_dropping p now c due (view x ∷ looks))
      (state_dropping p now c due (view x ∷ looks) (drops_dropping p now c due (view x ∷ looks)))) [
        | false ↦ λ bad. while-bad c due thrown x rest bad
            ∙ sym (rw (
              drops-bad p now c due (view x) looks bad,
              state-bad p now c due (view x) looks bad,
              append-nil thrown,
            ) refl)
        | true ↦ λ good. elim (nat_lt now due) as (λ b. nat_lt now due ≡ b →
            while_dropping view tossed p now c due thrown (x ∷ rest)
            ≡ after_drops tossed thrown (x ∷ rest) (drops_dropping p now c due (view x ∷ looks))
            (state_dropping p now c due (view x ∷ looks) (drops_dropping p now c due (view x ∷ looks)))) [
              | true ↦ λ early. while-early c due thrown x rest good early
                  ∙ sym (rw (
                    drops-early p now c due (view x) looks early,
                    state-early p now c due (view x) looks on good,
                    append-nil thrown,
                  ) refl)
              | false ↦ λ late.
                  while-more c due thrown x rest good late ∙ while-drops rest c' due' (thrown ++ tossed x ∷ []) on
                  ∙ sym (rw (
                    drops-more p now c due (view x) looks good late,
                    state-more p now c due (view x) looks (drops_dropping p now c' due' looks),
                  )
                  (ap (λ t. record {
                    given = slice_get rest (drops_dropping p now c' due' looks);
                    rest =
                        drop (suc (drops_dropping p now c' due' looks)) rest;
                    thrown = t;
                    state =
                        state_dropping p now c' due' looks (drops_dropping p now c' due' looks);
                  })
                  (sym (append_assoc thrown (tossed x ∷ [])
                  (map tossed (take (drops_dropping p now c' due' looks) rest))))))
            ] refl
      ] refl

-- one look of the loop, by the numbers that the code reads
module _ {X : Type 0} (view : X → Item) (tossed : X → X) (p : Params) (now : ℕ) (c : Codel) (due : ℕ)
    (thrown : List X) (x : X) (rest : List X) (stamp left above : ℕ) (ok : Bool)
    (stamp_is : stamp ≡ (view x).stamp) (left_is : left ≡ octets (map view rest))
    (above_is : above ≡ (look_by p now c.first_above stamp left).first_above)
    (ok_is : ok ≡ (look_by p now c.first_above stamp left).ok) where
  saw_is : saw view tossed p now c due thrown x rest ≡ look_by p now c.first_above stamp left
  saw_is = rw (stamp_is, left_is) refl

  saw-above : (saw view tossed p now c due thrown x rest).first_above ≡ above
  saw-above = ap (λ l. l.first_above) saw_is ∙ sym above_is

  saw-ok : (b : Bool) → ok ≡ b → (saw view tossed p now c due thrown x rest).ok ≡ b
  saw-ok b e = ap (λ l. l.ok) saw_is ∙ sym ok_is ∙ e

  pub bad-step : ok ≡ false → while_dropping view tossed p now c due thrown (x ∷ rest)
      ≡ gives thrown (record c { first_above = above; dropping = false }) (x ∷ rest)
  bad-step bad = while-bad view tossed p now c due thrown x rest (saw-ok false bad)
      ∙ ap (λ a. gives thrown (record c { first_above = a; dropping = false }) (x ∷ rest)) saw-above

  pub early-step : ok ≡ true → now < due → while_dropping view tossed p now c due thrown (x ∷ rest)
      ≡ gives thrown (record c { first_above = above; drop_next = due }) (x ∷ rest)
  early-step good early = while-early view tossed p now c due thrown x rest (saw-ok true good)
      (lt-ltb now due early) ∙ ap (λ a. gives thrown (record c { first_above = a; drop_next = due })
      (x ∷ rest)) saw-above

  pub more-step : (count dropped step : ℕ) (thrown' items : List X) → ok ≡ true → due ≤ now →
      count ≡ rise c.count → dropped ≡ rise c.dropped →
      step ≡ step_of p.interval count → thrown' ≡ thrown ++ tossed x ∷ [] → items ≡ rest →
      while_dropping view tossed p now c due thrown (x ∷ rest)
      ≡ while_dropping view tossed p now
      (record c { first_above = above; drop_next = due; count = count; dropped = dropped })
      (due + step) thrown' items
  more-step count dropped step thrown' items good late count_is dropped_is step_is thrown_is items_is =
      while-more view tossed p now c due thrown x rest (saw-ok true good) (le-ltb now due late)
      ∙ rw (saw-above, step_is, count_is, dropped_is, thrown_is, items_is) refl

-- a dequeue that drops while it is dropping, step by step
pub record Finished {X : Type 0} (view : X → Item) (tossed : X → X) (p : Params) (now : ℕ) (c : Codel)
    (before after thrown_before thrown_after : List X) (given : Option X) (state : Codel) : Type 0 where
  pub taken : Takes tossed before after thrown_before thrown_after
      (drops_dropping p now c c.drop_next (map view before)) given
  pub state_is : state ≡ state_dropping p now c c.drop_next (map view before)
      (drops_dropping p now c c.drop_next (map view before))

pub finished : {X : Type 0} (view : X → Item) (tossed : X → X) (p : Params) (now : ℕ) (c : Codel)
    (before after thrown_before thrown_after : List X) (given : Option X) (state : Codel)
    (outcome : Outcome X) → c.dropping ≡ true →
    outcome ≡ while_dropping view tossed p now c c.drop_next thrown_before before →
    outcome ≡ record { given = given; rest = after; thrown = thrown_after; state = state } →
    Finished view tossed p now c before after thrown_before thrown_after given state
finished view tossed p now c before after thrown_before thrown_after given state outcome on whole ends =
    let e : record { given = given; rest = after; thrown = thrown_after; state = state }
    ≡ after_drops tossed thrown_before before (drops_dropping p now c c.drop_next (map view before))
    (state_dropping p now c c.drop_next (map view before)
    (drops_dropping p now c c.drop_next (map view before))) =
    sym ends ∙ whole ∙ while-drops view tossed p now before c c.drop_next thrown_before on in
    record {
      taken = record {
        gives = ap (λ o. o.given) e;
        rest = ap (λ o. o.rest) e;
        thrown =
            ap (λ o. o.thrown) e;
      };
      state_is = ap (λ o. o.state) e;
    }
