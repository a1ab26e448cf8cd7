-- CoDel while it is not dropping: one look decides whether it begins to drop.
use Rattle.std.proofs.Common.{◌≡◌, ℕ, zero, suc, ◌+◌, ◌*◌, ◌-◌, ◌==◌, ◌≤◌, ◌<◌, ◌∙◌, refl, sym, ap, arith, Bool, true, false, ◌||◌, ◌&&◌, List, [], ◌∷◌, ◌++◌, length, take, map, if◌then◌else◌, Option, Some, None}
use Rattle.std.specs.Prelude.{nat_lt, nat_le, slice_get, IsNone, is_some}
use Rattle.std.specs.Option.{option_map}
use Rattle.std.proofs.lemmas.List.{take-map, drop-map}
use Rattle.std.proofs.lemmas.Bool.{ltb-true}
use Rattle.wf_def_codel.specs.Codel.{Item, Params, Codel, Look, look_at, control_law, rise, octets, begin_dropping, first_count, look, raised_count, drops_dropping, state_dropping, drops_plain, state_plain, drops, state_after, dequeued_after, dequeue}
use Rattle.wf_queue_flows.specs.CodelTakes.{Takes}
use Rattle.wf_queue_flows.specs.CodelLooks.{look_by, started}
use Rattle.wf_law_rules.proofs.Lemmas.Drops.{dropped_once, seen, drops-bad, drops-early, drops-more, drops-none, state-none}
use Rattle.wf_law_rules.proofs.Lemmas.Stepped.{state-on, state-off}
use Rattle.wf_queue_flows.proofs.Lanes.{append-nil}

module _ {X : Type 0} (view : X → Item) (tossed : X → X) (p : Params) (now : ℕ) (c : Codel) (thrown : List X)
    (x : X) (rest : List X) (stamp left above : ℕ) (ok : Bool)
    (stamp_is : stamp ≡ (view x).stamp) (left_is : left ≡ octets (map view rest))
    (above_is : above ≡ (look_by p now c.first_above stamp left).first_above)
    (ok_is : ok ≡ (look_by p now c.first_above stamp left).ok) where
  pub plain-saw : look_at p now c.first_above (view x ∷ map view rest)
      ≡ look_by p now c.first_above stamp left
  plain-saw = rw (stamp_is, left_is) refl

  pub plain-above : (look_at p now c.first_above (view x ∷ map view rest)).first_above ≡ above
  plain-above = ap (λ l. l.first_above) plain-saw ∙ sym above_is

  pub plain-ok : (b : Bool) → ok ≡ b → (look_at p now c.first_above (view x ∷ map view rest)).ok ≡ b
  plain-ok b e = ap (λ l. l.ok) plain-saw ∙ sym ok_is ∙ e

  pub plain-none : ok ≡ false → drops_plain p now c (view x ∷ map view rest) ≡ 0
  unfolding drops_plain
  plain-none bad = ap (λ b. if b then 1 else 0) (plain-ok false bad)

  pub plain-one : ok ≡ true → drops_plain p now c (view x ∷ map view rest) ≡ 1
  unfolding drops_plain
  plain-one good = ap (λ b. if b then 1 else 0) (plain-ok true good)

  pub takes-none : ok ≡ false → Takes tossed (x ∷ rest) rest thrown thrown
      (drops_plain p now c (view x ∷ map view rest)) (Some x)
  takes-none bad = rw (plain-none bad) (record {
    gives = refl;
    rest = refl;
    thrown =
        sym (append-nil thrown);
  })

  pub state-kept : ok ≡ false → record c { first_above = above }
      ≡ state_plain p now c (view x ∷ map view rest)
  unfolding state_plain
  state-kept bad =
      sym (ap (λ b. if b then begin_dropping p now c
      (look_at p now (look_at p now c.first_above (view x ∷ map view rest)).first_above (map view rest))
      else record c { first_above = (look_at p now c.first_above (view x ∷ map view rest)).first_above })
      (plain-ok false bad)
      ∙ ap (λ a. record c { first_above = a }) plain-above)

  pub takes-one : (y : X) (behind thrown' : List X) → ok ≡ true → rest ≡ y ∷ behind →
      thrown' ≡ thrown ++ tossed x ∷ [] → Takes tossed (x ∷ rest) behind thrown thrown'
      (drops_plain p now c (view x ∷ map view rest)) (Some y)
  takes-one y behind thrown' good rest_is thrown_is =
      rw (plain-one good, rest_is, thrown_is) (record { gives = refl; rest = refl; thrown = refl })

  pub state-started : (y : X) (behind : List X) (stamp' left' above' : ℕ) → ok ≡ true → rest ≡ y ∷ behind →
      stamp' ≡ (view y).stamp → left' ≡ octets (map view behind) →
      above' ≡ (look_by p now above stamp' left').first_above →
      started p now c above' ≡ state_plain p now c (view x ∷ map view rest)
  unfolding state_plain
  state-started y behind stamp' left' above' good rest_is stamp_is' left_is' above_is' =
      sym (ap (λ b. if b then begin_dropping p now c
      (look_at p now (look_at p now c.first_above (view x ∷ map view rest)).first_above (map view rest))
      else record c { first_above = (look_at p now c.first_above (view x ∷ map view rest)).first_above })
      (plain-ok true good)
      ∙ ap (λ a. begin_dropping p now c (look_at p now a (map view rest))) plain-above
      ∙ ap (λ items. begin_dropping p now c (look_at p now above (map view items))) rest_is
      ∙ ap (λ a. started p now c a) (let e : (look_at p now above (view y ∷ map view behind)).first_above
      ≡ above' = sym (rw (above_is', stamp_is', left_is') refl) in e))

pub plain-empty : (p : Params) (now : ℕ) (c : Codel) → c.dropping ≡ false →
    state_plain p now c [] ≡ record c { first_above = 0; dropping = false }
unfolding state_plain
plain-empty p now c off = ap (λ b. record c { first_above = 0; dropping = b }) off

-- the state after a dequeue of an empty lane
pub state-empty : (p : Params) (now : ℕ) (c : Codel) →
    record c { first_above = 0; dropping = false } ≡ state_after p now c []
state-empty p now c =
    elim c.dropping as (λ b. c.dropping ≡ b → record c { first_above = 0; dropping = false }
    ≡ state_after p now c []) [
      | true ↦ λ on. sym (state-on p now c [] on ∙ ap (λ n. state_dropping p now c c.drop_next [] n)
          (drops-none p now c c.drop_next) ∙ state-none p now c c.drop_next)
      | false ↦ λ off. sym (state-off p now c [] off ∙ plain-empty p now c off)
    ] refl

-- the look whose test has the result b
abbrev looked : Params → ℕ → ℕ → Bool → Look
looked p now above b =
    if b then record { first_above = 0; ok = false }
    else (if above == 0 then record { first_above = now + p.interval; ok = false }
    else record { first_above = above; ok = nat_le above now })

-- a look at the last frame is never ok
pub last-bad : (p : Params) (now above : ℕ) (x : Item) → (look_at p now above (x ∷ [])).ok ≡ false
last-bad p now above x = elim (nat_lt (now - x.stamp) p.target) as
    (λ b. (looked p now above (b || true)).ok ≡ false) [ true ↦ refl | false ↦ refl ]

pub drops-inside : (rest : List Item) (p : Params) (now : ℕ) (c : Codel) (due : ℕ) (x : Item) →
    drops_dropping p now c due (x ∷ rest) ≤ length rest
drops-inside [] p now c due x = rw (drops-bad p now c due x [] (last-bad p now c.first_above x)) (omega arith)
drops-inside (y ∷ rest) p now c due x =
    elim (seen p now c due x (y ∷ rest)).ok as (λ b. (seen p now c due x (y ∷ rest)).ok ≡ b →
    drops_dropping p now c due (x ∷ y ∷ rest) ≤ length (y ∷ rest)) [
      | false ↦ λ bad. rw (drops-bad p now c due x (y ∷ rest) bad) (omega arith)
      | true ↦ λ good. elim (nat_lt now due) as (λ b. nat_lt now due ≡ b →
          drops_dropping p now c due (x ∷ y ∷ rest) ≤ length (y ∷ rest)) [
            | true ↦ λ early. rw (drops-early p now c due x (y ∷ rest) early) (omega arith)
            | false ↦ λ late. rw (drops-more p now c due x (y ∷ rest) good late)
                (let more : _ ≤ _ = drops-inside rest p now
                (dropped_once p now c due (seen p now c due x (y ∷ rest)).first_above)
                (control_law p due (rise c.count)) y in omega (arith, more))
          ] refl
    ] refl

pub get-inside : {X : Type 0} (items : List X) (n : ℕ) → n < length items → slice_get items n ≡ None → ⊥
get-inside [] n inside none = omega arith
get-inside (x ∷ xs) zero inside none = cc
get-inside (x ∷ xs) (suc n) inside none = get-inside xs n (omega arith) none

pub none_is : {X : Type 0} (o : Option X) → IsNone o → o ≡ None
none_is None none = refl
none_is (Some x) none = cc

-- a lane that is not empty gives an item
pub gives-some : {X : Type 0} (tossed : X → X) (x : X) (rest after thrown thrown' : List X) (n : ℕ)
    (given : Option X) → Takes tossed (x ∷ rest) after thrown thrown' n given → n ≤ length rest →
    IsNone given → ⊥
gives-some tossed x rest after thrown thrown' n given takes inside none =
    get-inside (x ∷ rest) n (omega arith) (none_is (slice_get (x ∷ rest) n)
    (ap is_some (sym takes.gives) ∙ none))

-- a state that drops has a count
abbrev pub IsCounted : Codel → Type 0
IsCounted c = c.dropping ≡ true → 1 ≤ c.count

pub raised-counted : (count i : ℕ) → 1 ≤ count → 1 ≤ raised_count count i
raised-counted count zero some = some
raised-counted count (suc i) some = omega arith

pub dropping-counted : (p : Params) (now : ℕ) (c : Codel) (due : ℕ) (items : List Item) (i : ℕ) →
    c.dropping ≡ true → IsCounted c → IsCounted (state_dropping p now c due items i)
unfolding state_dropping
dropping-counted p now c due items i on counted ends = raised-counted c.count i (counted on)

pub first-counted : (p : Params) (now : ℕ) (c : Codel) → 1 ≤ first_count p now c
first-counted p now c =
    elim (nat_lt 1 (c.count - c.last_count)) as (λ b. nat_lt 1 (c.count - c.last_count) ≡ b →
    1 ≤ (if b && nat_lt (now - c.drop_next) (16 * p.interval) then c.count - c.last_count else 1)) [
      | false ↦ λ less. omega arith
      | true ↦ λ more. let above : 1 < c.count - c.last_count = ltb-true _ _ more in
          elim (nat_lt (now - c.drop_next) (16 * p.interval)) as
          (λ b. 1 ≤ (if b then c.count - c.last_count else 1)) [ true ↦ omega arith | false ↦ omega arith ]
    ] refl

pub plain-counted : (p : Params) (now : ℕ) (c : Codel) (items : List Item) → c.dropping ≡ false →
    IsCounted (state_plain p now c items)
unfolding state_plain
plain-counted p now c items off =
    elim (look_at p now c.first_above items).ok as
    (λ b. IsCounted (if b then begin_dropping p now c (look p now c.first_above items 1)
    else record c { first_above = (look_at p now c.first_above items).first_above })) [
      | true ↦ λ on. first-counted p now c
      | false ↦ λ on. cc
    ]

pub counted-after : (p : Params) (now : ℕ) (c : Codel) (items : List Item) → IsCounted c →
    IsCounted (state_after p now c items)
counted-after p now c items counted =
    elim c.dropping as (λ b. c.dropping ≡ b → IsCounted (state_after p now c items)) [
      | true ↦ λ on. rw (state-on p now c items on)
          (dropping-counted p now c c.drop_next items (drops_dropping p now c c.drop_next items) on counted)
      | false ↦ λ off. rw (state-off p now c items off) (plain-counted p now c items off)
    ] refl

-- the view of the items that a dequeue takes
pub get-map : {X Y : Type 0} (f : X → Y) (xs : List X) (n : ℕ) →
    slice_get (map f xs) n ≡ option_map f (slice_get xs n)
get-map f [] n = refl
get-map f (x ∷ xs) zero = refl
get-map f (x ∷ xs) (suc n) = get-map f xs n

pub seen_as : {X : Type 0} (view : X → Item) (tossed : X → X) (before after thrown thrown' : List X) (n : ℕ)
    (given : Option X) (state : Codel) → Takes tossed before after thrown thrown' n given →
    dequeued_after (map view before) n state ≡
    record {
      given = option_map view given;
      dropped = map view (take n before);
      rest = map view after;
      state =
          state;
    }
seen_as view tossed before after thrown thrown' n given state takes =
    rw (takes.gives, takes.rest, get-map view before n, take-map view n before, drop-map view (suc n) before)
    refl

pub dequeue-seen : {X : Type 0} (view : X → Item) (tossed : X → X) (p : Params) (now : ℕ) (c : Codel)
    (before after thrown thrown' : List X) (given : Option X) (state : Codel) →
    Takes tossed before after thrown thrown' (drops p now c (map view before)) given →
    state ≡ state_after p now c (map view before) →
    dequeue p now c (map view before) ≡ record {
      given = option_map view given;
      dropped =
          map view (take (drops p now c (map view before)) before);
      rest = map view after;
      state = state;
    }
unfolding dequeue
dequeue-seen view tossed p now c before after thrown thrown' given state takes state_is =
    ap (λ s. dequeued_after (map view before) (drops p now c (map view before)) s) (sym state_is)
    ∙ seen_as view tossed before after thrown thrown' (drops p now c (map view before)) given state takes

pub take-nil : {X : Type 0} (n : ℕ) → take {A = X} n [] ≡ []
take-nil zero = refl
take-nil (suc n) = refl

pub takes-empty : {X : Type 0} (tossed : X → X) (thrown : List X) (n : ℕ) →
    Takes tossed [] [] thrown thrown n None
takes-empty {X} tossed thrown n = record {
  gives = refl;
  rest = refl;
  thrown =
      rw (take-nil {X = X} n) (sym (append-nil thrown));
}
