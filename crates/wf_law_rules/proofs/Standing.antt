-- Proves that CoDel drops a frame only if its queue was a standing queue for an interval. By induction on the
-- looks: first_above is the time of a look plus its interval, and since this look each look saw a standing
-- queue.
use Rattle.std.proofs.Common.{◌≡◌, ◌≢◌, ℕ, zero, suc, ◌+◌, ◌-◌, ◌≤◌, ◌<◌, ◌==◌, ◌∙◌, refl, ap, sym, subst, arith, inl, inr, ◌⊎◌, Bool, true, false, not, ◌||◌, List, [], ◌∷◌, ◌++◌, if◌then◌else◌, append_assoc, append-nil}
use Rattle.std.specs.Prelude.{nat_lt, nat_le}
use Rattle.wf_def_codel.specs.Codel.{Item, Params, Codel, Look, max_packet, octets, look_at, look, drops_dropping, drops_plain, drops, state_dropping, state_plain, state_after, dequeue, next_due}
use Rattle.wf_law_rules.specs.CodelLaws.{Dequeue, codel_after, drops_by, codel_after_all, looked_at, first_looks, looks_in, IsStanding, EachStanding, HasStood, StandingLaw}
use Rattle.wf_law_rules.proofs.Lemmas.Numbers.{on_bool, on_if, lt_no, le_no, le_yes, eq_no}
use Rattle.wf_law_rules.proofs.Lemmas.Drops.{drops_before}

-- Since a look at the time a less its interval, each look saw a standing queue.
record Stands (a : ℕ) (looks : List Dequeue) : Type 0 where
  before : List Dequeue
  since : Dequeue
  after : List Dequeue
  split : looks ≡ before ++ since ∷ after
  standing : EachStanding (since ∷ after)
  time : a ≡ since.now + since.times.interval

-- The meaning of first_above: if it is set, each look since a certain look saw a standing queue.
record Known (a : ℕ) (looks : List Dequeue) : Type 0 where
  known : a ≢ 0 → Stands a looks

pub or_false : (b c : Bool) → (b || c) ≡ false → (b ≡ false) × (c ≡ false)
or_false false false e = (refl, refl)
or_false false true e = absurd (cc e)
or_false true c e = absurd (cc e)

-- ---- one look

-- The cases of a look: first_above becomes 0; or the queue stands, and first_above begins, or it stays.
record Ends (l : Look) : Type 0 where
  above : l.first_above ≡ 0
  ok : l.ok ≡ false

record Starts (v : Dequeue) (l : Look) : Type 0 where
  above : l.first_above ≡ v.now + v.times.interval
  ok : l.ok ≡ false

record Stays (v : Dequeue) (a : ℕ) (l : Look) : Type 0 where
  some : a ≢ 0
  above : l.first_above ≡ a
  ok : l.ok ≡ nat_le a v.now

abbrev Saw : Dequeue → List Item → ℕ → Look → Type 0
Saw v items a l = Ends l ⊎ (IsStanding v items × (Starts v l ⊎ Stays v a l))

saw : (items : List Item) (v : Dequeue) (a : ℕ) → Saw v items a (look_at v.times v.now a items)
saw [] v a = inl (record { above = refl; ok = refl })
saw (x ∷ rest) v a = on_if (Saw v (x ∷ rest) a)
    (nat_lt (v.now - x.stamp) v.times.target || nat_le (octets rest) max_packet) _ _
    (λ _. inl (record { above = refl; ok = refl }))
    (λ never.
    let late = or_false (nat_lt (v.now - x.stamp) v.times.target) (nat_le (octets rest) max_packet) never in
    let stands : IsStanding v (x ∷ rest) =
    (lt_no (v.now - x.stamp) v.times.target late.0, le_no (octets rest) max_packet late.1) in
    on_if (Saw v (x ∷ rest) a) (a == 0) _ _
    (λ _. inr (stands, inl (record { above = refl; ok = refl })))
    (λ some. inr (stands, inr (record { some = eq_no a 0 some; above = refl; ok = refl }))))

each_last : (vs : List Dequeue) (v : Dequeue) → EachStanding vs → IsStanding v v.items → EachStanding (vs
    ++ v ∷ [])
each_last [] v h k = (k, tt)
each_last (u ∷ us) v h k = (h.0, each_last us v h.1 k)

stands_more : (v : Dequeue) (a : ℕ) (looks : List Dequeue) → IsStanding v v.items → Stands a looks →
    Stands a (looks ++ v ∷ [])
stands_more v a looks k s = record {
  before = s.before;
  since = s.since;
  after = s.after ++ v ∷ [];
  split = ap (λ (xs : List Dequeue). xs ++ v ∷ []) s.split ∙ append_assoc s.before (s.since ∷ s.after) (v ∷
      []);
  standing = (s.standing.0, each_last s.after v s.standing.1 k);
  time = s.time;
}

known_look : (v : Dequeue) (a : ℕ) (looks : List Dequeue) → Known a looks →
    Known (look_at v.times v.now a v.items).first_above (looks ++ v ∷ [])
known_look v a looks k = record {
  known = λ some. elim (saw v.items v a) [
    | inl none ↦ absurd (some none.above)
    | inr h ↦ elim h.1 [
      | inl new ↦ record {
        before = looks;
        since = v;
        after = [];
        split = refl;
        standing = (h.0, tt);
        time = new.above;
      }
      | inr old ↦ subst (λ (n : ℕ). Stands n (looks ++ v ∷ [])) (sym old.above)
          (stands_more v a looks h.0 (k.known old.some))
    ]
  ];
}

stood_look : (v : Dequeue) (a : ℕ) (looks : List Dequeue) → Known a looks →
    (look_at v.times v.now a v.items).ok ≡ true → HasStood v.now (looks ++ v ∷ [])
stood_look v a looks k sure = elim (saw v.items v a) [
  | inl none ↦ absurd (cc (none.ok, sure))
  | inr h ↦ elim h.1 [
    | inl new ↦ absurd (cc (new.ok, sure))
    | inr old ↦ (
        let s : Stands a (looks ++ v ∷ []) = stands_more v a looks h.0 (k.known old.some) in
        let past : a ≤ v.now = le_yes a v.now (sym old.ok ∙ sure) in
        record {
          before = s.before;
          since = s.since;
          after = s.after;
          split = s.split;
          standing = s.standing;
          interval = omega (arith, s.time, past);
        })
  ]
]

-- ---- the looks of one dequeue

known_looks : (n : ℕ) (v : Dequeue) (a : ℕ) (looks : List Dequeue) → Known a looks →
    Known (look v.times v.now a v.items n).first_above (looks ++ first_looks v (suc n))
known_looks zero v a looks k = known_look (looked_at v 0) a looks k
known_looks (suc n) v a looks k =
    subst (Known (look v.times v.now a v.items (suc n)).first_above)
    (append_assoc looks (first_looks v (suc n)) (looked_at v (suc n) ∷ []))
    (known_look (looked_at v (suc n)) (look v.times v.now a v.items n).first_above
    (looks ++ first_looks v (suc n)) (known_looks n v a looks k))

stood_looks : (n : ℕ) (v : Dequeue) (a : ℕ) (looks : List Dequeue) → Known a looks →
    (look v.times v.now a v.items n).ok ≡ true → HasStood v.now (looks ++ first_looks v (suc n))
stood_looks zero v a looks k sure = stood_look (looked_at v 0) a looks k sure
stood_looks (suc n) v a looks k sure =
    subst (HasStood v.now) (append_assoc looks (first_looks v (suc n)) (looked_at v (suc n) ∷ []))
    (stood_look (looked_at v (suc n)) (look v.times v.now a v.items n).first_above
    (looks ++ first_looks v (suc n)) (known_looks n v a looks k) sure)

-- ---- dequeues

plain_above : (b : Bool) (p : Params) (now : ℕ) (c : Codel) (items : List Item) →
    (look p now c.first_above items 0).ok ≡ b → (state_plain p now c items).first_above
    ≡ (look p now c.first_above items (if b then 1 else 0)).first_above
unfolding state_plain
plain_above true p now c items e = on_if (λ (z : Codel). z.first_above
    ≡ (look p now c.first_above items 1).first_above) (look p now c.first_above items 0).ok _ _
    (λ _. refl) (λ never. absurd (cc (e, never)))
plain_above false p now c items e = on_if (λ (z : Codel). z.first_above
    ≡ (look p now c.first_above items 0).first_above) (look p now c.first_above items 0).ok _ _
    (λ sure. absurd (cc (e, sure))) (λ _. refl)

pub drops_yes : (p : Params) (now : ℕ) (c : Codel) (items : List Item) → c.dropping ≡ true →
    drops p now c items ≡ drops_dropping p now c c.drop_next items
unfolding drops
drops_yes p now c items e = on_if (λ (n : ℕ). n ≡ drops_dropping p now c c.drop_next items) c.dropping _ _
    (λ _. refl) (λ never. absurd (cc (e, never)))

pub drops_no : (p : Params) (now : ℕ) (c : Codel) (items : List Item) → c.dropping ≡ false →
    drops p now c items ≡ drops_plain p now c items
unfolding drops
drops_no p now c items e = on_if (λ (n : ℕ). n ≡ drops_plain p now c items) c.dropping _ _
    (λ sure. absurd (cc (e, sure))) (λ _. refl)

state_above : (p : Params) (now : ℕ) (c : Codel) (items : List Item) → (state_after p now c items).first_above
    ≡ (look p now c.first_above items (drops p now c items)).first_above
unfolding state_after drops_plain state_dropping
state_above p now c items = on_if (λ (z : Codel). z.first_above
    ≡ (look p now c.first_above items (drops p now c items)).first_above) c.dropping _ _
    (λ _. refl)
    (λ never. plain_above _ p now c items refl
    ∙ ap (λ (n : ℕ). (look p now c.first_above items n).first_above) (sym (drops_no p now c items never)))

visit_above : (c : Codel) (v : Dequeue) → (codel_after c v).first_above
    ≡ (look v.times v.now c.first_above v.items (drops_by c v)).first_above
unfolding dequeue
visit_above c v = state_above v.times v.now c v.items

known_run : (visits : List Dequeue) (c : Codel) (looks : List Dequeue) → Known c.first_above looks →
    Known (codel_after_all c visits).first_above (looks ++ looks_in c visits)
known_run [] c looks k = subst (Known c.first_above) (sym (append-nil looks)) k
known_run (v ∷ vs) c looks k =
    let seen : List Dequeue = first_looks v (suc (drops_by c v)) in
    subst (Known (codel_after_all c (v ∷ vs)).first_above)
    (append_assoc looks seen (looks_in (codel_after c v) vs))
    (known_run vs (codel_after c v) (looks ++ seen) (subst (λ (a : ℕ). Known a (looks ++ seen))
    (sym (visit_above c v)) (known_looks (drops_by c v) v c.first_above looks k)))

-- A look at a frame that is dropped is ok.
pub ok_dropping : (p : Params) (now : ℕ) (c : Codel) (items : List Item) (i : ℕ) →
    i < drops_dropping p now c c.drop_next items → (look p now c.first_above items i).ok ≡ true
ok_dropping p now c items i below =
    let go_on = or_false (not (look p now c.first_above items i).ok) (nat_lt now (next_due p c.count
    c.drop_next i))
    (drops_before p now c c.drop_next items i below) in
    on_bool (look p now c.first_above items i).ok (λ sure. sure) (λ never. absurd (cc (
      go_on.0,
      ap not
          never,
    )))

first_only : (b : Bool) (i : ℕ) → i < (if b then 1 else 0) → (b ≡ true) × (i ≡ 0)
first_only true i h = (refl, omega arith)
first_only false i h = absurd (omega arith)

ok_plain : (p : Params) (now : ℕ) (c : Codel) (items : List Item) (i : ℕ) →
    i < drops_plain p now c items → (look p now c.first_above items i).ok ≡ true
unfolding drops_plain
ok_plain p now c items i below =
    let first = first_only (look p now c.first_above items 0).ok i below in
    ap (λ (k : ℕ). (look p now c.first_above items k).ok) first.1 ∙ first.0

ok_dropped : (p : Params) (now : ℕ) (c : Codel) (items : List Item) (i : ℕ) →
    i < drops p now c items → (look p now c.first_above items i).ok ≡ true
ok_dropped p now c items i below = on_bool c.dropping
    (λ sure. ok_dropping p now c items i (omega (arith, below, drops_yes p now c items sure)))
    (λ never. ok_plain p now c items i (omega (arith, below, drops_no p now c items never)))

pub standing_law : StandingLaw
standing_law c visits v i start below =
    let k : Known c.first_above [] = record { known = λ some. absurd (some start) } in
    let z : Codel = codel_after_all c visits in
    stood_looks i v z.first_above (looks_in c visits) (known_run visits c [] k)
    (ok_dropped v.times v.now z v.items i below)
