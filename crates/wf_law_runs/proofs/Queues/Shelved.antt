-- Defines an invariant of the shelves: which TID lists a queue, for whom its frames are, their stamps, and
-- its deficit. Proves that each kind of change keeps it.
use Rattle.std.proofs.Common.{◌≡◌, refl, sym, ◌∙◌, subst, arith, ℕ, zero, suc, ◌+◌, ◌*◌, ◌<◌, ◌≤◌, ℤ, pos, ◌+ℤ◌, ◌≤ℤ◌, true, List, [], ◌∷◌, ◌++◌, length, Option, Some, None, IfSome, inl, inr, ◌⊎◌}
use Rattle.std.proofs.lemmas.Int.{ints}
use Rattle.wf_frame.specs.declared.settings.Config.{Config}
use Rattle.wf_frame.specs.declared.notes.Note.{Note}
use Rattle.wf_def_codel.specs.Codel.{Item, Codel, Params, Dequeued, dequeue}
use Rattle.wf_def_rotation.specs.Rotation.{need_of}
use Rattle.wf_def_world.specs.World.{Queue}
use Rattle.wf_def_world.specs.FlowQueues.{len_given}
use Rattle.wf_law_runs.specs.Queues.{EachItem, IsAged, IsFor}
use Rattle.wf_law_runs.specs.Ranges.{CountsRight}
use Rattle.wf_def_codel.specs.CodelLoop.{dropping_first}
use Rattle.wf_law_rules.proofs.Lemmas.Dequeues.{each_dequeue}
use Rattle.wf_law_runs.proofs.Deficits.Books.{upd, upd_other, each_upd}
use Rattle.wf_law_runs.proofs.Deficits.Bounds.{paid_most}
use Rattle.wf_law_runs.proofs.Queues.Shelves.{Spot, Shelves, with_spot, with_listed, with_queue, with_note, paid_queue}

-- A TID lists the queue.
pub record IsFound (b : Shelves) (q : ℕ) : Type 0 where
  pub station : ℕ
  pub tid : ℕ
  pub listed : 0 < (b.spots station).listed tid q

-- The deficit of a listed queue, if no frame is longer than `most`.
pub record IsWithin (quantum most : ℕ) (d : ℤ) : Type 0 where
  pub highest : d ≤ℤ pos quantum
  pub lowest : pos 1 ≤ℤ (d +ℤ pos most)

-- The frame is for TID t of station s, and not longer than `most`.
abbrev pub IsOf : (ℕ → Note) → ℕ → ℕ → ℕ → Item → Type 0
IsOf notes most s t x = IsFor s t (notes x.id) × (x.len ≤ most)

abbrev pub Owned : Config → ℕ → ℕ → ℕ → Type 0
Owned config s t q = (q < config.flows) ⊎ (q ≡ config.flows + 8 * s + t)

pub record IsShelved (most : ℕ) (b : Shelves) : Type 0 where
  pub flows : 0 < b.config.flows
  pub quantum : 0 < b.config.flow_quantum
  pub range : (s : ℕ) → (b.spots s).live ≡ true → s < b.config.stations
  pub once : (s t q : ℕ) → (b.spots s).listed t q ≤ 1
  pub live : (s t q : ℕ) → 0 < (b.spots s).listed t q → (b.spots s).live ≡ true
  pub below : (s t q : ℕ) → 0 < (b.spots s).listed t q → t < 8
  pub owned : (s t q : ℕ) → 0 < (b.spots s).listed t q → Owned b.config s t q
  pub sole : (s t i j q : ℕ) → 0 < (b.spots s).listed t q → 0 < (b.spots i).listed j q → (s ≡ i) × (t ≡ j)
  pub found : (q : ℕ) → 0 < length (b.queues q).items → IsFound b q
  pub mine : (s t q : ℕ) → 0 < (b.spots s).listed t q → EachItem (IsOf b.notes most s t) (b.queues q).items
  pub stamps : (q : ℕ) → IsAged 0 b.clock (b.queues q).items
  pub deficits : (s t q : ℕ) → 0 < (b.spots s).listed t q →
      IsWithin b.config.flow_quantum most (b.queues q).deficit
  pub counts : (q : ℕ) → CountsRight (b.queues q).codel

-- ---- lists of frames

pub each_item : (P Q : Item → Type 0) → ((x : Item) → P x → Q x) → (xs : List Item) → EachItem P xs →
    EachItem Q xs
each_item P Q f [] h = tt
each_item P Q f (x ∷ xs) h = (f x h.0, each_item P Q f xs h.1)

pub each_append : (P : Item → Type 0) (xs : List Item) (x : Item) → EachItem P xs → P x →
    EachItem P (xs ++ x ∷ [])
each_append P [] x h k = (k, tt)
each_append P (y ∷ ys) x h k = (h.0, each_append P ys x h.1 k)

pub aged_from : (xs : List Item) (lo lo' hi : ℕ) → lo' ≤ lo → IsAged lo hi xs → IsAged lo' hi xs
aged_from [] lo lo' hi h a = omega (arith, h, a)
aged_from (x ∷ xs) lo lo' hi h a = (omega (arith, h, a.0), a.1)

pub aged_later : (xs : List Item) (lo hi hi' : ℕ) → hi ≤ hi' → IsAged lo hi xs → IsAged lo hi' xs
aged_later [] lo hi hi' h a = omega (arith, h, a)
aged_later (x ∷ xs) lo hi hi' h a = (a.0, aged_later xs x.stamp hi hi' h a.1)

pub aged_append : (xs : List Item) (x : Item) (lo hi : ℕ) → x.stamp ≡ hi → IsAged lo hi xs →
    IsAged lo hi (xs ++ x ∷ [])
aged_append [] x lo hi e a = (omega (arith, e, a), omega (arith, e))
aged_append (y ∷ ys) x lo hi e a = (a.0, aged_append ys x y.stamp hi e a.1)

pub aged_tail : (x : Item) (xs : List Item) (hi : ℕ) → IsAged 0 hi (x ∷ xs) → IsAged 0 hi xs
aged_tail x xs hi a = aged_from xs x.stamp 0 hi (omega arith) a.1

-- ys are a part of the frames xs of a queue.
pub record IsPart (xs ys : List Item) : Type 0 where
  pub each : (notes : ℕ → Note) (most s t : ℕ) → EachItem (IsOf notes most s t) xs →
      EachItem (IsOf notes most s t) ys
  pub aged : (hi : ℕ) → IsAged 0 hi xs → IsAged 0 hi ys
  pub some : 0 < length ys → 0 < length xs

pub part_tail : (x : Item) (xs : List Item) → IsPart (x ∷ xs) xs
part_tail x xs = record {
  each = λ notes most s t h. h.1;
  aged = λ hi a. aged_tail x xs hi a;
  some =
      λ h. omega arith;
}

pub part_none : (xs : List Item) → IsPart xs []
part_none xs = record {
  each = λ notes most s t h. tt;
  aged = λ hi a. omega arith;
  some =
      λ h. absurd (omega (arith, h));
}

then_part : (xs ys zs : List Item) → IsPart xs ys → IsPart ys zs → IsPart xs zs
then_part xs ys zs h k = record {
  each = λ notes most s t e. k.each notes most s t (h.each notes most s t e);
  aged = λ hi a. k.aged hi (h.aged hi a);
  some = λ e. h.some (k.some e);
}

pub if_longer : (o : Option Item) (most : ℕ) → IfSome o (λ x. x.len ≤ most) → len_given o ≤ most
if_longer None most h = omega arith
if_longer (Some x) most h = h

-- The frames that a dequeue leaves, and the length of the frame that it returns.
pub record IsLeft (xs : List Item) (d : Dequeued) : Type 0 where
  pub part : IsPart xs d.rest
  pub given : (most : ℕ) → EachItem (λ x. x.len ≤ most) xs → IfSome d.given (λ x. x.len ≤ most)

left_more : (x : Item) (xs : List Item) (d : Dequeued) → IsLeft xs d → IsLeft (x ∷ xs) (dropping_first x d)
left_more x xs d h = record {
  part = then_part (x ∷ xs) xs d.rest (part_tail x xs) h.part;
  given =
      λ most e. h.given most e.1;
}

pub left_dequeue : (xs : List Item) (p : Params) (now : ℕ) (c : Codel) → IsLeft xs (dequeue p now c xs)
left_dequeue xs p now c = each_dequeue IsLeft
    (λ c. record { part = part_none []; given = λ most h. tt })
    (λ x xs c. record { part = part_tail x xs; given = λ most h. h.0 })
    left_more xs p now c

-- ---- a queue changes

pub keep_queue : (most : ℕ) (b : Shelves) (q : ℕ) (y : Queue) → IsPart (b.queues q).items y.items →
    ((s t : ℕ) → 0 < (b.spots s).listed t q → IsWithin b.config.flow_quantum most y.deficit) →
    CountsRight y.codel → IsShelved most b → IsShelved most (with_queue b q y)
keep_queue most b q y part within right i = record {
  flows = i.flows;
  quantum = i.quantum;
  range = i.range;
  once = i.once;
  live = i.live;
  below = i.below;
  owned = i.owned;
  sole = i.sole;
  found = λ p h. let f : IsFound b p = i.found p
      (each_upd (λ p z. 0 < length z.items → 0 < length (b.queues p).items) b.queues q y
      (λ p k. k) part.some p h) in record { station = f.station; tid = f.tid; listed = f.listed };
  mine = λ s t p l. each_upd (λ p z. 0 < (b.spots s).listed t p → EachItem (IsOf b.notes most s t) z.items)
      b.queues q y (λ p l. i.mine s t p l) (λ l. part.each b.notes most s t (i.mine s t q l)) p l;
  stamps = each_upd (λ p z. IsAged 0 b.clock z.items) b.queues q y i.stamps (part.aged b.clock (i.stamps q));
  deficits = λ s t p l. each_upd (λ p z. 0 < (b.spots s).listed t p →
      IsWithin b.config.flow_quantum most z.deficit) b.queues q y (λ p l. i.deficits s t p l)
      (λ l. within s t l) p l;
  counts = each_upd (λ p z. CountsRight z.codel) b.queues q y i.counts right;
}

-- ---- a TID lists other queues

-- TID t of station s may list queue q.
pub record CanList (most : ℕ) (b : Shelves) (s t q : ℕ) : Type 0 where
  pub live : (b.spots s).live ≡ true
  pub below : t < 8
  pub owned : Owned b.config s t q
  pub apart : (i j : ℕ) → 0 < (b.spots i).listed j q → (i ≡ s) × (j ≡ t)
  pub deficit : IsWithin b.config.flow_quantum most (b.queues q).deficit

module _ (most : ℕ) (b : Shelves) (s t : ℕ) (g : ℕ → ℕ) (few : (p : ℕ) → g p ≤ 1)
    (from : (p : ℕ) → 0 < g p → (0 < (b.spots s).listed t p) ⊎ CanList most b s t p)
    (kept : (p : ℕ) → 0 < length (b.queues p).items → 0 < (b.spots s).listed t p → 0 < g p) where
  abbrev after : Shelves
  after = with_listed b s t g

  was : (j k p : ℕ) → 0 < (after.spots j).listed k p → (0 < (b.spots j).listed k p) ⊎
      ((j ≡ s) × (k ≡ t) × CanList most b s t p)
  was = each_upd (λ j z. (k p : ℕ) → 0 < z.listed k p → (0 < (b.spots j).listed k p) ⊎
      ((j ≡ s) × (k ≡ t) × CanList most b s t p)) b.spots s
      (record (b.spots s) { listed = upd (b.spots s).listed t g }) (λ j k p l. inl l)
      (each_upd (λ k h. (p : ℕ) → 0 < h p → (0 < (b.spots s).listed k p) ⊎
      ((s ≡ s) × (k ≡ t) × CanList most b s t p)) (b.spots s).listed t g (λ k p l. inl l)
      (λ p l. elim (from p l) [ inl o ↦ inl o | inr c ↦ inr (refl, refl, c) ]))

  still : (j k p : ℕ) → 0 < length (b.queues p).items → 0 < (b.spots j).listed k p →
      0 < (after.spots j).listed k p
  still = each_upd (λ j z. (k p : ℕ) → 0 < length (b.queues p).items → 0 < (b.spots j).listed k p →
      0 < z.listed k p) b.spots s (record (b.spots s) { listed = upd (b.spots s).listed t g })
      (λ j k p h l. l)
      (each_upd (λ k f. (p : ℕ) → 0 < length (b.queues p).items → 0 < (b.spots s).listed k p → 0 < f p)
      (b.spots s).listed t g (λ k p h l. l) kept)

  same_live : (j : ℕ) → (after.spots j).live ≡ (b.spots j).live
  same_live = each_upd (λ j z. z.live ≡ (b.spots j).live) b.spots s
      (record (b.spots s) { listed = upd (b.spots s).listed t g }) (λ j. refl) refl

  few_each : IsShelved most b → (j k p : ℕ) → (after.spots j).listed k p ≤ 1
  few_each i = each_upd (λ j z. (k p : ℕ) → z.listed k p ≤ 1) b.spots s
      (record (b.spots s) { listed = upd (b.spots s).listed t g }) i.once
      (each_upd (λ k f. (p : ℕ) → f p ≤ 1) (b.spots s).listed t g (i.once s) few)

  by_was : (P : ℕ → ℕ → ℕ → Type 0) → ((j k p : ℕ) → 0 < (b.spots j).listed k p → P j k p) →
      ((p : ℕ) → CanList most b s t p → P s t p) → (j k p : ℕ) → 0 < (after.spots j).listed k p → P j k p
  by_was P old new j k p l = elim (was j k p l) [
    | inl o ↦ old j k p o
    | inr n ↦ subst (λ (z : ℕ). P z k p) (sym n.0) (subst (λ (z : ℕ). P s z p) (sym n.1) (new p n.2))
  ]

  -- The frames of a queue that no other TID lists.
  own_items : IsShelved most b → (p : ℕ) → CanList most b s t p →
      EachItem (IsOf b.notes most s t) (b.queues p).items
  own_items i p c = go (b.queues p).items refl
    where
      go : (xs : List Item) → (b.queues p).items ≡ xs → EachItem (IsOf b.notes most s t) (b.queues p).items
      go [] e = subst (EachItem (IsOf b.notes most s t)) (sym e) tt
      go (x ∷ xs) e =
          let f : IsFound b p = i.found p (subst (λ (ys : List Item). 0 < length ys) (sym e) (omega arith)) in
          let d : (f.station ≡ s) × (f.tid ≡ t) = c.apart f.station f.tid f.listed in
          i.mine s t p (subst (λ (z : ℕ). 0 < (b.spots s).listed z p) d.1
          (subst (λ (z : ℕ). 0 < (b.spots z).listed f.tid p) d.0 f.listed))

  pub relisted : IsShelved most b → IsShelved most after
  relisted i = record {
    flows = i.flows;
    quantum = i.quantum;
    range = λ j h. i.range j (sym (same_live j) ∙ h);
    once = few_each i;
    live = by_was (λ j k p. (after.spots j).live ≡ true) (λ j k p o. same_live j ∙ i.live j k p o)
        (λ p c. same_live s ∙ c.live);
    below = by_was (λ j k p. k < 8) i.below (λ p c. c.below);
    owned = by_was (λ j k p. Owned b.config j k p) i.owned (λ p c. c.owned);
    sole = λ j k j' k' p l m. by_was (λ j k p. (j' k' : ℕ) → 0 < (after.spots j').listed k' p → (j ≡ j') ×
        (k ≡ k'))
        (λ j k p o j' k' m. by_was (λ j' k' p. 0 < (b.spots j).listed k p → (j ≡ j') × (k ≡ k'))
        (λ j' k' p o' o. i.sole j k j' k' p o o') (λ p c o. c.apart j k o) j' k' p m o)
        (λ p c j' k' m. by_was (λ j' k' p. CanList most b s t p → (s ≡ j') × (t ≡ k'))
        (λ j' k' p o' c. let e = c.apart j' k' o' in (sym e.0, sym e.1))
        (λ p c d. (refl, refl)) j' k' p m c)
        j k p l j' k' m;
    found = λ p h. let f : IsFound b p = i.found p h in
        record { station = f.station; tid = f.tid; listed = still f.station f.tid p h f.listed };
    mine = by_was (λ j k p. EachItem (IsOf b.notes most j k) (b.queues p).items) i.mine (own_items i);
    stamps = i.stamps;
    deficits = by_was (λ j k p. IsWithin b.config.flow_quantum most (b.queues p).deficit) i.deficits
        (λ p c. c.deficit);
    counts = i.counts;
  }

-- ---- a frame is added to a queue that TID t of station s lists

pub appended_to : (most : ℕ) (b : Shelves) (s t q : ℕ) (x : Item) (y : Queue) → 0 < (b.spots s).listed t q →
    IsOf b.notes most s t x → x.stamp ≡ b.clock → y.items ≡ (b.queues q).items ++ x ∷ [] →
    y.deficit ≡ (b.queues q).deficit → CountsRight y.codel →
    IsShelved most b → IsShelved most (with_queue b q y)
appended_to most b s t q x y listed own now items same right i = record {
  flows = i.flows;
  quantum = i.quantum;
  range = i.range;
  once = i.once;
  live = i.live;
  below = i.below;
  owned = i.owned;
  sole = i.sole;
  found = each_upd (λ p z. 0 < length z.items → IsFound (with_queue b q y) p) b.queues q y
      (λ p h. let f : IsFound b p = i.found p h in record {
        station = f.station;
        tid = f.tid;
        listed =
            f.listed;
      })
      (λ h. record { station = s; tid = t; listed = listed });
  mine = λ j k p l. each_upd (λ p z. 0 < (b.spots j).listed k p → EachItem (IsOf b.notes most j k) z.items)
      b.queues q y (λ p l. i.mine j k p l)
      (λ l.
      let e : (s ≡ j) × (t ≡ k) = i.sole s t j k q listed l in
      subst (λ (z : ℕ). EachItem (IsOf b.notes most z k) y.items) e.0
      (subst (λ (z : ℕ). EachItem (IsOf b.notes most s z) y.items) e.1
      (subst (EachItem (IsOf b.notes most s t)) (sym items)
      (each_append (IsOf b.notes most s t) (b.queues q).items x (i.mine s t q listed) own))))
      p l;
  stamps = each_upd (λ p z. IsAged 0 b.clock z.items) b.queues q y i.stamps
      (subst (IsAged 0 b.clock) (sym items) (aged_append (b.queues q).items x 0 b.clock now (i.stamps q)));
  deficits = λ j k p l. each_upd (λ p z. 0 < (b.spots j).listed k p →
      IsWithin b.config.flow_quantum most z.deficit) b.queues q y (λ p l. i.deficits j k p l)
      (λ l. subst (IsWithin b.config.flow_quantum most) (sym same) (i.deficits j k q l)) p l;
  counts = each_upd (λ p z. CountsRight z.codel) b.queues q y i.counts right;
}

-- ---- a new note, the clock, and a station that joins or leaves

pub noted : (most : ℕ) (b : Shelves) (k : ℕ) (note : Note) →
    ((q : ℕ) → EachItem (λ x. x.id ≡ k → ⊥) (b.queues q).items) → IsShelved most b →
    IsShelved most (with_note b k note)
noted most b k note fresh i = record {
  flows = i.flows;
  quantum = i.quantum;
  range = i.range;
  once = i.once;
  live = i.live;
  below = i.below;
  owned = i.owned;
  sole = i.sole;
  found = λ p h. let f : IsFound b p = i.found p h in
      record { station = f.station; tid = f.tid; listed = f.listed };
  mine = λ s t q l. both (b.queues q).items s t (fresh q) (i.mine s t q l);
  stamps = i.stamps;
  deficits = i.deficits;
  counts = i.counts;
}
  where
    both : (xs : List Item) (s t : ℕ) → EachItem (λ x. x.id ≡ k → ⊥) xs →
        EachItem (IsOf b.notes most s t) xs → EachItem (IsOf (upd b.notes k note) most s t) xs
    both [] s t f h = tt
    both (x ∷ xs) s t f h = (
      (subst (IsFor s t) (sym (upd_other b.notes k x.id note f.0)) h.0.0, h.0.1),
      both xs s t f.1 h.1,
    )

pub later : (most : ℕ) (b : Shelves) (by : ℕ) → IsShelved most b →
    IsShelved most (record b { clock = b.clock + by })
later most b by i = record {
  flows = i.flows;
  quantum = i.quantum;
  range = i.range;
  once = i.once;
  live = i.live;
  below = i.below;
  owned = i.owned;
  sole = i.sole;
  found = λ p h. let f : IsFound b p = i.found p h in
      record { station = f.station; tid = f.tid; listed = f.listed };
  mine = i.mine;
  stamps = λ q. aged_later (b.queues q).items 0 b.clock (b.clock + by) (omega arith) (i.stamps q);
  deficits = i.deficits;
  counts = i.counts;
}

-- The station lists no queue.
pub restated : (most : ℕ) (b : Shelves) (s : ℕ) (x : Spot) → ((t q : ℕ) → (b.spots s).listed t q ≡ 0) →
    ((t q : ℕ) → x.listed t q ≡ 0) → (x.live ≡ true → s < b.config.stations) → IsShelved most b →
    IsShelved most (with_spot b s x)
restated most b s x none empty low i = record {
  flows = i.flows;
  quantum = i.quantum;
  range = each_upd (λ j z. z.live ≡ true → j < b.config.stations) b.spots s x i.range low;
  once = each_upd (λ j z. (t q : ℕ) → z.listed t q ≤ 1) b.spots s x i.once (λ t q. omega (arith, empty t q));
  live = each_upd (λ j z. (t q : ℕ) → 0 < z.listed t q → z.live ≡ true) b.spots s x i.live
      (λ t q l. absurd (omega (arith, empty t q, l)));
  below = λ j t q l. i.below j t q (old j t q l);
  owned = λ j t q l. i.owned j t q (old j t q l);
  sole = λ j k j' k' q l m. i.sole j k j' k' q (old j k q l) (old j' k' q m);
  found = λ q h. let f : IsFound b q = i.found q h in
      record { station = f.station; tid = f.tid; listed = still f.station f.tid q f.listed };
  mine = λ j t q l. i.mine j t q (old j t q l);
  stamps = i.stamps;
  deficits = λ j t q l. i.deficits j t q (old j t q l);
  counts = i.counts;
}
  where
    old : (j t q : ℕ) → 0 < ((with_spot b s x).spots j).listed t q → 0 < (b.spots j).listed t q
    old = each_upd (λ j z. (t q : ℕ) → 0 < z.listed t q → 0 < (b.spots j).listed t q) b.spots s x
        (λ j t q l. l) (λ t q l. absurd (omega (arith, empty t q, l)))

    still : (j t q : ℕ) → 0 < (b.spots j).listed t q → 0 < ((with_spot b s x).spots j).listed t q
    still = each_upd (λ j z. (t q : ℕ) → 0 < (b.spots j).listed t q → 0 < z.listed t q) b.spots s x
        (λ j t q l. l) (λ t q l. absurd (omega (arith, none t q, l)))

-- ---- giving quanta to queues

pub once_times : (m n k : ℕ) → m ≤ 1 → n ≤ k → m * n ≤ k
once_times zero n k h e = omega arith
once_times (suc zero) n k h e = omega arith
once_times (suc (suc m)) n k h e = absurd (omega arith)

paid_within : (quantum most n : ℕ) (d : ℤ) → n ≤ need_of quantum d → IsWithin quantum most d →
    IsWithin quantum most (d +ℤ pos (n * quantum))
paid_within quantum most n d h w = record {
  highest = paid_most quantum n d w.highest h;
  lowest =
      omega (arith, ints, w.lowest);
}

pub paid : (most : ℕ) (b : Shelves) (quanta : ℕ → ℕ) (f : ℕ → ℕ) → ((q : ℕ) → f q ≤ 1) →
    ((q : ℕ) → quanta q ≤ need_of b.config.flow_quantum (b.queues q).deficit) → IsShelved most b →
    IsShelved most (record b { queues = λ q. paid_queue b.config.flow_quantum (f q * quanta q) (b.queues q) })
paid most b quanta f few needs i = record {
  flows = i.flows;
  quantum = i.quantum;
  range = i.range;
  once = i.once;
  live = i.live;
  below = i.below;
  owned = i.owned;
  sole = i.sole;
  found = λ p h. let f : IsFound b p = i.found p h in
      record { station = f.station; tid = f.tid; listed = f.listed };
  mine = i.mine;
  stamps = i.stamps;
  deficits = λ s t q l. paid_within b.config.flow_quantum most (f q * quanta q) (b.queues q).deficit
      (once_times (f q) (quanta q) _ (few q) (needs q)) (i.deficits s t q l);
  counts = i.counts;
}
