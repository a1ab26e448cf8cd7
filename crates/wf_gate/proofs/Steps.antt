-- Proves that each step on the gate's table keeps its rule, by cases of the step. Tickets are drawn and
-- served in order, so at most one seat has its turn, and the slot is with that seat or in the table.
use Rattle.std.proofs.Common.{◌≡◌, ◌≢◌, ◌⊎◌, ℕ, zero, suc, ◌+◌, ◌-◌, ◌%◌, ◌^◌, ◌<◌, ◌≤◌, Bool, true, false, true≢false, eqb, List, [], ◌∷◌, ◌++◌, length, get_or, set, drop, map, zero-add, Option, Some, None, refl, sym, ap, ◌∙◌, subst, inl, inr, ⊎_elim, arith, length-append, eq-eqb, ne_eqb}
use Rattle.std.specs.Prelude.{sum, ltb}
use mathlib.Core.Logic.{dite}
use mathlib.Core.Option.{none, some, some-injective, some-ne-none}
use mathlib.Core.List.{IsPrefix}
use native.Mathlib.Decide.{ℕ_discrete, dec_le}
use lib.ListN.{get_elem?}
use prog.Atomic.{either}
use Rattle.atomic_table.specs.Table.{State, Me, step, keeps, takes, gives, put_back, rest, Allows, Splits, Joins, opening, Final, Seen}
use Rattle.atomic_table.proofs.Lists.{at_set, at_snoc, at_map, at_longer, set_else}
use Rattle.wf_gate.specs.declared.view.Opening.{Opening}
use Rattle.wf_gate.specs.declared.view.Face.{Face}
use Rattle.wf_gate.specs.declared.view.Stage.{Stage}
use Rattle.wf_gate.specs.declared.view.Stage.TheVariants.{Idle, Waits, Served}
use Rattle.wf_gate.specs.declared.view.View.{View}
use Rattle.wf_gate.specs.Turns.{one_if, times, total, places, entries_by, has_turn, tickets_held, face_number, numbers_if, numbers, faces_of, FaceFits, HasDrawn, InLine, Sits, FitsIf, Fits, IsAt, Home, Out, Kept, waiting, having_read, at_turn, after_turn, in_vain, AllSeats, drawn, TurnComes, looked, peeked, tried, GivesBack, served, deal_left, deal_right, joined, spent, tail, numbers_from, new_view, first_view}
use Rattle.wf_gate.specs.Passes.{with_read, HasTurn, AtTurn, GateEnds}
use Rattle.wf_gate.proofs.Counts.{times-append, copies, length-copies, times_add_same, times_add_other, at_added, times_at, length_fits, total_set, total_push, total_one, total_two, length-entries, caller_at, entries_injective, places_add_other, places_add_same, length-count_from, prefix_self, prefix_push, append_injective, at_bound, set_self, length_prefix, at_append, count_drop, count_at, all_numbers, length_by_times, callers_of, length-places}
use Rattle.std.proofs.lemmas.List.{append_assoc, append-nil, map-append, length-map, get_or_past}

at_most_one : (b : Bool) → one_if b ≤ 1
at_most_one true = omega arith
at_most_one false = omega arith

module _ {M N : Type 0} (o : Opening M) where
  pub dealt_left : (i n : ℕ) (v : View M N) (xs : List ℕ) → v ≡ new_view o n (drop i (numbers_from 0 xs)) →
      i < length xs → deal_left v ≡ new_view o n (drop (i + 1) (numbers_from 0 xs))
  dealt_left i n v xs is l = ap deal_left is ∙ ap (λ (z : List ℕ). new_view o n (tail z))
      (count_drop i 0 xs l)

  pub dealt_right : (i n : ℕ) (v : View M N) (xs : List ℕ) → v ≡ new_view o n (drop i (numbers_from 0 xs)) →
      i < length xs → deal_right v ≡ new_view o i []
  dealt_right i n v xs is l = ap deal_right is ∙ ap (λ (z : ℕ). new_view o z [])
      (ap (λ (z : List ℕ). get_or z 0 0) (count_drop i 0 xs l) ∙ zero-add i)

module _ {M N T : Type 0} (past : M → List (ℕ × N)) (settings : M → T) (spare : M → ℕ) (o : Opening M) where
  abbrev V : Type 0
  V = View M N

  abbrev St : Type 0
  St = State (Option M) V

  abbrev H : Type 0
  H = List (ℕ × N)

  abbrev Rule : St → Type 0
  Rule = Kept past settings spare o

  sits : (h : H) (line : List ℕ) (v : V) → v.opening ≡ Some o → Fits o h line v → Sits o h line v
  sits h line v is f = (subst (λ (z : Option (Opening M)). FitsIf o h line z v) is f).1

  fits : (h : H) (line : List ℕ) (v : V) → v.opening ≡ Some o → Sits o h line v → Fits o h line v
  fits h line v is f = subst (λ (z : Option (Opening M)). FitsIf o h line z v) (sym is) (refl, f)

  -- a seat that has its turn was not joined into another
  turn_sits : (h : H) (line : List ℕ) (v : V) (z : Option (Opening M)) → has_turn v.stage ≡ true →
      FitsIf o h line z v → (z ≡ Some o) × Sits o h line v
  turn_sits h line v (Some p) turn f = (ap Some f.0, f.1)
  turn_sits h line v None turn f = absurd (true≢false (sym turn ∙ ap has_turn f))

  own_number : (v : V) → v.opening ≡ Some o → 0 < times v.face.number (numbers v)
  own_number v is = let one : one_if (eqb v.face.number v.face.number) ≡ 1 =
      ap one_if (eq-eqb v.face.number v.face.number refl) in
      let all : times v.face.number (numbers v) ≡ times v.face.number (numbers_if (Some o) v) =
      ap (λ z. times v.face.number (numbers_if z v)) is in omega arith

  same_numbers : (v w : V) → v.opening ≡ Some o → w.opening ≡ Some o →
      numbers_if (Some o) w ≡ numbers_if (Some o) v → (n : ℕ) → times n (numbers w) ≡ times n (numbers v)
  same_numbers v w op op' same n = ap (λ z. times n (numbers_if z w)) op'
      ∙ (ap (times n) same ∙ sym (ap (λ z. times n (numbers_if z v)) op))

  record_number : (v : V) → v.opening ≡ Some o → (k : ℕ) (f : Face N) → get_elem? v.records k ≡ some f →
      0 < times f.number (numbers v)
  record_number v is k f at = let all : times f.number (numbers v) ≡ times f.number (numbers_if (Some o) v) =
      ap (λ z. times f.number (numbers_if z v)) is in
      let here : 0 < times f.number (map face_number v.records) =
      times_at f.number (map face_number v.records) k (at_map face_number v.records k f at) in
      omega (arith, times-append f.number (map face_number v.records) v.give)

  give_number : (v : V) → v.opening ≡ Some o → (k n : ℕ) → get_elem? v.give k ≡ some n →
      0 < times n (numbers v)
  give_number v is k n at = let all : times n (numbers v) ≡ times n (numbers_if (Some o) v) =
      ap (λ z. times n (numbers_if z v)) is in
      let here : 0 < times n v.give = times_at n v.give k at in
      omega (arith, times-append n (map face_number v.records) v.give)

  -- each seat number belongs to exactly one view
  apart : (s : St) (r : Rule s) (i j : ℕ) (v w : V) (n : ℕ) → get_elem? s.views i ≡ some v →
      get_elem? s.views j ≡ some w → 0 < times n (numbers v) → 0 < times n (numbers w) → j ≡ i
  apart s r i j v w n e d a b = dite (ℕ_discrete j i) (λ same. same)
      (λ other. absurd (omega (
        arith,
        total_two (λ (z : V). times n (numbers z)) s.views i j v w other e d,
        r.given n,
        at_most_one (ltb n (length o.quotas)),
      )))

  face_stays : (h h' : H) (line line' : List ℕ) (more : ℕ) (f : Face N) →
      ((xs : H) → IsPrefix xs h → IsPrefix xs h') → length h ≤ length h' → length line ≤ length line'
      → times f.number line' ≡ times f.number line → places f.number 0 h' ≡ places f.number 0 h →
      FaceFits o h line more f → FaceFits o h' line' more f
  face_stays h h' line line' more f longer hs ls same_times same_places k = record {
    inside = k.inside;
    seen = longer f.seen k.seen;
    own = k.own ∙ sym same_places;
    drawn = same_times ∙ k.drawn;
    looks = λ i p at. let l = k.looks i p at in (
      l.0,
      (let x = l.1 in omega arith),
      (let x = l.2 in omega arith),
    );
  }

  -- the first of a seat's tickets is in line
  first_drawn : (h : H) (line : List ℕ) (f : Face N) (t count : ℕ) → HasDrawn o h line f t count →
      get_elem? line t ≡ some f.number
  first_drawn h line f t count k = let same : t + 0 ≡ t = omega arith in
      subst (λ (z : ℕ). get_elem? line z ≡ some f.number) same (k.1 0 k.0)

  line_stays : (h h' : H) (line line' : List ℕ) (f : Face N) (st : Stage) →
      ((t n : ℕ) → get_elem? line t ≡ some n → get_elem? line' t ≡ some n)
      → ((t : ℕ) → get_elem? line t ≡ some f.number → length h ≤ t → length h' ≤ t) →
      (has_turn st ≡ true → h ≡ h') → InLine o h line f st → InLine o h' line' f st
  line_stays h h' line line' f Idle kept before same k = tt
  line_stays h h' line line' f (Waits t count) kept before same k = (
    (k.0.0, λ i l. kept (t + i) f.number (k.0.1 i l)),
    before t (first_drawn h line f t count k.0) k.1,
  )
  line_stays h h' line line' f (Served t count) kept before same k = let is = same refl in (
    (k.0.0, λ i l. kept (t + i) f.number (k.0.1 i l)),
    sym (ap length is) ∙ k.1,
    k.2 ∙ is,
  )

  stays : (h h' : H) (line line' : List ℕ) (v : V) (z : Option (Opening M)) → v.opening ≡ z →
      ((xs : H) → IsPrefix xs h → IsPrefix xs h') → length h ≤ length h' → length line ≤ length line'
      → ((t n : ℕ) → get_elem? line t ≡ some n → get_elem? line' t ≡ some n) →
      (v.opening ≡ Some o → (t : ℕ) → get_elem? line t ≡ some v.face.number → length h ≤ t →
      length h' ≤ t) → (has_turn v.stage ≡ true → h ≡ h')
      → ((n : ℕ) → 0 < times n (numbers v) → (times n line' ≡ times n line) × (places n 0 h' ≡ places n 0 h))
      → FitsIf o h line z v → FitsIf o h' line' z v
  stays h h' line line' v (Some p) op longer hs ls kept before same others f = let is : v.opening ≡ Some o =
      op ∙ ap Some f.0 in let k = f.1 in (
        f.0,
        record {
          face = let t = others v.face.number (own_number v is) in
              face_stays h h' line line' (tickets_held v.stage) v.face longer hs ls t.0 t.1 k.face;
          in_line = line_stays h h' line line' v.face v.stage kept (before is) same k.in_line;
          read = λ s e. let x = k.read s e in omega arith;
          records = λ i g at. let t = others g.number (record_number v is i g at) in
              face_stays h h' line line' 0 g longer hs ls t.0 t.1 (k.records i g at);
          give = λ i n at. let t = others n (give_number v is i n at) in let x = k.give i n at in
              (x.0, t.1 ∙ x.1, t.0 ∙ x.2);
        },
      )
  stays h h' line line' v None op longer hs ls kept before same others f = f

  each_set : (h : H) (line : List ℕ) (vs : List V) (id : ℕ) (w : V) → Fits o h line w →
      ((j : ℕ) (v : V) → j ≢ id → get_elem? vs j ≡ some v → Fits o h line v)
      → (j : ℕ) (v : V) → get_elem? (set vs id w) j ≡ some v → Fits o h line v
  each_set h line vs id w mine others j v e = ⊎_elim
      (λ (t : (j ≡ id) × (w ≡ v)). subst (Fits o h line) t.1 mine)
      (λ (t : (j ≢ id) × (get_elem? vs j ≡ some v)). others j v t.0 t.1) (at_set vs id j w v e)

  given_set : (s : St) (r : Rule s) (id : ℕ) (v w : V) → get_elem? s.views id ≡ some v →
      ((n : ℕ) → times n (numbers w) ≡ times n (numbers v))
      → (n : ℕ) → total (λ (z : V). times n (numbers z)) (set s.views id w) ≡ one_if (ltb n (length o.quotas))
  given_set s r id v w at same n = omega (
    arith,
    total_set (λ (z : V). times n (numbers z)) s.views id v w at,
    same n,
    r.given n,
  )

  quiet_set : (vs : List V) (id : ℕ) (w : V) → has_turn w.stage ≡ false →
      ((j : ℕ) (v : V) → j ≢ id → get_elem? vs j ≡ some v → has_turn v.stage ≡ false)
      → (j : ℕ) (v : V) → get_elem? (set vs id w) j ≡ some v → has_turn v.stage ≡ false
  quiet_set vs id w mine others j v e = ⊎_elim (λ (t : (j ≡ id) × (w ≡ v)).
      ap (λ (z : V). has_turn z.stage) (sym t.1) ∙ mine)
      (λ (t : (j ≢ id) × (get_elem? vs j ≡ some v)). others j v t.0 t.1) (at_set vs id j w v e)

  -- a step of a seat that has no turn, before or after, does not change the slot
  slot_stays : (h : H) (s : St) (ws : List ℕ) (id : ℕ) (v w : V) → get_elem? s.views id ≡ some v →
      has_turn v.stage ≡ false → has_turn w.stage ≡ false → Home past settings spare o h s ⊎ Out s
      → Home past settings spare o h record { words = ws; homes = s.homes; views = set s.views id w } ⊎
      Out record { words = ws; homes = s.homes; views = set s.views id w }
  slot_stays h s ws id v w at before after slot = ⊎_elim
      (λ (t : Home past settings spare o h s). inl (
        t.0,
        t.1,
        t.2,
        quiet_set s.views id w after (λ j u _ e. t.3 j u e),
      ))
      (λ (t : Out s). let j = t.1.0 in let u = t.1.1 in inr (
        t.0,
        (
          j,
          u,
          dite (ℕ_discrete j id)
              (λ same. absurd (true≢false (sym t.1.3 ∙ (ap (λ (z : V). has_turn z.stage)
              (some-injective u v (sym t.1.2 ∙ (ap (get_elem? s.views) same ∙ at))) ∙ before))))
              (λ other. set_else s.views id j w other ∙ t.1.2),
          t.1.3,
        ),
      )) slot

  -- a view's own number is not among those of its records, nor among those that it may give away
  twice : (s : St) (r : Rule s) (id : ℕ) (v : V) → v.opening ≡ Some o → get_elem? s.views id ≡ some v →
      times v.face.number (map face_number v.records ++ v.give) ≡ 0
  twice s r id v op at = let one : one_if (eqb v.face.number v.face.number) ≡ 1 =
      ap one_if (eq-eqb v.face.number v.face.number refl) in
      let all : times v.face.number (numbers v) ≡ times v.face.number (numbers_if (Some o) v) =
      ap (λ z. times v.face.number (numbers_if z v)) op in
      omega (
        arith,
        total_one (λ (z : V). times v.face.number (numbers z)) s.views id v at,
        r.given v.face.number,
        at_most_one (ltb v.face.number (length o.quotas)),
      )

  not_mine : (s : St) (r : Rule s) (id : ℕ) (v : V) → v.opening ≡ Some o → get_elem? s.views id ≡ some v →
      (k : ℕ) (f : Face N) → get_elem? v.records k ≡ some f → v.face.number ≡ f.number → ⊥
  not_mine s r id v op at k f e same = let here : 0 < times v.face.number (map face_number v.records) =
      times_at v.face.number (map face_number v.records) k
      (at_map face_number v.records k f e ∙ ap some (sym same)) in
      absurd (omega (
        arith,
        times-append v.face.number (map face_number v.records) v.give,
        twice s r id v op at,
      ))

  not_to_give : (s : St) (r : Rule s) (id : ℕ) (v : V) → v.opening ≡ Some o → get_elem? s.views id ≡ some v →
      (k m : ℕ) → get_elem? v.give k ≡ some m → v.face.number ≡ m → ⊥
  not_to_give s r id v op at k m e same = let here : 0 < times v.face.number v.give =
      times_at v.face.number v.give k (e ∙ ap some (sym same)) in
      absurd (omega (
        arith,
        times-append v.face.number (map face_number v.records) v.give,
        twice s r id v op at,
      ))

  -- A seat with the view v, which has no ticket and these calls left, draws the next tickets, this many.
  module _ (s : St) (r : Rule s) (id count : ℕ) (v : V) (op : v.opening ≡ Some o) (idle : v.stage ≡ Idle)
      (room : length v.face.own + count ≤ get_or o.quotas v.face.number 0)
      (at : get_elem? s.views id ≡ some v) where
    abbrev more : List ℕ
    more = r.line ++ copies count v.face.number

    its : Sits o r.history r.line v
    its = sits r.history r.line v op (r.each id v at)

    drawn_before : times v.face.number r.line ≡ length v.face.own
    drawn_before = let k : times v.face.number r.line ≡ length v.face.own + tickets_held v.stage =
        its.face.drawn in let none_held : tickets_held v.stage ≡ 0 = ap tickets_held idle in omega arith

    allowed : (m : ℕ) → times m more ≤ get_or o.quotas m 0
    allowed m = let all_more = times_add_same v.face.number count r.line in dite (ℕ_discrete m v.face.number)
        (λ same. subst (λ (z : ℕ). times z more ≤ get_or o.quotas z 0) (sym same)
        (omega (arith, drawn_before)))
        (λ other. let x = r.fits m in
        let y = times_add_other m v.face.number count r.line (λ e. other (sym e)) in
        omega arith)

    length-more : length more ≡ length r.line + count
    length-more = omega (
      arith,
      length-append r.line (copies count v.face.number),
      length-copies count v.face.number,
    )

    small_more : length r.line + count < 2 ^ 64
    small_more = omega (arith, length_fits more o.quotas allowed, length-more, r.room, r.small)

    face_more : FaceFits o r.history more count v.face
    face_more = let k = its.face in record {
      inside = k.inside;
      seen = k.seen;
      own = k.own;
      drawn = omega (arith, times_add_same v.face.number count r.line, drawn_before);
      looks = λ i p e. let l = k.looks i p e in (l.0, l.1, (let x = l.2 in omega (arith, length-more)));
    }

    records_more : (i : ℕ) (g : Face N) → get_elem? v.records i ≡ some g → FaceFits o r.history more 0 g
    records_more i g e = face_stays r.history r.history r.line more 0 g (λ xs p. p) (omega arith)
        (omega (arith, length-more)) (times_add_other g.number v.face.number count r.line
        (λ same. not_mine s r id v op at i g e same)) refl (its.records i g e)

    give_more : (i m : ℕ) → get_elem? v.give i ≡ some m → (m < length o.quotas) ×
        (places m 0 r.history ≡ []) × (times m more ≡ 0)
    give_more i m e = let x = its.give i m e in (
      x.0,
      x.1,
      times_add_other m v.face.number count r.line (λ same. not_to_give s r id v op at i m e same) ∙ x.2,
    )

    others_more : (j : ℕ) (u : V) → j ≢ id → get_elem? s.views j ≡ some u → Fits o r.history more u
    others_more j u other e = stays r.history r.history r.line more u u.opening refl (λ xs p. p) (omega arith)
        (omega (arith, length-more)) (λ i m x. at_longer r.line (copies count v.face.number) i m x)
        (λ _ _ _ l. l)
        (λ _. refl)
        (λ m has. (
          times_add_other m v.face.number count r.line
              (λ same. other (apart s r id j v u v.face.number at e (own_number v op)
              (subst (λ (z : ℕ). 0 < times z (numbers u)) (sym same) has))),
          refl,
        )) (r.each j u e)

  pub draws : (slots id count : ℕ) (me : Me (Option M) V) → me.0.opening ≡ Some o → me.0.stage ≡ Idle →
      0 < count → length me.0.face.own + count ≤ get_or o.quotas me.0.face.number 0
      → Allows Rule slots id me 0 (λ n. (n + count) % 2 ^ 64) (drawn (step slots 0 count 0 none) me)
  draws slots id count me op idle any room s r _ at _ =
      let v : V = me.0 in let h : H = r.history in let n : ℕ = v.face.number in
      let line : List ℕ = r.line ++ copies count n in
      let t : ℕ = length r.line in let w : V = waiting v t count in
      let k = its s r id count v op idle room at in
      let longer : length line ≡ t + count = length-more s r id count v op idle room at in
      let small : t + count < 2 ^ 64 = small_more s r id count v op idle room at in
      let order = r.order in
      let number : (t + count) % 2 ^ 64 ≡ length line = omega arith in
      let found : get_or s.words 0 0 ≡ t = ap (λ (ws : List ℕ). get_or ws 0 0) r.words in (
        w,
        keeps,
        tt,
        record {
          history = h;
          line = line;
          words = ap (λ (ws : List ℕ). set ws 0 ((get_or ws 0 0 + count) % 2 ^ 64)) r.words
              ∙ ap (λ (z : ℕ). z ∷ length h ∷ []) number;
          order = omega arith;
          fits = allowed s r id count v op idle room at;
          room = r.room;
          small = r.small;
          callers = r.callers;
          given = given_set s r id v w at (same_numbers v w op op refl);
          each = each_set h line s.views id w
              (fits h line w op record {
                face = face_more s r id count v op idle room at;
                in_line = ((any, λ i l. at_added r.line count n (t + i) (omega arith) (omega arith)), order);
                read = k.read;
                records = records_more s r id count v op idle room at;
                give = give_more s r id count v op idle room at;
              })
              (others_more s r id count v op idle room at);
          slot = slot_stays h s (set s.words 0 ((get_or s.words 0 0 + count) % 2 ^ 64)) id v w at
              (ap has_turn idle) refl r.slot;
        },
        ap (λ (z : ℕ). (waiting v z count, me.1)) (sym found),
      )

  -- the seat that is first in line
  turn_first : (h : H) (line : List ℕ) (f : Face N) (st : Stage) → has_turn st ≡ true → InLine o h line f st →
      get_elem? line (length h) ≡ some f.number
  turn_first h line f Idle turn k = absurd (true≢false (sym turn))
  turn_first h line f (Waits t count) turn k = absurd (true≢false (sym turn))
  turn_first h line f (Served t count) turn k = ap (get_elem? line) k.1 ∙ first_drawn h line f t count k.0

  only_turn : (s : St) (r : Rule s) (id : ℕ) (v : V) → v.opening ≡ Some o → get_elem? s.views id ≡ some v →
      get_elem? r.line (length r.history) ≡ some v.face.number
      → (j : ℕ) (u : V) → get_elem? s.views j ≡ some u → has_turn u.stage ≡ true → j ≡ id
  only_turn s r id v op at first j u e turn = let k =
      turn_sits r.history r.line u u.opening turn (r.each j u e) in
      let same : u.face.number ≡ v.face.number = some-injective _ _
      (sym (turn_first r.history r.line u.face u.stage turn k.1.in_line) ∙ first) in
      apart s r id j v u v.face.number at e (own_number v op)
      (subst (λ (z : ℕ). 0 < times z (numbers u)) same (own_number u k.0))

  off : false ≡ true → ⊥
  off e = true≢false (sym e)

  at_home : (s : St) (r : Rule s) (id : ℕ) (v : V) → v.opening ≡ Some o → get_elem? s.views id ≡ some v →
      has_turn v.stage ≡ false → get_elem? r.line (length r.history) ≡ some v.face.number
      → Home past settings spare o r.history s
  at_home s r id v op at quiet first = ⊎_elim (λ (t : Home past settings spare o r.history s). t)
      (λ (t : Out s). let j = t.1.0 in let u = t.1.1 in
      let here = only_turn s r id v op at first j u t.1.2 t.1.3 in
      absurd (off (sym quiet ∙ (ap (λ (z : V). has_turn z.stage)
      (some-injective v u (sym at ∙ (ap (get_elem? s.views) (sym here) ∙ t.1.2))) ∙ t.1.3)))) r.slot

  some_same : (p : Opening M) (z : Option (Opening M)) → z ≡ Some o → z ≡ Some p → o ≡ p
  some_same p z a b = cc

  abbrev ticket_of : Stage → ℕ
  ticket_of (Waits t count) = t
  ticket_of (Served t count) = t
  ticket_of Idle = 0

  -- ticket t is served: the seat has seen h, and has the machine
  face_seen : (h : H) (line : List ℕ) (extra : ℕ) (f : Face N) → FaceFits o h line extra f →
      FaceFits o h line extra (record f { seen = h })
  face_seen h line extra f k = record {
    inside = k.inside;
    seen = prefix_self h;
    own = k.own;
    drawn = k.drawn;
    looks = k.looks;
  }

  pub looks : (slots id : ℕ) (me : Me (Option M) V) (t count : ℕ) → me.0.opening ≡ Some o →
      me.0.stage ≡ Waits t count
      → Allows Rule slots id me 1 (λ n. n) (looked past settings spare (step slots 1 0 0 none) me)
  looks slots id me t count op waits s r _ at _ =
      let v : V = me.0 in let h : H = r.history in let n : ℕ = v.face.number in
      let k = sits h r.line v op (r.each id v at) in
      let drawn : times n r.line ≡ length v.face.own + tickets_held v.stage = k.face.drawn in
      let held : tickets_held v.stage ≡ count = ap tickets_held waits in
      let waits_too = subst (InLine o h r.line v.face) waits k.in_line in
      let any : 0 < count = waits_too.0.0 in
      let last : t + (count - 1) < length r.line =
      at_bound r.line (t + (count - 1)) n (waits_too.0.1 (count - 1) (omega arith)) in
      let most = length_fits r.line o.quotas r.fits in
      let enough = r.room in
      let found : get_or s.words 1 0 ≡ length h = ap (λ (ws : List ℕ). get_or ws 1 0) r.words in
      let words : set s.words 1 (get_or s.words 1 0) ≡ length r.line ∷ length h ∷ [] =
      ap (λ (ws : List ℕ). set ws 1 (get_or ws 1 0)) r.words in
      dite (ℕ_discrete (get_or s.words 1 0) t)
      (λ hit. let here : length h ≡ t = sym found ∙ hit in
      let room : length h + count ≤ spare o.machine = omega arith in
      let home = at_home s r id v op at (ap has_turn waits)
      (ap (get_elem? r.line) here ∙ first_drawn h r.line v.face t count waits_too.0) in
      let w : V = at_turn v t count (Some (get_or s.words 1 0)) h in (
        w,
        takes 0 (Some home.0),
        ap (λ hs. get_elem? hs 0) home.1,
        record {
          history = h;
          line = r.line;
          words = words;
          order = r.order;
          fits = r.fits;
          room = r.room;
          small = r.small;
          callers = r.callers;
          given = given_set s r id v w at (same_numbers v w op op refl);
          each = each_set h r.line s.views id w
              (fits h r.line w op record {
                face = face_seen h r.line count v.face (subst (λ (z : ℕ). FaceFits o h r.line z v.face) held
                    k.face);
                in_line = (waits_too.0, here, refl);
                read = λ x e. let same : get_or s.words 1 0 ≡ x = cc in omega arith;
                records = k.records;
                give = k.give;
              })
              (λ j u other e. r.each j u e);
          slot = inr (ap (λ hs. set hs 0 none) home.1, (id, w, set_self s.views id v w at, refl));
        },
        λ t' count' is. let same : t ≡ t' = ap ticket_of (sym waits ∙ is) in
            let as_many : count ≡ count' = ap tickets_held (sym waits ∙ is) in (
              (λ _. (
                h,
                home.0,
                k.face.seen,
                (λ i. (
                  at_turn v (same i) (as_many i) (Some (get_or s.words 1 0)) h,
                  (0, Some home.0) ∷ me.1,
                )),
                λ p is_p. subst (λ (z : Opening M). IsAt past settings spare z h home.0 × AllSeats z h ×
                    (length h + count' ≤ spare z.machine)) (some_same p v.opening op is_p)
                    (home.2, r.callers, omega arith),
              )),
              (λ miss. absurd (miss (hit ∙ same))),
            ),
      ))
      (λ miss. let w : V = having_read v (get_or s.words 1 0) in (
        w,
        keeps,
        tt,
        record {
          history = h;
          line = r.line;
          words = words;
          order = r.order;
          fits = r.fits;
          room = r.room;
          small = r.small;
          callers = r.callers;
          given = given_set s r id v w at (same_numbers v w op op refl);
          each = each_set h r.line s.views id w
              (fits h r.line w op record {
                face = k.face;
                in_line = k.in_line;
                read = λ x e. let same : get_or s.words 1 0 ≡ x = cc in omega arith;
                records = k.records;
                give = k.give;
              })
              (λ j u other e. r.each j u e);
          slot = slot_stays h s (set s.words 1 (get_or s.words 1 0)) id v w at (ap has_turn waits)
              (ap has_turn waits) r.slot;
        },
        λ t' count' is. let same : t ≡ t' = ap ticket_of (sym waits ∙ is) in
            ((λ hit. absurd (miss (hit ∙ sym same))), (λ _. refl)),
      ))

  -- a seat without a ticket loads the serving word
  pub peeks : (slots id : ℕ) (me : Me (Option M) V) → me.0.opening ≡ Some o → me.0.stage ≡ Idle →
      length me.0.face.own + 1 ≤ get_or o.quotas me.0.face.number 0
      → Allows Rule slots id me 1 (λ n. n) (peeked (step slots 1 0 0 none) me)
  peeks slots id me op idle room s r _ at _ =
      let v : V = me.0 in let h : H = r.history in
      let k = its s r id 1 v op idle room at in
      let small : length r.line + 1 < 2 ^ 64 = small_more s r id 1 v op idle room at in
      let order = r.order in
      let found : get_or s.words 1 0 ≡ length h = ap (λ (ws : List ℕ). get_or ws 1 0) r.words in
      let w : V = having_read v (get_or s.words 1 0) in (
        w,
        keeps,
        tt,
        record {
          history = h;
          line = r.line;
          words = ap (λ (ws : List ℕ). set ws 1 (get_or ws 1 0)) r.words;
          order = r.order;
          fits = r.fits;
          room = r.room;
          small = r.small;
          callers = r.callers;
          given = given_set s r id v w at (same_numbers v w op op refl);
          each = each_set h r.line s.views id w
              (fits h r.line w op record {
                face = k.face;
                in_line = k.in_line;
                read = λ x e. let same : get_or s.words 1 0 ≡ x = cc in omega arith;
                records = k.records;
                give = k.give;
              })
              (λ j u other e. r.each j u e);
          slot = slot_stays h s (set s.words 1 (get_or s.words 1 0)) id v w at (ap has_turn idle)
              (ap has_turn idle) r.slot;
        },
        (refl, (let front = k.face.seen in omega (arith, length_prefix v.face.seen h front)), omega arith),
      )

  -- the exchange of the ticket word, which draws the ticket and takes the slot
  pub tries : (slots id : ℕ) (me : Me (Option M) V) (old new : ℕ) → me.0.opening ≡ Some o →
      me.0.stage ≡ Idle → length me.0.face.own + 1 ≤ get_or o.quotas me.0.face.number 0 →
      me.0.read ≡ Some old → new ≡ old + 1
      → Allows Rule slots id me 0 (λ n. either (eqb n old) new n)
      (tried past settings spare (step slots 0 old new none) me)
  tries slots id me old new op idle room had up s r _ at _ =
      let v : V = me.0 in let h : H = r.history in let n : ℕ = v.face.number in
      let k = its s r id 1 v op idle room at in
      let old_enough : old ≤ length h = k.read old had in
      let order = r.order in
      let found : get_or s.words 0 0 ≡ length r.line = ap (λ (ws : List ℕ). get_or ws 0 0) r.words in
      let most = length_fits r.line o.quotas r.fits in
      dite (ℕ_discrete (get_or s.words 0 0) old)
      (λ hit.
      let line : List ℕ = r.line ++ copies 1 n in
      let here : length h ≡ old = omega arith in
      let end : length r.line ≡ old = omega arith in
      let longer : length line ≡ length r.line + 1 = length-more s r id 1 v op idle room at in
      let most_more = length_fits line o.quotas (allowed s r id 1 v op idle room at) in
      let enough : length h + 1 ≤ spare o.machine = (let q = r.room in omega arith) in
      let home : Home past settings spare o h s = ⊎_elim (λ (t : Home past settings spare o h s). t)
      (λ (t : Out s). let u = t.1.1 in let k' = turn_sits h r.line u u.opening t.1.3 (r.each t.1.0 u t.1.2) in
      let far = at_bound r.line (length h) u.face.number
      (turn_first h r.line u.face u.stage t.1.3 k'.1.in_line) in absurd (omega arith)) r.slot in
      let w : V = at_turn v old 1 None h in
      let yes_hit : either (eqb (get_or s.words 0 0) old) new (get_or s.words 0 0) ≡ length line =
      subst (λ b. either b new (get_or s.words 0 0) ≡ length line)
      (sym (eq-eqb (get_or s.words 0 0) old hit)) (omega arith) in (
        w,
        takes 0 (Some home.0),
        ap (λ hs. get_elem? hs 0) home.1,
        record {
          history = h;
          line = line;
          words = (λ i. set (r.words i) 0 (yes_hit i));
          order = omega arith;
          fits = allowed s r id 1 v op idle room at;
          room = r.room;
          small = r.small;
          callers = r.callers;
          given = given_set s r id v w at (same_numbers v w op op refl);
          each = each_set h line s.views id w
              (fits h line w op record {
                face = face_seen h line 1 v.face (face_more s r id 1 v op idle room at);
                in_line = (
                  (omega arith, λ i l. at_added r.line 1 n (old + i) (omega arith) (omega arith)),
                  here,
                  refl,
                );
                read = λ x e. absurd (cc);
                records = records_more s r id 1 v op idle room at;
                give = give_more s r id 1 v op idle room at;
              })
              (others_more s r id 1 v op idle room at);
          slot = inr (ap (λ hs. set hs 0 none) home.1, (id, w, set_self s.views id v w at, refl));
        },
        (
          (λ _. (
            h,
            home.0,
            k.face.seen,
            refl,
            λ p is_p.
                subst (λ (z : Opening M). IsAt past settings spare z h home.0 × AllSeats z h ×
                (length h + 1 ≤ spare z.machine)) (some_same p v.opening op is_p) (home.2, r.callers, enough),
          )),
          (λ miss. absurd (miss hit)),
        ),
      ))
      (λ miss.
      let t : ℕ = get_or s.words 0 0 in
      let w : V = in_vain v old t in
      let stay : either (eqb (get_or s.words 0 0) old) new (get_or s.words 0 0) ≡ length r.line =
      subst (λ b. either b new (get_or s.words 0 0) ≡ length r.line)
      (sym (ne_eqb (get_or s.words 0 0) old miss)) found in
      let below : old < t = omega arith in (
        w,
        keeps,
        tt,
        record {
          history = h;
          line = r.line;
          words = (λ i. set (r.words i) 0 (stay i));
          order = r.order;
          fits = r.fits;
          room = r.room;
          small = r.small;
          callers = r.callers;
          given = given_set s r id v w at (same_numbers v w op op refl);
          each = each_set h r.line s.views id w
              (fits h r.line w op record {
                face = record {
                  inside = k.face.inside;
                  seen = k.face.seen;
                  own = k.face.own;
                  drawn = k.face.drawn;
                  looks = λ i p e. ⊎_elim (λ (x : get_elem? v.face.looks i ≡ some p). k.face.looks i p x)
                      (λ (x : (old, t) ≡ p). subst (λ (z : ℕ × ℕ). (z.0 < z.1) × (z.0 ≤ length h) ×
                      (z.1 ≤ length r.line)) x (below, old_enough, omega arith))
                      (at_snoc v.face.looks (old, t) p i e);
                };
                in_line = k.in_line;
                read = λ x e. absurd (cc);
                records = k.records;
                give = k.give;
              })
              (λ j u other e. r.each j u e);
          slot = slot_stays h s (set s.words 0 (either (eqb (get_or s.words 0 0) old) new
              (get_or s.words 0 0))) id v w at (ap has_turn idle) (ap has_turn idle) r.slot;
        },
        ((λ hit. absurd (miss hit)), (λ _. (refl, below))),
      ))

  pub serves : (slots id : ℕ) (me : Me (Option M) V) (t count : ℕ) (m : M) (notes : List N) →
      me.0.opening ≡ Some o → me.0.stage ≡ Served t count → me.1 ≡ (0, Some m) ∷ [] → length notes ≡ count
      → past m ≡ (past o.machine ++ me.0.face.seen) ++ entries_by me.0.face.number notes →
      settings m ≡ settings o.machine → spare m + (length me.0.face.seen + count) ≡ spare o.machine
      → Allows Rule slots id me 1 (λ n. (n + count) % 2 ^ 64)
      (served past settings spare (step slots 1 count 0 none) me)
  serves slots id me t count m notes op turn has as_many after same left s r _ at _ =
      let v : V = me.0 in let h : H = r.history in let n : ℕ = v.face.number in
      let es : H = entries_by n notes in let now : H = h ++ es in
      let w : V = after_turn v n notes in
      let k = sits h r.line v op (r.each id v at) in
      let drawn : times n r.line ≡ length v.face.own + tickets_held v.stage = k.face.drawn in
      let held : tickets_held v.stage ≡ count = ap tickets_held turn in
      let first = subst (InLine o h r.line v.face) turn k.in_line in
      let whole : v.face.seen ≡ h = first.2 in
      let here : length h ≡ t = first.1 in
      let any : 0 < count = first.0.0 in
      let front : get_elem? r.line (length h) ≡ some n = ap (get_elem? r.line) here
      ∙ first_drawn h r.line v.face t count first.0 in
      let inside : t + (count - 1) < length r.line =
      at_bound r.line (t + (count - 1)) n (first.0.1 (count - 1) (omega arith)) in
      let longer : length now ≡ length h + count =
      omega (arith, length-append h es, length-entries n notes) in
      let small : length r.line < 2 ^ 64 = omega (arith, length_fits r.line o.quotas r.fits, r.room, r.small)
      in
      let number : (length h + count) % 2 ^ 64 ≡ length now = omega arith in
      let found : get_or s.words 1 0 ≡ length h = ap (λ (ws : List ℕ). get_or ws 1 0) r.words in
      let away : s.homes ≡ none ∷ [] = ⊎_elim (λ (x : Home past settings spare o h s).
      absurd (off (sym (x.3 id v at) ∙ ap has_turn turn))) (λ (x : Out s). x.0) r.slot in
      let none_else : (j : ℕ) (u : V) → j ≢ id → get_elem? s.views j ≡ some u →
      has_turn u.stage ≡ false = λ j u other d.
      no_turn u.stage (λ yes. other (only_turn s r id v op at front j u d yes)) in
      let own_last : (v.face.own ++ numbers_from (length v.face.seen) notes) ≡ places n 0 now =
      (λ i. k.face.own i ++ numbers_from (length (whole i)) notes) ∙
      (ap (λ (z : ℕ). places n 0 h ++ numbers_from z notes) (omega arith)
      ∙ sym (places_add_same n 0 h notes)) in
      -- the tickets before the next one to be served are all of this seat
      let mine : (i : ℕ) → length h ≤ i → i < length h + count → get_elem? r.line i ≡ some n =
      λ i from below. let same : t + (i - t) ≡ i = omega arith in
      subst (λ (z : ℕ). get_elem? r.line z ≡ some n) same (first.0.1 (i - t) (omega arith)) in (
        w,
        gives,
        tt,
        record {
          history = now;
          line = r.line;
          words = ap (λ (ws : List ℕ). set ws 1 ((get_or ws 1 0 + count) % 2 ^ 64)) r.words
              ∙ ap (λ (z : ℕ). length r.line ∷ z ∷ []) number;
          order = omega arith;
          fits = r.fits;
          room = r.room;
          small = r.small;
          callers = λ i x d. ⊎_elim (λ (y : get_elem? h i ≡ some x). r.callers i x y)
              (λ (y : (j : ℕ) × (get_elem? es j ≡ some x)). subst (λ (z : ℕ). z < length o.quotas)
              (caller_at n notes y.0 x y.1) k.face.inside) (at_append h es i x d);
          given = given_set s r id v w at (same_numbers v w op op refl);
          each = each_set now r.line s.views id w
              (fits now r.line w op record {
                face = record {
                  inside = k.face.inside;
                  seen = ([], append-nil (v.face.seen ++ es) ∙ ap (λ (z : H). z ++ es) whole);
                  own = own_last;
                  drawn = omega (
                    arith,
                    length-append v.face.own (numbers_from (length v.face.seen) notes),
                    length-count_from (length v.face.seen) notes,
                  );
                  looks = λ i p d. let l = k.face.looks i p d in (l.0, (let x = l.1 in omega arith), l.2);
                };
                in_line = tt;
                read = λ x d. absurd (cc);
                records = λ i g d. face_stays h now r.line r.line 0 g (λ xs p. prefix_push xs h es p)
                    (omega arith) (omega arith) refl
                    (places_add_other g.number n 0 h notes (λ is. not_mine s r id v op at i g d is))
                    (k.records i g d);
                give = λ i x d. let y = k.give i x d in (
                  y.0,
                  places_add_other x n 0 h notes (λ is. not_to_give s r id v op at i x d is) ∙ y.1,
                  y.2,
                );
              })
              (λ j u other d.
              let not_n : u.opening ≡ Some o → (x : ℕ) → 0 < times x (numbers u) →
              x ≢ n = λ _ x has_x is. other (apart s r id j v u n at d (own_number v op)
              (subst (λ (z : ℕ). 0 < times z (numbers u)) is has_x)) in
              stays h now r.line r.line u u.opening refl (λ xs p. prefix_push xs h es p) (omega arith)
              (omega arith) (λ i x y. y)
              (λ is i y l. dite (dec_le (suc i) (length h + count))
              (λ below. absurd (not_n is u.face.number (own_number u is)
              (some-injective _ _ (sym y ∙ mine i l below))))
              (λ above. omega arith))
              (λ yes. absurd (off (sym (none_else j u other d) ∙ yes)))
              (λ x has_x. (
                refl,
                places_add_other x n 0 h notes (λ is.
                    other (apart s r id j v u n at d (own_number v op)
                    (subst (λ (z : ℕ). 0 < times z (numbers u)) (sym is) has_x))),
              ))
              (r.each j u d));
          slot = inl (
            m,
            (λ i. put_back (away i) (has i)),
            record {
              after = after ∙ (append_assoc (past o.machine) v.face.seen es
                  ∙ ap (λ (z : H). past o.machine ++ (z ++ es)) whole);
              same = same;
              left =
                  (let l : length v.face.seen ≡ length h = ap length whole in omega arith);
            },
            quiet_set s.views id w refl none_else,
          );
        },
        (
          turn ∙ ap (λ (z : ℕ). Served z count) (sym here ∙ sym found),
          λ p is_p. subst (λ (z : Opening M). GivesBack past settings spare z me (w, rest me.1))
              (some_same p v.opening op is_p)
              (m, notes, has, after, ap (λ c. (w, rest c)) has),
        ),
      )
    where
      no_turn : (st : Stage) → (has_turn st ≡ true → ⊥) → has_turn st ≡ false
      no_turn Idle not = refl
      no_turn (Waits t count) not = refl
      no_turn (Served t count) not = absurd (not refl)

  -- a new seat's number is the first that may be given away
  pub splits : (id : ℕ) (v : V) (g : ℕ) (gs : List ℕ) → v.opening ≡ Some o → v.stage ≡ Idle →
      v.give ≡ g ∷ gs → Splits Rule id v (deal_left v) (deal_right v)
  splits id v g gs op idle has s r at =
      let h : H = r.history in let left : V = deal_left v in let right : V = deal_right v in
      let k = sits h r.line v op (r.each id v at) in
      let head : get_or v.give 0 0 ≡ g = ap (λ (z : List ℕ). get_or z 0 0) has in
      let new = k.give 0 g (ap (λ (z : List ℕ). get_elem? z 0) has) in
      let quiet : has_turn v.stage ≡ false = ap has_turn idle in
      let middle : Home past settings spare o h record {
        words = s.words;
        homes = s.homes;
        views =
            set s.views id left;
      } ⊎ Out record { words = s.words; homes = s.homes; views = set s.views id left }
      = slot_stays h s s.words id v left at quiet quiet r.slot in
      record {
        history = h;
        line = r.line;
        words = r.words;
        order = r.order;
        fits = r.fits;
        room = r.room;
        small = r.small;
        callers = r.callers;
        given = λ n.
            let a : times n (numbers v) ≡ times n (numbers_if (Some o) v) =
            ap (λ z. times n (numbers_if z v)) op in
            let b : times n (numbers left) ≡ times n (numbers_if (Some o) left) =
            ap (λ z. times n (numbers_if z left)) op in
            let c : times n (numbers right) ≡ times n (numbers_if (Some o) right) =
            ap (λ z. times n (numbers_if z right)) op in
            let d : times n v.give ≡ one_if (eqb g n) + times n gs = ap (times n) has in
            let e : times n left.give ≡ times n gs = ap (λ (z : List ℕ). times n (tail z)) has in
            let f : one_if (eqb (get_or v.give 0 0) n) ≡ one_if (eqb g n) =
            ap (λ (z : ℕ). one_if (eqb z n)) head in
            omega (
              arith,
              total_push (λ (z : V). times n (numbers z)) (set s.views id left) right,
              total_set (λ (z : V). times n (numbers z)) s.views id v left at,
              r.given n,
              times-append n (map face_number v.records) v.give,
              times-append n (map face_number v.records) left.give,
            );
        each = λ j u e. ⊎_elim
            (λ (d : get_elem? (set s.views id left) j ≡ some u). each_set h r.line s.views id left
            (fits h r.line left op record {
              face = k.face;
              in_line = k.in_line;
              read = k.read;
              records = k.records;
              give = λ i x y. k.give (suc i) x (ap (λ (z : List ℕ). get_elem? z (suc i)) has
                  ∙ (ap (λ (z : List ℕ). get_elem? (tail z) i) (sym has) ∙ y));
            })
            (λ i x other y. r.each i x y) j u d)
            (λ (d : right ≡ u). subst (Fits o h r.line) d (fits h r.line right op record {
              face = record {
                inside = subst (λ (z : ℕ). z < length o.quotas) (sym head) new.0;
                seen = (h, refl);
                own = sym (ap (λ (z : ℕ). places z 0 h) head ∙ new.1);
                drawn = ap (λ (z : ℕ). times z r.line) head ∙ new.2;
                looks = λ i p y. absurd (some-ne-none p (sym y));
              };
              in_line = tt;
              read = λ x y. absurd (cc);
              records = λ i f y. absurd (some-ne-none f (sym y));
              give = λ i x y. absurd (some-ne-none x (sym y));
            }))
            (at_snoc (set s.views id left) right u j e);
        slot = ⊎_elim
            (λ (t : Home past settings spare o h record {
              words = s.words;
              homes = s.homes;
              views =
                  set s.views id left;
            }). inl (
              t.0,
              t.1,
              t.2,
              λ j u e. ⊎_elim (λ (d : get_elem? (set s.views id left) j ≡ some u). t.3 j u d)
                  (λ (d : right ≡ u). ap (λ (z : V). has_turn z.stage) (sym d))
                  (at_snoc (set s.views id left) right u j e),
            ))
            (λ (t : Out record { words = s.words; homes = s.homes; views = set s.views id left }).
            inr (
              t.0,
              (
                t.1.0,
                t.1.1,
                at_longer (set s.views id left) (right ∷ []) t.1.0 t.1.1 t.1.2,
                t.1.3,
              ),
            ))
            middle;
      }

  -- one seat takes in another, as a record
  pub joins : (id : ℕ) (v : V) (other : ℕ) (w : V) → v.opening ≡ Some o → v.stage ≡ Idle →
      w.opening ≡ Some o → w.stage ≡ Idle → Joins Rule id v other w (joined v w) spent
  joins id v other w op idle op' idle' s r at differ there =
      let h : H = r.history in let both : V = joined v w in
      let k = sits h r.line v op (r.each id v at) in
      let there' : get_elem? s.views other ≡ some w =
      ⊎_elim (λ (x : (other ≡ id) × (both ≡ w)). absurd (differ x.0))
      (λ (x : (other ≢ id) × (get_elem? s.views other ≡ some w)). x.1)
      (at_set s.views id other both w there) in
      let k' = sits h r.line w op' (r.each other w there') in
      let none_held : tickets_held w.stage ≡ 0 = ap tickets_held idle' in
      let quiet : has_turn v.stage ≡ false = ap has_turn idle in
      let s1 : St = record { words = s.words; homes = s.homes; views = set s.views id both } in
      record {
        history = h;
        line = r.line;
        words = r.words;
        order = r.order;
        fits = r.fits;
        room = r.room;
        small = r.small;
        callers = r.callers;
        given = λ n.
            let a : times n (numbers v) ≡ times n (numbers_if (Some o) v) =
            ap (λ z. times n (numbers_if z v)) op in
            let b : times n (numbers both) ≡ times n (numbers_if (Some o) both) =
            ap (λ z. times n (numbers_if z both)) op in
            let c : times n (numbers w) ≡ times n (numbers_if (Some o) w) =
            ap (λ z. times n (numbers_if z w)) op' in
            let d : times n (map face_number both.records)
            ≡ times n (map face_number v.records) + (one_if (eqb w.face.number n) + times n
            (map face_number w.records)) =
            ap (times n) (map-append face_number v.records (w.face ∷ w.records))
            ∙ times-append n (map face_number v.records) (w.face.number ∷ map face_number w.records) in
            omega (
              arith,
              total_set (λ (z : V). times n (numbers z)) s.views id v both at,
              total_set (λ (z : V). times n (numbers z)) (set s.views id both) other w spent there,
              r.given n,
              times-append n (map face_number v.records) v.give,
              times-append n (map face_number w.records) w.give,
              times-append n (map face_number both.records) both.give,
              times-append n v.give w.give,
            );
        each = each_set h r.line (set s.views id both) other spent refl
            (λ j u _ e. each_set h r.line s.views id both
            (fits h r.line both op record {
              face = k.face;
              in_line = k.in_line;
              read = k.read;
              records = λ i f y. ⊎_elim (λ (x : get_elem? v.records i ≡ some f). k.records i f x)
                  (λ (x : (j : ℕ) × (get_elem? (w.face ∷ w.records) j ≡ some f)).
                  record_of h r.line w k' none_held x.0 f x.1)
                  (at_append v.records (w.face ∷ w.records) i f y);
              give = λ i n y. ⊎_elim (λ (x : get_elem? v.give i ≡ some n). k.give i n x)
                  (λ (x : (j : ℕ) × (get_elem? w.give j ≡ some n)). k'.give x.0 n x.1)
                  (at_append v.give w.give i n y);
            })
            (λ i x _ y. r.each i x y) j u e);
        slot = slot_stays h s1 s.words other w spent there (ap has_turn idle') refl
            (slot_stays h s s.words id v both at quiet quiet r.slot);
      }
    where
      record_of : (h : H) (line : List ℕ) (w : V) → Sits o h line w → tickets_held w.stage ≡ 0 →
          (j : ℕ) (f : Face N) → get_elem? (w.face ∷ w.records) j ≡ some f → FaceFits o h line 0 f
      record_of h line w k none_held zero f e = subst (FaceFits o h line 0) (some-injective w.face f e)
          (subst (λ (z : ℕ). FaceFits o h line z w.face) none_held k.face)
      record_of h line w k none_held (suc j) f e = k.records j f e

  pub turn_of : (m m' : Me (Option M) V) (v : V) (read found : Option ℕ) (t count : ℕ) →
      m ≡ (with_read v read, []) → v.opening ≡ Some o → TurnComes past settings spare m t count found m' →
      HasTurn past settings spare o t count v m'
  turn_of m m' v read found t count is op comes = let k =
      subst (λ (z : Me (Option M) V). TurnComes past settings spare z t count found m') is comes in
      (k.0, k.1, found, k.2, k.3, (k.4 o op).0, (k.4 o op).1, (k.4 o op).2)

  abbrev value_or : M → Option M → M
  value_or d (Some y) = y
  value_or d None = d

  abbrev held_or : M → List (ℕ × Option M) → M
  held_or d [] = d
  held_or d (x ∷ xs) = value_or d x.1

  -- HasTurn implies AtTurn
  pub takes_turn : (t count : ℕ) (v : V) (m : Me (Option M) V) → HasTurn past settings spare o t count v m →
      AtTurn past settings spare o count m
  takes_turn t count v m k = subst (AtTurn past settings spare o count) (sym k.4)
      (t, refl, (k.1, refl, k.5), k.7)

  -- the same seat after x was written to the slot
  abbrev leaving : Me (Option M) V → M → Me (Option M) V
  leaving p x = (p.0, (0, Some x) ∷ rest p.1)

  -- a seat that has its turn borrowed the slot with x in it, and left x' there
  pub lent : (count : ℕ) (p : Me (Option M) V) (r : Option M) (x x' : M) → p.1 ≡ (0, r) ∷ rest p.1 →
      AtTurn past settings spare o count p → r ≡ Some x
      → (leaving p x' ≡ (p.0, (0, Some x') ∷ [])) × IsAt past settings spare o p.0.face.seen x ×
      (count ≤ spare x)
  lent count p r x x' holds turn is =
      let y = turn.2.0 in let has = turn.2.1 in
      let same : y ≡ x = ap (held_or x) (sym has ∙ holds) ∙ ap (value_or x) is in
      let was : IsAt past settings spare o p.0.face.seen x =
      subst (IsAt past settings spare o p.0.face.seen) same turn.2.2 in
      let left = was.left in let less = turn.3 in (
        ap (λ l. (p.0, (0, Some x') ∷ l)) (ap rest has),
        was,
        omega arith,
      )

  pub serves_at : (slots id : ℕ) (me : Me (Option M) V) (v : V) (t count : ℕ) (x x' : M) (number : ℕ)
      (notes : List N) → me ≡ (v, (0, Some x') ∷ []) → v.opening ≡ Some o → v.stage ≡ Served t count →
      length notes ≡ count → number ≡ v.face.number
      → IsAt past settings spare o v.face.seen x → past x' ≡ past x ++ entries_by number notes →
      settings x' ≡ settings x → spare x' + count ≡ spare x
      → Allows Rule slots id me 1 (λ n. (n + count) % 2 ^ 64)
      (served past settings spare (step slots 1 count 0 none) me)
  serves_at slots id me v t count x x' number notes is op turn as_many mine was more same less =
      subst (λ (z : Me (Option M) V). Allows Rule slots id z 1 (λ n. (n + count) % 2 ^ 64)
      (served past settings spare (step slots 1 count 0 none) z)) (sym is)
      (let left = was.left in serves slots id (v, (0, Some x') ∷ []) t count x' notes op turn refl as_many
      (more ∙ (ap (λ (l : H). l ++ entries_by number notes) was.after
      ∙ ap (λ (z : ℕ). (past o.machine ++ v.face.seen) ++ entries_by z notes) mine))
      (same ∙ was.same) (omega arith))

  pub gave : (p2 p3 : Me (Option M) V) (v : V) (x x' : M) (number : ℕ) (notes : List N) →
      p2 ≡ (v, (0, Some x') ∷ []) → v.opening ≡ Some o → number ≡ v.face.number →
      IsAt past settings spare o v.face.seen x → past x' ≡ past x ++ entries_by number notes
      → ((z : Opening M) → p2.0.opening ≡ Some z → GivesBack past settings spare z p2 p3) →
      p3 ≡ (after_turn v number notes, [])
  gave p2 p3 v x x' number notes is op mine was more back =
      let k = subst (λ (z : Me (Option M) V). GivesBack past settings spare o z p3) is
      (back o (ap (λ (z : Me (Option M) V). z.0.opening) is ∙ op)) in
      let n : ℕ = v.face.number in
      let y = k.0 in let has = k.2 in
      let same : y ≡ x' = sym (ap (held_or x') has) in
      let those : k.1 ≡ notes = entries_injective n k.1 notes
      (append_injective (past o.machine ++ v.face.seen) (entries_by n k.1) (entries_by n notes)
      (sym k.3 ∙ (ap past same ∙ (more ∙ (ap (λ (l : H). l ++ entries_by number notes) was.after
      ∙ ap (λ (z : ℕ). (past o.machine ++ v.face.seen) ++ entries_by z notes) mine))))) in
      k.4 ∙ (ap (λ z. (after_turn v n z, [])) those ∙ ap (λ z. (after_turn v z notes, [])) (sym mine))

  -- a reply that is right for the machine is right after the opening history and the entries
  pub right_there : {C A : Type 0} (right : T → List (ℕ × N) → ℕ → C → A → Type 0) (h : H) (x : M)
      (number : ℕ) (call : C) (reply : A) → IsAt past settings spare o h x
      → right (settings x) (past x) number call reply →
      right (settings o.machine) (past o.machine ++ h) number call reply
  right_there right h x number call reply was r =
      subst (λ z. right z (past o.machine ++ h) number call reply) was.same
      (subst (λ (z : H). right (settings x) z number call reply) was.after r)

  pub tries_at : (slots id : ℕ) (m : Me (Option M) V) (v : V) (c : List (ℕ × Option M)) (old new : ℕ) →
      m ≡ (having_read v old, c) → v.opening ≡ Some o → v.stage ≡ Idle →
      length v.face.own + 1 ≤ get_or o.quotas v.face.number 0 → new ≡ old + 1
      → Allows Rule slots id m 0 (λ n. either (eqb n old) new n)
      (tried past settings spare (step slots 0 old new none) m)
  tries_at slots id m v c old new is op idle room up =
      subst (λ (z : Me (Option M) V). Allows Rule slots id z 0 (λ n. either (eqb n old) new n)
      (tried past settings spare (step slots 0 old new none) z)) (sym is)
      (tries slots id (having_read v old, c) old new op idle room refl up)

  -- both outcomes of a try
  pub tried_of : (m0 m1 m2 : Me (Option M) V) (s t : ℕ) → m0.1 ≡ [] → m1 ≡ (having_read m0.0 s, m0.1) →
      m0.0.opening ≡ Some o → (t ≡ s → TurnComes past settings spare m1 s 1 None m2) → t ≡ s →
      HasTurn past settings spare o s 1 m0.0 m2
  tried_of m0 m1 m2 s t none_held is op comes hit =
      let k = subst (λ (z : Me (Option M) V). TurnComes past settings spare z s 1 None m2)
      (is ∙ ap (λ l. (having_read m0.0 s, l)) none_held) (comes hit) in
      (k.0, k.1, None, k.2, k.3, (k.4 o op).0, (k.4 o op).1, (k.4 o op).2)

  face_of : (h : H) (line : List ℕ) (v : V) → Sits o h line v → v.stage ≡ Idle → (i : ℕ) (f : Face N) →
      get_elem? (faces_of v) i ≡ some f → FaceFits o h line 0 f
  face_of h line v k idle zero f e = subst (FaceFits o h line 0) (some-injective v.face f e)
      (subst (λ (z : ℕ). FaceFits o h line z v.face) (ap tickets_held idle) k.face)
  face_of h line v k idle (suc i) f e = k.records i f e

  face_numbers : (v : V) → v.opening ≡ Some o → (i : ℕ) (f : Face N) → get_elem? (faces_of v) i ≡ some f →
      0 < times f.number (numbers v)
  face_numbers v op zero f e = subst (λ (z : Face N). 0 < times z.number (numbers v))
      (some-injective v.face f e) (own_number v op)
  face_numbers v op (suc i) f e = record_number v op i f e

  pub closes : (id : ℕ) (v : V) (ws : List ℕ) (xs : List (Option M)) → v.opening ≡ Some o → v.stage ≡ Idle
      → ((n : ℕ) → n < length o.quotas → (i : ℕ) × (f : Face N) × (get_elem? (faces_of v) i ≡ some f) ×
      (f.number ≡ n))
      → Final (Seen Rule id v) ws xs → (m : M) × (get_elem? xs 0 ≡ some (Some m)) ×
      GateEnds past settings o (faces_of v) m
  closes id v ws xs op idle all end =
      let s = end.0 in let r : Rule s = end.1.0 in let at : get_elem? s.views id ≡ some v = end.1.1 in
      let h : H = r.history in
      let k = sits h r.line v op (r.each id v at) in
      let has : (n : ℕ) → n < length o.quotas → 0 < times n (numbers v) = λ n l. let a = all n l in
      subst (λ (z : ℕ). 0 < times z (numbers v)) a.3 (face_numbers v op a.0 a.1 a.2) in
      let home : Home past settings spare o h s = ⊎_elim (λ (t : Home past settings spare o h s). t)
      (λ (t : Out s). let j = t.1.0 in let u = t.1.1 in
      let k' = turn_sits h r.line u u.opening t.1.3 (r.each j u t.1.2) in
      let here = apart s r id j v u u.face.number at t.1.2 (has u.face.number k'.1.face.inside)
      (own_number u k'.0) in
      absurd (off (sym (ap has_turn idle) ∙ (ap (λ (z : V). has_turn z.stage)
      (some-injective v u (sym at ∙ (ap (get_elem? s.views) (sym here) ∙ t.1.2))) ∙ t.1.3)))) r.slot in
      let served_all : length r.line ≤ length h = subst (λ (z : ℕ). length r.line ≤ z)
      (length-map h (λ (e : ℕ × N). e.0)) (length_by_times r.line (callers_of h)
      (λ n. dite (dec_le (suc n) (length o.quotas))
      (λ below. let a = all n below in let f = a.1 in
      let fits_there = face_of h r.line v k idle a.0 f a.2 in
      let drawn : times f.number r.line ≡ length f.own + 0 = fits_there.drawn in
      let own : length f.own ≡ length (places f.number 0 h) = ap length fits_there.own in
      subst (λ (z : ℕ). times z r.line ≤ times z (callers_of h)) a.3
      (omega (arith, length-places f.number 0 h)))
      (λ past_it. let none : get_or o.quotas n 0 ≡ 0 = get_or_past o.quotas n 0 (omega arith) in
      omega (arith, r.fits n)))) in (
        home.0,
        end.4 0 (Some home.0) (ap (λ hs. get_elem? hs 0) home.1),
        (
          h,
          home.2.after,
          home.2.same,
          r.callers,
          λ i f e.
              let fits_there = face_of h r.line v k idle i f e in (
                fits_there.seen,
                fits_there.own,
                λ n p d. let l = (fits_there.looks n p d).2 in
                    omega arith,
              ),
        ),
      )

  -- the same for the value that was taken out of the slot
  pub ends_with : (faces : List (Face N)) (xs : List (Option M)) (x : Option M) (y : M) →
      get_elem? xs 0 ≡ some x → x ≡ Some y → (m : M) × (get_elem? xs 0 ≡ some (Some m)) ×
      GateEnds past settings o faces m → GateEnds past settings o faces y
  ends_with faces xs x y at is e = let same : e.0 ≡ y =
      ap (value_or y) (some-injective _ _ (sym e.1 ∙ at)) ∙ ap (value_or y) is in
      subst (GateEnds past settings o faces) same e.2

  pub not_gone : (xs : List (Option M)) (x : Option M) (m : M) → get_elem? xs 0 ≡ some x → x ≡ None →
      get_elem? xs 0 ≡ some (Some m) → ⊥
  not_gone xs x m at is there = let same : Some m ≡ None = some-injective _ _ (sym there ∙ at) ∙ is in
      absurd (cc)

  pub split_deal : (id i n : ℕ) (v : V) (xs : List ℕ) → v ≡ new_view o n (drop i (numbers_from 0 xs)) →
      i < length xs → Splits Rule id v (deal_left v) (deal_right v)
  split_deal id i n v xs is l = splits id v (0 + i) (drop (i + 1) (numbers_from 0 xs))
      (ap (λ (z : V). z.opening) is) (ap (λ (z : V). z.stage) is)
      (ap (λ (z : V). z.give) is ∙ count_drop i 0 xs l)

  pub starts : (m : M) (xs : List (Option M)) → xs ≡ Some m ∷ [] → past m ≡ past o.machine →
      settings m ≡ settings o.machine → spare m ≡ spare o.machine → 0 < length o.quotas →
      sum o.quotas ≤ spare o.machine → spare o.machine < 2 ^ 64
      → Rule (opening (0 ∷ 0 ∷ []) xs (first_view o))
  starts m xs is was same left any enough small = record {
    history = [];
    line = [];
    words = refl;
    order = omega arith;
    fits = λ n. omega arith;
    room = enough;
    small = small;
    callers = λ k e d. absurd (some-ne-none e (sym d));
    given = λ n. omega (arith, all_numbers n o.quotas any);
    each = first_fits;
    slot = inl (
      m,
      ap (map some) is,
      record {
        after = was ∙ sym (append-nil (past o.machine));
        same = same;
        left = omega arith;
      },
      first_quiet,
    );
  }
    where
      smaller : (q : List ℕ) → 0 < length q → suc (length (tail q)) ≡ length q
      smaller [] l = absurd (omega arith)
      smaller (x ∷ q) l = refl

      first_sits : Sits {N = N} o [] [] (first_view o)
      first_sits = record {
        face = record {
          inside = omega (arith, smaller o.quotas any);
          seen = ([], refl);
          own = refl;
          drawn =
              refl;
          looks = λ k p d. absurd (some-ne-none p (sym d));
        };
        in_line = tt;
        read = λ x d. absurd (cc);
        records = λ i f d. absurd (some-ne-none f (sym d));
        give = λ i n d. (omega (arith, count_at 0 (tail o.quotas) i n d, smaller o.quotas any), refl, refl);
      }

      first_fits : (j : ℕ) (v : V) → get_elem? (first_view o ∷ []) j ≡ some v → Fits {N = N} o [] [] v
      first_fits zero v d = subst (Fits o [] []) (some-injective (first_view o) v d) (refl, first_sits)
      first_fits (suc j) v d = absurd (some-ne-none v (sym d))

      first_quiet : (j : ℕ) (v : V) → get_elem? (first_view o ∷ []) j ≡ some v → has_turn v.stage ≡ false
      first_quiet zero v d = ap (λ (z : V). has_turn z.stage) (sym (some-injective (first_view o) v d))
      first_quiet (suc j) v d = absurd (some-ne-none v (sym d))
