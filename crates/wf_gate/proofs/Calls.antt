-- Derives the clauses about seats, as contracts see them, from the steps of a turn, the split and the join.
use Rattle.std.proofs.Common.{◌≡◌, ℕ, ◌+◌, ◌<◌, ◌≤◌, List, [], ◌++◌, length, length-append, map, get_or, drop, Option, Some, None, refl, sym, ap, ◌∙◌, subst, ⊎_elim, arith}
use Rattle.std.specs.Prelude.{All, EachIndex, slice_get}
use mathlib.Core.Option.{some}
use mathlib.Core.List.{IsPrefix}
use lib.ListN.{get_elem?}
use Rattle.std.proofs.lemmas.List.{drop_at}
use Rattle.atomic_table.specs.Table.{Me, Final, Seen}
use Rattle.atomic_table.specs.Seated.{TableId}
use Rattle.atomic_table.specs.declared.shared.Seat.{Seat}
use Rattle.wf_gate.specs.declared.view.Face.{Face}
use Rattle.wf_gate.specs.declared.view.Opening.{Opening}
use Rattle.wf_gate.specs.declared.view.View.{View}
use Rattle.wf_gate.specs.declared.view.Stage.TheVariants.{Idle}
use Rattle.wf_gate.specs.Turns.{AllSeats, Kept, at_turn, waiting, after_turn, entries_by, numbers_from, new_view, faces_of}
use Rattle.wf_gate.specs.Passes.{HasTurn, IsInGate, GateEnds}
use Rattle.wf_gate.specs.Seats.{AreRight, HasMadeAll, GateView, SeatView, view_of, IsAtGate, face_of, new_seat, AreAll, AreOfSeats, IsRecorded, made_since, places_of}
use Rattle.wf_gate.proofs.Counts.{at_append, caller_at, count_map, length-count_from, prefix_push, inside}
use Rattle.wf_gate.proofs.Steps.{closes, ends_with, not_gone}
use Rattle.wf_gate.proofs.Elements.{at_here, all_of, get_at}

module _ {M N T : Type 0} (past : M → List (ℕ × N)) (settings : M → T) (spare : M → ℕ) (o : Opening M) where
  -- after a turn the seat has seen more than before
  pub sees_more : (ticket count : ℕ) (v : View M N) (m m' : Me (Option M) (View M N)) (n : ℕ)
      (notes : List N) →
      HasTurn past settings spare o ticket count v m → m' ≡ (after_turn m.0 n notes, []) →
      IsPrefix v.face.seen m'.0.face.seen
  sees_more ticket count v m m' n notes turn after =
      subst (λ (z : Me (Option M) (View M N)). IsPrefix v.face.seen z.0.face.seen)
      (sym (after ∙ ap (λ (z : Me (Option M) (View M N)). (after_turn z.0 n notes, [])) turn.4))
      (prefix_push v.face.seen turn.0 (entries_by n notes) turn.3)

  -- every caller in the entries that the seat has seen is a seat
  pub sees_seats : (ticket count : ℕ) (v : View M N) (m m' : Me (Option M) (View M N)) (n : ℕ)
      (notes : List N) → HasTurn past settings spare o ticket count v m → m' ≡ (after_turn m.0 n notes, []) →
      n < length o.quotas → All (λ (x : ℕ × N). x.0 < length o.quotas) m'.0.face.seen
  sees_seats ticket count v m m' n notes turn after mine =
      let own : List (ℕ × N) = entries_by n notes in
      subst (λ (z : Me (Option M) (View M N)). All (λ (x : ℕ × N). x.0 < length o.quotas) z.0.face.seen)
      (sym (after ∙ ap (λ (z : Me (Option M) (View M N)). (after_turn z.0 n notes, [])) turn.4))
      (all_of (λ (x : ℕ × N). x.0 < length o.quotas) (turn.0 ++ own)
      (λ k x d. ⊎_elim (λ (t : get_elem? turn.0 k ≡ some x). turn.6 k x t)
      (λ (t : (i : ℕ) × (get_elem? own i ≡ some x)). subst (λ (z : ℕ). z < length o.quotas)
      (caller_at n notes t.0 x t.1) mine) (at_append turn.0 own k x d)))

  -- a seat after a burst: p when it drew its tickets, w when its turn came, and q when the machine was back
  module _ (number quota used added ticket count : ℕ) (p w q : Seat (Option M) (View M N)) (v : View M N)
      (notes : List N) (drew : v ≡ waiting p.me.0 ticket added)
      (turn : HasTurn past settings spare o ticket count v w.me)
      (after : q.me ≡ (after_turn w.me.0 number notes, [])) where
    ends : q.me
        ≡ (after_turn (at_turn (waiting p.me.0 ticket added) ticket count turn.2 turn.0) number notes, [])
    ends = after ∙ (ap (λ (z : Me (Option M) (View M N)). (after_turn z.0 number notes, [])) turn.4
        ∙ ap (λ (z : View M N). (after_turn (at_turn z ticket count turn.2 turn.0) number notes, [])) drew)

    -- it is at rest, with these calls counted
    pub rests : IsAtGate number quota used p → length notes ≡ added → used + added ≤ quota →
        IsAtGate number quota (used + added) q
    rests at as_many enough = record {
      numbered = at.numbered ∙ sym (ap (λ m. m.0.face.number) ends);
      counted = omega (
        arith,
        at.counted,
        ap (λ m. length m.0.face.own) ends,
        length-append p.me.0.face.own (numbers_from (length turn.0) notes),
        length-count_from (length turn.0) notes,
        as_many,
      );
      within = enough;
      allotted = λ z is. at.allotted z (sym (ap (λ m. m.0.opening) ends) ∙ is);
      idle = ap (λ m. m.0.stage) ends;
      unread = ap (λ m. m.0.read) ends;
      free = ap (λ m. m.1) ends;
    }

    -- it has made these calls
    pub made_by : {C A : Type 0} (note : C → N) (right : T → List (ℕ × N) → ℕ → C → A → Type 0)
        (table : TableId) (calls : List C) (replies : List A) → notes ≡ map note calls
        → AreRight note right (settings o.machine) (past o.machine ++ w.me.0.face.seen) number calls replies →
        HasMadeAll past settings note right (record { table = table; opening = o })
        (view_of number quota used p) (view_of number quota (used + added) q) calls replies
    made_by note right table calls replies same rights = record {
      before = turn.0;
      grown = subst (λ (z : View M N). IsPrefix z.face.seen turn.0) drew turn.3;
      entries = ap (λ m. m.0.face.seen) ends ∙ ap (λ l. turn.0 ++ entries_by number l) same;
      own = ap (λ m. m.0.face.own) ends
          ∙ (ap (λ l. p.me.0.face.own ++ numbers_from (length turn.0) l) same
          ∙ ap (λ l. p.me.0.face.own ++ l) (count_map note (length turn.0) calls));
      each = subst (λ (h : List (ℕ × N)). AreRight note right (settings o.machine) (past o.machine ++ h)
          number calls replies) (ap (λ m. m.0.face.seen) turn.4) rights;
    }

  -- the machine's history is the opening history followed by the entries made since
  pub ends_since : (table : TableId) (faces : List (Face N)) (m : M) → GateEnds past settings o faces m →
      let h = made_since past (record { table = table; opening = o }) m in
      (past m ≡ past o.machine ++ h) × (settings m ≡ settings o.machine) × AllSeats o h ×
      ((i : ℕ) (f : Face N) → get_elem? faces i ≡ some f → IsInGate h f)
  ends_since table faces m e =
      let same : drop (length (past o.machine)) (past m) ≡ e.0 =
      ap (drop (length (past o.machine))) e.1 ∙ drop_at (past o.machine) e.0
      (length (past o.machine)) refl in
      subst (λ (h : List (ℕ × N)). (past m ≡ past o.machine ++ h) × (settings m ≡ settings o.machine) ×
      AllSeats o h × ((i : ℕ) (f : Face N) → get_elem? faces i ≡ some f → IsInGate h f)) (sym same)
      (e.1, e.2, e.3, e.4)

-- a seat with calls left has a number below the number of quotas
pub mine_inside : (quotas : List ℕ) (number quota used : ℕ) → quota ≡ get_or quotas number 0 → used < quota →
    number < length quotas
mine_inside quotas number quota used is less = inside quotas number (omega arith)

module _ {M N : Type 0} where
  pub new_is : (g : GateView M) (k quota : ℕ) (p : Seat (Option M) (View M N)) → p.table_id ≡ g.table →
      p.me ≡ (new_view g.opening k [], []) → quota ≡ get_or g.opening.quotas k 0 →
      view_of k quota 0 p ≡ new_seat g k
  new_is g k quota p table me is =
      let seat : TableId → Me (Option M) (View M N) → ℕ →
      SeatView M N = λ t m q. record {
        table = t;
        opening = m.0.opening;
        number = k;
        quota = q;
        used = 0;
        seen = m.0.face.seen;
        own = m.0.face.own;
        looks = m.0.face.looks;
        stage = m.0.stage;
        read =
            m.0.read;
      } in
      ap (λ t. seat t p.me quota) table ∙ (ap (λ m. seat g.table m quota) me
      ∙ ap (λ q. seat g.table (new_view g.opening k [], []) q) is)

  pub new_at_gate : (o : Opening M) (k quota : ℕ) (p : Seat (Option M) (View M N)) →
      p.me ≡ (new_view o k [], []) → quota ≡ get_or o.quotas k 0 → IsAtGate k quota 0 p
  new_at_gate o k quota p me is = record {
    numbered = sym (ap (λ m. m.0.face.number) me);
    counted = sym (ap (λ m. length m.0.face.own) me);
    within = omega arith;
    allotted = λ o' e. subst (λ (z : Opening M). quota ≡ get_or z.quotas k 0)
        (opening_is o o' (sym (ap (λ m. m.0.opening) me) ∙ e)) is;
    idle = ap (λ m. m.0.stage) me;
    unread = ap (λ m. m.0.read) me;
    free = ap (λ m. m.1) me;
  }
    where
      opening_is : (a b : Opening M) → Some a ≡ Some b → a ≡ b
      opening_is a b e = cc

  -- the seats of a new gate, by number
  pub each_new : (g : GateView M) (seats : List (SeatView M N)) (quotas : List ℕ) →
      length seats ≡ length quotas → ((k : ℕ) (s : SeatView M N) → get_elem? seats k ≡ some s →
      s ≡ new_seat g k)
      → EachIndex quotas (λ k. slice_get seats k ≡ Some (new_seat g k))
  each_new g seats quotas same new k l =
      let s : SeatView M N = get_or seats k (new_seat g k) in
      let at : get_elem? seats k ≡ some s = at_here seats k (new_seat g k) (omega arith) in
      get_at seats k (new_seat g k) (at ∙ ap some (new k s at))

  pub face_is : (number quota used : ℕ) (p : Seat (Option M) (View M N)) → IsAtGate number quota used p →
      p.me.0.face ≡ face_of (view_of number quota used p)
  face_is number quota used p a = ap (λ (n : ℕ). record p.me.0.face { number = n }) (sym a.numbered)

  -- a fact about each face in the view holds for each seat that is recorded in it
  module _ (v : View M N) (seats : List (SeatView M N)) (h : List (ℕ × N))
      (recorded : (k : ℕ) (s : SeatView M N) → get_elem? seats k ≡ some s → IsRecorded s v)
      (each : (i : ℕ) (f : Face N) → get_elem? (faces_of v) i ≡ some f → IsInGate h f) where
    pub all_seen : All (λ (s : SeatView M N). IsPrefix s.seen h) seats
    all_seen = all_of (λ (s : SeatView M N). IsPrefix s.seen h) seats
        (λ k s at. let r = recorded k s at in (each r.0 (face_of s) r.1).0)

    pub all_own : All (λ (s : SeatView M N). s.own ≡ places_of s.number h) seats
    all_own = all_of (λ (s : SeatView M N). s.own ≡ places_of s.number h) seats
        (λ k s at. let r = recorded k s at in (each r.0 (face_of s) r.1).1)

    pub all_looks : All (λ (s : SeatView M N). All (λ (look : ℕ × ℕ). look.1 ≤ length h) s.looks) seats
    all_looks = all_of (λ (s : SeatView M N). All (λ (look : ℕ × ℕ). look.1 ≤ length h) s.looks) seats
        (λ k s at. let r = recorded k s at in all_of (λ (look : ℕ × ℕ). look.1 ≤ length h) s.looks
        (each r.0 (face_of s) r.1).2)

  -- if all seats are recorded, the view has a face for each number
  pub all_faces : (g : GateView M) (v : View M N) (seats : List (SeatView M N)) → AreAll g seats →
      ((k : ℕ) (s : SeatView M N) → get_elem? seats k ≡ some s → IsRecorded s v)
      → (n : ℕ) → n < length g.opening.quotas → (i : ℕ) × (f : Face N) × (get_elem? (faces_of v) i ≡ some f) ×
      (f.number ≡ n)
  all_faces g v seats all recorded n l =
      let a = all n l in
      let r = recorded a.0 a.1 (at_here seats a.0 a.1 a.2 ∙ ap some a.3) in (r.0, face_of a.1, r.1, a.4)

  -- and there is at least one seat
  pub some_seat : (g : GateView M) (seats : List (SeatView M N)) → AreAll g seats →
      0 < length g.opening.quotas → 0 < length seats
  some_seat g seats all l = let a = all 0 l in let k : ℕ = a.0 in let b : k < length seats = a.2 in
      omega arith

-- the machine after the gate is closed
pub record Closed {M N T : Type 0} (past : M → List (ℕ × N)) (settings : M → T) (g : GateView M)
    (seats : List (SeatView M N)) (m : M) : Type 0 where
  pub settled : settings m ≡ settings g.opening.machine
  pub history : past m ≡ past g.opening.machine ++ made_since past g m
  pub callers : AreOfSeats g (made_since past g m)
  pub seen : All (λ (s : SeatView M N). IsPrefix s.seen (made_since past g m)) seats
  pub own : All (λ (s : SeatView M N). s.own ≡ places_of s.number (made_since past g m)) seats
  pub looks : All (λ (s : SeatView M N). All (λ (look : ℕ × ℕ). look.1 ≤ length (made_since past g m))
      s.looks) seats

-- all seats of the gate g were joined into one with the view v, and the table was closed
module _ {M N T : Type 0} (past : M → List (ℕ × N)) (settings : M → T) (spare : M → ℕ) (g : GateView M)
    (seats : List (SeatView M N)) (id : ℕ) (v : View M N) (ws : List ℕ) (xs : List (Option M)) where
  ended : v.opening ≡ Some g.opening → v.stage ≡ Idle → AreAll g seats →
      ((k : ℕ) (s : SeatView M N) → get_elem? seats k ≡ some s → IsRecorded s v) →
      Final (Seen (Kept past settings spare g.opening) id v) ws xs
      → (m : M) × (get_elem? xs 0 ≡ some (Some m)) × GateEnds past settings g.opening (faces_of v) m
  ended op idle all recorded end = closes past settings spare g.opening id v ws xs op idle
      (all_faces g v seats all recorded) end

  -- the slot contains the machine
  pub not_out : (g' : GateView M) (x : Option M) → g ≡ g' → v.opening ≡ Some g.opening → v.stage ≡ Idle →
      AreAll g' seats → ((k : ℕ) (s : SeatView M N) → get_elem? seats k ≡ some s → IsRecorded s v)
      → Final (Seen (Kept past settings spare g.opening) id v) ws xs → get_elem? xs 0 ≡ some x → x ≡ None → ⊥
  not_out g' x same op idle all recorded end at is =
      let e = ended op idle (subst (λ (z : GateView M). AreAll z seats) (sym same) all) recorded end in
      not_gone past settings spare g.opening xs x e.0 at is e.1

  pub closed : (g' : GateView M) (x : Option M) (m : M) → g ≡ g' → v.opening ≡ Some g.opening →
      v.stage ≡ Idle → AreAll g' seats → ((k : ℕ) (s : SeatView M N) → get_elem? seats k ≡ some s →
      IsRecorded s v)
      → Final (Seen (Kept past settings spare g.opening) id v) ws xs → get_elem? xs 0 ≡ some x → x ≡ Some m →
      Closed past settings g' seats m
  closed g' x m same op idle all recorded end at is =
      let e = ended op idle (subst (λ (z : GateView M). AreAll z seats) (sym same) all) recorded end in
      let d = ends_since past settings spare g.opening g.table (faces_of v) m
      (ends_with past settings spare g.opening (faces_of v) xs x m at is e) in
      let h = made_since past g m in
      let left : Closed past settings g seats m = record {
        settled = d.1;
        history = d.0;
        callers = all_of (λ (e : ℕ × N). e.0 < length g.opening.quotas) h d.2;
        seen = all_seen v seats h recorded d.3;
        own = all_own v seats h recorded d.3;
        looks = all_looks v seats h recorded d.3;
      } in subst (λ (z : GateView M). Closed past settings z seats m) same left
