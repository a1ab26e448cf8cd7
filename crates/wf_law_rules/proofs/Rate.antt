-- Proves how many frames CoDel drops in a time, from the times at which its control law allows them. By
-- induction on the dequeues, and on the number of drops.
use Rattle.std.proofs.Common.{◌≡◌, ℕ, zero, suc, ◌+◌, ◌-◌, ◌*◌, ◌/◌, ◌^◌, ◌≤◌, ◌<◌, ◌∙◌, refl, ap, sym, subst, arith, inl, inr, Bool, true, false, not, List, [], ◌∷◌, if◌then◌else◌}
use Rattle.std.specs.Prelude.{nat_lt}
use Rattle.std.proofs.lemmas.Bool.Decides.{leb_tells}
use Rattle.std.proofs.Math.Nat.{div-lt_iff_lt-mul, lt-div-mul-add, mul-le-mul, mul-le-mul_left, mul-le-mul_right, le-div_iff_mul-le}
use Rattle.wf_def_codel.specs.Codel.{Item, Params, Codel, IsGreatestStep, step_of, look, raised_count, next_due, drops, drops_dropping, drops_plain, state_dropping, state_plain, state_after, dequeue, begin_dropping}
use Rattle.wf_law_rules.specs.CodelLaws.{Dequeue, codel_after, drops_by, drops_in, Begins, StaysDropping, least_time, RateLaw}
use Rattle.wf_law_rules.proofs.Lemmas.Numbers.{on_bool, on_if, lt_yes, lt_no}
use Rattle.wf_law_rules.proofs.Lemmas.Drops.{drops_before}
use Rattle.wf_law_rules.proofs.Lemmas.Roots.{step_greatest}
use Rattle.wf_law_rules.proofs.Standing.{or_false, drops_yes, drops_no}

-- ---- numbers

square_less : (x y : ℕ) → x * x ≤ y * y → x ≤ y
square_less x y h = elim (leb_tells x y) [
  | inl d ↦ d.1
  | inr d ↦ (
      let past : y + 1 ≤ x = omega (arith, d.1) in
      let squares : (y + 1) * (y + 1) ≤ x * x = mul-le-mul past past in
      absurd (omega (arith, squares, h)))
]

-- ---- the steps of the control law

-- A greater count has no longer step.
step_falls : (interval a b : ℕ) → interval < 2 ^ 32 → 0 < a → a ≤ b → step_of interval b ≤ step_of interval a
step_falls interval a b small some more =
    let s : ℕ = step_of interval b in
    let high : IsGreatestStep interval b s = step_greatest interval b small (omega (arith, some, more)) in
    let low : s * s * a ≤ s * s * b = mul-le-mul_left (s * s) more in
    (step_greatest interval a small some).greatest s (omega (arith, low, high.fits))

-- The step of a count up to j^2 is at least the interval divided by j.
step_least : (interval count j : ℕ) → interval < 2 ^ 32 → 0 < count → 0 < j → count ≤ j * j →
    interval / j ≤ step_of interval count
step_least interval count j small some pos_j less =
    let d : ℕ = interval / j in
    let whole : d * j ≤ interval = omega arith in
    let squares : (d * j) * (d * j) ≤ interval * interval = mul-le-mul whole whole in
    let part : d * d * count ≤ d * d * (j * j) = mul-le-mul_left (d * d) less in
    (step_greatest interval count small some).greatest d (omega (arith, squares, part))

-- m steps of at least d each.
times_more : (m interval n d : ℕ) → ((k : ℕ) → k < m → d ≤ step_of interval (suc (n + k))) →
    least_time interval n + m * d ≤ least_time interval (n + m)
times_more zero interval n d h =
    let same : n + 0 ≡ n = omega arith in
    omega (arith, ap (least_time interval) same)
times_more (suc m) interval n d h =
    let rest : least_time interval n + m * d ≤ least_time interval (n + m) =
    times_more m interval n d (λ k below. h k (omega (arith, below))) in
    let same : n + suc m ≡ suc (n + m) = omega arith in
    omega (arith, rest, h m (omega arith), ap (least_time interval) same)

-- j^2 drops after the first need j intervals.
squares : (j interval : ℕ) → interval < 2 ^ 32 → j ≤ interval → j * interval ≤ least_time interval (j * j)
squares zero interval small few = omega arith
squares (suc j) interval small few =
    let d : ℕ = interval / suc j in
    let pos_j : 0 < suc j = omega arith in
    let once : 1 * suc j ≤ interval = omega (arith, few) in
    let some : 1 ≤ d = (le-div_iff_mul-le pos_j).1 once in
    let before : j * interval ≤ least_time interval (j * j) = squares j interval small (omega (arith, few)) in
    let block : least_time interval (j * j) + (2 * j + 1) * d ≤ least_time interval (j * j + (2 * j + 1)) =
    times_more (2 * j + 1) interval (j * j) d
    (λ k below. step_least interval (suc (j * j + k)) (suc j) small (omega arith) (omega arith)
    (omega (arith, below))) in
    let long : j * 1 ≤ j * d = mul-le-mul_left j some in
    let whole : interval ≤ (2 * j + 1) * d = omega (arith, long) in
    let same : suc j * suc j ≡ j * j + (2 * j + 1) = omega arith in
    omega (arith, before, block, whole, ap (least_time interval) same)

-- ---- the root

rooted : (n interval : ℕ) → interval < 2 ^ 32 → 4 * (interval * interval) * (n + 1)
    ≤ (least_time interval n + 2 * interval + n) * (least_time interval n + 2 * interval + n)
rooted zero interval small = omega arith
rooted (suc n) interval small =
    let s : ℕ = step_of interval (suc n) in
    let a : ℕ = least_time interval n + 2 * interval + n in
    let before : 4 * (interval * interval) * (n + 1) ≤ a * a = rooted n interval small in
    let same : least_time interval (suc n) + 2 * interval + suc n ≡ a + (s + 1) = omega arith in
    subst (λ (k : ℕ). 4 * (interval * interval) * (suc n + 1) ≤ k * k) (sym same)
    (grown interval n s a before (long s (step_greatest interval (suc n) small (omega arith)).greatest))
  where
    long : (s : ℕ) → ((e : ℕ) → e * e * suc n ≤ interval * interval → e ≤ s) →
        interval * interval ≤ (s + 1) * (s + 1) * (n + 1)
    long s greatest = elim (leb_tells (interval * interval) ((s + 1) * (s + 1) * (n + 1))) [
      | inl d ↦ d.1
      | inr d ↦ absurd (omega (arith, greatest (s + 1) (omega (arith, d.1))))
    ]

    grown : (i n s a : ℕ) → 4 * (i * i) * (n + 1) ≤ a * a → i * i ≤ (s + 1) * (s + 1) * (n + 1) →
        4 * (i * i) * (suc n + 1) ≤ (a + (s + 1)) * (a + (s + 1))
    grown i n s a before step =
        let b : ℕ = (s + 1) * (s + 1) in
        let left : 4 * (i * i) * (n + 1) * b ≤ a * a * b = mul-le-mul_right b before in
        let right : 4 * (i * i) * (i * i) ≤ 4 * (i * i) * (b * (n + 1)) = mul-le-mul_left (4 * (i * i))
        step in
        let both : 2 * (i * i) ≤ a * (s + 1) = square_less (2 * (i * i)) (a * (s + 1)) (omega (
          arith,
          left,
          right,
        )) in
        omega (arith, before, both)

-- ---- one dequeue

-- After n drops since dropping began at time b, the next is not due before its least time.
record Paced (interval b n : ℕ) (c : Codel) : Type 0 where
  some : 1 ≤ c.count
  most : c.count ≤ n + 1
  due : b + least_time interval (suc n) ≤ c.drop_next

raised_some : (i count : ℕ) → 1 ≤ count → 1 ≤ raised_count count i
raised_some zero count h = h
raised_some (suc i) count h = omega (arith, h)

raised_most : (i n count : ℕ) → count ≤ n + 1 → raised_count count i ≤ n + i + 1
raised_most zero n count h = omega (arith, h)
raised_most (suc i) n count h = omega (arith, h)

-- Drop i of a dequeue is not due before its least time.
paced_due : (i n m interval b : ℕ) (p : Params) (count due : ℕ) → interval < 2 ^ 32 →
    p.interval ≡ interval → 1 ≤ count → count ≤ n + 1 → b + least_time interval (suc n) ≤ due → m ≡ n + i →
    b + least_time interval (suc m) ≤ next_due p count due i
paced_due zero n m interval b p count due small same some most h is =
    let e : m ≡ n = omega (arith, is) in
    subst (λ (k : ℕ). b + least_time interval (suc k) ≤ due) (sym e) h
paced_due (suc i) n zero interval b p count due small same some most h is = absurd (omega (arith, is))
paced_due (suc i) n (suc m) interval b p count due small same some most h is =
    let rest : b + least_time interval (suc m) ≤ next_due p count due i =
    paced_due i n m interval b p count due small same some most h (omega (arith, is)) in
    let step : step_of interval (suc (suc m)) ≤ step_of interval (raised_count count (suc i)) =
    step_falls interval (raised_count count (suc i)) (suc (suc m)) small (raised_some (suc i) count some)
    (omega (arith, raised_most (suc i) n count most, is)) in
    let own : step_of p.interval (raised_count count (suc i)) ≡ step_of interval (raised_count count (suc
    i)) =
    ap (λ (k : ℕ). step_of k (raised_count count (suc i))) same in
    omega (arith, rest, step, own)

-- Drop i of a dequeue while dropping is due.
due_dropping : (p : Params) (now : ℕ) (c : Codel) (items : List Item) (i : ℕ) →
    i < drops_dropping p now c c.drop_next items → next_due p c.count c.drop_next i ≤ now
due_dropping p now c items i below =
    let go_on = or_false (not (look p now c.first_above items i).ok)
    (nat_lt now (next_due p c.count c.drop_next i)) (drops_before p now c c.drop_next items i below) in
    lt_no now (next_due p c.count c.drop_next i) go_on.1

dropping_state : (p : Params) (now : ℕ) (c : Codel) (items : List Item) → c.dropping ≡ true →
    state_after p now c items
    ≡ state_dropping p now c c.drop_next items (drops_dropping p now c c.drop_next items)
unfolding state_after
dropping_state p now c items sure = on_if (λ (z : Codel). z
    ≡ state_dropping p now c c.drop_next items (drops_dropping p now c c.drop_next items)) c.dropping _ _
    (λ _. ap (state_dropping p now c c.drop_next items) (drops_yes p now c items sure))
    (λ never. absurd (cc (sure, never)))

-- If dropping goes on after n + d drops, the next is not due before its least time.
paced_dropping : (interval b n : ℕ) (p : Params) (now : ℕ) (c : Codel) (items : List Item) (d : ℕ) →
    interval < 2 ^ 32 → p.interval ≡ interval → Paced interval b n c →
    (state_dropping p now c c.drop_next items d).dropping ≡ true →
    Paced interval b (n + d) (state_dropping p now c c.drop_next items d)
unfolding state_dropping
paced_dropping interval b n p now c items d small same k sure = record {
  some = raised_some d c.count k.some;
  most = raised_most d n c.count k.most;
  due = on_if (λ (t : ℕ). b + least_time interval (suc (n + d)) ≤ t)
      (look p now c.first_above items d).ok _ _
      (λ _. paced_due d n (n + d) interval b p c.count c.drop_next small same k.some k.most k.due refl)
      (λ never. absurd (cc (sure, never)));
}

-- ---- the dequeues

abbrev IfDropping : ℕ → ℕ → ℕ → Codel → Type 0
IfDropping interval b n c = c.dropping ≡ true → Paced interval b n c

visit_paced : (interval b n : ℕ) (c : Codel) (v : Dequeue) → interval < 2 ^ 32 → v.times.interval ≡ interval →
    c.dropping ≡ true → IfDropping interval b n c → IfDropping interval b (n + drops_by c v) (codel_after
    c v)
unfolding dequeue
visit_paced interval b n c v small same sure k =
    let is = dropping_state v.times v.now c v.items sure in
    let count : drops_by c v ≡ drops_dropping v.times v.now c c.drop_next v.items =
    drops_yes v.times v.now c v.items sure in
    subst (IfDropping interval b (n + drops_by c v)) (sym is)
    (subst (λ (d : ℕ). IfDropping interval b (n + d) (state_dropping v.times v.now c c.drop_next v.items
    (drops_dropping v.times v.now c c.drop_next v.items))) (sym count)
    (λ on. paced_dropping interval b n v.times v.now c v.items _ small same (k sure) on))

-- Drop k of these dequeues, after n drops before them, needs its least time.
times_run : (visits : List Dequeue) (interval b T n : ℕ) (c : Codel) → interval < 2 ^ 32 →
    IfDropping interval b n c → StaysDropping interval b T c visits → (k : ℕ) → k < drops_in c visits →
    least_time interval (suc (n + k)) ≤ T
times_run [] interval b T n c small p stays k below = absurd (omega (arith, below))
times_run (v ∷ vs) interval b T n c small p stays k below = on_bool (nat_lt k (drops_by c v))
    (λ h. here (lt_yes k (drops_by c v) h))
    (λ h. later (lt_no k (drops_by c v) h) (times_run vs interval b T (n + drops_by c v) (codel_after c
    v) small
    (visit_paced interval b n c v small stays.1 stays.0 p) stays.3 (k - drops_by c v)))
  where
    here : k < drops_by c v → least_time interval (suc (n + k)) ≤ T
    here inside =
        let q : Paced interval b n c = p stays.0 in
        let count : drops_by c v ≡ drops_dropping v.times v.now c c.drop_next v.items =
        drops_yes v.times v.now c v.items stays.0 in
        let due : next_due v.times c.count c.drop_next k ≤ v.now =
        due_dropping v.times v.now c v.items k (omega (arith, inside, count)) in
        let from : b + least_time interval (suc (n + k)) ≤ next_due v.times c.count c.drop_next k =
        paced_due k n (n + k) interval b v.times c.count c.drop_next small stays.1 q.some q.most q.due refl in
        omega (arith, due, from, stays.2)

    later : drops_by c v ≤ k → (k - drops_by c v < drops_in (codel_after c v) vs →
        least_time interval (suc (n + drops_by c v + (k - drops_by c v))) ≤ T) →
        least_time interval (suc (n + k)) ≤ T
    later past next =
        let rest : least_time interval (suc (n + drops_by c v + (k - drops_by c v))) ≤ T =
        next (omega (arith, below, past)) in
        let same : suc (n + drops_by c v + (k - drops_by c v)) ≡ suc (n + k) = omega (arith, past) in
        omega (arith, rest, ap (least_time interval) same)

-- ---- the law

begun_state : (p : Params) (now : ℕ) (c : Codel) (items : List Item) → c.dropping ≡ false →
    drops p now c items ≡ 1 → state_after p now c items
    ≡ begin_dropping p now c (look p now c.first_above items 1)
unfolding state_after state_plain drops_plain
begun_state p now c items plain one =
    let count : drops_plain p now c items ≡ 1 = sym (drops_no p now c items plain) ∙ one in
    on_if (λ (z : Codel). z ≡ begin_dropping p now c (look p now c.first_above items 1)) c.dropping _ _
    (λ sure. absurd (cc (plain, sure)))
    (λ _. on_if (λ (z : Codel). z ≡ begin_dropping p now c (look p now c.first_above items 1))
    (look p now c.first_above items 0).ok _ _ (λ _. refl)
    (λ never. absurd (none (look p now c.first_above items 0).ok never count)))
  where
    none : (b : Bool) → b ≡ false → ◌≡◌ {A = ℕ} (if b then 1 else 0) 1 → ⊥
    none true never h = cc never
    none false never h = omega arith

paced_begun : (interval : ℕ) (c : Codel) (v : Dequeue) → v.times.interval ≡ interval → Begins c v →
    Paced interval v.now 0 (codel_after c v)
unfolding dequeue
paced_begun interval c v same h =
    subst (Paced interval v.now 0) (sym (begun_state v.times v.now c v.items h.plain h.drop))
    (record {
      some = omega (arith, h.first);
      most = omega (arith, h.first);
      due = omega (arith, ap (step_of v.times.interval) h.first, ap (λ (k : ℕ). step_of k 1) same);
    })

some_interval : (interval T : ℕ) → T < interval * interval → 0 < interval
some_interval zero T h = absurd (omega (arith, h))
some_interval (suc i) T h = omega arith

pub rate_law : RateLaw
rate_law interval T c v visits h = record {
  times = times;
  most = λ short. elim (leb_tells (drops_in c (v ∷ visits)) ((T / interval + 1) * (T / interval + 1))) [
    | inl d ↦ d.1
    | inr d ↦ absurd (too_many short (times ((T / interval + 1) * (T / interval + 1)) (omega (arith, d.1))))
  ];
  root = λ n below.
      let t : least_time interval n ≤ T = times n below in
      let wide : least_time interval n + 2 * interval + n ≤ T + 2 * interval + n = omega (arith, t) in
      omega (arith, rooted n interval h.small, mul-le-mul wide wide);
}
  where
    times : (n : ℕ) → n < drops_in c (v ∷ visits) → least_time interval n ≤ T
    times zero below = omega arith
    times (suc n) below =
        let t : least_time interval (suc (0 + n)) ≤ T =
        times_run visits interval v.now T 0 (codel_after c v) h.small
        (λ _. paced_begun interval c v h.same h.begins) h.stays n (omega (arith, below, h.begins.drop)) in
        let same : suc (0 + n) ≡ suc n = omega arith in
        omega (arith, t, ap (least_time interval) same)

    too_many : T < interval * interval →
        least_time interval ((T / interval + 1) * (T / interval + 1)) ≤ T → ⊥
    too_many short t =
        let few : T / interval + 1 ≤ interval =
        omega (arith, (div-lt_iff_lt-mul {x = T} {y = interval} (some_interval interval T short)).1 short) in
        omega (
          arith,
          squares (T / interval + 1) interval h.small few,
          t,
          lt-div-mul-add {a = T}
              (some_interval interval T short),
        )
