-- Proves what two stations of a class spend over a stretch of entries, if each Done charges within err of the
-- computed airtime. By induction on the entries.
use Rattle.std.proofs.Common.{◌≡◌, refl, ap, sym, ◌∙◌, subst, arith, ℕ, zero, suc, ◌+◌, ◌-◌, ◌*◌, ◌<◌, ◌≤◌, ℤ, pos, ◌+ℤ◌, ◌-ℤ◌, ◌≤ℤ◌, Bool, true, false, List, [], ◌∷◌, ◌++◌, take, map, Option, Some, None, is_some, IfSome, unwrap_or, option_map, inl, inr}
use Rattle.std.proofs.lemmas.Int.{ints}
use Rattle.wf_frame.specs.declared.settings.Config.{Config}
use Rattle.wf_frame.specs.declared.classes.Class.{Class}
use Rattle.wf_def_lists.specs.Table.{at}
use Rattle.wf_def_world.specs.World.{World, Station, no_station, owed, station, share, is_live}
use Rattle.wf_def_world.specs.Step.{step}
use Rattle.wf_def_world.specs.Run.{Entry, world_after}
use Rattle.wf_def_world.specs.Stretches.{charge_by, charges}
use Rattle.wf_def_world.specs.Exchanges.{longest_computed}
use Rattle.wf_law_runs.specs.Deficits.{longest_exchange}
use Rattle.wf_law_runs.specs.Shares.{receipts, AreWithin, error_of}
use Rattle.wf_law_runs.specs.Waiting.{sends}
use Rattle.wf_law_runs.proofs.Deficits.Books.{Account, account, core, books}
use Rattle.wf_law_runs.proofs.Deficits.Openings.{total, total-sum, total_most, owed-total, owed-core, many}
use Rattle.wf_law_runs.proofs.Deficits.KeptStep.{live_account}
use Rattle.wf_law_runs.proofs.Deficits.Shares.{IsMoney}
use Rattle.wf_law_runs.proofs.Fairness.OldOrder.{acc}
use Rattle.wf_law_runs.proofs.Fairness.Law.{acc_is}
use Rattle.wf_law_runs.proofs.Shares.Turns.{bound_to, IsMove, move_step}
use Rattle.wf_law_runs.proofs.Shares.Stretch.{Fits, marks_live, stays_step, IsHeld, IsGround, ground_step, ground_run, ground_money, quantum_positive, times_le, Held, held_run, next_case, world_append, charges_append}
use Rattle.wf_law_runs.proofs.Shares.Sends.{Less, less_step, sends_append}
use Rattle.wf_law_runs.proofs.Spent.Poise.{gives_back, IsPoised, HasPoise, ArePoised, poised_run}
use Rattle.wf_law_runs.proofs.Spent.Draws.{draw, Floor, Draws, draws_step}

-- ---- one world

-- An account in the books has the numbers of the share in the world.
pub charged_is : (w : World) (s : ℕ) (c : Class) →
    ((acc (books w) s).shares c).charged ≡ (share w s c).charged
charged_is w s c = ap (λ (a : Account). (a.shares c).charged) (acc_is w s)

pub quanta_is : (w : World) (s : ℕ) (c : Class) → ((acc (books w) s).shares c).quanta ≡ (share w s c).quanta
quanta_is w s c = ap (λ (a : Account). (a.shares c).quanta) (acc_is w s)

pub deficit_is : (w : World) (s : ℕ) (c : Class) →
    ((acc (books w) s).shares c).deficit ≡ (share w s c).deficit
deficit_is w s c = ap (λ (a : Account). (a.shares c).deficit) (acc_is w s)

-- The sum of the computed airtime of a station's open exchanges.
pub owed_is : (w : World) (s : ℕ) (c : Class) →
    total (λ x. x.charge) s c (map core w.opened) ≡ owed s c w.opened
owed_is w s c = sym (owed-total s c (map core w.opened)) ∙ owed-core s c w.opened

-- The airtime that charges of a station's open exchanges may take beyond the computed airtime.
abbrev pub errors : ℕ → ℕ → Class → World → ℕ
errors err s c w = total (λ _. err) s c (map core w.opened)

pub errors_most : (config : Config) (err s : ℕ) (c : Class) (w : World) → IsGround config w →
    errors err s c w ≤ error_of config err
errors_most config err s c w g = subst (λ (z : Config). errors err s c w ≤ error_of z err) g.same
    (times (many c (map core w.opened)) w.config.inflight _ (g.kept.few c)
    (total_most err s c (map core w.opened)))
  where
    times : (m n k : ℕ) → m ≤ n → k ≤ m * err → k ≤ n * err
    times m n k l z = grind arith

pub draw_is : (err : ℕ) (w : World) (s : ℕ) (c : Class) →
    draw err s c (books w) ≡ (share w s c).charged + (owed s c w.opened + errors err s c w)
draw_is err w s c = omega (
  arith,
  charged_is w s c,
  owed_is w s c,
  total-sum (λ x. x.charge) (λ _. err) s c (map core w.opened),
)

-- The bounds of a live station's deficit.
pub record Poised (config : Config) (err s : ℕ) (c : Class) (w : World) : Type 0 where
  pub most : (share w s c).deficit ≤ℤ
      pos (owed s c w.opened + config.quantum * (station w s).weight + error_of config err)
  pub floor : (share w s c).received ≡ 0 → pos (1 + owed s c w.opened + errors err s c w) ≤ℤ
      ((share w s c).deficit +ℤ pos (longest_computed config c + error_of config err))

pub poised_station : (config : Config) (err s : ℕ) (c : Class) (w : World) → IsGround config w →
    ArePoised err (books w) → is_live w s ≡ true → Poised config err s c w
unfolding HasPoise
poised_station config err s c w g h live = subst (λ (z : Config). Poised z err s c w) g.same
    (go (at None w.stations s) refl live (h.each s))
  where
    less : (d : ℤ) (m n : ℕ) → (d +ℤ pos m) ≤ℤ pos n → d ≤ℤ pos n
    less d m n z = omega (arith, ints)

    go : (o : Option Station) → at None w.stations s ≡ o → is_some o ≡ true →
        IfSome (option_map account o) (HasPoise err w.config (map core w.opened) s) →
        Poised w.config err s c w
    go None e is k = absurd (cc is)
    go (Some x) e is k =
        let p : IsPoised w.config c err (total (λ x. x.charge) s c (map core w.opened))
        (total (gives_back err) s c (map core w.opened)) (errors err s c w) (station w s).weight
        (record (share w s c) { upper = false }) =
        subst (λ (o : Option Station). IsPoised w.config c err (total (λ x. x.charge) s c (map core w.opened))
        (total (gives_back err) s c (map core w.opened)) (errors err s c w)
        (account (unwrap_or o no_station)).weight ((account (unwrap_or o no_station)).shares c)) (sym e)
        (k c) in
        record {
          most = subst (λ (n : ℕ). (share w s c).deficit ≤ℤ
              pos (n + w.config.quantum * (station w s).weight + error_of w.config err)) (owed_is w s c)
              (less _ _ _ p.most);
          floor = λ r. subst (λ (n : ℕ). pos (1 + n + errors err s c w) ≤ℤ
              ((share w s c).deficit +ℤ pos (longest_computed w.config c + error_of w.config err)))
              (owed_is w s c) (p.floor r);
        }

-- ---- parts of a history

pub within_append : (err : ℕ) (es fs : List Entry) (w : World) → AreWithin err w (es ++ fs) →
    AreWithin err w es × AreWithin err (world_after w es) fs
unfolding world_after
within_append err [] fs w h = (tt, h)
within_append err (e ∷ es) fs w h =
    let rest = within_append err es fs (step w e.1).world h.1 in ((h.0, rest.0), rest.1)

-- The first entries of a history charge within err, if more of them do.
pub within_front : (err d n : ℕ) (xs : List Entry) (w : World) → d ≤ n → AreWithin err w (take n xs) →
    AreWithin err w (take d xs)
within_front err zero n xs w l near = tt
within_front err (suc d) zero xs w l near = absurd (omega arith)
within_front err (suc d) (suc n) [] w l near = tt
within_front err (suc d) (suc n) (x ∷ xs) w l near = (
  near.0,
  within_front err d n xs (step w x.1).world (omega arith) near.1,
)

-- ---- the draw of a station

-- Over the entries es, what station i is charged, with what its open exchanges may be charged, rises at most
-- to its quanta for the count of s, one exchange and the errors.
abbrev pub IsDrawn : Config → ℕ → Class → ℕ → ℕ → World → List Entry → Type 0
IsDrawn config err c s i w es = draw err i c (books (world_after w es)) + 1
    ≤ (share w i c).charged + owed i c w.opened + config.quantum * (station w i).weight *
    ((share (world_after w es) s c).quanta - (share w s c).quanta + 1) +
    (longest_computed config c + 2 * error_of config err)

drawn_first : (u ch o k n r g : ℕ) → 1 ≤ u → k ≤ r → g ≡ 0 →
    ch + (o + k) + 1 ≤ ch + o + u * (g + 1) + (n + 2 * r)
drawn_first u ch o k n r g one few e = rw e (omega arith)

drawn_less : (u d d' ch o n q q' q0 : ℕ) → d' ≤ d → d + 1 ≤ ch + o + u * (q - q0 + 1) + n → q ≤ q' →
    d' + 1 ≤ ch + o + u * (q' - q0 + 1) + n
drawn_less u d d' ch o n q q' q0 h k l =
    let more : u * (q - q0 + 1) ≤ u * (q' - q0 + 1) =
    times_le u (q - q0 + 1) (q' - q0 + 1) (omega arith) in omega arith

-- The draw after i opened an exchange.
drawn_won : (u q0 q ch0 ch rc0 rc o0 o k n r gs d : ℕ) (z0 z v0 v : ℤ) → z ≡ z0 →
    v0 ≡ z0 +ℤ pos (u * q0) -ℤ pos (ch0 + rc0) → v ≡ z +ℤ pos (u * q) -ℤ pos (ch + rc) →
    v0 ≤ℤ pos (o0 + u + r) → pos (1 + o + k) ≤ℤ (v +ℤ pos (n + r)) → rc0 ≤ rc → q0 ≤ q → q - q0 ≤ gs →
    d ≡ ch + (o + k) → d + 1 ≤ ch0 + o0 + u * (gs + 1) + (n + 2 * r)
drawn_won u q0 q ch0 ch rc0 rc o0 o k n r gs d z0 z v0 v same e f most floor more grows near is =
    let whole : u * q ≡ u * q0 + u * (q - q0) = parts q (q - q0) (omega arith) in
    let less : u * (q - q0) ≤ u * gs = times_le u (q - q0) gs near in
    let one_more : u * (gs + 1) ≡ u * gs + u = omega arith in
    omega (arith, ints)
  where
    parts : (x y : ℕ) → x ≡ q0 + y → u * x ≡ u * q0 + u * y
    parts x y h = ap (λ (z : ℕ). u * z) h ∙ omega arith

module _ (config : Config) (t : Bool) (c : Class) (s i err : ℕ) (w : World) (apart : s ≡ i → ⊥)
    (ground : IsGround config w) (counting : config.pending ≡ 1) (poised : ArePoised err (books w)) where
  counts : (v : World) → IsGround config v → v.config.pending ≡ 1
  counts v g = ap (λ (z : Config). z.pending) g.same ∙ counting

  poise_at : (es : List Entry) → AreWithin err w es → ArePoised err (books (world_after w es))
  poise_at es near = poised_run err es w ground.kept (counts w ground) near poised

  drawn_more : (es : List Entry) (e : Entry) → Fits t c s i w w → Fits t c s i w (world_after w es) →
      Fits t c s i w (world_after w (es ++ e ∷ [])) → Held config c s i w es →
      Held config c s i w (es ++ e ∷ []) →
      AreWithin err w (es ++ e ∷ []) → IsDrawn config err c s i w es →
      IsDrawn config err c s i w (es ++ e ∷ [])
  drawn_more es e first now next held held' near before = elim draws.draws [
    | inl less ↦ drawn_less (config.quantum * (station w i).weight) (draw err i c (books v)) _
        (share w i c).charged
        (owed i c w.opened) (longest_computed config c + 2 * error_of config err) (share v s c).quanta
        (share (world_after w (es ++ e ∷ [])) s c).quanta (share w s c).quanta
        (subst (λ (u : World). draw err i c (books u) ≤ draw err i c (books v)) (sym after_e) less) before
        (subst (λ (u : World). (share v s c).quanta ≤ (share u s c).quanta) (sym after_e)
        (omega (arith, moved.own.quanta, quanta_is v s c, quanta_is (step v e.1).world s c)))
    | inr more ↦ subst (λ (u : World). draw err i c (books u) + 1 ≤
        (share w i c).charged + owed i c w.opened +
        config.quantum * (station w i).weight * ((share u s c).quanta - (share w s c).quanta + 1) +
        (longest_computed config c + 2 * error_of config err)) (sym after_e) (won more.0 more.1)
  ]
    where
      v : World
      v = world_after w es

      after_e : world_after w (es ++ e ∷ []) ≡ (step v e.1).world
      after_e = world_append es w e

      gv : IsGround config v
      gv = ground_run config es w ground

      g' : IsGround config (step v e.1).world
      g' = ground_step config v e.1 gv

      next' : Fits t c s i w (step v e.1).world
      next' = subst (Fits t c s i w) after_e next

      parts : AreWithin err w es × AreWithin err v (e ∷ [])
      parts = within_append err es (e ∷ []) w near

      draws : Draws err (longest_exchange v.config c) i c (books v) (books (step v e.1).world)
      draws = draws_step err v gv.kept (counts v gv) (poise_at es parts.0) i c
          (live_account (at None v.stations i) ∙ now.live) e.1 parts.1.0 next'.live

      moved : IsMove (longest_exchange v.config c) c s i (books v) (books (step v e.1).world)
      moved = move_step v e.1 c s i gv.kept apart
          (stays_step t c s i w v (step v e.1).world gv.kept g'.kept now next')

      held_next : IsHeld config c s i (charges w i c (es ++ e ∷ [])) (charges w s c (es ++ e ∷ []))
          (receipts w s c (es ++ e ∷ [])) w (step v e.1).world
      held_next = subst (IsHeld config c s i (charges w i c (es ++ e ∷ [])) (charges w s c (es ++ e ∷ []))
          (receipts w s c (es ++ e ∷ [])) w) after_e held'

      start : Poised config err i c w
      start = poised_station config err i c w ground poised first.live

      was : IsMoney config c (owed i c w.opened) (station w i).weight (share w i c)
      was = ground_money config w i c ground first.live

      is : IsMoney config c (owed i c (step v e.1).world.opened) (station w i).weight
          (share (step v e.1).world i c)
      is = subst (λ (g : ℕ). IsMoney config c (owed i c (step v e.1).world.opened) g
          (share (step v e.1).world i c)) held_next.other_weight
          (ground_money config (step v e.1).world i c g' next'.live)

      -- i gets no quantum before s does.
      near_quanta : bound_to (longest_exchange v.config c) c i (books v)
          < bound_to (longest_exchange v.config c) c i (books (step v e.1).world) →
          (share (step v e.1).world i c).quanta - (share w i c).quanta
          ≤ (share (step v e.1).world s c).quanta - (share w s c).quanta
      near_quanta rises = elim moved.spends [
        | inl less ↦ absurd (omega arith)
        | inr first ↦ omega (
          arith,
          first.0,
          held.order,
          held_next.own_quanta,
          held_next.other_quanta,
          quanta_is v s c,
          quanta_is v i c,
          quanta_is (step v e.1).world s c,
          quanta_is (step v e.1).world i c,
        )
      ]

      won : bound_to (longest_exchange v.config c) c i (books v)
          < bound_to (longest_exchange v.config c) c i (books (step v e.1).world) →
          Floor err i c (books (step v e.1).world) → draw err i c (books (step v e.1).world) + 1
          ≤ (share w i c).charged + owed i c w.opened + config.quantum * (station w i).weight *
          ((share (step v e.1).world s c).quanta - (share w s c).quanta + 1) +
          (longest_computed config c + 2 * error_of config err)
      won rises floor = drawn_won (config.quantum * (station w i).weight) (share w i c).quanta
          (share (step v e.1).world i c).quanta (share w i c).charged (share (step v e.1).world i c).charged
          (share w i c).received (share (step v e.1).world i c).received (owed i c w.opened)
          (owed i c (step v e.1).world.opened) (errors err i c (step v e.1).world) (longest_computed config c)
          (error_of config err) ((share (step v e.1).world s c).quanta - (share w s c).quanta)
          (draw err i c (books (step v e.1).world)) (share w i c).base (share (step v e.1).world i c).base
          (share w i c).deficit (share (step v e.1).world i c).deficit held_next.other_base
          was.exact is.exact start.most floor' held_next.other_received held_next.other_quanta
          (near_quanta rises) (draw_is err (step v e.1).world i c)
        where
          floor' : pos (1 + owed i c (step v e.1).world.opened + errors err i c (step v e.1).world) ≤ℤ
              ((share (step v e.1).world i c).deficit +ℤ
              pos (longest_computed config c + error_of config err))
          floor' = subst (λ (z : Config). pos (1 + owed i c (step v e.1).world.opened +
              errors err i c (step v e.1).world) ≤ℤ ((share (step v e.1).world i c).deficit +ℤ
              pos (longest_computed z c + error_of z err))) g'.same
              (subst (λ (d : ℤ). pos (1 + owed i c (step v e.1).world.opened +
              errors err i c (step v e.1).world) ≤ℤ (d +ℤ pos (longest_computed (step v e.1).world.config c +
              error_of (step v e.1).world.config err))) (deficit_is (step v e.1).world i c)
              (subst (λ (n : ℕ). pos (1 + n + errors err i c (step v e.1).world) ≤ℤ
              (((acc (books (step v e.1).world) i).shares c).deficit +ℤ
              pos (longest_computed (step v e.1).world.config c + error_of (step v e.1).world.config err)))
              (owed_is (step v e.1).world i c) floor))

  pub drawn_run : (xs : List Entry) (n : ℕ) → ((d : ℕ) → d ≤ n → Fits t c s i w (world_after w (take d xs))) →
      AreWithin err w (take n xs) → IsDrawn config err c s i w (take n xs)
  unfolding world_after
  drawn_run xs zero fits near = rw (draw_is err w i c) (drawn_first (config.quantum * (station w i).weight)
      (share w i c).charged (owed i c w.opened) (errors err i c w) (longest_computed config c)
      (error_of config err)
      ((share w s c).quanta - (share w s c).quanta)
      (quantum_positive config w i ground (fits 0 (omega arith)).live)
      (errors_most config err i c w ground) (omega arith))
  drawn_run xs (suc n) fits near =
      next_case xs n (λ (l : List Entry). Fits t c s i w (world_after w l) → Held config c s i w l →
      AreWithin err w l → IsDrawn config err c s i w l)
      (λ _ _ near. drawn_run xs n below near)
      (λ e next held near. drawn_more (take n xs) e (fits 0 (omega arith)) (fits n (omega arith)) next
      (held_run config t c s i w xs apart ground n below) held near
      (drawn_run xs n below (within_append err (take n xs) (e ∷ []) w near).0))
      (fits (suc n) (omega arith)) (held_run config t c s i w xs apart ground (suc n) fits) near
    where
      below : (d : ℕ) → d ≤ n → Fits t c s i w (world_after w (take d xs))
      below d l = fits d (omega arith)

  -- ---- a station that sends nothing

  falling_more : (es : List Entry) (e : Entry) → Fits t c s i w (world_after w es) →
      Fits t c s i w (world_after w (es ++ e ∷ [])) → Held config c s i w es →
      Held config c s i w (es ++ e ∷ []) →
      AreWithin err w (es ++ e ∷ []) → sends w s c (es ++ e ∷ []) ≡ 0 →
      draw err s c (books (world_after w es)) ≤ draw err s c (books w) →
      draw err s c (books (world_after w (es ++ e ∷ []))) ≤ draw err s c (books w)
  falling_more es e now next held held' near none before = elim draws.draws [
    | inl less ↦ subst (λ (u : World). draw err s c (books u) ≤ draw err s c (books w)) (sym after_e)
        (omega (arith, less, before))
    | inr more ↦ absurd (omega (
      arith,
      more.0,
      less.most,
      held.own_charged,
      charged_next,
      charges_append es w s c e,
      charged_is v s c,
      charged_is (step v e.1).world s c,
    ))
  ]
    where
      v : World
      v = world_after w es

      after_e : world_after w (es ++ e ∷ []) ≡ (step v e.1).world
      after_e = world_append es w e

      gv : IsGround config v
      gv = ground_run config es w ground

      parts : AreWithin err w es × AreWithin err v (e ∷ [])
      parts = within_append err es (e ∷ []) w near

      live : is_live (step v e.1).world s ≡ true
      live = marks_live t c s (step v e.1).world (ground_step config v e.1 gv).kept
          (subst (Fits t c s i w) after_e next).marks

      draws : Draws err (longest_exchange v.config c) s c (books v) (books (step v e.1).world)
      draws = draws_step err v gv.kept (counts v gv) (poise_at es parts.0) s c
          (live_account (at None v.stations s) ∙ marks_live t c s v gv.kept now.marks) e.1 parts.1.0 live

      less : Less (longest_exchange v.config c) c s (charge_by v s c e.1) (books v) (books (step v e.1).world)
      less = less_step v e.1 c s gv.kept (omega (arith, none, sends_append es w s c e))

      charged_next : (share (step v e.1).world s c).charged
          ≡ (share w s c).charged + charges w s c (es ++ e ∷ [])
      charged_next = ap (λ (u : World). (share u s c).charged) (sym after_e) ∙ held'.own_charged

  pub falling_run : (xs : List Entry) (n : ℕ) →
      ((d : ℕ) → d ≤ n → Fits t c s i w (world_after w (take d xs))) →
      AreWithin err w (take n xs) → sends w s c (take n xs) ≡ 0 →
      draw err s c (books (world_after w (take n xs))) ≤ draw err s c (books w)
  unfolding world_after
  falling_run xs zero fits near none = omega arith
  falling_run xs (suc n) fits near none =
      next_case xs n (λ (l : List Entry). Fits t c s i w (world_after w l) → Held config c s i w l →
      AreWithin err w l → sends w s c l ≡ 0 → draw err s c (books (world_after w l)) ≤ draw err s c (books w))
      (λ _ _ near none. falling_run xs n below near none)
      (λ e next held near none. falling_more (take n xs) e (fits n (omega arith)) next
      (held_run config t c s i w xs apart ground n below) held near none
      (falling_run xs n below (within_append err (take n xs) (e ∷ []) w near).0
      (omega (arith, none, sends_append (take n xs) w s c e))))
      (fits (suc n) (omega arith)) (held_run config t c s i w xs apart ground (suc n) fits) near none
    where
      below : (d : ℕ) → d ≤ n → Fits t c s i w (world_after w (take d xs))
      below d l = fits d (omega arith)
