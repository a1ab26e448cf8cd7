-- Proves the refusals row by row: a test of the half refuses exactly if the test of the world does.
use Rattle.std.proofs.Common.{◌≡◌, refl, ap, ap₂, sym, ◌∙◌, ℕ, Bool, true, false, not, pos, ◌-ℤ◌, ◌<◌, ◌==◌, ◌&&◌, ◌||◌, List, [], ◌∷◌, ◌++◌, Option, Some, None, if◌then◌else◌, is_some, option_map}
use Rattle.std.specs.List.{list_any, list_all}
use Rattle.std.proofs.lemmas.Bool.{and_parts, ltb-true}
use Rattle.std.specs.Prelude.{nat_le, nat_lt, int_lt, count_by, Result, Ok, Err, IfOk, IfErr}
use Rattle.wf_frame.specs.Frames.{FrameValue}
use Rattle.wf_frame.specs.declared.settings.Config.{Config}
use Rattle.wf_frame.specs.declared.notes.Note.{Note}
use Rattle.wf_frame.specs.declared.notes.Refusal.{Refusal}
use Rattle.wf_frame.specs.declared.notes.Refusal.TheVariants.{Idle, BadStation, NoStation, BadAir, Debt}
use Rattle.wf_frame.specs.declared.notes.Note.TheVariants.{Asked}
use Rattle.wf_frame.specs.declared.notes.Ask.TheVariants.{Rx}
use Rattle.wf_frame.specs.declared.classes.Class.{Class}
use Rattle.wf_def_lists.specs.Bounds.{greatest_air, deepest_deficit}
use Rattle.std.specs.Result.{result_err}
use Rattle.wf_frame.specs.declared.notes.ReplyNote.TheVariants.{Refused}
use Rattle.wf_def_world.specs.World.{World, is_live, is_agreed, is_held_back, is_offloaded, station, share}
use Rattle.wf_def_lists.specs.Table.{upto}
use Rattle.wf_def_air.specs.Airtime.{Rate, is_single}
use Rattle.wf_def_world.specs.Rates.{is_rate_with}
use Rattle.wf_def_world.specs.Group.{bss_count}
use Rattle.wf_def_world.specs.Refusals.{first_refusal, is_any_agreed, is_bad_bss, is_bad_station, is_within, has_live_credit, open_of_tid, numbers_waiting, refusals, refusal}
use Rattle.wf_send_parts.specs.Members.{member, is_offloaded_in}
use Rattle.wf_send_parts.specs.declared.stations.members.Member.{Member}
use Rattle.wf_send_parts.specs.Modes.{is_set_in, any_set_in}
use Rattle.wf_send_parts.specs.Window.{waits}
use Rattle.wf_send_parts.specs.Windows.{window_of}
use Rattle.wf_send_parts.specs.declared.stations.sleepers.Sleeper.{Sleeper}
use Rattle.wf_send_parts.specs.Sleepers.{sleeper}
use Rattle.wf_send_half_model.specs.Half.{TransmitValue, is_agreed_of, is_held_back_of, has_live_credit_of}
use Rattle.wf_send_half_model.specs.Standing.{sleeper_of, StandsFor, Meets}
use Rattle.wf_send_half_model.proofs.Asked.{rate_read}
use Rattle.wf_send_half_model.proofs.Readers.{live_same, offloaded_same, tid_count_same, agreed_same, held_back_same, waiting_count_same, live_credit_same}
use Rattle.wf_send_half_model.proofs.Meets.{refused_meets}

-- ---- one row

-- the last row
pub last_row : (a b : Bool) (r : Refusal) → b ≡ a → (if a then Some r else None) ≡ first_refusal ((b, r) ∷ [])
unfolding first_refusal
last_row true b r e = ap (λ (x : Bool). if x then Some r else None) (sym e)
last_row false b r e = ap (λ (x : Bool). if x then Some r else None) (sym e)

-- a row that refuses
pub row_refuses : (a b : Bool) (r given : Refusal) (rows : List (Bool × Refusal)) → b ≡ a →
    Some given ≡ (if a then Some r else None) → Some given ≡ first_refusal ((b, r) ∷ rows)
unfolding first_refusal
row_refuses true true r given rows e is = is
row_refuses true false r given rows e is = absurd (cc e)
row_refuses false b r given rows e is = absurd (cc is)

-- a row that passes
pub row_passes : (a b : Bool) (r : Refusal) (rows : List (Bool × Refusal)) → b ≡ a →
    None ≡ (if a then Some r else None) → first_refusal ((b, r) ∷ rows) ≡ first_refusal rows
unfolding first_refusal
row_passes true b r rows e is = absurd (cc is)
row_passes false true r rows e is = absurd (cc e)
row_passes false false r rows e is = refl

-- a row that refuses where a count is not 0, and tells the count
pub told_row_refuses : (tell : ℕ → Refusal) (n m : ℕ) (given : Refusal) (rows : List (Bool × Refusal)) → n ≡ m
    →
    Some given ≡ (if nat_lt 0 m then Some (tell m) else None) →
    Some given ≡ first_refusal ((nat_lt 0 n, tell n) ∷ rows)
told_row_refuses tell n m given rows e is =
    row_refuses (nat_lt 0 n) (nat_lt 0 n) (tell n) given rows refl
    (is ∙ ap (λ (k : ℕ). if nat_lt 0 k then Some (tell k) else None) (sym e))

pub told_row_passes : (tell : ℕ → Refusal) (n m : ℕ) (rows : List (Bool × Refusal)) → n ≡ m →
    None ≡ (if nat_lt 0 m then Some (tell m) else None) →
    first_refusal ((nat_lt 0 n, tell n) ∷ rows) ≡ first_refusal rows
told_row_passes tell n m rows e is = row_passes (nat_lt 0 n) (nat_lt 0 n) (tell n) rows refl
    (is ∙ ap (λ (k : ℕ). if nat_lt 0 k then Some (tell k) else None) (sym e))

-- ---- the tests

-- two tests of the eight TIDs agree if they agree on each
all_eight : (p q : ℕ → Bool) → ((t : ℕ) → t < 8 → p t ≡ q t) → list_any p (upto 8) ≡ list_any q (upto 8)
all_eight p q same = go (upto 8) refl
  where
    below : (t : ℕ) (rest : Bool) → nat_lt t 8 && rest ≡ true → (t < 8) × (rest ≡ true)
    below t rest h = let parts = and_parts (nat_lt t 8) rest h in (ltb-true t 8 parts.0, parts.1)

    go : (ts : List ℕ) → list_all (λ t. nat_lt t 8) ts ≡ true → list_any p ts ≡ list_any q ts
    go [] low = refl
    go (t ∷ ts) low =
        let here = below t (list_all (λ i. nat_lt i 8) ts) low in
        ap₂ (λ (a b : Bool). a || b) (same t here.0) (go ts here.1)

-- the row about the number of a BSS
pub bss_same : (v : TransmitValue) (w : World) (bodies : ℕ → FrameValue) → StandsFor v w bodies → (b : ℕ) →
    is_bad_bss w b ≡ nat_le (bss_count v.config.bsses) b
bss_same v w bodies h b = ap (λ (c : Config). nat_le (bss_count c.bsses) b) (sym h.parts.others.config)

module _ (v : TransmitValue) (w : World) (bodies : ℕ → FrameValue) (h : StandsFor v w bodies) (s : ℕ) where
  pub bad_same : is_bad_station w s ≡ nat_le v.config.stations s
  bad_same = ap (λ (c : Config). nat_le c.stations s) (sym h.parts.others.config)

  -- the rows about the station
  pub out_of_range : (rows : List (Bool × Refusal)) (r : Refusal) →
      Some r ≡ (if nat_le v.config.stations s then Some BadStation else None) →
      Some r ≡ first_refusal ((is_bad_station w s, BadStation) ∷ rows)
  out_of_range rows r e = row_refuses (nat_le v.config.stations s)
      (is_bad_station w s) BadStation r rows bad_same e

  pub in_range : (rows : List (Bool × Refusal)) →
      None ≡ (if nat_le v.config.stations s then Some BadStation else None) →
      first_refusal ((is_bad_station w s, BadStation) ∷ rows) ≡ first_refusal rows
  in_range rows e = row_passes (nat_le v.config.stations s) (is_bad_station w s) BadStation rows bad_same e

  pub absent_same : not (is_live w s) ≡ not (is_some (member v.members s))
  absent_same = ap not (sym (live_same v w bodies s h.parts))

  pub not_there : (rows : List (Bool × Refusal)) (r : Refusal) →
      Some r ≡ (if not (is_some (member v.members s)) then Some NoStation else None) →
      Some r ≡ first_refusal ((not (is_live w s), NoStation) ∷ rows)
  not_there rows r e = row_refuses (not (is_some (member v.members s)))
      (not (is_live w s)) NoStation r rows absent_same e

  pub there : (rows : List (Bool × Refusal)) → None
      ≡ (if not (is_some (member v.members s)) then Some NoStation else None) →
      first_refusal ((not (is_live w s), NoStation) ∷ rows) ≡ first_refusal rows
  there rows e = row_passes (not (is_some (member v.members s)))
      (not (is_live w s)) NoStation rows absent_same e

  -- whether a credit blocks a poll
  pub credit_same : is_live w s ≡ true → has_live_credit w s ≡ has_live_credit_of v s
  credit_same live = sym (live_credit_same v w bodies s h.parts live)

  -- the power save of a live station
  pub rests_same : is_live w s ≡ true → sleeper v.sleepers s ≡ sleeper_of (station w s)
  rests_same live = h.parts.others.stations.rests s live

  pub asleep_same : is_live w s ≡ true → (station w s).asleep ≡ (sleeper v.sleepers s).asleep
  asleep_same live = sym (ap (λ (y : Sleeper). y.asleep) (rests_same live))

  pub stopped_same : is_live w s ≡ true → (station w s).stopped ≡ (sleeper v.sleepers s).stopped
  stopped_same live = sym (ap (λ (y : Sleeper). y.stopped) (rests_same live))

  -- whether a service period is open
  pub service_same : is_live w s ≡ true → (station w s).service ≡ (sleeper v.sleepers s).service
  service_same live = sym (ap (λ (y : Sleeper). y.service) (rests_same live))

  -- the row about the setting `legacy`
  pub rate_row : (r : Rate) → is_rate_with w.config.legacy r ≡ is_rate_with v.config.legacy r
  rate_row r = ap (λ (c : Config). is_rate_with c.legacy r) (sym h.parts.others.config)

  -- the rate of a live station
  pub single_row : is_live w s ≡ true → (m : Member) → member v.members s ≡ Some m →
      is_single (station w s).rate ≡ is_single m.rate
  single_row live m is = ap is_single (sym (rate_read v w bodies s h.parts live m.rate
      (ap (λ (o : Option Member). option_map (λ k. k.rate) o) is)))

  -- the modes of a live station
  pub any_row : is_live w s ≡ true → is_any_agreed w s ≡ any_set_in v.modes s
  any_row live = all_eight (λ t. is_agreed w s t || is_held_back w s t) (is_set_in v.modes s)
      (λ t low. ap₂ (λ (a b : Bool). a || b) (sym (agreed_same v w bodies s t h.parts live low))
      (sym (held_back_same v w bodies s t h.parts live low)))

  -- the rows about a TID of a live station
  module _ (t : ℕ) (live : is_live w s ≡ true) (low : t < 8) where
    pub agreed_row : is_agreed w s t ≡ is_agreed_of v s t
    agreed_row = sym (agreed_same v w bodies s t h.parts live low)

    pub held_row : is_held_back w s t ≡ is_held_back_of v s t
    held_row = sym (held_back_same v w bodies s t h.parts live low)

    pub waits_row : numbers_waiting w s t ≡ count_by waits (window_of v.windows s t).places
    waits_row = sym (waiting_count_same v w bodies s t h.parts live low)

  pub offloaded_row : is_offloaded w s ≡ is_offloaded_in v.members s
  offloaded_row = sym (offloaded_same v w bodies s h.parts)

  pub open_row : (t : ℕ) → open_of_tid w s t ≡ count_by (λ x. (x.station == s) && (x.tid == t)) v.opened
  open_row t = sym (tid_count_same v w bodies s t h.parts)

  pub live_of : is_some (member v.members s) ≡ true → is_live w s ≡ true
  live_of is = sym (live_same v w bodies s h.parts) ∙ is

-- ---- several rows

either_refuses : (b : Bool) (r first : Refusal) (o p : Option Refusal) → (Some r ≡ o → Some r ≡ p) →
    Some r ≡ (if b then Some first else o) → Some r ≡ (if b then Some first else p)
either_refuses true r first o p later e = e
either_refuses false r first o p later e = later e

pub rows_refuse : (xs ys : List (Bool × Refusal)) (r : Refusal) → Some r ≡ first_refusal xs →
    Some r ≡ first_refusal (xs ++ ys)
unfolding first_refusal
rows_refuse [] ys r is = absurd (cc is)
rows_refuse (x ∷ xs) ys r is = either_refuses x.0 r x.1 (first_refusal xs) (first_refusal (xs ++ ys))
    (rows_refuse xs ys r) is

both_pass : (b : Bool) (first : Refusal) (o p q : Option Refusal) → (None ≡ o → p ≡ q) →
    None ≡ (if b then Some first else o) → (if b then Some first else p) ≡ q
both_pass true first o p q later e = absurd (cc e)
both_pass false first o p q later e = later e

pub rows_pass : (xs ys : List (Bool × Refusal)) → None ≡ first_refusal xs →
    first_refusal (xs ++ ys) ≡ first_refusal ys
unfolding first_refusal
rows_pass [] ys is = refl
rows_pass (x ∷ xs) ys is = both_pass x.0 x.1 (first_refusal xs) (first_refusal (xs ++ ys)) (first_refusal ys)
    (rows_pass xs ys) is

-- ---- a refused call

abbrev pub NoIdle : List (Bool × Refusal) → Type 0
NoIdle [] = Unit {0}
NoIdle (row ∷ rows) = (row.1 ≡ Idle → ⊥) × NoIdle rows

neither_idle : (b : Bool) (r first : Refusal) (o : Option Refusal) → (first ≡ Idle → ⊥) →
    (Some r ≡ o → r ≡ Idle → ⊥) → Some r ≡ (if b then Some first else o) → r ≡ Idle → ⊥
neither_idle true r first o here later e idle = let same : r ≡ first = cc e in here (sym same ∙ idle)
neither_idle false r first o here later e idle = later e idle

not_idle : (rows : List (Bool × Refusal)) → NoIdle rows → (r : Refusal) → Some r ≡ first_refusal rows →
    r ≡ Idle → ⊥
unfolding first_refusal
not_idle [] none r is = absurd (cc is)
not_idle (row ∷ rows) none r is = neither_idle row.0 r row.1 (first_refusal rows) none.0
    (not_idle rows none.1 r) is

-- a refusal other than Idle changes nothing
pub refused_call : (v : TransmitValue) (w : World) (bodies : ℕ → FrameValue) (note : Note) (r : Refusal) →
    NoIdle (refusals w note) → StandsFor v w bodies → Some r ≡ refusal w note →
    Meets w bodies note v (Refused r)
refused_call v w bodies note r none h is = refused_meets v w bodies note r h (sym is)
    (not_idle (refusals w note) none r is)

-- ---- rows of a receive charge

pub no_row_left : None ≡ first_refusal []
unfolding first_refusal
no_row_left = refl

-- the last check of a receive charge before the debt: a station that is not live is refused
module _ (result : Result (Unit {0}) Refusal) (v : TransmitValue) (s : ℕ) (c : Class) (air : ℕ)
    (is : result_err result ≡ (if not (is_some (member v.members s)) then Some NoStation else None))
    (low : None ≡ (if nat_le v.config.stations s then Some BadStation else None))
    {b : Bool} (same : is_within 1 greatest_air air ≡ b)
    (fine : None ≡ (if not b then Some BadAir else None)) where
  module _ (w : World) (bodies : ℕ → FrameValue) (h : StandsFor v w bodies) where
    before : (rows : List (Bool × Refusal)) → first_refusal
        ((is_bad_station w s, BadStation) ∷ (not (is_within 1 greatest_air air), BadAir) ∷ rows)
        ≡ first_refusal rows
    before rows = in_range v w bodies h s _ low ∙ row_passes _ _ _ _ (ap not same) fine

  fails_at : (r : Result (Unit {0}) Refusal) → result_err r
      ≡ (if not (is_some (member v.members s)) then Some NoStation else None) →
      IfErr r (λ reason. (w : World) (bodies : ℕ → FrameValue) → StandsFor v w bodies →
      refusal w (Asked (Rx s c air)) ≡ Some reason)
  fails_at (Ok u) e = tt
  fails_at (Err r) e = λ w bodies h. before w bodies h _ ∙ sym (not_there v w bodies h s _ r e)

  passes_at : (r : Result (Unit {0}) Refusal) →
      result_err r ≡ (if not (is_some (member v.members s)) then Some NoStation else None) →
      IfOk r (λ _. (w : World) (bodies : ℕ → FrameValue) → StandsFor v w bodies →
      refusal w (Asked (Rx s c air)) ≡ (if int_lt ((share w s c).deficit -ℤ pos air) (deepest_deficit
      w.config.debt)
      then Some (Debt (share w s c).deficit) else None))
  passes_at (Ok u) e = λ w bodies h. before w bodies h _ ∙ there v w bodies h s _ e
      ∙ sym (last_row _ _ _ refl)
  passes_at (Err r) e = tt

  pub receipt_fails : IfErr result (λ reason. (w : World) (bodies : ℕ → FrameValue) → StandsFor v w bodies →
      refusal w (Asked (Rx s c air)) ≡ Some reason)
  receipt_fails = fails_at result is

  pub receipt_passes : IfOk result (λ _. (w : World) (bodies : ℕ → FrameValue) → StandsFor v w bodies →
      refusal w (Asked (Rx s c air)) ≡ (if int_lt ((share w s c).deficit -ℤ pos air) (deepest_deficit
      w.config.debt)
      then Some (Debt (share w s c).deficit) else None))
  receipt_passes = passes_at result is
