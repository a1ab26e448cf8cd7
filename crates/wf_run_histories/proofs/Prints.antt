-- Proves that the calls of workers can be printed. A driver's calls name only exchanges that have begun, and
-- a history of 2^32 entries begins at most 2^32 of them.
use Rattle.std.proofs.Common.{◌≡◌, ℕ, zero, suc, ◌+◌, ◌<◌, ◌≤◌, ◌^◌, Bool, true, false, ◌||◌, if◌then◌else◌, List, [], ◌∷◌, length, Option, Some, None, map, sym, subst, arith}
use Rattle.std.specs.Prelude.{All, ◌==◌}
use Rattle.std.proofs.lemmas.List.Elements.{All-nil, All-cons, All-head, All-tail, All-append}
use Rattle.rand_pcg.specs.Lcg.{Lcg}
use Rattle.wf_frame.specs.declared.settings.Config.{Config}
use Rattle.wf_frame.specs.declared.classes.Class.{Class}
use Rattle.wf_frame.specs.Calls.{no_limits}
use Rattle.wf_frame.specs.declared.notes.Ask.TheVariants.{Tick, Pull, Arrive, Answer, Done, Reap}
use Rattle.wf_frame.specs.declared.notes.Note.{Note}
use Rattle.wf_frame.specs.declared.notes.Note.TheVariants.{Asked}
use Rattle.wf_frame.specs.declared.notes.ReplyNote.{ReplyNote}
use Rattle.wf_frame.specs.declared.notes.ReplyNote.TheVariants.{Send}
use Rattle.wf_trace.specs.Printing.{IsPrintable}
use Rattle.wf_def_world.specs.World.{World, opening}
use Rattle.wf_def_world.specs.Step.{Outcome, step}
use Rattle.wf_def_world.specs.Run.{Entry, world_after}
use Rattle.wf_law_runs.proofs.Sums.Counters.{counts_step}
use Rattle.wf_run_histories.specs.Workloads.{Made, Driver, Phase, IsWalk, word_in, words_after, words_of, frame_from, frames_from, arrivals, last_calls, calls_left, some_of, call_in, sending, is_nothing, playing, after_in, after}
use Rattle.wf_run_histories.specs.Workloads.Phase.{Ticks, Pulls, Owes, Ends}
use Rattle.wf_run_histories.specs.Makings.{made_by}
use Rattle.wf_run_histories.specs.Walks.{CanBePrinted, WalkLaw, SenderLaw}
use Rattle.wf_run_histories.proofs.Names.{NamesBelow, names_own, names_more}

-- ---- senders

printed_frames : (s n : ℕ) (words : Lcg) → All IsPrintable (frames_from s n words)
unfolding frames_from
printed_frames s zero words = All-nil IsPrintable
printed_frames s (suc n) words =
    let one : IsPrintable (frame_from s (word_in words)) = (
      tt,
      (
        tt,
        (
          tt,
          (
            (
              omega arith,
              omega
                  arith,
            ),
            tt,
          ),
        ),
      ),
    ) in
    All-cons IsPrintable _ _ one (printed_frames s n (words_after words))

pub sender_law : (seed s frames : ℕ) → SenderLaw seed s frames
sender_law seed s frames =
    All-append IsPrintable (frames_from s frames (words_of seed s)) (Asked (Tick 1) ∷ [])
    (printed_frames s frames (words_of seed s))
    (All-cons IsPrintable (Asked (Tick 1)) [] (tt, tt) (All-nil IsPrintable))

-- ---- drivers

-- The numbers of exchanges that fit in a line.
abbrev room : ℕ
room = 2 ^ 32

-- The remaining calls of a driver can be printed.
abbrev Fits : Phase → Type 0
Fits (Owes calls) = All IsPrintable calls
Fits _ = Unit {0}

printed_arrivals : (e : ℕ) (indices : List ℕ) → e < room →
    All IsPrintable (map (λ i. Asked (Arrive e i)) indices)
printed_arrivals e [] below = All-nil IsPrintable
printed_arrivals e (i ∷ is) below = All-cons IsPrintable (Asked (Arrive e i)) _ (below, (tt, tt))
    (printed_arrivals e is below)

printed_last : (e : ℕ) (some : Bool) → e < room → All IsPrintable (last_calls e some)
printed_last e true below = All-cons IsPrintable (Asked (Answer e)) (Asked (Done e true None) ∷ [])
    (below, tt)
    (All-cons IsPrintable (Asked (Done e true None)) [] (below, (tt, tt)) (All-nil IsPrintable))
printed_last e false below = All-cons IsPrintable (Asked (Done e false None)) [] (below, (tt, tt))
    (All-nil IsPrintable)

printed_left : (e : ℕ) (some : Bool) (indices : List ℕ) → e < room →
    All IsPrintable (calls_left e some indices)
printed_left e some indices below = All-append IsPrintable _ _ (printed_arrivals e indices below)
    (printed_last e (some || some_of indices) below)

-- An exchange that a reply begins.
abbrev BeginsBelow : Option (ℕ × ℕ) → Type 0
BeginsBelow (Some x) = x.0 < room
BeginsBelow None = Unit {0}

begins : (r : ReplyNote) → NamesBelow room r → BeginsBelow (sending r)
begins (Send e s t air part more eosp) below = below
begins _ below = tt

fits_playing : (d : Driver) (over : Bool) (begun : Option (ℕ × ℕ)) → BeginsBelow begun →
    Fits (playing d over begun).phase
fits_playing d over (Some x) below = printed_left x.0 false (arrivals 0 x.1 d.words) below
fits_playing d true None below = tt
fits_playing d false None below = All-nil IsPrintable

fits_reap : (nothing : Bool) → Fits (if nothing then Ticks else Owes [])
fits_reap true = tt
fits_reap false = All-nil IsPrintable

fits_after : (d : Driver) (phase : Phase) (r : ReplyNote) → Fits d.phase → Fits phase → NamesBelow room r →
    Fits (after_in d phase r).phase
fits_after d Ticks r now fits below = tt
fits_after d (Pulls shown) r now fits below = fits_playing d _ (sending r) (begins r below)
fits_after d (Owes []) r now fits below = fits_reap (is_nothing r)
fits_after d (Owes (call ∷ calls)) r now fits below = All-tail IsPrintable call calls fits
fits_after d Ends r now fits below = now

some_is : (a b : Note) → Some a ≡ Some b → a ≡ b
some_is a b is = cc

printed_next : (class : Class) (phase : Phase) (note : Note) → Fits phase → call_in class phase ≡ Some note →
    IsPrintable note
printed_next class Ticks note fits is = subst IsPrintable (some_is (Asked (Tick 0)) note is) (tt, tt)
printed_next class (Pulls shown) note fits is = subst IsPrintable (some_is (Asked (Pull class no_limits))
    note is) (tt, tt)
printed_next class (Owes []) note fits is = subst IsPrintable (some_is (Asked Reap) note is) tt
printed_next class (Owes (call ∷ calls)) note fits is =
    subst IsPrintable (some_is call note is) (All-head IsPrintable call calls fits)
printed_next class Ends note fits is = absurd (cc)

walk_prints : (d : Driver) (made : List Made) → Fits d.phase → IsWalk d made →
    All (λ m. NamesBelow room m.1) made → CanBePrinted made
walk_prints d [] fits walk named = All-nil (λ m. IsPrintable m.0)
walk_prints d (m ∷ ms) fits walk named =
    let first : IsPrintable m.0 = printed_next d.class d.phase m.0 fits walk.0 in
    let fitting : Fits (after d m.1).phase = fits_after d d.phase m.1 fits fits
    (All-head (λ x. NamesBelow room x.1) m ms named) in
    All-cons (λ x. IsPrintable x.0) m ms first (walk_prints (after d m.1) ms fitting walk.1
    (All-tail (λ x. NamesBelow room x.1) m ms named))

-- ---- replies in a history

begun_by : (w : World) (note : Note) (n : ℕ) → w.exchanges ≤ n → (step w note).world.exchanges ≤ n + 1
begun_by w note n most = (counts_step w.clock n w note (omega arith, most)).1

begun_in : (es : List Entry) (w : World) (n : ℕ) → w.exchanges ≤ n →
    (world_after w es).exchanges ≤ n + length es
unfolding world_after
begun_in [] w n most = omega (arith, most)
begun_in (e ∷ es) w n most =
    let rest = begun_in es (step w e.1).world (n + 1) (begun_by w e.1 n most) in
    omega (arith, rest)

named_if : (b : Bool) (n : ℕ) (m : Made) (ms : List Made) → NamesBelow n m.1 →
    All (λ x. NamesBelow n x.1) ms → All (λ x. NamesBelow n x.1) (if b then m ∷ ms else ms)
named_if true n m ms first rest = All-cons (λ x. NamesBelow n x.1) m ms first rest
named_if false n m ms first rest = rest

made_named : (es : List Entry) (caller : ℕ) (w : World) (n : ℕ) → w.exchanges ≤ n → n + length es ≤ room →
    All (λ m. NamesBelow room m.1) (made_by caller w es)
unfolding made_by
made_named [] caller w n most few = All-nil (λ m. NamesBelow room m.1)
made_named (e ∷ es) caller w n most few =
    let o : Outcome = step w e.1 in
    let begun : o.world.exchanges ≤ n + 1 = begun_by w e.1 n most in
    let within : o.world.exchanges ≤ room = omega (arith, begun, few) in
    named_if (e.0 == caller) room (e.1, o.reply) (made_by caller o.world es)
    (names_more o.reply o.world.exchanges room within (names_own w e.1))
    (made_named es caller o.world (n + 1) begun (omega (arith, few)))

fits_at_first : (phase : Phase) → phase ≡ Ticks → Fits phase
fits_at_first phase is = subst Fits (sym is) tt

pub walk_law : (config : Config) (past calls : List Entry) → WalkLaw config past calls
walk_law config past calls caller d few first walk =
    let w : World = world_after (opening config) past in
    let begun = begun_in past (opening config) 0 (omega arith) in
    let before : w.exchanges ≤ length past = omega (arith, begun) in
    walk_prints d (made_by caller w calls) (fits_at_first d.phase first) walk
    (made_named calls caller w (length past) before few)
