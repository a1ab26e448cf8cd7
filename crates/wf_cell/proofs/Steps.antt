-- Proves that a new cell has the invariant of cells, and that a call keeps it and adds one entry to the
-- history.
use Rattle.std.proofs.Common.{◌≡◌, refl, ap, ap₂, sym, ◌∙◌, subst, ℕ, ◌<◌, List, [], ◌∷◌, ◌++◌, length, Option, Some, None, length-append, arith}
use Rattle.std.specs.Prelude.{◌+◌, ◌-◌, slice_get}
use Rattle.wf_frame.specs.Frames.{FrameValue}
use Rattle.wf_frame.specs.declared.notes.ReplyNote.{ReplyNote}
use Rattle.wf_frame.specs.declared.settings.Config.{Config}
use Rattle.wf_frame.specs.Settings.{IsInRange}
use Rattle.wf_def_lists.specs.Lengths.{greatest_body}
use Rattle.wf_def_world.specs.World.{World, opening}
use Rattle.wf_def_world.specs.Run.{Entry, Past, by, world_of}
use Rattle.wf_def_world.specs.Step.{step}
use Rattle.wf_law_runs.specs.Laws.{Laws}
use Rattle.wf_law_runs.specs.Lengths.{HasLengths}
use Rattle.wf_law_runs.specs.Queues.{HasLength, IsAtMost}
use Rattle.wf_law_runs.proofs.AllLaws.{laws}
use Rattle.wf_law_runs.proofs.Deficits.Configs.{config_step}
use Rattle.wf_send_half_model.specs.Standing.{StandsFor}
use Rattle.wf_path.specs.declared.job.Job.{Job}
use Rattle.wf_path.specs.Jobs.{note_of, bodies_after, frame_given_back}
use Rattle.wf_path.specs.Paths.{IsSmall}
use Rattle.wf_cell.specs.Engines.{EngineValue, EngineHasWorld, EngineIsIn, IsJobDone}
use Rattle.wf_cell.specs.Cells.{IsCell, calls_left_in, with_entry}
use Rattle.wf_cell.proofs.Runs.{world_then, has_lengths, config_after, small_of, opening_is}

-- ---- a new cell

pub new_cell : (p : Past) (engine : EngineValue) (bodies : ℕ → FrameValue) (left : ℕ) → p.history ≡ [] →
    EngineIsIn engine (opening p.config) bodies → left ≡ p.config.calls → IsCell p engine left None
new_cell p engine bodies left none is all =
    let empty : p ≡ record { config = p.config; history = [] } =
    ap (λ (h : List Entry). let q : Past = record { config = p.config; history = h } in q) none in
    record {
      bodies = bodies;
      is_in = subst (λ (w : World). EngineIsIn engine w bodies)
          (sym (ap world_of empty ∙ opening_is p.config)) is;
      lengths = subst HasLengths (sym none) (tt, tt);
      counted = omega (arith, ap length none, all);
      latest = sym (ap (λ (h : List Entry). slice_get h (length h - 1)) none);
    }

-- ---- a call

-- the last entry of a list
at_end : (h : List Entry) (e : Entry) → slice_get (h ++ e ∷ []) (length h) ≡ Some e
at_end [] e = refl
at_end (x ∷ h) e = at_end h e

last_of : (h : List Entry) (e : Entry) → slice_get (h ++ e ∷ []) (length (h ++ e ∷ []) - 1) ≡ Some e
last_of h e =
    let place : length (h ++ e ∷ []) - 1 ≡ length h = omega (arith, length-append h (e ∷ [])) in
    rw place (at_end h e)

module _ (p : Past) (engine : EngineValue) (left : ℕ) (last : Option Entry)
    (is : IsCell p engine left last) where
  pub range_of : IsInRange p.config
  range_of = subst IsInRange (config_after p.history (opening p.config)) is.is_in.half.reached.in_range

  pub all_laws : Laws p.config p.history
  all_laws = laws p.config p.history range_of

  pub has_world : EngineHasWorld engine
  has_world = record { world = world_of p; bodies = is.bodies; is_in = is.is_in }

  pub is_small : IsSmall engine.half
  is_small =
      small_of engine.half p is.bodies range_of is.is_in.half (omega (arith, is.counted, range_of.calls.1))

-- after a call, if there was room
module _ (p : Past) (engine : EngineValue) (left : ℕ) (last : Option Entry)
    (is : IsCell p engine left last)
    (own : p.config ≡ engine.half.config) (room : 0 < calls_left_in p) (caller : ℕ) (job : Job)
    (after : EngineValue)
    (answered : ReplyNote) (given : Option FrameValue)
    (done : (w : World) (bodies : ℕ → FrameValue) → EngineIsIn engine w bodies →
    IsJobDone w bodies job engine.half after answered given) where
  pub stepped : IsJobDone (world_of p) is.bodies job engine.half after answered given
  stepped = done (world_of p) is.bodies is.is_in

  pub replied : answered ≡ (step (world_of p) (note_of job)).reply
  replied = stepped.reply

  pub came_back : (bodies : ℕ → FrameValue) → StandsFor engine.half (world_of p) bodies →
      given ≡ frame_given_back bodies job answered
  came_back bodies stands = (done (world_of p) bodies (record { half = stands; hears = is.is_in.hears })).back

  pub config_kept : after.half.config ≡ p.config
  config_kept =
      stepped.is_in.half.parts.others.config ∙ config_step (world_of p) (note_of job)
      ∙ sym is.is_in.half.parts.others.config ∙ sym own

  world_next : world_of (with_entry (by caller (note_of job)) p) ≡ (step (world_of p) (note_of job)).world
  world_next = world_then p.history (opening p.config) (by caller (note_of job))

  pub past_grown : (history : List Entry) → history ≡ p.history ++ by caller (note_of job) ∷ [] →
      record { config = after.half.config; history = history } ≡ with_entry (by caller (note_of job)) p
  past_grown history grown = ap₂ (λ (c : Config) (h : List Entry). let q : Past =
      record { config = c; history = h } in q) config_kept grown

  pub still_stands : (bodies : ℕ → FrameValue) → StandsFor engine.half (world_of p) bodies →
      StandsFor after.half (world_of (with_entry (by caller (note_of job)) p))
      (bodies_after engine.half (world_of p) job answered bodies)
  still_stands bodies stands =
      subst (λ (w : World). StandsFor after.half w (bodies_after engine.half
      (world_of p) job answered bodies))
      (sym world_next)
      (done (world_of p) bodies (record { half = stands; hears = is.is_in.hears })).is_in.half

  pub next_cell : (history : List Entry) (fewer : ℕ) (newest : Option Entry) →
      history ≡ p.history ++ by caller (note_of job) ∷ [] → fewer + 1 ≡ left →
      newest ≡ Some (by caller (note_of job)) → HasLength (note_of job) →
      IsAtMost greatest_body (note_of job) →
      IsCell (record { config = after.half.config; history = history }) after fewer newest
  next_cell history fewer newest grown one latest some most =
      subst (λ (q : Past). IsCell q after fewer newest) (sym (past_grown history grown)) (record {
        bodies = bodies_after engine.half (world_of p) job answered is.bodies;
        is_in = subst (λ (w : World). EngineIsIn after w (bodies_after engine.half
            (world_of p) job answered is.bodies))
            (sym world_next) stepped.is_in;
        lengths = has_lengths p.history (by caller (note_of job)) is.lengths some most;
        counted = omega (arith, one, is.counted, length-append p.history (by caller (note_of job) ∷ []));
        latest = latest ∙ sym (last_of p.history (by caller (note_of job)));
      })
