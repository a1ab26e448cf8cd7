-- Proves that a new cell has only sample frames, and that a call of a trace keeps this; and what the path of
-- such a cell returns.
use Rattle.std.proofs.Common.{◌≡◌, refl, ap, ap₂, sym, ◌∙◌, subst, ℕ, ◌+◌, ◌-◌, ◌<◌, List, [], ◌∷◌, ◌++◌, length, Option, Some, None, arith, length-append}
use Rattle.std.specs.Prelude.{slice_get, option_map, IfSome}
use Rattle.wf_frame.specs.Frames.{FrameValue, new_frame}
use Rattle.wf_frame.specs.declared.notes.Note.{Note}
use Rattle.wf_frame.specs.declared.notes.ReplyNote.{ReplyNote}
use Rattle.wf_frame.specs.declared.settings.Config.{Config}
use Rattle.wf_def_world.specs.Group.{bss_count}
use Rattle.wf_def_world.specs.World.{World, exchange, opening}
use Rattle.wf_def_world.specs.Run.{Entry, Past, by, world_of}
use Rattle.wf_def_world.specs.Step.{step}
use Rattle.wf_send_half_model.specs.Half.{TransmitValue}
use Rattle.wf_send_half_model.specs.Standing.{StandsFor, IsReached}
use Rattle.wf_path.specs.declared.reading.Sent.{Sent}
use Rattle.wf_path.specs.Transmissions.{sent_of}
use Rattle.wf_path.specs.declared.job.Job.{Job}
use Rattle.wf_path.specs.Jobs.{frame_of, bodies_after}
use Rattle.wf_cell.specs.Cells.{CellValue, with_entry}
use Rattle.wf_cell.proofs.Exchanges.{told_tid}
use Rattle.wf_cell.proofs.Runs.{world_then, opening_is}
use Rattle.wf_report.specs.Packets.{frames_by, packets_at, octets_of_packets}
use Rattle.wf_report.specs.Captures.{samples, packets_of}
use Rattle.wf_report.specs.Samples.{world_behind, IsSample, IsSampled}
use Rattle.wf_report.proofs.Sampled.{no_sample, after_sample}

abbrev no_frames : ℕ → FrameValue
no_frames id = new_frame 0 0 0 []

-- ---- for callers: a new cell has only sample frames, and so does one after a call of a trace

pub new_is : (c : CellValue) (config : Config) → c.past ≡ record { config = config; history = [] } →
    world_behind c ≡ opening config
new_is c config is = ap world_of is ∙ opening_is config

pub new_sampled : (c : CellValue) (config : Config) → c.past ≡ record { config = config; history = [] } →
    ((bodies : ℕ → FrameValue) → StandsFor c.half (opening config) bodies) → IsSampled c
new_sampled c config is stands = record {
  bodies = no_frames;
  stands = subst (λ (w : World). StandsFor c.half w no_frames) (sym (new_is c config is)) (stands no_frames);
  samples = λ id. no_sample;
}

pub then_sampled : (old new : CellValue) (job : Job) (answered : ReplyNote) → IsSampled old →
    ((f : FrameValue) → frame_of job ≡ Some f → IsSample f) →
    ((bodies : ℕ → FrameValue) → StandsFor old.half (world_of old.past) bodies →
    StandsFor new.half (world_of new.past) (bodies_after old.half (world_of old.past) job answered bodies)) →
    IsSampled new
then_sampled old new job answered s brought stands = record {
  bodies = bodies_after old.half (world_of old.past) job answered s.bodies;
  stands = stands s.bodies s.stands;
  samples = after_sample old.half (world_of old.past) job answered s.bodies s.samples brought;
}

-- The world after one more call.
pub world_is : (p q : Past) (e : Entry) → q ≡ with_entry e p → world_of q ≡ (step (world_of p) e.1).world
world_is p q e is = ap world_of is ∙ world_then p.history (opening p.config) e

-- ---- a BSS of the world is one of the half

pub bss_within : (v : TransmitValue) (w : World) (bodies : ℕ → FrameValue) (b : ℕ) → StandsFor v w bodies →
    b < bss_count w.config.bsses → b < bss_count v.config.bsses
bss_within v w bodies b stands within =
    subst (λ (c : Config). b < bss_count c.bsses) (sym stands.parts.others.config) within

-- ---- the TID of an exchange is at most 7

pub told_low : (w : World) (e : ℕ) → IsReached w → (o : Option Sent) → o ≡ option_map sent_of (exchange w e) →
    IfSome o (λ sent. sent.tid < 8)
told_low w e reached None is = tt
told_low w e reached (Some sent) is = told_tid w e sent reached (sym is)

-- ---- the call that was made last

one_more : (p q : Past) (e : Entry) → q ≡ with_entry e p → length q.history ≡ length p.history + 1
one_more p q e is = ap (λ (x : Past). length x.history) is ∙ length-append p.history (e ∷ [])

last_is : (h : List Entry) (e : Entry) → slice_get (h ++ e ∷ []) (length h) ≡ Some e
last_is [] e = refl
last_is (x ∷ h) e = last_is h e

pub last_entry : (p q : Past) (e : Entry) → q ≡ with_entry e p →
    slice_get q.history (length q.history - 1) ≡ Some e
last_entry p q e is =
    let at : length q.history - 1 ≡ length p.history = omega (arith, one_more p q e is) in
    ap (λ k. slice_get q.history k) at ∙ ap (λ (x : Past). slice_get x.history (length p.history)) is
    ∙ last_is p.history e

-- ---- the packets of a call, by the world after it

packets_are : (c : CellValue) (p : Past) (caller : ℕ) (note : Note) (answered : ReplyNote) →
    c.past ≡ with_entry (by caller note) p → answered ≡ (step (world_of p) note).reply →
    octets_of_packets (packets_at (world_behind c).clock
    (frames_by (world_behind c) (samples (world_behind c)) note answered)) ≡ packets_of (world_of p) note
packets_are c p caller note answered is reply =
    ap₂ (λ (w : World) (a : ReplyNote). octets_of_packets
    (packets_at w.clock (frames_by w (samples w) note a))) (world_is p c.past (by caller note) is) reply

pub call_is : (c : CellValue) (p : Past) (caller : ℕ) (note told : Note) (answered : ReplyNote) →
    Some told ≡ Some note → c.past ≡ with_entry (by caller note) p →
    answered ≡ (step (world_of p) note).reply →
    octets_of_packets (packets_at (world_behind c).clock
    (frames_by (world_behind c) (samples (world_behind c)) told answered)) ≡ packets_of (world_of p) note
call_is c p caller note told answered known is reply =
    let same : told ≡ note = cc in
    ap (λ (n : Note). octets_of_packets (packets_at (world_behind c).clock
    (frames_by (world_behind c) (samples (world_behind c)) n answered))) same
    ∙ packets_are c p caller note answered is reply
