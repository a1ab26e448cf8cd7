-- Proves what `Half::begin_sessions` promises from what the windows and the modes do.
use Rattle.std.proofs.Common.{◌∙◌, sym, ap, subst, ℕ, ◌%◌}
use Rattle.wf_sched.specs.ClassRotas.{IsNowhere}
use Rattle.wf_sched_refines.proofs.Readings.{nowhere}
use Rattle.wf_send_parts.specs.Windows.{WindowsHaveRoom}
use Rattle.wf_send_half_model.specs.Half.{TransmitValue}
use Rattle.wf_send_half_model.specs.Changes.{AreReset, AreSet}
use Rattle.wf_send_half_model.proofs.Readers.{live_same}
use Rattle.wf_send_half.proofs.Resets.{reset}
use Rattle.wf_send_half.proofs.half.Half.begin_sessions.Goals as goal

pub returns-clause-reset : goal.returns-clause-reset
returns-clause-reset c =
    subst (λ (v : TransmitValue). AreReset v.windows c.reset_all.new.self c.args.station c.args.start
    c.args.window) c.self.view_is
    (reset c.self.inside.windows c.reset_all.new.self c.args.station c.args.window c.of.result
    c.reset_all.ensures.count c.reset_all.ensures.fresh c.reset_all.ensures.others
    (subst (λ (v : TransmitValue). WindowsHaveRoom v.windows) (sym c.self.view_is)
    c.requires.some.stands.parts.windows.room)
    c.args.start
    (λ t others low. c.reset_all.ensures.stands t others c.args.start low
    (c.of.ensures ∙ ap (λ (n : ℕ). n % 4096) c.from.ensures)))

pub returns-clause-modes : goal.returns-clause-modes
returns-clause-modes c =
    subst (λ (v : TransmitValue). AreSet v.modes c.set_all.new.self c.args.station c.args.mode) c.self.view_is
    (record {
      sized = c.set_all.ensures.count;
      own = c.set_all.ensures.set;
      others = c.set_all.ensures.others;
    })

pub returns-clause-unlisted : goal.returns-clause-unlisted
returns-clause-unlisted c =
    let r = c.requires.some in
    subst (λ (v : TransmitValue). IsNowhere v.sched c.args.station) (sym c.self.view_is)
    (nowhere c.args.self.now.sched r.world c.args.station r.stands.parts.others.turns
    (sym (live_same c.args.self.now r.world r.bodies c.args.station r.stands.parts) ∙ c.requires.absent))
