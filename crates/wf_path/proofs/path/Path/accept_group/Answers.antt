-- Proves that no count rises by much when `Path::accept_group` accepts a frame.
use Rattle.std.proofs.Common.{subst}
use Rattle.wf_frame.specs.Calls.{in_bss}
use Rattle.wf_frame.specs.declared.notes.Ask.TheVariants.{Group}
use Rattle.wf_frame.specs.declared.notes.GroupAsk.TheVariants.{Accept}
use Rattle.wf_frame.specs.declared.notes.GroupReply.TheVariants.{Queued}
use Rattle.wf_frame.specs.declared.notes.Note.TheVariants.{Asked}
use Rattle.wf_frame.specs.declared.notes.ReplyNote.TheVariants as reply
use Rattle.wf_send_half.specs.Replies.{reply_of_result}
use Rattle.wf_send_half_model.specs.Half.{TransmitValue}
use Rattle.wf_path.specs.Paths.{RiseLittle}
use Rattle.wf_path.proofs.Rises.{rises_by}
use Rattle.wf_path.proofs.Values.{half_is}
use Rattle.wf_path.proofs.path.Path.accept_group.Goals as goal

pub returns-clause-rises : goal.returns-clause-rises
returns-clause-rises c =
    let h = c.self.invariant in
    subst (λ (z : TransmitValue). RiseLittle z c.accept_group.new.self) (half_is c.self.view_is)
    (rises_by c.self.inside.half c.accept_group.new.self h h.bodies
    (Asked (Group (in_bss c.args.bss (Accept c.args.len))))
    (reply_of_result (λ id. reply.Group (Queued id)) c.accept_group.result)
    (c.accept_group.ensures.meets h.world h.bodies h.stands))
