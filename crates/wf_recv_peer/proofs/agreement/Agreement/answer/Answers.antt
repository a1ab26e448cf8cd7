-- Proves the contract of `Agreement::answer` for a wide window: the BlockAck fills all 52 octets.
use Rattle.std.proofs.Common.{◌∙◌, sym, subst, arith}
use Rattle.std.proofs.lemmas.List.{drop_all}
use Rattle.wf_recv_peer.specs.Agreements.{AgreementValue}
use Rattle.wf_recv_peer.specs.Answering.{IsWrittenWide, wide_answer}
use Rattle.wf_recv_peer.proofs.Parts.{answered_wide}
use Rattle.wf_recv_peer.proofs.agreement.Agreement.answer.Goals as goal

pub returns-then-is_wide-clause-octets : goal.returns-then-is_wide-clause-octets
returns-then-is_wide-clause-octets c =
    answered_wide c.args.own c.args.base c.args.tid c.args.self.now.board c.write_wide.new.out
    (sym c.is_wide.ensures ∙ c.if-is_wide.true) c.write_wide.array_long
    (subst (λ (a : AgreementValue). IsWrittenWide c.write_wide.new.out
    (wide_answer c.args.own c.args.base c.args.tid a.board)) c.self.view_is c.write_wide.ensures)

pub returns-then-is_wide-clause-rest : goal.returns-then-is_wide-clause-rest
returns-then-is_wide-clause-rest c =
    drop_all 52 c.write_wide.new.out (omega arith) ∙ sym (drop_all 52 c.args.out.now (omega arith))
