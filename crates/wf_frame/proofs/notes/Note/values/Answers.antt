-- Proves that the values of a call's arguments make the call again, by TableLaws.
use Rattle.wf_frame.proofs.TableLaws.{made_again}
use Rattle.wf_frame.proofs.notes.Note.values.Goals as goal

pub returns-in-Asked-clause-back : goal.returns-in-Asked-clause-back
returns-in-Asked-clause-back c = made_again _
