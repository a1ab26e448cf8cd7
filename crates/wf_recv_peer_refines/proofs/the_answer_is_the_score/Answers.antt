-- Proves the law `the_answer_is_the_score` by the lemmas of Halves.
use Rattle.wf_recv_peer_refines.proofs.Halves.{answer_words, shown_arrived}
use Rattle.wf_recv_peer_refines.proofs.the_answer_is_the_score.Goals as goal

pub returns-clause-words : goal.returns-clause-words
returns-clause-words c = answer_words

pub returns-clause-shown : goal.returns-clause-shown
returns-clause-shown c = shown_arrived
