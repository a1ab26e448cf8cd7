-- Proves the law `only_held_frames_matter` by the lemmas of Held.
use Rattle.wf_send_parts.proofs.Held.{held_stand, all_held_stand}
use Rattle.wf_send_parts.proofs.window.many_sessions.only_held_frames_matter.Goals as goal

pub returns-clause-one : goal.returns-clause-one
returns-clause-one c w s bodies others stands frames = held_stand bodies others w s stands frames

pub returns-clause-all : goal.returns-clause-all
returns-clause-all c windows is_live sessions bodies others all frames =
    all_held_stand bodies others windows is_live sessions all frames
