-- Proves that each BSS keeps its room in `Groups::pull`: one queue of as much room is in place of another.
use Rattle.wf_send_parts.proofs.GroupFrames.{room_changed}
use Rattle.wf_send_parts.proofs.groups.Groups.pull.Goals as goal

pub returns-clause-room : goal.returns-clause-room
returns-clause-room c n h = room_changed c.self.inside.queues.items c.args.self.now c.self.view_is c.args.bss
    c.from.result c.from.ensures c.requires.within c.index_mut.result.now c.pull.new.self
    c.index_mut.ensures.value c.pull.ensures.room n h
