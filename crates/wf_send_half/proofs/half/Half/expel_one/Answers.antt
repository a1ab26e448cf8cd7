-- Proves what `Half::expel_one` promises. By cases: the window returns a frame, for which the finished list
-- has room, or the window is empty.
use Rattle.wf_send_parts.specs.Windows.{window_of}
use Rattle.wf_send_half.proofs.CallSteps.{view_of}
use Rattle.wf_send_half.proofs.Leaves.{window_there, window_still, finish_room, frame_given, none_given}
use Rattle.wf_send_half.proofs.half.Half.expel_one.Goals as goal

pub expel-requires-clause-within : goal.expel-requires-clause-within
expel-requires-clause-within c =
    window_there c.args.self.now (view_of c.self.inside) c.self.view_is c.args.station c.args.tid
    c.requires.some

pub expel-requires-clause-none_fly : goal.expel-requires-clause-none_fly
expel-requires-clause-none_fly c =
    window_still c.args.self.now (view_of c.self.inside) c.self.view_is c.args.station c.args.tid
    c.requires.some

pub finish-requires : goal.finish-requires
finish-requires c =
    finish_room c.args.self.now (view_of c.self.inside) c.self.view_is c.args.station c.args.tid
    c.requires.some c.in-Some.parcel (window_of c.expel.new.self c.args.station c.args.tid)
    c.in-Some.ensures.some

pub returns-in-Some-clause-given : goal.returns-in-Some-clause-given
returns-in-Some-clause-given c given =
    frame_given c.args.self.now (view_of c.self.inside) c.self.view_is c.args.station c.args.tid
    c.in-Some.parcel c.expel.new.self c.finish.new.self c.in-Some.ensures.some c.in-Some.ensures.others
    c.finish.ensures

pub returns-in-None-clause-empty : goal.returns-in-None-clause-empty
returns-in-None-clause-empty c empty =
    none_given c.args.self.now (view_of c.self.inside) c.self.view_is c.args.station c.args.tid
    c.expel.new.self c.in-None.ensures.none c.in-None.ensures.others

pub returns-in-Some-clause-room : goal.returns-in-Some-clause-room
returns-in-Some-clause-room c = c.in-Some.ensures.room

pub returns-in-None-clause-room : goal.returns-in-None-clause-room
returns-in-None-clause-room c = c.in-None.ensures.room
