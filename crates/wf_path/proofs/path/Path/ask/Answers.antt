-- Proves what `Path::ask` promises. By cases of the call, from the promise of its function.
use Rattle.std.proofs.Common.{sym, subst}
use Rattle.wf_path.specs.declared.asks.PathAsk.{PathAsk}
use Rattle.wf_path.specs.Jobs.{as_ask}
use Rattle.wf_path.specs.Paths.{IsAnsweredBriefly}
use Rattle.wf_path.proofs.path.Path.ask.Goals as goal

pub returns-in-Join : goal.returns-in-Join
returns-in-Join c =
    subst (λ (ask : PathAsk). IsAnsweredBriefly c.args.self.now (as_ask ask) c.join.new.self c.join.result)
    (sym c.in-Join.is) c.join.ensures

pub returns-in-Leave : goal.returns-in-Leave
returns-in-Leave c =
    subst (λ (ask : PathAsk). IsAnsweredBriefly c.args.self.now (as_ask ask) c.leave.new.self c.leave.result)
    (sym c.in-Leave.is) c.leave.ensures

pub returns-in-Rate : goal.returns-in-Rate
returns-in-Rate c =
    subst (λ (ask : PathAsk). IsAnsweredBriefly c.args.self.now (as_ask ask) c.rate.new.self c.rate.result)
    (sym c.in-Rate.is) c.rate.ensures

pub returns-in-Tick : goal.returns-in-Tick
returns-in-Tick c =
    subst (λ (ask : PathAsk). IsAnsweredBriefly c.args.self.now (as_ask ask) c.tick.new.self c.tick.result)
    (sym c.in-Tick.is) c.tick.ensures

pub returns-in-Sleep : goal.returns-in-Sleep
returns-in-Sleep c =
    subst (λ (ask : PathAsk). IsAnsweredBriefly c.args.self.now (as_ask ask) c.sleep.new.self c.sleep.result)
    (sym c.in-Sleep.is) c.sleep.ensures

pub returns-in-Wake : goal.returns-in-Wake
returns-in-Wake c =
    subst (λ (ask : PathAsk). IsAnsweredBriefly c.args.self.now (as_ask ask) c.wake.new.self c.wake.result)
    (sym c.in-Wake.is) c.wake.ensures

pub returns-in-Poll : goal.returns-in-Poll
returns-in-Poll c =
    subst (λ (ask : PathAsk). IsAnsweredBriefly c.args.self.now (as_ask ask) c.poll.new.self c.poll.result)
    (sym c.in-Poll.is) c.poll.ensures

pub returns-in-Rx : goal.returns-in-Rx
returns-in-Rx c =
    subst (λ (ask : PathAsk). IsAnsweredBriefly c.args.self.now (as_ask ask) c.rx.new.self c.rx.result)
    (sym c.in-Rx.is) c.rx.ensures

pub returns-in-Ampdu : goal.returns-in-Ampdu
returns-in-Ampdu c =
    subst (λ (ask : PathAsk). IsAnsweredBriefly c.args.self.now (as_ask ask) c.ampdu.new.self c.ampdu.result)
    (sym c.in-Ampdu.is) c.ampdu.ensures

pub returns-in-Stop : goal.returns-in-Stop
returns-in-Stop c =
    subst (λ (ask : PathAsk). IsAnsweredBriefly c.args.self.now (as_ask ask) c.stop.new.self c.stop.result)
    (sym c.in-Stop.is) c.stop.ensures

pub returns-in-Start : goal.returns-in-Start
returns-in-Start c =
    subst (λ (ask : PathAsk). IsAnsweredBriefly c.args.self.now (as_ask ask) c.start.new.self c.start.result)
    (sym c.in-Start.is) c.start.ensures

pub returns-in-Unsent : goal.returns-in-Unsent
returns-in-Unsent c =
    subst (λ (ask : PathAsk). IsAnsweredBriefly c.args.self.now (as_ask ask) c.unsent.new.self
    c.unsent.result)
    (sym c.in-Unsent.is) c.unsent.ensures

pub returns-in-GiveUp : goal.returns-in-GiveUp
returns-in-GiveUp c =
    subst (λ (ask : PathAsk). IsAnsweredBriefly c.args.self.now (as_ask ask) c.give_up.new.self
    c.give_up.result)
    (sym c.in-GiveUp.is) c.give_up.ensures

pub returns-in-Flush : goal.returns-in-Flush
returns-in-Flush c =
    subst (λ (ask : PathAsk). IsAnsweredBriefly c.args.self.now (as_ask ask) c.flush.new.self c.flush.result)
    (sym c.in-Flush.is) c.flush.ensures

pub returns-in-Offload : goal.returns-in-Offload
returns-in-Offload c =
    subst (λ (ask : PathAsk). IsAnsweredBriefly c.args.self.now (as_ask ask) c.offload.new.self
    c.offload.result)
    (sym c.in-Offload.is) c.offload.ensures

pub returns-in-Weight : goal.returns-in-Weight
returns-in-Weight c =
    subst (λ (ask : PathAsk). IsAnsweredBriefly c.args.self.now (as_ask ask) c.weight.new.self
    c.weight.result)
    (sym c.in-Weight.is) c.weight.ensures

pub returns-in-Plain : goal.returns-in-Plain
returns-in-Plain c =
    subst (λ (ask : PathAsk). IsAnsweredBriefly c.args.self.now (as_ask ask) c.plain.new.self c.plain.result)
    (sym c.in-Plain.is) c.plain.ensures

pub returns-in-Hold : goal.returns-in-Hold
returns-in-Hold c =
    subst (λ (ask : PathAsk). IsAnsweredBriefly c.args.self.now (as_ask ask) c.hold.new.self c.hold.result)
    (sym c.in-Hold.is) c.hold.ensures

pub returns-in-Begin : goal.returns-in-Begin
returns-in-Begin c =
    subst (λ (ask : PathAsk). IsAnsweredBriefly c.args.self.now (as_ask ask) c.begin.new.self c.begin.result)
    (sym c.in-Begin.is) c.begin.ensures

pub returns-in-Free : goal.returns-in-Free
returns-in-Free c =
    subst (λ (ask : PathAsk). IsAnsweredBriefly c.args.self.now (as_ask ask) c.free.new.self c.free.result)
    (sym c.in-Free.is) c.free.ensures

pub returns-in-Cease : goal.returns-in-Cease
returns-in-Cease c =
    subst (λ (ask : PathAsk). IsAnsweredBriefly c.args.self.now (as_ask ask) c.cease.new.self c.cease.result)
    (sym c.in-Cease.is) c.cease.ensures

pub returns-in-Group : goal.returns-in-Group
returns-in-Group c =
    subst (λ (ask : PathAsk). IsAnsweredBriefly c.args.self.now (as_ask ask) c.group.new.self c.group.result)
    (sym c.in-Group.is) c.group.ensures

pub returns-in-Bss : goal.returns-in-Bss
returns-in-Bss c =
    subst (λ (ask : PathAsk). IsAnsweredBriefly c.args.self.now (as_ask ask) c.set_bss.new.self
    c.set_bss.result)
    (sym c.in-Bss.is) c.set_bss.ensures

pub returns-in-Service : goal.returns-in-Service
returns-in-Service c =
    subst (λ (ask : PathAsk). IsAnsweredBriefly c.args.self.now (as_ask ask) c.service.new.self
    c.service.result)
    (sym c.in-Service.is) c.service.ensures
