-- Defines all laws of a history together. Each law is a statement about the worlds after each entry.
use Rattle.std.specs.Prelude.{List}
use Rattle.wf_frame.specs.declared.settings.Config.{Config}
use Rattle.wf_def_rotation.specs.Loop.{VisitLaw}
use Rattle.wf_def_world.specs.Run.{Entry}
use Rattle.wf_law_runs.specs.Windows.{WindowLaw}
use Rattle.wf_law_runs.specs.Answers.{AnswerLaw}
use Rattle.wf_law_runs.specs.Releases.{ReleaseLaw, OnceLaw}
use Rattle.wf_law_runs.specs.Flows.{FlowQueueLaw, FlowReleaseLaw, FlowSendLaw}
use Rattle.wf_law_runs.specs.Delivery.{DeliveryLaw}
use Rattle.wf_law_runs.specs.Fates.{FateLaw}
use Rattle.wf_law_runs.specs.Kept.{KeptLaw}
use Rattle.wf_law_runs.specs.Finished.{FinishedLaw}
use Rattle.wf_law_runs.specs.Tallies.{TallyLaw}
use Rattle.wf_law_runs.specs.Places.{PlaceLaw}
use Rattle.wf_law_runs.specs.Room.{RoomLaw, LimitLaw}
use Rattle.wf_law_runs.specs.TwelveBits.{TwelveBitLaw}
use Rattle.wf_law_runs.specs.Queues.{QueueLaw, QueueDeficitLaw}
use Rattle.wf_law_runs.specs.Deficits.{DeficitLaw, WeightLaw, QuietLaw, FairnessLaw}
use Rattle.wf_law_runs.specs.Shares.{ComputedLaw, ShareLaw, SpentLaw}
use Rattle.wf_law_runs.specs.Waiting.{WaitingLaw, SparseLaw}
use Rattle.wf_law_runs.specs.Ranges.{RangeLaw}
use Rattle.wf_law_runs.specs.Numbers.{NumberLaw}
use Rattle.wf_law_runs.specs.InFlight.{InFlightLaw}
use Rattle.wf_law_runs.specs.Delay.{DelayLaw}
use Rattle.wf_law_runs.specs.Dequeues.{CodelLaw}
use Rattle.wf_law_runs.specs.Sums.{SumLaw}
use Rattle.wf_law_runs.specs.Sent.{SentLaw}
use Rattle.wf_law_runs.specs.Attempts.{AttemptsLaw}
use Rattle.wf_law_runs.specs.Tries.{TriesLaw}
use Rattle.wf_law_runs.specs.Rotations.{RotationLaw}
use Rattle.wf_law_runs.specs.Offloads.{OffloadLaw}
use Rattle.wf_law_runs.specs.Modes.{ModeLaw, RepeatLaw}
use Rattle.wf_law_runs.specs.Unsettled.{UnsettledLaw}
use Rattle.wf_law_runs.specs.Groups.{GroupApartLaw, GroupCountLaw, GroupOrderLaw, DtimLaw, AnnouncedLaw, GroupMoreLaw}
use Rattle.wf_law_runs.specs.Services.{GrantedLaw, TriggerLaw, ServiceLimitLaw, ServiceEndLaw, EospLaw, LastLaw, ServiceApartLaw}

-- The laws of a history.
pub record Laws (config : Config) (history : List Entry) : Type 0 where
  -- How far the numbers of both sides of an agreement are from each other, which answer a Done uses, and
  -- which frames are released.
  pub windows : WindowLaw config history
  pub answers : AnswerLaw config history
  pub releases : ReleaseLaw config history
  -- No id is released twice, each acknowledged frame has reached its receiver, and no fate other than Held
  -- changes.
  pub once : OnceLaw config history
  -- With `keep_order`, the queued frames of each flow are in one queue, and each flow is passed up in the
  -- order in which it was put in.
  pub flow_queues : FlowQueueLaw config history
  pub flow_releases : FlowReleaseLaw config history
  -- Each flow is first sent in this order.
  pub flow_sends : FlowSendLaw config history
  pub delivery : DeliveryLaw config history
  -- The device of an offloaded station gets frames and no requests.
  pub offloads : OffloadLaw config history
  -- The frames that a TID without an agreement sends, when its mode changes, and how its receiver knows a
  -- repeat.
  pub modes : ModeLaw config history
  pub repeats : RepeatLaw config history
  pub fates : FateLaw config history
  -- A number keeps its frame, and stays acknowledged or failed.
  pub kept : KeptLaw config history
  -- Each frame with a fate other than Held is on the finished list once, until it is reaped once.
  pub finished : FinishedLaw config history
  -- The counts of frames by fate add up to the number of accepted frames.
  pub tallies : TallyLaw config history
  -- Each held frame is in exactly one place.
  pub places : PlaceLaw config history
  -- The frames that are inside are those that were accepted and not reaped, and there are not too many of
  -- them. The flow queues stay within their limit.
  pub room : RoomLaw config history
  pub limit : LimitLaw config history
  -- The deficits of stations, which stations are quiet, and airtime fairness.
  pub deficits : DeficitLaw config history
  -- A station's weight changes only when it is set.
  pub weights : WeightLaw config history
  pub quiet : QuietLaw config history
  pub fairness : FairnessLaw config history
  -- If no Done gives an airtime, each charges the computed airtime, and a station spends the computed airtime
  -- of the exchanges that are opened for it.
  pub computed : ComputedLaw config history
  pub spent : SpentLaw config history
  -- No station gets more for its weight than a backlogged one. Nobody starves. A station of the new list with
  -- airtime left is next.
  pub shares : ShareLaw config history
  pub waiting : WaitingLaw config history
  pub sparse : SparseLaw config history
  -- The pick in closed form has the result of the paper's loop, turn by turn.
  pub turns : VisitLaw
  -- The lists of stations, when a Pull is Idle, and that each pick of the run has the result of the loop.
  pub rotations : RotationLaw config history
  -- The laws that code with twelve-bit numbers and with linked queues relies on.
  pub twelve_bits : TwelveBitLaw config history
  pub queues : QueueLaw config history
  pub queue_deficits : QueueDeficitLaw config history
  -- CoDel drops a frame only if each look of the last interval saw a standing queue, and only a limited
  -- number of frames in a time.
  pub codel : CodelLaw config history
  -- The laws that code with numbers of fixed width relies on.
  pub ranges : RangeLaw config history
  pub numbers : NumberLaw config history
  -- The computed airtime of the open exchanges stays near its limits, and so does what ends while an exchange
  -- is in the device.
  pub in_flight : InFlightLaw config history
  pub delay : DelayLaw config history
  -- The sums of airtime equal the sums of the calls since the join, and the sums and counts are bounded by
  -- the number of entries.
  pub sums : SumLaw config history
  -- How many numbers of a TID wait or are on the air.
  pub unsettled : UnsettledLaw config history
  -- The frames that an open exchange sends.
  pub sent : SentLaw config history
  -- How often a number is sent without being acknowledged, and how often a frame is sent in the whole run.
  pub attempts : AttemptsLaw config history
  pub tries : TriesLaw config history
  -- Calls about group frames are apart from all others. The counts of group frames add up, and they are sent
  -- in the order of their ids.
  pub groups_apart : GroupApartLaw
  pub group_counts : GroupCountLaw config history
  pub group_order : GroupOrderLaw config history
  -- Which beacon announces a group frame that is sent while a station sleeps, when a beacon announces group
  -- frames, and which of them have the More Data bit.
  pub dtim : DtimLaw config history
  pub announced : AnnouncedLaw config history
  pub group_more : GroupMoreLaw config history
  -- The exchanges that a station gets while it sleeps. How a service period begins, how many frames it has,
  -- and how it ends.
  pub granted : GrantedLaw config history
  pub triggers : TriggerLaw config history
  pub service_limits : ServiceLimitLaw config history
  pub service_ends : ServiceEndLaw config history
  -- Which exchanges of a service period have the EOSP bit.
  pub eosp : EospLaw config history
  pub last : LastLaw config history
  -- Calls about service periods are apart from all else.
  pub services_apart : ServiceApartLaw
