-- Proves all laws of a history together, from the proof of each.
use Rattle.std.specs.Prelude.{List}
use Rattle.wf_frame.specs.declared.settings.Config.{Config}
use Rattle.wf_frame.specs.Settings.{IsInRange}
use Rattle.wf_def_world.specs.Run.{Entry}
use Rattle.wf_law_runs.specs.Laws.{Laws}
use Rattle.wf_law_rules.proofs.Lemmas.Visits.{visit_law}
use Rattle.wf_law_runs.proofs.Windows.Law.{window_law}
use Rattle.wf_law_runs.proofs.Windows.Answers.{answer_law}
use Rattle.wf_law_runs.proofs.Releases.Named.{release_law}
use Rattle.wf_law_runs.proofs.Releases.Once.{once_law}
use Rattle.wf_law_runs.proofs.Orders.Law.{flow_queue_law, flow_release_law}
use Rattle.wf_law_runs.proofs.Orders.Sends.{flow_send_law}
use Rattle.wf_law_runs.proofs.Frames.DeliveryLaw.{delivery_law}
use Rattle.wf_law_runs.proofs.Frames.FateLaw.{fate_law}
use Rattle.wf_law_runs.proofs.Kept.Law.{kept_law}
use Rattle.wf_law_runs.proofs.Frames.FinishedLaw.{finished_law}
use Rattle.wf_law_runs.proofs.Frames.Tallies.{tally_law}
use Rattle.wf_law_runs.proofs.Deficits.Law.{deficits}
use Rattle.wf_law_runs.proofs.Deficits.Quiet.{quiet}
use Rattle.wf_law_runs.proofs.Fairness.Law.{fairness}
use Rattle.wf_law_runs.proofs.Shares.Law.{share_law}
use Rattle.wf_law_runs.proofs.Shares.Waits.{waiting_law, sparse_law}
use Rattle.wf_law_runs.proofs.Shares.Weights.{weight_law}
use Rattle.wf_law_runs.proofs.Rotations.Law.{rotation_law}
use Rattle.wf_law_runs.proofs.Frames.Places.{place_law}
use Rattle.wf_law_runs.proofs.Frames.Rooms.{room_law}
use Rattle.wf_law_runs.proofs.Queues.Limit.{limit_law}
use Rattle.wf_law_runs.proofs.Ranges.Law.{range_law}
use Rattle.wf_law_runs.proofs.Deficits.Numbers.{number_law}
use Rattle.wf_law_runs.proofs.Deficits.InFlight.{in_flight_law}
use Rattle.wf_law_runs.proofs.Deficits.Delay.{delay_law}
use Rattle.wf_law_runs.proofs.Dequeues.Law.{codel_law}
use Rattle.wf_law_runs.proofs.Windows.TwelveBits.{twelve_bit_law}
use Rattle.wf_law_runs.proofs.Sums.Law.{sum_law}
use Rattle.wf_law_runs.proofs.Sent.Law.{sent_law}
use Rattle.wf_law_runs.proofs.Attempts.Law.{attempts_law}
use Rattle.wf_law_runs.proofs.Tries.Law.{tries_law}
use Rattle.wf_law_runs.proofs.Queues.Law.{queue_law, queue_deficit_law}
use Rattle.wf_law_runs.proofs.Spent.Computed.{computed_law}
use Rattle.wf_law_runs.proofs.Spent.Sent.{spent_law}
use Rattle.wf_law_runs.proofs.Offloads.Law.{offload_law}
use Rattle.wf_law_runs.proofs.Modes.Law.{mode_law}
use Rattle.wf_law_runs.proofs.Modes.Repeats.{repeat_law}
use Rattle.wf_law_runs.proofs.Unsettled.Law.{unsettled_law}
use Rattle.wf_law_runs.proofs.Groups.Apart.{apart_law}
use Rattle.wf_law_runs.proofs.Groups.Counts.{count_law}
use Rattle.wf_law_runs.proofs.Groups.Orders.{order_law}
use Rattle.wf_law_runs.proofs.Groups.Beacons.{dtim_law, announced_law, more_law}
use Rattle.wf_law_runs.proofs.Services.Granted.{granted_law, eosp_law, last_law}
use Rattle.wf_law_runs.proofs.Services.Periods.{trigger_law, end_law}
use Rattle.wf_law_runs.proofs.Services.Limits.{limit_law as service_limit_law}
use Rattle.wf_law_runs.proofs.Services.Apart.{apart_law as service_apart_law}

pub laws : (config : Config) (history : List Entry) → IsInRange config → Laws config history
laws config h range = record {
  windows = window_law config h;
  answers = answer_law config h;
  releases = release_law config h range;
  once = once_law config h;
  flow_queues = flow_queue_law config h range;
  flow_releases = flow_release_law config h range;
  flow_sends = flow_send_law config h range;
  delivery = delivery_law config h range;
  offloads = offload_law config h range;
  modes = mode_law config h range;
  repeats = repeat_law config h range;
  fates = fate_law config h;
  kept = kept_law config h;
  finished = finished_law config h;
  tallies = tally_law config h;
  places = place_law config h range;
  room = room_law config h range;
  limit = limit_law config h range;
  deficits = deficits config h range;
  weights = weight_law config h range;
  quiet = quiet config h range;
  fairness = fairness config h range;
  computed = computed_law config h;
  spent = spent_law config h range;
  shares = share_law config h range;
  waiting = waiting_law config h range;
  sparse = sparse_law config h;
  turns = visit_law;
  rotations = rotation_law config h range;
  twelve_bits = twelve_bit_law config h;
  queues = queue_law config h range;
  queue_deficits = queue_deficit_law config h range;
  codel = codel_law config h;
  ranges = range_law config h range;
  numbers = number_law config h range;
  in_flight = in_flight_law config h range;
  delay = delay_law config h range;
  sums = sum_law config h range;
  unsettled = unsettled_law config h range;
  sent = sent_law config h;
  attempts = attempts_law config h range;
  tries = tries_law config h range;
  groups_apart = apart_law;
  group_counts = count_law config h;
  group_order = order_law config h;
  dtim = dtim_law config h;
  announced = announced_law config h;
  group_more = more_law config h;
  granted = granted_law config h;
  triggers = trigger_law config h;
  service_limits = service_limit_law config h;
  service_ends = end_law config h;
  eosp = eosp_law config h;
  last = last_law config h;
  services_apart = service_apart_law;
}
