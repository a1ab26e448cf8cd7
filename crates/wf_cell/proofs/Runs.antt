-- Proves what the laws of runs say of the world after a history, and of a history with one more entry.
use Rattle.std.proofs.Common.{◌≡◌, refl, ap, ◌∙◌, subst, ℕ, ◌+◌, ◌*◌, ◌<◌, ◌≤◌, ◌^◌, List, [], ◌∷◌, ◌++◌, length, take, Option, Some, None, IfSome, is_some, unwrap_or, arith}
use Rattle.wf_frame.specs.Frames.{FrameValue}
use Rattle.wf_frame.specs.declared.classes.Class.{Class}
use Rattle.wf_frame.specs.declared.settings.Config.{Config}
use Rattle.wf_frame.specs.Settings.{IsInRange}
use Rattle.wf_def_lists.specs.Bounds.{greatest_tick}
use Rattle.wf_def_lists.specs.Lengths.{greatest_body}
use Rattle.wf_def_lists.specs.Table.{at}
use Rattle.wf_def_world.specs.Group.{GroupState, no_group}
use Rattle.wf_def_world.specs.World.{World, Station, no_station, group_of, opening}
use Rattle.wf_def_world.specs.Run.{Entry, Past, world_after, world_of}
use Rattle.wf_def_world.specs.Step.{step}
use Rattle.wf_def_world.specs.Stretches.{world_at}
use Rattle.wf_law_runs.specs.Queues.{HasLength, IsAtMost, HaveLengths, AreAtMost}
use Rattle.wf_law_runs.specs.Lengths.{HasLengths}
use Rattle.wf_law_runs.specs.Sums.{AreSums, IsSum}
use Rattle.wf_law_runs.specs.Laws.{Laws}
use Rattle.wf_law_runs.proofs.AllLaws.{laws}
use Rattle.wf_send_parts.specs.Tally.{Counts}
use Rattle.wf_law_runs.proofs.Deficits.Configs.{config_step}
use Rattle.wf_send_parts.specs.declared.stations.members.Member.{Member}
use Rattle.wf_send_parts.specs.Members.{member, charged_in, received_in}
use Rattle.wf_sched_refines.specs.Standing.{share_in}
use Rattle.wf_send_half_model.specs.Half.{TransmitValue}
use Rattle.wf_send_half_model.specs.Standing.{StandsFor, IsMember, AreBoth}
use Rattle.wf_path.specs.Paths.{IsSmall}
use Rattle.wf_path.proofs.Rises.{HasOneMore, one_step_more}

-- ---- one more entry

pub world_then : (h : List Entry) (w : World) (e : Entry) →
    world_after w (h ++ e ∷ []) ≡ (step (world_after w h) e.1).world
unfolding world_after
world_then [] w e = refl
world_then (x ∷ h) w e = world_then h (step w x.1).world e

lengths_then : (h : List Entry) (e : Entry) → HaveLengths h → HasLength e.1 → HaveLengths (h ++ e ∷ [])
lengths_then [] e h k = (k, tt)
lengths_then (x ∷ xs) e h k = (h.0, lengths_then xs e h.1 k)

most_then : (h : List Entry) (e : Entry) (most : ℕ) → AreAtMost most h → IsAtMost most e.1 →
    AreAtMost most (h ++ e ∷ [])
most_then [] e most h k = (k, tt)
most_then (x ∷ xs) e most h k = (h.0, most_then xs e most h.1 k)

-- each frame has 1 to 2304 octets
pub has_lengths : (h : List Entry) (e : Entry) → HasLengths h → HasLength e.1 → IsAtMost greatest_body e.1 →
    HasLengths (h ++ e ∷ [])
has_lengths h e l some most = (lengths_then h e l.0 some, most_then h e greatest_body l.1 most)

-- no call changes the settings
pub config_after : (h : List Entry) (w : World) → (world_after w h).config ≡ w.config
unfolding world_after
config_after [] w = refl
config_after (e ∷ h) w = config_after h (step w e.1).world ∙ config_step w e.1

pub opening_is : (c : Config) → world_of (record { config = c; history = [] }) ≡ opening c
unfolding world_after
opening_is c = refl

-- ---- sums

take_all : (h : List Entry) → take (length h) h ≡ h
take_all [] = refl
take_all (e ∷ h) = ap (λ (l : List Entry). e ∷ l) (take_all h)

-- each call moves the clock by at most the greatest tick
pub time_by : (config : Config) (h : List Entry) → IsInRange config →
    (world_after (opening config) h).clock ≤ greatest_tick * length h
time_by config h range =
    let sums : AreSums config (take (length h) h) (length h) (world_at config h (length h)) =
    (laws config h range).sums (length h) in
    let same : (world_at config h (length h)).clock ≡ (world_after (opening config) h).clock =
    ap (λ (l : List Entry). (world_after (opening config) l).clock) (take_all h) in
    omega (arith, sums.clock, same)

-- the clock after at most `calls` calls is below 2^56
pub time_after : (config : Config) (h : List Entry) → IsInRange config → length h ≤ config.calls →
    (world_after (opening config) h).clock < 2 ^ 56
time_after config h range few = omega (arith, time_by config h range, range.calls.1, few)

pub clock_small : (v : TransmitValue) (p : Past) (bodies : ℕ → FrameValue) → StandsFor v (world_of p) bodies →
    length p.history ≤ p.config.calls → (world_of p).clock < 2 ^ 56
clock_small v p bodies stands few =
    let range : IsInRange p.config =
    subst IsInRange (config_after p.history (opening p.config)) stands.reached.in_range in
    time_after p.config p.history range few

-- the sums after the whole history
sums_of : (p : Past) → Laws p.config p.history →
    AreSums p.config (take (length p.history) p.history) (length p.history) (world_of p)
sums_of p laws = subst (AreSums p.config (take (length p.history) p.history) (length p.history)) now
    (laws.sums (length p.history))
  where
    now : world_at p.config p.history (length p.history) ≡ world_of p
    now = ap (world_after (opening p.config)) (take_all p.history)

-- the member of a station, if it has one, has each property that holds for members of live stations
of_member : (P : Member → Type 0) (m : Option Member) (x : Option Station) → AreBoth IsMember m x →
    ((k : Member) (y : Station) → x ≡ Some y → IsMember k y → P k) → IfSome m P
of_member P None x both each = tt
of_member P (Some k) None both each = absurd both
of_member P (Some k) (Some y) both each = each k y refl both

-- the counts of group frames after some calls: each call raises each by at most 1
record HasFewMore (n : ℕ) (g h : GroupState) : Type 0 where
  accepted : h.accepted ≤ g.accepted + n
  number : h.number ≤ g.number + n
  sent : h.sent ≤ g.sent + n

few_more : (h : List Entry) (w : World) (b : ℕ) →
    HasFewMore (length h) (group_of w b) (group_of (world_after w h) b)
unfolding world_after
few_more [] w b = record { accepted = omega arith; number = omega arith; sent = omega arith }
few_more (e ∷ h) w b =
    let one : HasOneMore (group_of w b) (group_of (step w e.1).world b) = one_step_more w e.1 b in
    let rest : HasFewMore (length h) (group_of (step w e.1).world b)
    (group_of (world_after (step w e.1).world h) b) = few_more h (step w e.1).world b in
    record {
      accepted = omega (arith, one.accepted, rest.accepted);
      number = omega (arith, one.number, rest.number);
      sent = omega (arith, one.sent, rest.sent);
    }

-- a path that represents the world after at most 4,294,967,295 calls has small counts
pub small_of : (v : TransmitValue) (p : Past) (bodies : ℕ → FrameValue) → IsInRange p.config →
    StandsFor v (world_of p) bodies → length p.history ≤ 4294967295 → IsSmall v
small_of v p bodies range s few =
    let w : World = world_of p in
    let sums = sums_of p (laws p.config p.history range) in
    let o = s.parts.others in
    let more : (b : ℕ) → HasFewMore (length p.history) no_group (group_of w b) =
    few_more p.history (opening p.config) in
    let of_station : (i : ℕ) (c : Class) (y : Station) → at None w.stations i ≡ Some y →
    IsSum p.config (take (length p.history) p.history) (length p.history) i c (share_in y c) =
    λ i c y there. subst (λ (x : Option Station).
    IsSum p.config (take (length p.history) p.history) (length p.history) i c
    (share_in (unwrap_or x no_station) c)) there (sums.shares i c (ap is_some there)) in
    record {
      clock = omega (arith, o.clock, sums.clock);
      exchanges = omega (arith, o.exchanges, sums.exchanges);
      accepted = omega (arith, ap (λ (t : Counts). t.accepted) o.tally, sums.accepted);
      charged = λ i c. of_member (λ k. charged_in k c < 2 ^ 62) (member v.members i) (at None w.stations i)
          (o.stations.live i)
          (λ k y there is. omega (arith, is.charged c, (of_station i c y there).most_charged));
      received = λ i c. of_member (λ k. received_in k c < 2 ^ 62) (member v.members i) (at None w.stations i)
          (o.stations.live i)
          (λ k y there is. omega (arith, is.received c, (of_station i c y there).most_received));
      group = λ b. record {
        accepted = omega (
          arith,
          ap (λ (g : GroupState). g.accepted) (o.groups.each b),
          (more b).accepted,
          few,
        );
        number = omega (arith, ap (λ (g : GroupState). g.number) (o.groups.each b), (more b).number, few);
        sent = omega (arith, ap (λ (g : GroupState). g.sent) (o.groups.each b), (more b).sent, few);
      };
    }
