-- Proves that the airtimes of all stations are small from those of stations 0 to 255, as no other station is
-- live, and that the counts of group frames are small from those of the BSSs that there are.
use Rattle.std.proofs.Common.{◌≡◌, sym, ap, ◌∙◌, subst, arith, lit<, ℕ, ◌+◌, ◌^◌, ◌<◌, ◌≤◌, Option, None, IfSome, inl, inr, length}
use Rattle.std.proofs.lemmas.Bool.{cases_lt}
use Rattle.std.proofs.lemmas.List.{get_or_past}
use Rattle.wf_frame.specs.declared.classes.Class.{Class}
use Rattle.wf_frame.specs.declared.settings.Config.{Config}
use Rattle.wf_def_world.specs.Group.{bss_count}
use Rattle.wf_send_parts.specs.declared.stations.members.Member.{Member}
use Rattle.wf_send_parts.specs.Group.{HasGroupBelow, no_group_frames}
use Rattle.wf_send_parts.specs.Members.{member, charged_in, received_in}
use Rattle.wf_send_half_model.specs.Half.{TransmitValue, group_in}
use Rattle.wf_path.specs.Paths.{IsPath, IsSmall}
use Rattle.wf_path.specs.Small.{IsSmallIn}

nobody : (f : Member → ℕ) (o : Option Member) → None ≡ o → IfSome o (λ m. f m < 2 ^ 62)
nobody f o none = subst (λ (p : Option Member). IfSome p (λ m. f m < 2 ^ 62)) none tt

-- there is no station past the last
past : (v : TransmitValue) → IsPath v → (s : ℕ) (c : Class) → 256 ≤ s → IsSmallIn v s c
past v h s c far =
    let none : member v.members s ≡ None = get_or_past v.members s None
    (omega (arith, far, h.stands.parts.others.stations.sized.0, h.stands.reached.in_range.stations.1)) in
    record {
      charged = nobody (λ m. charged_in m c) (member v.members s) (sym none);
      received = nobody (λ m. received_in m c) (member v.members s) (sym none);
    }

pub all_small : (v : TransmitValue) → IsPath v → ((s : ℕ) (c : Class) → s < 256 → IsSmallIn v s c) →
    (s : ℕ) (c : Class) → IsSmallIn v s c
all_small v h each s c = elim (cases_lt s 256) [ inl low ↦ each s c low | inr far ↦ past v h s c far ]

-- the stations before a loop's step, and the station of this step
pub one_more : (v : TransmitValue) (k : ℕ) → ((s : ℕ) (c : Class) → s < k → IsSmallIn v s c) →
    ((c : Class) → IsSmallIn v k c) →
    (s : ℕ) (c : Class) → s < k + 1 → IsSmallIn v s c
one_more v k before this s c low = elim (cases_lt s k) [
  | inl less ↦ before s c less
  | inr more ↦ (let same : k ≡ s = omega (arith, low, more) in
      subst (λ (n : ℕ). IsSmallIn v n c) same (this c))
]

-- ---- group frames

-- the number of BSSs, by the setting
pub few_bsses : (bsses : ℕ) → bsses ≤ 16 → (1 ≤ bss_count bsses) × (bss_count bsses ≤ 16)
few_bsses bsses few = (omega arith, omega (arith, few))

-- the same for a path
pub few_of : (v : TransmitValue) → IsPath v → (1 ≤ bss_count v.config.bsses) × (bss_count v.config.bsses ≤ 16)
few_of v h = few_bsses v.config.bsses (omega (
  arith,
  h.stands.reached.in_range.bsses.1,
  ap (λ (k : Config). k.bsses) h.stands.parts.others.config,
))

-- a BSS past the last has no group frames
none_past : (v : TransmitValue) → IsPath v → (b : ℕ) → bss_count v.config.bsses ≤ b →
    HasGroupBelow (2 ^ 62) (group_in v b)
none_past v h b far =
    let others = h.stands.parts.others in
    let sized : length v.groups ≡ bss_count v.config.bsses =
    others.groups.sized ∙ sym (ap (λ (k : Config). bss_count k.bsses) others.config) in
    let none : group_in v b ≡ no_group_frames 0 = get_or_past v.groups b (no_group_frames 0)
    (subst (λ (n : ℕ). n ≤ b) (sym sized) far) in
    subst (HasGroupBelow (2 ^ 62)) (sym none)
    (record { accepted = lit< tt; number = lit< tt; sent = lit< tt })

pub all_groups : (v : TransmitValue) → IsPath v →
    ((b : ℕ) → b < bss_count v.config.bsses → HasGroupBelow (2 ^ 62) (group_in v b)) →
    (b : ℕ) → HasGroupBelow (2 ^ 62) (group_in v b)
all_groups v h each b = elim (cases_lt b (bss_count v.config.bsses)) [
  | inl low ↦ each b low
  | inr far ↦ none_past v h b far
]

-- the BSSs before a loop's step, and the BSS of this step
pub one_more_group : (v : TransmitValue) (k : ℕ) →
    ((b : ℕ) → b < k → HasGroupBelow (2 ^ 62) (group_in v b)) → HasGroupBelow (2 ^ 62) (group_in v k) →
    (b : ℕ) → b < k + 1 → HasGroupBelow (2 ^ 62) (group_in v b)
one_more_group v k before this b low = elim (cases_lt b k) [
  | inl less ↦ before b less
  | inr more ↦ (let same : k ≡ b = omega (arith, low, more) in
      subst (λ (n : ℕ). HasGroupBelow (2 ^ 62) (group_in v n)) same this)
]

-- ---- all counts

pub small_counts : (v : TransmitValue) → v.clock < 2 ^ 62 → v.exchanges < 2 ^ 62 → v.tally.accepted < 2 ^ 62 →
    ((b : ℕ) → HasGroupBelow (2 ^ 62) (group_in v b)) → ((s : ℕ) (c : Class) → IsSmallIn v s c) → IsSmall v
small_counts v clock exchanges accepted groups sums = record {
  clock = clock;
  exchanges = exchanges;
  accepted = accepted;
  charged = λ s c. (sums s c).charged;
  received = λ s c. (sums s c).received;
  group = groups;
}
