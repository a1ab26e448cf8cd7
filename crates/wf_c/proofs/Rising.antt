-- Proves that the counts of a path stay small through a burst: each call raises them by at most 10,000,000.
use Rattle.std.proofs.Common.{arith, ℕ, ◌+◌, ◌*◌, ◌^◌, ◌<◌, ◌≤◌}
use Rattle.wf_def_lists.specs.Bounds.{greatest_tick}
use Rattle.wf_send_half_model.specs.Half.{TransmitValue}
use Rattle.wf_path.specs.Paths.{HasCountsBelow, IsSmall, RiseLittle}
use Rattle.wf_path.proofs.Rises.{below_more}

-- fewer than 2^32 calls raise a count that was below 2^61 to less than 2^62
bound : (i n : ℕ) → n < 2 ^ 32 → i < n → 2 ^ 61 + i * greatest_tick ≤ 2 ^ 62
bound i n few low = omega (arith, few, low)

pub small_before : (v : TransmitValue) (i n : ℕ) → n < 2 ^ 32 → i < n →
    HasCountsBelow (2 ^ 61 + i * greatest_tick) v → IsSmall v
small_before v i n few low h = below_more v (2 ^ 61 + i * greatest_tick) (2 ^ 62) (bound i n few low) h

pub below_after : (v u : TransmitValue) (i : ℕ) → RiseLittle v u →
    HasCountsBelow (2 ^ 61 + i * greatest_tick) v → HasCountsBelow (2 ^ 61 + (i + 1) * greatest_tick) u
below_after v u i rises h = below_more u (2 ^ 61 + i * greatest_tick + greatest_tick)
    (2 ^ 61 + (i + 1) * greatest_tick) (omega arith) (rises (2 ^ 61 + i * greatest_tick) h)
