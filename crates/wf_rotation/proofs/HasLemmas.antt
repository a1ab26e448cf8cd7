-- A key that no rotation lists is on no list, and the other way round.
use Rattle.std.proofs.Common.{ℕ, List}
use Rattle.wf_def_rotation.specs.Rotation.{Rotation}
use Rattle.wf_rotation.specs.Lists.{lists_at, IsOff}
use Rattle.wf_rotation.specs.Rotas.{IsUnlisted}
use Rattle.wf_law_rules.proofs.Lemmas.Counts.{listed-none, on_order-none}

pub is_off : (all : List Rotation) (key : ℕ) → IsUnlisted all key → IsOff all key
is_off all key none = λ l. on_order-none (lists_at all l) key (none l)

pub is_unlisted : (all : List Rotation) (key : ℕ) → IsOff all key → IsUnlisted all key
is_unlisted all key off = λ l. listed-none (lists_at all l) key (off l)
