-- A `&` to an unboxed value is made from one to the value.
use Rattle.std.proofs.Common.{[], ◌++◌}
use base.Fraction.{full_share}
use base.Fml.{Incl-trans}
use contract.BorrowLft.{meet_⊑_left}
use denote.RattleType.{RattleType}
use denote.Memory.{lone}
use denote.RawPtr.{lies_at}
use denote.Shares.{Shares-less}
use denote.Param.Laws.{Laws, row_shared}
use denote.Param.Shared.{copy_shared}
use denote.Struct.Field.{RawPtr-field}
use denote.Struct.Laws.{RawPtr-copy}
use denote.Struct.Lending.{lent_at, lent_at_shr_laws, Lends-lies, Lends-first, of_Lends}
use mir.Raw.{raw as bare}
use Rattle.core.specs.declared.alloc.Allocator.{Ghosts}
use Rattle.wf_queue_parts.specs.contracts.chain.unboxed.Unboxed as U
use Rattle.wf_queue_parts.proofs.chain.unboxed.Unboxed.TheLaw.Statement.{statement}

pub shares : (T Z : RattleType) (g : Ghosts Z.Denot) (L : Laws T) (LZ : Laws Z) → statement T Z g L LZ
shares T Z g L LZ =
    let lives = (U.the_row T Z g).lives in
    of_Lends (U.struct T Z g) (U.the_codes T.Denot Z.Denot T.coded Z.coded) (U.the_heap T Z g)
    (U.the_lent T Z g) (λ d p. lent_at_shr_laws T L.shr_laws d.at d.value)
    (copy_shared RawPtr-field RawPtr-copy, (row_shared Z LZ, tt))
    (λ M 𝓤 𝓛 d p. Lends-first 𝓛 (lies_at T full_share d.at d.value)
    (g.dealloc_token d.alloc (bare (lone T.mir)) d.at) (lent_at T d.at d.value) lives
    (Lends-lies 𝓛 T lives d.at d.value (Shares-less 𝓛 T T.lives lives
    (Incl-trans (meet_⊑_left (T.lives ++ (Z.lives ++ [])) _) (meet_⊑_left T.lives (Z.lives ++ [])))
    (L.shares 𝓛) d.value)))
