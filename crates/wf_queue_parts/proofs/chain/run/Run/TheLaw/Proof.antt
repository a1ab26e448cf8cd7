-- A `&` to a run is made from one to its first node.
use denote.Param.Shared.{copy_shared}
use denote.Struct.Field.{RawPtr-field}
use denote.Struct.Laws.{RawPtr-copy}
use denote.Struct.Lending.{of_Lends}
use Rattle.wf_queue_parts.specs.contracts.chain.run.Run as C
use Rattle.wf_queue_parts.proofs.Sharing.{first_lent_laws, Lends-nodes}
use Rattle.wf_queue_parts.proofs.chain.run.Run.TheLaw.Statement.{statement}

pub shares : statement
shares = of_Lends C.struct C.the_codes C.the_heap C.the_lent (λ d p. first_lent_laws d.nodes)
    (copy_shared RawPtr-field RawPtr-copy, (copy_shared RawPtr-field RawPtr-copy, tt))
    (λ M 𝓤 𝓛 d p. Lends-nodes 𝓛 (C.the_row).lives d.nodes)
