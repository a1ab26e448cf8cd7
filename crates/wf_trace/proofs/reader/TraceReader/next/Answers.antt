-- Proves the clauses of `next` for an ending that was returned before, and the places of a head and of a
-- call.
use Rattle.std.proofs.Common.{◌≡◌, sym, refl}
use Rattle.wf_trace.specs.Reader.{next_place}
use Rattle.wf_trace.specs.Words.{words}
use Rattle.wf_trace.proofs.ItemLaws.{reads_again}
use Rattle.wf_trace.proofs.reader.TraceReader.next.Goals as goal
use Rattle.wf_trace.proofs.reader.TraceReader.next.Goals.{in-Some-place, in_default-place}

pub returns-in-Some-clause-reads : goal.returns-in-Some-clause-reads
returns-in-Some-clause-reads g c = rw (← c.self.view_is)
    (reads_again _ _ c.in-Some.item c.in-Some.is c.self.invariant)

pub returns-in-Ok-Head-clause-placed : goal.returns-in-Ok-Head-clause-placed
returns-in-Ok-Head-clause-placed g c =
    let says = rw (c.in-Ok-Head.field-0-is) at c.in-Ok-Head.ensures.says in
    rw (← c.self.view_is) (λ open_. ((words c.octets.result.now, sym says), refl))

pub returns-after-self-2-clause-placed : goal.returns-after-self-2-clause-placed
returns-after-self-2-clause-placed g c =
    let says = rw (c.in-Ok-Entry.field-0-is) at c.in-Ok-Entry.ensures.says in
    let room = rw (c.in-Ok-Entry.field-0-is) at c.in-Ok-Entry.ensures.room in
    let next : c.match-self-2.self-inside.place ≡ next_place c.self.inside.place =
    elim c.match-self-2.branch [
      | in-Some-place w ↦ rw (w.self-inside-is, w.in-Some-place.is) refl
      | in_default-place w ↦ rw (w.self-inside-is, w.in_default-place.is) refl
    ] in
    rw (← c.self.view_is) (λ open_. ((words c.octets.result.now, sym says), room, next))
