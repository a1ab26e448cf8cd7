-- The octets that are read and those that are left make up the octets that were left before.
use Rattle.std.proofs.Common.{◌≡◌, ◌≤◌, length, drop, take, Some, ap, arith}
use Rattle.std.proofs.lemmas.Grind.{common_steps}
use Rattle.wf_io.proofs.Pieces.{front_and_rest}
use Rattle.wf_io.proofs.given.GivenSource.read.Goals as goal

pub returns-clause-octets : goal.returns-clause-octets
returns-clause-octets c =
    let fits : c.min-count.result ≤ length (drop c.self.inside.next c.self.inside.octets.items) =
    grind (arith, common_steps) in
    let copied : c.copy_from_slice.new.self ≡ take c.min-count.result
    (drop c.self.inside.next c.self.inside.octets.items) = grind (arith, common_steps) in
    rw (← c.self.view_is, copied) (ap Some (front_and_rest c.self.inside.octets.items
    (drop c.min-count.result c.args.buffer.now) c.self.inside.next c.min-count.result fits))
