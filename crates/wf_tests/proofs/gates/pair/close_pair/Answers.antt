-- Proves that the two seats are all seats of the gate.
use Rattle.std.proofs.Common.{rules, ◌≡◌, ◌∷◌, []}
use Rattle.wf_gate.proofs.Clients.{pair_all}
use Rattle.wf_tests.proofs.gates.pair.close_pair.Goals as goal

pub close-requires-clause-all : goal.close-requires-clause-all
close-requires-clause-all g c = let is : c.push_reserved-2.new.self.items ≡ c.args.zero ∷ c.args.one ∷ [] =
    search rules in pair_all c.args.gate _ c.args.zero c.args.one c.requires is
