-- The opening satisfies the rule of the table: no ticket is drawn, and the quotas fit into the machine's
-- calls.
use Rattle.std.proofs.Common.{rules, arith, ◌≡◌, ◌<◌, ◌≤◌, ◌^◌, sym, ap, length}
use Rattle.std.specs.Prelude.{sum}
use Rattle.wf_gate.proofs.Calls.{each_new}
use Rattle.wf_gate.proofs.Clients.{new_of, new_all}
use Rattle.wf_gate.proofs.Steps.{starts}
use Rattle.wf_gate.proofs.gate.Gate.new.Goals as goal

pub new-requires : goal.new-requires
new-requires g c =
    let past = g.M.Machine.past in
    let settings = g.M.Machine.settings in
    let room = g.M.Machine.calls_left in
    let was : c.of.result.value ≡ c.args.machine = search rules in
    let items : c.in_ok-to_vec.field-0.items ≡ c.args.quotas.now = search rules in
    let left : room c.of.result.value ≡ room c.args.machine = ap room was in
    let word : c.calls_left.result ≡ room c.args.machine = search rules in
    let enough : sum c.args.quotas.now ≤ room c.args.machine = c.requires.room in
    let total : sum c.in_ok-to_vec.field-0.items ≡ sum c.args.quotas.now = ap sum items in
    let count : length c.in_ok-to_vec.field-0.items ≡ length c.args.quotas.now = ap length items in
    let any : 0 < length c.args.quotas.now = c.requires.some in
    let fits : c.calls_left.result < 2 ^ 64 = search rules in
    starts past settings room _ c.args.machine _ (search rules) (sym (ap past was)) (sym (ap settings was))
    (sym left) (omega arith) (omega arith) (omega arith)

pub returns-in-Ok-clause-seats : goal.returns-in-Ok-clause-seats
returns-in-Ok-clause-seats g c = each_new _ _ _ c.deal-seats.ensures.count c.deal-seats.ensures.seats

pub returns-in-Ok-clause-own : goal.returns-in-Ok-clause-own
returns-in-Ok-clause-own g c = new_of _ _ _ c.deal-seats.ensures.count (returns-in-Ok-clause-seats g c)

pub returns-in-Ok-clause-all : goal.returns-in-Ok-clause-all
returns-in-Ok-clause-all g c =
    let is : c.in-Ok.table.shared.key.quotas.items ≡ c.args.quotas.now = search rules in
    new_all _ _ _ c.deal-seats.ensures.count (returns-in-Ok-clause-seats g c) is
