-- The least key of both lists is the least of the old keys and then of the new keys.
use Rattle.std.proofs.Common.{◌≡◌, ℕ, ◌≤◌, true, subst, arith}
use Rattle.wf_def_rotation.specs.Rotation.{has_key, no_keys}
use Rattle.wf_rotation.specs.Lists.{lists_at}
use Rattle.wf_rotation.specs.Rotas.{Rotas}
use Rattle.wf_rotation.proofs.LowestLemmas.{least_empty, least_listed, least_low}
use Rattle.wf_rotation.proofs.rota.Rota.least_key.Goals as goal

pub returns-then-least-keys-clause-listed : goal.returns-then-least-keys-clause-listed
returns-then-least-keys-clause-listed c =
    subst (λ (v : Rotas). has_key (lists_at v.lists c.args.list) c.least_key-least.result ≡ true)
    c.self.view_is
    (least_listed (lists_at c.self.inside.links.lists c.args.list) c.len-keys.result c.least_key-old.result
    c.least_key-least.result (λ key there. omega (
      arith,
      c.least_key-old.ensures.disjoint.below c.args.list key there,
      c.self.invariant.keys,
      c.len-keys.ensures,
    )) c.least_key-old.ensures.least c.least_key-least.ensures.least c.if-least-keys.true)

pub returns-then-least-keys-clause-least : goal.returns-then-least-keys-clause-least
returns-then-least-keys-clause-least c =
    subst (λ (v : Rotas). (other : ℕ) → has_key (lists_at v.lists c.args.list) other ≡ true →
    c.least_key-least.result ≤ other) c.self.view_is
    (least_low (lists_at c.self.inside.links.lists c.args.list) c.len-keys.result c.least_key-old.result
    c.least_key-least.result (λ key there. omega (
      arith,
      c.least_key-old.ensures.disjoint.below c.args.list key there,
      c.self.invariant.keys,
      c.len-keys.ensures,
    )) c.least_key-old.ensures.least c.least_key-least.ensures.least)

pub returns-else-least-keys-clause-none : goal.returns-else-least-keys-clause-none
returns-else-least-keys-clause-none c =
    subst (λ (v : Rotas). lists_at v.lists c.args.list ≡ no_keys) c.self.view_is
    (least_empty (lists_at c.self.inside.links.lists c.args.list) c.len-keys.result c.least_key-old.result
    c.least_key-least.result (λ key there. omega (
      arith,
      c.least_key-old.ensures.disjoint.below c.args.list key there,
      c.self.invariant.keys,
      c.len-keys.ensures,
    )) c.least_key-old.ensures.least c.least_key-least.ensures.least c.if-least-keys.false)
