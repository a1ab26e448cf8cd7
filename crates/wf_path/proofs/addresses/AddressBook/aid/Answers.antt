-- Proves that the identifier that `AddressBook::aid` returns is in its range.
use Rattle.std.proofs.Common.{◌≡◌, sym, ap, ◌∙◌, subst, arith, ◌+◌, get_or}
use Rattle.std.proofs.lemmas.List.{get_or_default}
use Rattle.wf_path.specs.Addresses.{IsAid}
use Rattle.wf_path.proofs.addresses.AddressBook.aid.Goals as goal

pub returns-clause-range : goal.returns-clause-range
returns-clause-range c =
    let is : get_or c.self.inside.aids.items c.args.station (c.args.station + 1) ≡ c.index.result.now =
    get_or_default c.self.inside.aids.items c.args.station (c.args.station + 1) c.index.result.now
    (omega (arith, c.self.invariant.1.all, c.requires))
    ∙ sym (c.index.ensures
    ∙ ap (λ k. get_or c.self.inside.aids.items k c.index.result.now) c.from.ensures) in
    subst IsAid is (c.self.invariant.1.each c.args.station c.requires)
