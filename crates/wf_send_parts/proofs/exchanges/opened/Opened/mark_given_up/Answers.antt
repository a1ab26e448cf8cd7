-- Proves the contract of `Opened::mark_given_up`, with and without an exchange of this number.
use Rattle.std.proofs.Common.{◌≡◌, ap, sym, ◌∙◌, ℕ, ◌==◌, List, set}
use Rattle.std.specs.Prelude.{position, Some}
use Rattle.std.proofs.lemmas.List.Quantifiers.{position-Some}
use Rattle.wf_send_parts.specs.declared.exchanges.opened.Open.{Open}
use Rattle.wf_send_parts.specs.Exchanges.{exchange_number, with_given_up}
use Rattle.wf_send_parts.proofs.Marking.{knows_marked}
use Rattle.wf_send_parts.proofs.Rising.{unchanged, changed_where}
use Rattle.wf_send_parts.proofs.exchanges.opened.Opened.mark_given_up.Goals as goal

pub invariant_of-self : goal.invariant_of-self
invariant_of-self c =
    let at : position (λ x. exchange_number x == c.args.number) c.self.inside.list.items
    ≡ Some c.in-Some.place = rw c.self.view_is (sym c.in-Some.ensures) in
    let d : Open = c.index_mut.result.now in
    knows_marked c.self.inside.list.items _ _ _ c.in-Some.place d c.index_mut.result.now.unsent c.set.new.self
    (position-Some (λ x. exchange_number x == c.args.number) c.self.inside.list.items c.in-Some.place d at).0
    c.index_mut.ensures.value c.self.invariant

pub returns-in-Some : goal.returns-in-Some
returns-in-Some c =
    let d : Open = c.index_mut.result.now in
    ap (λ (indices : List ℕ). let x : Open = record d { given_up = indices } in
    set c.self.inside.list.items c.in-Some.place x) c.set.ensures.set
    ∙ changed_where exchange_number (with_given_up c.args.index) c.args.number c.in-Some.place
    c.self.inside.list.items c.args.self.now d c.self.view_is c.self.invariant.kept.rising c.in-Some.ensures
    c.index_mut.ensures.value

pub returns-in-None : goal.returns-in-None
returns-in-None c = sym (unchanged (λ x. exchange_number x == c.args.number) (with_given_up c.args.index)
    c.args.self.now (sym c.in-None.ensures))
