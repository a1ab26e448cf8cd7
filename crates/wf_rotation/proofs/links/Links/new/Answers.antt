-- New links represent empty lists, since every head is past the keys.
use Rattle.std.proofs.Common.{◌≡◌, ◌∙◌, ap, sym, List, length, replicate, ◌*◌}
use Rattle.wf_def_rotation.specs.Rotation.{Rotation}
use Rattle.std.proofs.lemmas.List.{length-replicate}
use Rattle.wf_rotation.specs.Lists.{AllLists}
use Rattle.wf_rotation.proofs.NewLemmas.{none_linked, none_listed}
use Rattle.wf_rotation.proofs.BackLemmas.{backs_none}
use Rattle.wf_rotation.proofs.links.Links.new.Goals as goal

pub invariant_of-result : goal.invariant_of-result
invariant_of-result c =
    let next : c.in_ok-next.next.items ≡ replicate c.args.keys c.args.keys =
    c.in_ok-next.ensures.items_if_clones_equal (λ y e. e) in
    let prev : c.in_ok-prev.prev.items ≡ replicate c.args.keys c.args.keys =
    c.in_ok-prev.ensures.items_if_clones_equal (λ y e. e) in
    let heads : c.in_ok-heads.heads.items ≡ replicate (2 * c.args.lists) c.args.keys =
    c.in_ok-heads.ensures.items_if_clones_equal (λ y e. e) in
    let tails : c.in_ok-tails.tails.items ≡ replicate (2 * c.args.lists) c.args.keys =
    c.in_ok-tails.ensures.items_if_clones_equal (λ y e. e) in (
      none_linked _ _ _ c.args.keys c.args.lists next heads tails,
      sym (ap length next ∙ length-replicate c.args.keys c.args.keys),
      rw (none_listed _ _ _ c.args.keys c.args.lists next heads tails)
          (backs_none _ c.args.keys c.args.lists (ap length prev ∙ length-replicate c.args.keys c.args.keys)),
    )

pub returns : goal.returns
returns c =
    let next : c.in_ok-next.next.items ≡ replicate c.args.keys c.args.keys =
    c.in_ok-next.ensures.items_if_clones_equal (λ y e. e) in
    let heads : c.in_ok-heads.heads.items ≡ replicate (2 * c.args.lists) c.args.keys =
    c.in_ok-heads.ensures.items_if_clones_equal (λ y e. e) in
    let tails : c.in_ok-tails.tails.items ≡ replicate (2 * c.args.lists) c.args.keys =
    c.in_ok-tails.ensures.items_if_clones_equal (λ y e. e) in
    ap (λ (ls : List Rotation). let v : AllLists = record { lists = ls; keys = c.args.keys } in v)
    (none_listed _ _ _ c.args.keys c.args.lists next heads tails)
