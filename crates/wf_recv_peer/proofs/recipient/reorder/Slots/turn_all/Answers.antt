-- Proves that one more turn keeps the loop's invariant, with and without an item in the first place, and that
-- there is room for the item.
use Rattle.std.proofs.Common.{◌≡◌, ◌<◌, ◌∷◌, [], ◌++◌, drop, take, length, get_or, None, Some, ap, sym, subst, lit<, ◌∙◌, arith, append_assoc}
use Rattle.std.proofs.lemmas.List.{append-nil}
use Rattle.wf_recv_peer.specs.Buffer.{Buffer, items_of}
use Rattle.wf_recv_peer.proofs.Places.{turned_first, turned_once, item_here, room_for_one}
use Rattle.wf_recv_peer.proofs.recipient.reorder.Slots.turn_all.Goals as goal
use Rattle.wf_recv_peer.proofs.recipient.reorder.Slots.turn_all.Goals.{in-Some, in-None}

pub push-requires : goal.push-requires
push-requires c =
    let xs = c.args.self.now.places in
    let i = c.loop.counter in
    let inside : i < length xs = omega (arith, c.loop-test.true, c.requires.0) in
    let here : Some c.in-Some.item ≡ get_or xs i None =
    c.in-Some.ensures.first ∙ ap (λ (b : Buffer). get_or b.places 0 None) c.loop.invariant.0
    ∙ turned_first xs i inside in
    let room : length c.loop.up < 256 = subst (λ up. length up < 256) (sym c.loop.invariant.1)
    (room_for_one c.args.up.now xs i c.args.places c.in-Some.item c.loop-test.true c.requires.0 here
    c.requires.1) in
    (lit< tt, room)

pub loop-preserved : goal.loop-preserved
loop-preserved c =
    let xs = c.args.self.now.places in
    let i = c.loop.counter in
    let before = items_of (take i xs) in
    let inside : i < length xs = omega (arith, c.loop-test.true, c.requires.0) in (
      c.turn.ensures.slots ∙ ap (λ (b : Buffer). record b { places = drop 1 b.places ++ None ∷ [] })
          c.loop.invariant.0
          ∙ ap (λ ps. record c.args.self.now { places = ps }) (turned_once xs i inside),
      elim c.match-turn.branch [
        | in-Some w ↦
            let here : Some w.in-Some.item ≡ get_or xs i None =
            w.in-Some.ensures.first ∙ ap (λ (b : Buffer). get_or b.places 0 None) c.loop.invariant.0
            ∙ turned_first xs i inside in
            w.up-is ∙ w.push.ensures ∙ ap (λ up. up ++ w.in-Some.item ∷ []) c.loop.invariant.1
            ∙ append_assoc c.args.up.now before (w.in-Some.item ∷ [])
            ∙ ap (λ ys. c.args.up.now ++ ys) (sym (item_here xs i (Some w.in-Some.item) inside here))
        | in-None w ↦
            let here : None ≡ get_or xs i None =
            w.in-None.ensures.first ∙ ap (λ (b : Buffer). get_or b.places 0 None) c.loop.invariant.0
            ∙ turned_first xs i inside in
            w.up-is ∙ c.loop.invariant.1 ∙ ap (λ ys. c.args.up.now ++ ys)
            (sym (item_here xs i None inside here ∙ append-nil before))
      ],
    )
