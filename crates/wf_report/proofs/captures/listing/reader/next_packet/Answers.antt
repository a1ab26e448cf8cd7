-- Proves the result for the next packet. By cases of how many octets of its header were read.
use Rattle.std.proofs.Common.{◌≡◌, ◌∙◌, ◌∷◌, sym, ap, arith, ◌++◌, List, ℕ, [], drop, append-nil}
use Rattle.std.specs.Io.KnownBytes.{prepend_known}
use Rattle.std.proofs.lemmas.List.{take_all, drop_all, length-take-le}
use Rattle.wf_report.proofs.TakenOctets.{taken_more}
use Rattle.wf_report.proofs.Flaws.{part_head, fails_inside}
use Rattle.wf_report.proofs.captures.listing.reader.next_packet.Goals as goal

pub returns-in_err-have-clause-takes : goal.returns-in_err-have-clause-takes
returns-in_err-have-clause-takes g c =
    let t = c.in_err-have.ensures.taken in
    let zeros : List ℕ = 0 ∷ 0 ∷ 0 ∷ 0 ∷ 0 ∷ 0 ∷ 0 ∷ 0 ∷ 0 ∷ 0 ∷ 0 ∷ 0 ∷ 0 ∷ 0 ∷ 0 ∷ 0 ∷ [] in
    let room = c.fill.auto.buffer ∙ length-take-le c.min-wanted.result zeros
    (omega (arith, c.min-wanted.ensures)) in (
      t.0,
      t.1,
      fails_inside c.args.form c.args.place c.from_residual.result _ _ _ c.from_residual.ensures.0
          (part_head c.args.form c.args.place t.0 (omega (arith, t.2, room, c.min-wanted.ensures))
          (omega (arith, t.2, room, c.min-wanted.ensures, c.requires.place))),
    )

pub returns-else-have-lt-PACKET_HEAD-clause-takes : goal.returns-else-have-lt-PACKET_HEAD-clause-takes
returns-else-have-lt-PACKET_HEAD-clause-takes g c =
    let buffer = c.fill.new.buffer in
    let t = c.in_ok-have.ensures.taken in
    let b = c.body_behind.ensures.takes in
    let zeros : List ℕ = 0 ∷ 0 ∷ 0 ∷ 0 ∷ 0 ∷ 0 ∷ 0 ∷ 0 ∷ 0 ∷ 0 ∷ 0 ∷ 0 ∷ 0 ∷ 0 ∷ 0 ∷ 0 ∷ [] in
    let room = c.fill.auto.buffer ∙ length-take-le c.min-wanted.result zeros
    (omega (arith, c.min-wanted.ensures)) in
    let head : List ℕ = buffer ++ drop c.min-wanted.result zeros in
    let whole : t.0 ≡ head =
    t.2 ∙ take_all c.in_ok-have.have buffer (omega
    (arith, room, c.min-wanted.ensures, c.if-have-lt-PACKET_HEAD.false))
    ∙ sym (append-nil buffer)
    ∙ ap (λ l. buffer ++ l) (sym (drop_all c.min-wanted.result zeros
    (omega (
      arith,
      room,
      c.in_ok-have.ensures.count,
      c.min-wanted.ensures,
      c.if-have-lt-PACKET_HEAD.false,
    )))) in (
      head ++ b.0,
      taken_more head b.0 _ _ _ (t.1 ∙ ap (λ l. prepend_known l (g.S.Source.left c.fill.new.source)) whole)
          b.1,
      b.2,
    )
