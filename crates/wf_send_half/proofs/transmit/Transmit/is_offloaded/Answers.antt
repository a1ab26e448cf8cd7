-- Proves what `Transmit::is_offloaded` promises: a station whose number is too great is not live.
use Rattle.std.proofs.Common.{◌≡◌, ◌∙◌, ap, arith, rules, ℕ, ◌≤◌, false, ltb}
use Rattle.std.proofs.lemmas.Bool.Decides.{nat_tests}
use Rattle.wf_send_half_model.proofs.Readers.{offloaded_same}
use Rattle.wf_send_half.specs.declared.transmit.Transmit.TheInside.{Inside}
use Rattle.wf_send_half.proofs.Standings.{none_offloaded}
use Rattle.wf_send_half.proofs.transmit.Transmit.is_offloaded.Goals as goal

-- a test of a number that is not below a limit fails
not_below : (n limit : ℕ) → limit ≤ n → ltb n limit ≡ false
not_below n limit past = grind (arith, nat_tests)

pub returns-then-from-self-clause-value : goal.returns-then-from-self-clause-value
returns-then-from-self-clause-value c = search rules

pub returns-else-from-self-clause-value : goal.returns-else-from-self-clause-value
returns-else-from-self-clause-value c =
    not_below _ _ c.if-from-self.false
    ∙ none_offloaded c.self.inside.half c.args.self.now c.self.view_is c.self.invariant.some c.args.station
    (omega (
      arith,
      c.if-from-self.false,
      c.from.ensures,
      ap (λ (z : Inside). z.half.config.stations) c.self-inside.view_is,
    ))

pub returns-then-from-self-clause-world : goal.returns-then-from-self-clause-world
returns-then-from-self-clause-world c w bodies h = returns-then-from-self-clause-value c
    ∙ offloaded_same c.args.self.now w bodies c.args.station h.parts

pub returns-else-from-self-clause-world : goal.returns-else-from-self-clause-world
returns-else-from-self-clause-world c w bodies h = returns-else-from-self-clause-value c
    ∙ offloaded_same c.args.self.now w bodies c.args.station h.parts
