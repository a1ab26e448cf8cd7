-- Proves that the octets are a beacon if they have a TIM element.
use Rattle.std.proofs.Common.{sym, ◌∙◌}
use Rattle.std.specs.Prelude.{Some, None}
use Rattle.std.proofs.lemmas.List.{take_rest}
use Rattle.wf_report.proofs.TimLaws.{beacon_is}
use Rattle.wf_report.proofs.captures.listing.frame.beacon.Goals as goal

pub returns-in-Some : goal.returns-in-Some
returns-in-Some c =
    beacon_is c.args.seq c.args.octets.now _ (Some c.in-Some.tim) c.if-octets-lt-ELEMENTS_AT.false
    (take_rest c.args.octets.now 36) (sym c.in-Some.is ∙ c.tim_among.ensures)

pub returns-in-None : goal.returns-in-None
returns-in-None c =
    beacon_is c.args.seq c.args.octets.now _ None c.if-octets-lt-ELEMENTS_AT.false
    (take_rest c.args.octets.now 36) (sym c.in-None.is ∙ c.tim_among.ensures)
