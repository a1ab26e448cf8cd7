-- The value so far, followed by the digits that are left, is the whole value.
use Rattle.std.proofs.Common.{◌≡◌, ◌<◌, ◌^◌, drop, true}
use Rattle.std.specs.List.{list_all}
use Rattle.wf_io.specs.Digits.{value_from, is_digit}
use Rattle.wf_io.proofs.digits.value_of.Given as goal

abbrev pub invariant-loop-digit : goal.invariant-loop-digit
invariant-loop-digit l = (value_from 0 l.digits ≡ value_from l.value (drop l.digit-index l.digits))
    × (l.value < 10 ^ l.digit-index)
    × (list_all is_digit (drop l.digit-index l.digits) ≡ true)
