-- The invariant of the loop of `in_range`: the value of the digits so far.
use Rattle.std.proofs.Common.{◌≡◌, ◌<◌, ◌^◌, drop}
use Rattle.std.specs.List.{list_all}
use Rattle.wf_io.specs.Digits.{value_from, is_digit}
use Rattle.wf_trace.proofs.words.in_range.Given as goal

abbrev pub invariant-loop-octet : goal.invariant-loop-octet
invariant-loop-octet l = (value_from 0 l.word ≡ value_from l.value (drop l.octet-index l.word))
    × (l.value < 10 ^ l.octet-index)
    × (list_all is_digit l.word ≡ list_all is_digit (drop l.octet-index l.word))
