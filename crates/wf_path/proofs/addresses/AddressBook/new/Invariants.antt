-- The invariant of the loop of `AddressBook::new`: the stations before `station` have their placeholder
-- addresses and identifiers.
use Rattle.std.proofs.Common.{◌≡◌, map}
use Rattle.std.specs.List.{range_with_len}
use Rattle.wf_octets.specs.Addresses.{address_of_station}
use Rattle.wf_path.specs.Addresses.{aid_of_station}
use Rattle.wf_path.proofs.addresses.AddressBook.new.Given as goal

abbrev pub invariant-loop-station : goal.invariant-loop-station
invariant-loop-station l = (l.stations.items ≡ map address_of_station (range_with_len 0 l.station))
    × (l.aids.items ≡ map aid_of_station (range_with_len 0 l.station))
