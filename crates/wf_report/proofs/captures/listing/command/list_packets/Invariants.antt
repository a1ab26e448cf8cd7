-- The packets so far were read, and exactly their lines were written.
use Rattle.std.proofs.Common.{◌≡◌, ◌+◌, ◌-◌, ◌≤◌, length}
use Rattle.wf_report.specs.ListedPackets.{most_octets_read}
use Rattle.wf_report.proofs.Listings.{Begun}
use Rattle.wf_report.proofs.captures.listing.command.list_packets.Given as goal

abbrev pub invariant-packets : goal.invariant-packets
invariant-packets g l = record {
  begun : Begun l.form l.place l.count (g.S.Source.left l.fn.source) (g.S.Source.left l.source)
      (g.K.Sink.held l.fn.sink) (g.K.Sink.held l.sink);
  most : l.place ≤ most_octets_read;
  few : l.count + 24 ≤ l.place;
  room : length l.body ≡ 262144;
  reads : g.S.Source.faults l.source ≡ g.S.Source.faults l.fn.source;
  writes : g.K.Sink.faults l.sink ≡ g.K.Sink.faults l.fn.sink;
}

abbrev pub decreases-packets : goal.decreases-packets
decreases-packets g l = most_octets_read - l.place
