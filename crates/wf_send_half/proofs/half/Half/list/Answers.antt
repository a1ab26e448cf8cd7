-- Proves that `Half::list` lists the station in all classes.
use Rattle.wf_send_half.proofs.Listing.{listed_four}
use Rattle.wf_send_half.proofs.half.Half.list.Goals as goal

pub returns : goal.returns
returns c = listed_four c.args.self.now c.args.station c.list_in.new.self c.list_in-2.new.self
    c.list_in-3.new.self c.list_in-4.new.self c.list_in.ensures.listed c.list_in-2.ensures.listed
    c.list_in-3.ensures.listed c.list_in-4.ensures.listed
