use Rattle.std.proofs.Common.{arith}
use Rattle.point_history.proofs.ListingLemmas.{none_held}
use Rattle.point_history.proofs.listings.holds_documents.Goals as goal

pub returns : goal.returns
returns c = none_held c.args.entries.now c.loop-entry.entry-index c.args.n.0 (omega arith) c.loop-entry.invariant
