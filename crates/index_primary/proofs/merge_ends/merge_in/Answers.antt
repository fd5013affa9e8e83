use Rattle.index_primary.proofs.Making.{found_at}
use Rattle.index_primary.proofs.merge_ends.merge_in.Goals as goal

pub returns : goal.returns
returns c = found_at c.args.seg.0 c.args.merges.now c.place_of-at.result c.index-merges-at.result c.requires c.place_of-at.ensures c.index-merges-at.is
