use Rattle.searcher_switch.proofs.Appearing.{keeps_none}
use Rattle.index_primary.proofs.CutPlaced.{gone_counted, primary_cut}
use Rattle.index_primary.proofs.merge_cuts.place.Goals as goal

pub release-requires : goal.release-requires
release-requires g c = rw c.as_slice.ensures (gone_counted g.D.Dir.cells c.args.parts.now c.args.seg c.args.ready c.requires)

pub returns-clause-whole : goal.returns-clause-whole
returns-clause-whole g c = rw c.take_merge-merging.ensures.rest (primary_cut g.D.Dir.cells c.args.parts.now c.args.seg c.args.ready c.requires c.release.new.dir c.release.new.self (rw c.as_slice.ensures at c.release.ensures.lets_go))

pub returns-clause-appears : goal.returns-clause-appears
returns-clause-appears g c = keeps_none c.args.parts.now.files c.release.new.self (g.D.Dir.cells c.args.parts.now.dir) (g.D.Dir.cells c.release.new.dir) c.release.ensures.lets_go.keeps
