use Rattle.std.proofs.Common.{sym}
use Rattle.searcher_switch.proofs.Appearing.{keeps_none}
use Rattle.index_primary.proofs.Abandoned.{names_counted, primary_abandons, abandon_draws, abandon_no_new}
use Rattle.index_primary.proofs.merge_ends.abandon.Goals as goal

pub release-requires : goal.release-requires
release-requires g c = rw c.as_slice.ensures (names_counted g.D.Dir.cells c.args.parts.now c.requires.whole c.args.seg c.take_merge-merging.result (sym c.take_merge-merging.ensures.item))

pub returns-clause-whole : goal.returns-clause-whole
returns-clause-whole g c = rw c.take_merge-merging.ensures.rest
    (primary_abandons g.D.Dir.cells c.args.parts.now c.requires.whole c.args.seg c.take_merge-merging.result (sym c.take_merge-merging.ensures.item) c.release.new.dir c.release.new.self (rw c.as_slice.ensures at c.release.ensures.lets_go))

pub returns-clause-no_new : goal.returns-clause-no_new
returns-clause-no_new g c = rw c.take_merge-merging.ensures.rest
    (abandon_no_new g.D.Dir.cells c.args.parts.now c.requires.whole c.args.seg c.take_merge-merging.result (sym c.take_merge-merging.ensures.item) c.release.new.dir c.release.new.self (rw c.as_slice.ensures at c.release.ensures.lets_go))

pub returns-clause-drawn : goal.returns-clause-drawn
returns-clause-drawn g c = rw c.take_merge-merging.ensures.rest
    (abandon_draws g.D.Dir.cells c.args.parts.now c.requires.whole c.args.seg c.take_merge-merging.result (sym c.take_merge-merging.ensures.item) c.release.new.dir c.release.new.self (rw c.as_slice.ensures at c.release.ensures.lets_go))

pub returns-clause-appears : goal.returns-clause-appears
returns-clause-appears g c = keeps_none c.args.parts.now.files c.release.new.self (g.D.Dir.cells c.args.parts.now.dir) (g.D.Dir.cells c.release.new.dir) c.release.ensures.lets_go.keeps
