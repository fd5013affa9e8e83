use Rattle.cluster_recovery.proofs.FirstNodes.{parts_undrawn, files_done, names_done, commits_done}
use Rattle.cluster_recovery.proofs.starting.first_primary.Goals as goal

pub from_parts-requires-clause-undrawn : goal.from_parts-requires-clause-undrawn
from_parts-requires-clause-undrawn g c =
    parts_undrawn g.D.Dir.cells c.args.replica c.take_apart-dir.result c.requires c.take_apart-dir.ensures.same c.take_apart-dir.ensures.node c.take_apart-dir.ensures.names

pub returns-clause-files : goal.returns-clause-files
returns-clause-files g c =
    files_done g.D.Dir.cells c.args.replica c.take_apart-dir.result c.requires c.take_apart-dir.ensures.same c.from_parts.result c.from_parts.ensures.whole c.from_parts.ensures.opened

pub returns-clause-names : goal.returns-clause-names
returns-clause-names g c =
    names_done g.D.Dir.cells c.args.replica c.take_apart-dir.result c.requires c.take_apart-dir.ensures.same c.from_parts.result c.take_apart-dir.ensures.appears c.from_parts.ensures.opened

pub returns-clause-commits : goal.returns-clause-commits
returns-clause-commits g c = commits_done g.D.Dir.cells c.args.replica c.take_apart-dir.result c.requires c.take_apart-dir.ensures.same c.from_parts.result c.from_parts.ensures.opened
