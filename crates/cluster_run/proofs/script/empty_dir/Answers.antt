use Rattle.cluster_run.proofs.EmptyDirs.{on_empty}
use Rattle.cluster_run.proofs.script.empty_dir.Goals as goal

pub returns : goal.returns
returns c = on_empty c.new.result c.new.ensures.table
