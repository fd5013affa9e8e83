use Rattle.cluster_run.proofs.EmptyDirs.{on_empty, on_same_logs}
use Rattle.cluster_run.proofs.script.log_dir.Goals as goal

pub returns-clause-empty : goal.returns-clause-empty
returns-clause-empty c = on_empty c.new.result c.new.ensures.table

pub returns-clause-same : goal.returns-clause-same
returns-clause-same c = on_same_logs c.new.result c.new.ensures.table
