use Rattle.node_tests.proofs.Empty.{empty_table}
use Rattle.node_tests.proofs.tables.empty_dir.Goals as goal

pub returns : goal.returns
returns c = empty_table _ c.in_ok-dir.ensures.table
