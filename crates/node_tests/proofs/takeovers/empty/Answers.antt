use Rattle.node_tests.proofs.Copying.{whole_empty}
use Rattle.node_tests.proofs.takeovers.empty.Goals as goal

pub returns : goal.returns
returns c = whole_empty _ c.in_ok-files.files c.in_ok-dir.ensures.table c.in_ok-files.ensures
