use Rattle.std.proofs.Common.{subst}
use Rattle.disk_model.specs.Disk.{Image}
use Rattle.std.specs.Prelude.{alloc_error}
use Rattle.index_check.specs.Checks.{IsExactCheck}
use Rattle.index_check.proofs.checking.check_files.Goals as goal

pub returns : goal.returns
returns c = subst (λ (reads : Image). IsExactCheck alloc_error reads c.check.result) c.in_ok-dir.ensures c.check.ensures
