use Rattle.std.proofs.Common.{arith, ◌+◌}
use Rattle.replica_opening.proofs.Releasing.{lets_go_more}
use Rattle.replica_opening.proofs.clearing.clear.Goals as goal

pub returns-then-release-gt0-clause-some : goal.returns-then-release-gt0-clause-some
returns-then-release-gt0-clause-some g c = (c.loop-name.name-index + 1, lets_go_more c.args.names.now c.loop-name.name-index c.name-item.result c.args.files.now c.loop-name.files c.release.new.self _ _ _ c.loop-name.invariant.lets_go c.release.ensures.lets_go (omega arith) c.name-item.is)
