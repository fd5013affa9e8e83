use Rattle.node_merges.proofs.CopySteps.{drops}
use Rattle.node_merges.proofs.copies.drop_copy.Goals as goal

pub returns : goal.returns
returns g c = drops g.D.Dir.cells c.args.job c.args.replica.now c.fail.new.self c.copy_runs.ensures c.version.ensures.whole c.requires c.fail.ensures.gone c.fail.ensures.whole c.fail.ensures.standing c.fail.ensures.sourced c.fail.ensures.appears
