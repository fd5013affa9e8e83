use Rattle.std.proofs.Common.{refl}
use Rattle.cluster_state.proofs.Rows.{legal_at, turns_at}
use Rattle.cluster_core.proofs.CopyDoes.{settle_done}
use Rattle.cluster_core.proofs.cluster.Cluster.settle_next.Goals as goal

pub returns-clause-does : goal.returns-clause-does
returns-clause-does g c =
    settle_done c.args.at _ c.args.task.now c.settle_next.new.task c.self.inside.state c.args.self.now c.settle_next.new.state c.settle_next.result c.self.view_is c.requires.running c.requires.settling
    (legal_at _ _ _ _ refl c.book.ensures.log c.is_legal.ensures.legal) (turns_at _ _ c.book.ensures.log c.is_legal.ensures.turns) c.settle_next.ensures.ok
