use Rattle.std.proofs.Common.{refl, subst}
use Rattle.cluster_state.proofs.Rows.{legal_at, turns_at}
use Rattle.cluster_copies.proofs.CopyRows.{job_found}
use Rattle.cluster_core.proofs.CopyDoes.{next_done}
use Rattle.cluster_core.proofs.SettleStays.{next_settles}
use Rattle.std.specs.Prelude.{OnOk}
use Rattle.nrt_base.specs.declared.numbers.NodeNo.{NodeNo}
use Rattle.cluster_state.specs.Run.{Run}
use Rattle.cluster_state.specs.Keeping.{KeepsButFiles}
use Rattle.cluster_core.proofs.cluster.Cluster.copy_next.Goals as goal

pub returns-clause-does : goal.returns-clause-does
returns-clause-does g c =
    let job = job_found c.args.at c.self.inside.state c.args.self.now _ c.args.task.now _ c.in-Some.row c.self.view_is c.book.ensures.log c.requires.copying c.job_of.ensures c.in-Some.is in
    λ command copies. next_done command c.args.at c.in-Some.row _ c.self.inside.state c.args.self.now c.copy_next.new.state _ c.copy_next.result c.self.view_is c.book-3.ensures.log job.at_is job.copies
    (legal_at _ _ _ _ refl c.book-2.ensures.log c.is_legal.ensures.legal) (turns_at _ _ c.book-2.ensures.log c.is_legal.ensures.turns) c.job_shows.ensures.started c.copy_next.ensures.ok copies

pub returns-clause-rest : goal.returns-clause-rest
returns-clause-rest g c =
    let job = job_found c.args.at c.self.inside.state c.args.self.now _ c.args.task.now _ c.in-Some.row c.self.view_is c.book.ensures.log c.requires.copying c.job_of.ensures c.in-Some.is in
    subst (λ (z : NodeNo × Run). OnOk c.copy_next.result (KeepsButFiles z.0.0 z.1 c.copy_next.new.state)) (λ i. (job.node i, c.self.view_is i)) c.copy_next.ensures.rest

pub returns-clause-settling : goal.returns-clause-settling
returns-clause-settling g c =
    let job = job_found c.args.at c.self.inside.state c.args.self.now _ c.args.task.now _ c.in-Some.row c.self.view_is c.book.ensures.log c.requires.copying c.job_of.ensures c.in-Some.is in
    λ left settling from. next_settles _ c.args.at c.args.task.now.node c.in-Some.row left c.self.inside.state c.args.self.now c.copy_next.new.state _ c.copy_next.result c.self.view_is c.book-3.ensures.log job.at_is job.node
    (legal_at _ _ _ _ refl c.book-2.ensures.log c.is_legal.ensures.legal) c.job_shows.ensures.newest c.copy_next.ensures.ok settling from
