use Rattle.std.proofs.Common.{refl, subst, sym}
use Rattle.nrt_base.specs.declared.numbers.At.{At}
use Rattle.nrt_base.specs.declared.numbers.NodeNo.{NodeNo}
use Rattle.history_book.specs.Log.{printed}
use Rattle.cluster_state.specs.DueFaults.{MeetsFate}
use Rattle.cluster_state.specs.Run.{Run}
use Rattle.cluster_state.proofs.Rows.{legal_at, turns_at}
use Rattle.cluster_copies.proofs.CopyRows.{job_found}
use Rattle.cluster_core.proofs.CopyDoes.{arrived_done}
use Rattle.std.specs.Prelude.{OnOk}
use Rattle.cluster_state.specs.Keeping.{KeepsButFiles}
use Rattle.cluster_core.proofs.cluster.Cluster.copy_arrived.Goals as goal

pub copy_arrived-requires-clause-met : goal.copy_arrived-requires-clause-met
copy_arrived-requires-clause-met g c =
    let job = job_found c.args.at c.self.inside.state c.args.self.now _ c.args.task.now _ c.in-Some.row c.self.view_is c.book.ensures.log c.requires.copying c.job_of.ensures c.in-Some.is in
    subst (λ (z : Run × (At × NodeNo)). MeetsFate c.args.file.now.fate z.1.0 z.1.1.0 (printed z.0.log)) (λ i. (sym c.self.view_is i, (sym job.at_is i, sym job.node i))) c.requires.met

pub returns-clause-does : goal.returns-clause-does
returns-clause-does g c =
    let job = job_found c.args.at c.self.inside.state c.args.self.now _ c.args.task.now _ c.in-Some.row c.self.view_is c.book.ensures.log c.requires.copying c.job_of.ensures c.in-Some.is in
    λ command copies. arrived_done command c.args.at c.in-Some.row c.args.file.now _ c.self.inside.state c.args.self.now c.copy_arrived.new.state c.copy_arrived.result c.self.view_is job.at_is job.copies
    (legal_at _ _ _ _ refl c.book-2.ensures.log c.is_legal.ensures.legal) (turns_at _ _ c.book-2.ensures.log c.is_legal.ensures.turns) c.copy_arrived.ensures.ok copies

pub returns-clause-rest : goal.returns-clause-rest
returns-clause-rest g c =
    let job = job_found c.args.at c.self.inside.state c.args.self.now _ c.args.task.now _ c.in-Some.row c.self.view_is c.book.ensures.log c.requires.copying c.job_of.ensures c.in-Some.is in
    subst (λ (z : NodeNo × Run). OnOk c.copy_arrived.result (KeepsButFiles z.0.0 z.1 c.copy_arrived.new.state)) (λ i. (job.node i, c.self.view_is i)) c.copy_arrived.ensures.rest
