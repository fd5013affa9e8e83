use Rattle.cluster_copies.proofs.CopyRows.{job_found}
use Rattle.cluster_core.proofs.CopyDoes.{copies_asked}
use Rattle.cluster_core.proofs.cluster.Cluster.asked_to_copy.Goals as goal

pub returns : goal.returns
returns g c =
    let job = job_found c.args.at c.self.inside.state c.args.self.now _ c.args.task.now _ c.in-Some.row c.self.view_is c.book.ensures.log c.requires.copying c.job_of.ensures c.in-Some.is in
    copies_asked c.args.at c.in-Some.row c.self.inside.state c.args.self.now _ c.self.view_is c.book-2.ensures.log job.at_is c.job_shows.ensures.started
