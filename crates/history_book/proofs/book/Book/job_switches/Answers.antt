use Rattle.history_book.specs.Log.{printed}
use Rattle.history_book.proofs.BookLemmas.{told, held}
use Rattle.history_book.proofs.JobLaws.{job_shows, job_switches}
use Rattle.history_book.proofs.book.Book.job_switches.Goals as goal

pub returns : goal.returns
returns c =
    let t = told c.args.self.now _ _ _ _ _ _ _ _ _ _ c.self.view_is c.self.invariant.1 in
    let h = held c.args.self.now _ _ _ _ _ _ _ c.self.view_is c.self.invariant.2 in
    let s = job_shows _ c.args.row.job.at.lane.0 c.args.self.now.log t.legal t.turns h.turns c.args.row c.requires.job in
    job_switches _ (printed c.args.self.now.log) c.args.row t.legal s c.requires.node c.requires.source c.requires.below c.requires.latest c.requires.whole c.requires.ordered
