use Rattle.history_book.proofs.BookLemmas.{told, held}
use Rattle.history_book.proofs.JobLaws.{job_shows}
use Rattle.history_book.proofs.book.Book.job_shows.Goals as goal

pub returns : goal.returns
returns c =
    let t = told c.args.self.now _ _ _ _ _ _ _ _ _ _ c.self.view_is c.self.invariant.1 in
    let h = held c.args.self.now _ _ _ _ _ _ _ c.self.view_is c.self.invariant.2 in
    job_shows _ c.args.row.job.at.lane.0 c.args.self.now.log t.legal t.turns h.turns c.args.row c.requires
