use Rattle.history_book.proofs.BookLemmas.{told, held}
use Rattle.history_book.proofs.FoundLaws.{down_none}
use Rattle.history_book.proofs.JobLaws.{down_idle, vacant_idle}
use Rattle.history_book.proofs.book.Book.is_idle.Goals as goal

pub returns-clause-commits : goal.returns-clause-commits
returns-clause-commits c = let t = told c.args.self.now _ _ _ _ _ _ _ _ _ _ c.self.view_is c.self.invariant.1 in
    λ n down. down_none _ n _ t.legal down

pub returns-clause-down : goal.returns-clause-down
returns-clause-down c =
    let t = told c.args.self.now _ _ _ _ _ _ _ _ _ _ c.self.view_is c.self.invariant.1 in
    let h = held c.args.self.now _ _ _ _ _ _ _ c.self.view_is c.self.invariant.2 in
    λ n down. down_idle _ n c.args.self.now.log t.legal h.turns down

pub returns-clause-vacant : goal.returns-clause-vacant
returns-clause-vacant c =
    let t = told c.args.self.now _ _ _ _ _ _ _ _ _ _ c.self.view_is c.self.invariant.1 in
    let h = held c.args.self.now _ _ _ _ _ _ _ c.self.view_is c.self.invariant.2 in
    λ n none. vacant_idle _ n c.args.self.now.log t.legal h.turns none
