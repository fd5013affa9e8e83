use Rattle.std.proofs.Common.{◌∙◌}
use Rattle.history_book.proofs.BookLemmas.{held}
use Rattle.history_book.proofs.book.Book.node_job.Goals as goal

pub returns : goal.returns
returns c = let h = held c.args.self.now _ _ _ _ _ _ _ c.self.view_is c.self.invariant.2 in c.get.ensures ∙ h.nodes_tell c.args.n.0
