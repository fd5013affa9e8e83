use Rattle.std.proofs.Common.{◌∙◌, sym}
use Rattle.history_book.proofs.BookLemmas.{told, committer_some, committer_none}
use Rattle.history_book.specs.Log.{printed}
use Rattle.history_book.proofs.book.Book.committer_of.Goals as goal

pub returns-in-Some : goal.returns-in-Some
returns-in-Some c =
    let t = told c.args.self.now _ _ _ _ _ _ _ _ _ _ c.self.view_is c.self.invariant.1 in
    committer_some c.args.at (printed c.args.self.now.log) c.in-Some.begun _ (sym (t.lines_tell c.args.at) ∙ (sym c.get.ensures ∙ c.in-Some.is)) c.commit_node.ensures

pub returns-in-None : goal.returns-in-None
returns-in-None c =
    let t = told c.args.self.now _ _ _ _ _ _ _ _ _ _ c.self.view_is c.self.invariant.1 in
    committer_none c.args.at (printed c.args.self.now.log) (sym (t.lines_tell c.args.at) ∙ (sym c.get.ensures ∙ c.in-None.is)) c.requires
