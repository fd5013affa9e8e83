use Rattle.std.proofs.Common.{◌∙◌, ap, nat_le, ℕ}
use Rattle.history_book.specs.Log.{printed}
use Rattle.history_tables.specs.NodeRows.{crashed_at}
use Rattle.history_book.proofs.ReignLaws.{node_alive}
use Rattle.history_book.proofs.book.Book.node_survives.Goals as goal

pub returns : goal.returns
returns c = ap (λ (k : ℕ). nat_le k c.before-before.result) c.crashed-crashed.ensures ∙ (ap (nat_le (crashed_at c.args.n.0 (printed c.args.self.now.log))) c.before-before.ensures ∙ node_alive c.args.n.0 c.args.at (printed c.args.self.now.log))
