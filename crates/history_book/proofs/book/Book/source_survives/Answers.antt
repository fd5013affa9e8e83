use Rattle.std.proofs.Common.{◌∙◌, ap, nat_le, ℕ}
use Rattle.history_book.specs.Log.{printed}
use Rattle.history_tables.specs.Numbering.{primary_crashed}
use Rattle.history_book.proofs.ReignLaws.{source_alive}
use Rattle.history_book.proofs.book.Book.source_survives.Goals as goal

pub returns : goal.returns
returns c = ap (λ (k : ℕ). nat_le k c.before-before.result) c.source_crashed-crashed.ensures ∙ (ap (nat_le (primary_crashed (printed c.args.self.now.log))) c.before-before.ensures ∙ source_alive c.args.at (printed c.args.self.now.log))
