use Rattle.std.proofs.Common.{arith}
use Rattle.history_book.specs.Log.{printed}
use Rattle.history_facts.proofs.WrittenLemmas.{written_few}
use Rattle.history_book.proofs.book.Book.is_counted.Goals as goal

pub returns : goal.returns
returns c = let few = written_few (printed c.args.self.now.log) in omega (arith, few)
