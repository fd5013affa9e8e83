use Rattle.std.proofs.Common.{rules}
use Rattle.std.specs.Prelude.{vec_len}
use Rattle.std.proofs.lemmas.Option.{slice_get_read}
use Rattle.history_book.proofs.book.row_at.Goals as goal

pub returns : goal.returns
returns c = slice_get_read _ (vec_len c.args.rows.now) c.args.i _ (search rules) c.requires c.index-row.ensures
