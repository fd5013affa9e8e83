use Rattle.std.proofs.Common.{◌-◌}
use Rattle.query_eval.specs.Best.{IsBar}
use Rattle.query_eval.specs.Cursor.{answers, rank_in}
use Rattle.query_eval.proofs.SearchLemmas.{IsSearching}
use Rattle.query_eval.proofs.search.search_rows.Given as goal

abbrev pub invariant-windows : goal.invariant-windows
invariant-windows l = IsSearching l.query l.seg l.initial.best (answers l.cursor) (rank_in l.cursor) l.best l.row × IsBar l.seg.docs l.places l.bar l.best.hits

abbrev pub decreases-windows : goal.decreases-windows
decreases-windows l = l.rows - l.row
