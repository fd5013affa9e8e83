use Rattle.std.proofs.Common.{◌≡◌, take}
use Rattle.std.specs.Prelude.{reverse}
use Rattle.documents.specs.Documents.{documents_in, documents_after}
use Rattle.history_rules.specs.Points.{operations_written}
use Rattle.history_points.specs.Kept.{IsSearched}
use Rattle.history_points.proofs.reached.go_on.Given as goal

abbrev pub invariant-loop-i : goal.invariant-loop-i
invariant-loop-i l =
    IsSearched l.searched × (documents_in l.searched.texts ≡ documents_after (operations_written (reverse (take l.i l.entries))))
