use Rattle.std.proofs.Common.{◌<◌, ℕ, List}
use Rattle.body_forms.specs.ItemTable.{IsItemTable}
use Rattle.postings_plain.proofs.Judging.{EntryAt, NextBelow}
use Rattle.postings_plain.proofs.RowCounts.{Ends}
use Rattle.postings_plain.proofs.body.row_count.Given as goal

abbrev pub invariant-loop-place : goal.invariant-loop-place
invariant-loop-place l = record {
  entries : (items : List (List ℕ)) → IsItemTable l.body items → (i : ℕ) → i < l.place → EntryAt l.format items i;
  ends : (items : List (List ℕ)) → IsItemTable l.body items → Ends l.format items l.place l.rows;
}

abbrev pub invariant-loop-low : goal.invariant-loop-low
invariant-loop-low l = (items : List (List ℕ)) → IsItemTable l.body items → NextBelow l.fn.format items l.low
