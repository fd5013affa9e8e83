use Rattle.std.proofs.Common.{◌≡◌, ◌++◌, ◌∷◌, [], List, length, take}
use Rattle.postings_plain.specs.declared.row.TermRow.{TermRow}
use Rattle.postings_plain.specs.Gathering.{Gathers}
use Rattle.postings_plain.proofs.inverting.add_row.Given as goal

abbrev pub invariant-loop-place : goal.invariant-loop-place
invariant-loop-place l =
    (rows : List TermRow) → length rows ≡ l.number → Gathers l.fn.found.entries rows → Gathers l.found.entries (rows ++ record { key = l.row.key; words = take l.place l.words } ∷ [])
