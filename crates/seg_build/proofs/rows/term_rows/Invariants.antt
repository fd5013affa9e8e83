use Rattle.std.proofs.Common.{◌≡◌, map, take}
use Rattle.seg_reader.specs.Sound.{term_row}
use Rattle.seg_build.specs.Rows.{docs_of}
use Rattle.seg_build.proofs.rows.term_rows.Given as goal

abbrev pub invariant-loop-row : goal.invariant-loop-row
invariant-loop-row l = l.terms.items ≡ map term_row (docs_of (take l.row-index l.rows))
