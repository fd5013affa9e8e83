use Rattle.std.proofs.Common.{◌≡◌, map, take}
use Rattle.seg_reader.specs.Sound.{term_row}
use Rattle.index_check.proofs.segment.all_terms.Given as goal

abbrev pub invariant-loop-row : goal.invariant-loop-row
invariant-loop-row l = l.terms.items ≡ map term_row (take l.row l.segment.docs)
