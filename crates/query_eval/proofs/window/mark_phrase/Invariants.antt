use Rattle.std.proofs.Common.{◌+◌, ◌-◌, ◌≤◌}
use Rattle.query_eval.proofs.PhraseLemmas.{IsMarkingPhrase}
use Rattle.query_eval.proofs.window.mark_phrase.Given as goal

abbrev pub invariant-aligned : goal.invariant-aligned
invariant-aligned l = (l.row ≤ l.start + 64) × IsMarkingPhrase l.start l.row l.fn.words l.words l.fn.times l.times l.marks

abbrev pub decreases-aligned : goal.decreases-aligned
decreases-aligned l = l.start + 64 - l.row
