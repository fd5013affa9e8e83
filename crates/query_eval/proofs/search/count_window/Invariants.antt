use Rattle.std.proofs.Common.{◌-◌, ◌≤◌}
use Rattle.query_eval.specs.Best.{IsBar}
use Rattle.query_eval.proofs.SearchLemmas.{IsCounting}
use Rattle.query_eval.proofs.search.count_window.Given as goal

abbrev pub invariant-bits : goal.invariant-bits
invariant-bits l = (l.place ≤ 64) × IsCounting l.seg l.start l.marks l.times l.initial.best l.best l.place × IsBar l.seg.docs l.places l.bar l.best.hits

abbrev pub decreases-bits : goal.decreases-bits
decreases-bits l = 64 - l.place
