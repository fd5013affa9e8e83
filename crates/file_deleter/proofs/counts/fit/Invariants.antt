use Rattle.std.proofs.Common.{◌+◌, ◌<◌, ◌^◌, ℕ, List, length, get_or}
use Rattle.file_deleter.specs.Holdings.{count_in}
use Rattle.file_deleter.proofs.counts.fit.Given as goal

-- the names so far can be counted
abbrev pub invariant-loop-name : goal.invariant-loop-name
invariant-loop-name l = (k : ℕ) (d : List ℕ) → k < l.name-index → count_in l.counts.entries (get_or l.names k d) + length l.names < 2 ^ 64
