use Rattle.std.proofs.Common.{◌≡◌, ◌+◌, ◌≤◌, ℕ, List, take}
use Rattle.indexmap.specs.IndexMap.{spare, index_map_len}
use Rattle.file_deleter.specs.Holdings.{count_in, times}
use Rattle.file_deleter.specs.Tally.{IsPositive}
use Rattle.file_deleter.proofs.counts.add_all.Given as goal

-- the names so far are counted, and there is room for the rest
abbrev pub invariant-loop-name : goal.invariant-loop-name
invariant-loop-name l = record {
  room : spare l.initial.counts ≤ spare l.counts + l.name-index;
  len : index_map_len l.counts ≤ index_map_len l.initial.counts + l.name-index;
  counts : (q : List ℕ) → count_in l.counts.entries q ≡ count_in l.initial.counts.entries q + times (take l.name-index l.names) q;
  positive : IsPositive l.counts.entries;
}
