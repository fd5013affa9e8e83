use Rattle.std.proofs.Common.{◌≡◌, ◌+◌, ◌≤◌, ◌&&◌, ℕ, List, take, if◌then◌else◌, nat_eq, vec_len}
use Rattle.std.specs.Vec.{vec_capacity}
use Rattle.indexmap.specs.IndexMap.{spare, index_map_len}
use Rattle.disk_model.specs.Disk.{is_among}
use Rattle.file_deleter.specs.Holdings.{count_in, times}
use Rattle.file_deleter.specs.Tally.{IsPositive}
use Rattle.file_deleter.proofs.counts.take_all.Given as goal

-- the names so far are given back, and those that are counted no more have fallen
abbrev pub invariant-loop-name : goal.invariant-loop-name
invariant-loop-name l = record {
  counts : (q : List ℕ) → count_in l.counts.entries q + times (take l.name-index l.names) q ≡ count_in l.initial.counts.entries q;
  positive : IsPositive l.counts.entries;
  fallen : (q : List ℕ) → times l.fallen.items q ≡ (if is_among (take l.name-index l.names) q && nat_eq (count_in l.counts.entries q) 0 then 1 else 0);
  len : index_map_len l.counts + vec_len l.fallen ≡ index_map_len l.initial.counts;
  capacity : vec_capacity l.initial.fallen ≤ vec_capacity l.fallen;
  spare : spare l.initial.counts ≤ spare l.counts;
}
