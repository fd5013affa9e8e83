use Rattle.std.proofs.Common.{◌≡◌, ◌-◌, ℕ, List, Some}
use Rattle.postings_plain.specs.Postings.{Skip}
use Rattle.postings_plain.specs.Reading.{skips_at}
use Rattle.postings_plain.proofs.CountedHits.{HasPassedBlocks}
use Rattle.postings_plain.proofs.entries.skip_blocks.Given as goal

abbrev pub invariant-loop : goal.invariant-loop
invariant-loop l = (list : List Skip) (after : List ℕ) → skips_at l.blocks 0 l.initial.skips ≡ Some (list, after) → HasPassedBlocks l.field list l.count (l.blocks - l.counter) l.initial.rest l.left l.least l.skips l.rest
