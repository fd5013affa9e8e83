use Rattle.std.proofs.Common.{map}
use Rattle.std.specs.Map.Iter.{deref_pair}
use Rattle.postings_plain.proofs.FoundEntries.{HasEntries}
use Rattle.postings_plain.proofs.encoding.push_body.Given as goal

abbrev pub invariant-loop-term : goal.invariant-loop-term
invariant-loop-term l = record {
  can : (goal.iterator-loop-term).can_next l.term-iterator;
  finite : (goal.iterator-loop-term).is_finite l.term-iterator;
  has : HasEntries l.format (map deref_pair l.yielded) l.offsets.items l.area.items;
}
