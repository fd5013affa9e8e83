use Rattle.std.proofs.Common.{◌≡◌, map}
use Rattle.std.specs.Map.Iter.{deref}
use Rattle.segment_steps.specs.Cut.{live_left, has_key_of, has_word_of}
use Rattle.segment_steps.specs.Segments.{changed}
use Rattle.segment_steps.specs.Killing.{HasAllRows}
use Rattle.segment_steps.proofs.killing.change_of.Given as goal

abbrev pub invariant-loop-key : goal.invariant-loop-key
invariant-loop-key l = record {
  rows : HasAllRows l.segment l.change;
  live : (changed l.segment l.change).live ≡ live_left (has_key_of (map deref l.yielded)) l.segment.docs l.segment.live;
}

abbrev pub invariant-loop-word : goal.invariant-loop-word
invariant-loop-word l = record {
  rows : HasAllRows l.segment l.change;
  live : (changed l.segment l.change).live ≡ live_left (has_word_of (map deref l.yielded)) l.segment.docs (changed l.segment l.initial.change).live;
}
