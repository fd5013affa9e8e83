use Rattle.std.proofs.Common.{◌≡◌, ◌<◌, length}
use Rattle.codec_frame.specs.Register.{taken_in}
use Rattle.codec_frame.proofs.Triples.{wide}
use Rattle.codec_frame.proofs.crc.take_in_triples.Given as goal

abbrev pub invariant-triples : goal.invariant-triples
invariant-triples l = record {
  whole : taken_in (wide l.first l.second l.third) l.left ≡ taken_in l.register l.bytes;
  none : length l.left < 16 → wide l.first l.second l.third ≡ l.first;
}

abbrev pub decreases-triples : goal.decreases-triples
decreases-triples l = length l.left
