use Rattle.std.proofs.Common.{List, ℕ, subst, sym}
use Rattle.file_names.specs.Names.{IsFileOfSegment}
use Rattle.file_names.proofs.NameReading.{same_segment, not_none}
use Rattle.file_names.proofs.read_names.segment_of_file.Goals as goal

pub returns-in-Some-clause-all : goal.returns-in-Some-clause-all
returns-in-Some-clause-all c = λ seg is. same_segment c.in-Some.n seg (c.in-Some.ensures.all seg.0 (subst (λ (x : List ℕ). IsFileOfSegment seg.0 x) (sym c.as_slice.ensures.bytes) is))

pub returns-in-None-clause-all : goal.returns-in-None-clause-all
returns-in-None-clause-all c = λ seg is. absurd (not_none seg.0 (c.in-None.ensures.all seg.0 (subst (λ (x : List ℕ). IsFileOfSegment seg.0 x) (sym c.as_slice.ensures.bytes) is)))
