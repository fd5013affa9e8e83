use Rattle.std.proofs.Common.{Err, refl, sym, subst}
use Rattle.index_check.specs.declared.fault.CheckFault.{CheckFault}
use Rattle.index_check.specs.Answers.{IsExact}
use Rattle.index_check.specs.Segments.{IsRightOf, HaveFault}
use Rattle.index_check.proofs.Postings.{own_postings}
use Rattle.index_check.proofs.OneSegment.{reader_refused, by_postings}
use Rattle.index_check.proofs.segment.read_parts.Goals as goal

pub if_sound-requires : goal.if_sound-requires
if_sound-requires c = own_postings c.args.parts c.args.record.now c.in-Ok.segment c.args.format c.args.post.now c.args.parts.info c.in-Ok.ensures.segment c.requires.post refl c.requires.format

pub returns-in-Ok-clause-exact : goal.returns-in-Ok-clause-exact
returns-in-Ok-clause-exact c =
    by_postings c.args.parts c.args.record.now c.in-Ok.segment c.in-Ok.ensures.segment c.in-Ok.ensures.each_fault c.if_sound.result c.if_sound.ensures.sound c.if_sound.ensures.fault

pub returns-in-Err-clause-exact : goal.returns-in-Err-clause-exact
returns-in-Err-clause-exact c =
    subst (λ (f : CheckFault). IsExact (IsRightOf c.args.parts c.args.record.now) (HaveFault c.args.parts c.args.record.now) (Err f)) (sym c.named.ensures)
    (reader_refused c.args.parts c.args.record.now c.in-Err.fault c.in-Err.ensures.fault c.in-Err.ensures.each_segment c.in-Err.ensures.each_fault)
