use Rattle.std.proofs.Common.{List, ℕ, Ok, Err, subst}
use Rattle.body_forms.specs.File.{IsFileRead}
use Rattle.postings_plain.specs.declared.format.Format.TheVariants.{One}
use Rattle.segment_infos.specs.SegmentInfo.{SpellsSegmentInfo, info_wanted}
use Rattle.index_check.proofs.Postings.{format_told, never_told}
use Rattle.index_check.proofs.segment.format_in.Goals as goal

pub returns-in-Ok : goal.returns-in-Ok
returns-in-Ok c =
    let id = c.segment_id.result in
    format_told c.args.record.now id c.args.info.now c.in-Ok.info c.format_of.result c.segment_id.ensures
    (subst (λ (bytes : List ℕ). IsFileRead SpellsSegmentInfo (info_wanted id) id bytes (Ok c.in-Ok.info)) c.as_slice.ensures c.in-Ok.ensures) c.format_of.ensures

pub returns-in-Err : goal.returns-in-Err
returns-in-Err c =
    let id = c.segment_id.result in
    never_told c.args.record.now id c.args.info.now c.in-Err.field-0 One c.segment_id.ensures
    (subst (λ (bytes : List ℕ). IsFileRead SpellsSegmentInfo (info_wanted id) id bytes (Err c.in-Err.field-0)) c.as_slice.ensures c.in-Err.ensures)
