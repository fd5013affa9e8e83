use Rattle.std.proofs.Common.{◌∙◌, ap, sym, subst}
use Rattle.segment_infos.specs.declared.infos.SegRecord.{SegRecord}
use Rattle.seg_reader.specs.declared.parts.SegParts.{SegParts}
use Rattle.seg_reader.specs.Files.{IsSegmentOf}
use Rattle.seg_reader.specs.Shown.{Shown}
use Rattle.seg_reader.specs.Sound.{IsSound}
use Rattle.seg_build.specs.Built.{record_of}
use Rattle.seg_build.proofs.ReadBack.{what_is_read, why_unread}
use Rattle.seg_build.proofs.reading.read_back.Goals as goal

pub returns-in-Ok-clause-docs : goal.returns-in-Ok-clause-docs
returns-in-Ok-clause-docs c docs b =
    let built = c.args.built.now in
    let r = record_of built.seg built.live in
    let same = c.in_ok-parts.ensures r b.parts (c.as_slice.ensures ∙ b.named) in
    let x = what_is_read r c.first_record-record.result c.in_ok-parts.parts built.files docs built.live c.in-Ok.segment c.first_record-record.ensures b same c.in-Ok.ensures.each_segment in
    ap (λ (s : Shown). s.docs) x.1

pub returns-in-Ok-clause-live : goal.returns-in-Ok-clause-live
returns-in-Ok-clause-live c =
    let b = c.requires.1 in
    let built = c.args.built.now in
    let r = record_of built.seg built.live in
    let same = c.in_ok-parts.ensures r b.parts (c.as_slice.ensures ∙ b.named) in
    let x = what_is_read r c.first_record-record.result c.in_ok-parts.parts built.files c.requires.0 built.live c.in-Ok.segment c.first_record-record.ensures b same c.in-Ok.ensures.each_segment in
    ap (λ (s : Shown). s.live) x.1

pub returns-in-Ok-clause-sound : goal.returns-in-Ok-clause-sound
returns-in-Ok-clause-sound c =
    let b = c.requires.1 in
    let built = c.args.built.now in
    let r = record_of built.seg built.live in
    let same = c.in_ok-parts.ensures r b.parts (c.as_slice.ensures ∙ b.named) in
    let x = what_is_read r c.first_record-record.result c.in_ok-parts.parts built.files c.requires.0 built.live c.in-Ok.segment c.first_record-record.ensures b same c.in-Ok.ensures.each_segment in
    subst IsSound (sym x.1) x.0.sound

pub returns-in-Ok-clause-segment : goal.returns-in-Ok-clause-segment
returns-in-Ok-clause-segment c docs b =
    let built = c.args.built.now in
    let r = record_of built.seg built.live in
    let same = c.in_ok-parts.ensures r b.parts (c.as_slice.ensures ∙ b.named) in
    subst (λ (p : SegParts). IsSegmentOf p r c.in-Ok.segment) same (subst (λ (k : SegRecord). IsSegmentOf c.in_ok-parts.parts k c.in-Ok.segment) c.first_record-record.ensures c.in-Ok.ensures.segment)

pub want_of_memory-requires : goal.want_of_memory-requires
want_of_memory-requires c =
    let b = c.requires.1 in
    let built = c.args.built.now in
    why_unread (record_of built.seg built.live) c.first_record-record.result c.in_ok-parts.parts built.files c.requires.0 built.live c.in-Err.fault c.first_record-record.ensures b
    (c.in_ok-parts.ensures (record_of built.seg built.live) b.parts (c.as_slice.ensures ∙ b.named)) c.in-Err.ensures.each_segment
