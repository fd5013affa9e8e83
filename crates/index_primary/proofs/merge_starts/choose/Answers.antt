use Rattle.std.proofs.Common.{sym}
use Rattle.std.proofs.lemmas.Slice.Zip.{AllZip-long}
use Rattle.disk_model.specs.Disk.{reads_of}
use Rattle.seg_reader.specs.Stands.{IsSegmentIn}
use Rattle.index_primary.proofs.merge_starts.choose.Goals as goal

pub start_merge-requires-clause-many : goal.start_merge-requires-clause-many
start_merge-requires-clause-many g c = let p = c.args.parts.now in
    rw (c.as_slice-2.ensures, c.as_slice-3.ensures) (sym (AllZip-long (IsSegmentIn (reads_of (g.D.Dir.cells p.dir))) p.infos.segs p.segs c.requires.whole.writer.stands.each))

pub returns-in-Ok : goal.returns-in-Ok
returns-in-Ok g c = rw (c.as_slice-2.ensures, c.as_slice-3.ensures, c.deref.ensures.value, c.in_ok-held.ensures, c.as_slice.ensures) at c.in-Ok.ensures
