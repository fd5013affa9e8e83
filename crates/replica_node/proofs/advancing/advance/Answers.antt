use Rattle.std.specs.List.{AllPairs}
use Rattle.std.proofs.Common.{◌≢◌, sym, subst, ap, ◌∙◌, refl, List, ◌+◌}
use Rattle.disk_model.specs.Disk.{Name, Cells, reads_of}
use Rattle.file_deleter.specs.Holdings.{times, AreThere}
use Rattle.file_deleter.specs.Moves.{HoldsFiles}
use Rattle.segment_infos.specs.declared.infos.SegRecord.{SegRecord}
use Rattle.segment_infos.specs.Files.{AreFilesOf}
use Rattle.seg_reader.specs.Shown.{Shown}
use Rattle.copy_job.specs.Jobs.{Job, job_names}
use Rattle.replica_opening.specs.Readers.{AreReaders}
use Rattle.replica_node.specs.Advancing.{TakesInHand}
use Rattle.replica_node.proofs.Advances.{stands_now, old_readers, files_there, advanced, still_reads, still_moves}
use Rattle.replica_node.proofs.advancing.advance.Goals as goal

pub readers_of-requires-clause-readers : goal.readers_of-requires-clause-readers
readers_of-requires-clause-readers g c =
    subst (λ (rs : List SegRecord). AreReaders (reads_of (g.D.Dir.cells c.place.new.dir)) rs c.as_slice-3.result.now) (sym c.as_slice-2.ensures)
    (subst (λ (ss : List Shown). AreReaders (reads_of (g.D.Dir.cells c.place.new.dir)) c.args.infos.now.segs ss) (sym c.as_slice-3.ensures)
    (old_readers c.args.copy.now c.args.wanted.now c.place.new.self.parts c.args.olds.now.names c.args.files.now c.place.new.files (g.D.Dir.cells c.args.dir.now) (g.D.Dir.cells c.place.new.dir) c.requires.ready c.requires.counted c.in_default.ensures.ok c.args.infos.now c.args.olds.now refl c.requires.point))

pub readers_of-requires-clause-stands : goal.readers_of-requires-clause-stands
readers_of-requires-clause-stands g c =
    let s = stands_now c.args.copy.now c.args.wanted.now c.place.new.self.parts c.args.olds.now.names c.args.files.now c.place.new.files (g.D.Dir.cells c.args.dir.now) (g.D.Dir.cells c.place.new.dir) c.requires.ready c.requires.counted c.in_default.ensures.ok c.requires.ready.standing.docs c.requires.ready.standing.stands in
    (s.segs, subst (λ (rs : List SegRecord). AreReaders (reads_of (g.D.Dir.cells c.place.new.dir)) rs s.segs) (sym c.as_slice.ensures) s.stands.each)

pub returns-in-Err-place-clause-still : goal.returns-in-Err-place-clause-still
returns-in-Err-place-clause-still g c = still_reads c.args.copy.now c.place.new.self c.in-Err-place.ensures.err.0 c.args.files.now c.place.new.files (g.D.Dir.cells c.args.dir.now) (g.D.Dir.cells c.place.new.dir) (g.D.Dir.cells c.place.new.dir) c.in-Err-place.ensures.err.1 c.place.ensures.others refl c.args.olds.now.names c.requires.counted

pub returns-in-Err-readers_of-clause-err : goal.returns-in-Err-readers_of-clause-err
returns-in-Err-readers_of-clause-err g c = still_moves c.args.copy.now c.place.new.self _ c.args.files.now c.place.new.files (g.D.Dir.cells c.args.dir.now) (g.D.Dir.cells c.place.new.dir) (g.D.Dir.cells c.readers_of.new.dir) c.in_default.ensures.ok c.place.ensures.others c.readers_of.ensures.cells _ refl

pub returns-in-Err-readers_of-clause-still : goal.returns-in-Err-readers_of-clause-still
returns-in-Err-readers_of-clause-still g c = still_reads c.args.copy.now c.place.new.self _ c.args.files.now c.place.new.files (g.D.Dir.cells c.args.dir.now) (g.D.Dir.cells c.place.new.dir) (g.D.Dir.cells c.readers_of.new.dir) c.in_default.ensures.ok c.place.ensures.others c.readers_of.ensures.cells c.args.olds.now.names c.requires.counted

pub returns-in_default-share-clause-still : goal.returns-in_default-share-clause-still
returns-in_default-share-clause-still g c = still_reads c.args.copy.now c.place.new.self _ c.args.files.now c.place.new.files (g.D.Dir.cells c.args.dir.now) (g.D.Dir.cells c.place.new.dir) (g.D.Dir.cells c.readers_of.new.dir) c.in_default.ensures.ok c.place.ensures.others c.readers_of.ensures.cells c.args.olds.now.names c.requires.counted

pub returns-in_default-gone_names-clause-still : goal.returns-in_default-gone_names-clause-still
returns-in_default-gone_names-clause-still g c = still_reads c.args.copy.now c.place.new.self _ c.args.files.now c.place.new.files (g.D.Dir.cells c.args.dir.now) (g.D.Dir.cells c.place.new.dir) (g.D.Dir.cells c.readers_of.new.dir) c.in_default.ensures.ok c.place.ensures.others c.readers_of.ensures.cells c.args.olds.now.names c.requires.counted

pub returns-in_default-hold_there-clause-still : goal.returns-in_default-hold_there-clause-still
returns-in_default-hold_there-clause-still g c = still_reads c.args.copy.now c.place.new.self _ c.args.files.now c.place.new.files (g.D.Dir.cells c.args.dir.now) (g.D.Dir.cells c.place.new.dir) (g.D.Dir.cells c.readers_of.new.dir) c.in_default.ensures.ok c.place.ensures.others c.readers_of.ensures.cells c.args.olds.now.names c.requires.counted

pub returns-in_default-hold_there-clause-err : goal.returns-in_default-hold_there-clause-err
returns-in_default-hold_there-clause-err g c = still_moves c.args.copy.now c.place.new.self _ c.args.files.now c.place.new.files (g.D.Dir.cells c.args.dir.now) (g.D.Dir.cells c.place.new.dir) (g.D.Dir.cells c.readers_of.new.dir) c.in_default.ensures.ok c.place.ensures.others c.readers_of.ensures.cells _ c.in_default-hold_there.ensures.err

pub hold_there-requires : goal.hold_there-requires
hold_there-requires g c =
    subst (λ (cells : Cells). AreThere cells c.as_slice-4.result.now) (sym c.readers_of.ensures.cells)
    (subst (AreThere (g.D.Dir.cells c.place.new.dir)) (sym c.as_slice-4.ensures)
    (files_there c.args.copy.now c.args.wanted.now c.place.new.self.parts c.args.olds.now.names c.args.files.now c.place.new.files (g.D.Dir.cells c.args.dir.now) (g.D.Dir.cells c.place.new.dir) c.requires.ready c.requires.counted c.in_default.ensures.ok c.from_vec-names.result
    (subst (AreFilesOf c.args.wanted.now) (sym c.from_vec-names.ensures) c.in-Ok.ensures) c.requires.whole))

pub returns-clause-ok : goal.returns-clause-ok
returns-clause-ok g c =
    subst (λ (n : Job). TakesInHand c.args.copy.now n c.args.wanted.now c.args.olds.now.names c.args.dropped.now (record { names = c.from_vec-names.result; gone = c.in-Ok-gone_names.gone; segs = c.from_vec-segs.result; readers = c.in-Ok-share.readers })
    c.args.files.now c.hold_there.new.self (g.D.Dir.cells c.args.dir.now) (g.D.Dir.cells c.readers_of.new.dir)) (sym c.place.ensures.others)
    (advanced c.args.copy.now c.args.wanted.now c.place.new.self.parts c.args.olds.now.names c.args.files.now c.place.new.files (g.D.Dir.cells c.args.dir.now) (g.D.Dir.cells c.place.new.dir) c.requires.ready c.requires.counted c.in_default.ensures.ok
    c.args.dropped.now c.hold_there.new.self (g.D.Dir.cells c.readers_of.new.dir) (record { names = c.from_vec-names.result; gone = c.in-Ok-gone_names.gone; segs = c.from_vec-segs.result; readers = c.in-Ok-share.readers })
    (subst (AreFilesOf c.args.wanted.now) (sym c.from_vec-names.ensures) c.in-Ok.ensures) c.readers_of.ensures.cells
    (subst (λ (ss : List Shown). AreReaders (reads_of (g.D.Dir.cells c.place.new.dir)) c.args.wanted.now.segs ss) (sym c.from_vec-segs.ensures)
    (subst (λ (rs : List SegRecord). AreReaders (reads_of (g.D.Dir.cells c.place.new.dir)) rs c.in-Ok-readers_of.segs.items) c.as_slice.ensures c.in-Ok-readers_of.ensures.readers))
    c.in-Ok-share.ensures
    (λ q. c.in-Ok-gone_names.ensures q ∙ ap (λ (n : Job). times c.args.olds.now.names q + times (job_names n) q + times c.args.dropped.now q) c.place.ensures.others)
    (subst (λ (cells : Cells). HoldsFiles c.from_vec-names.result c.place.new.files c.hold_there.new.self cells) c.readers_of.ensures.cells
    (subst (λ (ns : List Name). HoldsFiles ns c.place.new.files c.hold_there.new.self (g.D.Dir.cells c.readers_of.new.dir)) c.as_slice-4.ensures c.in-Ok-hold_there.ensures.holds)))

pub readers_of-requires-clause-apart : goal.readers_of-requires-clause-apart
readers_of-requires-clause-apart g c = subst (λ (rs : List SegRecord). AllPairs (λ r s. r.seg.0 ≢ s.seg.0) rs) (sym c.as_slice-2.ensures) c.requires.spelled.apart
