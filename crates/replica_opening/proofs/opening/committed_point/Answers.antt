use Rattle.std.proofs.Common.{subst, sym, List}
use Rattle.std.specs.Prelude.{Contains}
use Rattle.std.specs.List.{flat_map, All}
use Rattle.commit_steps.proofs.Recovered.{whole_there}
use Rattle.segment_infos.specs.Infos.{RecordFits}
use Rattle.replica_opening.specs.Known.{KnowsFiles}
use Rattle.segment_infos.specs.Files.{files_of_segment}
use Rattle.segment_infos.specs.declared.infos.SegRecord.{SegRecord}
use Rattle.disk_model.specs.Disk.{reads_of}
use Rattle.replica_opening.specs.Readers.{AreReaders, IsFirstRefusedSegment}
use Rattle.replica_opening.proofs.Openings.{whole_found}
use Rattle.replica_opening.proofs.opening.committed_point.Goals as goal

pub read_all-requires-clause-there : goal.read_all-requires-clause-there
read_all-requires-clause-there g c q named =
    whole_there (g.D.Dir.cells c.args.dir.now) c.args.number c.args.infos c.requires q (subst (λ (rs : List SegRecord). Contains (flat_map files_of_segment rs) q) c.as_slice.ensures named)

pub read_all-requires-clause-fit : goal.read_all-requires-clause-fit
read_all-requires-clause-fit g c = subst (λ (rs : List SegRecord). All RecordFits rs) (sym c.as_slice.ensures) c.requires.shown.spelled.spelled.fit.records

pub returns-in-Ok-read_all-clause-found : goal.returns-in-Ok-read_all-clause-found
returns-in-Ok-read_all-clause-found g c =
    whole_found (g.D.Dir.cells c.args.dir.now) c.args.number c.args.infos c.in-Ok.names.items c.from_vec-names.result c.in-Ok-read_all.read c.requires c.in-Ok.ensures c.from_vec-names.ensures
    (subst (λ (rs : List SegRecord). AreReaders (reads_of (g.D.Dir.cells c.args.dir.now)) rs c.in-Ok-read_all.read.segs) c.as_slice.ensures c.in-Ok-read_all.ensures.readers)
    (subst (λ (rs : List SegRecord). KnowsFiles (reads_of (g.D.Dir.cells c.args.dir.now)) (flat_map files_of_segment rs) c.in-Ok-read_all.read.known) c.as_slice.ensures c.in-Ok-read_all.ensures.known)

pub returns-in-Ok-read_all-clause-refused : goal.returns-in-Ok-read_all-clause-refused
returns-in-Ok-read_all-clause-refused g c r fault h = c.in-Ok-read_all.ensures.refused r fault (subst (λ (rs : List SegRecord). IsFirstRefusedSegment (reads_of (g.D.Dir.cells c.args.dir.now)) rs r fault) (sym c.as_slice.ensures) h)

pub returns-in-Err-read_all-clause-refused : goal.returns-in-Err-read_all-clause-refused
returns-in-Err-read_all-clause-refused g c r fault h = c.in-Err-read_all.ensures.refused r fault (subst (λ (rs : List SegRecord). IsFirstRefusedSegment (reads_of (g.D.Dir.cells c.args.dir.now)) rs r fault) (sym c.as_slice.ensures) h)

pub returns-in-Err-read_all-clause-opens : goal.returns-in-Err-read_all-clause-opens
returns-in-Err-read_all-clause-opens g c segs read = c.in-Err-read_all.ensures.opens segs (subst (λ (rs : List SegRecord). AreReaders (reads_of (g.D.Dir.cells c.args.dir.now)) rs segs) (sym c.as_slice.ensures) read)
