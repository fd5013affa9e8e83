use Rattle.std.proofs.Common.{subst, sym, ap}
use Rattle.disk_model.specs.Disk.{Cells, reads_of}
use Rattle.replica_opening.specs.Opening.{IsRefusedAmong}
use Rattle.replica_opening.specs.Readers.{AreReaders}
use Rattle.replica_opening.proofs.Openings.{nothing_found, found_fault}
use Rattle.replica_opening.proofs.Recoveries.{due_among, none_among}
use Rattle.replica_opening.proofs.opening.found_point.Goals as goal

pub returns-in-Ok-None-clause-found : goal.returns-in-Ok-None-clause-found
returns-in-Ok-None-clause-found g c = nothing_found (reads_of (g.D.Dir.cells c.args.dir.now)) c.opening_point.result c.opening_point.ensures (rw c.in-Ok-None.field-0-is at c.in-Ok-None.ensures.found)

pub returns-in-Ok-None-clause-refused : goal.returns-in-Ok-None-clause-refused
returns-in-Ok-None-clause-refused g c due h = absurd (rw c.in-Ok-None.field-0-is at (c.in-Ok-None.ensures.refused due h))

pub returns-in-Ok-clause-refused : goal.returns-in-Ok-clause-refused
returns-in-Ok-clause-refused g c due h =
    let first = rw c.in-Ok-Some.field-0-is at (c.in-Ok-Some.ensures.refused due h) in
    absurd (none_among (reads_of (g.D.Dir.cells c.args.dir.now)) (reads_of (g.D.Dir.cells c.recovered.new.dir)) c.in-Ok-Some.infos.segs due (ap reads_of c.recovered.ensures.cells) first c.in-Ok.ensures.refused)

pub returns-in-Err-committed_point-clause-err : goal.returns-in-Err-committed_point-clause-err
returns-in-Err-committed_point-clause-err g c =
    let whole = rw c.in-Ok-Some.field-0-is at c.in-Ok-Some.ensures.found in
    found_fault (reads_of (g.D.Dir.cells c.args.dir.now)) c.in-Ok-Some.number c.in-Ok-Some.infos c.in-Err-committed_point.fault whole
    (subst (λ (cells : Cells). IsRefusedAmong (reads_of cells) c.in-Ok-Some.infos.segs c.in-Err-committed_point.fault) c.recovered.ensures.cells c.in-Err-committed_point.ensures.err)

pub returns-in-Err-committed_point-clause-refused : goal.returns-in-Err-committed_point-clause-refused
returns-in-Err-committed_point-clause-refused g c due h =
    let first = rw c.in-Ok-Some.field-0-is at (c.in-Ok-Some.ensures.refused due h) in
    due_among (reads_of (g.D.Dir.cells c.args.dir.now)) (reads_of (g.D.Dir.cells c.recovered.new.dir)) c.in-Ok-Some.infos.segs due c.in-Err-committed_point.fault (ap reads_of c.recovered.ensures.cells) first c.in-Err-committed_point.ensures.refused

pub returns-in-Err-committed_point-clause-opens : goal.returns-in-Err-committed_point-clause-opens
returns-in-Err-committed_point-clause-opens g c opens =
    let some = rw c.in-Ok-Some.field-0-is at (c.in-Ok-Some.ensures.opens opens) in
    c.in-Err-committed_point.ensures.opens some.0 (subst (λ (cells : Cells). AreReaders (reads_of cells) c.in-Ok-Some.infos.segs some.0) (sym c.recovered.ensures.cells) some.1)
