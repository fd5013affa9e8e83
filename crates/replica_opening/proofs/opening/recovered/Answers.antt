use Rattle.disk_model.specs.Disk.{reads_of}
use Rattle.replica_opening.specs.Opening.{IsStartCutOff, IsCutOffOr, IsStartFaultOf}
use Rattle.replica_opening.proofs.Recoveries.{recovered_before, refused_before, refused_open, recovered_open, recover_fault}
use Rattle.replica_opening.proofs.opening.recovered.Goals as goal
use Rattle.std.proofs.Common.{subst, sym}

pub returns-in-Ok-clause-refused : goal.returns-in-Ok-clause-refused
returns-in-Ok-clause-refused g c due h =
    let e = c.in-Ok.ensures in
    recovered_before (reads_of (g.D.Dir.cells c.args.dir.now)) c.in-Ok.found due (record { recovers = e.recovers; none = e.none; whole = e.whole; broken = e.broken; gone = e.gone }) h

pub returns-in-Err-clause-err : goal.returns-in-Err-clause-err
returns-in-Err-clause-err g c =
    subst (IsStartFaultOf (reads_of (g.D.Dir.cells c.args.dir.now))) (sym c.start_fault.ensures) (recover_fault (reads_of (g.D.Dir.cells c.args.dir.now)) c.in-Err.fault c.in-Err.ensures.recovers)

pub returns-in-Err-clause-refused : goal.returns-in-Err-clause-refused
returns-in-Err-clause-refused g c due h =
    let e = c.in-Err.ensures in
    subst (IsCutOffOr due) (sym c.start_fault.ensures)
    (refused_before (reads_of (g.D.Dir.cells c.args.dir.now)) c.in-Err.fault due (record { recovers = e.recovers; none = e.none; whole = e.whole; broken = e.broken; gone = e.gone }) h)

pub returns-in-Ok-clause-opens : goal.returns-in-Ok-clause-opens
returns-in-Ok-clause-opens g c opens =
    let e = c.in-Ok.ensures in
    recovered_open (reads_of (g.D.Dir.cells c.args.dir.now)) c.in-Ok.found (record { recovers = e.recovers; none = e.none; whole = e.whole; broken = e.broken; gone = e.gone }) opens

pub returns-in-Err-clause-opens : goal.returns-in-Err-clause-opens
returns-in-Err-clause-opens g c opens =
    let e = c.in-Err.ensures in
    subst IsStartCutOff (sym c.start_fault.ensures)
    (refused_open (reads_of (g.D.Dir.cells c.args.dir.now)) c.in-Err.fault (record { recovers = e.recovers; none = e.none; whole = e.whole; broken = e.broken; gone = e.gone }) opens)
