use Rattle.disk_model.specs.Disk.{reads_of}
use Rattle.seg_reader.specs.Stands.{StandsFor}
use Rattle.index_check.specs.Checked.{IsCheckFault}
use Rattle.index_check.proofs.Exact.{on_right, if_refused}
use Rattle.index_check.proofs.check.check_dir.Goals as goal

pub returns-clause-stands : goal.returns-clause-stands
returns-clause-stands g c =
    let reads = reads_of (g.D.Dir.cells c.args.dir.now) in
    on_right (StandsFor reads c.args.infos.now c.args.docs.now) (IsCheckFault reads c.args.infos.now c.args.docs.now) c.answer.result c.answer.ensures.exact

pub returns-clause-fault : goal.returns-clause-fault
returns-clause-fault g c =
    let reads = reads_of (g.D.Dir.cells c.args.dir.now) in
    if_refused (λ (_ : Unit {0}). StandsFor reads c.args.infos.now c.args.docs.now) (IsCheckFault reads c.args.infos.now c.args.docs.now) c.answer.result c.answer.ensures.exact

pub returns-clause-each_right : goal.returns-clause-each_right
returns-clause-each_right g c stands = c.answer.ensures.exact.each_value tt stands

pub returns-clause-each_fault : goal.returns-clause-each_fault
returns-clause-each_fault g c fault there = c.answer.ensures.exact.each_fault fault there
