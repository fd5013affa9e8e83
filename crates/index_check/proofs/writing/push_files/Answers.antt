use Rattle.index_check.proofs.Format.{one_more}
use Rattle.index_check.proofs.writing.push_files.Goals as goal

pub loop-file-preserved : goal.loop-file-preserved
loop-file-preserved c =
    let e = c.in_ok-push_file.ensures in
    let k = one_more c.args.files.now c.loop-file.file-index c.file-item.result c.args.out.now.items c.loop-file.out.items c.push_file.new.out.items c.loop-file-test.true c.file-item.is e.bytes e.fits c.loop-file.invariant.bytes
    c.loop-file.invariant.fit in
    record { bytes = k.0; fit = k.1 }
