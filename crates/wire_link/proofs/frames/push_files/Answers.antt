use Rattle.wire_link.proofs.CopyLaws.{files_more}
use Rattle.wire_link.proofs.frames.push_files.Goals as goal

pub loop-file-preserved : goal.loop-file-preserved
loop-file-preserved c =
    files_more c.args.files.now c.loop-file.file-index c.file-item.result c.args.out.now.items c.loop-file.out.items c.push_file.new.out.items c.loop-file-test.true c.file-item.is c.loop-file.invariant
    c.in_ok-push_file.ensures
