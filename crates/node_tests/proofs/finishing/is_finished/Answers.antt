use Rattle.disk_model.specs.Disk.{reads_of}
use Rattle.node_tests.proofs.finishing.is_finished.Goals as goal

pub finish-requires : goal.finish-requires
finish-requires g c = c.stop_at.ensures.sourced (reads_of (g.S.Dir.cells c.copy_files.new.source)) c.in_ok-copy_files.ensures.sourced
