use Rattle.seg_build.proofs.Records.{live_file_there}
use Rattle.seg_build.proofs.contents.live_file.Goals as goal

pub returns-clause-rows : goal.returns-clause-rows
returns-clause-rows c = live_file_there c.args.segment.now c.args.live.now c.args.id.now c.in_ok-file.file c.requires.id c.requires.live c.in_ok-file.ensures
