use Rattle.segment_infos.proofs.SetLaws.{files_plain}
use Rattle.segment_infos.proofs.laws.files_are_no_commits.Goals as goal

pub returns : goal.returns
returns c = files_plain
