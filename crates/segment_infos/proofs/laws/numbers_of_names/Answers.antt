use Rattle.segment_infos.proofs.CommitLaws.{commits_are, pendings_are}
use Rattle.segment_infos.proofs.laws.numbers_of_names.Goals as goal

pub returns-clause-commits : goal.returns-clause-commits
returns-clause-commits c = commits_are

pub returns-clause-pending : goal.returns-clause-pending
returns-clause-pending c = pendings_are
