use Rattle.replica_node.proofs.Lasting.{file_lasts}
use Rattle.replica_node.proofs.laws.files_last.Goals as goal

pub returns : goal.returns
returns c infos names are q named = file_lasts infos q named names are
