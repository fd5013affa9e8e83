use Rattle.segment_infos.proofs.SetLaws.{one_list_of}
use Rattle.segment_infos.proofs.laws.one_list_of_files.Goals as goal

pub returns : goal.returns
returns c = one_list_of
