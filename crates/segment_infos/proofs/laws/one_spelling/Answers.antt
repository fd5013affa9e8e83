use Rattle.segment_infos.proofs.BodyLaws.{infos_one_to_one}
use Rattle.segment_infos.proofs.FileLaws.{infos_files_one_to_one}
use Rattle.segment_infos.proofs.laws.one_spelling.Goals as goal

pub returns : goal.returns
returns c = record { body = infos_one_to_one; file = infos_files_one_to_one }
