use Rattle.body_forms.proofs.FileLaws.{files_one_to_one}
use Rattle.segment_infos.proofs.InfoLaws.{info_one_to_one}
use Rattle.segment_infos.proofs.FileLaws.{info_kind}
use Rattle.segment_infos.proofs.laws.one_info_spelling.Goals as goal

pub returns : goal.returns
returns c = record { body = info_one_to_one; file = λ id. files_one_to_one (info_kind id) }
