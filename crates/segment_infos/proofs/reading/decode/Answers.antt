use Rattle.segment_infos.proofs.FileLaws.{each_infos, each_body}
use Rattle.segment_infos.proofs.reading.decode.Goals as goal

pub returns-clause-each_value : goal.returns-clause-each_value
returns-clause-each_value c = each_infos c.args.bytes.now c.answer.result c.answer.ensures

pub returns-clause-each_body : goal.returns-clause-each_body
returns-clause-each_body c = each_body c.args.bytes.now c.answer.result c.answer.ensures
