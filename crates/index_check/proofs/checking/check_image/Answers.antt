use Rattle.index_check.proofs.Images.{not_said, said_of, nothing_else}
use Rattle.index_check.proofs.checking.check_image.Goals as goal

pub check_files-requires : goal.check_files-requires
check_files-requires c = c.in-Ok.ensures.files.ascending

pub returns-in-Err-clause-each_check : goal.returns-in-Err-clause-each_check
returns-in-Err-clause-each_check c checked is = not_said c.args.bytes.now c.in-Err.fault c.in-Err.ensures.each_image checked is

pub returns-in-Ok-check_files-clause-checked : goal.returns-in-Ok-check_files-clause-checked
returns-in-Ok-check_files-clause-checked c = said_of c.args.bytes.now c.in-Ok.files.items c.in-Ok-check_files.checked c.in-Ok.ensures.files c.in-Ok-check_files.ensures

pub returns-in-Ok-check_files-clause-each_check : goal.returns-in-Ok-check_files-clause-each_check
returns-in-Ok-check_files-clause-each_check c other is = nothing_else c.args.bytes.now c.in-Ok.files c.in-Ok.ensures.each_image c.in-Ok-check_files.checked c.in-Ok-check_files.ensures other is

pub returns-in-Ok-check_files-clause-each_body : goal.returns-in-Ok-check_files-clause-each_body
returns-in-Ok-check_files-clause-each_body c none = absurd (none c.in-Ok.files.items c.in-Ok.ensures.files)
