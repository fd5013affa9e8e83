use Rattle.file_names.proofs.NameReading.{spelled_is, spelled_found, spelled_not_refused}
use Rattle.trans_log.proofs.names.spelled.Goals as goal

pub returns-in-Ok-clause-some : goal.returns-in-Ok-clause-some
returns-in-Ok-clause-some c = spelled_is c.args.digits.now c.read_base36.result c.in-Ok.n c.read_base36.ensures.number c.in-Ok.is

pub returns-in-Ok-clause-all : goal.returns-in-Ok-clause-all
returns-in-Ok-clause-all c = λ n low e. spelled_found c.args.digits.now c.read_base36.result c.in-Ok.n n c.read_base36.ensures.number c.in-Ok.is low e

pub returns-in-Err-clause-all : goal.returns-in-Err-clause-all
returns-in-Err-clause-all c = λ n low e. absurd (spelled_not_refused c.args.digits.now c.read_base36.result c.in-Err.field-0 n c.read_base36.ensures.number c.in-Err.is low e)
