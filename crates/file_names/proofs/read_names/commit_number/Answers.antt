use Rattle.file_names.proofs.NameReading.{number_found, none_large, none_small, none_spelled}
use Rattle.file_names.proofs.read_names.commit_number.Goals as goal

pub returns-in-Ok-clause-number : goal.returns-in-Ok-clause-number
returns-in-Ok-clause-number c = number_found c.args.digits.now c.read_base36.result c.in-Ok.n c.read_base36.ensures.number c.in-Ok.is c.if-n-gt0.true c.if-n-lt-COMMIT_NUMBERS.true

pub returns-in_default-clause-number : goal.returns-in_default-clause-number
returns-in_default-clause-number c = none_large c.args.digits.now c.read_base36.result c.in-Ok.n c.read_base36.ensures.number c.in-Ok.is c.if-n-lt-COMMIT_NUMBERS.false

pub returns-in_default-2-clause-number : goal.returns-in_default-2-clause-number
returns-in_default-2-clause-number c = none_small c.args.digits.now c.read_base36.result c.in-Ok.n c.read_base36.ensures.number c.in-Ok.is c.if-n-gt0.false

pub returns-in_default-3-clause-number : goal.returns-in_default-3-clause-number
returns-in_default-3-clause-number c = none_spelled c.args.digits.now c.read_base36.result c.in_default.field-0 c.read_base36.ensures.number c.in_default.is
