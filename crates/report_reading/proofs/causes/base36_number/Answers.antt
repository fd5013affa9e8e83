use Rattle.std.proofs.Common.{Ok, Err, refl, sym}
use Rattle.report_reading.proofs.NameLaws.{base36_number, no_base36_number}
use Rattle.report_reading.proofs.causes.base36_number.Goals as goal

pub returns-in-Ok : goal.returns-in-Ok
returns-in-Ok c = sym (base36_number c.args.digits.now (Ok c.in-Ok.n) c.in-Ok.ensures.number c.in-Ok.n refl)

pub returns-in-Err : goal.returns-in-Err
returns-in-Err c = sym (no_base36_number c.args.digits.now (Err c.in-Err.field-0) c.in-Err.ensures.number c.in-Err.field-0 refl)
