use Rattle.std.proofs.Common.{refl}
use Rattle.report_reading.proofs.NameLaws.{no_name}
use Rattle.report_reading.proofs.causes.name.Goals as goal

pub returns-in-Err : goal.returns-in-Err
returns-in-Err c =
    let h = c.in-Err.ensures in
    let none = no_name c.args.word.now c.in-Err.field-0 h.empty.0 (λ n. (h.long n).0) (λ at. (h.byte at).0) in
    rw none refl
