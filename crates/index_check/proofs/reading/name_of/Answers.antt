use Rattle.std.proofs.Common.{Err, ap, refl}
use Rattle.index_check.proofs.NameTests.{refused}
use Rattle.index_check.proofs.reading.name_of.Goals as goal

pub returns-in-Err : goal.returns-in-Err
returns-in-Err c =
    let h = c.in-Err.ensures in
    let none = refused c.args.bytes.now c.in-Err.field-0 (λ e. h.empty.0 (ap Err e)) (λ n e. ((h.long n).0 (ap Err e)).0) (λ at e. ((h.byte at).0 (ap Err e)).1) in
    rw none refl
