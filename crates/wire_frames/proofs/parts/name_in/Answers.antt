use Rattle.std.proofs.Common.{refl}
use Rattle.wire_frames.proofs.NameTests.{refused_name}
use Rattle.wire_frames.proofs.parts.name_in.Goals as goal

pub returns-in-Err : goal.returns-in-Err
returns-in-Err c =
    rw (refused_name c.args.text.now c.in-Err.field-0 c.file_name.result c.in-Err.is (λ e. c.file_name.ensures.empty.0 e) (λ n e. ((c.file_name.ensures.long n).0 e).0) (λ at e. ((c.file_name.ensures.byte at).0 e).1)) refl
