use Rattle.std.proofs.Common.{eqb-true}
use Rattle.codec_frame.proofs.Fields.{string_test, string_refused}
use Rattle.codec_frame.proofs.checking.has_string.Goals as goal

pub returns-then-bytes-at : goal.returns-then-bytes-at
returns-then-bytes-at c = string_test c.args.bytes.now c.args.text.now c.args.at _ c.requires c.if-bytes-at.true c.eq.ensures

pub returns-else-bytes-at : goal.returns-else-bytes-at
returns-else-bytes-at c =
    (λ yes. absurd (c.if-bytes-at.false (eqb-true _ _ yes)), λ same. absurd (string_refused c.args.bytes.now c.args.text.now c.args.at c.requires c.if-bytes-at.false same))
