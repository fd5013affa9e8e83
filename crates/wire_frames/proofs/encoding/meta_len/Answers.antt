use Rattle.std.proofs.Common.{◌≡◌, ◌+◌, ◌++◌, length, length-append, refl, ap, ◌∙◌, arith}
use Rattle.body_forms.specs.Numbers.{u64_bytes, string}
use Rattle.wire_frames.specs.Wire.{meta_bytes}
use Rattle.wire_frames.proofs.encoding.meta_len.Goals as goal

pub returns-clause-size : goal.returns-clause-size
returns-clause-size c =
    let meta = c.args.meta.now in
    let numbers = u64_bytes meta.length ++ u64_bytes meta.checksum in
    let a : length (meta_bytes meta) ≡ length (string meta.header) + length (meta.footer ++ numbers) = length-append (string meta.header) (meta.footer ++ numbers) in
    let b = length-append meta.footer numbers in
    let n : length numbers ≡ 16 = refl in
    let footer = c.is_footer.ensures in
    let header : c.string_len.result ≡ length (string meta.header) = c.string_len.ensures.size ∙ ap (λ t. length (string t)) c.as_slice.ensures.bytes in
    omega (arith, a, b, n, footer, header)
