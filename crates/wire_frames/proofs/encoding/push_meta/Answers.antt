use Rattle.std.proofs.Common.{◌≡◌, ◌++◌, ap, ◌∙◌}
use Rattle.body_forms.specs.Numbers.{u64_bytes, string}
use Rattle.wire_frames.proofs.MessageLaws.{four_put}
use Rattle.wire_frames.proofs.encoding.push_meta.Goals as goal

pub returns-clause-ok : goal.returns-clause-ok
returns-clause-ok c =
    let meta = c.args.meta.now in
    let old = c.args.out.now.items in
    four_put old (string c.as_slice.result.now) meta.footer (u64_bytes meta.length) (u64_bytes meta.checksum) _ _ _ _ c.in_ok-push_string.ensures c.in_ok-extend_from_slice.ensures.items c.in_ok-push_u64.ensures.ok c.in_ok-push_u64-2.ensures.ok
    ∙ ap (λ t. old ++ (string t ++ (meta.footer ++ (u64_bytes meta.length ++ u64_bytes meta.checksum)))) c.as_slice.ensures.bytes
