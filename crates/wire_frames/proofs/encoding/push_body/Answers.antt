use Rattle.std.proofs.Common.{◌≡◌, ◌++◌, sym, ap, ◌∙◌}
use Rattle.body_forms.specs.Numbers.{string}
use Rattle.wire_frames.specs.Wire.{meta_bytes, message_body}
use Rattle.wire_frames.proofs.MessageLaws.{two_put}
use Rattle.wire_frames.proofs.encoding.push_body.Goals as goal

pub returns-in_ok-push_meta-in-File-clause-ok : goal.returns-in_ok-push_meta-in-File-clause-ok
unfolding message_body
returns-in_ok-push_meta-in-File-clause-ok c =
    let old = c.args.out.now.items in
    let meta = c.in-File.meta in
    two_put old (string c.as_slice-in-File.result.now) (meta_bytes meta) _ _ c.in_ok-push_string-in-File.ensures c.in_ok-push_meta-in-File.ensures.ok
    ∙ ap (λ t. old ++ (string t ++ meta_bytes meta)) c.as_slice-in-File.ensures.bytes
    ∙ ap (λ m. old ++ message_body m) (sym c.in-File.is)
