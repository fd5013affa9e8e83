use Rattle.std.proofs.Common.{◌≡◌, ◌∙◌, ap, arith, Some, None, Err}
use Rattle.codec_frame.specs.Bytes.{AreBytes}
use Rattle.copy_state.specs.Meta.{meta_fault}
use Rattle.copy_state.proofs.MetaLaws.{framed_readable}
use Rattle.index_primary.proofs.states.meta_told.Goals as goal

pub unreachable-requires : goal.unreachable-requires
unreachable-requires c =
    let f = c.requires in
    let fits : AreBytes c.args.bytes.now = λ i. omega (arith, c.type_inv.bytes i) in
    let none : meta_fault c.args.bytes.now ≡ None = framed_readable f.want f.version f.id f.body c.args.bytes.now f.small f.short_name f.short_suffix fits f.framed in
    let some : meta_fault c.args.bytes.now ≡ Some c.in-Err-Frame.field-0-0 = (c.read_meta.ensures.fault c.in-Err-Frame.field-0-0).0 (c.in-Err-Frame.is ∙ ap Err c.in-Err-Frame.field-0-is) in
    cc
